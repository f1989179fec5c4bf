-- Value lists as data: each symbol has its number, by rising equation and then unknown.
use Rattle.std.proofs.Common.{◌≡◌, ℕ, zero, suc, ◌+◌, ◌-◌, ◌%◌, ◌<◌, ◌≤◌, Bool, true, false, cond, List, [], ◌∷◌}
use Rattle.std.proofs.Common.{length, slice_index_or, ◌⊎◌, inl, inr, refl, ap, sym, subst, ◌∙◌, arith}
use Rattle.std.proofs.lemmas.List.{ext_get_or}
use Rattle.residue_theory.proofs.SetLaws.{lt_cases}
use Rattle.residue_theory.proofs.SumLaws.{nat_cases}
use Rattle.residue_theory.specs.Residues.{IsPrime}
use Rattle.residue_theory.specs.Sums.{size_on, sum_below}
use Rattle.mixed_matrices.specs.Models.{MixedMatrix}
use Rattle.mixed_layering_laws.proofs.Members.{size-later}
use Rattle.mixed_layering_laws.specs.LayeredValues.{IsOneOrTwo}
use Rattle.value_list_laws.proofs.FixedRanks.{same-reaches}
use Rattle.value_list_laws.proofs.Lists.{first-same, one-first}
use Rattle.value_list_laws.proofs.Places.{before-cases, before-column, before-row}
use Rattle.value_list_laws.specs.FixedSymbols.{IsSymbolPlace, ReachesRank}
use Rattle.value_list_laws.specs.ListedValues.{IsFirstReachingList, IsReachingList, ListComesBefore, values_of}
use Rattle.value_list_laws.specs.ListedValues.{symbol_count, symbols_before}
use Rattle.value_list_laws.specs.ValueLists.{ComesBefore, IsFirstList, IsValueList, before}

-- ---- a list of n items
tabulated : ℕ → (ℕ → ℕ) → List ℕ
tabulated zero f = []
tabulated (suc n) f = f 0 ∷ tabulated n (λ k. f (suc k))

tabulated-length : (n : ℕ) (f : ℕ → ℕ) → length (tabulated n f) ≡ n
unfolding tabulated
tabulated-length zero f = refl
tabulated-length (suc n) f = ap suc (tabulated-length n (λ k. f (suc k)))

tabulated-at : (n : ℕ) (f : ℕ → ℕ) (h : ℕ) → h < n → slice_index_or (tabulated n f) h 0 ≡ f h
unfolding tabulated
tabulated-at zero f h l = absurd (omega arith)
tabulated-at (suc n) f zero l = refl
tabulated-at (suc n) f (suc h) l = tabulated-at n (λ k. f (suc k)) h (omega arith)

-- ---- sums up to a later place
sum-rises : (f : ℕ → ℕ) (a b : ℕ) → a ≤ b → sum_below a f ≤ sum_below b f
sum-rises f a zero le = subst (λ k. sum_below k f ≤ 0) (let q : 0 ≡ a = omega arith in q) (omega arith)
sum-rises f a (suc b) le = elim (nat_cases a (suc b)) [
  | inl q ↦ subst (λ k. sum_below k f ≤ sum_below (suc b) f) (sym q) (omega arith)
  | inr ne ↦ omega (arith, sum-rises f a b (omega arith))
]

-- the member of a set with h members before it
member_with : (A : ℕ → Bool) (n h : ℕ) → h < size_on A n → (j : ℕ) × (j < n) × (A j ≡ true) × (size_on A j ≡ h)
member_with A zero h l = absurd (omega arith)
member_with A (suc n) h l = go (A n) refl (lt_cases h (size_on A n)) (λ less. member_with A n h less)
  where
    go : (b : Bool) → A n ≡ b → (h < size_on A n) ⊎ (size_on A n ≤ h) →
        (h < size_on A n → (j : ℕ) × (j < n) × (A j ≡ true) × (size_on A j ≡ h)) →
        (j : ℕ) × (j < suc n) × (A j ≡ true) × (size_on A j ≡ h)
    go b e (inl less) ih = wider (ih less)
      where
        wider : (j : ℕ) × (j < n) × (A j ≡ true) × (size_on A j ≡ h) → (j : ℕ) × (j < suc n) × (A j ≡ true) × (size_on A j ≡ h)
        wider (j, jl, jh, q) = (j, omega arith, jh, q)
    go true e (inr more) ih = (n, omega arith, e, last (cond (A n) 1 0) (ap (λ b. cond b 1 0) e) l more)
      where
        last : (c : ℕ) → c ≡ 1 → h < size_on A n + c → size_on A n ≤ h → size_on A n ≡ h
        last c q a b = omega arith
    go false e (inr more) ih = absurd (above (cond (A n) 1 0) (ap (λ b. cond b 1 0) e) l more)
      where
        above : (c : ℕ) → c ≡ 0 → h < size_on A n + c → size_on A n ≤ h → ⊥
        above c q a b = omega arith

module _ (M : MixedMatrix) where
  abbrev in_row : ℕ → ℕ
  in_row k = size_on (M.symbol k) M.columns

  abbrev number : ℕ → ℕ → ℕ
  number i j = symbols_before M i j

  number-row : (i j : ℕ) → IsSymbolPlace M i j → number i j < sum_below (suc i) in_row
  number-row i j at = omega (arith, size-later (M.symbol i) j M.columns at.1 at.2)

  pub number-below : (i j : ℕ) → IsSymbolPlace M i j → number i j < symbol_count M
  number-below i j at = omega (arith, number-row i j at, sum-rises in_row (suc i) M.rows (omega (arith, at.0)))

  -- earlier places have smaller numbers
  pub number-before : (i j k l : ℕ) → IsSymbolPlace M k l → before i j k l ≡ true → number k l < number i j
  number-before i j k l at h = elim (before-cases i j k l h) [
    | inl less ↦ omega (arith, number-row k l at, sum-rises in_row (suc k) i (omega arith))
    | inr q ↦ subst (λ x. number k l < number x j) q.0 (omega (arith, size-later (M.symbol k) l j q.1 at.2))
  ]

  -- of two places one is before the other
  compared : (i j k l : ℕ) → (before i j k l ≡ true) ⊎ ((before k l i j ≡ true) ⊎ ((k ≡ i) × (l ≡ j)))
  compared i j k l = elim (lt_cases k i) [
    | inl less ↦ inl (before-row i j k l less)
    | inr ge ↦ elim (lt_cases i k) [
      | inl more ↦ inr (inl (before-row k l i j more))
      | inr le ↦ elim (lt_cases l j) [
        | inl less ↦ inl (before-column i j k l (omega arith) less)
        | inr right ↦ elim (lt_cases j l) [
          | inl more ↦ inr (inl (before-column k l i j (omega arith) more))
          | inr left ↦ inr (inr (omega arith, omega arith))
        ]
      ]
    ]
  ]

  pub before-number : (i j k l : ℕ) → IsSymbolPlace M i j → number k l < number i j → before i j k l ≡ true
  before-number i j k l at less = elim (compared i j k l) [
    | inl h ↦ h
    | inr o ↦ elim o [
      | inl h ↦ absurd (omega (arith, number-before k l i j at h))
      | inr q ↦ absurd (let e : number k l ≡ number i j = ap (λ x. number x l) q.0 ∙ ap (λ y. number i y) q.1 in omega arith)
    ]
  ]

  -- two places with one number are the same
  place-same : (i j k l : ℕ) → IsSymbolPlace M i j → IsSymbolPlace M k l → number k l ≡ number i j → (k ≡ i) × (l ≡ j)
  place-same i j k l at there same = elim (compared i j k l) [
    | inl h ↦ absurd (omega (arith, number-before i j k l there h))
    | inr o ↦ elim o [
      | inl h ↦ absurd (omega (arith, number-before k l i j at h))
      | inr q ↦ q
    ]
  ]

  -- each number below the count is that of a symbol
  record HasNumber (h : ℕ) : Type 0 where
    i : ℕ
    j : ℕ
    at : IsSymbolPlace M i j
    is : number i j ≡ h

  numbered_below : (R : ℕ) → R ≤ M.rows → (h : ℕ) → h < sum_below R in_row → HasNumber h
  numbered_below zero le h l = absurd (omega arith)
  numbered_below (suc R) le h l = go (lt_cases h (sum_below R in_row)) (λ less. numbered_below R (omega arith) h less)
    where
      go : (h < sum_below R in_row) ⊎ (sum_below R in_row ≤ h) → (h < sum_below R in_row → HasNumber h) → HasNumber h
      go (inl less) ih = ih less
      go (inr more) ih = here (member_with (M.symbol R) M.columns (h - sum_below R in_row) (omega arith))
        where
          here : (j : ℕ) × (j < M.columns) × (M.symbol R j ≡ true) × (size_on (M.symbol R) j ≡ h - sum_below R in_row) → HasNumber h
          here (j, jl, jh, q) = record { i = R; j = j; at = (omega arith, jl, jh); is = omega arith }

  numbered : (h : ℕ) → h < symbol_count M → HasNumber h
  numbered h l = numbered_below M.rows (omega arith) h l

  -- the list of the values of v
  item_in : (ℕ → ℕ → ℕ) → (h : ℕ) → (h < symbol_count M) ⊎ (symbol_count M ≤ h) → ℕ
  item_in v h (inl l) = v (numbered h l).i (numbered h l).j
  item_in v h (inr g) = 0

  item : (ℕ → ℕ → ℕ) → ℕ → ℕ
  item v h = item_in v h (lt_cases h (symbol_count M))

  item-is : (v : ℕ → ℕ → ℕ) (i j : ℕ) → IsSymbolPlace M i j → item v (number i j) ≡ v i j
  unfolding item item_in
  item-is v i j at = go (lt_cases (number i j) (symbol_count M))
    where
      go : (d : (number i j < symbol_count M) ⊎ (symbol_count M ≤ number i j)) → item_in v (number i j) d ≡ v i j
      go (inl l) = same (numbered (number i j) l)
        where
          same : (N : HasNumber (number i j)) → v N.i N.j ≡ v i j
          same N = go_on (place-same i j N.i N.j at N.at N.is)
            where
              go_on : (N.i ≡ i) × (N.j ≡ j) → v N.i N.j ≡ v i j
              go_on q = ap (λ x. v x N.j) q.0 ∙ ap (λ y. v i y) q.1
      go (inr g) = absurd (omega (arith, number-below i j at))

  list_of : (ℕ → ℕ → ℕ) → List ℕ
  list_of v = tabulated (symbol_count M) (item v)

  list_of-length : (v : ℕ → ℕ → ℕ) → length (list_of v) ≡ symbol_count M
  unfolding list_of
  list_of-length v = tabulated-length (symbol_count M) (item v)

  list_of-values_of : (v : ℕ → ℕ → ℕ) (i j : ℕ) → IsSymbolPlace M i j → values_of M (list_of v) i j ≡ v i j
  unfolding list_of
  list_of-values_of v i j at = tabulated-at (symbol_count M) (item v) (number i j) (number-below i j at) ∙ item-is v i j at

  -- what holds of the values at the symbols holds of the items
  items : (list : List ℕ) (P : ℕ → Type 0) → ((i j : ℕ) → IsSymbolPlace M i j → P (values_of M list i j)) →
      (h : ℕ) → h < symbol_count M → P (slice_index_or list h 0)
  items list P each h l = go (numbered h l)
    where
      go : HasNumber h → P (slice_index_or list h 0)
      go N = subst (λ k. P (slice_index_or list k 0)) N.is (each N.i N.j N.at)

module _ (p : ℕ) (prime : IsPrime p) (M : MixedMatrix) where
  reaching : (list : List ℕ) → length list ≡ symbol_count M → IsValueList M (values_of M list) → ReachesRank p M (values_of M list) → IsReachingList p M list
  reaching list size small reaches = record { length = size; small = items M list IsOneOrTwo small; reaches = reaches }

  reaching-small : (list : List ℕ) → IsReachingList p M list → IsValueList M (values_of M list)
  reaching-small list R i j at = R.small (symbols_before M i j) (number-below M i j at)

  -- ---- the order of the lists is that of their values
  pub to-answer : (list : List ℕ) → length list ≡ symbol_count M → IsFirstList p M (values_of M list) → IsFirstReachingList p M list
  to-answer list size F = record { reaching = reaching list size F.list F.reaches; first = none }
    where
      none : (other : List ℕ) → IsReachingList p M other → ListComesBefore other list → ⊥
      none other R (h, l, lower, same) = go (numbered M h (omega (arith, size)))
        where
          go : HasNumber M h → ⊥
          go N = F.first (values_of M other) (reaching-small other R) R.reaches (
            N.i,
            N.j,
            N.at,
            subst (λ k. slice_index_or other k 0 < slice_index_or list k 0) (sym N.is) lower,
            λ k l at b. same (symbols_before M k l) (omega (arith, number-before M N.i N.j k l at b, N.is)),
          )

  pub of-answer : (list : List ℕ) → IsFirstReachingList p M list → IsFirstList p M (values_of M list)
  of-answer list A = record { list = reaching-small list A.reaching; reaches = A.reaching.reaches; first = none }
    where
      none : (u : ℕ → ℕ → ℕ) → IsValueList M u → ReachesRank p M u → ComesBefore M u (values_of M list) → ⊥
      none u small reaches (i, j, here, lower, same) = A.first (list_of M u)
          (reaching (list_of M u) (list_of-length M u)
          (λ k l at. subst IsOneOrTwo (sym (list_of-values_of M u k l at)) (small k l at))
          (same-reaches p M u (values_of M (list_of M u)) (λ k l at. ap (λ x. x % p) (sym (list_of-values_of M u k l at))) reaches)) (
            symbols_before M i j,
            omega (arith, number-below M i j here, A.reaching.length),
            subst (λ x. x < values_of M list i j) (sym (list_of-values_of M u i j here)) lower,
            earlier,
          )
        where
          earlier : (g : ℕ) → g < symbols_before M i j → slice_index_or (list_of M u) g 0 ≡ slice_index_or list g 0
          earlier g l = go (numbered M g (omega (arith, number-below M i j here)))
            where
              go : HasNumber M g → slice_index_or (list_of M u) g 0 ≡ slice_index_or list g 0
              go N = subst (λ k. slice_index_or (list_of M u) k 0 ≡ slice_index_or list k 0) N.is
                  (list_of-values_of M u N.i N.j N.at ∙ same N.i N.j N.at (before-number M i j N.i N.j here (omega (arith, N.is))))

  -- ---- there is one
  pub first-moved : (u v : ℕ → ℕ → ℕ) → ((i j : ℕ) → IsSymbolPlace M i j → u i j ≡ v i j) → IsFirstList p M u → IsFirstList p M v
  first-moved u v same F = record {
    list = λ i j at. subst IsOneOrTwo (same i j at) (F.list i j at);
    reaches = same-reaches p M u v (λ i j at. ap (λ x. x % p) (same i j at)) F.reaches;
    first = λ w small reaches (i, j, at, lower, before). F.first w small reaches (
      i,
      j,
      at,
      subst (λ x. w i j < x) (sym (same i j at)) lower,
      λ k l there h. before k l there h ∙ sym (same k l there),
    );
  }

  answers-same : (list other : List ℕ) → IsFirstReachingList p M list → IsFirstReachingList p M other → other ≡ list
  answers-same list other A B = ext_get_or 0 other list (B.reaching.length ∙ sym A.reaching.length)
      (λ h l. go h (numbered M h (omega (arith, B.reaching.length))))
    where
      go : (h : ℕ) → HasNumber M h → slice_index_or other h 0 ≡ slice_index_or list h 0
      go h N = subst (λ k. slice_index_or other k 0 ≡ slice_index_or list k 0) N.is
          (first-same p prime M (values_of M other) (values_of M list) (of-answer other B) (of-answer list A) N.i N.j N.at)

  pub one-answer : (list : List ℕ) × IsFirstReachingList p M list × ((other : List ℕ) → IsFirstReachingList p M other → other ≡ list)
  one-answer = go (one-first p prime M)
    where
      go : (v : ℕ → ℕ → ℕ) × IsFirstList p M v × ((u : ℕ → ℕ → ℕ) → IsFirstList p M u → (i j : ℕ) → IsSymbolPlace M i j → u i j ≡ v i j) →
          (list : List ℕ) × IsFirstReachingList p M list × ((other : List ℕ) → IsFirstReachingList p M other → other ≡ list)
      go (v, F, _) = found (to-answer (list_of M v) (list_of-length M v)
          (first-moved v (values_of M (list_of M v)) (λ i j at. sym (list_of-values_of M v i j at)) F))
        where
          found : IsFirstReachingList p M (list_of M v) →
              (list : List ℕ) × IsFirstReachingList p M list × ((other : List ℕ) → IsFirstReachingList p M other → other ≡ list)
          found A = (list_of M v, A, λ other B. answers-same (list_of M v) other A B)
