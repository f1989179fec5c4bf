-- Rows by their places, and what is read of them.
use Rattle.std.proofs.Common.{◌≡◌, ◌≢◌, ℕ, zero, suc, ◌+◌, ◌-◌, ◌%◌, ◌<◌, ◌≤◌, Bool, true, false, not, eqb, ltb, ◌&&◌, ◌||◌, ◌⊎◌, inl, inr}
use Rattle.std.proofs.Common.{Option, Some, None, IfSome, IfNone, is_some, List, [], ◌∷◌, ◌++◌, length, get_or, replicate}
use Rattle.std.proofs.Common.{refl, ap, sym, subst, ◌∙◌, arith}
use Rattle.std.proofs.Math.Nat.{mod-eq_of_lt, zero-mod}
use Rattle.std.proofs.lemmas.Bool.{ltb-true, ltb-false}
use Rattle.std.proofs.lemmas.List.{get_or-replicate, get_or_past, length-replicate}
use Rattle.std.proofs.lemmas.Bool.Decides.{nat_tests}
use Rattle.std.specs.List.{All}
use Rattle.std.specs.List.Sorted.{IsNonDecreasingBy, IsPartitionPoint, IsStrictlyIncreasing}
use Rattle.residue_theory.proofs.SetLaws.{both_true, differ, eqb_true, lt_cases}
use Rattle.residue_theory.proofs.SumLaws.{nat_cases}
use Rattle.residue_theory.specs.Ranges.{HasNone, IsLeast}
use Rattle.residue_theory.specs.Sets.{has}
use Rattle.dense_q.specs.Tables.{entry}
use Rattle.sparse_t.specs.Lists.{AreAllBelow}
use Rattle.sparse_t.proofs.ListLaws.{has-append, has-at, has-none, rises, rising-append}
use Rattle.bipartite_matching.specs.Matchings.{HasPair, IsMatching, IsRowFree, Matching}
use Rattle.bipartite_matching.proofs.MateLaws.{matched-pair, pair-matched}
use Rattle.row_transform.specs.Tableaus.{IsBare, IsBaseColumn, TableauState, has_entry_of}
use Rattle.row_transform.specs.declared.tableau.Which.TheVariants.{P}
use Rattle.mixed_matrices.specs.LayeredMatrices.{LayeredMatrix}
use Rattle.mixed_matrices.specs.Tableaus.{Tableau}
use Rattle.mixed_model.specs.Layers.{AreLayers, Layers, layered_matrix_of}
use Rattle.mixed_layering.specs.Columns.{StandsIn}
use Rattle.independent_matching.specs.Engines.{layers}
use Rattle.independent_matching.specs.Sides.{layers_of, tableau_of_pair}
use Rattle.row_choice_laws.specs.RowSearches.{has_row_entry, is_bare_row, places}
use Rattle.row_choice_laws.proofs.OwnTableaus.{less-test, pick}
use Rattle.row_choice_laws.proofs.RowPlaces.{bare-or_column, column-not_bare, column-q, column-t, q-column, t-column}
use Rattle.equation_choice.specs.Choosers.{AreRowsIn, first_place}
use Rattle.equation_choice.specs.Lists.{AreMarkedBelow}
use Rattle.equation_choice.proofs.ArcLaws.{same_some}

some_is_no_none : (a : ℕ) → None ≡ Some a → ⊥
some_is_no_none a e = cc

-- ---- the first row of an equation is one of the rows
pub first-below : (l : Layers) → AreLayers l → (S : TableauState) (M : Matching) → layers (entry l.q) S M ≡ layered_matrix_of l →
    (e : ℕ) (q t z : Option ℕ) → AreRowsIn l e q t z → (s : ℕ) → first_place S.rows q t ≡ Some s → s < places (layers_of S M)
first-below l are S M same e q t z rows s first = go q refl t refl
  where
    q_count : length l.q_origins ≡ S.rows
    q_count = are.q_origins ∙ sym (ap (λ (X : LayeredMatrix). X.q_rows) same)

    t_count : length l.t_origins ≡ length M.pattern.rows
    t_count = are.t_origins ∙ sym (ap (λ (X : LayeredMatrix). X.t_rows) same)

    go : (a : Option ℕ) → q ≡ a → (b : Option ℕ) → t ≡ b → s < S.rows + length M.pattern.rows
    go (Some i) h b g = let at : StandsIn l.q_origins e i = subst (λ o. IfSome o (λ i. StandsIn l.q_origins e i)) h rows.q_some in
        omega (arith, at.within, q_count, same_some i s (sym (ap (λ a. first_place S.rows a t) h) ∙ first))
    go None h (Some d) g = let at : StandsIn l.t_origins e d = subst (λ o. IfSome o (λ i. StandsIn l.t_origins e i)) g rows.t_some in
        omega (arith, at.within, t_count, same_some (S.rows + d) s (sym (ap (λ a. first_place S.rows a t) h ∙ ap (λ b. first_place S.rows None b) g) ∙ first))
    go None h None g = absurd (some_is_no_none s (sym (ap (λ a. first_place S.rows a t) h ∙ ap (λ b. first_place S.rows None b) g) ∙ first))

-- ---- whether a row has a column
module _ (p : ℕ) (S : TableauState) (M : Matching) where
  abbrev L : LayeredMatrix
  L = layers_of S M

  abbrev F : Tableau
  F = tableau_of_pair S M

  pub bare-q : (row : ℕ) → row < S.rows → (o : Option ℕ) → IfNone o (IsBare S row) → IfSome o (λ y. IsBaseColumn S row y) →
      not (is_some o) ≡ is_bare_row L F row
  bare-q row l None none some = elim (bare-or_column p L F row) [
    | inl b ↦ sym b
    | inr (y, yl, c) ↦ let (b, e) = column-q p L F row y l c in absurd (none y yl b e)
  ]
  bare-q row l (Some y) none some = sym (column-not_bare p L F row y some.below (q-column p L F row y l some.member some.at_row))

  pub bare-t : IsMatching M → M.pattern.width ≡ S.columns → (row : ℕ) → S.rows ≤ row → (o : Option ℕ) → IfNone o (IsRowFree M (row - S.rows)) →
      IfSome o (λ y. HasPair M (row - S.rows) y) → not (is_some o) ≡ is_bare_row L F row
  bare-t matching width row g o none some = subst (λ r. not (is_some o) ≡ is_bare_row L F r) place (at o none some)
    where
      place : S.rows + (row - S.rows) ≡ row
      place = omega (arith, g)

      at : (o : Option ℕ) → IfNone o (IsRowFree M (row - S.rows)) → IfSome o (λ y. HasPair M (row - S.rows) y) →
          not (is_some o) ≡ is_bare_row L F (S.rows + (row - S.rows))
      at None none some = elim (bare-or_column p L F (S.rows + (row - S.rows))) [
        | inl b ↦ sym b
        | inr (y, yl, c) ↦ let (m, e) = column-t p L F (row - S.rows) y c in
            absurd (none y (subst (λ r. HasPair M r y) e (matched-pair M y m)))
      ]
      at (Some y) none some = let (m, e) = pair-matched M (row - S.rows) y some in
          sym (column-not_bare p L F (S.rows + (row - S.rows)) y (omega (arith, width, matching.column (row - S.rows) y some))
          (t-column p L F (row - S.rows) y m e))

  -- ---- the first entry of a Q row
  pub entry-least : (row from x : ℕ) → row < S.rows → IsLeast (has_entry_of P S row) from S.columns x → (v : ℕ) → v ≡ S.p row x → v < p →
      IsLeast (has_row_entry p L F row) from S.columns x
  entry-least row from x l least v same low = record {
    from_on = least.from_on;
    before_end = least.before_end;
    holds = here x ∙ kept (S.p row x) (λ z. differ (ap (λ n. not (eqb n 0)) z) least.holds) (omega (arith, same, low));
    none_before = λ y g less. here y ∙ gone (S.p row y) (least.none_before y g less);
  }
    where
      here : (y : ℕ) → has_row_entry p L F row y ≡ not (eqb (S.p row y % p) 0)
      here y = pick (ltb row S.rows) (not (eqb (S.p row y % p) 0)) (L.t (row - S.rows) y) (less-test row S.rows l)

      nonzero : (n : ℕ) → n ≢ 0 → not (eqb n 0) ≡ true
      nonzero n ne = grind (arith, nat_tests)

      kept : (n : ℕ) → n ≢ 0 → n < p → not (eqb (n % p) 0) ≡ true
      kept n ne less = ap (λ m. not (eqb m 0)) (mod-eq_of_lt less) ∙ nonzero n ne

      zero_of : (n : ℕ) → not (eqb n 0) ≡ false → n ≡ 0
      zero_of n h = grind (arith, nat_tests)

      gone : (n : ℕ) → not (eqb n 0) ≡ false → not (eqb (n % p) 0) ≡ false
      gone n h = ap (λ m. not (eqb m 0)) (ap (λ m. m % p) (zero_of n h) ∙ zero-mod p)

-- ---- the first other entry
module _ (T : ℕ → Bool) (x from end : ℕ) where
  abbrev Other : ℕ → Bool
  Other y = not (eqb x y) && T y

  off : (a b : Bool) → b ≡ false → a && b ≡ false
  off a b h = grind arith

  off-first : (a b : Bool) → a ≡ false → a && b ≡ false
  off-first a b h = grind arith

  same-test : eqb x x ≡ true
  same-test = grind (arith, nat_tests)

  other-test : (y : ℕ) → y ≢ x → not (eqb x y) ≡ true
  other-test y ne = grind (arith, nat_tests)

  pub others-none : HasNone T from end → HasNone Other from end
  others-none none y g l = off (not (eqb x y)) (T y) (none y g l)

  pub others-least : (y : ℕ) → IsLeast T from end y → y ≢ x → IsLeast Other from end y
  others-least y least ne = record {
    from_on = least.from_on;
    before_end = least.before_end;
    holds = both_true (not (eqb x y)) (T y) (other-test y ne) least.holds;
    none_before = λ z g less. off (not (eqb x z)) (T z) (least.none_before z g less);
  }

  module _ (first : IsLeast T from end x) where
    before : (z : ℕ) → from ≤ z → z < x + 1 → Other z ≡ false
    before z g less = elim (nat_cases z x) [
      | inl e ↦ off-first (not (eqb x z)) (T z) (subst (λ w. not (eqb x w) ≡ false) (sym e) (ap not same-test))
      | inr ne ↦ off (not (eqb x z)) (T z) (first.none_before z g (omega (arith, less, ne)))
    ]

    pub after-none : HasNone T (x + 1) end → HasNone Other from end
    after-none none z g l = elim (lt_cases z (x + 1)) [
      | inl less ↦ before z g less
      | inr ge ↦ off (not (eqb x z)) (T z) (none z ge l)
    ]

    pub after-least : (y : ℕ) → IsLeast T (x + 1) end y → IsLeast Other from end y
    after-least y least = record {
      from_on = omega (arith, first.from_on, least.from_on);
      before_end = least.before_end;
      holds = both_true (not (eqb x y)) (T y) (other-test y (λ e. absurd (omega (arith, e, least.from_on)))) least.holds;
      none_before = λ z g less. elim (lt_cases z (x + 1)) [
        | inl early ↦ before z g early
        | inr late ↦ off (not (eqb x z)) (T z) (least.none_before z late less)
      ];
    }

-- ---- lists
-- an item that is there is it whatever stands beyond the end
pub get_or-any : (xs : List ℕ) (i d c : ℕ) → i < length xs → get_or xs i d ≡ get_or xs i c
get_or-any [] i d c l = absurd (omega (arith, l))
get_or-any (x ∷ xs) zero d c l = refl
get_or-any (x ∷ xs) (suc i) d c l = get_or-any xs i d c (omega (arith, l))

pub rising-by : (xs : List ℕ) → IsStrictlyIncreasing xs → IsNonDecreasingBy (λ n. n) xs
rising-by xs up i j d le l = elim (nat_cases i j) [
  | inl e ↦ subst (λ k. get_or xs i d ≤ get_or xs k d) e (omega arith)
  | inr ne ↦ omega (arith, rises xs up i j (omega (arith, le, ne)) l, get_or-any xs i d 0 (omega (arith, le, l)), get_or-any xs j d 0 l)
]

module _ (xs : List ℕ) (up : IsStrictlyIncreasing xs) (from i : ℕ) (le : i ≤ length xs)
    (point : IsPartitionPoint (λ n. ltb n from ≡ true) (λ n. ltb n from ≡ false) xs i) where
  early : (k : ℕ) → k < i → get_or xs k 0 < from
  early k l = ltb-true (get_or xs k 0) from (point.0 k 0 (omega arith) l)

  late : (k : ℕ) → i ≤ k → k < length xs → from ≤ get_or xs k 0
  late k g l = ltb-false (get_or xs k 0) from (point.1 k 0 g l)

  pub none-from : length xs ≤ i → (n y : ℕ) → from ≤ y → y < n → has xs y ≡ false
  none-from all n y g l = has-none xs y (λ k kl e. absurd (omega (arith, early k (omega (arith, kl, all)), e, g)))

  pub least-from : i < length xs → (n : ℕ) → AreAllBelow n xs → IsLeast (has xs) from n (get_or xs i 0)
  least-from l n below = record {
    from_on = late i (omega arith) l;
    before_end = below i l;
    holds = has-at xs i (get_or xs i 0) l refl;
    none_before = λ y g less. has-none xs y (λ k kl e. elim (lt_cases k i) [
      | inl before ↦ absurd (omega (arith, early k before, e, g))
      | inr after ↦ absurd (omega (arith, not_before k after kl, e, less))
    ]);
  }
    where
      not_before : (k : ℕ) → i ≤ k → k < length xs → get_or xs i 0 ≤ get_or xs k 0
      not_before k g kl = elim (nat_cases i k) [
        | inl e ↦ subst (λ j. get_or xs i 0 ≤ get_or xs j 0) e (omega arith)
        | inr ne ↦ let r : get_or xs i 0 < get_or xs k 0 = rises xs up i k (omega (arith, g, ne)) kl in omega (arith, r)
      ]

-- one number more, or none
module _ (A : ℕ → Bool) (n : ℕ) (list : List ℕ) (are : AreMarkedBelow A n list) where
  pub marked-more : A n ≡ true → AreMarkedBelow A (n + 1) (list ++ n ∷ [])
  marked-more is = record {
    rising = rising-append list n are.rising (λ k kl. ((are.exact (get_or list k 0)).0 (has-at list k (get_or list k 0) kl refl)).0);
    exact = λ i. (
      λ h. elim (cases (has list i) (eqb n i) (sym (has-append list n i) ∙ h)) [
        | inl old ↦ let (l, a) = (are.exact i).0 old in (omega (arith, l), a)
        | inr new ↦ let e : n ≡ i = eqb_true n i new in (omega (arith, e), subst (λ j. A j ≡ true) e is)
      ],
      λ (l, a). has-append list n i ∙ made i l a (nat_cases i n),
    );
  }
    where
      cases : (a b : Bool) → a || b ≡ true → (a ≡ true) ⊎ (b ≡ true)
      cases true b h = inl refl
      cases false b h = inr h

      first : (a b : Bool) → a ≡ true → a || b ≡ true
      first a b h = grind arith

      second : (a b : Bool) → b ≡ true → a || b ≡ true
      second a b h = grind arith

      here : (i : ℕ) → i ≡ n → eqb n i ≡ true
      here i e = grind (arith, nat_tests)

      made : (i : ℕ) → i < n + 1 → A i ≡ true → (i ≡ n) ⊎ (i ≢ n) → has list i || eqb n i ≡ true
      made i l a (inl e) = second (has list i) (eqb n i) (here i e)
      made i l a (inr ne) = first (has list i) (eqb n i) ((are.exact i).1 (omega (arith, l, ne), a))

  pub marked-less : A n ≡ false → AreMarkedBelow A (n + 1) list
  marked-less off = record {
    rising = are.rising;
    exact = λ i. (
      λ h. let (l, a) = (are.exact i).0 h in (omega (arith, l), a),
      λ (l, a). elim (nat_cases i n) [
        | inl e ↦ absurd (differ (subst (λ j. A j ≡ false) (sym e) off) a)
        | inr ne ↦ (are.exact i).1 (omega (arith, l, ne), a)
      ],
    );
  }

-- the numbers that are listed are below n
pub marked-below : (A : ℕ → Bool) (n : ℕ) (list : List ℕ) → AreMarkedBelow A n list → All (λ x. x < n) list
marked-below A n list are k d l = subst (λ x. x < n) (get_or-any list k 0 d l) ((are.exact (get_or list k 0)).0 (has-at list k (get_or list k 0) l refl)).0

pub marked-none : (A : ℕ → Bool) → AreMarkedBelow A 0 []
marked-none A = record {
  rising = λ k kl. absurd (omega (arith, kl));
  exact = λ i. (λ h. absurd (differ refl h), λ (l, _). absurd (omega (arith, l)));
}

pub none-marked : (n x : ℕ) → get_or (replicate n false) x false ≡ false
none-marked n x = elim (lt_cases x n) [
  | inl l ↦ get_or-replicate n x false false l
  | inr g ↦ get_or_past (replicate n false) x false (subst (λ m. m ≤ x) (sym (length-replicate n false)) g)
]
