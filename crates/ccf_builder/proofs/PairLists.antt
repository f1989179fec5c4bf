-- Lists of rows with their columns: how they are made, row by row, and what they tell of the columns.
use Rattle.std.proofs.Common.{◌≡◌, ℕ, ◌+◌, ◌<◌, Bool, true, false, eqb, List, [], ◌∷◌, ◌++◌, length, map, get_or, ◌⊎◌}
use Rattle.std.proofs.Common.{inl, inr, refl, ap, sym, ◌∙◌, subst, arith}
use Rattle.std.proofs.lemmas.List.{get_or_append_left, get_or_push, get_or-map, length-map, length_push}
use Rattle.std.proofs.lemmas.List.Elements.{All-from_get_or}
use Rattle.residue_theory.specs.Sums.{size_on}
use Rattle.residue_theory.proofs.SumLaws.{nat_cases}
use Rattle.residue_theory.proofs.SetLaws.{differ, not_true, eqb_from, some_below-holds, lt_cases}
use Rattle.cert_text.specs.Ranges.{ArePairs}
use Rattle.cert_text.specs.Readings.{pair_at, has_column, row_with}
use Rattle.cert_text.proofs.PairLists.{has-found, columns_counted}
use Rattle.ccf_builder.specs.Pairs.{ListsPairs}

-- an item of a list with one more is an item of the list, or the last
pushed_cases : (pairs : List (ℕ × ℕ)) (x : ℕ × ℕ) (k : ℕ) → k < length (pairs ++ x ∷ []) →
    ((k < length pairs) × (pair_at (pairs ++ x ∷ []) k ≡ pair_at pairs k)) ⊎ ((k ≡ length pairs) × (pair_at (pairs ++ x ∷ []) k ≡ x))
pushed_cases pairs x k within = elim (nat_cases k (length pairs)) [
  | inl last ↦ inr (last, get_or_push pairs x (0, 0) k (sym last))
  | inr other ↦ let low : k < length pairs = omega (arith, length_push pairs x) in inl (low, get_or_append_left pairs (x ∷ []) (0, 0) k low)
]

-- one row more, which has no column
pub lists-none : (Has : ℕ → ℕ → Type 0) (m : ℕ) (pairs : List (ℕ × ℕ)) → ((y : ℕ) → Has m y → ⊥) → ListsPairs Has m pairs → ListsPairs Has (m + 1) pairs
lists-none Has m pairs bare lists = record {
  below = λ k within. omega (arith, lists.below k within);
  member = lists.member;
  rising = lists.rising;
  all = λ r y low has. elim (nat_cases r m) [
    | inl same ↦ absurd (bare y (subst (λ i. Has i y) same has))
    | inr other ↦ lists.all r y (omega arith) has
  ];
}

-- one row more, with its column
module _ (Has : ℕ → ℕ → Type 0) (m v : ℕ) (pairs : List (ℕ × ℕ)) (one : (r y z : ℕ) → Has r y → Has r z → y ≡ z)
    (has : Has m v) (lists : ListsPairs Has m pairs) where
  below_more : (k : ℕ) → k < length (pairs ++ (m, v) ∷ []) → (pair_at (pairs ++ (m, v) ∷ []) k).0 < m + 1
  below_more k within = elim (pushed_cases pairs (m, v) k within) [
    | inl old ↦ omega (arith, ap (λ (x : ℕ × ℕ). x.0) old.1, lists.below k old.0)
    | inr last ↦ omega (arith, ap (λ (x : ℕ × ℕ). x.0) last.1)
  ]

  member_more : (k : ℕ) → k < length (pairs ++ (m, v) ∷ []) → Has (pair_at (pairs ++ (m, v) ∷ []) k).0 (pair_at (pairs ++ (m, v) ∷ []) k).1
  member_more k within = elim (pushed_cases pairs (m, v) k within) [
    | inl old ↦ subst (λ (x : ℕ × ℕ). Has x.0 x.1) (sym old.1) (lists.member k old.0)
    | inr last ↦ subst (λ (x : ℕ × ℕ). Has x.0 x.1) (sym last.1) has
  ]

  rising_more : (k l : ℕ) → k < l → l < length (pairs ++ (m, v) ∷ []) → (pair_at (pairs ++ (m, v) ∷ []) k).0 < (pair_at (pairs ++ (m, v) ∷ []) l).0
  rising_more k l less within = elim (pushed_cases pairs (m, v) l within) [
    | inl old ↦
        let low : k < length pairs = omega (arith, old.0) in
        omega (arith, ap (λ (x : ℕ × ℕ). x.0) old.1, ap (λ (x : ℕ × ℕ). x.0) (get_or_append_left pairs ((m, v) ∷ []) (0, 0) k low), lists.rising k l less old.0)
    | inr last ↦
        let low : k < length pairs = omega (arith, last.0) in
        omega (arith, ap (λ (x : ℕ × ℕ). x.0) last.1, ap (λ (x : ℕ × ℕ). x.0) (get_or_append_left pairs ((m, v) ∷ []) (0, 0) k low), lists.below k low)
  ]

  all_more : (r y : ℕ) → r < m + 1 → Has r y → (k : ℕ) × (k < length (pairs ++ (m, v) ∷ [])) × (pair_at (pairs ++ (m, v) ∷ []) k ≡ (r, y))
  all_more r y low other = elim (nat_cases r m) [
    | inl same ↦
        let column : y ≡ v = one m y v (subst (λ i. Has i y) same other) has in (
          length pairs,
          omega (arith, length_push pairs (m, v)),
          get_or_push pairs (m, v) (0, 0) (length pairs) refl
              ∙ ap (λ i. (i, v)) (sym same) ∙ ap (λ j. (r, j)) (sym column),
        )
    | inr apart ↦
        let found = lists.all r y (omega arith) other in
        (found.0, omega (arith, found.1, length_push pairs (m, v)), get_or_append_left pairs ((m, v) ∷ []) (0, 0) found.0 found.1 ∙ found.2)
  ]

  pub lists-some : ListsPairs Has (m + 1) (pairs ++ (m, v) ∷ [])
  lists-some = record { below = below_more; member = member_more; rising = rising_more; all = all_more }

-- two tests that are true together
pub same-tests : (a b : Bool) → (a ≡ true → b ≡ true) → (b ≡ true → a ≡ true) → a ≡ b
same-tests true b f g = sym (f refl)
same-tests false b f g = sym (not_true b (λ h. differ refl (g h)))

-- the whole list, where the columns with a row are those of B, each with a row of its own
module _ (Has : ℕ → ℕ → Type 0) (m n : ℕ) (pairs : List (ℕ × ℕ)) (lists : ListsPairs Has m pairs) (B : ℕ → Bool) (row : ℕ → ℕ)
    (told : (r y : ℕ) → Has r y → (y < n) × (B y ≡ true) × (row y ≡ r)) (has : (y : ℕ) → y < n → B y ≡ true →
    Has (row y) y) (low : (y : ℕ) → y < n → B y ≡ true → row y < m) where
  of_item : (k : ℕ) → k < length pairs → ((pair_at pairs k).1 < n) × (B (pair_at pairs k).1 ≡ true) × (row (pair_at pairs k).1 ≡ (pair_at pairs k).0)
  of_item k kl = told (pair_at pairs k).0 (pair_at pairs k).1 (lists.member k kl)

  pub column-below : (k : ℕ) → k < length pairs → (pair_at pairs k).1 < n
  column-below k kl = (of_item k kl).0

  pub row-of : (k : ℕ) → k < length pairs → row (pair_at pairs k).1 ≡ (pair_at pairs k).0
  row-of k kl = (of_item k kl).2

  -- no column stands twice
  pub columns-differ : (k l : ℕ) → k < length pairs → l < length pairs → (pair_at pairs k).1 ≡ (pair_at pairs l).1 → k ≡ l
  columns-differ k l kl ll same =
      let rows : (pair_at pairs k).0 ≡ (pair_at pairs l).0 = sym (row-of k kl) ∙ ap row same ∙ row-of l ll in
      elim (lt_cases k l) [
        | inl less ↦ absurd (omega (arith, lists.rising k l less ll, rows))
        | inr more ↦ elim (lt_cases l k) [
          | inl less ↦ absurd (omega (arith, lists.rising l k less kl, rows))
          | inr equal ↦ omega arith
        ]
      ]

  pub counted : size_on (has_column pairs) n ≡ length pairs
  counted = columns_counted n pairs column-below columns-differ

  -- the columns of the list are those of B, with their rows
  pub column-same : (y : ℕ) → y < n → has_column pairs y ≡ B y
  column-same y yl = same-tests (has_column pairs y) (B y)
      (λ h. let at = has-found pairs y h in subst (λ x. B x ≡ true) at.2 (of_item at.0 at.1).1)
      (λ h. let at = lists.all (row y) y (low y yl h) (has y yl h) in
      some_below-holds (length pairs) (λ k. eqb (pair_at pairs k).1 y) at.0 at.1 (eqb_from (pair_at pairs at.0).1 y (ap (λ (x : ℕ × ℕ). x.1) at.2)))

  pub row-same : (y : ℕ) → y < n → B y ≡ true → row_with pairs y ≡ row y
  row-same y yl h =
      let at = has-found pairs y (column-same y yl ∙ h) in
      sym at.3 ∙ sym (row-of at.0 at.1) ∙ ap row at.2

  pub are-pairs : ArePairs m n pairs
  are-pairs = record {
    rising = λ k kl.
        let long : length (map (λ (pair : ℕ × ℕ). pair.0) pairs) ≡ length pairs = length-map pairs (λ (pair : ℕ × ℕ). pair.0) in
        let next : k + 1 < length pairs = omega (arith, kl, long) in
        let here : k < length pairs = omega (arith, next) in
        let first : get_or (map (λ (pair : ℕ × ℕ). pair.0) pairs) k 0 ≡ (pair_at pairs k).0 = get_or-map (λ (pair : ℕ × ℕ). pair.0) pairs k (0, 0) 0 here in
        let second : get_or (map (λ (pair : ℕ × ℕ). pair.0) pairs) (k + 1) 0 ≡ (pair_at pairs (k + 1)).0 =
        get_or-map (λ (pair : ℕ × ℕ). pair.0) pairs (k + 1) (0, 0) 0 next in
        let less : k < k + 1 = omega arith in
        omega (arith, first, second, lists.rising k (k + 1) less next);
    within = All-from_get_or (λ (pair : ℕ × ℕ). (pair.0 < m) × (pair.1 < n)) pairs (0, 0) (λ k kl. (lists.below k kl, column-below k kl));
  }
