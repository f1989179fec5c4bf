-- How many members of a set stand before an item of the rising list that holds them.
use Rattle.std.proofs.Common.{◌≡◌, ◌<◌, ◌≤◌, ◌∙◌, ℕ, zero, suc, Bool, true, false, List, length, get_or, inl, inr, refl, sym, subst, arith}
use Rattle.std.specs.List.Sorted.{IsStrictlyIncreasing}
use Rattle.residue_theory.specs.Sets.{has}
use Rattle.residue_theory.specs.Sums.{size_on}
use Rattle.residue_theory.proofs.SetLaws.{differ, lt_cases}
use Rattle.sparse_t.specs.Lists.{AreAllBelow}
use Rattle.sparse_t.proofs.ListLaws.{has-at, has-member, rises}

module _ (list : List ℕ) (up : IsStrictlyIncreasing list) (X : ℕ → Bool) (n : ℕ)
    (exact : (i : ℕ) → i < n → has list i ≡ X i) where
  -- the first k items are those below r
  record AreBelow (k r : ℕ) : Type 0 where
    count : k ≤ length list
    before : (j : ℕ) → j < k → get_or list j 0 < r
    after : (j : ℕ) → k ≤ j → j < length list → r ≤ get_or list j 0

  -- where the last number below r is an item, it is the last of them
  below-member : (k r j : ℕ) → AreBelow k (suc r) → j < length list → get_or list j 0 ≡ r → (k ≡ suc j) × AreBelow j r
  below-member k r j B l e = (
    omega (arith, early, late),
    record {
      count = omega (arith, l);
      before = λ i il. omega (arith, rises list up i j il l, e);
      after = λ i ge il. elim (lt_cases j i) [
        | inl less ↦ omega (arith, rises list up j i less il, e)
        | inr le ↦
            let same : i ≡ j = omega (arith, ge, le) in
            subst (λ v. r ≤ get_or list v 0) (sym same) (omega (arith, e))
      ];
    },
  )
    where
      early : j < k
      early = elim (lt_cases j k) [ inl less ↦ less | inr ge ↦ absurd (omega (arith, B.after j ge l, e)) ]

      late : k ≤ suc j
      late = elim (lt_cases (suc j) k) [
        | inl less ↦
            let more = rises list up j (suc j) (omega arith) (omega (arith, less, B.count)) in
            absurd (omega (arith, more, B.before (suc j) less, e))
        | inr ge ↦ ge
      ]

  -- where it is none, the items below it are the same
  below-other : (k r : ℕ) → AreBelow k (suc r) → (has list r ≡ true → ⊥) → AreBelow k r
  below-other k r B none = record {
    count = B.count;
    before = λ j l. elim (lt_cases (get_or list j 0) r) [
      | inl less ↦ less
      | inr ge ↦ absurd (none (has-at list j r (omega (arith, l, B.count)) (omega (arith, ge, B.before j l))))
    ];
    after = λ j ge l. omega (arith, B.after j ge l);
  }

  count-below : (k r : ℕ) → r ≤ n → AreBelow k r → size_on X r ≡ k
  count-below k zero le B = elim (lt_cases 0 k) [
    | inl less ↦ absurd (omega (arith, B.before 0 less))
    | inr ge ↦ omega (arith, ge)
  ]
  count-below k (suc r) le B = go (X r) refl (λ m. count-below m r (omega (arith, le)))
    where
      here : r < n
      here = omega (arith, le)

      go : (b : Bool) → X r ≡ b → ((m : ℕ) → AreBelow m r → size_on X r ≡ m) → size_on X (suc r) ≡ k
      go true h rest =
          let (j, l, e) = has-member list r (exact r here ∙ h) in
          let (last, B') = below-member k r j B l e in
          rw h omega (arith, rest j B', last)
      go false h rest = rw h omega (arith, rest k (below-other k r B (differ (exact r here ∙ h))))

  module _ (below : AreAllBelow n list) where
    -- before an item, those before it in the list
    pub before-item : (k : ℕ) → k < length list → size_on X (get_or list k 0) ≡ k
    before-item k l = count-below k (get_or list k 0) (omega (arith, below k l)) (record {
      count = omega (arith, l);
      before = λ j less. rises list up j k less l;
      after = λ j ge jl. elim (lt_cases k j) [
        | inl less ↦ omega (arith, rises list up k j less jl)
        | inr le ↦ let same : j ≡ k = omega (arith, ge, le) in
            subst (λ v. get_or list k 0 ≤ get_or list v 0) (sym same) (omega arith)
      ];
    })

    -- in all, as many as the list has items
    pub all-items : size_on X n ≡ length list
    all-items = count-below (length list) n (omega arith) (record {
      count = omega arith;
      before = λ j l. below j l;
      after = λ j ge l. absurd (omega (arith, ge, l));
    })
