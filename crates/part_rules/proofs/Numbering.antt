-- Parts by their numbers: where a place stands, and where arcs lead.
use Rattle.std.proofs.Common.{◌≡◌, ℕ, ◌+◌, ◌<◌, ◌⊎◌, Bool, true, inl, inr, sym, subst, arith}
use Rattle.residue_theory.proofs.SetLaws.{differ, not_true, le_cases}
use Rattle.closed_sets.specs.Rules.{InBlock, PlacesLeadDown}
use Rattle.closed_sets.specs.Walks.{ReachesOn}
use Rattle.part_rules.specs.Parts.{AreNumbered}
use Rattle.part_rules.specs.Tests.{MayLead, ArcsAreDown}

module _ (n b : ℕ) (F L : ℕ → Bool) (block part : ℕ → ℕ) (N : AreNumbered n b F L block part) where
  pub above-first : (x : ℕ) → InBlock n F L x → 1 < part x
  above-first x i = elim (le_cases 1 (part x) (N.from x i.below)) [
    | inl same ↦ absurd (differ i.not_first ((N.first x i.below).1 (sym same)))
    | inr more ↦ more
  ]

  pub below-last : (x : ℕ) → InBlock n F L x → part x < b + 2
  below-last x i = elim (le_cases (part x) (b + 2) (N.to x i.below)) [
    | inl same ↦ absurd (differ i.not_last ((N.last x i.below).1 same))
    | inr less ↦ less
  ]

  pub number-is : (x : ℕ) → InBlock n F L x → block x + 2 ≡ part x
  number-is x i = N.number x i.below (above-first x i) (below-last x i)

  pub number-below : (x : ℕ) → InBlock n F L x → block x < b
  number-below x i = omega (arith, number-is x i, below-last x i)

  pub between-is : (x : ℕ) → x < n → 1 < part x → part x < b + 2 → InBlock n F L x
  between-is x xl more less = record {
    below = xl;
    not_first = not_true (F x) (λ h. let same : part x ≡ 1 = (N.first x xl).0 h in absurd (omega (arith, same, more)));
    not_last = not_true (L x) (λ h. let same : part x ≡ b + 2 = (N.last x xl).0 h in absurd (omega (arith, same, less)));
  }

  pub at-block : (x k : ℕ) → x < n → k < b → part x ≡ k + 2 → InBlock n F L x
  at-block x k xl kb same = between-is x xl (omega (arith, same)) (omega (arith, same, kb))

  pub block-at : (x k : ℕ) → x < n → k < b → part x ≡ k + 2 → block x ≡ k
  block-at x k xl kb same = let is : block x + 2 ≡ part x = number-is x (at-block x k xl kb same) in omega (arith, is, same)

  pub part-cases : (x : ℕ) → x < n → (F x ≡ true) ⊎ (L x ≡ true) ⊎ InBlock n F L x
  part-cases x xl = elim (le_cases 1 (part x) (N.from x xl)) [
    | inl one ↦ inl ((N.first x xl).1 (sym one))
    | inr more ↦ inr (elim (le_cases (part x) (b + 2) (N.to x xl)) [
      | inl last ↦ inl ((N.last x xl).1 last)
      | inr less ↦ inr (between-is x xl more less)
    ])
  ]

  pub same-part : (x y : ℕ) → InBlock n F L x → InBlock n F L y → block x ≡ block y → part x ≡ part y
  same-part x y ix iy same = let px : block x + 2 ≡ part x = number-is x ix in let py : block y + 2 ≡ part y = number-is y iy in omega (arith, px, py, same)

  module _ (arc : ℕ → ℕ → Bool) (starts ends : ℕ → Bool) (lower : ℕ → ℕ → Bool) where
    pub down-numbers : PlacesLeadDown arc n starts ends F L block b lower → ArcsAreDown arc n starts ends part b lower
    down-numbers D = record {
      starts_first = λ x xl h. (N.first x xl).0 (D.starts_first x xl h);
      ends_last = λ x xl h. (N.last x xl).0 (D.ends_last x xl h);
      arcs = leads;
    }
      where
        from-block : (x y : ℕ) → InBlock n F L x → y < n →
            ((F y ≡ true) ⊎ (InBlock n F L y × ((block y ≡ block x) ⊎ ReachesOn lower b (block x) (block y)))) →
            MayLead b lower (part x) (part y)
        from-block x y ix yl (inl f) = inr (inl ((N.first y yl).0 f))
        from-block x y ix yl (inr (iy, inl same)) = inr (inr (inl (sym (same-part y x iy ix same))))
        from-block x y ix yl (inr (iy, inr chain)) =
            inr (inr (inr (
              block y,
              block x,
              number-below y iy,
              number-below x ix,
              sym (number-is x ix),
              sym (number-is y iy),
              chain,
            )))

        leads : (x y : ℕ) → x < n → y < n → arc x y ≡ true → MayLead b lower (part x) (part y)
        leads x y xl yl a = elim (part-cases x xl) [
          | inl f ↦ inr (inl ((N.first y yl).0 (D.first_leads x y xl yl f a)))
          | inr rest ↦ elim rest [
            | inl l ↦ inl ((N.last x xl).0 l)
            | inr ix ↦ from-block x y ix yl (D.block_leads x y ix yl a)
          ]
        ]

    pub numbers-down : ArcsAreDown arc n starts ends part b lower → PlacesLeadDown arc n starts ends F L block b lower
    numbers-down A = record {
      starts_first = λ x xl h. (N.first x xl).1 (A.starts_first x xl h);
      ends_last = λ x xl h. (N.last x xl).1 (A.ends_last x xl h);
      first_leads = λ x y xl yl f a. (N.first y yl).1 (from-first x y ((N.first x xl).0 f) (A.arcs x y xl yl a));
      block_leads = λ x y ix yl a. from-block x y ix yl (A.arcs x y ix.below yl a);
    }
      where
        from-first : (x y : ℕ) → part x ≡ 1 → MayLead b lower (part x) (part y) → part y ≡ 1
        from-first x y one (inl last) = absurd (omega (arith, one, last))
        from-first x y one (inr (inl first)) = first
        from-first x y one (inr (inr (inl same))) = omega (arith, one, same)
        from-first x y one (inr (inr (inr (k, l, kb, lb, s, t, chain)))) = absurd (omega (arith, one, s))

        from-block : (x y : ℕ) → InBlock n F L x → y < n → MayLead b lower (part x) (part y) →
            (F y ≡ true) ⊎ (InBlock n F L y × ((block y ≡ block x) ⊎ ReachesOn lower b (block x) (block y)))
        from-block x y ix yl (inl last) = absurd (omega (arith, last, below-last x ix))
        from-block x y ix yl (inr (inl first)) = inl ((N.first y yl).1 first)
        from-block x y ix yl (inr (inr (inl same))) =
            let iy : InBlock n F L y = between-is y yl (omega (arith, same, above-first x ix)) (omega (arith, same, below-last x ix)) in
            let px : block x + 2 ≡ part x = number-is x ix in
            let py : block y + 2 ≡ part y = number-is y iy in
            inr (iy, inl (omega (arith, px, py, same)))
        from-block x y ix yl (inr (inr (inr (k, l, kb, lb, s, t, chain)))) =
            let bx : block x ≡ l = block-at x l ix.below lb s in
            let by : block y ≡ k = block-at y k yl kb t in
            inr (at-block y k yl kb t, inr (subst (λ u. ReachesOn lower b u (block y)) (sym bx) (subst (ReachesOn lower b l) (sym by) chain)))
