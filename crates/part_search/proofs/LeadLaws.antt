-- Where arcs may lead, and arcs that all lead where they may.
use Rattle.std.proofs.Common.{◌≡◌, ◌≢◌, ℕ, zero, suc, ◌+◌, ◌<◌, ◌⊎◌, Bool, true, ◌&&◌, eqb, List, [], ◌∷◌, length}
use Rattle.std.proofs.Common.{slice_index, slice_index_or, inl, inr, refl, sym, subst, ◌∙◌, arith}
use Rattle.residue_theory.proofs.SetLaws.{differ, both_true, both-first, both-second, either_cases, either-first, either-second, eqb_true, eqb_from}
use Rattle.residue_theory.proofs.SumLaws.{nat_cases}
use Rattle.closed_sets.specs.Walks.{ReachesOn}
use Rattle.part_rules.specs.Listed.{AreArcs, arc_in, marked}
use Rattle.part_rules.specs.Tests.{ArcsAreDown, MayLead}
use Rattle.part_search.specs.Steps.{HavePart, MayAllLead}

-- between two blocks a place may lead where a chain does
pub block-leads : (b from to l k : ℕ) (lower : ℕ → ℕ → Bool) → from ≢ b + 2 → to ≢ 1 → from ≢ to → from ≡ l + 2 →
    to ≡ k + 2 → MayLead b lower from to → ReachesOn lower b l k
block-leads b from to l k lower apart first other left right (inl last) = absurd (apart last)
block-leads b from to l k lower apart first other left right (inr (inl one)) = absurd (first one)
block-leads b from to l k lower apart first other left right (inr (inr (inl same))) = absurd (other same)
block-leads b from to l k lower apart first other left right (inr (inr (inr (x, y, xb, yb, s, t, chain)))) =
    let low : x ≡ k = omega (arith, t, right) in
    let high : y ≡ l = omega (arith, s, left) in
    subst (ReachesOn lower b l) low (subst (λ v. ReachesOn lower b v x) high chain)

pub leads-block : (b from to l k : ℕ) (lower : ℕ → ℕ → Bool) → l < b → k < b → from ≡ l + 2 → to ≡ k + 2 → ReachesOn lower b l k → MayLead b lower from to
leads-block b from to l k lower lb kb left right chain = inr (inr (inr (k, l, kb, lb, left, right, chain)))

-- from the first part a place may not lead on, nor to the last part
pub never-leads : (b from to : ℕ) (lower : ℕ → ℕ → Bool) → from ≢ b + 2 → to ≢ 1 → from ≢ to → (from ≡ 1) ⊎ (to ≡ b + 2) → MayLead b lower from to → ⊥
never-leads b from to lower apart first other why (inl last) = apart last
never-leads b from to lower apart first other why (inr (inl one)) = first one
never-leads b from to lower apart first other why (inr (inr (inl same))) = other same
never-leads b from to lower apart first other (inl one) (inr (inr (inr (k, l, kb, lb, s, t, chain)))) = omega (arith, one, s)
never-leads b from to lower apart first other (inr last) (inr (inr (inr (k, l, kb, lb, s, t, chain)))) = omega (arith, last, t, kb)

-- one arc more
pub one-more : (arcs : List (ℕ × ℕ)) (parts : List ℕ) (b n : ℕ) (lower : ℕ → ℕ → Bool) → MayAllLead arcs parts b lower n →
    MayLead b lower (slice_index parts (slice_index_or arcs n (0, 0)).0)
    (slice_index parts (slice_index_or arcs n (0, 0)).1) → MayAllLead arcs parts b lower (n + 1)
one-more arcs parts b n lower before here k low = elim (nat_cases k n) [
  | inl same ↦ subst (λ i. MayLead b lower (slice_index parts (slice_index_or arcs i (0, 0)).0)
      (slice_index parts (slice_index_or arcs i (0, 0)).1)) (sym same) here
  | inr other ↦ before k (omega (arith, low, other))
]

-- an arc of the list is one of its items
pub arc-item : (arcs : List (ℕ × ℕ)) (x y : ℕ) → arc_in arcs x y ≡ true → (k : ℕ) × (k < length arcs)
    × ((slice_index_or arcs k (0, 0)).0 ≡ x) × ((slice_index_or arcs k (0, 0)).1 ≡ y)
arc-item [] x y h = absurd (differ refl h)
arc-item (arc ∷ arcs) x y h = elim (either_cases (eqb arc.0 x && eqb arc.1 y) (arc_in arcs x y) h) [
  | inl here ↦ (0, omega arith, eqb_true arc.0 x (both-first (eqb arc.0 x) (eqb arc.1 y) here), eqb_true arc.1 y (both-second (eqb arc.0 x) (eqb arc.1 y) here))
  | inr later ↦ let item = arc-item arcs x y later in (suc item.0, omega (arith, item.1), item.2, item.3)
]

pub item-arc : (arcs : List (ℕ × ℕ)) (k : ℕ) → k < length arcs → arc_in arcs (slice_index_or arcs k (0, 0)).0 (slice_index_or arcs k (0, 0)).1 ≡ true
item-arc [] k low = absurd (omega (arith, low))
item-arc (arc ∷ arcs) zero low = either-first (eqb arc.0 arc.0 && eqb arc.1 arc.1) (arc_in arcs arc.0 arc.1)
    (both_true (eqb arc.0 arc.0) (eqb arc.1 arc.1) (eqb_from arc.0 arc.0 refl) (eqb_from arc.1 arc.1 refl))
item-arc (arc ∷ arcs) (suc k) low =
    let x = (slice_index_or arcs k (0, 0)).0 in
    let y = (slice_index_or arcs k (0, 0)).1 in
    either-second (eqb arc.0 x && eqb arc.1 y) (arc_in arcs x y) (item-arc arcs k (omega (arith, low)))

module _ (arcs : List (ℕ × ℕ)) (starts ends : List Bool) (parts : List ℕ) (last b : ℕ) (lower : ℕ → ℕ → Bool)
    (is : last ≡ b + 2) (within : AreArcs (length parts) arcs) where
  pub down-told : ArcsAreDown (arc_in arcs) (length parts) (marked starts) (marked ends) (slice_index parts) b lower →
      HavePart starts parts 1 (length parts) × HavePart ends parts last (length parts)
      × MayAllLead arcs parts b lower (length arcs)
  down-told D = (
    (λ x xl h. D.starts_first x xl h),
    (λ x xl h. D.ends_last x xl h ∙ sym is),
    λ k kl. D.arcs (slice_index_or arcs k (0, 0)).0 (slice_index_or arcs k (0, 0)).1 (within k (0, 0) kl).0 (within k (0, 0) kl).1 (item-arc arcs k kl),
  )

  pub told-down : HavePart starts parts 1 (length parts) → HavePart ends parts last (length parts) →
      MayAllLead arcs parts b lower (length arcs) →
      ArcsAreDown (arc_in arcs) (length parts) (marked starts) (marked ends) (slice_index parts) b lower
  told-down first second third = record {
    starts_first = first;
    ends_last = λ x xl h. second x xl h ∙ is;
    arcs = λ x y xl yl h. let item = arc-item arcs x y h in
        subst (λ v. MayLead b lower (slice_index parts v) (slice_index parts y)) item.2
        (subst (λ v. MayLead b lower (slice_index parts (slice_index_or arcs item.0 (0, 0)).0) (slice_index parts v)) item.3 (third item.0 item.1));
  }
