-- Two searches, and what is met by them.
use Rattle.std.proofs.Common.{◌≡◌, ℕ, ◌+◌, ◌↔◌, Bool, IsTrue, List, length, slice_index, inl, inr, sym, subst, ◌∙◌}
use Rattle.part_rules.specs.Listed.{AreReached, AreReaching, marked}
use Rattle.part_rules.specs.Tests.{AreSeeds}
use Rattle.part_search.specs.Searched.{IsSearched}
use Rattle.part_search.specs.Steps.{AreMarkedBut}

pub searched : (within : ℕ → ℕ → Bool) (parts heads : List ℕ) (starts ends low high from to : List Bool) (last : ℕ) (answer : Bool) →
    length starts ≡ length parts → length ends ≡ length parts → last ≡ length heads + 2 →
    AreSeeds (length starts) (marked starts) (length heads) (slice_index heads) (marked low) →
    AreSeeds (length ends) (marked ends) (length heads) (slice_index heads) (marked high) →
    AreReached within (length parts) (marked low) from → AreReaching within (length parts) (marked high) to →
    IsTrue answer ↔ (AreMarkedBut from parts last (length parts) × AreMarkedBut to parts 1 (length parts)) →
    IsSearched within (length parts) (marked starts) (marked ends) (slice_index parts) (length heads) (slice_index heads) answer
searched within parts heads starts ends low high from to last answer first second is seeds more reached reaching told = record {
  low = marked low;
  high = marked high;
  from = marked from;
  to = marked to;
  low_seeds = subst (λ n. AreSeeds n (marked starts) (length heads) (slice_index heads) (marked low)) first seeds;
  high_seeds = subst (λ n. AreSeeds n (marked ends) (length heads) (slice_index heads) (marked high)) second more;
  reached = reached.tells;
  reaching = reaching.tells;
  told = (
    λ t x xl. (elim ((told.0 t).0 x xl) [ inl same ↦ inl (same ∙ is) | inr met ↦ inr met ], (told.0 t).1 x xl),
    λ met. told.1 ((λ x xl. elim ((met x xl).0) [ inl same ↦ inl (same ∙ sym is) | inr here ↦ inr here ]), (λ x xl. (met x xl).1)),
  );
}
