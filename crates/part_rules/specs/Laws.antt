-- The laws by which rules of parts are tested.
use Rattle.std.specs.Prelude.{ℕ, ◌<◌, ◌≡◌, ◌↔◌, Bool, true}
use Rattle.closed_sets.specs.Walks.{FromSome, ToSome}
use Rattle.part_rules.specs.Parts.{AreNumbered}
use Rattle.closed_sets.specs.Rules.{PlacesLeadDown, PlacesHaveReasons, PlacesHaveLowerLists}
use Rattle.part_rules.specs.Tests.{ArcsAreDown, AreSeeds, AreMet, AreCovers, AreFirstPlaces, AreHeads, IsLeastFirst, TellsChains}

-- the lists name blocks that stand before
abbrev pub AreFalling : (ℕ → ℕ → Bool) → Type 0
AreFalling lower = (k l : ℕ) → lower l k ≡ true → k < l

-- arcs lead down exactly where each leads where it may by the numbers of the parts
abbrev pub NumbersTellArcs : Type 0
NumbersTellArcs = (arc : ℕ → ℕ → Bool) (n : ℕ) (starts ends F L : ℕ → Bool) (block part : ℕ → ℕ) (b : ℕ)
    (lower : ℕ → ℕ → Bool) →
    AreNumbered n b F L block part →
    PlacesLeadDown arc n starts ends F L block b lower ↔ ArcsAreDown arc n starts ends part b lower

-- where arcs lead down, the reasons are told by two searches along the arcs within the parts: forth from the starts and
-- one place of each block, and back from the ends and these
abbrev pub MarksTellReasons : Type 0
MarksTellReasons = (arc within : ℕ → ℕ → Bool) (n : ℕ) (starts ends F L : ℕ → Bool) (block part : ℕ → ℕ) (b : ℕ)
    (lower : ℕ → ℕ → Bool) (head : ℕ → ℕ) (low high from to : ℕ → Bool) →
    AreNumbered n b F L block part → AreFalling lower → ArcsAreDown arc n starts ends part b lower →
    ((x y : ℕ) → x < n → y < n → (within x y ≡ true) ↔ ((arc x y ≡ true) × (part x ≡ part y))) →
    AreHeads n part b head → AreSeeds n starts b head low → AreSeeds n ends b head high →
    ((y : ℕ) → y < n → (from y ≡ true) ↔ FromSome within n low y) →
    ((x : ℕ) → x < n → (to x ≡ true) ↔ ToSome within n high x) →
    PlacesHaveReasons arc n starts ends F L block ↔ AreMet n b part from to

-- where the rules before are kept, the lists and the listing are told by the arcs between blocks, the chains and the
-- first places
abbrev pub TablesTellLists : Type 0
TablesTellLists = (arc : ℕ → ℕ → Bool) (n : ℕ) (starts ends F L : ℕ → Bool) (block part : ℕ → ℕ) (b : ℕ)
    (lower below : ℕ → ℕ → Bool) (head : ℕ → ℕ) →
    AreNumbered n b F L block part → AreFalling lower → ArcsAreDown arc n starts ends part b lower →
    PlacesHaveReasons arc n starts ends F L block → TellsChains lower b below → AreFirstPlaces n part b head →
    PlacesHaveLowerLists arc n starts ends F L block b lower ↔ (AreCovers arc n part b lower × IsLeastFirst b lower
    head)
