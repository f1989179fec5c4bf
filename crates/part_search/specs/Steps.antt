-- The steps of the tests of parts.
use Rattle.std.specs.Prelude.{ℕ, ◌<◌, ◌≤◌, ◌≡◌, ◌⊎◌, Bool, true, List, length, slice_index, slice_index_or}
use Rattle.part_rules.specs.Listed.{marked}
use Rattle.part_rules.specs.Tests.{MayLead}

-- the first n of the places that are marked have this part
abbrev pub HavePart : List Bool → List ℕ → ℕ → ℕ → Type 0
HavePart marks parts part n = (x : ℕ) → x < n → marked marks x ≡ true → slice_index parts x ≡ part

-- the first n arcs lead where they may
abbrev pub MayAllLead : List (ℕ × ℕ) → List ℕ → ℕ → (ℕ → ℕ → Bool) → ℕ → Type 0
MayAllLead arcs parts b lower n = (k : ℕ) → k < n →
    MayLead b lower (slice_index parts (slice_index_or arcs k (0, 0)).0)
    (slice_index parts (slice_index_or arcs k (0, 0)).1)

-- each of the first n places has this part, or is marked
abbrev pub AreMarkedBut : List Bool → List ℕ → ℕ → ℕ → Type 0
AreMarkedBut marks parts part n = (x : ℕ) → x < n → (slice_index parts x ≡ part) ⊎ (marked marks x ≡ true)

-- the parts are numbered from 1 to last
abbrev pub AreNumberedParts : ℕ → List ℕ → Type 0
AreNumberedParts last parts = (x : ℕ) → x < length parts → (1 ≤ slice_index parts x) × (slice_index parts x ≤ last)

-- the first n of the heads are marked now, beside what was marked
pub record AreMarkedWith (marks : List Bool) (heads : List ℕ) (n : ℕ) (now : List Bool) : Type 0 where
  pub count : length now ≡ length marks
  pub kept : (x : ℕ) → marked marks x ≡ true → marked now x ≡ true
  pub new : (k : ℕ) → k < n → marked now (slice_index heads k) ≡ true
  pub only : (x : ℕ) → marked now x ≡ true → (marked marks x ≡ true) ⊎ ((k : ℕ) × (k < n) × (slice_index heads k ≡ x))
