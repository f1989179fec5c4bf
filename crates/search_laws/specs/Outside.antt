-- Searches that leave out a set of places.
use Rattle.std.specs.Prelude.{ℕ, ◌+◌, ◌<◌, ◌≡◌, ◌&&◌, not, Bool, true}
use Rattle.residue_theory.specs.Sets.{IsApart, IsWithin, both, either, nothing}
use Rattle.residue_theory.specs.Sums.{size_on}
use Rattle.closed_sets.specs.Closed.{IsClosed, IsReachedSet}
use Rattle.closed_sets.specs.Walks.{FromSome}
use Rattle.search_laws.specs.Searches.{IsShortest}

-- x leads to y, and y is not left out
abbrev pub leads_outside : (ℕ → ℕ → Bool) → (ℕ → Bool) → ℕ → ℕ → Bool
leads_outside arc left x y = arc x y && not (left y)

-- the set holds all that its members lead to, no end, and no place that is not reached from a start in it
pub record IsReachedInVain (arc : ℕ → ℕ → Bool) (n : ℕ) (starts ends left : ℕ → Bool) : Type 0 where
  pub closed : IsClosed arc n nothing ends left
  pub rooted : (x : ℕ) → x < n → left x ≡ true → FromSome arc n (both starts left) x

-- a search may leave out what was reached in vain: a shortest walk outside it is a shortest walk, and where there is
-- none, what is reached outside was reached in vain together with it
abbrev pub SearchesMayLeaveOutWhatWasReachedInVain : Type 0
SearchesMayLeaveOutWhatWasReachedInVain =
    (arc : ℕ → ℕ → Bool) (n : ℕ) (starts ends left : ℕ → Bool) → IsReachedInVain arc n starts ends left →
    (some : ℕ → Bool) → IsWithin n some starts → IsApart n left some →
    ((at : ℕ → ℕ) (k : ℕ) → IsShortest (leads_outside arc left) n some ends at k → IsShortest arc n some ends at k)
    × ((X : ℕ → Bool) → IsClosed (leads_outside arc left) n some ends X →
    IsReachedSet (leads_outside arc left) n some X →
    IsReachedInVain arc n starts ends (either left X) × (size_on (either left X) n ≡ size_on left n + size_on X n))
