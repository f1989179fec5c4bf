-- What a sweep finds: a walk is searched from one start after another, and what was reached in vain is left out for
-- good.
use Rattle.std.specs.Prelude.{ℕ, ◌<◌, ◌≡◌, Bool, true, false}
use Rattle.residue_theory.specs.Sets.{only}
use Rattle.residue_theory.specs.Sums.{size_on}
use Rattle.closed_sets.specs.Walks.{FromSome}
use Rattle.search_laws.specs.Outside.{IsReachedInVain}
use Rattle.search_laws.specs.Searches.{IsShortest}

-- at leads from a start to an end in k arcs, and no walk from this start to an end has fewer
pub record IsShortestFromOne (arc : ℕ → ℕ → Bool) (n : ℕ) (starts ends : ℕ → Bool) (at : ℕ → ℕ)
    (k : ℕ) : Type 0 where
  pub start : starts (at 0) ≡ true
  pub shortest : IsShortest arc n (only (at 0)) ends at k

-- what is left out was reached in vain, and it holds the starts before `next`
pub record IsLeftOut (arc : ℕ → ℕ → Bool) (n : ℕ) (starts ends left : ℕ → Bool) (next : ℕ) : Type 0 where
  pub vain : IsReachedInVain arc n starts ends left
  pub passed : (x : ℕ) → x < n → x < next → starts x ≡ true → left x ≡ true

-- looks is the size of a set of places that are reached from starts, none of which is an end or was left out before
pub record AreLookedAtInVain (arc : ℕ → ℕ → Bool) (n : ℕ) (starts ends before : ℕ → Bool)
    (looks : ℕ) : Type 0 where
  pub places : ℕ → Bool
  pub size : size_on places n ≡ looks
  pub rooted : (y : ℕ) → y < n → places y ≡ true → FromSome arc n starts y
  pub no_end : (y : ℕ) → y < n → places y ≡ true → ends y ≡ true → ⊥
  pub fresh : (y : ℕ) → y < n → places y ≡ true → before y ≡ false
