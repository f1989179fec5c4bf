-- What a search answers.
use Rattle.std.specs.Prelude.{ℕ, ◌+◌, ◌≡◌, Bool, Option, IfSome, IfNone}
use Rattle.residue_theory.specs.Sets.{IsWithin}
use Rattle.residue_theory.specs.Sums.{size_on}
use Rattle.closed_sets.specs.Closed.{IsClosed, IsReachedSet}
use Rattle.search_laws.specs.Searches.{IsShortest}
use Rattle.exchange_graph.specs.Counts.{AreLookedAt}
use Rattle.exchange_graph.specs.Sweeps.{AreLookedAtInVain, IsLeftOut, IsShortestFromOne}

-- by so many looks, the least number of arcs from a start to an end, as `at` leads; or none, and X is what is reached
pub record IsSearchAnswer (arc : ℕ → ℕ → Bool) (n : ℕ) (starts ends : ℕ → Bool) (at : ℕ → ℕ) (X : ℕ → Bool)
    (looks : ℕ) (answer : Option ℕ) : Type 0 where
  pub found : IfSome answer (λ k. IsShortest arc n starts ends at k)
  pub looked : IfSome answer (λ k. AreLookedAt arc n starts ends k looks)
  pub closed : IfNone answer (IsClosed arc n starts ends X)
  pub reached : IfNone answer (IsReachedSet arc n starts X)
  pub size : IfNone answer (size_on X n ≡ looks)

-- the number of arcs from the start that comes next to an end, as `at` leads, and no walk from this start to an end has
-- fewer; or none, and X is what is reached
pub record IsAnswerInTurn (arc : ℕ → ℕ → Bool) (n : ℕ) (starts ends : ℕ → Bool) (at : ℕ → ℕ) (X : ℕ → Bool)
    (next : ℕ) (answer : Option ℕ) : Type 0 where
  pub found : IfSome answer (λ k. IsShortestFromOne arc n starts ends at k)
  pub first : IfSome answer (λ k. at 0 ≡ next)
  pub closed : IfNone answer (IsClosed arc n starts ends X)
  pub reached : IfNone answer (IsReachedSet arc n starts X)

-- what is left out grows from `before` to X, and holds the starts before `next`: so many looks were made at places that
-- were not left out before, and where no walk is found all of these are left out now
pub record HasLeftOut (arc : ℕ → ℕ → Bool) (n : ℕ) (starts ends before X : ℕ → Bool) (next looks : ℕ)
    (answer : Option ℕ) : Type 0 where
  pub left : IsLeftOut arc n starts ends X next
  pub grown : IsWithin n before X
  pub looked : AreLookedAtInVain arc n starts ends before looks
  pub size : IfNone answer (size_on X n ≡ size_on before n + looks)
