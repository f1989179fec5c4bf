-- What callers see of an engine.
use Rattle.std.specs.Prelude.{ℕ, ◌+◌, ◌*◌, ◌<◌, ◌≤◌, ◌≡◌, ◌⊎◌, ◌↔◌, Bool, false}
use Rattle.residue_theory.specs.Sets.{IsWithin}
use Rattle.residue_theory.specs.Sums.{size_on}
use Rattle.linear_algebra.specs.Products.{Agree}
use Rattle.bipartite_matching.specs.Matchings.{Matching}
use Rattle.exchange_graph.specs.Counts.{counted_on}
use Rattle.exchange_graph.specs.Results.{Found, vain_of}
use Rattle.row_transform.specs.Bases.{raised}
use Rattle.row_transform.specs.Tableaus.{TableauState}
use Rattle.mixed_matrices.specs.Arcs.{HasNoWalk, IsClosedIn, IsReachedFromFree}
use Rattle.mixed_matrices.specs.LayeredMatrices.{LayeredMatrix}
use Rattle.mixed_matrices.specs.Pairs.{IsBest, pair_size}
use Rattle.mixed_matrices.specs.SetFunctions.{IsMinimiser}
use Rattle.mixed_matrices.specs.StructuralRanks.{IsLayeredRank}
use Rattle.mixed_matrices.specs.Tableaus.{Tableau, HasTableau}
use Rattle.dense_q.specs.Tables.{entry}
use Rattle.mixed_model.specs.Layers.{Layers, layered_matrix_of}
use Rattle.independent_matching.specs.Changes.{IsEdit}
use Rattle.independent_matching.specs.declared.change.Change.{Change}
use Rattle.independent_matching.specs.Sides.{is_matched, layers_of, size_of, tableau_of_pair}

-- the tableau of Q, the matching in T, what the last search found, how many pivots and looks there were, and how many
-- searches the last run made
pub record Standing (A : Type 0) : Type 0 where
  pub tableau : A
  pub matching : Matching
  pub found : Found
  pub pivots : ℕ
  pub looks : ℕ
  pub searches : ℕ

-- the layered matrix with the entries q in place of those that the tableau keeps
abbrev pub layers : (ℕ → ℕ → ℕ) → TableauState → Matching → LayeredMatrix
layers q S M = record (layers_of S M) { q = q }

-- the entries q are those that the tableau came from, modulo p
abbrev pub AreOpenedEntries : ℕ → TableauState → (ℕ → ℕ → ℕ) → Type 0
AreOpenedEntries p S q = Agree p S.rows S.columns S.q q

-- nothing was looked at, and nothing is left out
pub record IsFresh (found : Found) : Type 0 where
  pub looks : found.looks ≡ 0
  pub all_looks : found.all_looks ≡ 0
  pub none_left_out : (y : ℕ) → vain_of found y ≡ false
  pub next : found.next ≡ 0

-- as it is opened, with the layered matrix L, in which the tableau has the entries q: the pair is empty, no pivot was
-- made, and nothing was looked at or left out
pub record IsOpenedOver (A : Type 0) (state : A → TableauState) (p : ℕ) (q : ℕ → ℕ → ℕ) (L : LayeredMatrix)
    (e : Standing A)
    : Type 0 where
  pub layers_are : layers q (state e.tableau) e.matching ≡ L
  pub entries : AreOpenedEntries p (state e.tableau) q
  pub empty : size_of (state e.tableau) e.matching ≡ 0
  pub none_told : (e.pivots ≡ 0) × (e.looks ≡ 0) × (e.searches ≡ 0)
  pub fresh : IsFresh e.found

-- S is a tableau of the matrix q, with m rows and n columns, that has no base column
pub record IsBareOver (p m n : ℕ) (q : ℕ → ℕ → ℕ) (S : TableauState) : Type 0 where
  pub rows_are : S.rows ≡ m
  pub columns_are : S.columns ≡ n
  pub q_is : Agree p m n S.q q
  pub no_base : (y : ℕ) → y < n → S.base y ≡ false

-- the pair is best, its size is the structural rank, the minimisers are the closed sets, and what is reached is the
-- least one
pub record IsSolved (p : ℕ) (L : LayeredMatrix) (F : Tableau) (reached : ℕ → Bool) : Type 0 where
  pub tableau : HasTableau p L F
  pub best : IsBest p L F.base F.matched
  pub rank : IsLayeredRank p L (pair_size L F.base F.matched)
  pub no_walk : HasNoWalk p L F
  pub minimisers : (X : ℕ → Bool) → IsMinimiser p L X ↔ IsClosedIn p L F X
  pub from_free : IsReachedFromFree p L F reached
  pub minimiser : IsMinimiser p L reached
  pub least : (Y : ℕ → Bool) → IsMinimiser p L Y → IsWithin L.columns reached Y

-- the steps from a pair of size s to one of size m, over n columns: m - s + 1 searches with at most n looks, and after
-- each but the last at most as many pivots as there were base columns, and one
abbrev pub AreFewSteps : ℕ → ℕ → ℕ → ℕ → ℕ → Type 0
AreFewSteps n s m before after = after + (s * n + s * s) ≤ before + (m + 1) * n + m * m

-- nothing was looked at, and no look is counted; or a walk was looked for, and its looks are counted
abbrev pub AreLooksOfSearch : Found → Found → ℕ → ℕ → Type 0
AreLooksOfSearch found now before after =
    ((now ≡ found) × (after ≡ before))
    ⊎ ((now.all_looks ≡ counted_on found.all_looks now.looks) × (after ≡ before + now.looks))

-- the looks of the searches that were made are those that were counted
abbrev pub AreLooksOfSearches : Found → Found → ℕ → ℕ → Type 0
AreLooksOfSearches found now before after =
    (k : ℕ) × (after ≡ before + k) × (now.all_looks ≡ counted_on found.all_looks k)

-- while a pair grows from s columns to m: the pivots, for each column that it gains at most as many as it had, and one
abbrev pub AreFewPivots : ℕ → ℕ → ℕ → ℕ → Type 0
AreFewPivots s m before after = after + s * s ≤ before + m * m

-- the pivots that were told, from `before` to `after`, are those that the tableau made: its own count rose by them,
-- from `count` to `now`
abbrev pub ArePivotsMade : ℕ → ℕ → ℕ → ℕ → Type 0
ArePivotsMade count now before after = (k : ℕ) × (after ≡ before + k) × (now ≡ raised count k)

-- the steps from `before` to `after` are at most so many, and they are pivots: those that were told, from `old` to
-- `now`,
-- and those that the tableau made, whose own count rose from `count` to `made`
pub record ArePivotSteps (most before after old now count made : ℕ) : Type 0 where
  pub few : after ≤ before + most
  pub told : after + old ≡ before + now
  pub all : ArePivotsMade count made old now

-- while a pair grows from s columns to m, over n columns, and what is left out from `left` columns to `now`: the looks,
-- for each column that the pair gains at most n, and one for each column that is left out
abbrev pub AreFewLooks : ℕ → ℕ → ℕ → ℕ → ℕ → ℕ → ℕ → Type 0
AreFewLooks n s m left now before after = after + s * n + left ≤ before + m * n + now

-- what a run makes of an engine, over tableaus of type A that tell a state and a count of their pivots, while it takes
-- the steps from `before` to `after`
pub record HasRun (A : Type 0) (state : A → TableauState) (count : A → ℕ) (p : ℕ) (old now : Standing A)
    (before after : ℕ)
    : Type 0 where
  -- the layered matrix is as before, and so are the entries that the tableau came from
  pub same : (q : ℕ → ℕ → ℕ) → layers q (state now.tableau) now.matching ≡ layers q (state old.tableau) old.matching
  pub entries : (q : ℕ → ℕ → ℕ) → AreOpenedEntries p (state old.tableau) q → AreOpenedEntries p (state now.tableau) q
  -- the pair is best, and what the last search reached is the least minimiser
  pub solved : (q : ℕ → ℕ → ℕ) → AreOpenedEntries p (state now.tableau) q →
      IsSolved p (layers q (state now.tableau) now.matching) (tableau_of_pair (state now.tableau) now.matching)
      (vain_of now.found)
  -- what was left out is left out for good
  pub kept : IsWithin (state old.tableau).columns (vain_of old.found) (vain_of now.found)
  -- the steps are few, and they are the pivots and the looks that are told
  pub steps : AreFewSteps (state old.tableau).columns (size_of (state old.tableau) old.matching)
      (size_of (state now.tableau) now.matching) before after
  pub told : after + (old.pivots + old.looks) ≡ before + (now.pivots + now.looks)
  -- the pivots are few, and they are all that the tableau made
  pub few_pivots : AreFewPivots (size_of (state old.tableau) old.matching) (size_of (state now.tableau) now.matching)
      old.pivots now.pivots
  pub made : ArePivotsMade (count old.tableau) (count now.tableau) old.pivots now.pivots
  -- the looks are few, and they are those of all searches
  pub few_looks : AreFewLooks (state old.tableau).columns (size_of (state old.tableau) old.matching)
      (size_of (state now.tableau) now.matching) (size_on (vain_of old.found) (state old.tableau).columns)
      (size_on (vain_of now.found) (state old.tableau).columns) old.looks now.looks
  pub looked : AreLooksOfSearches old.found now.found old.looks now.looks
  -- there was a search for each column that the pair gained, and one more
  pub searches : now.searches + size_of (state old.tableau) old.matching ≡ size_of (state now.tableau) now.matching + 1

-- the pair has grown by a column, while an improvement took the steps from `before` to `after`
pub record HasGrown (A : Type 0) (state : A → TableauState) (count : A → ℕ) (old now : Standing A) (before after : ℕ)
    : Type 0 where
  pub size : size_of (state now.tableau) now.matching ≡ size_of (state old.tableau) old.matching + 1
  -- what was left out is left out for good
  pub kept : IsWithin (state old.tableau).columns (vain_of old.found) (vain_of now.found)
  -- the steps are the pivots and the looks that are told
  pub told : after + (old.pivots + old.looks) ≡ before + (now.pivots + now.looks)
  -- the pivots are few, and they are all that the tableau made
  pub few_pivots : now.pivots ≤ old.pivots + size_on (state old.tableau).base (state old.tableau).columns + 1
  pub made : ArePivotsMade (count old.tableau) (count now.tableau) old.pivots now.pivots
  pub few_looks : now.looks ≤ old.looks + (state old.tableau).columns
  pub searched : AreLooksOfSearch old.found now.found old.looks now.looks

-- the pair is best and stays, which an improvement found by the steps from `before` to `after`
pub record HasStayed (A : Type 0) (state : A → TableauState) (p : ℕ) (old now : Standing A) (before after : ℕ)
    : Type 0 where
  pub solved : (q : ℕ → ℕ → ℕ) → AreOpenedEntries p (state now.tableau) q →
      IsSolved p (layers q (state now.tableau) now.matching) (tableau_of_pair (state now.tableau) now.matching)
      (vain_of now.found)
  pub tableau : now.tableau ≡ old.tableau
  pub matching : now.matching ≡ old.matching
  pub pivots : now.pivots ≡ old.pivots
  -- what was left out is left out for good
  pub kept : IsWithin (state old.tableau).columns (vain_of old.found) (vain_of now.found)
  -- the steps are the looks of the search, one at each column that it reached and that was not left out before
  pub told : after + old.looks ≡ before + now.looks
  pub looks : now.looks + size_on (vain_of old.found) (state old.tableau).columns
      ≡ old.looks + size_on (vain_of now.found) (state old.tableau).columns
  pub looked : now.looks ≡ old.looks + now.found.looks
  pub all_looks : now.found.all_looks ≡ counted_on old.found.all_looks now.found.looks

-- no pivot and no look is told, and no search
pub record IsStarted (A : Type 0) (e : Standing A) : Type 0 where
  pub none_told : (e.pivots ≡ 0) × (e.looks ≡ 0) × (e.searches ≡ 0)
  pub fresh : IsFresh e.found

-- all is as before, but there may be more room
pub record HasKept (A : Type 0) (state : A → TableauState) (count : A → ℕ) (old now : Standing A) : Type 0 where
  pub tableau : state now.tableau ≡ state old.tableau
  pub counted : count now.tableau ≡ count old.tableau
  pub matching : now.matching ≡ old.matching
  pub found : now.found ≡ old.found
  pub told : (now.pivots ≡ old.pivots) × (now.looks ≡ old.looks) × (now.searches ≡ old.searches)

-- the engine is at a best pair, and `new` is its layered matrix after the change
pub record IsEditOfBest (p : ℕ) (change : Change) (S : TableauState) (M : Matching) (new : Layers) : Type 0 where
  pub entries : ℕ → ℕ → ℕ
  pub opened : AreOpenedEntries p S entries
  pub best : IsBest p (layers entries S M) S.base (is_matched M)
  pub edit : IsEdit change (layers entries S M) new

-- the engine is at a best pair of `new`
pub record IsUpdated (A : Type 0) (state : A → TableauState) (p : ℕ) (new : Layers) (e : Standing A) : Type 0 where
  pub layers_are : layers (entry new.q) (state e.tableau) e.matching ≡ layered_matrix_of new
  pub entries : AreOpenedEntries p (state e.tableau) (entry new.q)
  pub solved : IsSolved p (layered_matrix_of new) (tableau_of_pair (state e.tableau) e.matching) (vain_of e.found)
