-- Conflict sets as lists: several equations may have one.
use Rattle.std.specs.Prelude.{ℕ, ◌+◌, ◌<◌, ◌≡◌, Bool, true, false, List, [], length, slice_index_or, Option, Some, None}
use Rattle.std.specs.List.Sorted.{IsStrictlyIncreasing}
use Rattle.residue_theory.specs.Sets.{IsWithin, has}
use Rattle.residue_theory.specs.Sums.{size_on}
use Rattle.mixed_matrices.specs.Models.{MixedMatrix}
use Rattle.mixed_matrices.specs.Layerings.{has_symbol}
use Rattle.mixed_matrices.specs.Removals.{IsSurplus}
use Rattle.mixed_model.specs.Layers.{Layers}
use Rattle.mixed_model.specs.Models.{MixedModel, mixed_matrix_of}
use Rattle.mixed_layering.specs.Layers.{AreLayersOf}
use Rattle.exchange_graph.specs.Marks.{members_of}
use Rattle.equation_matroid_laws.specs.Conflicts.{IsConflictSet}
use Rattle.equation_choice.specs.Places.{place_at}
use Rattle.equation_matroid_laws.specs.EquationRanks.{AreIndependent, IsRankOf}

-- the list at k
abbrev pub set_at : List (List ℕ) → ℕ → List ℕ
set_at sets k = slice_index_or sets k []

-- the list at k is the first one that holds e
pub record IsFirstWith (sets : List (List ℕ)) (e k : ℕ) : Type 0 where
  pub below : k < length sets
  pub holds : has (set_at sets k) e ≡ true
  pub first : (j : ℕ) → j < k → has (set_at sets j) e ≡ false

-- the lists hold numbers below n
abbrev pub AreListsBelow : ℕ → List (List ℕ) → Type 0
AreListsBelow n sets = (k x : ℕ) → k < length sets → has (set_at sets k) x ≡ true → x < n

-- no list holds e
abbrev pub HasNoneWith : List (List ℕ) → ℕ → Type 0
HasNoneWith sets e = (k : ℕ) → k < length sets → has (set_at sets k) e ≡ false

-- the table has for each number the first list that holds it
pub record TellsFirst (sets : List (List ℕ)) (first : List (Option ℕ)) : Type 0 where
  pub some : (e k : ℕ) → place_at first e ≡ Some k → IsFirstWith sets e k
  pub none : (e : ℕ) → place_at first e ≡ None → HasNoneWith sets e

-- e is surplus, and the list is its conflict set, rising: R of it is one less than its number, and R of each part that
-- lacks a member is the number of that part
pub record IsConflictList (p : ℕ) (M : MixedMatrix) (e : ℕ) (list : List ℕ) : Type 0 where
  pub surplus : IsSurplus p M e
  pub rising : IsStrictlyIncreasing list
  pub below : (x : ℕ) → has list x ≡ true → x < M.rows
  pub conflict : IsConflictSet p M e (has list)
  pub rank : (r : ℕ) → IsRankOf p M (has list) r → r + 1 ≡ size_on (has list) M.rows
  pub parts : (D : ℕ → Bool) (x : ℕ) → IsWithin M.rows D (has list) → x < M.rows → has list x ≡ true → D x ≡ false →
      AreIndependent p M D

-- exactly the surplus equations are held, each has the first list that holds it for its conflict set
pub record AreConflictLists (p : ℕ) (M : MixedMatrix) (sets : List (List ℕ)) : Type 0 where
  pub below : AreListsBelow M.rows sets
  pub some : (e k : ℕ) → e < M.rows → IsFirstWith sets e k → IsConflictList p M e (set_at sets k)
  pub none : (e : ℕ) → e < M.rows → HasNoneWith sets e → IsSurplus p M e → ⊥

-- whatever model of n equations has these layers and these equations with symbols, these are its conflict sets
abbrev pub TellsConflicts : ℕ → Layers → ℕ → List Bool → List (List ℕ) → Type 0
TellsConflicts p l n symbols sets =
    (model : MixedModel) → AreLayersOf model l → length model.equations ≡ n →
    ((x : ℕ) → x < n → members_of symbols x ≡ has_symbol (mixed_matrix_of model) x) →
    AreConflictLists p (mixed_matrix_of model) sets
