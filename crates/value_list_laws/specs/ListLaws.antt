-- Laws of the first value list that reaches the structural rank.
use Rattle.std.specs.Prelude.{ℕ, ◌≡◌, ◌↔◌, true, List, length}
use Rattle.residue_theory.specs.Residues.{IsPrime}
use Rattle.mixed_matrices.specs.Models.{MixedMatrix}
use Rattle.value_list_laws.specs.FixedSymbols.{IsSymbolPlace, KeepsRank, ReachesRank, fixed}
use Rattle.value_list_laws.specs.ListedValues.{IsFirstReachingList, values_of, symbol_count}
use Rattle.value_list_laws.specs.ValueLists.{IsFirstList, IsGreedyList, IsValueList, before, run, with_one_next}
use Rattle.value_list_laws.specs.ValueLists.{with_ones_next}

-- there is one, and all such lists have the same values at the symbols
abbrev pub ThereIsOneFirstList : Type 0
ThereIsOneFirstList =
    (p : ℕ) → IsPrime p → (M : MixedMatrix) →
    (v : ℕ → ℕ → ℕ) × IsFirstList p M v
    × ((u : ℕ → ℕ → ℕ) → IsFirstList p M u → (i j : ℕ) → IsSymbolPlace M i j → u i j ≡ v i j)

-- it is the greedy list
abbrev pub GreedyListsAreTheFirst : Type 0
GreedyListsAreTheFirst =
    (p : ℕ) → IsPrime p → (M : MixedMatrix) (v : ℕ → ℕ → ℕ) → IsGreedyList p M v ↔ IsFirstList p M v

-- and a value list that reaches the rank is told by its twos alone: at none of them would 1 keep the rank
abbrev pub TwosShowTheFirstList : Type 0
TwosShowTheFirstList =
    (p : ℕ) → IsPrime p → (M : MixedMatrix) (v : ℕ → ℕ → ℕ) → IsValueList M v → ReachesRank p M v →
    ((i j : ℕ) → IsSymbolPlace M i j → v i j ≡ 2 → KeepsRank p M (with_one_next M v i j) → ⊥) → IsFirstList p M v

-- with the first symbols fixed as in the first list the rank stays, up to each place
abbrev pub StepsKeepTheRank : Type 0
StepsKeepTheRank =
    (p : ℕ) (M : MixedMatrix) (v : ℕ → ℕ → ℕ) → IsFirstList p M v → (i j : ℕ) → KeepsRank p M (fixed (before i j) v M)

-- a whole run is of ones exactly where ones there keep the rank
abbrev pub RunsAreTriedAtOnce : Type 0
RunsAreTriedAtOnce =
    (p : ℕ) → IsPrime p → (M : MixedMatrix) (v : ℕ → ℕ → ℕ) → IsFirstList p M v → (i j k l : ℕ) →
    KeepsRank p M (with_ones_next M v i j k l)
    ↔ ((a b : ℕ) → IsSymbolPlace M a b → run i j k l a b ≡ true → v a b ≡ 1)

-- as data: there is one answer
abbrev pub ThereIsOneAnswer : Type 0
ThereIsOneAnswer =
    (p : ℕ) → IsPrime p → (M : MixedMatrix) →
    (list : List ℕ) × IsFirstReachingList p M list
    × ((other : List ℕ) → IsFirstReachingList p M other → other ≡ list)

-- and a list of the right length is the answer exactly where the values that it gives are the first
abbrev pub AnswersGiveTheFirstList : Type 0
AnswersGiveTheFirstList =
    (p : ℕ) → IsPrime p → (M : MixedMatrix) (list : List ℕ) → length list ≡ symbol_count M →
    IsFirstReachingList p M list ↔ IsFirstList p M (values_of M list)
