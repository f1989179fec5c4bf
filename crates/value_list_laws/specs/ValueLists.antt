-- Value lists: a 1 or a 2 for each symbol of a model, by rising equation and then unknown.
use Rattle.std.specs.Prelude.{ℕ, ◌<◌, ◌≡◌, ◌↔◌, Bool, true, eqb, ltb, not, ◌&&◌, ◌||◌}
use Rattle.mixed_matrices.specs.Models.{MixedMatrix}
use Rattle.mixed_layering_laws.specs.LayeredValues.{IsOneOrTwo}
use Rattle.value_list_laws.specs.FixedSymbols.{HaveNumbersAt, IsSymbolPlace, KeepsRank, ReachesRank, fixed, fixed_at}

-- the places before (i, j): those of an earlier equation, and of the same one those at an earlier unknown
abbrev pub before : ℕ → ℕ → ℕ → ℕ → Bool
before i j k l = ltb k i || (eqb k i && ltb l j)

-- v is a value list: at each symbol 1 or 2
abbrev pub IsValueList : MixedMatrix → (ℕ → ℕ → ℕ) → Type 0
IsValueList M v = (i j : ℕ) → IsSymbolPlace M i j → IsOneOrTwo (v i j)

-- u comes before v: at the first symbol at which they differ it has the smaller value
abbrev pub ComesBefore : MixedMatrix → (ℕ → ℕ → ℕ) → (ℕ → ℕ → ℕ) → Type 0
ComesBefore M u v = (i j : ℕ) × IsSymbolPlace M i j × (u i j < v i j)
    × ((k l : ℕ) → IsSymbolPlace M k l → before i j k l ≡ true → u k l ≡ v k l)

-- v is a value list that reaches the rank, and no value list that comes before it does
pub record IsFirstList (p : ℕ) (M : MixedMatrix) (v : ℕ → ℕ → ℕ) : Type 0 where
  pub list : IsValueList M v
  pub reaches : ReachesRank p M v
  pub first : (u : ℕ → ℕ → ℕ) → IsValueList M u → ReachesRank p M u → ComesBefore M u v → ⊥

-- M with all symbols before (i, j) fixed as in v, and the one at (i, j) fixed to 1
abbrev pub with_one_next : MixedMatrix → (ℕ → ℕ → ℕ) → ℕ → ℕ → MixedMatrix
with_one_next M v i j = fixed_at i j 1 (fixed (before i j) v M)

-- v is the greedy list: it has 1 where that keeps the rank, all earlier symbols being fixed as in v, and 2 elsewhere
pub record IsGreedyList (p : ℕ) (M : MixedMatrix) (v : ℕ → ℕ → ℕ) : Type 0 where
  pub list : IsValueList M v
  pub one : (i j : ℕ) → IsSymbolPlace M i j → (v i j ≡ 1) ↔ KeepsRank p M (with_one_next M v i j)

-- w is a witness before (i, j): it reaches the rank, and has the numbers of v at the symbols before
abbrev pub IsWitness : ℕ → MixedMatrix → (ℕ → ℕ → ℕ) → ℕ → ℕ → (ℕ → ℕ → ℕ) → Type 0
IsWitness p M v i j w = HaveNumbersAt p M (before i j) v w × ReachesRank p M w

-- the places from (i, j) up to those before (k, l)
abbrev pub run : ℕ → ℕ → ℕ → ℕ → ℕ → ℕ → Bool
run i j k l a b = before k l a b && not (before i j a b)

-- M with all symbols before (i, j) fixed as in v, and those of the run from there up to (k, l) fixed to 1
abbrev pub with_ones_next : MixedMatrix → (ℕ → ℕ → ℕ) → ℕ → ℕ → ℕ → ℕ → MixedMatrix
with_ones_next M v i j k l = fixed (run i j k l) (λ _ _. 1) (fixed (before i j) v M)
