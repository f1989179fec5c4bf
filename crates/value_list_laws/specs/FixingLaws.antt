-- Laws of fixed symbols: what becomes of the structural rank.
use Rattle.std.specs.Prelude.{ℕ, ◌+◌, ◌≡◌, ◌%◌, ◌⊎◌, ◌↔◌, Bool, true, false, ◌||◌}
use Rattle.residue_theory.specs.Residues.{IsPrime}
use Rattle.mixed_matrices.specs.Models.{AreSameModels, MixedMatrix}
use Rattle.mixed_matrices.specs.StructuralRanks.{IsStructuralRank}
use Rattle.mixed_layering_laws.specs.LayeredValues.{IsOneOrTwo}
use Rattle.value_list_laws.specs.FixedSymbols.{IsRankWith, IsSymbolPlace, KeepsRank, LowersRank, PutsNumberAt, fixed}
use Rattle.value_list_laws.specs.FixedSymbols.{fixed_at, place}
use Rattle.value_list_laws.specs.ValueLists.{before}

-- R of the model with fixed symbols is the greatest rank of the values that have these numbers there
abbrev pub FixedRankIsTheRankWith : Type 0
FixedRankIsTheRankWith =
    (p : ℕ) (M : MixedMatrix) (X : ℕ → ℕ → Bool) (c : ℕ → ℕ → ℕ) (r : ℕ) →
    IsStructuralRank p (fixed X c M) r ↔ IsRankWith p M X c r

-- one more symbol fixed, after those of X
abbrev pub SymbolsAreFixedOneByOne : Type 0
SymbolsAreFixedOneByOne =
    (p : ℕ) (M : MixedMatrix) (X : ℕ → ℕ → Bool) (v : ℕ → ℕ → ℕ) (i j : ℕ) → X i j ≡ false →
    AreSameModels p (fixed (λ k l. X k l || place i j k l) v M) (fixed_at i j (v i j) (fixed X v M))

-- one fixed symbol keeps the rank, or takes one
abbrev pub FixedSymbolsTakeAtMostOne : Type 0
FixedSymbolsTakeAtMostOne =
    (p : ℕ) → IsPrime p → (M : MixedMatrix) (i j : ℕ) → IsSymbolPlace M i j → (c r s : ℕ) →
    IsStructuralRank p M r → IsStructuralRank p (fixed_at i j c M) s → (s ≡ r) ⊎ (s + 1 ≡ r)

-- 1 or 2 keeps it
abbrev pub OneOrTwoKeepsTheRank : Type 0
OneOrTwoKeepsTheRank =
    (p : ℕ) → IsPrime p → (M : MixedMatrix) (i j : ℕ) → IsSymbolPlace M i j →
    (c : ℕ) × IsOneOrTwo c × KeepsRank p M (fixed_at i j c M)

-- at most one number lowers it
abbrev pub AtMostOneNumberLowersTheRank : Type 0
AtMostOneNumberLowersTheRank =
    (p : ℕ) → IsPrime p → (M : MixedMatrix) (i j : ℕ) → IsSymbolPlace M i j → (c d : ℕ) →
    LowersRank p M (fixed_at i j c M) → LowersRank p M (fixed_at i j d M) → c % p ≡ d % p

-- where fixed symbols keep the rank, fewer of them do
abbrev pub FewerFixedSymbolsKeepTheRank : Type 0
FewerFixedSymbolsKeepTheRank =
    (p : ℕ) (M : MixedMatrix) (X Y : ℕ → ℕ → Bool) (c : ℕ → ℕ → ℕ) →
    ((i j : ℕ) → IsSymbolPlace M i j → X i j ≡ true → Y i j ≡ true) →
    KeepsRank p M (fixed Y c M) → KeepsRank p M (fixed X c M)

-- a model in which a number is put in place of a symbol is the model with that symbol fixed
abbrev pub NumbersPutFixSymbols : Type 0
NumbersPutFixSymbols =
    (p : ℕ) (M N : MixedMatrix) (i j c : ℕ) → IsSymbolPlace M i j → PutsNumberAt p M N i j c →
    AreSameModels p N (fixed_at i j c M)

-- symbols fixed in order: none before the first place, one more from place to place of a row, none more from the end of
-- a row to the start of the next
abbrev pub PlacesAreFixedInOrder : Type 0
PlacesAreFixedInOrder =
    (p : ℕ) (M : MixedMatrix) (v : ℕ → ℕ → ℕ) →
    AreSameModels p M (fixed (before 0 0) v M)
    × ((i j : ℕ) → AreSameModels p (fixed (before i (j + 1)) v M) (fixed_at i j (v i j) (fixed (before i j) v M)))
    × ((i : ℕ) → AreSameModels p (fixed (before (i + 1) 0) v M) (fixed (before i M.columns) v M))
