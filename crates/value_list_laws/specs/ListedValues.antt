-- Value lists as data: the values of the symbols one after the other, by rising equation and then unknown.
use Rattle.std.specs.Prelude.{ℕ, ◌+◌, ◌<◌, ◌≡◌, List, length, slice_index_or}
use Rattle.residue_theory.specs.Sums.{size_on, sum_below}
use Rattle.mixed_matrices.specs.Models.{MixedMatrix}
use Rattle.mixed_layering_laws.specs.LayeredValues.{IsOneOrTwo}
use Rattle.value_list_laws.specs.FixedSymbols.{ReachesRank}

-- how many symbols M has
abbrev pub symbol_count : MixedMatrix → ℕ
symbol_count M = sum_below M.rows (λ k. size_on (M.symbol k) M.columns)

-- how many of them stand before (i, j)
abbrev pub symbols_before : MixedMatrix → ℕ → ℕ → ℕ
symbols_before M i j = sum_below i (λ k. size_on (M.symbol k) M.columns) + size_on (M.symbol i) j

-- the number that a list gives to the symbol at (i, j)
abbrev pub values_of : MixedMatrix → List ℕ → ℕ → ℕ → ℕ
values_of M list i j = slice_index_or list (symbols_before M i j) 0

-- the list is a value list, with a 1 or a 2 for each symbol, and reaches the rank
pub record IsReachingList (p : ℕ) (M : MixedMatrix) (list : List ℕ) : Type 0 where
  pub length : length list ≡ symbol_count M
  pub small : (h : ℕ) → h < symbol_count M → IsOneOrTwo (slice_index_or list h 0)
  pub reaches : ReachesRank p M (values_of M list)

-- at the first place at which the lists differ, the first one has the smaller value
abbrev pub ListComesBefore : List ℕ → List ℕ → Type 0
ListComesBefore list other = (h : ℕ) × (h < length other) × (slice_index_or list h 0 < slice_index_or other h 0)
    × ((g : ℕ) → g < h → slice_index_or list g 0 ≡ slice_index_or other g 0)

-- the list is the answer: it reaches the rank, and no list that comes before it does
pub record IsFirstReachingList (p : ℕ) (M : MixedMatrix) (list : List ℕ) : Type 0 where
  pub reaching : IsReachingList p M list
  pub first : (other : List ℕ) → IsReachingList p M other → ListComesBefore other list → ⊥
