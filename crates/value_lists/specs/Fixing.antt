-- Symbols of a model that are replaced by numbers, one after another.
use Rattle.std.specs.Prelude.{ℕ, ◌+◌, ◌<◌, ◌≡◌, ◌%◌, List, Option, unwrap_or}
use Rattle.mixed_matrices.specs.Models.{AreSameModels, MixedMatrix}
use Rattle.mixed_layering.specs.Places.{AreTouched}
use Rattle.mixed_model.specs.Models.{MixedModel, constant_at, mixed_matrix_of}
use Rattle.model_edit_laws.specs.Edits.{IsEditedAt}
use Rattle.value_list_laws.specs.FixedSymbols.{IsSymbolPlace, PutsNumberAt, fixed}
use Rattle.value_list_laws.specs.ValueLists.{before}

-- modulo p, N is M with the numbers v in place of its symbols before (i, j)
abbrev pub IsFixedTo : ℕ → MixedMatrix → (ℕ → ℕ → ℕ) → ℕ → ℕ → MixedMatrix → Type 0
IsFixedTo p M v i j N = AreSameModels p N (fixed (before i j) v M)

-- the columns of the symbols of equation i, rising
abbrev pub AreSymbolColumns : MixedMatrix → ℕ → List ℕ → Type 0
AreSymbolColumns M i columns = AreTouched M.columns (M.symbol i) columns

-- v is 1 at each symbol of equation i
abbrev pub IsOneIn : MixedMatrix → ℕ → (ℕ → ℕ → ℕ) → Type 0
IsOneIn M i v = (j : ℕ) → IsSymbolPlace M i j → v i j ≡ 1

-- the constant at a place with c added, modulo p; there is none where that is 0
abbrev pub IsSumAt : ℕ → MixedModel → ℕ → ℕ → ℕ → Option ℕ → Type 0
IsSumAt p model i j c sum = unwrap_or sum 0 % p ≡ (constant_at model i j + c) % p

-- the names are the same, and no other equation changes
pub record IsSameBut (old new : MixedModel) (i : ℕ) : Type 0 where
  pub equations : new.equations ≡ old.equations
  pub unknowns : new.unknowns ≡ old.unknowns
  pub edited : IsEditedAt old new i

-- the number c is put in place of the symbol at (i, j)
pub record FixesAt (p : ℕ) (old new : MixedModel) (i j c : ℕ) : Type 0 where
  pub same : IsSameBut old new i
  pub puts : PutsNumberAt p (mixed_matrix_of old) (mixed_matrix_of new) i j c

-- 1 is put in place of each symbol of equation i, those of all equations before being fixed
pub record FixesOnes (p : ℕ) (old new : MixedModel) (i : ℕ) (columns : List ℕ) : Type 0 where
  pub same : IsSameBut old new i
  pub fixes : (M : MixedMatrix) (v : ℕ → ℕ → ℕ) → i < M.rows → AreSymbolColumns M i columns → IsOneIn M i v →
      IsFixedTo p M v i 0 (mixed_matrix_of old) → IsFixedTo p M v (i + 1) 0 (mixed_matrix_of new)
