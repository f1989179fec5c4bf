-- Models, seen as data, and what the calls of `Mixed` leave.
use Rattle.std.specs.Prelude.{◌≡◌, ℕ, ◌&&◌, ◌||◌, Bool, List, [], ◌∷◌, ◌++◌, length, nat_eq, if◌then◌else◌, Option, Some, unwrap_or}
use Rattle.std.specs.Prelude.{slice_index_or, remove, All}
use Rattle.mixed_matrices.specs.Models.{MixedMatrix}
use Rattle.mixed_model.specs.Entries.{RowEntry}
use Rattle.mixed_model.specs.Names.{IsNameList, see}
use Rattle.mixed_model.specs.Rows.{IsRow, AreColumnsBelow, constant_in, symbol_in}

-- A model: the names of its equations and of its unknowns, in order, and for each equation its entries by rising
-- column.
pub record MixedModel : Type 0 where
  pub equations : List (List ℕ)
  pub unknowns : List (List ℕ)
  pub rows : List (List RowEntry)

-- the row of equation i
abbrev pub row_of : MixedModel → ℕ → List RowEntry
row_of model i = slice_index_or model.rows i []

-- the constant of equation i at unknown j, where there is one
abbrev pub constant_of : MixedModel → ℕ → ℕ → Option ℕ
constant_of model i j = constant_in (row_of model i) j

-- whether equation i has a symbol at unknown j
abbrev pub symbol_of : MixedModel → ℕ → ℕ → Bool
symbol_of model i j = symbol_in (row_of model i) j

-- the matrix of a model's constants, with 0 where there is none
abbrev pub constant_at : MixedModel → ℕ → ℕ → ℕ
constant_at model i j = unwrap_or (constant_of model i j) 0

-- the mixed matrix of a model
abbrev pub mixed_matrix_of : MixedModel → MixedMatrix
mixed_matrix_of model = record {
  rows = length model.equations;
  columns = length model.unknowns;
  constant = constant_at model;
  symbol = symbol_of model;
}

-- Names are few and differ, each equation has a row, the columns of the rows are unknowns, and their constants are
-- residues modulo p.
pub record IsModel (p : ℕ) (model : MixedModel) : Type 0 where
  pub equations : IsNameList model.equations
  pub unknowns : IsNameList model.unknowns
  pub one_row_each : length model.rows ≡ length model.equations
  pub rows : All (λ row. IsRow p row × AreColumnsBelow (length model.unknowns) row) model.rows

-- a model without equations and unknowns
abbrev pub empty_model : MixedModel
empty_model = record { equations = []; unknowns = []; rows = [] }

-- one more equation, with nothing at its places
abbrev pub with_equation : MixedModel → List ℕ → MixedModel
with_equation model name = record model { equations = model.equations ++ name ∷ []; rows = model.rows ++ [] ∷ [] }

-- without equation i: later ones move up by one
abbrev pub equation_removed : MixedModel → ℕ → MixedModel
equation_removed model i = record model { equations = remove model.equations i; rows = remove model.rows i }

-- one more unknown
abbrev pub with_unknown : MixedModel → List ℕ → MixedModel
with_unknown model name = record model { unknowns = model.unknowns ++ name ∷ [] }

-- one more unknown, unless it is there
abbrev pub with_seen_unknown : MixedModel → List ℕ → MixedModel
with_seen_unknown model name = record model { unknowns = see model.unknowns name }

-- The new model is the old one with a constant at the place (i, j).
pub record PutsAt (old new : MixedModel) (i j constant : ℕ) : Type 0 where
  pub equations : new.equations ≡ old.equations
  pub unknowns : new.unknowns ≡ old.unknowns
  pub constants : (k c : ℕ) → constant_of new k c
      ≡ (if nat_eq i k && nat_eq j c then Some constant else constant_of old k c)
  pub symbols : (k c : ℕ) → symbol_of new k c ≡ symbol_of old k c

-- The new model is the old one with a symbol at the place (i, j).
pub record PutsSymbolAt (old new : MixedModel) (i j : ℕ) : Type 0 where
  pub equations : new.equations ≡ old.equations
  pub unknowns : new.unknowns ≡ old.unknowns
  pub constants : (k c : ℕ) → constant_of new k c ≡ constant_of old k c
  pub symbols : (k c : ℕ) → symbol_of new k c ≡ (nat_eq i k && nat_eq j c || symbol_of old k c)

-- The new model is the old one with just this constant and this symbol at the place (i, j).
pub record SetsPlace (old new : MixedModel) (i j : ℕ) (constant : Option ℕ) (symbol : Bool) : Type 0 where
  pub equations : new.equations ≡ old.equations
  pub unknowns : new.unknowns ≡ old.unknowns
  pub constants : (k c : ℕ) → constant_of new k c
      ≡ (if nat_eq i k && nat_eq j c then constant else constant_of old k c)
  pub symbols : (k c : ℕ) → symbol_of new k c ≡ (if nat_eq i k && nat_eq j c then symbol else symbol_of old k c)
