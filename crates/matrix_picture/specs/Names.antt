-- The names of the columns and rows of a layered matrix. A column or row that it has not, has no name.
use Rattle.std.specs.Prelude.{ℕ, List, [], ◌++◌, codes, Option, Some, None, slice_get}
use Rattle.mixed_model.specs.Layers.{Layers}
use Rattle.mixed_model.specs.Models.{MixedModel}
use Rattle.mixed_model.specs.declared.origin.Origin.{Origin}
use Rattle.mixed_model.specs.declared.origin.Origin.TheVariants.{Unknown, Split}
use Rattle.matrix_picture.specs.declared.layout.Row.{Row}
use Rattle.matrix_picture.specs.declared.layout.Row.TheVariants.{Constants, Symbols}
use Rattle.mixed_model.specs.Names.{name_at}

-- the name of a column with this origin: that of its unknown, or a star and that of its split equation
abbrev pub origin_name : MixedModel → Option Origin → List ℕ
origin_name model None = []
origin_name model (Some (Unknown unknown)) = name_at model.unknowns unknown
origin_name model (Some (Split equation)) = codes "*" ++ name_at model.equations equation

abbrev pub name_of_column : MixedModel → Layers → ℕ → List ℕ
name_of_column model layers column = origin_name model (slice_get layers.column_origins column)

-- the equation from which a row comes
abbrev pub equation_behind : Layers → Row → Option ℕ
equation_behind layers (Constants row) = slice_get layers.q_origins row
equation_behind layers (Symbols row) = slice_get layers.t_origins row

abbrev pub equation_name : MixedModel → Option ℕ → List ℕ
equation_name model None = []
equation_name model (Some equation) = name_at model.equations equation

abbrev pub name_of_row : MixedModel → Layers → Row → List ℕ
name_of_row model layers row = equation_name model (equation_behind layers row)
