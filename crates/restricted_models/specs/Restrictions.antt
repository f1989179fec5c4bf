-- A model with some of its equations alone.
use Rattle.std.specs.Prelude.{ℕ, List, map}
use Rattle.mixed_model.specs.Models.{MixedModel, row_of}
use Rattle.mixed_model.specs.Names.{name_at}

-- the equations of a list alone, in the order of the list, with all unknowns
abbrev pub restricted : MixedModel → List ℕ → MixedModel
restricted model list = record {
  equations = map (name_at model.equations) list;
  unknowns = model.unknowns;
  rows = map (row_of model) list;
}
