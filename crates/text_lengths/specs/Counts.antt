-- How many names a text has at most.
use Rattle.std.specs.Prelude.{ℕ, ◌≤◌, List, length}
use Rattle.mixed_model.specs.Models.{MixedModel}
use Rattle.matrix_reader.specs.Models.{GivesModel}
use Rattle.netlist_reader.specs.Models.{GivesModel as NetlistGivesModel}

-- a model that an equation list gives has no more equations than the text has bytes, and no more unknowns
abbrev pub TextsHaveFewNames : Type 0
TextsHaveFewNames =
    (p : ℕ) (text : List ℕ) (model : MixedModel) → GivesModel p text model →
    (length model.equations ≤ length text) × (length model.unknowns ≤ length text)

-- and the same of a model that a netlist gives
abbrev pub NetlistsHaveFewNames : Type 0
NetlistsHaveFewNames =
    (p : ℕ) (text : List ℕ) (model : MixedModel) → NetlistGivesModel p text model →
    (length model.equations ≤ length text) × (length model.unknowns ≤ length text)
