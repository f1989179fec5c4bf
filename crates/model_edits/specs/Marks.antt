-- Items of a line that are put into an equation one after another, and marks at the unknowns that they name.
use Rattle.std.specs.Prelude.{ℕ, ◌<◌, ◌≤◌, ◌≡◌, Bool, false, true, List, fold, length, map, slice_index_or}
use Rattle.std.specs.Prelude.{Result, Ok, Err}
use Rattle.limits.specs.Limits.{equation_limit}
use Rattle.refusals.specs.declared.Why.{Why}
use Rattle.refusals.specs.declared.Why.TheVariants.{Twice}
use Rattle.refusals.specs.declared.fault.Fault.TheVariants.{Broken}
use Rattle.mixed_model.specs.declared.errors.AddError.{AddError}
use Rattle.mixed_model.specs.Faults.{fault_of}
use Rattle.mixed_model.specs.Models.{MixedModel, constant_at, symbol_of}
use Rattle.mixed_model.specs.Names.{has_name, name_at, see}
use Rattle.matrix_reader.specs.Items.{unknown_of}
use Rattle.matrix_reader.specs.Models.{said_of, symbol_said}
use Rattle.model_edit_laws.specs.Edits.{IsEditedAt}

-- equation i holds what the items say, and the unknowns that they are first to name come last
pub record SaysItems (p : ℕ) (old new : MixedModel) (i : ℕ) (items : List (List ℕ)) : Type 0 where
  pub equations : new.equations ≡ old.equations
  pub unknowns : new.unknowns ≡ fold see old.unknowns (map unknown_of items)
  pub constants : (j : ℕ) → j < length new.unknowns →
      constant_at new i j ≡ said_of p items (name_at new.unknowns j)
  pub symbols : (j : ℕ) → j < length new.unknowns →
      symbol_of new i j ≡ symbol_said items (name_at new.unknowns j)
  pub edited : IsEditedAt old new i

-- of all columns that may be, those of the unknowns that the items name are marked
pub record MarksItems (marks : List Bool) (unknowns items : List (List ℕ)) : Type 0 where
  pub columns : length marks ≡ equation_limit
  pub named : (j : ℕ) → j < length unknowns →
      slice_index_or marks j false ≡ has_name (map unknown_of items) (name_at unknowns j)
  pub others : (j : ℕ) → length unknowns ≤ j → slice_index_or marks j false ≡ false

-- why an unknown is not marked: it is marked already, or it can't be added
abbrev pub IsUnmarked : Result ℕ AddError → List Bool → Why → Type 0
IsUnmarked (Ok j) marks why = (why ≡ Twice) × (slice_index_or marks j false ≡ true)
IsUnmarked (Err error) marks why = fault_of error ≡ Broken why
