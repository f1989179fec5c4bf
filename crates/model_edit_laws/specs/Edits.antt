-- A model of which one equation is edited.
use Rattle.std.specs.Prelude.{ℕ, ◌≤◌, ◌≡◌, ◌≢◌, length}
use Rattle.mixed_model.specs.Models.{MixedModel, constant_of, symbol_of}

-- new is old but for what stands at the places of equation e: it may have more unknowns, behind those of old
pub record IsEditedAt (old new : MixedModel) (e : ℕ) : Type 0 where
  pub equations : length new.equations ≡ length old.equations
  pub unknowns : length old.unknowns ≤ length new.unknowns
  pub constants : (i j : ℕ) → i ≢ e → constant_of new i j ≡ constant_of old i j
  pub symbols : (i j : ℕ) → i ≢ e → symbol_of new i j ≡ symbol_of old i j
