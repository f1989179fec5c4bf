-- A model that is edited, with its layered matrix and an engine at a best pair of it.
use Rattle.std.specs.Prelude.{ℕ, ◌≡◌}
use Rattle.mixed_model.specs.Models.{IsModel, MixedModel}
use Rattle.mixed_model.specs.Layers.{Layers}
use Rattle.mixed_layering.specs.Layers.{AreLayersOf}
use Rattle.row_transform.specs.Tableaus.{TableauState}
use Rattle.independent_matching.specs.Engines.{HasKept, IsUpdated, Standing}

-- the model, its layered matrix, and what is seen of the engine, over tableaus of type A
pub record HeldModel (A : Type 0) : Type 0 where
  pub model : MixedModel
  pub layers : Layers
  pub engine : Standing A

-- the layered matrix is that of the model, and the engine is at a best pair of it
pub record IsHeld (A : Type 0) (state : A → TableauState) (p : ℕ) (h : HeldModel A) : Type 0 where
  pub model : IsModel p h.model
  pub layers : AreLayersOf h.model h.layers
  pub best : IsUpdated A state p h.layers h.engine

-- model and layered matrix are as before, and so are the states and counts of the engine
pub record HasStayedHeld (A : Type 0) (state : A → TableauState) (count : A → ℕ) (old now : HeldModel A) : Type 0 where
  pub model : now.model ≡ old.model
  pub layers : now.layers ≡ old.layers
  pub engine : HasKept A state count old.engine now.engine
