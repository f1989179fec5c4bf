-- Systems of equations by names, and their models.
use Rattle.std.specs.Prelude.{◌≡◌, ℕ, ◌<◌, List, length, slice_index_or, []}
use Rattle.mixed_model.specs.Models.{MixedModel, IsModel, constant_at, symbol_of}
use Rattle.term_model.specs.Terms.{Term, said_of, symbol_said}

-- A system: the names of its equations and of its unknowns, in order, and the terms that stand in the equations.
pub record System : Type 0 where
  pub equations : List (List ℕ)
  pub unknowns : List (List ℕ)
  pub terms : List Term

-- The model of a system: its equations and unknowns, and at each place what its terms say of it.
pub record IsModelOf (p : ℕ) (system : System) (model : MixedModel) : Type 0 where
  pub is_model : IsModel p model
  pub equations_are : model.equations ≡ system.equations
  pub unknowns_are : model.unknowns ≡ system.unknowns
  pub constants_are : (i j : ℕ) → i < length model.equations → j < length model.unknowns
      → constant_at model i j
      ≡ said_of p system.terms (slice_index_or model.equations i []) (slice_index_or model.unknowns j [])
  pub symbols_are : (i j : ℕ) → i < length model.equations → j < length model.unknowns
      → symbol_of model i j
      ≡ symbol_said system.terms (slice_index_or model.equations i []) (slice_index_or model.unknowns j [])
