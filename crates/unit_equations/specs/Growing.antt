-- A model that grows by a system of equations.
use Rattle.std.specs.Prelude.{◌≡◌, ℕ, ◌<◌, All, List, [], ◌++◌, length}
use Rattle.limits.specs.Limits.{equation_limit}
use Rattle.refusals.specs.Faults.{OnBroken}
use Rattle.refusals.specs.declared.fault.Fault.{Fault}
use Rattle.refusals.specs.declared.Why.TheVariants.{TooMany}
use Rattle.mixed_model.specs.Models.{MixedModel}
use Rattle.term_model.specs.Putting.{IsPlaced, Says}
use Rattle.term_model.specs.Systems.{System}
use Rattle.term_model.specs.Terms.{Term}
use Rattle.unit_equations.specs.Parts.{UnitEquation, system_of}

-- unknowns, and no equations
abbrev pub unknowns_alone : List (List ℕ) → System
unknowns_alone unknowns = record { equations = []; unknowns = unknowns; terms = [] }

-- equations of a unit, over unknowns that are there
abbrev pub equations_alone : List UnitEquation → System
equations_alone equations = system_of (record { unknowns = []; equations = equations })

-- The new model is the old one with a system more: whatever terms the old one has, it has these and the system's.
pub record GrowsBy (p : ℕ) (old new : MixedModel) (system : System) : Type 0 where
  pub equations_are : new.equations ≡ old.equations ++ system.equations
  pub unknowns_are : new.unknowns ≡ old.unknowns ++ system.unknowns
  pub placed : All (IsPlaced new.equations new.unknowns) system.terms
  pub says : (before : List Term) → Says p before old → All (IsPlaced old.equations old.unknowns) before
      → Says p (before ++ system.terms) new

-- A rule that is broken is the limit: these names are more.
abbrev pub IsOverLimit : List (List ℕ) → Fault → Type 0
IsOverLimit names fault = OnBroken fault (λ why. (why ≡ TooMany) × (equation_limit < length names))
