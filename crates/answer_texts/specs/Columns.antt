-- The origins of columns.
use Rattle.std.specs.Prelude.{◌<◌, length}
use Rattle.mixed_model.specs.Models.{MixedModel}
use Rattle.mixed_model.specs.declared.origin.Origin.{Origin}
use Rattle.mixed_model.specs.declared.origin.Origin.TheVariants.{Unknown, Split}

-- the unknown, or the split equation, is one of the model
abbrev pub IsOriginIn : MixedModel → Origin → Type 0
IsOriginIn model (Unknown unknown) = unknown < length model.unknowns
IsOriginIn model (Split equation) = equation < length model.equations
