-- Each size has a made model.
use Rattle.std.specs.Prelude.{ℕ, ◌<◌}
use Rattle.made_models.specs.MadeModels.{IsMade, IsSize}
use Rattle.mixed_model.specs.Models.{IsModel, MixedModel}

-- the made model of size n
pub record HasMade (p n : ℕ) : Type 0 where
  pub model : MixedModel
  pub is_model : IsModel p model
  pub made : IsMade n model

-- its constants are numbers below p
abbrev pub EachSizeHasAMadeModel : Type 0
EachSizeHasAMadeModel = (p : ℕ) → 65520 < p → (n : ℕ) → IsSize n → HasMade p n
