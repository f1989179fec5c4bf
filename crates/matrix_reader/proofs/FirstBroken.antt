-- A text has one first broken rule, or none.
use Rattle.std.proofs.Common.{◌≡◌, ℕ, List}
use Rattle.refusals.specs.declared.Why.{Why}
use Rattle.line_reader.proofs.Rules.{keeps-unbroken, first_broken-one as first_of_rule-one}
use Rattle.mixed_model.specs.Models.{MixedModel}
use Rattle.matrix_reader.specs.Models.{GivesModel, IsFirstBroken}
use Rattle.matrix_reader.specs.Rules.{list_rules}

-- a text that gives a model has none
pub gives-unbroken : (p : ℕ) (text : List ℕ) (model : MixedModel) (n : ℕ) (why : Why) → GivesModel p text model → IsFirstBroken p text n why → ⊥
gives-unbroken p text model n why gives first = keeps-unbroken (list_rules p) text n why gives.kept first

-- two are the same
pub first_broken-one : (p : ℕ) (text : List ℕ) (m n : ℕ) (v w : Why) → IsFirstBroken p text m v → IsFirstBroken p text n w → (m ≡ n) × (v ≡ w)
first_broken-one p text m n v w first second = first_of_rule-one (list_rules p) text m n v w first second
