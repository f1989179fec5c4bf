-- What an edit of a model makes of its mixed matrix.
use Rattle.std.specs.Prelude.{ℕ, ◌<◌, List, length}
use Rattle.mixed_model.specs.Models.{IsModel, MixedModel, equation_removed, mixed_matrix_of, with_equation}
use Rattle.mixed_edit_laws.specs.Changes.{IsAdded, IsChanged, IsRemoved}
use Rattle.model_edit_laws.specs.Edits.{IsEditedAt}

abbrev pub EditedModelsAreChanged : Type 0
EditedModelsAreChanged =
    (p : ℕ) (old new : MixedModel) (e : ℕ) → IsModel p old → e < length old.equations → IsEditedAt old new e →
    IsChanged (mixed_matrix_of old) (mixed_matrix_of new) e

abbrev pub ModelsGainAnEquation : Type 0
ModelsGainAnEquation =
    (p : ℕ) (old new : MixedModel) (name : List ℕ) → IsModel p old →
    IsEditedAt (with_equation old name) new (length old.equations) → IsAdded (mixed_matrix_of old) (mixed_matrix_of new)

abbrev pub ModelsLoseAnEquation : Type 0
ModelsLoseAnEquation =
    (p : ℕ) (old : MixedModel) (e : ℕ) → IsModel p old → e < length old.equations →
    IsRemoved (mixed_matrix_of old) (mixed_matrix_of (equation_removed old e)) e
