-- The rows and columns of the layers of a model come from its equations and unknowns.
use Rattle.std.proofs.Common.{◌≡◌, ℕ, ◌+◌, ◌-◌, ◌<◌, List, [], length, slice_index, Some, sym, subst, ◌∙◌, arith, ⊎_elim}
use Rattle.std.specs.List.{slice_get}
use Rattle.std.proofs.lemmas.Bool.{cases_lt}
use Rattle.dense_q.specs.Tables.{height}
use Rattle.mixed_layering.specs.Layers.{AreLayersOf}
use Rattle.mixed_model.specs.Models.{MixedModel}
use Rattle.mixed_model.specs.Layers.{Layers}
use Rattle.mixed_model.specs.declared.origin.Origin.{Origin}
use Rattle.mixed_model.specs.declared.origin.Origin.TheVariants.{Unknown, Split}
use Rattle.answer_texts.specs.Columns.{IsOriginIn}
use Rattle.answer_texts.proofs.LayerPieces.{got_or}
use Rattle.mixed_model.specs.Names.{name_at}

-- the name that is got is the one at its place
pub name_is : (names : List (List ℕ)) (k : ℕ) (name : List ℕ) → slice_get names k ≡ Some name → name ≡ name_at names k
name_is names k name got = sym (got_or names k [] name got)

pub q_origin_within : (model : MixedModel) (layers : Layers) (row n : ℕ) → AreLayersOf model layers →
    row < height layers.q → slice_get layers.q_origins row ≡ Some n → n < length model.equations
q_origin_within model layers row n are within got = subst (λ e. e < length model.equations)
    (got_or layers.q_origins row 0 n got) (are.layered.q_rows.below row within)

pub t_origin_within : (model : MixedModel) (layers : Layers) (row n : ℕ) → AreLayersOf model layers →
    row < length layers.t.rows → slice_get layers.t_origins row ≡ Some n → n < length model.equations
t_origin_within model layers row n are within got = subst (λ e. e < length model.equations)
    (got_or layers.t_origins row 0 n got) (are.layered.t_rows.below row within)

pub column_origin_within : (model : MixedModel) (layers : Layers) (column : ℕ) (origin : Origin) →
    AreLayersOf model layers → column < layers.q.width → slice_get layers.column_origins column ≡ Some origin →
    IsOriginIn model origin
column_origin_within model layers column origin are within got = ⊎_elim
    (λ unknown. at (Unknown column) (are.unknowns column unknown) unknown)
    (λ auxiliary.
    let k : ℕ = column - length model.unknowns in
    let below : k < length are.split = omega (arith, are.layered.columns) in
    let place : length model.unknowns + k ≡ column = omega arith in
    at (Split (slice_index are.split k)) (subst (λ j. slice_get layers.column_origins j ≡ Some
    (Split (slice_index are.split k))) place (are.auxiliary k below)) (are.layered.auxiliary.below k below))
    (cases_lt column (length model.unknowns))
  where
    at : (other : Origin) → slice_get layers.column_origins column ≡ Some other → IsOriginIn model other → IsOriginIn model origin
    at other stands is = subst (IsOriginIn model) (sym (got_or layers.column_origins column other other stands)
        ∙ got_or layers.column_origins column other origin got) is
