-- A model in whose equations nothing stands.
use Rattle.std.proofs.Common.{◌≡◌, ℕ, List, [], get_or, unwrap_or, sym, ap, ◌∙◌}
use Rattle.std.proofs.Math.ListN.{get_or-map}
use Rattle.std.proofs.Math.Nat.{zero-mod}
use Rattle.mixed_model.specs.Entries.{RowEntry}
use Rattle.mixed_model.specs.Models.{MixedModel, row_of}
use Rattle.mixed_model.specs.Rows.{constant_in, symbol_in}
use Rattle.term_model.specs.Putting.{IsBlank, Says}

no_row : (model : MixedModel) → IsBlank model → (i : ℕ) → row_of model i ≡ []
no_row model blank i = ap (λ rows. get_or rows i []) blank ∙ get_or-map {A = List ℕ} {B = List RowEntry} (λ name. []) model.equations i []

pub blank_says : (p : ℕ) (model : MixedModel) → IsBlank model → Says p [] model
blank_says p model blank = record {
  constants = λ i j row column. ap (λ row. unwrap_or (constant_in row j) 0) (no_row model blank i) ∙ sym (zero-mod p);
  symbols = λ i j row column. ap (λ row. symbol_in row j) (no_row model blank i);
}
