use Rattle.std.proofs.Common.{subst}
use Rattle.mixed_edit_laws.specs.Changes.{IsAdded}
use Rattle.mixed_model.specs.Models.{MixedModel, mixed_matrix_of}
use Rattle.model_edit_laws.proofs.Edits.{added_then}
use Rattle.held_tables.proofs.kept_pair.with_equation.Goals as goal

pub returns : goal.returns
returns g c =
    subst (λ (m : MixedModel). IsAdded (mixed_matrix_of m) (mixed_matrix_of c.set_item.new.model)) c.in_ok-more.ensures.same
    (added_then _ c.in_ok-more.more c.add_equation.new.self c.set_item.new.model _ c.in_ok-i.i c.in_ok-more.ensures.model
    c.in_ok-i.ensures.added c.in_ok-i.ensures.answer c.in_ok-set_item.ensures.edited)
