use Rattle.std.proofs.Common.{subst, ◌<◌, length, sym}
use Rattle.mixed_edit_laws.specs.Changes.{IsChanged}
use Rattle.mixed_model.specs.Models.{MixedModel, mixed_matrix_of}
use Rattle.model_edit_laws.proofs.Edits.{changed, set_place}
use Rattle.model_edits.proofs.changes.with_empty_place.Goals as goal

pub returns-clause-change : goal.returns-clause-change
returns-clause-change g c =
    let same = c.in_ok-other.ensures.same in
    let other = c.in_ok-other.other in
    let i = c.in_ok-i.i in
    subst (λ (m : MixedModel). IsChanged (mixed_matrix_of m) (mixed_matrix_of c.set_place.new.self) i) same
    (changed _ other c.set_place.new.self i c.in_ok-other.ensures.model
    (subst (λ (m : MixedModel). i < length m.equations) (sym same) c.in_ok-i.ensures.within)
    (set_place other c.set_place.new.self i c.in_ok-j.j _ _ c.in_ok-set_place.ensures.set))
