use Rattle.std.proofs.Common.{subst, ◌<◌, length, sym}
use Rattle.mixed_edit_laws.specs.Changes.{IsChanged}
use Rattle.mixed_model.specs.Models.{MixedModel, mixed_matrix_of}
use Rattle.model_edit_laws.proofs.Edits.{changed}
use Rattle.bench_update.proofs.edits.with_symbols.Goals as goal

pub returns : goal.returns
returns c =
    let same = c.in_ok-other.ensures.same in
    let other = c.in_ok-other.other in
    subst (λ (m : MixedModel). IsChanged (mixed_matrix_of m) (mixed_matrix_of c.put_symbols.new.model) c.args.i) same
    (changed _ other c.put_symbols.new.model c.args.i c.in_ok-other.ensures.model
    (subst (λ (m : MixedModel). c.args.i < length m.equations) (sym same) c.requires) c.in_ok-put_symbols.ensures)
