use Rattle.std.proofs.Common.{◌≡◌, not, ◌∙◌}
use Rattle.residue_theory.specs.Sets.{has}
use Rattle.mixed_model.specs.Names.{name_at}
use Rattle.sparse_t.proofs.ListLaws.{has-searched}
use Rattle.text_writer.proofs.Putting.{puts_is, puts_nothing}
use Rattle.repair_checker.proofs.CostLists.{other-of}
use Rattle.repair_texts.proofs.Pieces.{unless-dropped, unless-kept}
use Rattle.repair_texts.proofs.repair_lines.put_unless_kept.Goals as goal

pub returns-then-is_err : goal.returns-then-is_err
returns-then-is_err g c =
    let kept = c.args.kept.now in
    let e = c.args.equation in
    let other : not (has kept e) ≡ c.is_err.result = other-of c.binary_search.result c.is_err.result (has kept e) c.is_err.ensures.value
    (has-searched kept e c.binary_search.result c.requires.kept c.binary_search.ensures.position) in
    puts_is (unless-dropped (has kept e) (name_at c.args.model.now.equations e) c.args.cost (other ∙ c.if-is_err.true)) c.put_drop.ensures

pub returns-else-is_err : goal.returns-else-is_err
returns-else-is_err g c =
    let kept = c.args.kept.now in
    let e = c.args.equation in
    let other : not (has kept e) ≡ c.is_err.result = other-of c.binary_search.result c.is_err.result (has kept e) c.is_err.ensures.value
    (has-searched kept e c.binary_search.result c.requires.kept c.binary_search.ensures.position) in
    puts_is (unless-kept (has kept e) (name_at c.args.model.now.equations e) c.args.cost (other ∙ c.if-is_err.false)) puts_nothing
