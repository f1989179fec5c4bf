use Rattle.std.proofs.Common.{ap}
use Rattle.answer_texts.specs.PlanTexts.{term_item, term_items}
use Rattle.answer_texts.proofs.PlanPieces.{terms_left}
use Rattle.text_writer.proofs.Putting.{loop_goes_on, loop_begins, puts_is}
use Rattle.answer_texts.proofs.plan_lines.put_terms.Goals as goal

pub loop-term-init : goal.loop-term-init
loop-term-init g c = loop_begins (term_items g.F.Field.number c.args.model.now c.args.terms.now)

pub loop-term-preserved : goal.loop-term-preserved
loop-term-preserved g c =
    loop_goes_on (terms_left g.F.Field.number c.args.model.now c.args.terms.now c.loop-term.term-index
    c.term-item.result c.loop-term-test.true) c.loop-term.invariant
    (puts_is (ap (λ z. term_item c.args.model.now (g.F.Field.number z.0) z.1) c.term-item.is) c.put_term.ensures)
