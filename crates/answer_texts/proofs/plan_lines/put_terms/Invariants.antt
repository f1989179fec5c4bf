use Rattle.std.proofs.Common.{drop}
use Rattle.text_writer.specs.Texts.{PutsUpTo}
use Rattle.answer_texts.specs.PlanTexts.{term_items}
use Rattle.answer_texts.proofs.plan_lines.put_terms.Given as goal

abbrev pub invariant-loop-term : goal.invariant-loop-term
invariant-loop-term g l =
    PutsUpTo g.K.Sink l.initial.out l.out (term_items g.F.Field.number l.model l.terms) (term_items g.F.Field.number l.model (drop l.term-index l.terms))
