use Rattle.std.proofs.Common.{sym, ◌∙◌}
use Rattle.line_reader.proofs.Blanks.{blanks-last, blanks-broken}
use Rattle.line_reader.proofs.remark.are_blanks.Goals as goal

pub returns-then-not-is_blank : goal.returns-then-not-is_blank
returns-then-not-is_blank c =
    let other = sym c.is_blank.ensures ∙ c.if-not-is_blank.true in
    sym (sym c.loop-last.invariant ∙ blanks-broken c.loop-last.rest.now c.in-Some.front.now c.in-Some.last.now c.in-Some.ensures.cases.0 other)

pub loop-last-preserved : goal.loop-last-preserved
loop-last-preserved c =
    let blank = sym c.is_blank.ensures ∙ c.if-not-is_blank.false in
    blanks-last c.loop-last.rest.now c.in-Some.front.now c.in-Some.last.now c.in-Some.ensures.cases.0 blank ∙ c.loop-last.invariant
