use Rattle.std.proofs.Common.{◌<◌, ◌+◌, ◌∷◌, [], length, drop, rules, arith, sym, ap, ◌∙◌}
use Rattle.std.proofs.lemmas.Bool.Decides.{nat_tests}
use Rattle.std.proofs.lemmas.List.{take_rest}
use Rattle.line_lexer.specs.Lines.{lines_of}
use Rattle.desk_texts.proofs.LineLaws.{line-ended, line-last}
use Rattle.desk_texts.proofs.said.next_line.Goals as goal

pub returns-in-Some-clause-lines : goal.returns-in-Some-clause-lines
returns-in-Some-clause-lines c =
    let text = c.args.text.now in
    let end = c.in-Some.end in
    line-ended text end (sym c.in-Some.ensures)
    ∙ ap (λ line. line ∷ lines_of (drop (end + 1) text)) (sym c.without_return.ensures)
    ∙ ap (λ rest. c.without_return.result.now ∷ lines_of rest) (sym (take_rest text (end + 1)))

pub returns-in-None-clause-lines : goal.returns-in-None-clause-lines
returns-in-None-clause-lines c =
    let some : 0 < length c.args.text.now = first_of (search rules, grind (arith, nat_tests)) in
    line-last c.args.text.now some (sym c.in-None.ensures) ∙ ap (λ line. line ∷ []) (sym c.without_return-in-None.ensures)
