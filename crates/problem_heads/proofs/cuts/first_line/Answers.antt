use Rattle.std.proofs.Common.{◌≡◌, ◌≢◌, [], true, false, ◌+◌, drop, length, nat_eq, sym, ap, subst, ◌∙◌}
use Rattle.std.proofs.lemmas.List.{take_rest}
use Rattle.problem_heads.specs.Cuts.{IsFirstLine}
use Rattle.problem_heads.proofs.FirstLines.{first-ended, first-unended}
use Rattle.problem_heads.proofs.cuts.first_line.Goals as goal

pub returns-in_default : goal.returns-in_default
returns-in_default c =
    let text = c.args.text.now in
    let some : text ≢ [] = λ none.
    let both : false ≡ true = sym c.if-is_empty.false ∙ c.is_empty.ensures ∙ ap (λ rest. nat_eq (length rest) 0) none in cc in
    subst (λ others. IsFirstLine text c.without_return.result.now others) (sym (take_rest text (length text)))
    (subst (λ line. IsFirstLine text line (drop (length text) text)) (sym c.without_return.ensures)
    (first-unended text some (sym c.in_default.ensures)))

pub returns : goal.returns
returns c =
    let text = c.args.text.now in
    let end = c.in-Some.end in
    subst (λ others. IsFirstLine text c.without_return-2.result.now others) (sym (take_rest text (end + 1)))
    (subst (λ line. IsFirstLine text line (drop (end + 1) text)) (sym c.without_return-2.ensures) (first-ended text end (sym c.in-Some.ensures)))
