use Rattle.std.proofs.Common.{map, ap, sym, subst, ◌∙◌}
use Rattle.std.proofs.lemmas.Result.{err_from_is_err_and}
use Rattle.line_lexer.specs.Lines.{lines_of}
use Rattle.line_lexer.specs.Tokens.{words_of}
use Rattle.line_reader.specs.LineRules.{IsRefusal, KeepsAll}
use Rattle.problem_heads.specs.HeadReading.{HasReadLines}
use Rattle.problem_heads.specs.HeadRules.{head_rules}
use Rattle.problem_heads.proofs.HeadSteps.{cost-lines_read, cost-rules}
use Rattle.problem_heads.proofs.head.read_given.Goals as goal

pub returns-in_err-lines-in-Repair-clause-refused : goal.returns-in_err-lines-in-Repair-clause-refused
returns-in_err-lines-in-Repair-clause-refused g c =
    let p = g.F.Field.modulus in
    let failed = err_from_is_err_and c.from_residual-in_err-lines-in-Repair.result c.from_residual-in_err-lines-in-Repair.ensures.1 in
    rw failed.1
    (subst (λ why. IsRefusal (head_rules p c.args.form) c.args.head.now why) (sym failed.2)
    (subst (λ rules. IsRefusal rules c.args.head.now c.in_err-lines-in-Repair.field-0.0)
    (cost-rules p ∙ ap (head_rules p) (sym c.in-Repair.is)) c.in_err-lines-in-Repair.ensures.refused))

pub returns-in_ok-lines-in-Solve-clause-kept : goal.returns-in_ok-lines-in-Solve-clause-kept
returns-in_ok-lines-in-Solve-clause-kept g c =
    subst (λ form. KeepsAll (head_rules g.F.Field.modulus form) c.args.head.now) (sym c.in-Solve.is) c.in_ok-lines-in-Solve.ensures.kept

pub returns-in_ok-lines-in-Repair-clause-kept : goal.returns-in_ok-lines-in-Repair-clause-kept
returns-in_ok-lines-in-Repair-clause-kept g c =
    let p = g.F.Field.modulus in
    subst (λ rules. KeepsAll rules c.args.head.now) (cost-rules p ∙ ap (head_rules p) (sym c.in-Repair.is)) c.in_ok-lines-in-Repair.ensures.kept

pub returns-in_ok-lines-in-Repair-clause-read : goal.returns-in_ok-lines-in-Repair-clause-read
returns-in_ok-lines-in-Repair-clause-read g c =
    let p = g.F.Field.modulus in
    let words = map words_of (lines_of c.args.head.now) in (
      sym c.in-Repair.is,
      subst (λ form. HasReadLines p form c.in_ok-lines-in-Repair.lines words) (sym c.in-Repair.is)
          (cost-lines_read p c.in_ok-lines-in-Repair.lines words c.in_ok-lines-in-Repair.ensures.read),
    )
