use Rattle.std.proofs.Common.{◌+◌, ◌++◌, ◌∷◌, [], Err, codes, ap, sym, subst}
use Rattle.std.proofs.lemmas.Result.{err_from_is_err_and}
use Rattle.matrix_reader.specs.Rules.{equation_line_rule}
use Rattle.line_reader.specs.Answers.{AnswersRule}
use Rattle.matrix_reader.specs.ReaderStates.{IsRead, IsWithinLine, so_far}
use Rattle.matrix_reader.proofs.LineSteps.{equation_answer, words, equation_fault}
use Rattle.matrix_reader.proofs.reader.Reader.read_equation.Goals as goal

pub returns-in_err-i-clause-read : goal.returns-in_err-i-clause-read
returns-in_err-i-clause-read g c = λ before read.
    let failed = err_from_is_err_and c.from_residual.result c.from_residual.ensures.1 in
    let new = c.add_equation.new.self in
    let all = words c.args.words in
    let left = IsRead g.F.Field.modulus (before ++ (codes "eq" ∷ all) ∷ []) (c.args.line + 1) new.model new.last_lines.items in
    rw failed.1
    (subst (λ fault. AnswersRule (equation_line_rule g.F.Field.modulus before all) left (Err fault)) (sym failed.2)
    (equation_fault g.F.Field.modulus before all (words c.next.new.self) c.in-Some.equation.text.now c.args.line
    c.args.self.now.model new.model c.args.self.now.last_lines.items c.in_err-i.field-0.0 left
    (ap words c.in-Some.ensures.steps) read (c.in_err-i.ensures.added c.args.line)))

pub returns-clause-read : goal.returns-clause-read
returns-clause-read g c = λ before read.
    let added = c.in_ok-i.ensures.added c.args.line before read in
    let all = words c.args.words in
    let items = words c.next.new.self in
    let name = c.in-Some.equation.text.now in
    let mid = c.add_equation.new.self in
    let within = subst (λ lines. IsWithinLine g.F.Field.modulus before (so_far name []) c.args.line mid.model lines) (sym c.in_ok-i.ensures.lines) added.2 in
    equation_answer g.F.Field.modulus before all items name c.args.line c.read_items.new.self.model c.read_items.new.self.last_lines.items c.read_items.result
    (ap words c.in-Some.ensures.steps) added.0 (c.read_items.ensures.read before name added.1 within)
