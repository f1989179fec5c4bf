use Rattle.std.proofs.Common.{map}
use Rattle.problem_heads.specs.declared.form.Form.TheVariants.{Solve}
use Rattle.problem_heads.proofs.LineSteps.{reads-head_line}
use Rattle.problem_heads.proofs.solve_lines.SolveLinesLineFormat.read_line.Goals as goal

pub returns-clause-read : goal.returns-clause-read
returns-clause-read g c =
    reads-head_line g.F.Field.modulus Solve c.args.number c.args.self.now c.read_words.new.self (map (λ token. token.1) c.args.words)
    c.read_words.result c.read_words.ensures
