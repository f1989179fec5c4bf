use Rattle.std.proofs.Common.{map}
use Rattle.problem_heads.specs.declared.form.Form.TheVariants.{Repair}
use Rattle.problem_heads.proofs.LineSteps.{reads-head_line}
use Rattle.problem_heads.proofs.repair_lines.RepairLinesLineFormat.read_line.Goals as goal

pub returns-clause-read : goal.returns-clause-read
returns-clause-read c =
    reads-head_line 0 Repair c.args.number c.args.self.now c.read_words.new.self (map (λ token. token.1) c.args.words) c.read_words.result
    c.read_words.ensures
