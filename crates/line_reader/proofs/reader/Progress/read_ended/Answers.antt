use Rattle.std.proofs.Common.{ap, ◌∙◌, if◌then◌else◌}
use Rattle.std.specs.Str.Lines.{strip_carriage_return}
use Rattle.line_reader.proofs.Steps.{ended-reads}
use Rattle.line_reader.proofs.reader.Progress.read_ended.Goals as goal

pub returns-clause-read : goal.returns-clause-read
returns-clause-read g c =
    let at = c.args.self.now in
    let given = c.ended_line-line.ensures ∙ ap (λ bytes. if at.commented then bytes else strip_carriage_return bytes) c.deref.ensures.value in
    ended-reads g.R.LineFormat.rules g.R.LineFormat.has_read at.number at.line.items at.commented at.format
    c.read_or_refuse.new.format c.ended_line-line.result.now c.in_ok-self.field-0 given c.in_ok-self.ensures.read
