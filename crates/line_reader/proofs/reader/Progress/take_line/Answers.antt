use Rattle.std.proofs.Common.{◌∙◌}
use Rattle.line_reader.specs.Readings.{IsFed, reading}
use Rattle.line_reader.proofs.Steps.{fed-feed, fed-whole}
use Rattle.line_reader.proofs.reader.Progress.take_line.Goals as goal

pub returns-then-is_within_line-clause-fed : goal.returns-then-is_within_line-clause-fed
returns-then-is_within_line-clause-fed g c =
    let at = c.args.self.now in
    let taken = c.take_part.new.self in
    let new = c.end_line.new.self in
    fed-feed g.R.LineFormat.rules g.R.LineFormat.has_read taken.format taken.number taken.line.items taken.commented c.end_line.result c.args.part.now
    (IsFed g.R.LineFormat.rules g.R.LineFormat.has_read (reading at.format at.number at.line.items at.commented at.refused))
    taken.refused new.format new.number new.line.items new.commented new.refused
    (c.in_ok-take_part.ensures.refused ∙ c.requires.none) c.in_ok-take_part.ensures.fed
    c.end_line.ensures.number c.end_line.ensures.line c.end_line.ensures.commented c.end_line.ensures.read

pub returns-clause-fed : goal.returns-clause-fed
returns-clause-fed g c =
    let at = c.args.self.now in
    fed-whole g.R.LineFormat.rules g.R.LineFormat.has_read at.format at.number at.line.items at.commented
    c.args.part.now c.without_return.result.now at.refused c.read_or_refuse.new.format c.saturating_add-self.result
    c.in_ok-self.field-0
    c.requires.none (c.is_within_line.ensures.line c.if-is_within_line.false) (c.is_within_line.ensures.commented c.if-is_within_line.false)
    c.requires.unended c.without_return.ensures c.saturating_add-self.ensures c.in_ok-self.ensures.read
