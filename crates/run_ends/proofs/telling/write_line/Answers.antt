use Rattle.std.proofs.Common.{rules}
use Rattle.text_writer.proofs.Putting.{text_written}
use Rattle.run_ends.proofs.telling.write_line.Goals as goal

pub returns : goal.returns
returns g c =
    let same = c.put_line.ensures.same_sink in
    let written = text_written c.new-writer.ensures.nothing c.put_line.ensures c.finish.ensures in
    search rules
