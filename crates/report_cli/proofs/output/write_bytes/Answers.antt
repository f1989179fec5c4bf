use Rattle.std.proofs.Common.{rules}
use Rattle.text_writer.proofs.Putting.{text_written}
use Rattle.report_cli.proofs.output.write_bytes.Goals as goal

pub returns : goal.returns
returns g c =
    let same = c.piece.ensures.same_sink in
    let written = text_written c.new-writer.ensures.nothing c.piece.ensures c.finish.ensures in
    search rules
