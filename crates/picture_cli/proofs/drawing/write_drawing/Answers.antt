use Rattle.std.proofs.Common.{rules}
use Rattle.text_writer.proofs.Putting.{text_written}
use Rattle.picture_cli.proofs.drawing.write_drawing.Goals as goal

pub returns : goal.returns
returns g c =
    let same = c.put_any.ensures.same_sink in
    let written = text_written c.new-writer.ensures.nothing c.put_any.ensures c.finish.ensures in
    search rules
