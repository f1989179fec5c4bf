use Rattle.std.proofs.Common.{rules}
use Rattle.text_writer.proofs.Putting.{text_written}
use Rattle.study_outputs.proofs.writing.write_repair.Goals as goal

pub returns : goal.returns
returns g c =
    let same = c.put_repair.ensures.same_sink in
    let written = text_written c.new-writer.ensures.nothing c.put_repair.ensures c.finish.ensures in
    search rules
