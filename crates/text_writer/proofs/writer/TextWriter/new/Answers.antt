use Rattle.text_writer.proofs.Putting.{put_new}
use Rattle.text_writer.proofs.writer.TextWriter.new.Goals as goal

pub returns-clause-nothing : goal.returns-clause-nothing
returns-clause-nothing g c = put_new _ c.nothing.ensures c.new.ensures
