use Rattle.text_writer.proofs.Putting.{put_written}
use Rattle.text_writer.proofs.writer.TextWriter.finish.Goals as goal

pub returns : goal.returns
returns g c =
    put_written c.args.self _ c.give.new.self c.as_slice.result.now c.outcome.result c.as_slice.ensures c.give.ensures
    c.outcome.ensures.fine c.outcome.ensures.failed
