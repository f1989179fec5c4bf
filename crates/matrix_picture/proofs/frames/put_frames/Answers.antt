use Rattle.std.proofs.Common.{length}
use Rattle.matrix_picture.specs.Texts.{frames_text}
use Rattle.matrix_picture.proofs.Pieces.{frames_left}
use Rattle.text_writer.proofs.Putting.{loop_begins, loop_goes_on}
use Rattle.matrix_picture.proofs.frames.put_frames.Goals as goal

pub loop-place-init : goal.loop-place-init
loop-place-init g c = loop_begins (frames_text c.args.least (length c.args.frames.now) 0 c.args.frames.now)

pub loop-place-preserved : goal.loop-place-preserved
loop-place-preserved g c =
    loop_goes_on (frames_left c.args.least (length c.args.frames.now) c.args.frames.now c.loop-place.place _
    c.loop-place-test.true) c.loop-place.invariant c.put_frame.ensures
