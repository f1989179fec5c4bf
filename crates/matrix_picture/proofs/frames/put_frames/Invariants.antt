use Rattle.std.proofs.Common.{drop, length}
use Rattle.text_writer.specs.Texts.{PutsUpTo}
use Rattle.matrix_picture.specs.Texts.{frames_text}
use Rattle.matrix_picture.proofs.frames.put_frames.Given as goal

abbrev pub invariant-loop-place : goal.invariant-loop-place
invariant-loop-place g l =
    PutsUpTo g.K.Sink l.initial.out l.out (frames_text l.least (length l.frames) 0 l.frames)
    (frames_text l.least (length l.frames) l.place (drop l.place l.frames))
