use Rattle.std.proofs.Common.{inl, refl}
use Rattle.picture_cli.specs.Drawings.{drawing_in, drawing_text}
use Rattle.picture_cli.proofs.running.deliver.Goals as goal

pub finish-requires : goal.finish-requires
finish-requires g c = inl refl

pub returns : goal.returns
returns g c = c.finish.ensures c.args.out.now (drawing_text (drawing_in c.args.drawing.now)) c.write_drawing-wrote.ensures
