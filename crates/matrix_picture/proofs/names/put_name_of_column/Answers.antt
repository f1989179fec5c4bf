use Rattle.std.proofs.Common.{ap}
use Rattle.text_writer.proofs.Putting.{puts_is}
use Rattle.matrix_picture.specs.Names.{origin_name}
use Rattle.matrix_picture.proofs.names.put_name_of_column.Goals as goal

pub returns : goal.returns
returns g c = puts_is (ap (origin_name c.args.model.now) c.origin_of-origin.ensures) c.put_origin_name.ensures
