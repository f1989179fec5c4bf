use Rattle.std.proofs.Common.{[], false, refl}
use Rattle.line_reader.proofs.Steps.{progress-none}
use Rattle.line_reader.proofs.reader.LineReader.new.Goals as goal

pub returns : goal.returns
returns g c =
    progress-none g.R.LineFormat.rules g.R.LineFormat.has_read [] c.args.format 1 c.new.result.items false c.requires.unread refl c.new.ensures.items refl
