use Rattle.toml.specs.View.{table_view}
use Rattle.flowsheet_reader.proofs.Starting.{listed-of}
use Rattle.flowsheet_reader.proofs.flowsheet.read_names.Goals as goal

pub without_units-requires : goal.without_units-requires
without_units-requires g c =
    listed-of (table_view c.args.document.now) c.in_ok-components.components c.in_ok-streams.streams c.in_ok-components.ensures c.in_ok-streams.ensures
