use Rattle.netlist_reader.proofs.TextFacts.{no_ground, no_source, unsupported, shape, twice}
use Rattle.netlist_reader.proofs.examples.refusals_at_examples.Goals as goal

pub returns-clause-no_ground : goal.returns-clause-no_ground
returns-clause-no_ground c = no_ground

pub returns-clause-no_source : goal.returns-clause-no_source
returns-clause-no_source c = no_source

pub returns-clause-unsupported : goal.returns-clause-unsupported
returns-clause-unsupported c = unsupported

pub returns-clause-shape : goal.returns-clause-shape
returns-clause-shape c = shape

pub returns-clause-twice : goal.returns-clause-twice
returns-clause-twice c = twice
