use Rattle.std.proofs.Common.{map}
use Rattle.netlist_devices.proofs.ReadSteps.{reads-words, ready-read}
use Rattle.netlist_devices.proofs.circuit.CircuitLineFormat.read_line.Goals as goal

pub returns-clause-ready : goal.returns-clause-ready
returns-clause-ready g c =
    ready-read g.F.Field.modulus c.args.number c.args.self.now c.read.new.self
    (map (λ token. token.1) c.args.words) c.read.result c.requires c.read.ensures.circuit c.read.ensures.read

pub returns-clause-read : goal.returns-clause-read
returns-clause-read g c =
    reads-words g.F.Field.modulus c.args.number c.args.self.now c.read.new.self
    (map (λ token. token.1) c.args.words) c.read.result c.read.ensures.circuit c.read.ensures.read
