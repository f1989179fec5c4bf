use Rattle.std.proofs.Common.{◌≡◌, map, ◌++◌, take}
use Rattle.std.specs.String.{string_bytes}
use Rattle.term_model.specs.Terms.{dotted}
use Rattle.netlist_reader.proofs.side.push_nodes.Given as goal

abbrev pub invariant-loop-node : goal.invariant-loop-node
invariant-loop-node g l =
    map string_bytes l.names.items ≡ map string_bytes l.fn.names.items ++ map (dotted l.word) (take l.node l.circuit.nodes)
