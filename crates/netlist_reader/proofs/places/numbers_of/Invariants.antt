use Rattle.std.proofs.Common.{◌≡◌, All, map, take}
use Rattle.std.specs.String.{string_bytes}
use Rattle.netlist_reader.specs.Numbers.{IsNode, node_named}
use Rattle.netlist_reader.proofs.places.numbers_of.Given as goal

abbrev pub invariant-loop-node : goal.invariant-loop-node
invariant-loop-node l = record {
  named : map (node_named l.seen) l.numbers.items ≡ take l.node-index (map string_bytes l.nodes);
  within : All (IsNode l.seen) l.numbers.items;
}
