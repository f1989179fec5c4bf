use Rattle.std.proofs.Common.{◌≡◌, true, map, take}
use Rattle.std.specs.List.{list_all}
use Rattle.std.specs.String.{string_bytes}
use Rattle.line_lexer.specs.Names.{is_node}
use Rattle.netlist_devices.proofs.words.read_nodes.Given as goal

abbrev pub invariant-loop-text : goal.invariant-loop-text
invariant-loop-text l = record {
  good : list_all is_node (take l.text-index (map (λ text. text.now) l.texts)) ≡ true;
  nodes : map string_bytes l.nodes.items ≡ take l.text-index (map (λ text. text.now) l.texts);
}
