use Rattle.std.proofs.Common.{◌≡◌, map, ◌++◌, take}
use Rattle.std.specs.String.{string_bytes}
use Rattle.term_model.specs.Terms.{dotted}
use Rattle.netlist_reader.proofs.side.push_own.Given as goal

abbrev pub invariant-loop-word : goal.invariant-loop-word
invariant-loop-word g l =
    map string_bytes l.names.items
    ≡ map string_bytes l.fn.names.items ++ map (λ word. dotted word.now l.device.name) (take l.word-index l.word-items)
