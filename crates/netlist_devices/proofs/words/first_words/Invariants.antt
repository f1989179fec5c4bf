use Rattle.std.proofs.Common.{◌≡◌, ◌++◌, map, take}
use Rattle.netlist_devices.proofs.words.first_words.Given as goal

abbrev pub invariant-loop-word : goal.invariant-loop-word
invariant-loop-word l =
    take 8 (map (λ word. word.1) l.fn.words)
    ≡ map (λ word. word.now) l.kept.items ++ take l.word-iterator.n (map (λ word. word.1) l.word-iterator.iter)
