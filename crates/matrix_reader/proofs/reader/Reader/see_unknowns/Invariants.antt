use Rattle.std.proofs.Common.{◌≡◌, ◌+◌, ◌++◌, ◌∷◌, ℕ, List, [], codes, length, map, vec_len}
use Rattle.matrix_reader.specs.ReaderStates.{IsRead}
use Rattle.matrix_reader.proofs.LineSteps.{NamesSoFar, words}
use Rattle.matrix_reader.proofs.reader.Reader.see_unknowns.Given as goal

abbrev pub invariant-loop-unknown : goal.invariant-loop-unknown
invariant-loop-unknown g l = record {
  lengths : vec_len l.self.last_lines ≡ length l.self.model.unknowns;
  unknowns : words l.fn.unknowns ≡ map (λ token. token.text.now) l.yielded ++ words l.unknown-iterator;
  progress : (before : List (List (List ℕ))) (names : List (List ℕ)) →
      IsRead g.F.Field.modulus (before ++ (codes "unknown" ∷ names) ∷ [])
      (l.line + 1) l.fn.self.model l.fn.self.last_lines.items
      → NamesSoFar g.F.Field.modulus before names (words l.fn.unknowns) (map (λ token. token.text.now) l.yielded)
      (words l.unknown-iterator) l.line l.self.model l.self.last_lines.items;
}
