use Rattle.std.proofs.Common.{◌≡◌, ◌<◌, ◌++◌, ℕ, List, [], length, map, vec_len}
use Rattle.matrix_reader.specs.EquationLists.{equations_in}
use Rattle.matrix_reader.specs.ReaderStates.{IsWithinLine, so_far}
use Rattle.matrix_reader.proofs.LineSteps.{ItemsSoFar, words}
use Rattle.matrix_reader.proofs.reader.Reader.read_items.Given as goal

abbrev pub invariant-loop-item : goal.invariant-loop-item
invariant-loop-item g l = record {
  lengths : vec_len l.self.last_lines ≡ length l.self.model.unknowns;
  equation : l.i < length l.self.model.equations;
  items : words l.fn.items ≡ map (λ token. token.text.now) l.yielded ++ words l.item-iterator;
  progress : (before : List (List (List ℕ))) (name : List ℕ) → l.i ≡ length (equations_in before) →
      IsWithinLine g.F.Field.modulus before (so_far name []) l.line l.fn.self.model l.fn.self.last_lines.items
      → ItemsSoFar g.F.Field.modulus before name (words l.fn.items) (map (λ token. token.text.now) l.yielded)
      (words l.item-iterator) l.line l.self.model l.self.last_lines.items;
}
