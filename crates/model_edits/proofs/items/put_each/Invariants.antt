use Rattle.std.proofs.Common.{◌≡◌, ◌<◌, ◌++◌, length, map}
use Rattle.matrix_reader.proofs.LineSteps.{words}
use Rattle.model_edits.proofs.ItemMarks.{ItemsSoFar}
use Rattle.model_edits.proofs.items.put_each.Given as goal

abbrev pub invariant-loop-item : goal.invariant-loop-item
invariant-loop-item g l = record {
  equation : l.i < length l.model.equations;
  columns : length l.marks ≡ 4096;
  items : words l.fn.items ≡ map (λ token. token.text.now) l.yielded ++ words l.item-iterator;
  progress : ItemsSoFar g.F.Field.modulus l.fn.model l.model l.i l.marks (words l.fn.items)
      (map (λ token. token.text.now) l.yielded) (words l.item-iterator);
}
