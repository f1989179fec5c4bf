use Rattle.model_edits.proofs.ItemMarks.{none_marked}
use Rattle.model_edits.proofs.items.put_items.Goals as goal

pub put_each-requires-clause-unmarked : goal.put_each-requires-clause-unmarked
put_each-requires-clause-unmarked g c = λ j. none_marked 4096 j
