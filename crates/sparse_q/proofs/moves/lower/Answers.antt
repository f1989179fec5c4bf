use Rattle.std.proofs.Common.{◌∙◌, ap, slice_set, arith}
use Rattle.std.proofs.lemmas.List.{get_or_default}
use Rattle.std.proofs.lemmas.List.Edits.{map_over_more}
use Rattle.linear_algebra.specs.Parts.{unskip}
use Rattle.sparse_q.specs.Rows.{entry_moved}
use Rattle.sparse_q.proofs.moves.lower.Goals as goal

pub loop-entry-preserved : goal.loop-entry-preserved
loop-entry-preserved g c =
    ap (slice_set c.loop-entry.entries c.loop-entry.entry-index) c.lowered.ensures
    ∙ map_over_more (entry_moved (unskip c.args.at)) c.args.entries.now c.loop-entry.entries c.loop-entry.entry-index _
    (omega arith) c.loop-entry.invariant (get_or_default c.loop-entry.entries c.loop-entry.entry-index _ _ (omega arith))
