use Rattle.std.proofs.Common.{◌∙◌, ap, slice_set, arith, cond, eqb}
use Rattle.std.proofs.lemmas.List.{get_or_default}
use Rattle.std.proofs.lemmas.List.Edits.{map_over_more}
use Rattle.row_table.proofs.lists.replace.Goals as goal

pub loop-number-preserved : goal.loop-number-preserved
loop-number-preserved c =
    ap (slice_set c.loop-number.numbers c.loop-number.number-index) c.replaced.ensures
    ∙ map_over_more (λ n. cond (eqb n c.args.old) c.args.new n) c.args.numbers.now c.loop-number.numbers c.loop-number.number-index _
    (omega arith) c.loop-number.invariant (get_or_default c.loop-number.numbers c.loop-number.number-index _ _ (omega arith))
