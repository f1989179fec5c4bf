use Rattle.row_transform.proofs.EntryEdits.{copied-next, copied-all}
use Rattle.row_transform.proofs.entries.copy_column.Goals as goal

pub loop-row-preserved : goal.loop-row-preserved
loop-row-preserved c = copied-next c.args.from.now c.args.into.now c.loop-row.into c.args.col c.loop-row.at
    c.loop-row.invariant c.set.new.self c.args.rows c.in-Some.row c.requires.into_rows c.in-Some.ensures.least
    c.set.ensures.set c.set.ensures.rows c.set.ensures.size

pub returns-clause-copied : goal.returns-clause-copied
returns-clause-copied c = copied-all c.args.from.now c.args.into.now c.loop-row.into c.args.col c.loop-row.at
    c.loop-row.invariant c.args.rows c.in_default.ensures.none
