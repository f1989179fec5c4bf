use Rattle.std.proofs.Common.{sym, subst}
use Rattle.std.specs.List.Sorted.{IsStrictlyIncreasing}
use Rattle.sparse_t.specs.Lists.{AreAllBelow}
use Rattle.sparse_t.proofs.StoredLaws.{row-stored}
use Rattle.sparse_t.proofs.pattern.Pattern.row.Goals as goal

pub returns-clause-rising : goal.returns-clause-rising
returns-clause-rising c =
    let R = row-stored c.args.self.now c.self.inside.width c.self.inside.rows.items c.args.i c.index.result.now c.self.view_is
    c.self.invariant c.requires c.index.ensures in
    subst IsStrictlyIncreasing (sym c.as_slice.ensures) R.0

pub returns-clause-below : goal.returns-clause-below
returns-clause-below c =
    let R = row-stored c.args.self.now c.self.inside.width c.self.inside.rows.items c.args.i c.index.result.now c.self.view_is
    c.self.invariant c.requires c.index.ensures in
    subst (AreAllBelow c.args.self.now.width) (sym c.as_slice.ensures) R.1
