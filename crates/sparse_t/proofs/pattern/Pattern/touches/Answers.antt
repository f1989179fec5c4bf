use Rattle.std.proofs.Common.{sym, subst}
use Rattle.std.specs.List.Sorted.{IsStrictlyIncreasing}
use Rattle.sparse_t.proofs.StoredLaws.{row-stored}
use Rattle.sparse_t.proofs.pattern.Pattern.touches.Goals as goal

pub holds-requires : goal.holds-requires
holds-requires c =
    let R = row-stored c.args.self.now c.self.inside.width c.self.inside.rows.items c.args.row c.index.result.now c.self.view_is
    c.self.invariant c.requires c.index.ensures in
    subst IsStrictlyIncreasing (sym c.as_slice.ensures) R.0
