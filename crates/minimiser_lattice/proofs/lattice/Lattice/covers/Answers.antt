use Rattle.std.proofs.Common.{◌≡◌, ◌&&◌, nat_lt, ap, subst, arith}
use Rattle.bit_table.specs.Bits.{bit_in}
use Rattle.minimiser_lattice.specs.Views.{KeptLattice}
use Rattle.minimiser_lattice.proofs.LatticeLaws.{cover_read}
use Rattle.minimiser_lattice.proofs.lattice.Lattice.covers.Goals as goal

pub returns : goal.returns
returns c =
    let l = c.self.inside.listing in
    subst (λ (v : KeptLattice). c.get.result ≡ ((nat_lt c.args.k v.blocks && nat_lt c.args.l v.blocks) && bit_in v.covers c.args.l c.args.k))
    c.self.view_is
    (cover_read c.args.k c.args.l l.blocks
    (omega (arith, c.requires.k, ap (λ (v : KeptLattice). v.blocks) c.self.view_is))
    (omega (arith, c.requires.l, ap (λ (v : KeptLattice). v.blocks) c.self.view_is))
    (bit_in c.self.inside.covers.table c.args.l c.args.k) c.get.result c.get.ensures)
