use Rattle.std.proofs.Common.{◌≡◌, ◌<◌, get_or, ap, sym, subst, ◌∙◌, arith}
use Rattle.bit_table.specs.Bits.{bit_in}
use Rattle.minimiser_lattice.specs.Views.{KeptLattice}
use Rattle.bit_table.proofs.BitLaws.{item_is}
use Rattle.minimiser_lattice.proofs.lattice.Lattice.below.Goals as goal

pub index-requires : goal.index-requires
index-requires c = omega (arith, c.requires.k, ap (λ (v : KeptLattice). v.blocks) c.self.view_is, c.self.invariant.fits, c.self.invariant.opened.listed)

pub index-requires-2 : goal.index-requires-2
index-requires-2 c = omega (arith, c.requires.l, ap (λ (v : KeptLattice). v.blocks) c.self.view_is, c.self.invariant.fits, c.self.invariant.opened.listed)

pub get-requires-clause-x : goal.get-requires-clause-x
get-requires-clause-x c =
    let l = c.self.inside.listing in
    let less : c.args.l < l.blocks = omega (arith, c.requires.l, ap (λ (v : KeptLattice). v.blocks) c.self.view_is) in
    omega (
      arith,
      c.self.invariant.listed c.args.l less,
      item_is l.listed.items c.args.l c.index-2.result.now
          (omega (arith, less, c.self.invariant.fits, c.self.invariant.opened.listed)) c.index-2.ensures,
      c.self.invariant.stored.rows,
    )

pub get-requires-clause-y : goal.get-requires-clause-y
get-requires-clause-y c =
    let l = c.self.inside.listing in
    let less : c.args.k < l.blocks = omega (arith, c.requires.k, ap (λ (v : KeptLattice). v.blocks) c.self.view_is) in
    omega (
      arith,
      c.self.invariant.listed c.args.k less,
      item_is l.listed.items c.args.k c.index.result.now
          (omega (arith, less, c.self.invariant.fits, c.self.invariant.opened.listed)) c.index.ensures,
      c.self.invariant.stored.size,
    )

pub returns : goal.returns
returns c =
    let l = c.self.inside.listing in
    let strict = bit_in c.self.inside.components.strict in
    let kb : c.args.k < l.blocks = omega (arith, c.requires.k, ap (λ (v : KeptLattice). v.blocks) c.self.view_is) in
    let lb : c.args.l < l.blocks = omega (arith, c.requires.l, ap (λ (v : KeptLattice). v.blocks) c.self.view_is) in
    let low = item_is l.listed.items c.args.k c.index.result.now (omega (arith, kb, c.self.invariant.fits, c.self.invariant.opened.listed)) c.index.ensures in
    let high =
    item_is l.listed.items c.args.l c.index-2.result.now
    (omega (arith, lb, c.self.invariant.fits, c.self.invariant.opened.listed)) c.index-2.ensures in
    subst (λ (v : KeptLattice). c.get.result ≡ bit_in v.strict (get_or v.listed c.args.l 0) (get_or v.listed c.args.k 0)) c.self.view_is
    (c.get.ensures ∙ (ap (λ m. strict m c.index.result.now) (sym high) ∙ ap (strict (get_or l.listed.items c.args.l 0)) (sym low)))
