use Rattle.std.proofs.Common.{ℕ, inl, inr, sym, subst, ◌∙◌, arith}
use Rattle.residue_theory.proofs.SumLaws.{nat_cases}
use Rattle.bit_table.specs.Bits.{bit_in}
use Rattle.minimiser_lattice.specs.Components.{component_places}
use Rattle.minimiser_lattice.specs.Listings.{listed_of}
use Rattle.minimiser_lattice.specs.Covers.{IsCoverRow}
use Rattle.minimiser_lattice.proofs.CoverLaws.{row-same}
use Rattle.minimiser_lattice.proofs.covers.Covers.fill.Goals as goal

pub loop-j-preserved : goal.loop-j-preserved
loop-j-preserved c =
    let cs = c.args.components.now in
    let l = c.args.listing.now in
    let I = c.loop-j.invariant in
    let E = c.fill_row.ensures in
    let before = bit_in c.loop-j.self.table in
    let now = bit_in c.fill_row.new.self.table in
    record {
      room = E.room;
      rows = λ k less. elim (nat_cases k c.loop-j.j) [
        | inl q ↦ subst (λ (v : ℕ). IsCoverRow (component_places cs) (bit_in cs.strict) (listed_of l) l.blocks now v) (sym q) E.row
        | inr ne ↦ row-same (component_places cs) (bit_in cs.strict) (listed_of l) l.blocks before now k c.requires.listed.fits
            (λ i il. E.others k i il ne) (I.rows k (omega arith))
      ];
      empty = λ k i le il. E.others k i il (λ q. omega arith) ∙ I.empty k i (omega arith) il;
    }
