use Rattle.std.proofs.Common.{ℕ, get_or, ap, sym, subst, ◌∙◌}
use Rattle.exchange_graph.specs.Marks.{members_of}
use Rattle.bit_table.specs.Bits.{bit_in}
use Rattle.minimiser_lattice.specs.Components.{component_number, component_places}
use Rattle.minimiser_lattice.specs.Paths.{IsQuotient}
use Rattle.minimiser_lattice.specs.Parts.{IsLattice}
use Rattle.minimiser_lattice.specs.Views.{parts_from, KeptLattice}
use Rattle.minimiser_lattice.specs.declared.listing.Listing.{Listing}
use Rattle.minimiser_lattice.proofs.LatticeLaws.{lattice-is, lattice-keeps, middle-tells}
use Rattle.minimiser_lattice.proofs.lattice.Lattice.fill.Goals as goal

pub returns-clause-lattice : goal.returns-clause-lattice
returns-clause-lattice g c =
    let cs = c.fill.new.self in
    let arc = g.A.Arcs.leads c.args.arcs.now in
    let starts = members_of c.args.starts.now in
    let ends = members_of c.args.ends.now in
    let m = c.mark.new.self in
    let l = c.list.new.self in
    let r = c.fill-2.new.self in
    let Q : IsQuotient arc (component_places cs) (component_number cs) cs.count (bit_in cs.strict) =
    subst (λ (n : ℕ). IsQuotient arc n (component_number cs) cs.count (bit_in cs.strict)) (sym c.fill.ensures.places)
    c.fill.ensures.quotient in
    let D = middle-tells arc (component_places cs) starts ends (component_number cs) cs.count (bit_in cs.strict) Q
    (members_of m.first.items) (members_of m.last.items) c.mark.ensures.marked in
    let is =
    lattice-is arc (component_places cs) starts ends (component_number cs) cs.count (bit_in cs.strict) Q
    (members_of m.first.items) (members_of m.last.items) c.mark.ensures.marked
    (λ k. get_or l.rank.items k 0) (λ j. get_or l.listed.items j 0) l.blocks
    (c.list.ensures.listing arc starts ends D) c.list.ensures.has (bit_in r.table)
    c.fill-2.ensures.covers in
    subst (λ (n : ℕ). IsLattice arc n starts ends
    (parts_from (component_places cs) (component_number cs) (members_of l.first.items) (members_of l.last.items)
    (λ k. get_or l.rank.items k 0) (λ j. get_or l.listed.items j 0) l.blocks (bit_in cs.strict) (bit_in r.table)))
    (c.fill.ensures.places ∙ ap (λ (v : KeptLattice). v.places) c.self.view_is)
    (subst (λ (v : Listing). IsLattice arc (component_places cs) starts ends
    (parts_from (component_places cs) (component_number cs) (members_of v.first.items) (members_of v.last.items)
    (λ k. get_or v.rank.items k 0) (λ j. get_or v.listed.items j 0) v.blocks (bit_in cs.strict) (bit_in r.table)))
    (sym c.list.ensures.kept) is)

pub returns-clause-rules : goal.returns-clause-rules
returns-clause-rules g c =
    λ clear. lattice-keeps (g.A.Arcs.leads c.args.arcs.now) c.args.self.now.places (members_of c.args.starts.now)
    (members_of c.args.ends.now) _ clear (returns-clause-lattice g c)
