use Rattle.std.proofs.Common.{ap, ◌∙◌, subst}
use Rattle.closed_sets.specs.Closed.{NoEndReached}
use Rattle.closed_sets.specs.Rules.{KeepsPlaceRules}
use Rattle.exchange_graph.specs.Marks.{members_of}
use Rattle.mixed_matrices.specs.Arcs.{leads_to}
use Rattle.independent_matching.specs.Sides.{layers_of, tableau_of_pair}
use Rattle.minimiser_lattice.specs.Parts.{IsLattice}
use Rattle.minimiser_lattice.specs.Views.{parts_in}
use Rattle.ccf_builder.proofs.decomposition.decompose.Goals as goal

pub returns : goal.returns
returns g c =
    let S = g.T.Tableau.state c.args.engine.now.tableau in
    let M = c.args.engine.now.matching in
    let arc = leads_to g.F.Field.modulus (layers_of S M) (tableau_of_pair S M) in
    let starts = members_of c.free_columns.result.now in
    let ends = members_of c.end_columns.result.now in
    let v = parts_in c.fill.new.self in
    let places = c.in_ok-lattice.ensures.places ∙ c.columns.ensures.columns ∙ ap (λ d. (g.T.Tableau.state d).columns) c.tableau.ensures in
    record {
      starts = starts;
      ends = ends;
      starts_are = c.free_columns.ensures.marks;
      ends_are = c.end_columns.ensures.marks;
      places = c.fill.ensures.places ∙ places;
      lattice = subst (λ n. IsLattice arc n starts ends v) places c.fill.ensures.lattice;
      rules = subst (λ n. NoEndReached arc n starts ends → KeepsPlaceRules arc n starts ends v.first v.last v.block v.blocks v.covers) places
          c.fill.ensures.rules;
    }
