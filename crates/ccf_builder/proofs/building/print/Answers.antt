use Rattle.std.proofs.Common.{length, subst, ap, ◌∙◌}
use Rattle.sparse_t.specs.Incidences.{touches}
use Rattle.mixed_model.specs.Layers.{Layers}
use Rattle.cert_text.specs.Contents.{numbered_rows}
use Rattle.minimiser_lattice.specs.Views.{parts_in}
use Rattle.ccf_builder.specs.Matrices.{PrintsPattern, PrintsTableau}
use Rattle.ccf_builder.specs.Placings.{PrintsParts}
use Rattle.ccf_builder.proofs.building.print.Goals as goal

pub returns : goal.returns
returns g c =
    let number = g.F.Field.number in
    let solved = c.args.solved.now in
    let printed = c.in_ok-tableau_of.field-0 in
    let symbols = c.in_ok-symbols_of.field-0 in
    let parts = c.in_ok-parts_of.field-0 in
    let v = parts_in solved.lattice in
    let base = solved.pair.base.items in
    let mates = solved.pair.mates.items in
    let q_rows = c.rows.ensures.rows ∙ ap (λ d. (g.T.Tableau.state d).rows) c.tableau-tableau.ensures in
    let t_rows = c.rows-2.ensures.rows ∙ ap (λ (l : Layers). length l.t.rows) c.l.view_is in
    record {
      tableau =
          subst (λ d. PrintsTableau g.F.Field.modulus (g.T.Tableau.state d) (numbered_rows number printed.s)
          (numbered_rows number printed.u) (numbered_rows number printed.p))
          c.tableau-tableau.ensures c.in_ok-tableau_of.ensures;
      symbols = subst (λ (l : Layers). PrintsPattern (length l.t.rows) l.t.width (touches l.t) symbols) c.l.view_is c.in_ok-symbols_of.ensures;
      parts =
          subst (λ n. PrintsParts v n (length c.args.l.now.t.rows) base mates parts.first parts.blocks parts.last) q_rows
          (subst (λ n. PrintsParts v c.rows.result n base mates parts.first parts.blocks parts.last) t_rows c.in_ok-parts_of.ensures);
    }
