use Rattle.std.proofs.Common.{◌≡◌, ◌≤◌, ◌+◌, ◌-◌, ℕ, length, ap, sym, subst, ◌∙◌, arith}
use Rattle.row_transform.specs.Tableaus.{IsTableau}
use Rattle.independent_matching.specs.Sides.{size_of}
use Rattle.mixed_model.specs.Layers.{layered_matrix_of, split_of}
use Rattle.minimiser_lattice.specs.Views.{parts_in}
use Rattle.exchange_graph.specs.Results.{vain_of}
use Rattle.cert_text.specs.Contents.{Contents, numbered_rows}
use Rattle.cert_text.specs.Right.{IsRightCcf}
use Rattle.cert_text.specs.declared.shape.Shape.{Shape}
use Rattle.ccf_builder.specs.Promises.{OfEachModel}
use Rattle.ccf_builder.proofs.Built.{copied-fits, copied-right, split-rows, split-size}
use Rattle.ccf_builder.proofs.building.assembled.Goals as goal

pub shape_of-requires-clause-rows : goal.shape_of-requires-clause-rows
shape_of-requires-clause-rows g c =
    let p = g.F.Field.modulus in
    let number = g.F.Field.number in
    let of = c.args.l.now in
    let solved = c.args.solved in
    let S = g.T.Tableau.state solved.engine.tableau in
    let printed = c.args.printed in
    let facts = c.requires.decomposed in
    let lines = c.requires.lines in
    let tableau = subst (λ d. IsTableau p (g.T.Tableau.state d)) c.tableau.ensures c.rows-q_rows.ensures.tableau in
    let rows = (c.rows-q_rows.ensures.rows ∙ ap (λ d. (g.T.Tableau.state d).rows) c.tableau.ensures) in
    subst (λ n. split_of of ≤ n + length of.t.rows) (sym rows)
    (split-rows p g.met.F.Field.prime g.met.F.Field.odd of c.split-split.ensures.layers S solved.engine.matching
    (vain_of solved.engine.found) facts.solution tableau solved.pair.base.items solved.pair.mates.items facts.pair
    (numbered_rows number printed.tableau.s) (numbered_rows number printed.tableau.u)
    (numbered_rows number printed.tableau.p) lines.tableau printed.symbols lines.symbols
    (parts_in solved.lattice) facts.decomposed printed.parts.first printed.parts.blocks printed.parts.last
    lines.parts c.requires.model)

pub overflow_sub-size : goal.overflow_sub-size
overflow_sub-size g c =
    let p = g.F.Field.modulus in
    let number = g.F.Field.number in
    let of = c.args.l.now in
    let solved = c.args.solved in
    let S = g.T.Tableau.state solved.engine.tableau in
    let printed = c.args.printed in
    let facts = c.requires.decomposed in
    let lines = c.requires.lines in
    let tableau = subst (λ d. IsTableau p (g.T.Tableau.state d)) c.tableau.ensures c.rows-q_rows.ensures.tableau in
    let few =
    split-size p g.met.F.Field.prime g.met.F.Field.odd of c.split-split.ensures.layers S solved.engine.matching
    (vain_of solved.engine.found) facts.solution tableau solved.pair.base.items solved.pair.mates.items
    facts.pair (numbered_rows number printed.tableau.s) (numbered_rows number printed.tableau.u)
    (numbered_rows number printed.tableau.p) lines.tableau printed.symbols lines.symbols
    (parts_in solved.lattice) facts.decomposed printed.parts.first printed.parts.blocks printed.parts.last
    lines.parts c.requires.model in
    omega (arith, few, c.size.ensures.size, c.split-split.ensures.count)

pub new-requires : goal.new-requires
new-requires g c =
    let p = g.F.Field.modulus in
    let number = g.F.Field.number in
    let of = c.args.l.now in
    let solved = c.args.solved in
    let S = g.T.Tableau.state solved.engine.tableau in
    let printed = c.args.printed in
    let facts = c.requires.decomposed in
    let lines = c.requires.lines in
    let tableau = subst (λ d. IsTableau p (g.T.Tableau.state d)) c.tableau.ensures c.rows-q_rows.ensures.tableau in
    let rows = (c.rows-q_rows.ensures.rows ∙ ap (λ d. (g.T.Tableau.state d).rows) c.tableau.ensures) in
    let columns = (c.columns-columns.ensures.columns ∙ ap (λ d. (g.T.Tableau.state d).columns) c.tableau-2.ensures) in
    let t_rows = length of.t.rows in
    let of_rows : ℕ → Shape = λ n. record {
      equations = n + t_rows - split_of of;
      unknowns =
          c.columns-columns.result - split_of of;
      q_rows = n;
      t_rows = t_rows;
      columns = c.columns-columns.result;
    } in
    let of_columns : ℕ → Shape = λ n. record {
      equations = S.rows + t_rows - split_of of;
      unknowns =
          n - split_of of;
      q_rows = S.rows;
      t_rows = t_rows;
      columns = n;
    } in
    let shape = c.shape_of.ensures ∙ ap of_rows rows ∙ ap of_columns columns in
    let rank : c.size.result - c.split-split.result ≡ size_of S solved.engine.matching - split_of of =
    omega (arith, c.size.ensures.size, c.split-split.ensures.count) in
    copied-fits p g.met.F.Field.prime g.met.F.Field.odd of c.split-split.ensures.layers S solved.engine.matching
    (vain_of solved.engine.found) facts.solution tableau solved.pair.base.items solved.pair.mates.items facts.pair
    (numbered_rows number printed.tableau.s) (numbered_rows number printed.tableau.u)
    (numbered_rows number printed.tableau.p) lines.tableau printed.symbols lines.symbols
    (parts_in solved.lattice) facts.decomposed printed.parts.first printed.parts.blocks printed.parts.last
    lines.parts c.shape_of.result (c.size.result - c.split-split.result) c.from_vec.result c.from_vec-2.result
    shape rank c.from_vec.ensures c.from_vec-2.ensures c.requires.model

pub returns : goal.returns
returns g c =
    let p = g.F.Field.modulus in
    let number = g.F.Field.number in
    let of = c.args.l.now in
    let solved = c.args.solved in
    let S = g.T.Tableau.state solved.engine.tableau in
    let printed = c.args.printed in
    let facts = c.requires.decomposed in
    let lines = c.requires.lines in
    let tableau = subst (λ d. IsTableau p (g.T.Tableau.state d)) c.tableau.ensures c.rows-q_rows.ensures.tableau in
    let rows = (c.rows-q_rows.ensures.rows ∙ ap (λ d. (g.T.Tableau.state d).rows) c.tableau.ensures) in
    let columns = (c.columns-columns.ensures.columns ∙ ap (λ d. (g.T.Tableau.state d).columns) c.tableau-2.ensures) in
    let t_rows = length of.t.rows in
    let of_rows : ℕ → Shape = λ n. record {
      equations = n + t_rows - split_of of;
      unknowns =
          c.columns-columns.result - split_of of;
      q_rows = n;
      t_rows = t_rows;
      columns = c.columns-columns.result;
    } in
    let of_columns : ℕ → Shape = λ n. record {
      equations = S.rows + t_rows - split_of of;
      unknowns =
          n - split_of of;
      q_rows = S.rows;
      t_rows = t_rows;
      columns = n;
    } in
    let shape = c.shape_of.ensures ∙ ap of_rows rows ∙ ap of_columns columns in
    let rank : c.size.result - c.split-split.result ≡ size_of S solved.engine.matching - split_of of =
    omega (arith, c.size.ensures.size, c.split-split.ensures.count) in
    subst (λ (k : Contents). OfEachModel p of (λ M O. IsRightCcf p M (layered_matrix_of of) O k)) (sym c.new.ensures)
    (copied-right p g.met.F.Field.prime g.met.F.Field.odd of c.split-split.ensures.layers S solved.engine.matching
    (vain_of solved.engine.found) facts.solution tableau solved.pair.base.items solved.pair.mates.items facts.pair
    (numbered_rows number printed.tableau.s) (numbered_rows number printed.tableau.u)
    (numbered_rows number printed.tableau.p) lines.tableau printed.symbols lines.symbols
    (parts_in solved.lattice) facts.decomposed printed.parts.first printed.parts.blocks printed.parts.last
    lines.parts c.shape_of.result (c.size.result - c.split-split.result) c.from_vec.result c.from_vec-2.result
    shape rank c.from_vec.ensures c.from_vec-2.ensures)
