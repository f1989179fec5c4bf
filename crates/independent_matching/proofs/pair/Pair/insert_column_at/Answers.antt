use Rattle.std.proofs.Common.{◌+◌, ◌∙◌, ap, map, subst, sym}
use Rattle.std.proofs.lemmas.List.{length-map}
use Rattle.linear_algebra.specs.Parts.{skip}
use Rattle.sparse_t.specs.Incidences.{incidence_rows}
use Rattle.bipartite_matching.specs.Matchings.{Matching}
use Rattle.independent_matching.specs.Edits.{IsEdited}
use Rattle.independent_matching.proofs.EditLaws.{column-in}
use Rattle.independent_matching.proofs.pair.Pair.insert_column_at.Goals as goal

pub returns-clause-edited : goal.returns-clause-edited
returns-clause-edited g c L K least out E =
    let p = g.F.Field.modulus in
    let S = g.T.Tableau.state c.args.self.now.tableau in
    let S' = g.T.Tableau.state c.insert_column-2.new.self in
    subst (λ m. IsEdited p K least S' m) (sym c.insert_column.ensures.column)
    (column-in p K L c.args.col out least S S' c.args.self.now.mates c.pattern-pattern.ensures.matching c.insert_column-2.ensures.column E)

pub returns-clause-t_rows : goal.returns-clause-t_rows
returns-clause-t_rows g c =
    ap (λ (m : Matching). incidence_rows m.pattern) c.insert_column.ensures.column
    ∙ length-map c.args.self.now.mates.pattern.rows (map (skip c.args.col))

pub returns-clause-width : goal.returns-clause-width
returns-clause-width g c =
    ap (λ (m : Matching). m.pattern.width) c.insert_column.ensures.column
    ∙ (ap (λ n. n + 1) c.requires.width ∙ sym c.insert_column-2.ensures.column.columns_are)
