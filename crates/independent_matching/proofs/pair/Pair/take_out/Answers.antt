use Rattle.std.proofs.Common.{◌≡◌, ◌-◌, subst, arith}
use Rattle.independent_matching.specs.Edits.{IsEdited}
use Rattle.independent_matching.proofs.EditSteps.{column-at, q-at, t-at}
use Rattle.independent_matching.proofs.pair.Pair.take_out.Goals as goal

pub remove_q_row-requires : goal.remove_q_row-requires
remove_q_row-requires g c =
    let R = c.requires in
    q-at g.F.Field.modulus R.least (g.T.Tableau.state c.args.self.now.tableau) c.args.self.now.mates c.args.at.q R.L R.thinned.without_q R.thinned.q R.edited

pub remove_t_row-requires : goal.remove_t_row-requires
remove_t_row-requires g c =
    let R = c.requires in
    let now = c.remove_q_row.new.self in
    t-at g.F.Field.modulus (R.least - 1) (g.T.Tableau.state now.tableau) now.mates c.args.at.t R.thinned.without_q R.thinned.without_t R.thinned.t
    (c.remove_q_row.ensures.edited R.L R.thinned.without_q R.least R.thinned.q R.edited)

pub remove_column-requires-clause-empty : goal.remove_column-requires-clause-empty
remove_column-requires-clause-empty g c =
    let R = c.requires in
    let now = c.remove_t_row.new.self in
    column-at g.F.Field.modulus (R.least - 1 - 1) (g.T.Tableau.state now.tableau) now.mates c.args.at.column R.thinned.without_t R.K R.thinned.column
    (c.remove_t_row.ensures.edited R.thinned.without_q R.thinned.without_t (R.least - 1) R.thinned.t
    (c.remove_q_row.ensures.edited R.L R.thinned.without_q R.least R.thinned.q R.edited))

pub remove_column-requires-clause-width : goal.remove_column-requires-clause-width
remove_column-requires-clause-width g c =
    let R = c.requires in
    (c.remove_t_row.ensures.edited R.thinned.without_q R.thinned.without_t (R.least - 1) R.thinned.t
    (c.remove_q_row.ensures.edited R.L R.thinned.without_q R.least R.thinned.q R.edited)).width

pub returns-clause-edited : goal.returns-clause-edited
returns-clause-edited g c L K least thinned E =
    let now = c.remove_column.new.self in
    let two : least - 1 - 1 ≡ least - 2 = omega arith in
    subst (λ n. IsEdited g.F.Field.modulus K n (g.T.Tableau.state now.tableau) now.mates) two
    (c.remove_column.ensures.edited thinned.without_t K (least - 1 - 1) thinned.column
    (c.remove_t_row.ensures.edited thinned.without_q thinned.without_t (least - 1) thinned.t
    (c.remove_q_row.ensures.edited L thinned.without_q least thinned.q E)))
