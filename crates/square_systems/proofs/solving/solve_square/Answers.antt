use Rattle.std.proofs.Common.{◌≡◌, subst, map, slice_index}
use Rattle.dense_q.specs.Tables.{entry, height}
use Rattle.row_echelon.specs.Echelons.{EchelonState}
use Rattle.square_systems.specs.Joined.{AreJoined, HasDependentRow}
use Rattle.square_systems.proofs.JoinedLaws.{dependent-columns, joined-independent, joined-solved}
use Rattle.square_systems.proofs.solving.solve_square.Goals as goal

pub returns-then-not-branch-clause-singular : goal.returns-then-not-branch-clause-singular
returns-then-not-branch-clause-singular g c =
    let table = c.args.table.now in
    dependent-columns g.F.Field.modulus g.met.F.Field.prime (height table) (entry table)
    (subst (λ n. HasDependentRow g.F.Field.modulus (height table) n (entry table)) c.requires.square
    (c.in_ok-join_rows.ensures.dependent c.if-not-branch.true))

pub returns-clause-regular : goal.returns-clause-regular
returns-clause-regular g c =
    let p = g.F.Field.modulus in
    let table = c.args.table.now in
    let b = slice_index (map g.F.Field.number c.args.right.now) in
    let e : EchelonState = c.join_rows.new.echelon in
    joined-independent p g.met.F.Field.prime (height table) (entry table) b e c.is_echelon.ensures
    (subst (λ n. AreJoined p n (entry table) b e (height table)) c.requires.square (c.in_ok-join_rows.ensures.joined c.if-not-branch.false))

pub returns-clause-solved : goal.returns-clause-solved
returns-clause-solved g c =
    let p = g.F.Field.modulus in
    let table = c.args.table.now in
    let b = slice_index (map g.F.Field.number c.args.right.now) in
    let e : EchelonState = c.join_rows.new.echelon in
    joined-solved p (height table) (entry table) b e
    (subst (λ n. AreJoined p n (entry table) b e (height table)) c.requires.square (c.in_ok-join_rows.ensures.joined c.if-not-branch.false))
    (map g.F.Field.number c.in_ok-solution.field-0.items) c.in_ok-solution.ensures
