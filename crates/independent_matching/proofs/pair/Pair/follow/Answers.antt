use Rattle.std.proofs.Common.{◌+◌, ◌-◌, ◌≤◌, sym, subst, arith}
use Rattle.std.proofs.Math.Nat.{zero-mod}
use Rattle.limits.specs.Limits.{column_limit}
use Rattle.sparse_t.specs.Incidences.{incidence_rows}
use Rattle.mixed_model.specs.Layers.{Layers, layered_matrix_of}
use Rattle.independent_matching.proofs.EditSteps.{layers-widened, room-kept, room-less, thinner}
use Rattle.independent_matching.proofs.pair.Pair.follow.Goals as goal

pub take_out-requires : goal.take_out-requires
take_out-requires g c =
    let R = c.requires.following in
    record { L = R.L; K = R.chain.before; least = R.least; thinned = R.chain.out; edited = R.edited }

pub widen-requires-clause-from : goal.widen-requires-clause-from
widen-requires-clause-from g c =
    let R = c.requires.following in
    let E = c.take_out.ensures.edited R.L R.chain.before R.least R.chain.out R.edited in
    subst (λ n. c.args.at.unknowns ≤ n) (sym E.same.columns) R.chain.unknowns_before

pub widen-requires-clause-few : goal.widen-requires-clause-few
widen-requires-clause-few g c =
    let R = c.requires.following in
    let K = layered_matrix_of c.args.new.now in
    let now = c.take_out.new.self in
    let E = c.take_out.ensures.edited R.L R.chain.before R.least R.chain.out R.edited in
    let few : K.columns ≤ column_limit = subst (λ (l : Layers). l.q.width ≤ column_limit) c.new.view_is c.is_matrix.ensures.narrow in
    let thin = thinner g.F.Field.modulus K R.chain.after c.args.at.put R.chain.put R.least (g.T.Tableau.room_of now.tableau) in
    omega (arith, few, thin.2, R.chain.wider.columns, E.same.columns)

pub widen-requires-clause-width : goal.widen-requires-clause-width
widen-requires-clause-width g c =
    let R = c.requires.following in
    (c.take_out.ensures.edited R.L R.chain.before R.least R.chain.out R.edited).width

pub widen-requires-clause-room : goal.widen-requires-clause-room
widen-requires-clause-room g c =
    let R = c.requires.following in
    let K = layered_matrix_of c.args.new.now in
    let old = c.args.self.now in
    let now = c.take_out.new.self in
    let S = g.T.Tableau.state now.tableau in
    let E = c.take_out.ensures.edited R.L R.chain.before R.least R.chain.out R.edited in
    let thin = thinner g.F.Field.modulus K R.chain.after c.args.at.put R.chain.put R.least (g.T.Tableau.room_of now.tableau) in
    room-less K.q_rows K.t_rows K.columns S.rows (incidence_rows now.mates.pattern) (S.columns + c.args.at.unknowns_after - c.args.at.unknowns)
    (g.T.Tableau.room_of now.tableau) now.mates
    (omega (arith, thin.0, R.chain.wider.q_rows, E.same.q_rows))
    (omega (arith, thin.1, R.chain.wider.t_rows, E.same.t_rows))
    (omega (arith, thin.2, R.chain.wider.columns, E.same.columns))
    (room-kept K.q_rows K.t_rows K.columns (g.T.Tableau.room_of old.tableau) (g.T.Tableau.room_of now.tableau) old.mates now.mates
    c.take_out.ensures.room c.requires.room)

pub put_in-requires-clause-putting : goal.put_in-requires-clause-putting
put_in-requires-clause-putting g c =
    let p = g.F.Field.modulus in
    let R = c.requires.following in
    record {
      L = R.chain.after;
      least = R.least - 2;
      thinned = R.chain.put;
      edited = c.widen.ensures.edited R.chain.before R.chain.after (R.least - 2)
          (layers-widened p R.chain.before R.chain.after c.args.at.unknowns c.args.at.unknowns_after R.chain.wider (zero-mod p))
          (c.take_out.ensures.edited R.L R.chain.before R.least R.chain.out R.edited);
    }

pub returns-clause-edited : goal.returns-clause-edited
returns-clause-edited g c L least chain E =
    let p = g.F.Field.modulus in
    c.put_in.ensures.edited chain.after (least - 2) chain.put
    (c.widen.ensures.edited chain.before chain.after (least - 2)
    (layers-widened p chain.before chain.after c.args.at.unknowns c.args.at.unknowns_after chain.wider (zero-mod p))
    (c.take_out.ensures.edited L chain.before least chain.out E))
