use Rattle.std.proofs.Common.{◌≡◌, ◌∙◌, not, ap, subst, sym, arith}
use Rattle.residue_theory.specs.Sums.{size_on}
use Rattle.exchange_graph.proofs.SweepLaws.{nothing-left}
use Rattle.exchange_graph.specs.Marks.{members_of}
use Rattle.exchange_graph.specs.Results.{vain_of}
use Rattle.exchange_graph.specs.Sweeps.{IsLeftOut}
use Rattle.mixed_matrices.specs.Arcs.{is_end, is_free, leads_to}
use Rattle.mixed_model.specs.Layers.{layered_matrix_of}
use Rattle.independent_matching.specs.Edits.{IsEdited, IsFollowing}
use Rattle.independent_matching.specs.Marks.{AreKeptMarks, IsReadyPair}
use Rattle.independent_matching.specs.Sides.{layers_of, tableau_of_pair}
use Rattle.independent_matching.proofs.EditLaws.{pair-tableau, room-edited}
use Rattle.independent_matching.proofs.FreeLaws.{taken-size}
use Rattle.independent_matching.proofs.engine.Engine.go_on.Goals as goal

pub invariant_of-self : goal.invariant_of-self
invariant_of-self g c =
    let p = g.F.Field.modulus in
    let e = c.self.inside in
    let now = c.room.new.self in
    subst (λ S. IsReadyPair p S now.mates e.search e.resting e.mover.marks e.size e.mover.pivots e.looks) (sym c.room.ensures.tableau)
    (subst (λ M. IsReadyPair p (g.T.Tableau.state e.mover.pair.tableau) M e.search e.resting e.mover.marks e.size e.mover.pivots e.looks)
    (sym c.in_err-room.ensures.err) c.self.invariant)

pub follow-requires-clause-following : goal.follow-requires-clause-following
follow-requires-clause-following g c =
    let p = g.F.Field.modulus in
    let state = g.T.Tableau.state in
    let e = c.self.inside in
    let now = c.room.new.self in
    let R = subst (λ (v : _). IsFollowing p (layered_matrix_of c.args.new.now) c.args.places (state v.tableau) v.matching) (sym c.self.view_is) c.requires in
    record {
      L = R.L;
      least = R.least;
      chain = R.chain;
      edited = room-edited p R.L R.least (state e.mover.pair.tableau) (state now.tableau) e.mover.pair.mates now.mates c.room.ensures.tableau
          c.room.ensures.pattern c.room.ensures.mates R.edited;
    }

pub look-requires-clause-width : goal.look-requires-clause-width
look-requires-clause-width g c =
    let p = g.F.Field.modulus in
    let state = g.T.Tableau.state in
    let e = c.self.inside in
    let now = c.room.new.self in
    let R = subst (λ (v : _). IsFollowing p (layered_matrix_of c.args.new.now) c.args.places (state v.tableau) v.matching) (sym c.self.view_is) c.requires in
    (c.follow.ensures.edited R.L R.least R.chain (room-edited p R.L R.least (state e.mover.pair.tableau) (state now.tableau) e.mover.pair.mates now.mates
    c.room.ensures.tableau c.room.ensures.pattern c.room.ensures.mates R.edited)).width

pub look-requires-clause-sized : goal.look-requires-clause-sized
look-requires-clause-sized g c =
    let p = g.F.Field.modulus in
    let state = g.T.Tableau.state in
    let e = c.self.inside in
    let now = c.room.new.self in
    let R = subst (λ (v : _). IsFollowing p (layered_matrix_of c.args.new.now) c.args.places (state v.tableau) v.matching) (sym c.self.view_is) c.requires in
    let E = c.follow.ensures.edited R.L R.least R.chain (room-edited p R.L R.least (state e.mover.pair.tableau) (state now.tableau) e.mover.pair.mates
    now.mates c.room.ensures.tableau c.room.ensures.pattern c.room.ensures.mates R.edited) in
    subst (λ n. AreKeptMarks n c.in_ok-fresh.fresh.resting c.in_ok-fresh.fresh.marks) (sym E.same.columns) c.in_ok-fresh.ensures.marks

pub invariant_of-self-2 : goal.invariant_of-self-2
invariant_of-self-2 g c =
    let p = g.F.Field.modulus in
    let state = g.T.Tableau.state in
    let e = c.self.inside in
    let now = c.room.new.self in
    let R = subst (λ (v : _). IsFollowing p (layered_matrix_of c.args.new.now) c.args.places (state v.tableau) v.matching) (sym c.self.view_is) c.requires in
    let E = c.follow.ensures.edited R.L R.least R.chain (room-edited p R.L R.least (state e.mover.pair.tableau) (state now.tableau) e.mover.pair.mates
    now.mates c.room.ensures.tableau c.room.ensures.pattern c.room.ensures.mates R.edited) in
    let S = state c.follow.new.self.tableau in
    let M = c.follow.new.self.mates in
    let search = c.in_ok-fresh.fresh.search in
    let marks = c.look.ensures in
    let taken : c.taken-self-inside.result ≡ size_on (λ x. not (members_of c.look.new.resting.free.items x)) S.columns =
    c.taken-self-inside.ensures ∙ ap (size_on (λ x. not (members_of c.look.new.resting.free.items x))) marks.of_q.sized.free_count in
    record {
      pair = pair-tableau p S M g.met.F.Field.prime c.is_tableau.ensures.tableau c.pattern.ensures.matching E.width E.apart;
      width = E.width;
      search = c.in_ok-fresh.ensures.places ∙ sym E.same.columns;
      left = subst (λ k. IsLeftOut (leads_to p (layers_of S M) (tableau_of_pair S M)) S.columns (is_free (tableau_of_pair S M))
          (is_end p (layers_of S M) (tableau_of_pair S M)) (vain_of search) k) (sym c.in_ok-fresh.ensures.search.next)
          (nothing-left (leads_to p (layers_of S M) (tableau_of_pair S M)) S.columns (is_free (tableau_of_pair S M))
          (is_end p (layers_of S M) (tableau_of_pair S M)) (vain_of search) c.in_ok-fresh.ensures.search.none_left_out);
      marks = marks;
      count = taken ∙ taken-size S M (members_of c.look.new.resting.free.items) E.apart marks.free;
      few = omega arith;
      few_looks = omega arith;
    }

pub returns-clause-edited : goal.returns-clause-edited
returns-clause-edited g c L least chain E =
    let p = g.F.Field.modulus in
    let state = g.T.Tableau.state in
    let e = c.self.inside in
    let now = c.room.new.self in
    let old = subst (λ (v : _). IsEdited p L least (state v.tableau) v.matching) (sym c.self.view_is) E in
    c.follow.ensures.edited L least chain (room-edited p L least (state e.mover.pair.tableau) (state now.tableau) e.mover.pair.mates now.mates
    c.room.ensures.tableau c.room.ensures.pattern c.room.ensures.mates old)

pub returns-clause-pair : goal.returns-clause-pair
returns-clause-pair g c =
    let p = g.F.Field.modulus in
    let state = g.T.Tableau.state in
    let e = c.self.inside in
    let now = c.room.new.self in
    let R = subst (λ (v : _). IsFollowing p (layered_matrix_of c.args.new.now) c.args.places (state v.tableau) v.matching) (sym c.self.view_is) c.requires in
    let E = c.follow.ensures.edited R.L R.least R.chain (room-edited p R.L R.least (state e.mover.pair.tableau) (state now.tableau) e.mover.pair.mates
    now.mates c.room.ensures.tableau c.room.ensures.pattern c.room.ensures.mates R.edited) in
    pair-tableau p (state c.follow.new.self.tableau) c.follow.new.self.mates g.met.F.Field.prime c.is_tableau.ensures.tableau
    c.pattern.ensures.matching E.width E.apart
