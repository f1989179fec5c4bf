use Rattle.std.proofs.Common.{◌≡◌, ◌∙◌, ◌+◌, ◌<◌, ◌≤◌, ap, sym, subst, arith}
use Rattle.dense_q.specs.Tables.{entry}
use Rattle.exchange_graph.specs.Results.{step_of}
use Rattle.mixed_pair_laws.proofs.TableauParts.{tableau}
use Rattle.independent_matching.specs.Engines.{layers}
use Rattle.independent_matching.specs.Sides.{layers_of, tableau_of_pair}
use Rattle.equation_choice.specs.Pairs.{CanTakePlace, HasTakenPlace, place_held}
use Rattle.equation_choice.proofs.Growing.{IsGrowing, growing-below, growing-can, growing-next, growing-start, growing-width, grown-back, grown-tableau}
use Rattle.equation_choice.proofs.OverLaws.{over-grown}
use Rattle.equation_choice.proofs.pair.Pair.grow.Goals as goal

pub loop-at-init : goal.loop-at-init
loop-at-init g c =
    let p = g.F.Field.modulus in
    let S = g.T.Tableau.state c.args.self.now.tableau in
    let M = c.args.self.now.mates in
    let q = entry c.args.layered.now.q in
    let T = tableau p g.met.F.Field.prime (layers q S M) S.s S.u (tableau_of_pair S M) c.requires.over.tableau in
    growing-start p q S M T c.args.from c.requires.from c.requires.bare (step_of c.args.search.now) c.args.last c.requires.walk

pub row_of-next-requires-clause-tableau : goal.row_of-next-requires-clause-tableau
row_of-next-requires-clause-tableau g c =
    let p = g.F.Field.modulus in
    let S = g.T.Tableau.state c.args.self.now.tableau in
    let M = c.args.self.now.mates in
    let q = entry c.args.layered.now.q in
    let T = tableau p g.met.F.Field.prime (layers q S M) S.s S.u (tableau_of_pair S M) c.requires.over.tableau in
    let now = g.T.Tableau.state c.loop-at.self.tableau in
    let le : c.loop-at.at ≤ c.args.last = omega (arith, c.loop-at-test.true) in
    subst (λ x. x < now.columns) (sym c.step-x.ensures)
    (growing-below p q S M T c.args.from c.requires.from c.requires.bare (step_of c.args.search.now) c.args.last c.requires.walk
    c.loop-at.at c.loop-at.row now c.loop-at.self.mates c.loop-at.invariant le)

pub row_of-next-requires-clause-mates : goal.row_of-next-requires-clause-mates
row_of-next-requires-clause-mates g c =
    let p = g.F.Field.modulus in
    let S = g.T.Tableau.state c.args.self.now.tableau in
    let M = c.args.self.now.mates in
    let q = entry c.args.layered.now.q in
    let T = tableau p g.met.F.Field.prime (layers q S M) S.s S.u (tableau_of_pair S M) c.requires.over.tableau in
    let now = g.T.Tableau.state c.loop-at.self.tableau in
    let le : c.loop-at.at ≤ c.args.last = omega (arith, c.loop-at-test.true) in
    let width = growing-width p q S M T c.args.from c.requires.from c.requires.bare (step_of c.args.search.now) c.args.last c.requires.walk
    c.loop-at.at c.loop-at.row now c.loop-at.self.mates c.loop-at.invariant le c.requires.over.width in
    subst (λ x. x < c.loop-at.self.mates.pattern.width) (sym c.step-x.ensures) (subst (λ n. step_of c.args.search.now c.loop-at.at < n) (sym width)
    (growing-below p q S M T c.args.from c.requires.from c.requires.bare (step_of c.args.search.now) c.args.last c.requires.walk
    c.loop-at.at c.loop-at.row now c.loop-at.self.mates c.loop-at.invariant le))

pub take-requires-clause-can : goal.take-requires-clause-can
take-requires-clause-can g c =
    let p = g.F.Field.modulus in
    let S = g.T.Tableau.state c.args.self.now.tableau in
    let M = c.args.self.now.mates in
    let q = entry c.args.layered.now.q in
    let T = tableau p g.met.F.Field.prime (layers q S M) S.s S.u (tableau_of_pair S M) c.requires.over.tableau in
    let now = g.T.Tableau.state c.loop-at.self.tableau in
    let le : c.loop-at.at ≤ c.args.last = omega (arith, c.loop-at-test.true) in
    subst (λ x. CanTakePlace p (layers_of now c.loop-at.self.mates) (tableau_of_pair now c.loop-at.self.mates) c.loop-at.row x) (sym c.step-x.ensures)
    (growing-can p q S M T c.args.from c.requires.from c.requires.bare (step_of c.args.search.now) c.args.last c.requires.walk
    c.loop-at.at c.loop-at.row now c.loop-at.self.mates c.loop-at.invariant le)

pub loop-at-preserved : goal.loop-at-preserved
loop-at-preserved g c =
    let p = g.F.Field.modulus in
    let S = g.T.Tableau.state c.args.self.now.tableau in
    let M = c.args.self.now.mates in
    let q = entry c.args.layered.now.q in
    let T = tableau p g.met.F.Field.prime (layers q S M) S.s S.u (tableau_of_pair S M) c.requires.over.tableau in
    let now = g.T.Tableau.state c.loop-at.self.tableau in
    let next = g.T.Tableau.state c.take.new.self.tableau in
    let le : c.loop-at.at ≤ c.args.last = omega (arith, c.loop-at-test.true) in
    let taken = subst (λ x. HasTakenPlace p now next c.loop-at.self.mates c.take.new.self.mates c.loop-at.row x) c.step-x.ensures c.take.ensures.taken in
    let held = c.row_of-next.ensures.row
    ∙ ap (λ x. place_held (layers_of now c.loop-at.self.mates) (tableau_of_pair now c.loop-at.self.mates) x) c.step-x.ensures in
    subst (λ r. IsGrowing p q S M c.args.from (step_of c.args.search.now) c.args.last (c.loop-at.at + 1) r next c.take.new.self.mates)
    (sym c.unwrap_or-row.ensures)
    (growing-next p q S M T c.args.from c.requires.from c.requires.bare (step_of c.args.search.now) c.args.last c.requires.walk
    c.loop-at.at c.loop-at.row now c.loop-at.self.mates c.loop-at.invariant le next c.take.new.self.mates taken c.row_of-next.result held)

pub returns-clause-over : goal.returns-clause-over
returns-clause-over g c =
    let p = g.F.Field.modulus in
    let S = g.T.Tableau.state c.args.self.now.tableau in
    let M = c.args.self.now.mates in
    let q = entry c.args.layered.now.q in
    let T = tableau p g.met.F.Field.prime (layers q S M) S.s S.u (tableau_of_pair S M) c.requires.over.tableau in
    let now = g.T.Tableau.state c.loop-at.self.tableau in
    let done : c.loop-at.at ≡ c.args.last + 1 = omega (arith, c.loop-at-test.false, c.loop-at.auto.at-end) in
    over-grown p c.args.layered.now S now M c.loop-at.self.mates c.requires.over c.loop-at.invariant.shape c.loop-at.invariant.pattern
    c.is_tableau-2.ensures.tableau (grown-tableau p q S M T c.args.from c.requires.from c.requires.bare (step_of c.args.search.now) c.args.last c.requires.walk
    c.loop-at.at c.loop-at.row now c.loop-at.self.mates c.loop-at.invariant done)

pub returns-clause-grown : goal.returns-clause-grown
returns-clause-grown g c =
    let p = g.F.Field.modulus in
    let S = g.T.Tableau.state c.args.self.now.tableau in
    let M = c.args.self.now.mates in
    let q = entry c.args.layered.now.q in
    let T = tableau p g.met.F.Field.prime (layers q S M) S.s S.u (tableau_of_pair S M) c.requires.over.tableau in
    let now = g.T.Tableau.state c.loop-at.self.tableau in
    let done : c.loop-at.at ≡ c.args.last + 1 = omega (arith, c.loop-at-test.false, c.loop-at.auto.at-end) in
    grown-back p q S M T c.args.from c.requires.from c.requires.bare (step_of c.args.search.now) c.args.last c.requires.walk
    c.loop-at.at c.loop-at.row now c.loop-at.self.mates c.loop-at.invariant done
