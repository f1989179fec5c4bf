use Rattle.dense_q.specs.Tables.{entry}
use Rattle.mixed_pair_laws.proofs.TableauParts.{tableau}
use Rattle.independent_matching.specs.Engines.{layers}
use Rattle.independent_matching.specs.Sides.{tableau_of_pair}
use Rattle.equation_choice.proofs.FreeEntries.{direct-can, direct-grown, direct-tableau, direct-walk}
use Rattle.equation_choice.proofs.OverLaws.{over-grown}
use Rattle.equation_choice.proofs.pair.Pair.grow_at.Goals as goal

pub take-requires-clause-can : goal.take-requires-clause-can
take-requires-clause-can g c =
    let p = g.F.Field.modulus in
    let S = g.T.Tableau.state c.args.self.now.tableau in
    let M = c.args.self.now.mates in
    let q = entry c.args.layered.now.q in
    let T = tableau p g.met.F.Field.prime (layers q S M) S.s S.u (tableau_of_pair S M) c.requires.over.tableau in
    direct-can p q S M T c.args.from c.requires.from c.requires.bare c.args.x c.requires.x c.requires.entry c.requires.free

pub returns-clause-over : goal.returns-clause-over
returns-clause-over g c =
    let p = g.F.Field.modulus in
    let S = g.T.Tableau.state c.args.self.now.tableau in
    let M = c.args.self.now.mates in
    let q = entry c.args.layered.now.q in
    let T = tableau p g.met.F.Field.prime (layers q S M) S.s S.u (tableau_of_pair S M) c.requires.over.tableau in
    let next = g.T.Tableau.state c.take.new.self.tableau in
    over-grown p c.args.layered.now S next M c.take.new.self.mates c.requires.over c.take.ensures.taken.layers c.take.ensures.taken.pattern
    c.is_tableau.ensures.tableau (direct-tableau p q S M T c.args.from c.requires.from c.requires.bare c.args.x c.requires.x c.requires.entry
    c.requires.free next c.take.new.self.mates c.take.ensures.taken)

pub returns-clause-walk : goal.returns-clause-walk
returns-clause-walk g c =
    let p = g.F.Field.modulus in
    let S = g.T.Tableau.state c.args.self.now.tableau in
    let M = c.args.self.now.mates in
    let q = entry c.args.layered.now.q in
    let T = tableau p g.met.F.Field.prime (layers q S M) S.s S.u (tableau_of_pair S M) c.requires.over.tableau in
    direct-walk p q S M T c.args.from c.requires.from c.requires.bare c.args.x c.requires.x c.requires.entry c.requires.free

pub returns-clause-grown : goal.returns-clause-grown
returns-clause-grown g c =
    let p = g.F.Field.modulus in
    let S = g.T.Tableau.state c.args.self.now.tableau in
    let M = c.args.self.now.mates in
    let q = entry c.args.layered.now.q in
    let T = tableau p g.met.F.Field.prime (layers q S M) S.s S.u (tableau_of_pair S M) c.requires.over.tableau in
    direct-grown p q S M T c.args.from c.requires.from c.requires.bare c.args.x c.requires.x c.requires.entry c.requires.free
    (g.T.Tableau.state c.take.new.self.tableau) c.take.new.self.mates c.take.ensures.taken
