use Rattle.std.proofs.Common.{max, arith}
use Rattle.independent_matching.specs.Engines.{layers}
use Rattle.independent_matching.specs.Sides.{is_matched, size_of}
use Rattle.independent_matching.proofs.UpdateLaws.{started-edited, update-bound, updated}
use Rattle.independent_matching.proofs.engine.Engine.update.Goals as goal

pub go_on-requires : goal.go_on-requires
go_on-requires g c =
    let p = g.F.Field.modulus in
    let S = g.T.Tableau.state c.args.self.now.tableau in
    let M = c.args.self.now.matching in
    let B = c.requires.best in
    record {
      L = layers B.entries S M;
      least = size_of S M;
      chain = c.places_of-places.ensures.chain B.entries B.edit;
      edited = started-edited p B.entries S M B.opened c.places_of-places.ensures.pair;
    }

pub returns-clause-updated : goal.returns-clause-updated
returns-clause-updated g c =
    let p = g.F.Field.modulus in
    let S = g.T.Tableau.state c.args.self.now.tableau in
    let M = c.args.self.now.matching in
    let B = c.requires.best in
    let O = c.in_ok-go_on.ensures in
    updated g.row.T.Denot g.T.Tableau.state g.T.Tableau.pivots p g.met.F.Field.prime c.args.change c.args.new.now c.are_layers.ensures.same_columns
    c.go_on.new.self c.run_counted.new.self c.args.steps.now c.run_counted.new.steps c.run_counted.ensures.run (layers B.entries S M) S.base
    (is_matched M) B.best B.edit
    (O.edited (layers B.entries S M) (size_of S M) (c.places_of-places.ensures.chain B.entries B.edit)
    (started-edited p B.entries S M B.opened c.places_of-places.ensures.pair)) O.incidence.0 O.incidence.1 O.pair

pub returns-clause-searches : goal.returns-clause-searches
returns-clause-searches g c =
    let p = g.F.Field.modulus in
    let S = g.T.Tableau.state c.args.self.now.tableau in
    let M = c.args.self.now.matching in
    let B = c.requires.best in
    let O = c.in_ok-go_on.ensures in
    let bound = update-bound g.row.T.Denot g.T.Tableau.state g.T.Tableau.pivots p g.met.F.Field.prime c.args.change c.args.new.now
    c.are_layers.ensures.same_columns
    c.go_on.new.self c.run_counted.new.self c.args.steps.now c.run_counted.new.steps c.run_counted.ensures.run (layers B.entries S M) S.base
    (is_matched M) B.best B.edit
    (O.edited (layers B.entries S M) (size_of S M) (c.places_of-places.ensures.chain B.entries B.edit)
    (started-edited p B.entries S M B.opened c.places_of-places.ensures.pair)) O.incidence.0 O.incidence.1 O.pair
    c.args.new.now.q.width (omega arith) in
    omega (arith, bound.1, c.run_counted.ensures.counted)

pub returns-clause-steps : goal.returns-clause-steps
returns-clause-steps g c =
    let p = g.F.Field.modulus in
    let S = g.T.Tableau.state c.args.self.now.tableau in
    let M = c.args.self.now.matching in
    let B = c.requires.best in
    let O = c.in_ok-go_on.ensures in
    (update-bound g.row.T.Denot g.T.Tableau.state g.T.Tableau.pivots p g.met.F.Field.prime c.args.change c.args.new.now
    c.are_layers.ensures.same_columns
    c.go_on.new.self c.run_counted.new.self c.args.steps.now c.run_counted.new.steps c.run_counted.ensures.run (layers B.entries S M) S.base
    (is_matched M) B.best B.edit
    (O.edited (layers B.entries S M) (size_of S M) (c.places_of-places.ensures.chain B.entries B.edit)
    (started-edited p B.entries S M B.opened c.places_of-places.ensures.pair)) O.incidence.0 O.incidence.1 O.pair
    (max S.columns c.args.new.now.q.width) (omega arith)).0
