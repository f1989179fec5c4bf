use Rattle.unit_equations.proofs.Growing.{grows-unknown}
use Rattle.unit_equations.proofs.adding.add_unknown.Goals as goal

pub returns-clause-grown : goal.returns-clause-grown
returns-clause-grown g c = grows-unknown g.F.Field.modulus c.args.model.now c.add_unknown.new.self c.args.name.now
    c.is_model.ensures c.requires.new c.in_ok-add_unknown.ensures.added
