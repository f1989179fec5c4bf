use Rattle.equation_choice.proofs.PlaceLaws.{entry-least}
use Rattle.equation_choice.proofs.pair.Pair.next_in_q.Goals as goal

pub returns-in-Some-clause-least : goal.returns-in-Some-clause-least
returns-in-Some-clause-least g c = entry-least g.F.Field.modulus (g.T.Tableau.state c.args.self.now.tableau) c.args.self.now.mates c.args.row
    c.args.from c.in-Some.found.0 c.requires.row c.in-Some.ensures.least (g.F.Field.number c.in-Some.found.1) c.in-Some.ensures.entry
    c.in_field.ensures
