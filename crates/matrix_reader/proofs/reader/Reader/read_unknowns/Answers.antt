use Rattle.std.proofs.Common.{◌∷◌, [], ap}
use Rattle.matrix_reader.proofs.LineSteps.{IsRead-unknown, unknowns_answer, words}
use Rattle.matrix_reader.proofs.reader.Reader.read_unknowns.Goals as goal

pub returns-clause-read : goal.returns-clause-read
returns-clause-read g c = λ before read.
    let all = words c.args.words in
    let name = c.in-Some.first.text.now in
    let first = c.in_ok-see_unknown.ensures.seen before []
    (IsRead-unknown g.F.Field.modulus before c.args.line c.args.self.now.model c.args.self.now.last_lines.items read) in
    unknowns_answer g.F.Field.modulus before all (words c.next.new.self) name c.args.line c.see_unknowns.new.self.model
    c.see_unknowns.new.self.last_lines.items c.see_unknowns.result
    (ap words c.in-Some.ensures.steps) first.0 (c.see_unknowns.ensures.seen before (name ∷ []) first.1)
