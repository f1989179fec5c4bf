use Rattle.std.proofs.Common.{refl}
use Rattle.matrix_reader.proofs.LineSteps.{sees_answer}
use Rattle.matrix_reader.proofs.reader.Reader.see_unknown.Goals as goal

pub returns-clause-seen : goal.returns-clause-seen
returns-clause-seen g c = λ before names read.
    let a = c.in_ok-name.ensures in
    sees_answer g.F.Field.modulus before names c.args.unknown.now c.args.line c.args.self.now.model
    c.args.self.now.last_lines.items read c.see.new.self.model c.see.new.self.last_lines.items c.see.result
    (rw a refl) c.see.ensures.seen c.see.ensures.unseen
