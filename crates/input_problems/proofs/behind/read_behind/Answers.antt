use Rattle.std.proofs.Common.{◌-◌, take, drop, length, sym, subst}
use Rattle.input_problems.specs.ProblemTexts.{IsWhyNoneBehind}
use Rattle.input_problems.proofs.ReadingSteps.{fits-behind, gives-behind, rest-is_model, unread-behind}
use Rattle.input_problems.proofs.behind.read_behind.Goals as goal

pub returns-in-Ok-clause-model : goal.returns-in-Ok-clause-model
returns-in-Ok-clause-model g c =
    let text = c.args.text.now in
    let part = take (length text - c.args.start) (drop c.args.start text) in
    gives-behind g.F.Field.modulus c.args.kind text part (rest-is_model text c.args.start c.requires.start) c.in-Ok.model c.in-Ok.ensures.model

pub counted_why-requires : goal.counted_why-requires
counted_why-requires g c =
    let text = c.args.text.now in
    let part = take (length text - c.args.start) (drop c.args.start text) in
    fits-behind g.F.Field.modulus c.args.kind text part (rest-is_model text c.args.start c.requires.start) c.in-Err.why c.args.lines
    c.requires.few c.requires.lines c.in-Err.ensures.refused

pub returns-in-Err-clause-refused : goal.returns-in-Err-clause-refused
returns-in-Err-clause-refused g c =
    let text = c.args.text.now in
    let part = take (length text - c.args.start) (drop c.args.start text) in
    subst (λ why. IsWhyNoneBehind g.F.Field.modulus c.args.kind text why) (sym c.counted_why.ensures)
    (unread-behind g.F.Field.modulus c.args.kind text part (rest-is_model text c.args.start c.requires.start) c.in-Err.why c.args.lines
    c.requires.lines c.in-Err.ensures.refused)
