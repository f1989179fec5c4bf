use Rattle.std.proofs.Common.{codes, sym, ap, ◌∙◌, ◌++◌}
use Rattle.std.proofs.lemmas.Result.{err_from_is_err_and}
use Rattle.matrix_reader.proofs.ValueLaws.{read_before, broken_before, read_alone, broken_alone, read_symbol}
use Rattle.matrix_reader.proofs.items.read_value.Goals as goal

pub returns-then-eq : goal.returns-then-eq
returns-then-eq g c = read_symbol g.F.Field.modulus c.args.text.now (g.F.Field.number c.zero-constant.result) (sym c.if-eq.ensures) c.zero-constant.ensures

pub returns-in_err-constant-in-Some : goal.returns-in_err-constant-in-Some
returns-in_err-constant-in-Some g c =
    let failed = err_from_is_err_and c.from_residual.result c.from_residual.ensures.1 in
    let found = c.in-Some.ensures.cases in
    let split = found.1.1 ∙ ap (λ front. front ++ codes "+?") (sym found.2) in
    rw (failed.1, failed.2) (broken_before g.F.Field.modulus c.args.text.now
    (sym c.if-eq.ensures) c.in-Some.digits.now c.in_err-constant-in-Some.field-0.0 split c.in_err-constant-in-Some.ensures)

pub returns-in_ok-constant-in-Some : goal.returns-in_ok-constant-in-Some
returns-in_ok-constant-in-Some g c =
    let found = c.in-Some.ensures.cases in
    let split = found.1.1 ∙ ap (λ front. front ++ codes "+?") (sym found.2) in
    read_before g.F.Field.modulus c.args.text.now (sym c.if-eq.ensures) c.in-Some.digits.now
    (g.F.Field.number c.in_ok-constant-in-Some.constant) split c.in_ok-constant-in-Some.ensures

pub returns-in_err-constant-in-None : goal.returns-in_err-constant-in-None
returns-in_err-constant-in-None g c =
    let failed = err_from_is_err_and c.from_residual-in_err-constant-in-None.result c.from_residual-in_err-constant-in-None.ensures.1 in
    rw (failed.1, failed.2) (broken_alone g.F.Field.modulus c.args.text.now
    (sym c.if-eq.ensures) c.in_err-constant-in-None.field-0.0 c.in-None.ensures.cases c.in_err-constant-in-None.ensures)

pub returns-in_ok-constant-in-None : goal.returns-in_ok-constant-in-None
returns-in_ok-constant-in-None g c =
    read_alone g.F.Field.modulus c.args.text.now (sym c.if-eq.ensures)
    (g.F.Field.number c.in_ok-constant-in-None.constant) c.in-None.ensures.cases c.in_ok-constant-in-None.ensures
