use Rattle.std.proofs.Common.{ℕ, List, sym, subst}
use Rattle.std.proofs.lemmas.Result.{err_from_is_err_and}
use Rattle.netlist_reader.specs.Models.{IsRefusal}
use Rattle.netlist_reader.specs.Feeding.{IsFed}
use Rattle.netlist_reader.proofs.EndSteps.{gives, refused-line, refused-whole, sourced}
use Rattle.netlist_reader.proofs.netlist.NetlistReader.finish.Goals as goal

pub returns-in_err-circuit-clause-refused : goal.returns-in_err-circuit-clause-refused
returns-in_err-circuit-clause-refused g c =
    let failed = err_from_is_err_and c.from_residual.result c.from_residual.ensures.1 in
    rw failed.1
    (subst (λ why. (text : List ℕ) → IsFed g.F.Field.modulus c.args.self text → IsRefusal g.F.Field.modulus text why) (sym failed.2)
    (λ text fed. refused-line g.F.Field.modulus text c.in_err-circuit.field-0.0 (c.in_err-circuit.ensures.refused text fed)))

pub returns-in_err-test-clause-refused : goal.returns-in_err-test-clause-refused
returns-in_err-test-clause-refused g c =
    let failed = err_from_is_err_and c.from_residual-in_err-test.result c.from_residual-in_err-test.ensures.1 in
    rw failed.1
    (subst (λ why. (text : List ℕ) → IsFed g.F.Field.modulus c.args.self text → IsRefusal g.F.Field.modulus text why) (sym failed.2)
    (λ text fed. refused-whole g.F.Field.modulus text c.in_ok-circuit.circuit c.in_err-test.field-0.0
    (c.in_ok-circuit.ensures.kept text fed) (c.in_ok-circuit.ensures.read text fed) c.in_err-test.ensures))

pub build-requires-clause-sourced : goal.build-requires-clause-sourced
build-requires-clause-sourced g c = sourced c.in_ok-circuit.circuit.devices c.in_ok-test.ensures.1

pub returns-clause-model : goal.returns-clause-model
returns-clause-model g c = λ text fed.
    gives g.F.Field.modulus text c.in_ok-circuit.circuit c.in_ok-build.field-0 (c.in_ok-circuit.ensures.kept text fed)
    (c.in_ok-circuit.ensures.read text fed) c.in_ok-test.ensures c.in_ok-build.ensures
