use Rattle.std.proofs.Common.{◌+◌, ◌/◌, ◌%◌, ◌<◌, ◌∙◌, arith}
use Rattle.std.proofs.Math.Nat.{mod-eq_of_lt}
use Rattle.std.proofs.lemmas.Result.{on_ok_weaker}
use Rattle.made_models.proofs.TryLaws.{constant-entry}
use Rattle.made_models.proofs.tries.put_entry.Goals as goal

pub returns-else-number-gt1-clause-entry : goal.returns-else-number-gt1-clause-entry
returns-else-number-gt1-clause-entry g c =
    let below : c.args.number / 4 % 65520 + 1 < g.F.Field.modulus = omega (arith, c.requires.constants) in
    on_ok_weaker c.put_constant.result
    (constant-entry c.args.i c.args.j c.args.number (g.F.Field.number c.of.result) c.args.model.now c.put_constant.new.self
    c.requires.free c.if-number-gt1.false (c.of.ensures ∙ mod-eq_of_lt below))
    c.put_constant.ensures.put
