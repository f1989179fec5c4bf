use Rattle.std.proofs.Common.{length, ap, ◌∙◌, arith}
use Rattle.made_models.proofs.NameLaws.{numbered_names-length}
use Rattle.made_models.proofs.TryLaws.{drawn-after, drawn-try}
use Rattle.made_models.proofs.tries.try_entries.Goals as goal

pub try_entry-requires-clause-equation : goal.try_entry-requires-clause-equation
try_entry-requires-clause-equation g c =
    omega (arith, ap length c.loop-trial.invariant.tried.equations, numbered_names-length 101 c.args.size, c.requires.equation)

pub try_entry-requires-clause-unknowns : goal.try_entry-requires-clause-unknowns
try_entry-requires-clause-unknowns g c =
    ap length c.loop-trial.invariant.tried.unknowns ∙ numbered_names-length 120 c.args.size

pub loop-trial-preserved : goal.loop-trial-preserved
loop-trial-preserved g c =
    let before = c.loop-trial in
    record {
      tried = drawn-try c.args.size c.args.i before._trial before.draws c.try_entry.new.draws before.model c.try_entry.new.model
          (omega (arith, c.loop-trial-test.true)) before.invariant.draws c.in_ok-try_entry.ensures.draws
          before.invariant.tried c.in_ok-try_entry.ensures.entry;
      draws = c.in_ok-try_entry.ensures.draws ∙ drawn-after c.args.size c.args.i before._trial before.draws before.invariant.draws;
    }
