use Rattle.std.proofs.Common.{◌≤◌}
use Rattle.ccf_builder.proofs.choice.has_few_entries.Given as goal

abbrev pub invariant-loop-row : goal.invariant-loop-row
invariant-loop-row g l = l.entries ≤ l.most
