use Rattle.std.proofs.Common.{◌+◌, ◌-◌}
use Rattle.limits.specs.Limits.{input_limit}
use Rattle.input_kinds.proofs.Pumped.{HasPumped}
use Rattle.input_kinds.proofs.reading.feed_all.Given as goal

abbrev pub invariant-loop-reader : goal.invariant-loop-reader
invariant-loop-reader g l = HasPumped g.S.Source l.initial.source l.source l.pump (g.R.ModelReader.is_fed l.reader)

abbrev pub decreases-loop-reader : goal.decreases-loop-reader
decreases-loop-reader g l = input_limit + 1 - l.pump.taken
