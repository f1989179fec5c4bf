use Rattle.std.proofs.Common.{◌≡◌, ◌+◌, ◌-◌, ◌≤◌, length, false}
use Rattle.port_io.specs.Asking.{AsksWithin}
use Rattle.port_io.specs.Bytes.{Took}
use Rattle.port_io.proofs.reading.pump_all.Given as goal

abbrev pub invariant-loop-bytes : goal.invariant-loop-bytes
invariant-loop-bytes g l = record {
  limit : l.pump.limit ≡ l.limit;
  unended : l.pump.ended ≡ false;
  taken : l.pump.taken ≡ length l.bytes.items;
  room : length l.bytes.items ≤ l.limit;
  so_far : Took (g.S.Source.left l.initial.source) (g.S.Source.left l.source) l.bytes.items;
  no_fault : g.S.Source.faults l.source ≡ g.S.Source.faults l.initial.source;
  steady : g.S.Source.never_fails l.initial.source → g.S.Source.never_fails l.source;
  asked : AsksWithin 65536 (l.limit + 1) (g.S.Source.asked l.initial.source) (g.S.Source.asked l.source);
  unmet : (g.S.Source.asked l.source).ends ≡ (g.S.Source.asked l.initial.source).ends;
  told : (g.S.Source.asked l.source).taken ≤ (g.S.Source.asked l.initial.source).taken + length l.bytes.items;
}

abbrev pub decreases-loop-bytes : goal.decreases-loop-bytes
decreases-loop-bytes g l = l.limit - length l.bytes.items
