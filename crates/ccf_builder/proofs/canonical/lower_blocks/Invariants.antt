use Rattle.std.proofs.Common.{◌≡◌, ◌≤◌, ◌-◌, true}
use Rattle.minimiser_lattice.specs.Views.{parts_in}
use Rattle.ccf_builder.specs.Placings.{ListsBelow}
use Rattle.ccf_builder.proofs.canonical.lower_blocks.Given as goal

abbrev pub invariant-loop-j : goal.invariant-loop-j
invariant-loop-j l = record {
  within : l.from ≤ l.k;
  lists : ListsBelow (λ j. (parts_in l.lattice).covers l.k j ≡ true) l.from l.lower.items;
}

abbrev pub decreases-loop-j : goal.decreases-loop-j
decreases-loop-j l = l.k - l.from
