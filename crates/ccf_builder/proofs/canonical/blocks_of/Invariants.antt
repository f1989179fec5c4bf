use Rattle.std.proofs.Common.{◌≡◌, ◌<◌, ◌≤◌, ℕ, length, slice_index_or, vec_len}
use Rattle.std.specs.Global.{Vec}
use Rattle.minimiser_lattice.specs.Views.{parts_in}
use Rattle.ccf_builder.specs.declared.canonical.Block.{Block}
use Rattle.ccf_builder.specs.Placings.{IsColumnBlock}
use Rattle.ccf_builder.proofs.canonical.blocks_of.Given as goal

abbrev pub invariant-loop-k : goal.invariant-loop-k
invariant-loop-k l = record {
  count : length l.blocks.items ≡ l.k;
  made : (j : ℕ) (d : Block) → j < length l.blocks.items →
      IsColumnBlock (parts_in l.lattice) l.fn.columns.items j (slice_index_or l.blocks.items j d);
  long : vec_len l.columns ≡ (parts_in l.lattice).blocks;
  left : (j : ℕ) (d : Vec ℕ) → l.k ≤ j → slice_index_or l.columns.items j d ≡ slice_index_or l.fn.columns.items j d;
}
