use Rattle.std.proofs.Common.{◌≡◌, ◌<◌, ◌≤◌, ℕ, length, slice_index_or, vec_len}
use Rattle.std.specs.Global.{Vec}
use Rattle.cert_text.specs.declared.part.CcfBlock.{CcfBlock}
use Rattle.ccf_builder.specs.declared.canonical.Block.{Block}
use Rattle.ccf_builder.specs.Placings.{IsBlockOf}
use Rattle.ccf_builder.proofs.printed_parts.blocks_of.Given as goal

abbrev pub invariant-loop-k : goal.invariant-loop-k
invariant-loop-k l = record {
  count : length l.printed.items ≡ l.k;
  made : (j : ℕ) (d : CcfBlock) → j < length l.printed.items →
      IsBlockOf l.fn.blocks.items l.fn.q_rows.items l.fn.t_rows.items j (slice_index_or l.printed.items j d);
  blocks_long : vec_len l.blocks ≡ vec_len l.fn.blocks;
  q_rows_long : vec_len l.q_rows ≡ vec_len l.fn.blocks;
  t_rows_long : vec_len l.t_rows ≡ vec_len l.fn.blocks;
  blocks : (j : ℕ) (d : Block) → l.k ≤ j → slice_index_or l.blocks.items j d ≡ slice_index_or l.fn.blocks.items j d;
  q_rows : (j : ℕ) (d : Vec ℕ) → l.k ≤ j → slice_index_or l.q_rows.items j d ≡ slice_index_or l.fn.q_rows.items j d;
  t_rows : (j : ℕ) (d : Vec ℕ) → l.k ≤ j → slice_index_or l.t_rows.items j d ≡ slice_index_or l.fn.t_rows.items j d;
}
