use Rattle.std.proofs.Common.{◌≡◌, ◌+◌, ◌<◌, ◌∙◌, ℕ, List, length, drop, slice_index_or, subst, sym, ap, arith}
use Rattle.std.specs.Global.{Vec}
use Rattle.cert_text.specs.declared.part.CcfBlock.{CcfBlock}
use Rattle.ccf_builder.specs.declared.canonical.Block.{Block}
use Rattle.ccf_builder.specs.Placings.{IsBlockOf}
use Rattle.ccf_builder.proofs.NextBlock.{next-block}
use Rattle.ccf_builder.proofs.TakenLists.{left-after, taken-item}
use Rattle.ccf_builder.proofs.printed_parts.blocks_of.Goals as goal

pub loop-k-preserved : goal.loop-k-preserved
loop-k-preserved c =
    let l = c.loop-k in
    let I = l.invariant in
    let k = l.k in
    let Made : ℕ → CcfBlock → Type 0 = IsBlockOf c.args.blocks.items c.args.q_rows.items c.args.t_rows.items in
    let taken : (d : Block) → c.take_block-columns.result ≡ slice_index_or c.args.blocks.items k d = λ d. c.take_block-columns.ensures.block d
    ∙ taken-item Block c.args.blocks.items l.blocks.items c.deref_mut.result.now c.take_block-columns.new.blocks c.deref_mut.ensures.value k I.blocks d in
    let block : CcfBlock = record {
      part = record { columns = c.take_block-columns.result.columns; q_rows = c.take_at.result; t_rows = c.take_at-in-loop-k.result };
      lower = c.take_block-columns.result.lower;
    } in
    let made : Made k block = record {
      columns = λ d. ap (λ (b : Block). b.columns) (taken d);
      q_rows = λ d. c.take_at.ensures.list d
          ∙ ap (λ (v : Vec ℕ). v.items) (taken-item (Vec ℕ) c.args.q_rows.items l.q_rows.items c.deref_mut-in-loop-k.result.now
          c.take_at.new.lists c.deref_mut-in-loop-k.ensures.value k I.q_rows d);
      t_rows = λ d. c.take_at-in-loop-k.ensures.list d
          ∙ ap (λ (v : Vec ℕ). v.items) (taken-item (Vec ℕ) c.args.t_rows.items l.t_rows.items c.deref_mut-in-loop-k-2.result.now
          c.take_at-in-loop-k.new.lists c.deref_mut-in-loop-k-2.ensures.value k I.t_rows d);
      lower = λ d. ap (λ (b : Block). b.lower) (taken d);
    } in
    let Blocks : List CcfBlock → Type 0 = λ blocks. (length blocks ≡ k + 1)
    × ((j : ℕ) (d : CcfBlock) → j < length blocks → Made j (slice_index_or blocks j d)) in
    let all : Blocks c.push.new.self.items = subst Blocks (sym c.in_ok-push.ensures.items)
    (next-block Made k l.printed.items block I.count I.made made) in
    record {
      count = all.0;
      made = all.1;
      blocks_long = I.blocks_long;
      q_rows_long = I.q_rows_long;
      t_rows_long = I.t_rows_long;
      blocks = left-after Block c.args.blocks.items l.blocks.items c.deref_mut.result.now c.take_block-columns.new.blocks c.deref_mut.ensures.value k I.blocks
          l.blocks.len (drop (length c.take_block-columns.new.blocks) l.blocks.items)
          (omega (arith, c.take_block-columns.ensures.count, ap length c.deref_mut.ensures.value, l.blocks.ok)) c.take_block-columns.ensures.others;
      q_rows = left-after (Vec ℕ) c.args.q_rows.items l.q_rows.items c.deref_mut-in-loop-k.result.now c.take_at.new.lists
          c.deref_mut-in-loop-k.ensures.value k I.q_rows l.q_rows.len (drop (length c.take_at.new.lists) l.q_rows.items)
          (omega (arith, c.take_at.ensures.count, ap length c.deref_mut-in-loop-k.ensures.value, l.q_rows.ok)) c.take_at.ensures.others;
      t_rows = left-after (Vec ℕ) c.args.t_rows.items l.t_rows.items c.deref_mut-in-loop-k-2.result.now c.take_at-in-loop-k.new.lists
          c.deref_mut-in-loop-k-2.ensures.value k I.t_rows l.t_rows.len (drop (length c.take_at-in-loop-k.new.lists) l.t_rows.items)
          (omega (arith, c.take_at-in-loop-k.ensures.count, ap length c.deref_mut-in-loop-k-2.ensures.value, l.t_rows.ok))
          c.take_at-in-loop-k.ensures.others;
    }
