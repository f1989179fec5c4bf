use Rattle.std.proofs.Common.{◌≡◌, ◌+◌, ◌<◌, ◌∙◌, ℕ, List, length, drop, slice_index_or, subst, sym, ap, arith}
use Rattle.std.specs.Global.{Vec}
use Rattle.minimiser_lattice.specs.Views.{parts_in}
use Rattle.ccf_builder.specs.declared.canonical.Block.{Block}
use Rattle.ccf_builder.specs.Placings.{IsColumnBlock}
use Rattle.ccf_builder.proofs.NextBlock.{next-block}
use Rattle.ccf_builder.proofs.TakenLists.{left-after, taken-item}
use Rattle.ccf_builder.proofs.canonical.blocks_of.Goals as goal

pub loop-k-preserved : goal.loop-k-preserved
loop-k-preserved c =
    let l = c.loop-k in
    let I = l.invariant in
    let k = l.k in
    let Made : ℕ → Block → Type 0 = IsColumnBlock (parts_in c.args.lattice.now) c.args.columns.items in
    let block : Block = record { columns = c.take_at-listed.result; lower = c.in_ok-lower.lower } in
    let made : Made k block = record {
      columns = λ d. c.take_at-listed.ensures.list d
          ∙ ap (λ (v : Vec ℕ). v.items) (taken-item (Vec ℕ) c.args.columns.items l.columns.items c.deref_mut.result.now
          c.take_at-listed.new.lists c.deref_mut.ensures.value k I.left d);
      lower = c.in_ok-lower.ensures;
    } in
    let Blocks : List Block → Type 0 = λ blocks. (length blocks ≡ k + 1)
    × ((j : ℕ) (d : Block) → j < length blocks → Made j (slice_index_or blocks j d)) in
    let all : Blocks c.push.new.self.items = subst Blocks (sym c.in_ok-push.ensures.items)
    (next-block Made k l.blocks.items block I.count I.made made) in
    record {
      count = all.0;
      made = all.1;
      long = I.long;
      left = left-after (Vec ℕ) c.args.columns.items l.columns.items c.deref_mut.result.now c.take_at-listed.new.lists c.deref_mut.ensures.value k I.left
          l.columns.len (drop (length c.take_at-listed.new.lists) l.columns.items)
          (omega (arith, c.take_at-listed.ensures.count, ap length c.deref_mut.ensures.value, l.columns.ok)) c.take_at-listed.ensures.others;
    }
