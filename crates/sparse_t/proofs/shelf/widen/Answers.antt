use Rattle.std.proofs.Common.{◌<◌, ◌∙◌, ℕ, ap, sym, length, arith}
use Rattle.smallvec.specs.SmallVec.{SmallVec}
use Rattle.sparse_t.proofs.ColumnLaws.{same-step}
use Rattle.sparse_t.proofs.ShelfLaws.{wide-step, widened-step}
use Rattle.sparse_t.proofs.shelf.widen.Goals as goal

pub loop-list-preserved : goal.loop-list-preserved
loop-list-preserved c =
    let I = c.loop-list.invariant in
    let lists = c.loop-list.lists in
    let k = c.loop-list.list-index in
    let v = c.list-item.result in
    let w = c.reserve_exact.new.self in
    let within : k < length lists = omega (arith, I.same.count) in
    record {
      same = same-step lists k v w within c.list-item.is c.args.lists.now
          (c.in_ok-reserve_exact.ensures.items ∙ ap (λ (v : SmallVec ℕ). v.items) (sym c.list-item.is)) I.same;
      kept = λ width W. wide-step lists k v w within c.list-item.is width
          (omega (arith, c.in_ok-reserve_exact.ensures.ok, ap (λ (v : SmallVec ℕ). v.capacity) c.list-item.is)) (I.kept width W);
      wide = widened-step lists k v w within c.list-item.is c.args.width
          (omega (arith, c.in_ok-reserve_exact.ensures.ok, c.len.ensures.value, c.saturating_sub.ensures)) I.wide;
    }
