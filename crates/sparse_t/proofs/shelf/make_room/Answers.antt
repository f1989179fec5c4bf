use Rattle.std.proofs.Common.{◌∙◌, ℕ, map, length, ap, sym, subst, arith}
use Rattle.smallvec.specs.SmallVec.{SmallVec}
use Rattle.sparse_t.specs.Shelves.{AreWide}
use Rattle.sparse_t.proofs.ShelfLaws.{written_whole, same-items}
use Rattle.sparse_t.proofs.shelf.make_room.Goals as goal

pub returns-clause-items : goal.returns-clause-items
returns-clause-items c =
    let value = c.deref_mut.ensures.value in
    let whole = written_whole c.reserve.new.self.len c.reserve.new.self.items c.widen.new.lists (omega (arith, c.reserve.new.self.ok.0))
    (c.widen.ensures.same.count ∙ ap length value) in
    ap (map (λ (list : SmallVec ℕ). list.items)) whole
    ∙ (same-items c.deref_mut.result.now c.widen.new.lists c.widen.ensures.same
    ∙ ap (map (λ (list : SmallVec ℕ). list.items)) (value ∙ c.in_ok-reserve.ensures.items))

pub returns-clause-kept : goal.returns-clause-kept
returns-clause-kept c =
    let value = c.deref_mut.ensures.value in
    let whole = written_whole c.reserve.new.self.len c.reserve.new.self.items c.widen.new.lists (omega (arith, c.reserve.new.self.ok.0))
    (c.widen.ensures.same.count ∙ ap length value) in
    λ w W. subst (AreWide w) (sym whole) (c.widen.ensures.kept w (subst (AreWide w) (sym (value ∙ c.in_ok-reserve.ensures.items)) W))
