use Rattle.std.proofs.Common.{ap, arith}
use Rattle.sparse_t.specs.Shelves.{ShelfLists}
use Rattle.sparse_t.proofs.EditLaws.{roomy-wider}
use Rattle.sparse_t.proofs.roomy.RoomyPattern.room.Goals as goal

pub invariant_of-self-in_err-room-2 : goal.invariant_of-self-in_err-room-2
invariant_of-self-in_err-room-2 c =
    let S = c.self.invariant in
    let told = c.in_ok-room.ensures.ok in
    let same = c.in_err-room-2.ensures.err in
    roomy-wider c.self.inside.rows c.self.inside.columns c.self.inside.row_room c.self.inside.column_room S c.room.new.self c.room-2.new.self
    c.self.inside.row_room c.self.inside.column_room (ap (λ (s : ShelfLists). s.lists) told) (ap (λ (s : ShelfLists). s.lists) same)
    (omega (arith, ap (λ (s : ShelfLists). s.count) told, S.row_count))
    (omega (arith, ap (λ (s : ShelfLists). s.width) told, S.row_width))
    (omega (arith, ap (λ (s : ShelfLists). s.count) same, S.column_count))
    (omega (arith, ap (λ (s : ShelfLists). s.width) same, S.column_width))

pub invariant_of-self-2 : goal.invariant_of-self-2
invariant_of-self-2 c =
    let S = c.self.invariant in
    let told = c.in_ok-room.ensures.ok in
    let later = c.in_ok-room-2.ensures.ok in
    roomy-wider c.self.inside.rows c.self.inside.columns c.self.inside.row_room c.self.inside.column_room S c.room.new.self c.room-2.new.self
    c.max-rows.result c.max-cols.result (ap (λ (s : ShelfLists). s.lists) told) (ap (λ (s : ShelfLists). s.lists) later)
    (omega (arith, ap (λ (s : ShelfLists). s.count) told))
    (omega (arith, ap (λ (s : ShelfLists). s.width) told))
    (omega (arith, ap (λ (s : ShelfLists). s.count) later))
    (omega (arith, ap (λ (s : ShelfLists). s.width) later))
