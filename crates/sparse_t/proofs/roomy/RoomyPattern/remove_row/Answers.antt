use Rattle.std.proofs.Common.{◌≡◌, ◌<◌, ◌∙◌, ℕ, List, true, length, ap, sym, subst, arith}
use Rattle.std.specs.List.Sorted.{IsStrictlyIncreasing}
use Rattle.residue_theory.specs.Sets.{has}
use Rattle.sparse_t.specs.Lists.{AreAllBelow}
use Rattle.sparse_t.specs.Incidences.{incidence_rows}
use Rattle.sparse_t.specs.Shelves.{ShelfLists, shelf_list, IsNumberTaken, AreListsChanged, list_taken}
use Rattle.sparse_t.specs.Edits.{RoomyIncidence, IsRoomy, row_removed}
use Rattle.sparse_t.proofs.EditLaws.{leaving-there, lowered-count, roomy-row_out, seen-edited}
use Rattle.sparse_t.proofs.roomy.RoomyPattern.remove_row.Goals as goal

pub leave-requires-clause-rising : goal.leave-requires-clause-rising
leave-requires-clause-rising c =
    let view = c.self.view_is in
    let l : c.args.at < length c.self.inside.rows.lists = omega (arith, c.requires, ap (λ (t : RoomyIncidence). incidence_rows t.pattern) view) in
    let row : c.list.result.now ≡ shelf_list c.self.inside.rows c.args.at = c.list.ensures in
    subst IsStrictlyIncreasing (sym row) (c.self.invariant.incidence.rising c.args.at l)

pub leave-requires-clause-below : goal.leave-requires-clause-below
leave-requires-clause-below c =
    let view = c.self.view_is in
    let l : c.args.at < length c.self.inside.rows.lists = omega (arith, c.requires, ap (λ (t : RoomyIncidence). incidence_rows t.pattern) view) in
    let row : c.list.result.now ≡ shelf_list c.self.inside.rows c.args.at = c.list.ensures in
    subst (AreAllBelow (length c.self.inside.columns.lists)) (sym row) (c.self.invariant.incidence.below c.args.at l)

pub leave-requires-clause-lists : goal.leave-requires-clause-lists
leave-requires-clause-lists c = λ j jl. (c.self.invariant.rows_of j jl).rising

pub leave-requires-clause-there : goal.leave-requires-clause-there
leave-requires-clause-there c =
    let view = c.self.view_is in
    let l : c.args.at < length c.self.inside.rows.lists = omega (arith, c.requires, ap (λ (t : RoomyIncidence). incidence_rows t.pattern) view) in
    let row : c.list.result.now ≡ shelf_list c.self.inside.rows c.args.at = c.list.ensures in
    subst (λ (xs : List ℕ). (j : ℕ) → has xs j ≡ true → has (shelf_list c.self.inside.columns j) c.args.at ≡ true) (sym row)
    (leaving-there c.self.inside.rows c.self.inside.columns c.self.inside.row_room c.self.inside.column_room c.self.invariant c.args.at l)

pub invariant_of-self : goal.invariant_of-self
invariant_of-self c =
    let view = c.self.view_is in
    let l : c.args.at < length c.self.inside.rows.lists = omega (arith, c.requires, ap (λ (t : RoomyIncidence). incidence_rows t.pattern) view) in
    let row : c.list.result.now ≡ shelf_list c.self.inside.rows c.args.at = c.list.ensures in
    let changed = subst (λ (xs : List ℕ). AreListsChanged (IsNumberTaken c.args.at) c.self.inside.columns.lists c.leave.new.self.lists xs) row
    c.leave.ensures.changed in
    subst (λ (s : ShelfLists). IsRoomy s c.lower.new.self c.self.inside.row_room c.self.inside.column_room) (sym c.take.ensures)
    (subst (λ (s : ShelfLists). IsRoomy (list_taken c.self.inside.rows c.args.at) s c.self.inside.row_room c.self.inside.column_room) (sym c.lower.ensures)
    (roomy-row_out c.self.inside.rows c.self.inside.columns c.self.inside.row_room c.self.inside.column_room c.self.invariant
    c.args.at l c.leave.new.self changed c.leave.ensures.count c.leave.ensures.width))

pub returns : goal.returns
returns c =
    let view = c.self.view_is in
    let l : c.args.at < length c.self.inside.rows.lists = omega (arith, c.requires, ap (λ (t : RoomyIncidence). incidence_rows t.pattern) view) in
    let row : c.list.result.now ≡ shelf_list c.self.inside.rows c.args.at = c.list.ensures in
    let changed = subst (λ (xs : List ℕ). AreListsChanged (IsNumberTaken c.args.at) c.self.inside.columns.lists c.leave.new.self.lists xs) row
    c.leave.ensures.changed in
    seen-edited c.self.inside.rows c.self.inside.columns c.self.inside.row_room c.self.inside.column_room c.args.self.now
    (λ p. row_removed p c.args.at) c.take.new.self c.lower.new.self view
    (ap (λ (s : ShelfLists). length s.lists) c.lower.ensures
    ∙ lowered-count c.self.inside.rows c.self.inside.columns c.self.inside.row_room c.self.inside.column_room c.self.invariant
    c.args.at l c.leave.new.self changed)
    (ap (λ (s : ShelfLists). s.lists) c.take.ensures)
