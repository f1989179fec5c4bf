use Rattle.std.proofs.Common.{◌≡◌, ◌<◌, ◌≤◌, ◌∙◌, ℕ, false, length, ap, sym, subst, arith}
use Rattle.std.specs.List.Sorted.{IsStrictlyIncreasing}
use Rattle.limits.specs.Limits.{column_limit}
use Rattle.residue_theory.specs.Sets.{has}
use Rattle.sparse_t.specs.Lists.{AreAllBelow}
use Rattle.sparse_t.specs.Incidences.{incidence_rows}
use Rattle.sparse_t.specs.Shelves.{ShelfLists, shelf_list, IsNumberPut, AreListsChanged}
use Rattle.sparse_t.specs.Edits.{RoomyIncidence, IsRoomy, row_inserted}
use Rattle.sparse_t.proofs.EditLaws.{columns-small, raised-count, raised-rising, raised-missing, raised-room, row-fits, entered-count}
use Rattle.sparse_t.proofs.EditLaws.{roomy-row_in, seen-edited}
use Rattle.sparse_t.proofs.roomy.RoomyPattern.insert_row.Goals as goal

pub raise-requires : goal.raise-requires
raise-requires c = record { small = columns-small c.self.inside.rows c.self.inside.columns c.self.inside.row_room c.self.inside.column_room c.self.invariant }

pub enter-requires-clause-below : goal.enter-requires-clause-below
enter-requires-clause-below c =
    let view = c.self.view_is in
    let le : c.args.at ≤ length c.self.inside.rows.lists = omega (arith, c.requires.at, ap (λ (t : RoomyIncidence). incidence_rows t.pattern) view) in
    let below : AreAllBelow (length c.self.inside.columns.lists) c.args.columns.now =
    λ k l. omega (arith, c.requires.below k l, ap (λ (t : RoomyIncidence). t.pattern.width) view) in
    let few : length c.self.inside.rows.lists < column_limit = omega (arith, c.requires.few, ap (λ (t : RoomyIncidence). incidence_rows t.pattern) view) in
    let room : length c.self.inside.rows.lists < c.self.inside.row_room = omega (
      arith,
      c.requires.rows,
      ap (λ (t : RoomyIncidence). incidence_rows t.pattern) view,
      ap (λ (t : RoomyIncidence). t.row_room) view,
    ) in
    let wide : length c.self.inside.columns.lists ≤ c.self.inside.column_room = omega (
      arith,
      c.requires.cols,
      ap (λ (t : RoomyIncidence). t.pattern.width) view,
      ap (λ (t : RoomyIncidence). t.column_room) view,
    ) in
    subst (λ (s : ShelfLists). AreAllBelow (length s.lists) c.args.columns.now) (sym c.raise.ensures)
    (subst (λ n. AreAllBelow n c.args.columns.now) (sym
    (raised-count c.self.inside.rows c.self.inside.columns c.self.inside.row_room c.self.inside.column_room c.self.invariant
    c.args.at c.args.columns.now le c.requires.rising below few room wide)) below)

pub enter-requires-clause-lists : goal.enter-requires-clause-lists
enter-requires-clause-lists c =
    let view = c.self.view_is in
    let le : c.args.at ≤ length c.self.inside.rows.lists = omega (arith, c.requires.at, ap (λ (t : RoomyIncidence). incidence_rows t.pattern) view) in
    let below : AreAllBelow (length c.self.inside.columns.lists) c.args.columns.now =
    λ k l. omega (arith, c.requires.below k l, ap (λ (t : RoomyIncidence). t.pattern.width) view) in
    let few : length c.self.inside.rows.lists < column_limit = omega (arith, c.requires.few, ap (λ (t : RoomyIncidence). incidence_rows t.pattern) view) in
    let room : length c.self.inside.rows.lists < c.self.inside.row_room = omega (
      arith,
      c.requires.rows,
      ap (λ (t : RoomyIncidence). incidence_rows t.pattern) view,
      ap (λ (t : RoomyIncidence). t.row_room) view,
    ) in
    let wide : length c.self.inside.columns.lists ≤ c.self.inside.column_room = omega (
      arith,
      c.requires.cols,
      ap (λ (t : RoomyIncidence). t.pattern.width) view,
      ap (λ (t : RoomyIncidence). t.column_room) view,
    ) in
    subst (λ (s : ShelfLists). (j : ℕ) → j < length s.lists → IsStrictlyIncreasing (shelf_list s j)) (sym c.raise.ensures)
    (raised-rising c.self.inside.rows c.self.inside.columns c.self.inside.row_room c.self.inside.column_room c.self.invariant
    c.args.at c.args.columns.now le c.requires.rising below few room wide)

pub enter-requires-clause-missing : goal.enter-requires-clause-missing
enter-requires-clause-missing c =
    let view = c.self.view_is in
    let le : c.args.at ≤ length c.self.inside.rows.lists = omega (arith, c.requires.at, ap (λ (t : RoomyIncidence). incidence_rows t.pattern) view) in
    let below : AreAllBelow (length c.self.inside.columns.lists) c.args.columns.now =
    λ k l. omega (arith, c.requires.below k l, ap (λ (t : RoomyIncidence). t.pattern.width) view) in
    let few : length c.self.inside.rows.lists < column_limit = omega (arith, c.requires.few, ap (λ (t : RoomyIncidence). incidence_rows t.pattern) view) in
    let room : length c.self.inside.rows.lists < c.self.inside.row_room = omega (
      arith,
      c.requires.rows,
      ap (λ (t : RoomyIncidence). incidence_rows t.pattern) view,
      ap (λ (t : RoomyIncidence). t.row_room) view,
    ) in
    let wide : length c.self.inside.columns.lists ≤ c.self.inside.column_room = omega (
      arith,
      c.requires.cols,
      ap (λ (t : RoomyIncidence). t.pattern.width) view,
      ap (λ (t : RoomyIncidence). t.column_room) view,
    ) in
    subst (λ (s : ShelfLists). (j : ℕ) → j < length s.lists → has (shelf_list s j) c.args.at ≡ false) (sym c.raise.ensures)
    (raised-missing c.self.inside.rows c.self.inside.columns c.self.inside.row_room c.self.inside.column_room c.self.invariant
    c.args.at c.args.columns.now le c.requires.rising below few room wide)

pub enter-requires-clause-room : goal.enter-requires-clause-room
enter-requires-clause-room c =
    let view = c.self.view_is in
    let le : c.args.at ≤ length c.self.inside.rows.lists = omega (arith, c.requires.at, ap (λ (t : RoomyIncidence). incidence_rows t.pattern) view) in
    let below : AreAllBelow (length c.self.inside.columns.lists) c.args.columns.now =
    λ k l. omega (arith, c.requires.below k l, ap (λ (t : RoomyIncidence). t.pattern.width) view) in
    let few : length c.self.inside.rows.lists < column_limit = omega (arith, c.requires.few, ap (λ (t : RoomyIncidence). incidence_rows t.pattern) view) in
    let room : length c.self.inside.rows.lists < c.self.inside.row_room = omega (
      arith,
      c.requires.rows,
      ap (λ (t : RoomyIncidence). incidence_rows t.pattern) view,
      ap (λ (t : RoomyIncidence). t.row_room) view,
    ) in
    let wide : length c.self.inside.columns.lists ≤ c.self.inside.column_room = omega (
      arith,
      c.requires.cols,
      ap (λ (t : RoomyIncidence). t.pattern.width) view,
      ap (λ (t : RoomyIncidence). t.column_room) view,
    ) in
    subst (λ (s : ShelfLists). (j : ℕ) → j < length s.lists → length (shelf_list s j) < s.width) (sym c.raise.ensures)
    (raised-room c.self.inside.rows c.self.inside.columns c.self.inside.row_room c.self.inside.column_room c.self.invariant
    c.args.at c.args.columns.now le c.requires.rising below few room wide)

pub put-requires-clause-at : goal.put-requires-clause-at
put-requires-clause-at c = omega (arith, c.requires.at, ap (λ (t : RoomyIncidence). incidence_rows t.pattern) c.self.view_is)

pub put-requires-clause-room : goal.put-requires-clause-room
put-requires-clause-room c =
    let view = c.self.view_is in
    let le : c.args.at ≤ length c.self.inside.rows.lists = omega (arith, c.requires.at, ap (λ (t : RoomyIncidence). incidence_rows t.pattern) view) in
    let below : AreAllBelow (length c.self.inside.columns.lists) c.args.columns.now =
    λ k l. omega (arith, c.requires.below k l, ap (λ (t : RoomyIncidence). t.pattern.width) view) in
    let few : length c.self.inside.rows.lists < column_limit = omega (arith, c.requires.few, ap (λ (t : RoomyIncidence). incidence_rows t.pattern) view) in
    let room : length c.self.inside.rows.lists < c.self.inside.row_room = omega (
      arith,
      c.requires.rows,
      ap (λ (t : RoomyIncidence). incidence_rows t.pattern) view,
      ap (λ (t : RoomyIncidence). t.row_room) view,
    ) in
    let wide : length c.self.inside.columns.lists ≤ c.self.inside.column_room = omega (
      arith,
      c.requires.cols,
      ap (λ (t : RoomyIncidence). t.pattern.width) view,
      ap (λ (t : RoomyIncidence). t.column_room) view,
    ) in
    omega (arith, room, c.self.invariant.row_count)

pub put-requires-clause-width : goal.put-requires-clause-width
put-requires-clause-width c =
    let view = c.self.view_is in
    let le : c.args.at ≤ length c.self.inside.rows.lists = omega (arith, c.requires.at, ap (λ (t : RoomyIncidence). incidence_rows t.pattern) view) in
    let below : AreAllBelow (length c.self.inside.columns.lists) c.args.columns.now =
    λ k l. omega (arith, c.requires.below k l, ap (λ (t : RoomyIncidence). t.pattern.width) view) in
    let few : length c.self.inside.rows.lists < column_limit = omega (arith, c.requires.few, ap (λ (t : RoomyIncidence). incidence_rows t.pattern) view) in
    let room : length c.self.inside.rows.lists < c.self.inside.row_room = omega (
      arith,
      c.requires.rows,
      ap (λ (t : RoomyIncidence). incidence_rows t.pattern) view,
      ap (λ (t : RoomyIncidence). t.row_room) view,
    ) in
    let wide : length c.self.inside.columns.lists ≤ c.self.inside.column_room = omega (
      arith,
      c.requires.cols,
      ap (λ (t : RoomyIncidence). t.pattern.width) view,
      ap (λ (t : RoomyIncidence). t.column_room) view,
    ) in
    row-fits c.self.inside.rows c.self.inside.columns c.self.inside.row_room c.self.inside.column_room c.self.invariant
    c.args.at c.args.columns.now le c.requires.rising below few room wide

pub invariant_of-self : goal.invariant_of-self
invariant_of-self c =
    let view = c.self.view_is in
    let le : c.args.at ≤ length c.self.inside.rows.lists = omega (arith, c.requires.at, ap (λ (t : RoomyIncidence). incidence_rows t.pattern) view) in
    let below : AreAllBelow (length c.self.inside.columns.lists) c.args.columns.now =
    λ k l. omega (arith, c.requires.below k l, ap (λ (t : RoomyIncidence). t.pattern.width) view) in
    let few : length c.self.inside.rows.lists < column_limit = omega (arith, c.requires.few, ap (λ (t : RoomyIncidence). incidence_rows t.pattern) view) in
    let room : length c.self.inside.rows.lists < c.self.inside.row_room = omega (
      arith,
      c.requires.rows,
      ap (λ (t : RoomyIncidence). incidence_rows t.pattern) view,
      ap (λ (t : RoomyIncidence). t.row_room) view,
    ) in
    let wide : length c.self.inside.columns.lists ≤ c.self.inside.column_room = omega (
      arith,
      c.requires.cols,
      ap (λ (t : RoomyIncidence). t.pattern.width) view,
      ap (λ (t : RoomyIncidence). t.column_room) view,
    ) in
    let changed = subst (λ (s : ShelfLists). AreListsChanged (IsNumberPut c.args.at) s.lists c.enter.new.self.lists c.args.columns.now) c.raise.ensures
    c.enter.ensures.changed in
    subst (λ (s : ShelfLists). IsRoomy s c.enter.new.self c.self.inside.row_room c.self.inside.column_room) (sym c.put.ensures)
    (roomy-row_in c.self.inside.rows c.self.inside.columns c.self.inside.row_room c.self.inside.column_room c.self.invariant
    c.args.at c.args.columns.now le c.requires.rising below few room wide c.enter.new.self changed
    (c.enter.ensures.count ∙ ap (λ (s : ShelfLists). s.count) c.raise.ensures)
    (c.enter.ensures.width ∙ ap (λ (s : ShelfLists). s.width) c.raise.ensures))

pub returns : goal.returns
returns c =
    let view = c.self.view_is in
    let le : c.args.at ≤ length c.self.inside.rows.lists = omega (arith, c.requires.at, ap (λ (t : RoomyIncidence). incidence_rows t.pattern) view) in
    let below : AreAllBelow (length c.self.inside.columns.lists) c.args.columns.now =
    λ k l. omega (arith, c.requires.below k l, ap (λ (t : RoomyIncidence). t.pattern.width) view) in
    let few : length c.self.inside.rows.lists < column_limit = omega (arith, c.requires.few, ap (λ (t : RoomyIncidence). incidence_rows t.pattern) view) in
    let room : length c.self.inside.rows.lists < c.self.inside.row_room = omega (
      arith,
      c.requires.rows,
      ap (λ (t : RoomyIncidence). incidence_rows t.pattern) view,
      ap (λ (t : RoomyIncidence). t.row_room) view,
    ) in
    let wide : length c.self.inside.columns.lists ≤ c.self.inside.column_room = omega (
      arith,
      c.requires.cols,
      ap (λ (t : RoomyIncidence). t.pattern.width) view,
      ap (λ (t : RoomyIncidence). t.column_room) view,
    ) in
    let changed = subst (λ (s : ShelfLists). AreListsChanged (IsNumberPut c.args.at) s.lists c.enter.new.self.lists c.args.columns.now) c.raise.ensures
    c.enter.ensures.changed in
    seen-edited c.self.inside.rows c.self.inside.columns c.self.inside.row_room c.self.inside.column_room c.args.self.now
    (λ p. row_inserted p c.args.at c.args.columns.now) c.put.new.self c.enter.new.self view
    (entered-count c.self.inside.rows c.self.inside.columns c.self.inside.row_room c.self.inside.column_room c.self.invariant
    c.args.at c.args.columns.now le c.requires.rising below few room wide c.enter.new.self changed)
    (ap (λ (s : ShelfLists). s.lists) c.put.ensures)
