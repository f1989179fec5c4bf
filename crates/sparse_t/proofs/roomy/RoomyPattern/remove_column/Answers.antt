use Rattle.std.proofs.Common.{◌≡◌, ◌<◌, ◌∙◌, ℕ, false, length, ap, sym, subst, arith}
use Rattle.std.proofs.lemmas.List.Edits.{length-remove}
use Rattle.residue_theory.specs.Sets.{has}
use Rattle.sparse_t.specs.Incidences.{incidence_rows, touches}
use Rattle.sparse_t.specs.Shelves.{ShelfLists, shelf_list, numbers_lowered}
use Rattle.sparse_t.specs.Edits.{RoomyIncidence, IsRoomy, column_removed}
use Rattle.sparse_t.proofs.EditLaws.{roomy-column_out, seen-edited}
use Rattle.sparse_t.proofs.roomy.RoomyPattern.remove_column.Goals as goal

pub invariant_of-self : goal.invariant_of-self
invariant_of-self c =
    let view = c.self.view_is in
    let l : c.args.at < length c.self.inside.columns.lists = omega (arith, c.requires.at, ap (λ (t : RoomyIncidence). t.pattern.width) view) in
    let bare : (i : ℕ) → i < length c.self.inside.rows.lists → has (shelf_list c.self.inside.rows i) c.args.at ≡ false =
    subst (λ (t : RoomyIncidence). (i : ℕ) → i < incidence_rows t.pattern → touches t.pattern i c.args.at ≡ false) (sym view) c.requires.bare in
    subst (λ (s : ShelfLists). IsRoomy s c.take.new.self c.self.inside.row_room c.self.inside.column_room) (sym c.lower.ensures)
    (subst (λ (s : ShelfLists). IsRoomy (numbers_lowered c.self.inside.rows c.args.at) s c.self.inside.row_room c.self.inside.column_room) (sym c.take.ensures)
    (roomy-column_out c.self.inside.rows c.self.inside.columns c.self.inside.row_room c.self.inside.column_room c.self.invariant c.args.at l bare))

pub returns : goal.returns
returns c =
    let view = c.self.view_is in
    let l : c.args.at < length c.self.inside.columns.lists = omega (arith, c.requires.at, ap (λ (t : RoomyIncidence). t.pattern.width) view) in
    let bare : (i : ℕ) → i < length c.self.inside.rows.lists → has (shelf_list c.self.inside.rows i) c.args.at ≡ false =
    subst (λ (t : RoomyIncidence). (i : ℕ) → i < incidence_rows t.pattern → touches t.pattern i c.args.at ≡ false) (sym view) c.requires.bare in
    seen-edited c.self.inside.rows c.self.inside.columns c.self.inside.row_room c.self.inside.column_room c.args.self.now
    (λ p. column_removed p c.args.at) c.lower.new.self c.take.new.self view
    (ap (λ (s : ShelfLists). length s.lists) c.take.ensures ∙ omega (arith, length-remove c.self.inside.columns.lists c.args.at l))
    (ap (λ (s : ShelfLists). s.lists) c.lower.ensures)
