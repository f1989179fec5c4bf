use Rattle.std.proofs.Common.{◌≤◌, ◌∙◌, [], length, ap, sym, subst, arith}
use Rattle.std.proofs.lemmas.List.Edits.{length-insert}
use Rattle.sparse_t.specs.Shelves.{ShelfLists, numbers_raised}
use Rattle.sparse_t.specs.Edits.{RoomyIncidence, IsRoomy, column_inserted}
use Rattle.sparse_t.proofs.EditLaws.{rows-small, roomy-column_in, seen-edited}
use Rattle.sparse_t.proofs.roomy.RoomyPattern.insert_column.Goals as goal

pub raise-requires : goal.raise-requires
raise-requires c =
    let view = c.self.view_is in
    let le : c.args.at ≤ length c.self.inside.columns.lists = omega (arith, c.requires.at, ap (λ (t : RoomyIncidence). t.pattern.width) view) in
    record {
      small = rows-small c.self.inside.rows c.self.inside.columns c.self.inside.row_room c.self.inside.column_room c.self.invariant
          c.args.at le (omega (arith, c.requires.few, ap (λ (t : RoomyIncidence). t.pattern.width) view));
    }

pub invariant_of-self : goal.invariant_of-self
invariant_of-self c =
    let view = c.self.view_is in
    let le : c.args.at ≤ length c.self.inside.columns.lists = omega (arith, c.requires.at, ap (λ (t : RoomyIncidence). t.pattern.width) view) in
    subst (λ (s : ShelfLists). IsRoomy s c.put.new.self c.self.inside.row_room c.self.inside.column_room) (sym c.raise.ensures)
    (subst (λ (s : ShelfLists). IsRoomy (numbers_raised c.self.inside.rows c.args.at) s c.self.inside.row_room c.self.inside.column_room) (sym c.put.ensures)
    (roomy-column_in c.self.inside.rows c.self.inside.columns c.self.inside.row_room c.self.inside.column_room c.self.invariant c.args.at le))

pub returns : goal.returns
returns c =
    let view = c.self.view_is in
    let le : c.args.at ≤ length c.self.inside.columns.lists = omega (arith, c.requires.at, ap (λ (t : RoomyIncidence). t.pattern.width) view) in
    seen-edited c.self.inside.rows c.self.inside.columns c.self.inside.row_room c.self.inside.column_room c.args.self.now
    (λ p. column_inserted p c.args.at) c.raise.new.self c.put.new.self view
    (ap (λ (s : ShelfLists). length s.lists) c.put.ensures ∙ length-insert c.self.inside.columns.lists c.args.at [] le)
    (ap (λ (s : ShelfLists). s.lists) c.raise.ensures)
