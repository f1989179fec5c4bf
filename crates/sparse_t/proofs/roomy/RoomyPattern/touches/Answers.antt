use Rattle.std.proofs.Common.{ℕ, List, ◌∙◌, ap, sym, subst}
use Rattle.std.specs.List.Sorted.{IsStrictlyIncreasing}
use Rattle.residue_theory.specs.Sets.{has}
use Rattle.sparse_t.proofs.EditLaws.{rows_of-seen}
use Rattle.sparse_t.proofs.roomy.RoomyPattern.touches.Goals as goal

pub holds-requires-else-columns-rows : goal.holds-requires-else-columns-rows
holds-requires-else-columns-rows c =
    let A = rows_of-seen c.self.inside.rows c.self.inside.columns c.self.inside.row_room c.self.inside.column_room c.args.self.now c.args.col
    c.self.invariant c.self.view_is c.requires.col in
    subst IsStrictlyIncreasing (sym c.list-rows.ensures) A.rising

pub returns-else-columns-rows : goal.returns-else-columns-rows
returns-else-columns-rows c =
    let A = rows_of-seen c.self.inside.rows c.self.inside.columns c.self.inside.row_room c.self.inside.column_room c.args.self.now c.args.col
    c.self.invariant c.self.view_is c.requires.col in
    c.holds-else-columns-rows.ensures ∙ (ap (λ (list : List ℕ). has list c.args.row) c.list-rows.ensures ∙ A.exact c.args.row c.requires.row)
