use Rattle.std.proofs.Common.{◌<◌, [], ℕ, length, slice_index, subst, sym}
use Rattle.std.proofs.lemmas.List.{length-map}
use Rattle.cert_text.specs.Contents.{numbered, numbered_rows}
use Rattle.block_solver.specs.Rows.{AreKeysRising}
use Rattle.block_solver.specs.Tables.{HasPartRow}
use Rattle.block_solver.proofs.Entries.{row_is}
use Rattle.block_solver.proofs.RowPlaces.{rows-next}
use Rattle.block_solver.proofs.tables.put_rows.Goals as goal

pub put_row-requires-clause-entries : goal.put_row-requires-clause-entries
put_row-requires-clause-entries g c =
    let number = g.F.Field.number in
    let rows = c.args.rows.now in
    let member : ℕ = slice_index c.args.members.now c.loop-member.member-index in
    let low : slice_index c.args.members.now c.loop-member.member-index < length rows =
    c.requires.members c.loop-member.member-index 0 c.loop-member-test.true in
    subst AreKeysRising (row_is number rows member c.as_slice.result.now c.index-rows-member.result low c.as_slice.ensures c.index-rows-member.is)
    (c.requires.rows member [] (subst (λ n. member < n) (sym (length-map rows (numbered number))) low))

pub loop-member-preserved : goal.loop-member-preserved
loop-member-preserved g c =
    let number = g.F.Field.number in
    let rows = c.args.rows.now in
    let columns = c.args.columns.now in
    let now = c.loop-member.table in
    let next = c.put_row.new.table in
    let member : ℕ = slice_index c.args.members.now c.loop-member.member-index in
    let low : slice_index c.args.members.now c.loop-member.member-index < length rows =
    c.requires.members c.loop-member.member-index 0 c.loop-member-test.true in
    rows-next c.args.table.now now next c.loop-member.member-index (numbered_rows number rows) c.args.members.now columns c.loop-member.invariant
    (subst (λ row. HasPartRow now next row columns)
    (sym (row_is number rows member c.as_slice.result.now c.index-rows-member.result low c.as_slice.ensures c.index-rows-member.is))
    c.in_ok-put_row.ensures)
