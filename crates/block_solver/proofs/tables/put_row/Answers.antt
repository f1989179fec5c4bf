use Rattle.std.proofs.Common.{◌≡◌, ◌+◌, ◌-◌, ◌<◌, ℕ, ap, arith, length, slice_index_or, subst, sym, ◌∙◌}
use Rattle.std.proofs.lemmas.List.{get_or-map}
use Rattle.dense_q.specs.Tables.{Table, entry, height, table_with_entry}
use Rattle.cert_text.specs.Contents.{numbered}
use Rattle.block_solver.proofs.Entries.{entry_count, named}
use Rattle.block_solver.proofs.RowPlaces.{IsRowBegun, begun-clear, begun-passed, begun-put, found-at, found-none}
use Rattle.block_solver.proofs.tables.put_row.Goals as goal
use Rattle.block_solver.proofs.tables.put_row.Goals.{in-Ok+in_ok-put, in_default}

pub put-requires-clause-zero : goal.put-requires-clause-zero
put-requires-clause-zero g c j from below =
    let number = g.F.Field.number in
    let entries = numbered number c.args.entries.now in
    let k = c.loop-entry.entry-index in
    let now = c.loop-entry.table in
    let columns = c.args.columns.now in
    let kl : k < length entries = omega (arith, c.loop-entry-test.true, entry_count number c.args.entries.now) in
    let item : slice_index_or entries k (0, 0) ≡ named number c.entry-item.result =
    get_or-map (named number) c.args.entries.now k c.entry-item.result (0, 0) c.loop-entry-test.true ∙ ap (named number) (sym c.entry-item.is) in
    let at = found-at columns c.entry-item.result.0 c.binary_search.result c.in-Ok.place c.requires.columns c.binary_search.ensures.position c.in-Ok.is in
    subst (λ i. entry now i j ≡ 0) (let e : height c.args.table.now ≡ height now - 1 = omega (arith, c.loop-entry.invariant.height_is) in e)
    (begun-clear c.args.table.now now entries columns c.requires.entries k kl c.loop-entry.invariant c.requires.columns c.in-Ok.place at.0
    (at.1 ∙ ap (λ (e : ℕ × ℕ). e.0) (sym item)) j from (omega (arith, below, c.loop-entry.invariant.width_same, c.requires.width)))

pub loop-entry-preserved : goal.loop-entry-preserved
loop-entry-preserved g c =
    let number = g.F.Field.number in
    let old = c.args.table.now in
    let entries = numbered number c.args.entries.now in
    let k = c.loop-entry.entry-index in
    let now = c.loop-entry.table in
    let columns = c.args.columns.now in
    let kl : k < length entries = omega (arith, c.loop-entry-test.true, entry_count number c.args.entries.now) in
    let item : slice_index_or entries k (0, 0) ≡ named number c.entry-item.result =
    get_or-map (named number) c.args.entries.now k c.entry-item.result (0, 0) c.loop-entry-test.true ∙ ap (named number) (sym c.entry-item.is) in
    let key : c.entry-item.result.0 ≡ (slice_index_or entries k (0, 0)).0 = ap (λ (e : ℕ × ℕ). e.0) (sym item) in
    elim c.match-binary_search.branch [
      | in-Ok+in_ok-put w ↦
          let at = found-at columns c.entry-item.result.0 c.binary_search.result w.in-Ok.place c.requires.columns c.binary_search.ensures.position w.in-Ok.is in
          subst (λ (t : Table). IsRowBegun old t entries columns (k + 1)) (sym w.table-is)
          (begun-put old now entries columns c.requires.entries k kl c.loop-entry.invariant w.put.new.self w.in-Ok.place
          c.is_matrix.ensures c.requires.columns (c.loop-entry.invariant.width_same ∙ c.requires.width) at.0 (at.1 ∙ key)
          (w.in_ok-put.ensures.ok ∙ ap (λ (e : ℕ × ℕ). table_with_entry now (height now - 1) w.in-Ok.place e.1) (sym item)))
      | in_default w ↦ subst (λ (t : Table). IsRowBegun old t entries columns (k + 1)) (sym w.table-is)
          (begun-passed old now entries columns c.requires.entries k kl c.loop-entry.invariant
          (λ d dl q. found-none columns c.entry-item.result.0 c.binary_search.result w.in_default.field-0 c.requires.columns
          c.binary_search.ensures.position w.in_default.is d dl (sym (key ∙ q))))
    ]
