use Rattle.std.proofs.Common.{ℕ, ◌≡◌, ◌<◌, inl, inr, sym, ◌∙◌, arith}
use Rattle.sparse_q.specs.Tables.{sparse_rows}
use Rattle.row_table.specs.RowTables.{Combined, entries, p_part}
use Rattle.row_table.proofs.RowTableLaws.{part-within}
use Rattle.bit_table.specs.Bits.{bit_in}
use Rattle.row_transform.proofs.EntryEdits.{size-next}
use Rattle.row_transform.proofs.EntryLaws.{joined-within, spread-join, spread-skip, spread-done}
use Rattle.row_transform.proofs.entries.Entries.spread.Goals as goal
use Rattle.row_transform.proofs.entries.Entries.spread.Goals.{then-other-col+then-not-is_zero, else-other-col}
use Rattle.row_transform.proofs.entries.Entries.spread.Goals.{else-other-col-via-then-other-col+else-not-is_zero}
use Rattle.row_transform.proofs.entries.Entries.spread.Goals.{else-other-col-via-else-other-col}

pub loop-other-preserved : goal.loop-other-preserved
loop-other-preserved g c =
    let p = g.F.Field.modulus in
    let t : Combined = c.args.table.now in
    let m : ℕ = sparse_rows t.q in
    let n : ℕ = t.q.width in
    let row = c.args.row in
    let col = c.args.col in
    let other = c.loop-other.other in
    let so_far = c.loop-other.invariant in
    let before = bit_in c.args.self.now.bits in
    let now = bit_in c.loop-other.self.bits in
    let below : other < n = omega (arith, c.columns-other-end.ensures.columns, c.loop-other-test.true) in
    let is : p_part p t row other ≡ entries p t row other =
    part-within row m other n (entries p t row other) c.requires.row below in
    elim c.if-other-col.branch [
      | then-other-col+then-not-is_zero w ↦ rw w.self-is (record {
        size = size-next c.args.self.now.bits c.loop-other.self.bits w.join.new.self so_far.size w.join.ensures.rows w.join.ensures.size;
        spread = spread-join m (p_part p t) before now row col other so_far.spread (bit_in w.join.new.self)
            w.if-other-col.true
            (joined-within now (bit_in w.join.new.self) (now col) m c.loop-other.self.bits.size other
            (omega (arith, so_far.size.size_same, c.requires.size.rows_fit)) w.join.ensures.joined);
      })
      | else-other-col w ↦ rw w.self-is (record {
        size = so_far.size;
        spread = spread-skip m (p_part p t) before now row col other so_far.spread
            (elim w.else-other-col.branch [
              | else-other-col-via-then-other-col+else-not-is_zero w' ↦
                  inr (is ∙ sym w'.entry.ensures ∙ w'.is_zero.ensures.0 w'.if-not-is_zero.false)
              | else-other-col-via-else-other-col w' ↦ inl (omega (arith, w'.if-other-col.false))
            ]);
      })
    ]

pub returns-clause-spread : goal.returns-clause-spread
returns-clause-spread g c =
    let t : Combined = c.args.table.now in
    spread-done (sparse_rows t.q) (p_part g.F.Field.modulus t) (bit_in c.args.self.now.bits)
    (bit_in c.loop-other.self.bits) c.args.row c.args.col c.loop-other.other c.loop-other.invariant.spread t.q.width
    (omega (arith, c.columns-other-end.ensures.columns, c.loop-other-test.false))
