use Rattle.std.proofs.Common.{arith, inl}
use Rattle.bit_table.specs.Bits.{bit_in}
use Rattle.sparse_q.specs.Tables.{sparse_rows, number_in}
use Rattle.row_transform.proofs.EntryEdits.{size-next}
use Rattle.row_transform.proofs.EntryLaws.{joined-within, spread-past, spread-join, spread-skip, spread-done}
use Rattle.sparse_tableau.proofs.listing.spread.Goals as goal
use Rattle.sparse_tableau.proofs.listing.spread.Goals.{then-other-col, else-other-col}

pub loop-other-preserved : goal.loop-other-preserved
loop-other-preserved g c =
    let p = c.args.p.now in
    let inv = c.loop-other.invariant in
    let before = bit_in c.args.entries.now.bits in
    let now = bit_in c.loop-other.entries.bits in
    let other = c.in-Some.other in
    let past = spread-past (sparse_rows p) (number_in p) before now c.args.row c.args.col c.loop-other.from inv.spread
    other c.in-Some.ensures.least.none_before in
    elim c.if-other-col.branch [
      | then-other-col w ↦ rw w.entries-is (record {
        size = size-next c.args.entries.now.bits c.loop-other.entries.bits w.join.new.self inv.size w.join.ensures.rows w.join.ensures.size;
        spread = spread-join (sparse_rows p) (number_in p) before now c.args.row c.args.col other past
            (bit_in w.join.new.self) w.if-other-col.true
            (joined-within now (bit_in w.join.new.self) (now c.args.col) (sparse_rows p) c.loop-other.entries.bits.size other
            (omega (arith, inv.size.size_same, c.requires.size.rows_fit)) w.join.ensures.joined);
      })
      | else-other-col w ↦ rw w.entries-is (record {
        size = inv.size;
        spread = spread-skip (sparse_rows p) (number_in p) before now c.args.row c.args.col other past
            (inl (omega (arith, w.if-other-col.false)));
      })
    ]

pub returns-clause-spread : goal.returns-clause-spread
returns-clause-spread g c =
    let p = c.args.p.now in
    let before = bit_in c.args.entries.now.bits in
    let now = bit_in c.loop-other.entries.bits in
    spread-done (sparse_rows p) (number_in p) before now c.args.row c.args.col p.width
    (spread-past (sparse_rows p) (number_in p) before now c.args.row c.args.col c.loop-other.from
    c.loop-other.invariant.spread p.width c.in_default.ensures.none) p.width (omega arith)
