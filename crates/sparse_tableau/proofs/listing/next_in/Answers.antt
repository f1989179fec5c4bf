use Rattle.std.proofs.Common.{◌≡◌, ◌<◌, ◌≤◌, ℕ, true, false, sym, ◌∙◌, arith}
use Rattle.sparse_q.specs.Tables.{SparseTable, sparse_rows, number_in}
use Rattle.bit_table.specs.Bits.{Bits, bit_in}
use Rattle.residue_theory.specs.Ranges.{HasNone}
use Rattle.row_transform.proofs.EntryLaws.{none-joined, none-listed, none-next, is_entry, no_entry, some_of}
use Rattle.sparse_tableau.specs.Listings.{AreNumbersListed, has_number_at}
use Rattle.sparse_tableau.proofs.listing.next_in.Goals as goal

differ : false ≡ true → ⊥
differ e = cc

-- there is none between two rows that follow each other in the list
none-between : (m : SparseTable) (b : Bits) (j from at row : ℕ) → AreNumbersListed m b → j < m.width →
    row ≤ sparse_rows m → HasNone (has_number_at m j) from at → HasNone (bit_in b j) at row →
    HasNone (has_number_at m j) from row
none-between m b j from at row all jl le before none = none-joined (has_number_at m j) from at row before
    (none-listed (has_number_at m j) (bit_in b j) (sparse_rows m)
    (λ i il holds. all.listed i j il jl (some_of (number_in m i j) holds)) at row le none)

pub returns-then-not-is_zero-clause-least : goal.returns-then-not-is_zero-clause-least
returns-then-not-is_zero-clause-least g c =
    let m = c.args.m.now in
    let least = c.in-Some.ensures.least in
    record {
      from_on = omega (arith, c.loop-row.invariant.from_on, least.from_on);
      before_end = omega (arith, least.before_end, c.rows-rows.ensures.rows);
      holds = is_entry (g.F.Field.number c.get.result) (number_in m c.in-Some.row c.args.col)
          (λ z. differ (sym c.if-not-is_zero.true ∙ c.is_zero.ensures.1 z)) c.get.ensures;
      none_before = none-between m c.args.entries.now.bits c.args.col c.args.from c.loop-row.at c.in-Some.row
          c.requires.listed c.requires.col (omega (arith, least.before_end, c.rows-rows.ensures.rows))
          c.loop-row.invariant.none least.none_before;
    }

pub loop-row-preserved : goal.loop-row-preserved
loop-row-preserved g c =
    let m = c.args.m.now in
    let least = c.in-Some.ensures.least in
    record {
      from_on = omega (arith, c.loop-row.invariant.from_on, least.from_on);
      none = none-next (has_number_at m c.args.col) c.args.from c.in-Some.row
          (none-between m c.args.entries.now.bits c.args.col c.args.from c.loop-row.at c.in-Some.row
          c.requires.listed c.requires.col (omega (arith, least.before_end, c.rows-rows.ensures.rows))
          c.loop-row.invariant.none least.none_before)
          (no_entry (g.F.Field.number c.get.result) (number_in m c.in-Some.row c.args.col)
          (c.is_zero.ensures.0 c.if-not-is_zero.false) c.get.ensures);
    }
