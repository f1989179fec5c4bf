use Rattle.std.proofs.Common.{arith}
use Rattle.dense_q.specs.Tables.{height, entry}
use Rattle.bit_table.specs.Bits.{bit_in}
use Rattle.row_transform.proofs.EntryEdits.{size-next}
use Rattle.row_transform.proofs.EntryLaws.{bit_set-within, row_listed-next, row_listed-all}
use Rattle.row_transform.proofs.entries.Entries.list_row.Goals as goal

pub loop-col-preserved : goal.loop-col-preserved
loop-col-preserved g c =
    let q = c.args.q.now in
    let inv = c.loop-col.invariant in
    let now = bit_in c.loop-col.self.bits in
    record {
      size = size-next c.args.self.now.bits c.loop-col.self.bits c.set.new.self inv.size c.set.ensures.rows c.set.ensures.size;
      so_far = row_listed-next (height q) q.width (entry q) (bit_in c.args.self.now.bits) now (bit_in c.set.new.self)
          c.args.row c.loop-col.from c.in-Some.col inv.so_far c.requires.row c.in-Some.ensures.least
          (bit_set-within now (bit_in c.set.new.self) (height q) c.loop-col.self.bits.size c.in-Some.col c.args.row
          (omega (arith, inv.size.size_same, c.requires.size.rows_fit)) c.set.ensures.set);
    }

pub returns-clause-listed : goal.returns-clause-listed
returns-clause-listed g c =
    let q = c.args.q.now in
    row_listed-all (height q) q.width (entry q) (bit_in c.args.self.now.bits) (bit_in c.loop-col.self.bits) c.args.row
    c.loop-col.from c.loop-col.invariant.so_far c.in_default.ensures.none

pub returns-clause-kept : goal.returns-clause-kept
returns-clause-kept g c = c.loop-col.invariant.so_far.kept
