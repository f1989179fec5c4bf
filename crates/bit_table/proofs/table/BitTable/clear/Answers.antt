use Rattle.std.proofs.Common.{◌≡◌, ◌≤◌, ◌+◌, ◌*◌, ◌<◌, ap, subst, arith, ◌∙◌}
use Rattle.std.proofs.Math.Nat.{mul-le-mul_left}
use Rattle.bit_table.specs.Bits.{Bits}
use Rattle.bit_table.proofs.BitLaws.{emptied_step, no_bit}
use Rattle.bit_table.proofs.table.BitTable.clear.Goals as goal

pub loop-x-preserved : goal.loop-x-preserved
loop-x-preserved c =
    let I = c.loop-x.invariant in
    let E = c.empty_row.ensures in
    let rows : c.empty_row.new.self.rows ≡ c.loop-x.self.rows = ap (λ (t : Bits). t.rows) E.kept in
    let width : c.empty_row.new.self.width ≡ c.loop-x.self.width = ap (λ (t : Bits). t.width) E.kept in
    record {
      rows = rows ∙ I.rows;
      size = ap (λ (t : Bits). t.size) E.kept ∙ I.size;
      width = width ∙ I.width;
      length = rw (rows, width) E.length;
      empty = λ k kl. emptied_step c.loop-x.self.words c.empty_row.new.self.words c.loop-x.self.width c.loop-x.x E.emptied I.empty k
          (subst (λ m. k < (c.loop-x.x + 1) * m) width kl);
    }

pub returns-clause-empty : goal.returns-clause-empty
returns-clause-empty c =
    let I = c.loop-x.invariant in
    let rows : c.self.inside.rows ≡ c.args.self.now.rows = ap (λ t. t.rows) c.self.view_is in
    let all : c.loop-x.self.rows ≤ c.loop-x.x = omega (arith, rows, I.rows, c.loop-x-test.false) in
    λ x y. no_bit c.loop-x.self.words c.loop-x.self.width x y
    (λ k l. I.empty k (omega (arith, l, I.length, mul-le-mul_left c.loop-x.self.width all)))
