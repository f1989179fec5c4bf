use Rattle.std.proofs.Common.{ℕ, ◌+◌, ◌∙◌, ap, sym, subst, arith}
use Rattle.bit_table.specs.Bits.{bit_in}
use Rattle.sparse_q.specs.Rows.{Row}
use Rattle.sparse_q.specs.Tables.{sparse_rows, number_in}
use Rattle.sparse_q.proofs.MadeLaws.{IsFilledTo, filled-next, filled-all, filled-past, past-items, unlisted}
use Rattle.sparse_q.proofs.made.column_of.Goals as goal

pub loop-i-preserved : goal.loop-i-preserved
loop-i-preserved g c =
    let m = c.args.m.now in
    let f : ℕ → ℕ = λ i. number_in m i c.args.j in
    let i = c.in-Some.i in
    let L = c.in-Some.ensures.least in
    let I = c.loop-i.invariant in
    let few = c.rows-rows.ensures.rows in
    record {
      within = omega (arith, L.before_end, few);
      width = ap (λ (r : Row). r.width) c.push.ensures ∙ I.width;
      filled = subst (λ (r : Row). IsFilledTo f r.items (i + 1)) (sym c.push.ensures)
          (filled-next f c.loop-i.column.items i _
          (filled-past f c.loop-i.column.items c.loop-i.from i I.filled L.from_on (λ j le l.
          unlisted (bit_in c.args.listed.now c.args.j j) (f j) (L.none_before j le l)
          (c.requires.listed j (omega (arith, l, L.before_end, few)))))
          c.get.ensures);
    }

pub returns-clause-numbers : goal.returns-clause-numbers
returns-clause-numbers g c =
    let m = c.args.m.now in
    let f : ℕ → ℕ = λ i. number_in m i c.args.j in
    let I = c.loop-i.invariant in
    filled-all f c.loop-i.column.items (sparse_rows m)
    (filled-past f c.loop-i.column.items c.loop-i.from (sparse_rows m) I.filled I.within (λ j le l.
    unlisted (bit_in c.args.listed.now c.args.j j) (f j)
    (c.in_default.ensures.none j le (omega (arith, l, c.rows-rows.ensures.rows))) (c.requires.listed j l)))
    (λ i le. past-items m i c.args.j le)
