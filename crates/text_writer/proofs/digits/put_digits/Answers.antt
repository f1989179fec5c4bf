use Rattle.std.proofs.Common.{◌≡◌, ◌≤◌, ◌+◌, ◌-◌, arith}
use Rattle.text_writer.proofs.DigitSteps.{digit_before, mark_before, two_places, tenth_below}
use Rattle.text_writer.proofs.digits.put_digits.Goals as goal

pub loop-left-preserved : goal.loop-left-preserved
loop-left-preserved c =
    let two : 2 ≤ c.loop-left.start = two_places c.loop-left.left c.loop-left.start c.loop-left-test.true c.loop-left.invariant.small in
    let next : c.loop-left.start - 1 + 1 ≡ c.loop-left.start = omega arith in
    record {
      some = omega arith;
      room = omega arith;
      small = tenth_below c.loop-left.left c.loop-left.start (c.loop-left.start - 1) next c.loop-left.invariant.small;
      told = digit_before c.args.number c.loop-left.left c.loop-left.start (c.loop-left.start - 1) c.loop-left.place
          next c.loop-left-test.true (omega arith) (omega arith) c.loop-left.invariant.told;
    }

pub returns-clause-digits : goal.returns-clause-digits
returns-clause-digits c = mark_before c.args.number c.loop-left.left c.loop-left.start (c.loop-left.start - 1)
    c.args.mark c.loop-left.place (omega arith) (omega arith) (omega arith) c.loop-left.invariant.told
