use Rattle.std.proofs.Common.{false, refl, slice_index_or}
use Rattle.cert_checker.proofs.StandingLaws.{put-refused}
use Rattle.cert_checker.proofs.standing.put.Goals as goal

pub returns-then-places-number-ne0-clause-answer : goal.returns-then-places-number-ne0-clause-answer
returns-then-places-number-ne0-clause-answer c =
    let k = c.loop-number.number-index in
    let x = slice_index_or c.args.list.now k 0 in (
      λ f. absurd (cc),
      λ u. put-refused c.args.places.now c.loop-number.places c.args.list.now k x c.args.part c.requires.rising
          c.loop-number-test.true refl (c.requires.below k 0 c.loop-number-test.true)
          c.loop-number.invariant.placed c.if-places-number-ne0.true u false,
    )
