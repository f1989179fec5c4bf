use Rattle.std.proofs.Common.{◌≡◌, ◌<◌, length, slice_index, refl, arith}
use Rattle.std.proofs.lemmas.List.{get_or_read}
use Rattle.residue_theory.proofs.SetLaws.{differ}
use Rattle.part_orders.proofs.HeadLaws.{least_first, each_first}
use Rattle.part_orders.proofs.heads.is_least_first.Goals as goal

pub returns-then-not-is_first_from : goal.returns-then-not-is_first_from
returns-then-not-is_first_from c = (
  (λ h. absurd (differ refl h)),
  (λ all.
      let ready = c.in_ok-ready.ready.items in
      let block = c.loop-block.block in
      let within : block < length ready = omega (arith, c.in_ok-ready.ensures.count, c.loop-block-test.true) in
      let read : c.index.result.now ≡ slice_index ready block = get_or_read ready block c.index.result.now within c.index.ensures 0 in
      let first = each_first c.args.lower.now (length c.args.heads.now) (slice_index ready)
      (slice_index c.args.heads.now) block c.in_ok-ready.ensures.ready c.loop-block-test.true all in
      absurd (differ c.if-not-is_first_from.true (c.is_first_from.ensures.1 (λ k from to. first k (omega (arith, read, from)) to)))),
)

pub returns : goal.returns
returns c = (
  (λ _. least_first c.args.lower.now (length c.args.heads.now) (slice_index c.in_ok-ready.ready.items)
      (slice_index c.args.heads.now) c.in_ok-ready.ensures.ready
      (λ l k ll. c.loop-block.invariant l k (omega (arith, ll, c.loop-block-test.false)))),
  (λ _. refl),
)
