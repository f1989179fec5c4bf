use Rattle.std.proofs.Common.{refl, sym, ◌∙◌, arith}
use Rattle.bit_table.specs.Bits.{bit_in}
use Rattle.residue_theory.proofs.SetLaws.{differ}
use Rattle.part_orders.proofs.CoverLaws.{items_are_blocks, blocks_are_items}
use Rattle.part_orders.proofs.covers.are_only_direct.Goals as goal
use Rattle.part_orders.proofs.covers.are_only_direct.Goals.{then-not-get-via-then-not-get, then-not-get-via-else-not-get+then-get}

pub returns-then-not-get : goal.returns-then-not-get
returns-then-not-get c = (
  (λ h. absurd (differ refl h)),
  (λ all.
      let B = blocks_are_items c.args.lower.now (bit_in c.args.direct.now) (bit_in c.args.deep.now) c.loop-i.i c.loop-i-test.true all in
      elim c.then-not-get.branch [
        | then-not-get-via-then-not-get w ↦ absurd (differ (sym c.get.ensures ∙ w.if-not-get.true) B.0)
        | then-not-get-via-else-not-get+then-get w ↦ absurd (differ B.1 (sym w.get-else-not-get.ensures ∙ w.if-get.true))
      ]),
)

pub returns : goal.returns
returns c = (
  (λ _. items_are_blocks c.args.lower.now (bit_in c.args.direct.now) (bit_in c.args.deep.now)
      (λ j jl. c.loop-i.invariant j (omega (arith, jl, c.loop-i-test.false)))),
  (λ _. refl),
)
