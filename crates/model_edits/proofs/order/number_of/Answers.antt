use Rattle.std.proofs.Common.{rules, ◌≡◌, true, refl, subst, arith}
use Rattle.std.specs.Str.{bytes_eq}
use Rattle.model_edits.proofs.OrderLaws.{named-first, named-none}
use Rattle.model_edits.proofs.order.number_of.Goals as goal

pub returns-then-eq : goal.returns-then-eq
returns-then-eq c =
    let same : bytes_eq c.args.word.now c.digits_of.result.now ≡ true = search rules in
    named-first c.args.count c.loop-k.k c.args.word.now (omega (arith, c.loop-k-test.true)) c.loop-k.invariant
    (subst (λ digits. bytes_eq c.args.word.now digits ≡ true) c.digits_of.ensures same)

pub returns : goal.returns
returns c = (
  refl,
  named-none c.args.count c.args.word.now
      (λ j jl. c.loop-k.invariant j (omega (arith, jl, c.loop-k-test.false, c.loop-k.auto.k-end))),
)
