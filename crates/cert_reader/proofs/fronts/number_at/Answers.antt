use Rattle.std.proofs.Common.{◌≡◌, true, false, Ok, take, ap, sym, subst, ◌∙◌, arith}
use Rattle.cert_reader.specs.Fronts.{is_plain, number_at}
use Rattle.cert_reader.proofs.Numbers.{number_over, number_unplain, number_within}
use Rattle.cert_reader.proofs.fronts.number_at.Goals as goal

pub returns-then-not-is_plain-clause-number : goal.returns-then-not-is_plain-clause-number
returns-then-not-is_plain-clause-number c =
    let unplain : is_plain (take c.front_value-count.result.0 c.args.bytes.now) ≡ false =
    ap is_plain (sym c.split_at.ensures.front) ∙ sym c.is_plain.ensures ∙ c.if-not-is_plain.true in
    number_unplain c.args.bytes.now c.front_value-count.result.0 c.front_value-count.result.1 c.front_value-count.ensures
    c.args.limit c.args.line unplain

pub returns-then-value-limit-clause-number : goal.returns-then-value-limit-clause-number
returns-then-value-limit-clause-number c =
    let plain : is_plain (take c.front_value-count.result.0 c.args.bytes.now) ≡ true =
    ap is_plain (sym c.split_at.ensures.front) ∙ sym c.is_plain.ensures ∙ c.if-not-is_plain.false in
    number_over c.args.bytes.now c.front_value-count.result.0 c.front_value-count.result.1 c.front_value-count.ensures
    c.args.limit c.args.line plain (omega (arith, c.if-value-limit.true))

pub returns-clause-number : goal.returns-clause-number
returns-clause-number c =
    let plain : is_plain (take c.front_value-count.result.0 c.args.bytes.now) ≡ true =
    ap is_plain (sym c.split_at.ensures.front) ∙ sym c.is_plain.ensures ∙ c.if-not-is_plain.false in
    subst (λ rest. number_at c.args.limit c.args.line c.args.bytes.now ≡ Ok (c.front_value-count.result.1, rest)) (sym c.split_at.ensures.back)
    (number_within c.args.bytes.now c.front_value-count.result.0 c.front_value-count.result.1 c.front_value-count.ensures
    c.args.limit c.args.line plain (omega (arith, c.if-value-limit.false)))
