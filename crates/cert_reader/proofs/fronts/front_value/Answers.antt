use Rattle.std.proofs.Common.{◌≡◌, ℕ, ◌+◌, ◌-◌, ◌*◌, ◌<◌, true, List, length, get_or, slice_index_or, ap, sym, ◌∙◌, arith}
use Rattle.std.specs.Char.{is_ascii_digit}
use Rattle.cert_reader.proofs.Numbers.{digits_next, value_next, value_small}
use Rattle.cert_reader.proofs.fronts.front_value.Goals as goal

pub overflow_mul-value : goal.overflow_mul-value
overflow_mul-value c = omega (
  arith,
  c.loop-count.invariant.value_is,
  value_small c.args.bytes.now c.loop-count.count c.loop-count.invariant.digits
      (omega (arith, c.loop-count-test.true, c.looked_through-most.ensures.few))
      (omega (arith, c.loop-count-test.true, c.looked_through-most.ensures.within)),
)

pub overflow_add-value : goal.overflow_add-value
overflow_add-value c = omega (
  arith,
  c.loop-count.invariant.value_is,
  value_small c.args.bytes.now c.loop-count.count c.loop-count.invariant.digits
      (omega (arith, c.loop-count-test.true, c.looked_through-most.ensures.few))
      (omega (arith, c.loop-count-test.true, c.looked_through-most.ensures.within)),
  c.type_inv.bytes c.loop-count.count,
)

pub loop-count-preserved : goal.loop-count-preserved
loop-count-preserved c =
    let bytes : List ℕ = c.args.bytes.now in
    let count : ℕ = c.loop-count.count in
    let less : count < length bytes = omega (arith, c.loop-count-test.true, c.looked_through-most.ensures.within) in
    let here : is_ascii_digit (get_or bytes count 0) ≡ true = sym c.is_ascii_digit.ensures.value ∙ c.if-is_ascii_digit.true in
    record {
      within = omega (arith, c.loop-count-test.true);
      digits = digits_next bytes count less c.loop-count.invariant.digits here;
      value_is = ap (λ v. v * 10 + (slice_index_or bytes count 0 - 48)) c.loop-count.invariant.value_is ∙ sym (value_next bytes count less here);
    }
