use Rattle.std.proofs.Common.{◌%◌, ap, sym, ◌∙◌, arith}
use Rattle.std.proofs.lemmas.List.{get_or-map}
use Rattle.std.proofs.Math.Nat.{mod-eq_of_lt, zero-mod}
use Rattle.cert_checker.proofs.NumberedRows.{zero_at}
use Rattle.cert_checker.proofs.value_rows.is_zero_row.Goals as goal

pub returns : goal.returns
returns g c =
    let number = g.F.Field.number in
    let p = g.F.Field.modulus in
    let row = c.args.row.now in (
      λ is. λ j low.
          ap (λ z. z % p) (zero_at number row j low
          (λ d. (c.loop-value.invariant.tells.0 is) j d (omega arith) (omega (arith, low, c.loop-value-test.false))))
          ∙ zero-mod p,
      λ zero. c.loop-value.invariant.tells.1 (λ j d from to.
          sym (mod-eq_of_lt (c.loop-value.invariant.below j d from to))
          ∙ ap (λ z. z % p) (sym (get_or-map number row j d 0 (omega (arith, to, c.loop-value.auto.value-index-end))))
          ∙ zero j (omega (arith, to, c.loop-value.auto.value-index-end))),
    )
