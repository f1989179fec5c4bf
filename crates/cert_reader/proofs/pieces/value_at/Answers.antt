use Rattle.std.proofs.Common.{◌≡◌, ◌<◌, ◌-◌, Ok, sym, ap, subst, ◌∙◌, arith}
use Rattle.std.proofs.Math.Nat.{mod-eq_of_lt}
use Rattle.cert_reader.specs.Items.{positive_at}
use Rattle.cert_reader.proofs.pieces.value_at.Goals as goal

pub returns : goal.returns
returns g c =
    let p = g.F.Field.modulus in
    let number = c.in_ok-number.number in
    let limit : c.MODULUS.result - 1 ≡ p - 1 = omega (arith, c.MODULUS.ensures, g.met.F.Field.constant) in
    let below : number < p = omega (arith, limit, c.in_ok-number.ensures.within, g.met.F.Field.odd) in
    let same : g.F.Field.number c.of.result ≡ number = c.of.ensures ∙ mod-eq_of_lt below in
    subst (λ v. positive_at (p - 1) c.args.line c.args.bytes.now ≡ Ok (v, c.in_ok-number.rest.now)) (sym same)
    (ap (λ l. positive_at l c.args.line c.args.bytes.now) (sym limit) ∙ c.in_ok-number.ensures.number)
