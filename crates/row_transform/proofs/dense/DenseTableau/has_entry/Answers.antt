use Rattle.std.proofs.Common.{◌≡◌, ◌%◌, ◌∙◌, ap, not, sym}
use Rattle.std.proofs.Math.Nat.{mod-eq_of_lt}
use Rattle.residue_theory.proofs.SetLaws.{differ}
use Rattle.row_transform.proofs.dense.DenseTableau.has_entry.Goals as goal

pub returns-clause-some : goal.returns-clause-some
returns-clause-some g c some zero =
    let p = g.F.Field.modulus in
    let none : g.F.Field.number c.entry_of-entry.result ≡ 0 = sym (mod-eq_of_lt c.in_field.ensures) ∙ ap (λ x. x % p) c.entry_of-entry.ensures ∙ zero in
    differ (ap not (c.is_zero.ensures.1 none)) some
