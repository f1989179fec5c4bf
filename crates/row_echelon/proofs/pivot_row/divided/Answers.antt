use Rattle.std.proofs.Common.{◌≡◌, ◌*◌, ◌%◌, ap, sym, subst, ◌∙◌, arith, length, map, slice_index}
use Rattle.std.proofs.lemmas.List.{get_or-map}
use Rattle.row_entries.specs.Rows.{items}
use Rattle.row_echelon.proofs.DividedRows.{is-divided}
use Rattle.row_echelon.proofs.pivot_row.divided.Goals as goal

pub returns : goal.returns
returns g c =
    let number = g.F.Field.number in
    let read : number c.index-row-lead.result ≡ slice_index (map number c.args.row.now) c.args.lead =
    ap number c.index-row-lead.is ∙ sym (get_or-map number c.args.row.now c.args.lead c.index-row-lead.result 0 c.requires.lead) in
    let inverse : (number c.index-row-lead.result * number c.unwrap-factor.result) % g.F.Field.modulus ≡ 1 =
    rw c.unwrap-factor.ensures at c.inv.ensures.inverse in
    is-divided g.F.Field.modulus (length c.args.row.now) (map number c.args.row.now) c.args.lead (number c.args.right)
    (number c.unwrap-factor.result) (number c.mul.result) (items number c.in_ok-entries.entries.items)
    c.in_ok-entries.ensures g.met.F.Field.prime.above_one c.requires.lead
    (subst (λ x. (x * number c.unwrap-factor.result) % g.F.Field.modulus ≡ 1) read inverse) c.mul.ensures
