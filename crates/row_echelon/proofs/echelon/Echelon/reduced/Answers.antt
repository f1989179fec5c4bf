use Rattle.std.proofs.Common.{◌≡◌, ◌<◌, ◌+◌, ◌*◌, ◌%◌, ℕ, refl, ap, sym, subst, ◌∙◌, arith, length, map, slice_index}
use Rattle.std.proofs.lemmas.List.{length-map}
use Rattle.std.specs.List.{All}
use Rattle.row_entries.specs.Rows.{EndsBefore, items}
use Rattle.row_echelon.specs.Echelons.{EchelonState, IsAddedTo, IsEchelon, PivotItems, pivot_row}
use Rattle.row_echelon.proofs.EchelonLaws.{not-reduced, reduced-step}
use Rattle.row_echelon.proofs.StoredRows.{entries-within, seen, stored-below, stored-count, stored-item, stored-row}
use Rattle.row_echelon.proofs.echelon.Echelon.reduced.Goals as goal

pub loop-pivot-init : goal.loop-pivot-init
loop-pivot-init g c =
    not-reduced g.F.Field.modulus c.args.self.now (map g.F.Field.number c.args.row.now) (g.F.Field.number c.args.right)

pub number_at-requires : goal.number_at-requires
number_at-requires g c =
    let number = g.F.Field.number in
    let e : EchelonState = c.args.self.now in
    let is : IsEchelon g.F.Field.modulus e = subst (IsEchelon g.F.Field.modulus) c.self.view_is c.self.invariant in
    let k = c.loop-pivot.pivot-index in
    let l : k < length c.self.inside.rows.items = stored-below c.deref-pivot-items.ensures.value k c.loop-pivot-test.true in
    let row : pivot_row e k ≡ seen number c.pivot-item.result = stored-row number
    (length c.self.inside.weights.items) c.self.inside.rows.items e c.self.view_is k c.pivot-item.result l
    (stored-item c.deref-pivot-items.ensures.value k c.pivot-item.result c.pivot-item.is) in
    omega (
      arith,
      is.lead k (omega (arith, l, stored-count number (length c.self.inside.weights.items) c.self.inside.rows.items e c.self.view_is)),
      ap (λ (r : PivotItems). r.lead) row,
      c.loop-pivot.auto.row,
      c.requires,
    )

pub add_entries-requires : goal.add_entries-requires
add_entries-requires g c =
    let number = g.F.Field.number in
    let e : EchelonState = c.args.self.now in
    let is : IsEchelon g.F.Field.modulus e = subst (IsEchelon g.F.Field.modulus) c.self.view_is c.self.invariant in
    let k = c.loop-pivot.pivot-index in
    let l : k < length c.self.inside.rows.items = stored-below c.deref-pivot-items.ensures.value k c.loop-pivot-test.true in
    let row : pivot_row e k ≡ seen number c.pivot-item.result = stored-row number
    (length c.self.inside.weights.items) c.self.inside.rows.items e c.self.view_is k c.pivot-item.result l
    (stored-item c.deref-pivot-items.ensures.value k c.pivot-item.result c.pivot-item.is) in
    let wide : e.width ≡ length c.loop-pivot.row = omega (arith, c.loop-pivot.auto.row, c.requires) in
    subst (λ es. All (λ entry. entry.column < length c.loop-pivot.row) es) (sym c.deref.ensures.value)
    (entries-within number (length c.loop-pivot.row) c.pivot-item.result.entries.items
    (subst (EndsBefore (items number c.pivot-item.result.entries.items)) wide
    (subst (λ (r : PivotItems). EndsBefore r.items e.width) row
    (is.within k (omega (arith, l, stored-count number (length c.self.inside.weights.items) c.self.inside.rows.items e c.self.view_is))))))

pub loop-pivot-preserved : goal.loop-pivot-preserved
loop-pivot-preserved g c =
    let number = g.F.Field.number in
    let p = g.F.Field.modulus in
    let e : EchelonState = c.args.self.now in
    let is : IsEchelon p e = subst (IsEchelon p) c.self.view_is c.self.invariant in
    let k = c.loop-pivot.pivot-index in
    let l : k < length c.self.inside.rows.items = stored-below c.deref-pivot-items.ensures.value k c.loop-pivot-test.true in
    let row : pivot_row e k ≡ seen number c.pivot-item.result = stored-row number
    (length c.self.inside.weights.items) c.self.inside.rows.items e c.self.view_is k c.pivot-item.result l
    (stored-item c.deref-pivot-items.ensures.value k c.pivot-item.result c.pivot-item.is) in
    let now = map number c.loop-pivot.row in
    let f = number c.neg-factor.result in
    reduced-step p e is k (omega (arith, l, stored-count number (length c.self.inside.weights.items) c.self.inside.rows.items e c.self.view_is))
    (map number c.args.row.now) (number c.args.right) now (number c.loop-pivot.right) c.loop-pivot.invariant
    (omega (arith, length-map c.args.row.now number, c.requires)) f (map number c.add_entries.new.row) (number c.plus_multiple-right.result)
    (subst (λ (r : PivotItems). (slice_index now r.lead + f) % p ≡ 0) (sym row)
    (subst (λ z. (z + f) % p ≡ 0) c.number_at.ensures c.neg-factor.ensures.negative))
    (subst (λ (r : PivotItems). IsAddedTo p f r.items now (map number c.add_entries.new.row)) (sym row)
    (subst (λ es. IsAddedTo p f (items number es) now (map number c.add_entries.new.row)) c.deref.ensures.value c.add_entries.ensures))
    (subst (λ (r : PivotItems). number c.plus_multiple-right.result ≡ (number c.loop-pivot.right + f * r.right) % p) (sym row) c.plus_multiple-right.ensures)
