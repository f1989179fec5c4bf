use Rattle.std.proofs.Common.{◌≡◌, ◌<◌, ◌+◌, ◌-◌, ◌*◌, ◌%◌, refl, ap, sym, subst, ◌∙◌, arith, length, map, set, slice_index}
use Rattle.residue_theory.proofs.ResidueLaws.{agree-add}
use Rattle.std.proofs.lemmas.List.{length-map}
use Rattle.std.specs.List.{All}
use Rattle.residue_theory.specs.Sums.{sum_below}
use Rattle.row_entries.specs.Rows.{EndsBefore, items, number_at}
use Rattle.row_echelon.specs.Echelons.{EchelonState, IsEchelon, SolvesRows, PivotItems, pivot_row}
use Rattle.row_echelon.proofs.EchelonLaws.{solved-put}
use Rattle.row_echelon.proofs.StoredRows.{entries-within, seen, stored-count, stored-row}
use Rattle.row_echelon.proofs.echelon.Echelon.solve.Goals as goal

pub entries_sum-requires : goal.entries_sum-requires
entries_sum-requires g c =
    let number = g.F.Field.number in
    let p = g.F.Field.modulus in
    let e : EchelonState = c.args.self.now in
    let w = length c.self.inside.weights.items in
    let is : IsEchelon p e = subst (IsEchelon p) c.self.view_is c.self.invariant in
    let k = c.loop-t.t - 1 in
    let r = c.index-pivot.result.now in
    let l : k < length c.self.inside.rows.items = omega (arith, c.loop-t.auto.t, c.len-t.ensures, c.self.inside.rows.ok.0, c.loop-t-test.true) in
    let count : length e.rows ≡ length c.self.inside.rows.items = stored-count number w c.self.inside.rows.items e c.self.view_is in
    let row : pivot_row e k ≡ seen number r = stored-row number w c.self.inside.rows.items e c.self.view_is k r l c.index-pivot.ensures in
    let kl : k < length e.rows = omega (arith, l, count) in
    subst (λ es. All (λ entry. entry.column < length c.loop-t.x) es) (sym c.deref.ensures.value)
    (entries-within number (length c.loop-t.x) r.entries.items
    (subst (EndsBefore (items number r.entries.items)) (let same : e.width ≡ length c.loop-t.x = omega (arith, c.loop-t.auto.x, c.requires.width) in same)
    (subst (λ (s : PivotItems). EndsBefore s.items e.width) row (is.within k kl))))

pub put_at-requires : goal.put_at-requires
put_at-requires g c =
    let number = g.F.Field.number in
    let p = g.F.Field.modulus in
    let e : EchelonState = c.args.self.now in
    let w = length c.self.inside.weights.items in
    let is : IsEchelon p e = subst (IsEchelon p) c.self.view_is c.self.invariant in
    let k = c.loop-t.t - 1 in
    let r = c.index-pivot.result.now in
    let l : k < length c.self.inside.rows.items = omega (arith, c.loop-t.auto.t, c.len-t.ensures, c.self.inside.rows.ok.0, c.loop-t-test.true) in
    let count : length e.rows ≡ length c.self.inside.rows.items = stored-count number w c.self.inside.rows.items e c.self.view_is in
    let row : pivot_row e k ≡ seen number r = stored-row number w c.self.inside.rows.items e c.self.view_is k r l c.index-pivot.ensures in
    let kl : k < length e.rows = omega (arith, l, count) in
    omega (arith, is.lead k kl, ap (λ (s : PivotItems). s.lead) row, c.loop-t.auto.x, c.requires.width)

pub loop-t-preserved : goal.loop-t-preserved
loop-t-preserved g c =
    let number = g.F.Field.number in
    let p = g.F.Field.modulus in
    let e : EchelonState = c.args.self.now in
    let w = length c.self.inside.weights.items in
    let is : IsEchelon p e = subst (IsEchelon p) c.self.view_is c.self.invariant in
    let k = c.loop-t.t - 1 in
    let r = c.index-pivot.result.now in
    let l : k < length c.self.inside.rows.items = omega (arith, c.loop-t.auto.t, c.len-t.ensures, c.self.inside.rows.ok.0, c.loop-t-test.true) in
    let count : length e.rows ≡ length c.self.inside.rows.items = stored-count number w c.self.inside.rows.items e c.self.view_is in
    let row : pivot_row e k ≡ seen number r = stored-row number w c.self.inside.rows.items e c.self.view_is k r l c.index-pivot.ensures in
    let kl : k < length e.rows = omega (arith, l, count) in
    let x = map number c.loop-t.x in
    let v = number c.sub-value.result in
    let sum = number c.entries_sum.result in
    let next : c.loop-t.t ≡ k + 1 = omega (arith, c.loop-t-test.true) in
    let wide : length c.loop-t.x ≡ e.width = omega (arith, c.loop-t.auto.x, c.requires.width) in
    let summed : sum % p ≡ sum_below e.width (λ j. slice_index x j * number_at (pivot_row e k).items j) % p =
    subst (λ (s : PivotItems). sum % p ≡ sum_below e.width (λ j. slice_index x j * number_at s.items j) % p) (sym row)
    (subst (λ n. sum % p ≡ sum_below n (λ j. slice_index x j * number_at (items number r.entries.items) j) % p) wide
    (subst (λ es. sum % p ≡ sum_below (length c.loop-t.x) (λ j. slice_index x j * number_at (items number es) j) % p) c.deref.ensures.value
    c.entries_sum.ensures)) in
    subst (SolvesRows p e k) (ap (λ (s : PivotItems). set x s.lead v) row ∙ sym c.put_at.ensures)
    (solved-put p e is k kl x v (subst (λ m. SolvesRows p e m x) next c.loop-t.invariant)
    (agree-add p v v (sum_below e.width (λ j. slice_index x j * number_at (pivot_row e k).items j)) sum refl (sym summed)
    ∙ c.sub-value.ensures.difference ∙ ap (λ (s : PivotItems). s.right % p) (sym row)))
