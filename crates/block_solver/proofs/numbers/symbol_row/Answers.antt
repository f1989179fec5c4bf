use Rattle.std.proofs.Common.{◌≡◌, ◌+◌, ◌-◌, ◌%◌, ℕ, cond, ltb, ap, arith, length, map, slice_index, subst, sym, refl, ◌∙◌}
use Rattle.std.proofs.lemmas.List.{get_or-map, map_push}
use Rattle.cert_text.specs.Contents.{numbered}
use Rattle.block_solver.specs.Numbers.{AreSymbolItems}
use Rattle.block_solver.proofs.Entries.{named}
use Rattle.block_solver.proofs.SymbolNumbers.{items-next, minus_one, number-else, number-then}
use Rattle.block_solver.proofs.numbers.symbol_row.Goals as goal
use Rattle.block_solver.proofs.numbers.symbol_row.Goals.{then-column-unknowns, else-column-unknowns}

pub loop-place-preserved : goal.loop-place-preserved
loop-place-preserved g c =
    let p = g.F.Field.modulus in
    let number = g.F.Field.number in
    let columns = c.args.columns.now in
    let values = c.args.values.now in
    let u = c.args.unknowns in
    let first = c.args.first in
    let n = c.loop-place.place in
    let row = c.loop-place.row.items in
    let column : ℕ = slice_index columns n in
    let value = c.if-column-unknowns.number in
    let is : number value % p ≡ cond (ltb (slice_index columns n) u) (slice_index (map number values) (first + n)) (p - 1) % p =
    elim c.if-column-unknowns.branch [
      | then-column-unknowns w ↦ ap (λ x. number x % p) w.number-is
          ∙ ap (λ x. x % p) (ap number w.index-values-first.is
          ∙ sym (get_or-map number values (first + n) w.index-values-first.result 0
          (c.requires n c.loop-place-test.true w.if-column-unknowns.true)))
          ∙ number-then p (slice_index columns n) u (slice_index (map number values) (first + n)) w.if-column-unknowns.true
      | else-column-unknowns w ↦ ap (λ x. number x % p) w.number-is
          ∙ minus_one p g.met.F.Field.prime (number c.neg-auxiliary.result)
          (ap (λ x. (x + number c.neg-auxiliary.result) % p) (sym c.one.ensures) ∙ c.neg-auxiliary.ensures.negative)
          ∙ number-else p (slice_index columns n) u (slice_index (map number values) (first + n)) w.if-column-unknowns.false
    ] in
    subst (λ l. AreSymbolItems p u first (n + 1) columns (map number values) (numbered number l)) (sym c.in_ok-push.ensures.items)
    (subst (AreSymbolItems p u first (n + 1) columns (map number values)) (sym (map_push (named number) row (column, value)))
    (items-next p u first n columns (map number values) (numbered number row) (named number (column, value)) c.loop-place.invariant refl is))

pub returns : goal.returns
returns g c =
    let p = g.F.Field.modulus in
    let number = g.F.Field.number in
    let columns = c.args.columns.now in
    let end : c.loop-place.place ≡ length columns = omega (arith, c.loop-place-test.false, c.loop-place.auto.place-end) in
    subst (λ l. AreSymbolItems p c.args.unknowns c.args.first (length columns) columns (map number c.args.values.now) (numbered number l))
    (sym c.from_vec.ensures)
    (subst (λ n. AreSymbolItems p c.args.unknowns c.args.first n columns (map number c.args.values.now) (numbered number c.loop-place.row.items)) end
    c.loop-place.invariant)
