use Rattle.std.proofs.Common.{◌≡◌, ◌+◌, ◌<◌, ℕ, List, [], ap, arith, length, map, slice_index, slice_index_or, subst, sym, ◌∙◌}
use Rattle.std.proofs.lemmas.List.{get_or_default, map_push}
use Rattle.std.specs.List.Sorted.{IsStrictlyIncreasing}
use Rattle.residue_theory.specs.Sets.{has}
use Rattle.residue_theory.specs.Sums.{size_on}
use Rattle.cert_text.specs.Contents.{numbered, numbered_rows}
use Rattle.block_solver.specs.Numbers.{AreSymbolItems, AreSymbolRows, symbols_above}
use Rattle.block_solver.proofs.SymbolNumbers.{above-more, above-next, above-within, symbol_rows-next}
use Rattle.block_solver.proofs.numbers.symbol_rows.Goals as goal

pub symbol_row-requires : goal.symbol_row-requires
symbol_row-requires g c h hl less =
    let t = c.args.t.now in
    let u = c.args.unknowns in
    let k = c.loop-columns.columns-index in
    let slice = c.as_slice-columns.result.now in
    let is : slice_index_or t k [] ≡ slice = get_or_default t k [] c.columns-item.result c.loop-columns-test.true
    ∙ sym c.columns-item.is ∙ sym c.as_slice-columns.ensures in
    omega (
      arith,
      c.loop-columns.invariant.first,
      c.requires.values,
      above-within t u k h (length t) (c.requires.rising k [] c.loop-columns-test.true) c.loop-columns-test.true
          (subst (λ (l : List ℕ). h < length l) (sym is) hl) (subst (λ (l : List ℕ). slice_index l h < u) (sym is) less),
    )

pub unknowns_among-requires : goal.unknowns_among-requires
unknowns_among-requires g c =
    subst IsStrictlyIncreasing (sym c.columns-item.is ∙ sym c.as_slice-columns.ensures)
    (c.requires.rising c.loop-columns.columns-index c.columns-item.result c.loop-columns-test.true)

pub overflow_add-first : goal.overflow_add-first
overflow_add-first g c =
    let t = c.args.t.now in
    let u = c.args.unknowns in
    let k = c.loop-columns.columns-index in
    let is : slice_index_or t k [] ≡ c.as_slice-columns.result.now = get_or_default t k [] c.columns-item.result c.loop-columns-test.true
    ∙ sym c.columns-item.is ∙ sym c.as_slice-columns.ensures in
    let count : c.unknowns_among.result ≡ size_on (has (slice_index_or t k [])) u =
    c.unknowns_among.ensures ∙ ap (λ (l : List ℕ). size_on (has l) u) (sym is) in
    omega (arith, c.loop-columns.invariant.first, c.requires.values, count, above-more t u k (length t) c.loop-columns-test.true, c.requires.few)

pub loop-columns-preserved : goal.loop-columns-preserved
loop-columns-preserved g c =
    let p = g.F.Field.modulus in
    let number = g.F.Field.number in
    let t = c.args.t.now in
    let u = c.args.unknowns in
    let k = c.loop-columns.columns-index in
    let values = map number c.args.values.now in
    let rows = c.loop-columns.rows.items in
    let row = c.in_ok-symbol_row.field-0 in
    let is : slice_index_or t k [] ≡ c.as_slice-columns.result.now = get_or_default t k [] c.columns-item.result c.loop-columns-test.true
    ∙ sym c.columns-item.is ∙ sym c.as_slice-columns.ensures in
    let count : c.unknowns_among.result ≡ size_on (has (slice_index_or t k [])) u =
    c.unknowns_among.ensures ∙ ap (λ (l : List ℕ). size_on (has l) u) (sym is) in
    record {
      first = omega (arith, c.loop-columns.invariant.first, count, above-next t u k);
      rows = subst (λ l. AreSymbolRows p u (k + 1) t values (numbered_rows number l)) (sym c.in_ok-push.ensures.items)
          (subst (AreSymbolRows p u (k + 1) t values) (sym (map_push (numbered number) rows row))
          (symbol_rows-next p u k t values (numbered_rows number rows) (numbered number row) c.loop-columns.invariant.rows
          (subst (λ (l : List ℕ). AreSymbolItems p u (symbols_above t u k) (length l) l values (numbered number row)) (sym is)
          (subst (λ f. AreSymbolItems p u f (length c.as_slice-columns.result.now) c.as_slice-columns.result.now values (numbered number row))
          c.loop-columns.invariant.first c.in_ok-symbol_row.ensures))));
    }
