-- A dense tableau that loses a row.
use Rattle.std.proofs.Common.{◌≡◌, ℕ, ◌+◌, ◌%◌, ◌<◌, ◌≢◌, cond, eqb, true, inl, inr, ap, sym, subst, ◌∙◌, arith, length}
use Rattle.std.proofs.lemmas.Bool.Decides.{nat_tests}
use Rattle.residue_theory.specs.Residues.{IsPrime}
use Rattle.residue_theory.proofs.SumLaws.{nat_cases}
use Rattle.residue_theory.proofs.SetLaws.{zero_cases}
use Rattle.linear_algebra.specs.Parts.{unskip}
use Rattle.bit_table.specs.Bits.{Bits, bit_in}
use Rattle.sparse_q.specs.Tables.{sparse_rows}
use Rattle.row_table.specs.Places.{last_at}
use Rattle.row_table.specs.RowTables.{Combined, IsCombined, p_part, s_part}
use Rattle.row_table.specs.TableEdits.{IsTableWithoutRow, basic_of}
use Rattle.row_table.proofs.PlaceEdits.{last_at-here, last_at-other}
use Rattle.row_transform.specs.Bases.{BaseLists, IsBaseRowOut, base_row, is_base}
use Rattle.row_transform.specs.Dense.{Dense, IsDense}
use Rattle.row_transform.specs.Entries.{AreEntriesListed, HasTableSize, IsRowListedAs}
use Rattle.row_transform.proofs.DenseEdits.{dense-of, with_parts}

unskip-low : (v c : ℕ) → c < v → unskip v c ≡ c
unskip-low v c l = grind (arith, nat_tests)

chosen : (r l k : ℕ) → r ≡ l → cond (eqb r l) k r ≡ k
chosen r l k q = grind (arith, nat_tests)

not-chosen : (r l k : ℕ) → r ≢ l → cond (eqb r l) k r ≡ r
not-chosen r l k ne = grind (arith, nat_tests)

pub row-out-dense : (p : ℕ) → IsPrime p → (d : Dense) (table : Combined) (base : BaseLists) (e k : ℕ) → IsDense p d →
    IsCombined p table → k < sparse_rows d.table.q → IsTableWithoutRow p d.table table e k → IsBaseRowOut d.base base k →
    ((y : ℕ) → y < d.table.q.width → is_base d.base y ≡ true → base_row d.base y ≢ k) → IsDense p (with_parts d table base)
row-out-dense p prime d table base e k dense combined kl now out bare =
    dense-of p prime (with_parts d table base) combined rows
    (out.columns_same ∙ dense.base_columns ∙ sym now.q_is.width_same)
    (λ y yl h. elim (nat_cases (base_row d.base y) (length base.columns)) [
      | inl q ↦ subst (λ r. r < sparse_rows table.q) (sym (at y h ∙ chosen (base_row d.base y) (length base.columns) k q))
          (omega (arith, now.q_is.rows_are, kl, rows, q, apart y yl h))
      | inr ne ↦ subst (λ r. r < sparse_rows table.q) (sym (at y h ∙ not-chosen (base_row d.base y) (length base.columns) k ne))
          (omega (arith, now.q_is.rows_are, rows, ne, low y yl h))
    ])
    (λ y yl h. elim (nat_cases (base_row d.base y) (length base.columns)) [
      | inl q ↦ let is = at y h ∙ chosen (base_row d.base y) (length base.columns) k q in
          ap (basic_of table) is ∙ now.basic_is k (omega (arith, now.q_is.rows_are, kl, rows, q, apart y yl h))
          ∙ ap (λ r. unskip (d.table.q.width + e) (basic_of d.table r)) (last_at-here k (sparse_rows table.q) ∙ sym rows ∙ sym q)
          ∙ home y yl h
      | inr ne ↦ let is = at y h ∙ not-chosen (base_row d.base y) (length base.columns) k ne in
          ap (basic_of table) is ∙ now.basic_is (base_row d.base y) (omega (arith, now.q_is.rows_are, rows, ne, low y yl h))
          ∙ ap (λ r. unskip (d.table.q.width + e) (basic_of d.table r))
          (last_at-other k (sparse_rows table.q) (base_row d.base y) (apart y yl h))
          ∙ home y yl h
    ])
  where
    rows : length base.columns ≡ sparse_rows table.q
    rows = omega (arith, out.rows_are, dense.base_rows, now.q_is.rows_are)

    was : (y : ℕ) → is_base base y ≡ true → is_base d.base y ≡ true
    was y h = sym (out.base_same y) ∙ h

    at : (y : ℕ) → is_base base y ≡ true → base_row base y ≡ cond (eqb (base_row d.base y) (length base.columns)) k (base_row d.base y)
    at y h = out.row_is y (was y h)

    wide : (y : ℕ) → y < table.q.width → y < d.table.q.width
    wide y yl = omega (arith, now.q_is.width_same, yl)

    low : (y : ℕ) → y < table.q.width → is_base base y ≡ true → base_row d.base y < sparse_rows d.table.q
    low y yl h = dense.unit_columns.row_below y (wide y yl) (was y h)

    apart : (y : ℕ) → y < table.q.width → is_base base y ≡ true → base_row d.base y ≢ k
    apart y yl h = bare y (wide y yl) (was y h)

    home : (y : ℕ) → y < table.q.width → is_base base y ≡ true →
        unskip (d.table.q.width + e) (basic_of d.table (base_row d.base y)) ≡ y
    home y yl h = ap (unskip (d.table.q.width + e)) (dense.basic y (wide y yl) (was y h))
        ∙ unskip-low (d.table.q.width + e) y (omega (arith, wide y yl))

-- what is listed for the rows to which the row that goes is added, and for the last row as the one that takes its place
pub row-out-listed : (p : ℕ) (t n : Combined) (a b c : Bits) (e k last columns : ℕ) → k < sparse_rows t.q → last + 1 ≡ sparse_rows t.q →
    columns ≡ t.q.width → IsTableWithoutRow p t n e k → AreEntriesListed p (sparse_rows t.q) t.q.width (p_part p t) a →
    HasTableSize a b →
    ((i j : ℕ) → i < sparse_rows t.q → j < t.q.width → s_part p t i e % p ≢ 0 → bit_in a j k ≡ true → bit_in b j i ≡ true) →
    ((i j : ℕ) → i < a.size → bit_in a j i ≡ true → bit_in b j i ≡ true) → IsRowListedAs columns b c last k →
    AreEntriesListed p (sparse_rows n.q) n.q.width (p_part p n) c
row-out-listed p t n a b c e k last columns kl last-is columns-is now listed size joined kept taking = record {
  size = record {
    columns_fit = omega (arith, taking.size.rows_same, size.rows_same, listed.size.columns_fit, now.q_is.width_same);
    rows_fit = omega (arith, taking.size.size_same, size.size_same, listed.size.rows_fit, now.q_is.rows_are);
  };
  listed = λ i j il jl ne. let less : i < last = omega (arith, now.q_is.rows_are, last-is, il) in
      let wide : j < t.q.width = omega (arith, now.q_is.width_same, jl) in
      elim (nat_cases i k) [
        | inl q ↦ let from : last_at k (sparse_rows n.q) i ≡ last = ap (last_at k (sparse_rows n.q)) q
            ∙ last_at-here k (sparse_rows n.q) ∙ omega (arith, now.q_is.rows_are, last-is) in
            subst (λ u. bit_in c j u ≡ true) (sym q) (taking.listed j (omega (arith, columns-is, wide))
            (there i j last il wide (omega (arith, last-is)) from ne))
        | inr apart ↦ taking.kept i j (omega (arith, size.size_same, listed.size.rows_fit, last-is, less))
            (there i j i il wide (omega (arith, last-is, less)) (last_at-other k (sparse_rows n.q) i apart) ne)
      ];
}
  where
    there : (i j r : ℕ) → i < sparse_rows n.q → j < t.q.width → r < sparse_rows t.q → last_at k (sparse_rows n.q) i ≡ r →
        p_part p n i j % p ≢ 0 → bit_in b j r ≡ true
    there i j r il jl rl q ne = elim (zero_cases (p_part p t k j % p)) [
      | inl z ↦ kept r j (omega (arith, listed.size.rows_fit, rl)) (listed.listed r j rl jl
          (λ y. ne (now.columns_stay i j il jl z ∙ ap (λ u. p_part p t u j % p) q ∙ y)))
      | inr some ↦ elim (zero_cases (s_part p t r e % p)) [
        | inl z ↦ kept r j (omega (arith, listed.size.rows_fit, rl)) (listed.listed r j rl jl
            (λ y. ne (now.rows_stay i j il jl (ap (λ u. s_part p t u e % p) q ∙ z) ∙ ap (λ u. p_part p t u j % p) q ∙ y)))
        | inr not ↦ joined r j rl jl not (listed.listed k j kl jl some)
      ]
    ]
