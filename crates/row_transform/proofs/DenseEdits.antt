-- A dense tableau whose matrix gains or loses a row or a column.
use Rattle.std.proofs.Common.{◌≡◌, ℕ, ◌+◌, ◌%◌, ◌<◌, ◌≤◌, ◌≢◌, true, false, inl, inr, ap, sym, subst, ◌∙◌, arith, length}
use Rattle.std.proofs.Math.Nat.{mod-eq_of_lt, zero-mod}
use Rattle.residue_theory.specs.Residues.{IsPrime}
use Rattle.residue_theory.proofs.SumLaws.{nat_cases}
use Rattle.residue_theory.proofs.SetLaws.{differ, not_true}
use Rattle.linear_algebra.specs.Bases.{IsBase}
use Rattle.linear_algebra.specs.Parts.{skip, unskip}
use Rattle.linear_algebra.specs.Products.{identity}
use Rattle.linear_algebra_laws.proofs.Entries.{identity-same, identity-other}
use Rattle.linear_algebra_laws.proofs.SkipLaws.{skip-below, skip-first, skip-unskip, unskip-below, unskip-skip}
use Rattle.bit_table.specs.Bits.{Bits, bit_in}
use Rattle.sparse_q.specs.Tables.{number_in, sparse_rows}
use Rattle.row_table.specs.Layouts.{layout_places}
use Rattle.row_table.specs.Places.{Places}
use Rattle.row_table.specs.PutOffs.{actual}
use Rattle.row_table.specs.RowTables.{Combined, IsCombined, entries, p_part}
use Rattle.row_table.specs.TableEdits.{IsTableWithColumn, IsTableWithRow, IsTableWithoutColumn, IsWidenedTable, basic_of}
use Rattle.row_table.proofs.PlaceLaws.{whole-unit}
use Rattle.row_table.proofs.RowTableLaws.{part-within}
use Rattle.row_table.proofs.TableEdits.{zero-free}
use Rattle.row_transform.specs.Bases.{BaseLists, IsBaseColumnIn, IsBaseColumnOut, IsBaseRowIn, base_row, is_base}
use Rattle.row_transform.specs.Dense.{Dense, IsDense}
use Rattle.row_transform.specs.Entries.{AreEntriesListed, HasSizeOf, HasTableSize, IsColumnListedIn, IsColumnListedOut, KeepsListed}

-- columns that are the basic ones of their rows are unit columns
pub dense-of : (p : ℕ) → IsPrime p → (d : Dense) → IsCombined p d.table → length d.base.columns ≡ sparse_rows d.table.q →
    length d.base.rows ≡ d.table.q.width →
    ((y : ℕ) → y < d.table.q.width → is_base d.base y ≡ true → base_row d.base y < sparse_rows d.table.q) →
    ((y : ℕ) → y < d.table.q.width → is_base d.base y ≡ true → basic_of d.table (base_row d.base y) ≡ y) → IsDense p d
dense-of p prime d combined rows columns below basic = record {
  base_rows = rows;
  base_columns = columns;
  unit_columns = record {
    row_below = below;
    one = λ y yl h. ap (λ z. z % p) (entry-is (base_row d.base y) y (below y yl h) yl h ∙ identity-same (base_row d.base y))
        ∙ mod-eq_of_lt prime.above_one;
    zero = λ y i yl h il ne. ap (λ z. z % p) (entry-is i y il yl h ∙ identity-other i (base_row d.base y) ne) ∙ zero-mod p;
    distinct = λ y c yl cl h g q. sym (basic y yl h) ∙ ap (basic_of d.table) q ∙ basic c cl g;
  };
  basic = basic;
}
  where
    entry-is : (i y : ℕ) → i < sparse_rows d.table.q → y < d.table.q.width → is_base d.base y ≡ true →
        p_part p d.table i y ≡ identity i (base_row d.base y)
    entry-is i y il yl h = part-within i (sparse_rows d.table.q) y d.table.q.width (entries p d.table i y) il yl
        ∙ whole-unit (layout_places d.table.layout) (actual p d.table.kept) i y
        (subst (λ c. (layout_places d.table.layout).is_unit c ≡ true) (basic y yl h)
        (combined.placed.basic_unit (base_row d.base y) (below y yl h)))
        ∙ ap (identity i) (ap (layout_places d.table.layout).row (sym (basic y yl h))
        ∙ combined.placed.basic_row (base_row d.base y) (below y yl h))

abbrev pub with_parts : Dense → Combined → BaseLists → Dense
with_parts d table base = record { table = table; base = base; row_room = d.row_room; column_room = d.column_room }

-- ---- a row joins
pub row-dense : (p : ℕ) → IsPrime p → (d : Dense) (table : Combined) (base : BaseLists) (e k : ℕ) (x : ℕ → ℕ) → IsDense p d →
    IsCombined p table → k ≡ sparse_rows d.table.q → IsTableWithRow p d.table table e x → IsBaseRowIn d.base base k →
    IsDense p (with_parts d table base)
row-dense p prime d table base e k x dense combined k-is now into =
    dense-of p prime (with_parts d table base) combined
    (into.rows_are ∙ ap (λ m. m + 1) dense.base_rows ∙ sym now.q_is.rows_are)
    (into.columns_same ∙ dense.base_columns ∙ sym now.q_is.width_same)
    (λ y yl h. omega (arith, row-at y (wide y yl) (was y h), low y (wide y yl) (was y h), now.q_is.rows_are))
    (λ y yl h. ap (basic_of table) (row-at y (wide y yl) (was y h)) ∙ now.basic_is (base_row d.base y) (low y (wide y yl) (was y h))
    ∙ ap (skip (d.table.q.width + e)) (dense.basic y (wide y yl) (was y h)) ∙ skip-first (d.table.q.width + e) y (omega (arith, wide y yl)))
  where
    was : (y : ℕ) → is_base base y ≡ true → is_base d.base y ≡ true
    was y h = sym (into.base_same y) ∙ h

    wide : (y : ℕ) → y < table.q.width → y < d.table.q.width
    wide y yl = omega (arith, now.q_is.width_same, yl)

    low : (y : ℕ) → y < d.table.q.width → is_base d.base y ≡ true → base_row d.base y < sparse_rows d.table.q
    low y yl h = dense.unit_columns.row_below y yl h

    row-at : (y : ℕ) → y < d.table.q.width → is_base d.base y ≡ true → base_row base y ≡ base_row d.base y
    row-at y yl h = into.row_is y h ∙ skip-first k (base_row d.base y) (omega (arith, low y yl h, k-is))

pub row-listed : (p m w m' w' k : ℕ) (P R : ℕ → ℕ → ℕ) (b c : Bits) → k ≡ m → m' ≡ m + 1 → w' ≡ w → AreEntriesListed p m w P b →
    ((i j : ℕ) → i < m → j < w → R i j ≡ P i j) → m + 1 ≤ b.size → HasTableSize b c →
    ((j : ℕ) → j < w' → R k j ≢ 0 → bit_in c j k ≡ true) →
    ((i j : ℕ) → i < b.size → bit_in b j i ≡ true → bit_in c j i ≡ true) → AreEntriesListed p m' w' R c
row-listed p m w m' w' k P R b c k-is m-is w-is listed stays room size here kept = record {
  size = record { columns_fit = omega (arith, size.rows_same, listed.size.columns_fit, w-is); rows_fit = omega (arith, size.size_same, room, m-is) };
  listed = λ i j il jl ne. elim (nat_cases i k) [
    | inl q ↦ subst (λ u. bit_in c j u ≡ true) (sym q) (here j jl (λ z. ne (ap (λ u. R u j % p) q ∙ ap (λ x. x % p) z ∙ zero-mod p)))
    | inr apart ↦ let less : i < m = omega arith in
        kept i j (omega arith) (listed.listed i j less (omega arith) (λ z. ne (ap (λ x. x % p) (stays i j less (omega arith)) ∙ z)))
  ];
}

-- ---- a column joins
pub column-dense : (p : ℕ) → IsPrime p → (d : Dense) (table : Combined) (base : BaseLists) (v : ℕ) → v ≤ d.table.q.width → IsDense p d →
    IsCombined p table → IsTableWithColumn p d.table table v → IsBaseColumnIn d.base base v → IsDense p (with_parts d table base)
column-dense p prime d table base v vl dense combined now into =
    dense-of p prime (with_parts d table base) combined
    (into.rows_same ∙ dense.base_rows ∙ sym now.q_is.rows_same)
    (into.columns_are ∙ ap (λ n. n + 1) dense.base_columns ∙ sym now.q_is.width_are)
    (λ y yl h. subst (λ z. base_row base z < sparse_rows table.q) (back y h) (subst (λ r. r < sparse_rows table.q)
    (sym (into.row_same (unskip v y))) (omega (
      arith,
      now.q_is.rows_same,
      dense.unit_columns.row_below (unskip v y) (low y yl h) (was y h),
    ))))
    (λ y yl h. ap (basic_of table) (ap (base_row base) (sym (back y h)) ∙ into.row_same (unskip v y))
    ∙ now.basic_is (base_row d.base (unskip v y)) (dense.unit_columns.row_below (unskip v y) (low y yl h) (was y h))
    ∙ ap (skip v) (dense.basic (unskip v y) (low y yl h) (was y h)) ∙ back y h)
  where
    other : (y : ℕ) → is_base base y ≡ true → y ≢ v
    other y h q = differ into.no_base (ap (is_base base) (sym q) ∙ h)

    back : (y : ℕ) → is_base base y ≡ true → skip v (unskip v y) ≡ y
    back y h = skip-unskip v y (other y h)

    was : (y : ℕ) → is_base base y ≡ true → is_base d.base (unskip v y) ≡ true
    was y h = sym (into.base_same (unskip v y)) ∙ ap (is_base base) (back y h) ∙ h

    low : (y : ℕ) → y < table.q.width → is_base base y ≡ true → unskip v y < d.table.q.width
    low y yl h = let l = unskip-below v y (d.table.q.width + 1) (omega arith) (omega (arith, now.q_is.width_are, yl)) (other y h) in omega (arith, l)

pub column-listed : (p m w m' w' v n : ℕ) (P R : ℕ → ℕ → ℕ) (b c : Bits) → v ≤ w → m' ≡ m → w' ≡ w + 1 → n ≡ w → w + 1 ≤ b.rows →
    AreEntriesListed p m w P b → ((i : ℕ) → i < m → R i v ≡ 0) → ((i j : ℕ) → i < m → j < w → R i (skip v j) ≡ P i j) →
    IsColumnListedIn n b c v → AreEntriesListed p m' w' R c
column-listed p m w m' w' v n P R b c vl m-is w-is n-is room listed zero stays into = record {
  size = record {
    columns_fit = omega (arith, into.size.rows_same, room, w-is);
    rows_fit = omega (arith, into.size.size_same, listed.size.rows_fit, m-is);
  };
  listed = λ i j il jl ne. elim (nat_cases j v) [
    | inl q ↦ absurd (ne (ap (λ u. R i u % p) q ∙ ap (λ x. x % p) (zero i (omega arith)) ∙ zero-mod p))
    | inr apart ↦ there i (unskip v j) (omega arith) (low j (omega arith) apart) (skip-unskip v j apart) ne
  ];
}
  where
    low : (j : ℕ) → j < w + 1 → j ≢ v → unskip v j < w
    low j jl apart = let l = unskip-below v j (w + 1) (omega arith) jl apart in omega (arith, l)

    there : {j : ℕ} (i k : ℕ) → i < m → k < w → skip v k ≡ j → R i j % p ≢ 0 → bit_in c j i ≡ true
    there {j} i k il kl q ne = subst (λ u. bit_in c u i ≡ true) q
        (into.others i k (omega (arith, listed.size.rows_fit, il)) (omega (arith, n-is, kl))
        ∙ listed.listed i k il kl (λ z. ne (ap (λ u. R i u % p) (sym q) ∙ ap (λ x. x % p) (stays i k il kl) ∙ z)))

-- ---- a column leaves
pub cut-dense : (p : ℕ) → IsPrime p → (d : Dense) (table : Combined) (base : BaseLists) (v : ℕ) → v < d.table.q.width → IsDense p d →
    IsCombined p table → IsTableWithoutColumn p d.table table v → IsBaseColumnOut d.base base v → IsDense p (with_parts d table base)
cut-dense p prime d table base v vl dense combined now out =
    dense-of p prime (with_parts d table base) combined
    (out.rows_same ∙ dense.base_rows ∙ sym now.q_is.rows_same)
    (omega (arith, out.columns_are, dense.base_columns, now.q_is.width_are))
    (λ y yl h. subst (λ r. r < sparse_rows table.q) (sym (out.row_same y)) (omega (
      arith,
      now.q_is.rows_same,
      dense.unit_columns.row_below (skip v y) (low y yl) (was y h),
    )))
    (λ y yl h. ap (basic_of table) (out.row_same y)
    ∙ now.basic_is (base_row d.base (skip v y)) (dense.unit_columns.row_below (skip v y) (low y yl) (was y h))
    ∙ ap (unskip v) (dense.basic (skip v y) (low y yl) (was y h)) ∙ unskip-skip v y)
  where
    was : (y : ℕ) → is_base base y ≡ true → is_base d.base (skip v y) ≡ true
    was y h = sym (out.base_same y) ∙ h

    low : (y : ℕ) → y < table.q.width → skip v y < d.table.q.width
    low y yl = skip-below v y d.table.q.width vl (omega (arith, now.q_is.width_are, yl))

pub cut-listed : (p m w m' w' v n : ℕ) (P R : ℕ → ℕ → ℕ) (b c : Bits) → v < w → m' ≡ m → w' + 1 ≡ w → n ≡ w →
    AreEntriesListed p m w P b → ((i j : ℕ) → i < m → j < w' → R i j ≡ P i (skip v j)) → IsColumnListedOut n b c v →
    AreEntriesListed p m' w' R c
cut-listed p m w m' w' v n P R b c vl m-is w-is n-is listed stays out = record {
  size = record {
    columns_fit = omega (arith, out.size.rows_same, listed.size.columns_fit, w-is);
    rows_fit = omega (arith, out.size.size_same, listed.size.rows_fit, m-is);
  };
  listed = λ i j il jl ne. let less : i < m = omega arith in
      out.others i j (omega (arith, listed.size.rows_fit, less)) (omega arith)
      ∙ listed.listed i (skip v j) less (skip-below v j w vl (omega arith))
      (λ z. ne (ap (λ x. x % p) (stays i j less jl) ∙ z));
}

-- ---- more room
pub widened-dense : (p : ℕ) (d : Dense) (table : Combined) (base : BaseLists) (r c : ℕ) → IsDense p d → IsWidenedTable p d.table table →
    base.columns ≡ d.base.columns → base.rows ≡ d.base.rows →
    IsDense p (record { table = table; base = base; row_room = r; column_room = c })
widened-dense p d table base r c dense now columns rows = record {
  base_rows = ap (λ xs. length xs) columns ∙ dense.base_rows ∙ sym now.rows_same;
  base_columns = ap (λ xs. length xs) rows ∙ dense.base_columns ∙ sym now.columns_same;
  unit_columns = subst (λ P. IsBase p P (sparse_rows table.q) table.q.width (is_base base) (base_row base)) (sym now.p_same)
      (subst (λ m. IsBase p (p_part p d.table) m table.q.width (is_base base) (base_row base)) (sym now.rows_same)
      (subst (λ w. IsBase p (p_part p d.table) (sparse_rows d.table.q) w (is_base base) (base_row base)) (sym now.columns_same)
      (subst (λ xs. IsBase p (p_part p d.table) (sparse_rows d.table.q) d.table.q.width
      (is_base (record d.base { rows = xs })) (base_row (record d.base { rows = xs }))) (sym rows) dense.unit_columns)));
  basic = subst (λ (s : Places). (y : ℕ) → y < table.q.width → is_base base y ≡ true → s.basic (base_row base y) ≡ y) (sym now.places_same)
      (subst (λ w. (y : ℕ) → y < w → is_base base y ≡ true → basic_of d.table (base_row base y) ≡ y) (sym now.columns_same)
      (subst (λ xs. (y : ℕ) → y < d.table.q.width → is_base (record d.base { rows = xs }) y ≡ true →
      basic_of d.table (base_row (record d.base { rows = xs }) y) ≡ y) (sym rows) dense.basic));
}

pub widened-listed : (p : ℕ) (t n : Combined) (b c : Bits) → IsWidenedTable p t n → HasSizeOf (sparse_rows t.q) t.q.width c →
    KeepsListed (sparse_rows t.q) t.q.width b c → AreEntriesListed p (sparse_rows t.q) t.q.width (p_part p t) b →
    AreEntriesListed p (sparse_rows n.q) n.q.width (p_part p n) c
widened-listed p t n b c now size kept listed =
    subst (λ P. AreEntriesListed p (sparse_rows n.q) n.q.width P c) (sym now.p_same)
    (subst (λ m. AreEntriesListed p m n.q.width (p_part p t) c) (sym now.rows_same)
    (subst (λ w. AreEntriesListed p (sparse_rows t.q) w (p_part p t) c) (sym now.columns_same)
    (record { size = size; listed = λ i j il jl ne. kept i j il jl (listed.listed i j il jl ne) })))

-- a column of zeros is no base column
pub zero-no_base : (p : ℕ) → IsPrime p → (d : Dense) → IsCombined p d.table → IsDense p d → (v : ℕ) → v < d.table.q.width →
    ((i : ℕ) → i < sparse_rows d.table.q → number_in d.table.q i v % p ≡ 0) → is_base d.base v ≡ false
zero-no_base p prime d combined dense v vl empty = not_true (is_base d.base v) (λ h.
    differ (zero-free p prime d.table v combined vl empty)
    (subst (λ c. (layout_places d.table.layout).is_unit c ≡ true) (dense.basic v vl h)
    (combined.placed.basic_unit (base_row d.base v) (dense.unit_columns.row_below v vl h))))
