-- A dense tableau as it is kept: that it is a tableau, and that its operations keep that.
use Rattle.std.proofs.Common.{cond, eqb, inl, inr, ◌≡◌, ℕ, ◌*◌, ◌%◌, ◌<◌, true, false, sym, subst, ap, ◌∙◌, arith, length, replicate, None, ◌≢◌}
use Rattle.std.proofs.lemmas.Bool.Decides.{nat_tests}
use Rattle.std.proofs.lemmas.List.{length-replicate}
use Rattle.residue_theory.specs.Sets.{everything}
use Rattle.residue_theory.proofs.SumLaws.{nat_cases, sum_on-ext}
use Rattle.residue_theory.proofs.SetLaws.{differ}
use Rattle.linear_algebra.specs.Bases.{IsBase, IsBaseTaken}
use Rattle.linear_algebra.specs.Products.{identity}
use Rattle.linear_algebra.specs.RowOperations.{IsPivoted}
use Rattle.bit_table.specs.Bits.{Bits}
use Rattle.sparse_q.specs.Tables.{SparseTable, number_in, sparse_rows}
use Rattle.row_table.specs.TableEdits.{basic_of}
use Rattle.dense_q.specs.Tables.{Table, height, entry, IsTableOf}
use Rattle.row_table.specs.Places.{with_units}
use Rattle.row_table.specs.RowTables.{Combined, entries, p_part, s_part, u_part, IsCombined}
use Rattle.row_table.proofs.RowTableLaws.{part-within, units-before}
use Rattle.row_transform.specs.Bases.{BaseLists, is_base, base_row, IsBaseDropped}
use Rattle.row_transform.specs.Dense.{Dense, IsDense, dense_state}
use Rattle.row_transform.specs.Entries.{AreRowsListed, AreEntriesListed}
use Rattle.row_transform.specs.Tableaus.{IsTableau, IsPivot, IsOpened, AreTableauParts}
use Rattle.row_transform.proofs.TableauLaws.{base-taken, base-dropped, no_column}
use Rattle.row_transform.proofs.EntryLaws.{listed-entries}

pub dense-tableau : (p : ℕ) (d : Dense) → IsCombined p d.table → IsDense p d → IsTableau p (dense_state p d)
dense-tableau p d combined dense =
    let m : ℕ = sparse_rows d.table.q in
    let n : ℕ = d.table.q.width in
    let s = s_part p d.table in
    record {
      product_is = λ i j il jl.
          ap (λ y. y % p) (part-within i m j n (entries p d.table i j) il jl)
          ∙ combined.product_is i j il (omega (arith, jl))
          ∙ ap (λ y. y % p) (sum_on-ext everything m (λ k. s i k * with_units n (number_in d.table.q) k j)
          (λ k. s i k * number_in d.table.q k j)
          (λ k _ _. ap (λ y. s i k * y) (units-before n (number_in d.table.q) k j jl)));
      inverse = combined.inverse;
      unit_columns = dense.unit_columns;
    }

pub parts-are : (p : ℕ) (d : Dense) (S U P : Table) →
    IsTableOf (sparse_rows d.table.q) (sparse_rows d.table.q) (s_part p d.table) S →
    IsTableOf (sparse_rows d.table.q) (sparse_rows d.table.q) (u_part d.table) U →
    IsTableOf (sparse_rows d.table.q) d.table.q.width (entries p d.table) P → AreTableauParts (dense_state p d) S U P
parts-are p d S U P s u e = record {
  s_height = s.height_is;
  s_width = s.width_is;
  s_entries = s.entries;
  u_height = u.height_is;
  u_width = u.width_is;
  u_entries = u.entries;
  p_height = e.height_is;
  p_width = e.width_is;
  p_entries = λ i j il jl. e.entries i j il jl
      ∙ sym (part-within i (sparse_rows d.table.q) j d.table.q.width (entries p d.table i j) il jl);
}

-- ---- before any pivot
module _ (p : ℕ) (d : Dense) (q : Table) (rows columns : ℕ) (rows_are : rows ≡ height q)
    (columns_are : columns ≡ q.width) (rows_q : sparse_rows d.table.q ≡ height q) (width_q : d.table.q.width ≡ q.width)
    (same : number_in d.table.q ≡ entry q)
    (base_is : d.base ≡ record {
      columns = replicate rows None;
      rows = replicate columns None;
      takes = 0;
      row_room = 0;
      column_room = 0;
    }) where
  empty : (y : ℕ) → is_base d.base y ≡ false
  empty y = no_column columns y d.base.rows (ap (λ (b : BaseLists). b.rows) base_is)

  pub opened-dense : IsDense p d
  opened-dense = record {
    base_rows = ap (λ (b : BaseLists). length b.columns) base_is ∙ length-replicate rows None ∙ rows_are
        ∙ sym rows_q;
    base_columns = ap (λ (b : BaseLists). length b.rows) base_is ∙ length-replicate columns None ∙ columns_are
        ∙ sym width_q;
    unit_columns = record {
      row_below = λ y _ h. absurd (differ y h);
      one = λ y _ h. absurd (differ y h);
      zero = λ y i _ h. absurd (differ y h);
      distinct = λ y c _ _ h. absurd (differ y h);
    };
    basic = λ y _ h. absurd (differ y h);
  }
    where
      differ : (y : ℕ) → is_base d.base y ≡ true → ⊥
      differ y h = let e : is_base d.base y ≡ false = empty y in cc

  pub opened-state : p_part p d.table ≡ entry q →
      ((i j : ℕ) → i < height q → j < height q → s_part p d.table i j ≡ identity i j) →
      ((i j : ℕ) → i < height q → j < height q → u_part d.table i j ≡ identity i j) →
      IsOpened p (height q) q.width (entry q) (dense_state p d)
  opened-state p_is s_is u_is = record {
    rows_are = rows_q;
    columns_are = width_q;
    q_is = λ i j il jl. ap (λ (a : ℕ → ℕ → ℕ). a i j % p) same;
    p_is = p_is;
    s_is = s_is;
    u_is = u_is;
    no_base = empty;
  }

-- entries that are listed for q are so for P
pub opened-listed : (p : ℕ) (t : Combined) (q : Table) (b : Bits) → sparse_rows t.q ≡ height q → t.q.width ≡ q.width → p_part p t ≡ entry q →
    AreRowsListed (height q) q.width (λ i j. entry q i j ≢ 0) b →
    AreEntriesListed p (sparse_rows t.q) t.q.width (p_part p t) b
opened-listed p t q b rows width p_is listed =
    subst (λ m. AreEntriesListed p m t.q.width (p_part p t) b) (sym rows)
    (subst (λ w. AreEntriesListed p (height q) w (p_part p t) b) (sym width)
    (subst (λ a. AreEntriesListed p (height q) q.width a b) (sym p_is)
    (listed-entries p (height q) q.width (entry q) b listed)))

-- ---- a pivot
module _ (p : ℕ) (d : Dense) (table : Combined) (base : BaseLists) (r v : ℕ) (dense : IsDense p d)
    (same : table.q ≡ d.table.q)
    (pivoted : IsPivoted p (sparse_rows d.table.q) d.table.q.width (p_part p d.table) (p_part p table) r v)
    (taken : IsBaseTaken (length d.base.rows) (is_base d.base) (base_row d.base) (is_base base) (base_row base) r v) where
  taken_at : IsBaseTaken d.table.q.width (is_base d.base) (base_row d.base) (is_base base) (base_row base) r v
  taken_at = subst (λ n. IsBaseTaken n (is_base d.base) (base_row d.base) (is_base base) (base_row base) r v)
      dense.base_columns taken

  pub pivoted-dense : r < sparse_rows d.table.q → length base.columns ≡ length d.base.columns →
      length base.rows ≡ length d.base.rows →
      ((i : ℕ) → i < sparse_rows d.table.q → basic_of table i ≡ cond (eqb i r) v (basic_of d.table i)) → IsDense p (record {
        table = table;
        base = base;
        row_room = d.row_room;
        column_room = d.column_room;
      })
  pivoted-dense rl rows columns basic = record {
    base_rows = rows ∙ dense.base_rows ∙ sym (ap sparse_rows same);
    base_columns = columns ∙ dense.base_columns ∙ sym (ap (λ (m : SparseTable). m.width) same);
    unit_columns =
        subst (λ (m : SparseTable). IsBase p (p_part p table) (sparse_rows m) m.width (is_base base) (base_row base)) (sym same)
        (base-taken p (p_part p d.table) (p_part p table) (sparse_rows d.table.q) d.table.q.width (is_base d.base)
        (is_base base) (base_row d.base) (base_row base) r v pivoted rl taken_at dense.unit_columns);
    basic = λ y yk h. let yl : y < d.table.q.width = subst (λ (m : SparseTable). y < m.width) same yk in elim (nat_cases y v) [
      | inl q ↦ ap (λ z. basic_of table (base_row base z)) q ∙ ap (basic_of table) taken_at.at_row ∙ basic r rl ∙ here r ∙ sym q
      | inr ne ↦ let old = taken_at.only y yl ne h in
          ap (basic_of table) old.2 ∙ basic (base_row d.base y) (dense.unit_columns.row_below y yl old.0)
          ∙ other (base_row d.base y) (basic_of d.table (base_row d.base y)) old.1 ∙ dense.basic y yl old.0
    ];
  }
    where
      here : (i : ℕ) → cond (eqb i i) v (basic_of d.table i) ≡ v
      here i = grind (arith, nat_tests)

      other : (i x : ℕ) → i ≢ r → cond (eqb i r) v x ≡ x
      other i x ne = grind (arith, nat_tests)

  pub pivoted-state : IsPivot p (dense_state p d) (dense_state p (record {
    table = table;
    base = base;
    row_room = d.row_room;
    column_room = d.column_room;
  })) r v
  pivoted-state = record {
    rows_same = ap sparse_rows same;
    columns_same = ap (λ (m : SparseTable). m.width) same;
    q_same = ap number_in same;
    pivoted = pivoted;
    taken = taken_at;
  }

-- ---- a column leaves the base
pub dropped-dense : (p : ℕ) (d : Dense) (now : BaseLists) (v : ℕ) → IsDense p d →
    length now.columns ≡ length d.base.columns → length now.rows ≡ length d.base.rows →
    IsBaseDropped (length d.base.rows) (is_base d.base) (base_row d.base) (is_base now) (base_row now) v →
    IsDense p (record d { base = now })
dropped-dense p d now v dense rows columns dropped = record {
  base_rows = rows ∙ dense.base_rows;
  base_columns = columns ∙ dense.base_columns;
  unit_columns = base-dropped p (p_part p d.table) (sparse_rows d.table.q) d.table.q.width (is_base d.base) (is_base now)
      (base_row d.base) (base_row now) v
      (subst (λ n. IsBaseDropped n (is_base d.base) (base_row d.base) (is_base now) (base_row now) v) dense.base_columns
      dropped) dense.unit_columns;
  basic = λ y yl h. elim (nat_cases y v) [
    | inl q ↦ absurd (gone (ap (is_base now) (sym q) ∙ h))
    | inr ne ↦ ap (basic_of d.table) (dropped.rows y (omega (arith, dense.base_columns, yl)) ne)
        ∙ dense.basic y yl (sym (dropped.others y (omega (arith, dense.base_columns, yl)) ne) ∙ h)
  ];
}
  where
    gone : is_base now v ≡ true → ⊥
    gone h = differ dropped.gone h
