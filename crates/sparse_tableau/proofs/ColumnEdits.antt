-- A column joins a sparse tableau, or leaves it.
use Rattle.std.proofs.Common.{◌≡◌, ℕ, ◌+◌, ◌-◌, ◌*◌, ◌%◌, ◌<◌, ◌≤◌, ◌≢◌, Bool, true, false, inl, inr, refl, sym, subst, ap, ◌∙◌, arith, length}
use Rattle.std.proofs.Math.Nat.{zero-mod}
use Rattle.std.proofs.Math.Path.{fun_ext}
use Rattle.residue_theory.specs.Sets.{everything}
use Rattle.residue_theory.proofs.SumLaws.{nat_cases}
use Rattle.residue_theory.proofs.ResidueLaws.{vanishes-mul, vanishes-sum}
use Rattle.linear_algebra.specs.Bases.{IsBase}
use Rattle.linear_algebra.specs.Parts.{skip, unskip, without_column}
use Rattle.linear_algebra.specs.Products.{product, Agree, IsInverse}
use Rattle.linear_algebra_laws.proofs.SkipLaws.{skip-below, skip-unskip, unskip-below}
use Rattle.bit_table.specs.Bits.{Bits, bit_in}
use Rattle.sparse_q.specs.Tables.{SparseTable, sparse_rows, number_in, HasSize, IsColumnTaken}
use Rattle.row_transform.specs.Bases.{BaseLists, is_base, base_row, IsBaseColumnIn, IsBaseColumnOut}
use Rattle.row_transform.specs.Edits.{Room}
use Rattle.row_transform.specs.Entries.{IsColumnListedIn, IsColumnListedOut}
use Rattle.tableau_edit_laws.specs.Laws.{ColumnsJoinTableaus, ColumnsLeaveTableaus}
use Rattle.sparse_tableau.specs.Listings.{AreSparseEntriesListed}
use Rattle.sparse_tableau.specs.Joins.{IsEmptyRowIn, IsEmptyColumnIn}
use Rattle.sparse_tableau.specs.Leaves.{IsRowGone}
use Rattle.sparse_tableau.specs.Sparse.{Sparse, IsSparse}

-- ---- a sparse tableau, with its sizes told beside it
pub record IsSparseAt (p m n : ℕ) (t : Sparse) : Type 0 where
  pub q_size : HasSize n m t.q
  pub s_size : HasSize m m t.s
  pub v_size : HasSize m m t.v
  pub base_rows : length t.base.columns ≡ m
  pub base_columns : length t.base.rows ≡ n
  pub product_is : Agree p m n (number_in t.p) (product m (number_in t.s) (λ i j. number_in t.q j i))
  pub inverse : IsInverse p m (number_in t.s) (λ i j. number_in t.v j i)
  pub unit_columns : IsBase p (number_in t.p) m n (is_base t.base) (base_row t.base)

pub sparse-at : (p m n : ℕ) (t : Sparse) → sparse_rows t.p ≡ m → t.p.width ≡ n → IsSparseAt p m n t → IsSparse p t
sparse-at p m n t rows columns at = go (subst (λ k. IsSparseAt p k t.p.width t) (sym rows) (subst (λ k. IsSparseAt p m k t) (sym columns) at))
  where
    go : IsSparseAt p (sparse_rows t.p) t.p.width t → IsSparse p t
    go k = record {
      q_size = k.q_size;
      s_size = k.s_size;
      v_size = k.v_size;
      base_rows = k.base_rows;
      base_columns = k.base_columns;
      tableau = record { product_is = k.product_is; inverse = k.inverse; unit_columns = k.unit_columns };
    }

-- ---- a column joins
module _ (p : ℕ) (law : ColumnsJoinTableaus) (q pp s v : SparseTable) (base : BaseLists) (room : Room) (a : Bits)
    (kept : IsSparse p (record { q = q; p = pp; s = s; v = v; base = base; room = room }))
    (listed : AreSparseEntriesListed p pp a) (e : ℕ) (el : e ≤ pp.width) (qn pn : SparseTable) (now : BaseLists) (b : Bits)
    (q_row : IsEmptyRowIn q qn e) (p_column : IsEmptyColumnIn pp pn e) (based : IsBaseColumnIn base now e)
    (bits : IsColumnListedIn pp.width a b e) (fits : pp.width + 1 ≤ a.rows) where
  joined : Agree p (sparse_rows pp) (pp.width + 1) (number_in pn) (product (sparse_rows pp) (number_in s) (λ i j. number_in qn j i))
      × IsBase p (number_in pn) (sparse_rows pp) (pp.width + 1) (is_base now) (base_row now)
  joined = law p (sparse_rows pp) pp.width (λ i j. number_in q j i) (λ i j. number_in qn j i) (number_in s) (number_in pp)
      (number_in pn) (is_base base) (is_base now) (base_row base) (base_row now) e el kept.tableau.product_is
      (record {
        here = λ i il. ap (λ y. y % p) (q_row.here i) ∙ zero-mod p;
        others = λ i j il jl. ap (λ y. y % p) (q_row.others j i);
      })
      (record {
        here = λ i il. ap (λ y. y % p) (p_column.here i) ∙ zero-mod p;
        others = λ i j il jl. ap (λ y. y % p) (p_column.others i j);
      })
      kept.tableau.unit_columns (λ j jl. based.base_same j) (λ j jl h. based.row_same j) based.no_base

  pub column-joined : IsSparse p (record { q = qn; p = pn; s = s; v = v; base = now; room = room })
  column-joined = sparse-at p (sparse_rows pp) (pp.width + 1) (record { q = qn; p = pn; s = s; v = v; base = now; room = room })
      p_column.size.rows_are p_column.size.width_is (record {
        q_size = record {
          rows_are = q_row.size.rows_are ∙ ap (λ k. k + 1) kept.q_size.rows_are;
          width_is = q_row.size.width_is ∙ kept.q_size.width_is;
        };
        s_size = kept.s_size;
        v_size = kept.v_size;
        base_rows = based.rows_same ∙ kept.base_rows;
        base_columns = based.columns_are ∙ ap (λ k. k + 1) kept.base_columns;
        product_is = joined.0;
        inverse = kept.tableau.inverse;
        unit_columns = joined.1;
      })

  pub column-listed : AreSparseEntriesListed p pn b
  column-listed = record {
    size = record {
      columns_fit = omega (arith, fits, p_column.size.width_is, bits.size.rows_same);
      rows_fit = omega (arith, listed.size.rows_fit, p_column.size.rows_are, bits.size.size_same);
    };
    listed = λ i j il jl ne. elim (nat_cases j e) [
      | inl z ↦ absurd (ne (ap (λ k. number_in pn i k % p) z ∙ ap (λ y. y % p) (p_column.here i) ∙ zero-mod p))
      | inr other ↦ told i j (subst (λ k. i < k) p_column.size.rows_are il) (subst (λ k. j < k) p_column.size.width_is jl) other ne
    ];
  }
    where
      told : (i j : ℕ) → i < sparse_rows pp → j < pp.width + 1 → j ≢ e → number_in pn i j % p ≢ 0 → bit_in b j i ≡ true
      told i j il jl other ne =
          let back : skip e (unskip e j) ≡ j = skip-unskip e j other in
          let below : unskip e j < pp.width = omega (arith, unskip-below e j (pp.width + 1) (omega (arith, el)) jl other) in
          subst (λ k. bit_in b k i ≡ true) back (bits.others i (unskip e j) (omega (arith, il, listed.size.rows_fit)) below
          ∙ listed.listed i (unskip e j) il below (λ z. ne (ap (λ k. number_in pn i k % p) (sym back)
          ∙ ap (λ y. y % p) (p_column.others i (unskip e j)) ∙ z)))

-- ---- a column leaves
-- a column that is zero in Q is no base column
pub zero-no_base : (p : ℕ) (t : Sparse) (e : ℕ) → IsSparse p t → e < t.p.width →
    ((i : ℕ) → i < sparse_rows t.p → number_in t.q e i % p ≡ 0) → is_base t.base e ≡ false
zero-no_base p t e kept el zeros = decide (is_base t.base e) refl
  where
    wrong : is_base t.base e ≡ true → ⊥
    wrong h =
        let r = base_row t.base e in
        let rl = kept.tableau.unit_columns.row_below e el h in
        let none : number_in t.p r e % p ≡ 0 =
        kept.tableau.product_is r e rl el ∙ vanishes-sum p everything (sparse_rows t.p) (λ k. number_in t.s r k * number_in t.q e k)
        (λ k kl _. vanishes-mul p (number_in t.s r k) (number_in t.q e k) (zeros k kl)) in
        let one : number_in t.p r e % p ≡ 1 = kept.tableau.unit_columns.one e el h in
        omega (arith, none, one)

    decide : (b : Bool) → is_base t.base e ≡ b → b ≡ false
    decide true h = absurd (wrong h)
    decide false h = refl

module _ (p : ℕ) (law : ColumnsLeaveTableaus) (q pp s v : SparseTable) (base : BaseLists) (room : Room) (a : Bits)
    (kept : IsSparse p (record { q = q; p = pp; s = s; v = v; base = base; room = room }))
    (listed : AreSparseEntriesListed p pp a) (e : ℕ) (el : e < pp.width) (qn pn : SparseTable) (now : BaseLists) (b : Bits)
    (q_row : IsRowGone q qn e) (p_column : IsColumnTaken pp pn e) (based : IsBaseColumnOut base now e)
    (bits : IsColumnListedOut pp.width a b e) (none : is_base base e ≡ false) where
  left : Agree p (sparse_rows pp) (pp.width - 1) (without_column e (number_in pp))
      (product (sparse_rows pp) (number_in s) (without_column e (λ i j. number_in q j i)))
      × IsBase p (without_column e (number_in pp)) (sparse_rows pp) (pp.width - 1) (λ y. is_base base (skip e y)) (λ y. base_row base (skip e y))
  left = law p (sparse_rows pp) pp.width (λ i j. number_in q j i) (number_in s) (number_in pp) (is_base base) (base_row base) e el
      kept.tableau.product_is kept.tableau.unit_columns none

  p_is : without_column e (number_in pp) ≡ number_in pn
  p_is = fun_ext (λ i. fun_ext (λ j. sym (p_column.numbers i j)))

  q_is : without_column e (λ i j. number_in q j i) ≡ (λ i j. number_in qn j i)
  q_is = fun_ext (λ i. fun_ext (λ j. sym (q_row.numbers j i)))

  columns_are : pn.width ≡ pp.width - 1
  columns_are = omega (arith, p_column.width_less)

  pub column-left : IsSparse p (record { q = qn; p = pn; s = s; v = v; base = now; room = room })
  column-left = sparse-at p (sparse_rows pp) (pp.width - 1) (record { q = qn; p = pn; s = s; v = v; base = now; room = room })
      p_column.rows_same columns_are (record {
        q_size = record {
          rows_are = omega (arith, q_row.rows_are, kept.q_size.rows_are);
          width_is = q_row.width_same ∙ kept.q_size.width_is;
        };
        s_size = kept.s_size;
        v_size = kept.v_size;
        base_rows = based.rows_same ∙ kept.base_rows;
        base_columns = omega (arith, based.columns_are, kept.base_columns);
        product_is = subst (λ P. Agree p (sparse_rows pp) (pp.width - 1) P (product (sparse_rows pp) (number_in s) (λ i j. number_in qn j i)))
            p_is (subst (λ Q. Agree p (sparse_rows pp) (pp.width - 1) (without_column e (number_in pp)) (product (sparse_rows pp) (number_in s) Q))
            q_is left.0);
        inverse = kept.tableau.inverse;
        unit_columns = subst (λ P. IsBase p P (sparse_rows pp) (pp.width - 1) (is_base now) (base_row now)) p_is
            (subst (λ B. IsBase p (without_column e (number_in pp)) (sparse_rows pp) (pp.width - 1) B (base_row now))
            (fun_ext (λ y. sym (based.base_same y)))
            (subst (λ row. IsBase p (without_column e (number_in pp)) (sparse_rows pp) (pp.width - 1) (λ y. is_base base (skip e y)) row)
            (fun_ext (λ y. sym (based.row_same y))) left.1));
      })

  pub column-listed_out : AreSparseEntriesListed p pn b
  column-listed_out = record {
    size = record {
      columns_fit = omega (arith, listed.size.columns_fit, p_column.width_less, bits.size.rows_same);
      rows_fit = omega (arith, listed.size.rows_fit, p_column.rows_same, bits.size.size_same);
    };
    listed = λ i j il jl ne.
        let ip : i < sparse_rows pp = subst (λ k. i < k) p_column.rows_same il in
        let jp : j + 1 < pp.width = omega (arith, jl, p_column.width_less) in
        bits.others i j (omega (arith, ip, listed.size.rows_fit)) jp
        ∙ listed.listed i (skip e j) ip (skip-below e j pp.width el (omega (arith, jp)))
        (λ z. ne (ap (λ y. y % p) (p_column.numbers i j) ∙ z));
  }
