-- A sparse tableau as it is kept: that its operations keep it a tableau, and what they show of it.
use Rattle.std.proofs.Common.{◌≡◌, ℕ, ◌%◌, ◌<◌, ◌≢◌, true, false, inl, inr, refl, sym, subst, ap, ◌∙◌, arith, length, replicate, None}
use Rattle.std.proofs.Math.Path.{fun_ext}
use Rattle.std.proofs.lemmas.List.{length-replicate}
use Rattle.std.proofs.lemmas.Bool.Decides.{nat_tests}
use Rattle.residue_theory.specs.Residues.{IsPrime}
use Rattle.residue_theory.proofs.SumLaws.{nat_cases}
use Rattle.linear_algebra.specs.Bases.{IsBase, IsBaseTaken}
use Rattle.linear_algebra.specs.Products.{identity, transposed, product, Agree, IsInverse}
use Rattle.linear_algebra.specs.RowOperations.{IsPivoted}
use Rattle.dense_q.specs.Tables.{Table, height, entry, IsTableOf}
use Rattle.sparse_q.specs.Tables.{SparseTable, sparse_rows, number_in, HasSize, IsRowSet}
use Rattle.row_transform.specs.Bases.{BaseLists, is_base, base_row, IsBaseDropped}
use Rattle.row_transform.specs.Edits.{KeepsZeroColumns, Room}
use Rattle.row_transform.specs.Tableaus.{IsTableau, IsPivot, IsOpened, AreTableauParts}
use Rattle.row_transform.proofs.TableauLaws.{base-taken, base-dropped, no_column}
use Rattle.row_table.specs.Reductions.{IsReduced, with_column_as}
use Rattle.sparse_tableau.proofs.OpenLaws.{opened-inverse, opened-product}
use Rattle.sparse_tableau.proofs.TransformLaws.{reduced-zero}
use Rattle.sparse_tableau.specs.Sparse.{Sparse, IsSparse, sparse_state}
use Rattle.row_table.proofs.ReductionLaws.{first-inverse, reduced-pivoted}

column-same : (a : ℕ → ℕ → ℕ) (r i : ℕ) (x : ℕ → ℕ) → with_column_as a r x i r ≡ x i
column-same a r i x = grind (arith, nat_tests)

column-other : (a : ℕ → ℕ → ℕ) (r i t : ℕ) (x : ℕ → ℕ) → t ≢ r → with_column_as a r x i t ≡ a i t
column-other a r i t x ne = grind (arith, nat_tests)

-- ---- before any operation
module _ (p : ℕ) (m n : ℕ) (of : Table) (q pp s v : SparseTable) (base : BaseLists) (room : Room) (m_is : m ≡ height of)
    (n_is : n ≡ of.width)
    (p_size : HasSize (height of) of.width pp) (p_is : number_in pp ≡ entry of)
    (q_size : HasSize of.width (height of) q) (q_is : number_in q ≡ transposed (entry of))
    (s_size : HasSize m m s) (s_is : (i j : ℕ) → i < m → number_in s i j ≡ identity i j) (v_size : HasSize m m v)
    (v_is : (i j : ℕ) → i < m → number_in v i j ≡ identity i j)
    (base_is : base ≡ record { columns = replicate m None; rows = replicate n None; takes = 0; row_room = 0; column_room = 0 }) where
  start : Sparse
  start = record { q = q; p = pp; s = s; v = v; base = base; room = room }

  rows_are : sparse_rows pp ≡ m
  rows_are = p_size.rows_are ∙ sym m_is

  columns_are : pp.width ≡ n
  columns_are = p_size.width_is ∙ sym n_is

  none : (y : ℕ) → is_base base y ≡ false
  none y = no_column n y base.rows (ap (λ (b : BaseLists). b.rows) base_is)

  same_q : (λ i j. number_in q j i) ≡ entry of
  same_q = ap transposed q_is

  state_is : IsTableau p (sparse_state start)
  unfolding start
  state_is = record {
    product_is = subst (λ h. Agree p h pp.width (number_in pp) (product h (number_in s) (λ i j. number_in q j i)))
        (sym rows_are) (opened-product p m pp.width (λ i j. number_in q j i) (number_in pp) (number_in s) (p_is ∙ sym same_q) alike);
    inverse =
        subst (λ h. IsInverse p h (number_in s) (λ i j. number_in v j i)) (sym rows_are)
        (opened-inverse p m (number_in s) (number_in v) alike (λ i j il jl. v_is i j il));
    unit_columns = record {
      row_below = λ y _ h. absurd (differ y h);
      one = λ y _ h. absurd (differ y h);
      zero = λ y i _ h. absurd (differ y h);
      distinct = λ y c _ _ h. absurd (differ y h);
    };
  }
    where
      alike : (i j : ℕ) → i < m → j < m → number_in s i j ≡ identity i j
      alike i j il jl = s_is i j il

      differ : (y : ℕ) → is_base base y ≡ true → ⊥
      differ y h = let e : is_base base y ≡ false = none y in cc

  pub opened-sparse : IsSparse p (record { q = q; p = pp; s = s; v = v; base = base; room = room })
  unfolding start
  opened-sparse = record {
    q_size = record {
      rows_are = q_size.rows_are ∙ sym p_size.width_is;
      width_is = q_size.width_is
          ∙ sym p_size.rows_are;
    };
    s_size = record { rows_are = s_size.rows_are ∙ sym rows_are; width_is = s_size.width_is ∙ sym rows_are };
    v_size = record { rows_are = v_size.rows_are ∙ sym rows_are; width_is = v_size.width_is ∙ sym rows_are };
    base_rows = ap (λ (b : BaseLists). length b.columns) base_is ∙ length-replicate m None ∙ sym rows_are;
    base_columns = ap (λ (b : BaseLists). length b.rows) base_is ∙ length-replicate n None ∙ sym columns_are;
    tableau = state_is;
  }

  pub opened-state : IsOpened p (height of) of.width (entry of)
      (sparse_state (record { q = q; p = pp; s = s; v = v; base = base; room = room }))
  opened-state = record {
    rows_are = p_size.rows_are;
    columns_are = p_size.width_is;
    q_is = λ i j il jl. ap (λ (a : ℕ → ℕ → ℕ). a i j % p) same_q;
    p_is = p_is;
    s_is = λ i j il jl. s_is i j (omega arith);
    u_is = λ i j il jl. v_is j i (omega arith) ∙ turned j i;
    no_base = none;
  }
    where
      turned : (i j : ℕ) → identity i j ≡ identity j i
      turned i j = grind (arith, nat_tests)

-- ---- a pivot: q, the columns of Q, stays, and row r of v becomes its row c
module _ (p : ℕ) (prime : IsPrime p) (q pp s v pn sn vn : SparseTable) (base now : BaseLists) (room : Room) (r c : ℕ)
    (kept : IsSparse p (record { q = q; p = pp; s = s; v = v; base = base; room = room }))
    (rl : r < sparse_rows pp) (cl : c < pp.width) (some : number_in pp r c % p ≢ 0)
    (p_size : HasSize (sparse_rows pp) pp.width pn) (s_size : HasSize (sparse_rows s) s.width sn)
    (p_reduced : IsReduced p (sparse_rows pp) pp.width (number_in pp) (number_in pn) r (λ i. number_in pp i c))
    (s_reduced : IsReduced p (sparse_rows s) s.width (number_in s) (number_in sn) r (λ i. number_in pp i c))
    (v_set : IsRowSet v vn r (number_in q c))
    (taken : IsBaseTaken (length base.rows) (is_base base) (base_row base) (is_base now) (base_row now) r c) where
  abbrev m : ℕ
  m = sparse_rows pp

  abbrev n : ℕ
  n = pp.width

  pub pivot-pivoted : IsPivoted p m n (number_in pp) (number_in pn) r c
  pivot-pivoted = reduced-pivoted p prime m n (number_in pp) (number_in pn) r c rl cl some p_reduced

  taken_at : IsBaseTaken n (is_base base) (base_row base) (is_base now) (base_row now) r c
  taken_at = subst (λ k. IsBaseTaken k (is_base base) (base_row base) (is_base now) (base_row now) r c) kept.base_columns
      taken

  on_s : IsReduced p m m (number_in s) (number_in sn) r (λ i. number_in pp i c)
  on_s = subst (λ h. IsReduced p h m (number_in s) (number_in sn) r (λ i. number_in pp i c)) kept.s_size.rows_are
      (subst (λ w. IsReduced p (sparse_rows s) w (number_in s) (number_in sn) r (λ i. number_in pp i c))
      kept.s_size.width_is s_reduced)

  -- U with column c of Q for its column r
  new_u : (λ i j. number_in vn j i) ≡ with_column_as (λ i j. number_in v j i) r (λ i. number_in q c i)
  new_u = fun_ext (λ i. fun_ext (λ j. elim (nat_cases j r) [
    | inl e ↦ subst (λ k. number_in vn k i ≡ with_column_as (λ x y. number_in v y x) r (λ x. number_in q c x) i k)
        (sym e) (v_set.changed i ∙ sym (column-same (λ x y. number_in v y x) r i (λ x. number_in q c x)))
    | inr ne ↦ v_set.others j i ne ∙ sym (column-other (λ x y. number_in v y x) r i j (λ x. number_in q c x) ne)
  ]))

  new : IsInverse p m (number_in sn) (with_column_as (λ i j. number_in v j i) r (λ i. number_in q c i)) × Agree p m n
      (number_in pn) (product m (number_in sn) (λ i j. number_in q j i))
  new = first-inverse p prime m n (λ i j. number_in q j i) (number_in s) (λ i j. number_in v j i) (number_in pp)
      (number_in sn) (number_in pn) r c rl cl kept.tableau.product_is kept.tableau.inverse p_reduced on_s

  pub pivoted-sparse : length now.columns ≡ length base.columns → length now.rows ≡ length base.rows →
      IsSparse p (record { q = q; p = pn; s = sn; v = vn; base = now; room = room })
  pivoted-sparse rows columns = record {
    q_size = record {
      rows_are = kept.q_size.rows_are ∙ sym p_size.width_is;
      width_is = kept.q_size.width_is
          ∙ sym p_size.rows_are;
    };
    s_size = record {
      rows_are = s_size.rows_are ∙ kept.s_size.rows_are ∙ sym p_size.rows_are;
      width_is =
          s_size.width_is ∙ kept.s_size.width_is ∙ sym p_size.rows_are;
    };
    v_size = record {
      rows_are = v_set.size.rows_are ∙ kept.v_size.rows_are ∙ sym p_size.rows_are;
      width_is =
          v_set.size.width_is ∙ kept.v_size.width_is ∙ sym p_size.rows_are;
    };
    base_rows = rows ∙ kept.base_rows ∙ sym p_size.rows_are;
    base_columns = columns ∙ kept.base_columns ∙ sym p_size.width_is;
    tableau = record {
      product_is = subst (λ h. Agree p h pn.width (number_in pn) (product h (number_in sn) (λ i j. number_in q j i)))
          (sym p_size.rows_are)
          (subst (λ w. Agree p m w (number_in pn) (product m (number_in sn) (λ i j. number_in q j i)))
          (sym p_size.width_is) new.1);
      inverse = subst (λ h. IsInverse p h (number_in sn) (λ i j. number_in vn j i)) (sym p_size.rows_are)
          (subst (λ u. IsInverse p m (number_in sn) u) (sym new_u) new.0);
      unit_columns = subst (λ h. IsBase p (number_in pn) h pn.width (is_base now) (base_row now)) (sym p_size.rows_are)
          (subst (λ w. IsBase p (number_in pn) m w (is_base now) (base_row now)) (sym p_size.width_is)
          (base-taken p (number_in pp) (number_in pn) m n (is_base base) (is_base now) (base_row base) (base_row now) r c
          pivot-pivoted rl taken_at kept.tableau.unit_columns));
    };
  }

  pub pivoted-state : IsPivot p (sparse_state (record { q = q; p = pp; s = s; v = v; base = base; room = room }))
      (sparse_state (record { q = q; p = pn; s = sn; v = vn; base = now; room = room })) r c
  pivoted-state = record {
    rows_same = p_size.rows_are;
    columns_same = p_size.width_is;
    q_same = refl;
    pivoted = pivot-pivoted;
    taken = taken_at;
  }

  -- the columns of S that are zero in row r stay
  pub zero-columns : KeepsZeroColumns p m (number_in s) (number_in sn) r
  zero-columns = reduced-zero p prime m m (number_in s) (number_in sn) r (λ i. number_in pp i c) rl some on_s

-- ---- a column leaves the base
pub dropped-sparse : (p : ℕ) (t : Sparse) (now : BaseLists) (c : ℕ) → IsSparse p t → length now.columns ≡ length
    t.base.columns → length now.rows ≡ length t.base.rows →
    IsBaseDropped (length t.base.rows) (is_base t.base) (base_row t.base) (is_base now) (base_row now) c →
    IsSparse p (record t { base = now })
dropped-sparse p t now c kept rows columns dropped = record {
  q_size = kept.q_size;
  s_size = kept.s_size;
  v_size = kept.v_size;
  base_rows = rows ∙ kept.base_rows;
  base_columns = columns ∙ kept.base_columns;
  tableau = record {
    product_is = kept.tableau.product_is;
    inverse = kept.tableau.inverse;
    unit_columns = base-dropped p (number_in t.p) (sparse_rows t.p) t.p.width (is_base t.base) (is_base now)
        (base_row t.base) (base_row now) c
        (subst (λ k. IsBaseDropped k (is_base t.base) (base_row t.base) (is_base now) (base_row now) c) kept.base_columns
        dropped) kept.tableau.unit_columns;
  };
}

-- ---- the matrices with all their entries; w has those of v, and u is w turned
pub parts-are : (p : ℕ) (t : Sparse) (s w u a : Table) → IsSparse p t → IsTableOf (sparse_rows t.s) t.s.width
    (number_in t.s) s → IsTableOf (sparse_rows t.v) t.v.width (number_in t.v) w →
    IsTableOf w.width (height w) (λ i j. entry w j i) u → IsTableOf (sparse_rows t.p) t.p.width (number_in t.p) a →
    AreTableauParts (sparse_state t) s u a
parts-are p t s w u a kept s_is w_is u_is a_is = record {
  s_height = s_is.height_is ∙ kept.s_size.rows_are;
  s_width = s_is.width_is ∙ kept.s_size.width_is;
  s_entries = λ i j il jl. s_is.entries i j (subst (λ k. i < k) (sym kept.s_size.rows_are) il)
      (subst (λ k. j < k) (sym kept.s_size.width_is) jl);
  u_height = u_is.height_is ∙ w_is.width_is ∙ kept.v_size.width_is;
  u_width = u_is.width_is ∙ w_is.height_is ∙ kept.v_size.rows_are;
  u_entries = λ i j il jl.
      u_is.entries i j (subst (λ k. i < k) (sym (w_is.width_is ∙ kept.v_size.width_is)) il)
      (subst (λ k. j < k) (sym (w_is.height_is ∙ kept.v_size.rows_are)) jl)
      ∙ w_is.entries j i (subst (λ k. j < k) (sym kept.v_size.rows_are) jl)
      (subst (λ k. i < k) (sym kept.v_size.width_is) il);
  p_height = a_is.height_is;
  p_width = a_is.width_is;
  p_entries = a_is.entries;
}
