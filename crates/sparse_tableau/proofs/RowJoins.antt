-- A row joins a sparse tableau.
use Rattle.std.proofs.Common.{◌≡◌, ℕ, ◌+◌, ◌-◌, ◌*◌, ◌%◌, ◌<◌, ◌≤◌, ◌≢◌, true, inl, inr, refl, sym, subst, ap, ◌∙◌, arith}
use Rattle.std.proofs.Math.Nat.{zero-mod, mod-eq_of_lt}
use Rattle.residue_theory.specs.Residues.{IsPrime}
use Rattle.residue_theory.specs.Sets.{everything}
use Rattle.residue_theory.specs.Sums.{sum_below}
use Rattle.residue_theory.proofs.SumLaws.{nat_cases, sum_on-ext}
use Rattle.residue_theory.proofs.ResidueLaws.{lacks}
use Rattle.linear_algebra.specs.Bases.{IsBase}
use Rattle.linear_algebra.specs.Parts.{skip, unskip}
use Rattle.linear_algebra.specs.Products.{product, Agree, IsInverse}
use Rattle.linear_algebra_laws.proofs.SkipLaws.{skip-first, skip-other, skip-unskip, unskip-below}
use Rattle.bit_table.specs.Bits.{Bits, bit_in, IsBitSet}
use Rattle.sparse_q.specs.Tables.{SparseTable, sparse_rows, number_in}
use Rattle.row_transform.specs.Bases.{BaseLists, is_base, base_row, IsBaseRowIn}
use Rattle.row_transform.specs.Edits.{Room, IsWithRow}
use Rattle.row_transform.specs.Entries.{HasTableSize, IsColumnListedIn}
use Rattle.row_transform.proofs.EntryLaws.{set-keeps}
use Rattle.row_transform.proofs.TableauLaws.{base-part}
use Rattle.tableau_edit_laws.specs.Edits.{IsRowIn, IsRowJoined}
use Rattle.tableau_edit_laws.specs.Laws.{RowsJoinTableaus, BasesKeepAJoinedRow}
use Rattle.sparse_tableau.specs.Listings.{AreNumbersListed, AreSparseEntriesListed}
use Rattle.sparse_tableau.specs.Joins.{HasRowsApart, IsColumnPut, IsEmptyColumnIn, IsEmptyRowIn, IsJoinedTo, IsRowPut, IsUnitIn}
use Rattle.sparse_tableau.specs.Sparse.{IsSparse, sparse_state}
use Rattle.sparse_tableau.proofs.ColumnEdits.{sparse-at}
use Rattle.sparse_tableau.proofs.ReduceLaws.{sum-none}

-- the base columns of a sparse tableau have rows of their own
pub rows-apart : (p : ℕ) (a : ℕ → ℕ → ℕ) (m n : ℕ) (base : BaseLists) → IsBase p a m n (is_base base) (base_row base) → HasRowsApart m n base
rows-apart p a m n base B = record { below = B.row_below; distinct = B.distinct }

-- a unit that joins a matrix of m rows
record HasUnit (m : ℕ) (a b : SparseTable) (v : ℕ) : Type 0 where
  corner : number_in b m v ≡ 1
  row : (j : ℕ) → number_in b m (skip v j) ≡ 0
  column : (i : ℕ) → i < m → number_in b i v ≡ 0
  others : (i j : ℕ) → i < m → number_in b i (skip v j) ≡ number_in a i j

has-unit : (m : ℕ) (a b : SparseTable) (v : ℕ) → sparse_rows a ≡ m → IsUnitIn a b v → HasUnit m a b v
has-unit m a b v e U = subst (λ k. HasUnit k a b v) e (record { corner = U.corner; row = U.row; column = U.column; others = U.others })

module _ (p : ℕ) (prime : IsPrime p) (q pp s v : SparseTable) (base : BaseLists) (room : Room) (a b : Bits)
    (kept : IsSparse p (record { q = q; p = pp; s = s; v = v; base = base; room = room })) (e : ℕ) (x : ℕ → ℕ)
    (el : e ≤ sparse_rows pp)
    (q1 q2 p1 p2 pn s1 sn v1 vn : SparseTable) (now : BaseLists) (b1 b2 bn : Bits)
    (q_column : IsEmptyColumnIn q q1 e) (q_put : IsColumnPut q1 q2 e x)
    (p_row : IsEmptyRowIn pp p1 (sparse_rows pp)) (p_put : IsRowPut p1 p2 (sparse_rows pp) x)
    (s_unit : IsUnitIn s s1 e) (v_unit : IsUnitIn v v1 e)
    (joined : IsJoinedTo p (sparse_rows pp) e pp.width x base s1 sn p2 pn v1 vn b2 bn)
    (based : IsBaseRowIn base now (sparse_rows pp)) where
  abbrev m : ℕ
  m = sparse_rows pp

  abbrev n : ℕ
  n = pp.width

  abbrev c : ℕ → ℕ
  c i = number_in vn i e

  abbrev d : ℕ → ℕ
  d i = (p - 1) * number_in vn i e

  on_s : HasUnit m s s1 e
  on_s = has-unit m s s1 e kept.s_size.rows_are s_unit

  on_v : HasUnit m v v1 e
  on_v = has-unit m v v1 e kept.v_size.rows_are v_unit

  apart : (i : ℕ) → i < m → i ≢ m
  apart i il q = omega arith

  first : (i : ℕ) → i < m → skip m i ≡ i
  first i il = skip-first m i il

  -- the rows of P that were there
  p_old : (i j : ℕ) → i < m → number_in p2 i j ≡ number_in pp i j
  p_old i j il = p_put.others i j (apart i il) ∙ ap (λ k. number_in p1 k j) (sym (first i il)) ∙ p_row.others i j

  p_kept : (i j : ℕ) → i < m → number_in pn i j ≡ number_in pp i j
  p_kept i j il = joined.on_p.others i j (apart i il) ∙ p_old i j il

  p_width : p1.width ≡ n
  p_width = p_row.size.width_is

  row_in : IsRowIn p m n (λ i j. number_in q j i) (λ i j. number_in q2 j i) e x
  row_in = record {
    here = λ j jl. ap (λ y. y % p) (q_put.here j (omega (arith, jl, q_column.size.rows_are, kept.q_size.rows_are)));
    others = λ i j il jl. ap (λ y. y % p) (q_put.others j (skip e i) (skip-other e i) ∙ q_column.others j i);
  }

  row_joined : IsRowJoined p m n (number_in s) (λ i j. number_in v j i) (number_in pp) (number_in sn) (λ i j. number_in vn j i)
      (number_in pn) e m x c d
  row_joined = record {
    opposite = λ i il. ap (λ y. y % p) (let z : (p - 1) * c i + c i ≡ c i + (p - 1) * c i = omega arith in z) ∙ lacks p prime (c i);
    s_corner = joined.on_s.row e
        ∙ ap (λ y. (y + sum_below m (λ i. (p - 1) * c i * number_in s1 i e)) % p) on_s.corner
        ∙ ap (λ y. (1 + y) % p) (zero_terms (λ i. number_in s1 i e) on_s.column) ∙ mod-eq_of_lt prime.above_one;
    s_row = λ t tl. joined.on_s.row (skip e t)
        ∙ ap (λ y. (y + sum_below m (λ i. (p - 1) * c i * number_in s1 i (skip e t))) % p) (on_s.row t)
        ∙ ap (λ y. y % p) (nothing (sum_below m (λ i. (p - 1) * c i * number_in s1 i (skip e t))))
        ∙ ap (λ y. y % p) (sum_on-ext everything m (λ i. (p - 1) * c i * number_in s1 i (skip e t)) (λ i. d i * number_in s i t)
        (λ i il _. ap (λ y. (p - 1) * c i * y) (on_s.others i t il)));
    s_column = λ i il. ap (λ k. number_in sn k e % p) (first i il)
        ∙ ap (λ y. y % p) (joined.on_s.others i e (apart i il) ∙ on_s.column i il) ∙ zero-mod p;
    s_others = λ i t il tl. ap (λ k. number_in sn k (skip e t) % p) (first i il)
        ∙ ap (λ y. y % p) (joined.on_s.others i (skip e t) (apart i il) ∙ on_s.others i t il);
    u_corner = ap (λ y. y % p) (joined.last e ∙ on_v.corner) ∙ mod-eq_of_lt prime.above_one;
    u_row = λ i il. ap (λ k. number_in vn k e % p) (first i il);
    u_column = λ t tl. ap (λ y. y % p) (joined.last (skip e t) ∙ on_v.row t) ∙ zero-mod p;
    u_others = λ t i tl il. ap (λ k. number_in vn k (skip e t) % p) (first i il)
        ∙ ap (λ y. y % p) (joined.others i (skip e t) (skip-other e t) ∙ on_v.others i t il);
    p_row = λ j jl. joined.on_p.row j
        ∙ ap (λ y. (y + sum_below m (λ i. (p - 1) * c i * number_in p2 i j)) % p) (p_put.here j (omega (arith, jl, p_width)))
        ∙ ap (λ y. (x j + y) % p) (sum_on-ext everything m (λ i. (p - 1) * c i * number_in p2 i j) (λ i. d i * number_in pp i j)
        (λ i il _. ap (λ y. (p - 1) * c i * y) (p_old i j il)))
        ∙ ap (λ y. y % p) (turned (x j) (sum_below m (λ i. d i * number_in pp i j)));
    p_others = λ i j il jl. ap (λ k. number_in pn k j % p) (first i il) ∙ ap (λ y. y % p) (p_kept i j il);
  }
    where
      turned : (y z : ℕ) → y + z ≡ z + y
      turned y z = omega arith

      nothing : (y : ℕ) → 0 + y ≡ y
      nothing y = omega arith

      zero_terms : (f : ℕ → ℕ) → ((i : ℕ) → i < m → f i ≡ 0) → sum_below m (λ i. (p - 1) * c i * f i) ≡ 0
      zero_terms f none =
          sum_on-ext everything m (λ i. (p - 1) * c i * f i) (λ i. 1 * 0 * f i)
          (λ i il _. ap (λ y. (p - 1) * c i * y) (none i il) ∙ product_zero (p - 1) (c i) (f i))
          ∙ sum-none m 1 (λ i. 0) f (λ i il. refl)
        where
          product_zero : (y z w : ℕ) → y * z * 0 ≡ 1 * 0 * w
          product_zero y z w = omega arith

  rows_are : sparse_rows pn ≡ m + 1
  rows_are = joined.on_p.size.rows_are ∙ p_put.size.rows_are ∙ p_row.size.rows_are

  columns_are : pn.width ≡ n
  columns_are = joined.on_p.size.width_is ∙ p_put.size.width_is ∙ p_width

  pub row-in-joined : RowsJoinTableaus → BasesKeepAJoinedRow → IsSparse p (record { q = q2; p = pn; s = sn; v = vn; base = now; room = room })
  row-in-joined law base_law = sparse-at p (m + 1) n (record { q = q2; p = pn; s = sn; v = vn; base = now; room = room }) rows_are columns_are
      (record {
        q_size = record {
          rows_are = q_put.size.rows_are ∙ q_column.size.rows_are ∙ kept.q_size.rows_are;
          width_is = q_put.size.width_is ∙ q_column.size.width_is ∙ ap (λ k. k + 1) kept.q_size.width_is;
        };
        s_size = record {
          rows_are = joined.on_s.size.rows_are ∙ s_unit.size.rows_are ∙ ap (λ k. k + 1) kept.s_size.rows_are;
          width_is = joined.on_s.size.width_is ∙ s_unit.size.width_is ∙ ap (λ k. k + 1) kept.s_size.width_is;
        };
        v_size = record {
          rows_are = joined.size.rows_are ∙ v_unit.size.rows_are ∙ ap (λ k. k + 1) kept.v_size.rows_are;
          width_is = joined.size.width_is ∙ v_unit.size.width_is ∙ ap (λ k. k + 1) kept.v_size.width_is;
        };
        base_rows = based.rows_are ∙ ap (λ k. k + 1) kept.base_rows;
        base_columns = based.columns_same ∙ kept.base_columns;
        product_is = whole.1;
        inverse = whole.0;
        unit_columns = base-part p (number_in pn) (m + 1) n (is_base base) (is_base now) (λ y. skip m (base_row base y)) (base_row now)
            (λ y yl h. (sym (based.base_same y) ∙ h, based.row_is y (sym (based.base_same y) ∙ h))) base_in;
      })
    where
      whole : IsInverse p (m + 1) (number_in sn) (λ i j. number_in vn j i)
          × Agree p (m + 1) n (number_in pn) (product (m + 1) (number_in sn) (λ i j. number_in q2 j i))
      whole = law p m n (λ i j. number_in q j i) (λ i j. number_in q2 j i) (number_in s) (λ i j. number_in v j i) (number_in pp)
          (number_in sn) (λ i j. number_in vn j i) (number_in pn) e m x c d el (omega arith) prime.above_one kept.tableau.inverse
          kept.tableau.product_is row_in row_joined

      base_in : IsBase p (number_in pn) (m + 1) n (is_base base) (λ y. skip m (base_row base y))
      base_in = base_law p m n (number_in s) (λ i j. number_in v j i) (number_in pp) (number_in sn) (λ i j. number_in vn j i)
          (number_in pn) e m x c d (is_base base) (base_row base) (omega arith) prime.above_one row_joined kept.tableau.unit_columns
          (λ y yl h. ap (λ z. ((p - 1) * z + x y) % p) (joined.done y yl h)
          ∙ ap (λ z. z % p) (let z : (p - 1) * x y + x y ≡ x y + (p - 1) * x y = omega arith in z) ∙ lacks p prime (x y))

  pub row-in-state : IsWithRow p (sparse_state (record { q = q; p = pp; s = s; v = v; base = base; room = room }))
      (sparse_state (record { q = q2; p = pn; s = sn; v = vn; base = now; room = room })) e x
  row-in-state = record {
    rows_are = rows_are;
    columns_same = columns_are;
    q_is = row_in;
    base_same = λ y yl. based.base_same y;
  }

  -- what is listed
  pub row-in-entries : (an : Bits) → AreSparseEntriesListed p pp a → m + 1 ≤ a.size → HasTableSize a an →
      ((j : ℕ) → j < pn.width → number_in pn m j ≢ 0 → bit_in an j m ≡ true) →
      ((i j : ℕ) → i < sparse_rows pn → bit_in a j i ≡ true → bit_in an j i ≡ true) → AreSparseEntriesListed p pn an
  row-in-entries an listed fits size row kept_bits = record {
    size = record {
      columns_fit = omega (arith, listed.size.columns_fit, columns_are, size.rows_same);
      rows_fit = omega (arith, fits, rows_are, size.size_same);
    };
    listed = λ i j il jl ne. elim (nat_cases i m) [
      | inl z ↦ subst (λ k. bit_in an j k ≡ true) (sym z)
          (row j jl (λ h. ne (ap (λ k. number_in pn k j % p) z ∙ ap (λ y. y % p) h ∙ zero-mod p)))
      | inr other ↦
          let below : i < m = omega (arith, il, rows_are, other) in
          kept_bits i j il (listed.listed i j below (subst (λ k. j < k) columns_are jl)
          (λ h. ne (ap (λ y. y % p) (p_kept i j below) ∙ h)))
    ];
  }

  pub row-in-numbers : AreNumbersListed v b → m + 1 ≤ b.size → m + 1 ≤ b.rows → IsColumnListedIn m b b1 e →
      IsBitSet (bit_in b1) (bit_in b2) b1.size e m → b2.rows ≡ b1.rows → b2.size ≡ b1.size → AreNumbersListed vn bn
  row-in-numbers listed rows_fit columns_fit column bit rows size = record {
    size = record {
      columns_fit = omega (arith, columns_fit, v_columns, column.size.rows_same, rows, joined.bits.rows_same);
      rows_fit = omega (arith, rows_fit, v_rows, column.size.size_same, size, joined.bits.size_same);
    };
    listed = λ i j il jl ne. told i j (subst (λ k. i < k) v_rows il) (subst (λ k. j < k) v_columns jl) ne;
  }
    where
      v_rows : sparse_rows vn ≡ m + 1
      v_rows = joined.size.rows_are ∙ v_unit.size.rows_are ∙ ap (λ k. k + 1) kept.v_size.rows_are

      v_columns : vn.width ≡ m + 1
      v_columns = joined.size.width_is ∙ v_unit.size.width_is ∙ ap (λ k. k + 1) kept.v_size.width_is

      in_b2 : (i : ℕ) → i < m + 1 → i < b2.size
      in_b2 i il = omega (arith, il, rows_fit, column.size.size_same, size)

      beside : (i l : ℕ) → i < m → l < m → number_in vn i (skip e l) ≢ 0 → bit_in bn (skip e l) i ≡ true
      beside i l il ll ne = joined.kept i (skip e l) (in_b2 i (omega arith))
          (set-keeps (bit_in b1) (bit_in b2) b1.size e m bit (skip e l) i (omega (arith, in_b2 i (omega arith), size))
          (column.others i l (omega (arith, il, rows_fit)) ll
          ∙ listed.listed i l (subst (λ k. i < k) (sym kept.v_size.rows_are) il) (subst (λ k. l < k) (sym kept.v_size.width_is) ll)
          (λ z. ne (joined.others i (skip e l) (skip-other e l) ∙ on_v.others i l il ∙ z))))

      told : (i j : ℕ) → i < m + 1 → j < m + 1 → number_in vn i j ≢ 0 → bit_in bn j i ≡ true
      told i j il jl ne = elim (nat_cases j e) [
        | inl z ↦ subst (λ k. bit_in bn k i ≡ true) (sym z) (elim (nat_cases i m) [
          | inl w ↦ subst (λ k. bit_in bn e k ≡ true) (sym w) (joined.kept m e (in_b2 m (omega arith)) bit.here)
          | inr other ↦ joined.listed i (omega arith) (λ h. ne (ap (λ k. number_in vn i k) z ∙ h))
        ])
        | inr aside ↦
            let back : skip e (unskip e j) ≡ j = skip-unskip e j aside in
            let below : unskip e j < m = omega (arith, unskip-below e j (m + 1) (omega (arith, el)) jl aside) in
            elim (nat_cases i m) [
              | inl w ↦ absurd (ne (ap (λ k. number_in vn k j) w ∙ ap (λ k. number_in vn m k) (sym back)
                  ∙ joined.last (skip e (unskip e j)) ∙ on_v.row (unskip e j)))
              | inr other ↦ subst (λ k. bit_in bn k i ≡ true) back
                  (beside i (unskip e j) (omega arith) below (λ h. ne (ap (λ k. number_in vn i k) (sym back) ∙ h)))
            ]
      ]
