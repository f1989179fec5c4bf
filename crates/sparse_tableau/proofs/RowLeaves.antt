-- A row leaves a sparse tableau.
use Rattle.std.proofs.Common.{◌≡◌, ℕ, ◌+◌, ◌-◌, ◌*◌, ◌%◌, ◌<◌, ◌≢◌, ◌⊎◌, ◌↔◌, Bool, true, false, cond, eqb, inl, inr, refl}
use Rattle.std.proofs.Common.{sym, subst, ap, ◌∙◌, arith, length, Option, Some, None, IfSome, IfNone, IsNone, IsSome}
use Rattle.std.proofs.Math.Nat.{zero-mod}
use Rattle.std.proofs.lemmas.Bool.Decides.{nat_tests}
use Rattle.residue_theory.specs.Residues.{IsPrime}
use Rattle.residue_theory.specs.Sets.{everything}
use Rattle.residue_theory.proofs.SetLaws.{differ}
use Rattle.residue_theory.proofs.SumLaws.{nat_cases, sum_on-ext}
use Rattle.linear_algebra.specs.Bases.{IsBase}
use Rattle.linear_algebra.specs.Columns.{IsIndependent}
use Rattle.linear_algebra.specs.Parts.{skip, without_row}
use Rattle.linear_algebra.specs.Products.{product, Agree, IsInverse}
use Rattle.linear_algebra_laws.proofs.SkipLaws.{skip-below}
use Rattle.bit_table.specs.Bits.{Bits, bit_in}
use Rattle.sparse_q.specs.Tables.{SparseTable, sparse_rows, number_in, HasSize, IsColumnTaken}
use Rattle.row_table.specs.Places.{with_unit}
use Rattle.row_table.specs.Reductions.{IsReduced}
use Rattle.row_transform.specs.Bases.{BaseLists, is_base, base_row, IsBaseDropped, IsBaseRowOut}
use Rattle.row_transform.specs.Edits.{Room, IsWithoutRow}
use Rattle.row_transform.specs.Entries.{IsColumnListedOut, IsRowListedAs}
use Rattle.tableau_edit_laws.specs.Edits.{AreRowsBut, last_for}
use Rattle.tableau_edit_laws.specs.Laws.{BasesLeaveRowsInAnyOrder, BasesStayIndependentWithoutARow, LastRowsTakePlaces}
use Rattle.tableau_edit_laws.specs.Laws.{PivotsInSClearAColumn, PivotsInSKeepOtherRows, RowsLeaveInAnyOrder, SomeRowOfSHasAnEntry}
use Rattle.row_transform.proofs.FreedBases.{bare-none, freed-gone, freed-kept, freed-part, none-bare}
use Rattle.sparse_tableau.specs.Leaves.{IsBareRow, IsLineReplaced, IsRowReplaced}
use Rattle.sparse_tableau.specs.Listings.{AreNumbersListed, AreSparseEntriesListed}
use Rattle.sparse_tableau.specs.Sparse.{IsSparse, sparse_state}
use Rattle.sparse_tableau.proofs.ColumnEdits.{sparse-at}

-- ---- matrices that are the same at some rows and columns
inverse-same : (p h : ℕ) (S U T V : ℕ → ℕ → ℕ) → ((i t : ℕ) → i < h → t < h → T i t ≡ S i t) →
    ((t j : ℕ) → t < h → j < h → V t j ≡ U t j) → IsInverse p h S U → IsInverse p h T V
inverse-same p h S U T V s u inv i j il jl =
    ap (λ y. y % p) (sum_on-ext everything h (λ t. T i t * V t j) (λ t. S i t * U t j)
    (λ t tl _. ap (λ y. y * V t j) (s i t il tl) ∙ ap (λ y. S i t * y) (u t j tl jl))) ∙ inv i j il jl

product-same : (p h n : ℕ) (P R S T a b : ℕ → ℕ → ℕ) → ((i j : ℕ) → i < h → j < n → R i j ≡ P i j) →
    ((i t : ℕ) → i < h → t < h → T i t ≡ S i t) → ((t j : ℕ) → t < h → j < n → b t j ≡ a t j) →
    Agree p h n P (product h S a) → Agree p h n R (product h T b)
product-same p h n P R S T a b r s q same i j il jl =
    ap (λ y. y % p) (r i j il jl) ∙ same i j il jl
    ∙ sym (ap (λ y. y % p) (sum_on-ext everything h (λ t. T i t * b t j) (λ t. S i t * a t j)
    (λ t tl _. ap (λ y. y * b t j) (s i t il tl) ∙ ap (λ y. S i t * y) (q t j tl jl))))

base-same : (p h n : ℕ) (P R : ℕ → ℕ → ℕ) (B : ℕ → Bool) (row : ℕ → ℕ) → ((i j : ℕ) → i < h → j < n → R i j ≡ P i j) →
    IsBase p P h n B row → IsBase p R h n B row
base-same p h n P R B row r base = record {
  row_below = base.row_below;
  one = λ b bl bh. ap (λ y. y % p) (r (row b) b (base.row_below b bl bh) bl) ∙ base.one b bl bh;
  zero = λ b i bl bh il ne. ap (λ y. y % p) (r i b il bl) ∙ base.zero b i bl bh il ne;
  distinct = base.distinct;
}

-- some row has an entry in a column of S
pub chosen-some : (p : ℕ) → IsPrime p → SomeRowOfSHasAnEntry → (s : SparseTable) (U : ℕ → ℕ → ℕ) (m e : ℕ) (o : Option ℕ) → e < m →
    sparse_rows s ≡ m → IsInverse p m (number_in s) U → IfNone o ((i : ℕ) → i < sparse_rows s → number_in s i e ≡ 0) → IsSome o
chosen-some p prime law s U m e (Some k) el rows inv none = refl
chosen-some p prime law s U m e None el rows inv none =
    let w = law p prime m (number_in s) U e el inv in
    absurd (w.2 (ap (λ y. y % p) (none w.0 (omega (arith, w.1, rows))) ∙ zero-mod p))

-- ---- the last row takes another's place
place_below : (m k r : ℕ) → k < m → r < m → r ≢ k → cond (eqb r (m - 1)) k r + 1 < m
place_below m k r kl rl ne = grind (arith, nat_tests)

place_from : (m k r : ℕ) → k < m → r < m → r ≢ k → last_for m k (cond (eqb r (m - 1)) k r) ≡ r
place_from m k r kl rl ne = grind (arith, nat_tests)

here_from : (m k : ℕ) → last_for m k k ≡ m - 1
here_from m k = grind (arith, nat_tests)

other_from : (m k i : ℕ) → i ≢ k → last_for m k i ≡ i
other_from m k i ne = grind (arith, nat_tests)

other_column : (U : ℕ → ℕ → ℕ) (e k i j : ℕ) → j ≢ k → with_unit U e k i j ≡ U i j
other_column U e k i j ne = grind (arith, nat_tests)

module _ (p : ℕ) (prime : IsPrime p) (q pp s v : SparseTable) (base : BaseLists) (room : Room)
    (kept : IsSparse p (record { q = q; p = pp; s = s; v = v; base = base; room = room })) (e k : ℕ)
    (el : e < sparse_rows pp) (kl : k < sparse_rows pp) (some : number_in s k e % p ≢ 0)
    (p1 s1 q2 p2 s2 v2 : SparseTable) (base1 base2 : BaseLists) (told : Option ℕ)
    (p_size : HasSize (sparse_rows pp) pp.width p1) (s_size : HasSize (sparse_rows s) s.width s1)
    (p_reduced : IsReduced p (sparse_rows pp) pp.width (number_in pp) (number_in p1) k (λ i. number_in s i e))
    (s_reduced : IsReduced p (sparse_rows s) s.width (number_in s) (number_in s1) k (λ i. number_in s i e))
    (free : (y : ℕ) → y < length base.rows → is_base base1 y ≡ true → base_row base1 y ≢ k)
    (none_told : IfNone told (base1 ≡ base))
    (dropped : IfSome told (λ y. IsBaseDropped (length base.rows) (is_base base) (base_row base) (is_base base1) (base_row base1) y))
    (base1_rows : length base1.columns ≡ length base.columns) (base1_columns : length base1.rows ≡ length base.rows)
    (q_column : IsColumnTaken q q2 e) (p_row : IsRowReplaced p1 p2 k) (s_line : IsLineReplaced s1 s2 k e)
    (v_line : IsLineReplaced v v2 k e) (based : IsBaseRowOut base1 base2 k) where
  abbrev m : ℕ
  m = sparse_rows pp

  abbrev n : ℕ
  n = pp.width

  abbrev Q : ℕ → ℕ → ℕ
  Q i j = number_in q j i

  abbrev U : ℕ → ℕ → ℕ
  U i j = number_in v j i

  abbrev from : ℕ → ℕ
  from = last_for m k

  rows_are : sparse_rows p2 ≡ m - 1
  rows_are = omega (arith, p_row.rows_are, p_size.rows_are)

  s_rows : sparse_rows s2 ≡ m - 1
  s_rows = omega (arith, s_line.rows_are, s_size.rows_are, kept.s_size.rows_are)

  v_rows : sparse_rows v2 ≡ m - 1
  v_rows = omega (arith, v_line.rows_are, kept.v_size.rows_are)

  on_s : IsReduced p m m (number_in s) (number_in s1) k (λ i. number_in s i e)
  on_s = subst (λ h. IsReduced p h m (number_in s) (number_in s1) k (λ i. number_in s i e)) kept.s_size.rows_are
      (subst (λ w. IsReduced p (sparse_rows s) w (number_in s) (number_in s1) k (λ i. number_in s i e)) kept.s_size.width_is s_reduced)

  p_numbers : (i j : ℕ) → i < m - 1 → number_in p2 i j ≡ number_in p1 (from i) j
  p_numbers i j il = p_row.numbers i j (omega (arith, rows_are)) ∙ ap (λ h. number_in p1 (last_for h k i) j) p_size.rows_are

  s_numbers : (i j : ℕ) → i < m - 1 → number_in s2 i j ≡ number_in s1 (from i) (skip e j)
  s_numbers i j il = s_line.numbers i j (omega (arith, s_rows))
      ∙ ap (λ h. number_in s1 (last_for h k i) (skip e j)) (s_size.rows_are ∙ kept.s_size.rows_are)

  v_numbers : (i j : ℕ) → i < m - 1 → number_in v2 i j ≡ number_in v (from i) (skip e j)
  v_numbers i j il = v_line.numbers i j (omega (arith, v_rows)) ∙ ap (λ h. number_in v (last_for h k i) (skip e j)) kept.v_size.rows_are

  part : (y : ℕ) → y < n → is_base base1 y ≡ true → (is_base base y ≡ true) × (base_row base1 y ≡ base_row base y)
  part y yl = freed-part told base base1 (length base.rows) none_told dropped y (omega (arith, yl, kept.base_columns))

  free_row : (y : ℕ) → y < n → is_base base1 y ≡ true → base_row base y ≢ k
  free_row y yl h = subst (λ r. r ≢ k) (part y yl h).1 (free y (omega (arith, yl, kept.base_columns)) h)

  pub row-left : BasesLeaveRowsInAnyOrder → LastRowsTakePlaces → PivotsInSClearAColumn → PivotsInSKeepOtherRows → RowsLeaveInAnyOrder →
      IsSparse p (record { q = q2; p = p2; s = s2; v = v2; base = base2; room = room })
  row-left base_law last_law clear_law keep_law row_law =
      sparse-at p (m - 1) n (record { q = q2; p = p2; s = s2; v = v2; base = base2; room = room }) rows_are
      (p_row.width_same ∙ p_size.width_is) (record {
        q_size = record {
          rows_are = q_column.rows_same ∙ kept.q_size.rows_are;
          width_is = omega (arith, q_column.width_less, kept.q_size.width_is);
        };
        s_size = record { rows_are = s_rows; width_is = omega (arith, s_line.width_is, s_size.width_is, kept.s_size.width_is) };
        v_size = record { rows_are = v_rows; width_is = omega (arith, v_line.width_is, kept.v_size.width_is) };
        base_rows = omega (arith, based.rows_are, base1_rows, kept.base_rows);
        base_columns = based.columns_same ∙ base1_columns ∙ kept.base_columns;
        product_is = product-same p (m - 1) n (λ i j. number_in p1 (from i) j) (number_in p2) (λ i t. number_in s1 (from i) (skip e t))
            (number_in s2) (without_row e Q) (λ i j. number_in q2 j i) (λ i j il jl. p_numbers i j il) (λ i t il tl. s_numbers i t il)
            (λ t j tl jl. q_column.numbers j t) left.1;
        inverse = inverse-same p (m - 1) (λ i t. number_in s1 (from i) (skip e t)) (λ t i. with_unit U e k (skip e t) (from i))
            (number_in s2) (λ i j. number_in v2 j i) (λ i t il tl. s_numbers i t il)
            (λ t j tl jl. v_numbers j t jl ∙ sym (other_column U e k (skip e t) (from j) (rows.others j (omega (arith, jl))))) left.0;
        unit_columns = base-same p (m - 1) n (λ i j. number_in p1 (from i) j) (number_in p2) (is_base base2) (base_row base2)
            (λ i j il jl. p_numbers i j il) (base_law p m n (number_in p1) (is_base base1) (is_base base2) (base_row base) (base_row base2)
            k from rows in_p1 places);
      })
    where
      rows : AreRowsBut m k from
      rows = last_law m k kl

      cleared : IsInverse p m (number_in s1) (with_unit U e k) × Agree p m n (number_in p1) (product m (number_in s1) Q)
          × ((i : ℕ) → i < m → i ≢ k → number_in s1 i e % p ≡ 0)
      cleared = clear_law p prime m n Q (number_in s) U (number_in pp) (number_in s1) (number_in p1) e k el kl some
          kept.tableau.inverse kept.tableau.product_is on_s p_reduced

      left : IsInverse p (m - 1) (λ i t. number_in s1 (from i) (skip e t)) (λ t i. with_unit U e k (skip e t) (from i))
          × Agree p (m - 1) n (λ i j. number_in p1 (from i) j)
          (product (m - 1) (λ i t. number_in s1 (from i) (skip e t)) (without_row e Q))
      left = row_law p m n Q (number_in s1) (with_unit U e k) (number_in p1) e k from el rows cleared.0 cleared.1 cleared.2

      in_p1 : IsBase p (number_in p1) m n (is_base base1) (base_row base)
      in_p1 = keep_law p prime m n (number_in pp) (number_in p1) k (λ i. number_in s i e) (is_base base) (is_base base1) (base_row base)
          kl some p_reduced kept.tableau.unit_columns (λ y yl h. ((part y yl h).0, free_row y yl h))

      places : (y : ℕ) → y < n → is_base base2 y ≡ true →
          (is_base base1 y ≡ true) × (base_row base2 y + 1 < m) × (from (base_row base2 y) ≡ base_row base y)
      places y yl h =
          let in_base1 : is_base base1 y ≡ true = sym (based.base_same y) ∙ h in
          let r = base_row base y in
          let rl : r < m = kept.tableau.unit_columns.row_below y yl (part y yl in_base1).0 in
          let ne : r ≢ k = free_row y yl in_base1 in
          let end : length base2.columns ≡ m - 1 = omega (arith, based.rows_are, base1_rows, kept.base_rows) in
          let is : base_row base2 y ≡ cond (eqb r (m - 1)) k r =
          based.row_is y in_base1 ∙ ap (λ l. cond (eqb (base_row base1 y) l) k (base_row base1 y)) end
          ∙ ap (λ l. cond (eqb l (m - 1)) k l) (part y yl in_base1).1 in (
            in_base1,
            subst (λ l. l + 1 < m) (sym is) (place_below m k r kl rl ne),
            ap from is ∙ place_from m k r kl rl ne,
          )

  pub row-left-state : IfSome told (λ y. y < length base.rows) → IfSome told (λ y. is_base base y ≡ true) →
      IsWithoutRow p (sparse_state (record { q = q; p = pp; s = s; v = v; base = base; room = room }))
      (sparse_state (record { q = q2; p = p2; s = s2; v = v2; base = base2; room = room })) e told
  row-left-state below member = record {
    rows_are = omega (arith, p_row.rows_are, p_size.rows_are);
    columns_same = p_row.width_same ∙ p_size.width_is;
    q_is = λ i j il jl. ap (λ y. y % p) (q_column.numbers j i);
    kept = λ y yl ne. based.base_same y
        ∙ freed-kept told base base1 (length base.rows) none_told dropped y (omega (arith, yl, kept.base_columns)) ne;
    below = subst (λ l. IfSome told (λ y. y < l)) kept.base_columns below;
    was_base = member;
    is_none = freed-gone told base base1 base2 (length base.rows) dropped based.base_same;
  }

  -- the base stays exactly where it is independent without row e
  pub row-left-none : BasesStayIndependentWithoutARow → IfSome told (λ y. y < length base.rows) →
      IfSome told (λ y. is_base base y ≡ true) → IfSome told (λ y. base_row base y ≡ k) →
      IsBareRow base k ⊎ ((i : ℕ) → i < sparse_rows s → IsBareRow base i → number_in s i e ≡ 0) →
      IsNone told ↔ IsIndependent p (without_row e Q) (sparse_rows p2) n (is_base base)
  row-left-none law below member at preferred =
      subst (λ h. IsNone told ↔ IsIndependent p (without_row e Q) h n (is_base base)) (sym rows_are) (
        λ none. stays.1 (
          k,
          kl,
          (λ y yl h. none-bare told base base1 (length base.rows) k none_told none free y (omega (arith, yl, kept.base_columns)) h),
          some,
        ),
        λ ind. bare-none told base (length base.rows) k below member at (bare (stays.0 ind) preferred),
      )
    where
      stays : IsIndependent p (without_row e Q) (m - 1) n (is_base base) ↔ ((i : ℕ) × (i < m)
          × ((y : ℕ) → y < n → is_base base y ≡ true → base_row base y ≢ i) × (number_in s i e % p ≢ 0))
      stays = law p prime m n Q (number_in s) U (number_in pp) (is_base base) (base_row base) e el kept.tableau.inverse
          kept.tableau.product_is kept.tableau.unit_columns

      bare : ((i : ℕ) × (i < m) × ((y : ℕ) → y < n → is_base base y ≡ true → base_row base y ≢ i) × (number_in s i e % p ≢ 0)) →
          IsBareRow base k ⊎ ((i : ℕ) → i < sparse_rows s → IsBareRow base i → number_in s i e ≡ 0) → IsBareRow base k
      bare w (inl h) = h
      bare w (inr zeros) = absurd (w.3 (ap (λ y. y % p) (zeros w.0 (omega (arith, w.1, kept.s_size.rows_are))
          (λ y yl h. w.2 y (omega (arith, yl, kept.base_columns)) h)) ∙ zero-mod p))

  -- ---- what is listed
  pub row-left-entries : (a c : Bits) → AreSparseEntriesListed p p1 a → IsRowListedAs n a c (m - 1) k → AreSparseEntriesListed p p2 c
  row-left-entries a c listed like = record {
    size = record {
      columns_fit = omega (arith, listed.size.columns_fit, p_row.width_same, like.size.rows_same);
      rows_fit = omega (arith, listed.size.rows_fit, p_row.rows_are, like.size.size_same);
    };
    listed = λ i j il jl ne. told_at i j (omega (arith, il, rows_are)) (subst (λ l. j < l) (p_row.width_same ∙ p_size.width_is) jl) ne;
  }
    where
      at_from : (i j : ℕ) → i < m - 1 → j < n → number_in p2 i j % p ≢ 0 → from i < m → bit_in a j (from i) ≡ true
      at_from i j il jl ne fl = listed.listed (from i) j (omega (arith, fl, p_size.rows_are)) (omega (arith, jl, p_size.width_is))
          (λ z. ne (ap (λ y. y % p) (p_numbers i j il) ∙ z))

      told_at : (i j : ℕ) → i < m - 1 → j < n → number_in p2 i j % p ≢ 0 → bit_in c j i ≡ true
      told_at i j il jl ne = elim (nat_cases i k) [
        | inl z ↦ subst (λ l. bit_in c j l ≡ true) (sym z) (like.listed j jl (subst (λ l. bit_in a j l ≡ true)
            (ap from z ∙ here_from m k) (at_from i j il jl ne (omega (arith, ap from z ∙ here_from m k)))))
        | inr other ↦ like.kept i j (omega (arith, il, listed.size.rows_fit, p_size.rows_are)) (subst (λ l. bit_in a j l ≡ true)
            (other_from m k i other) (at_from i j il jl ne (omega (arith, other_from m k i other))))
      ]

  pub row-left-numbers : (b b1 c : Bits) → AreNumbersListed v b → IsColumnListedOut m b b1 e → IsRowListedAs (m - 1) b1 c (m - 1) k →
      AreNumbersListed v2 c
  row-left-numbers b b1 c listed column like = record {
    size = record {
      columns_fit = omega (arith, listed.size.columns_fit, v_line.width_is, like.size.rows_same, column.size.rows_same);
      rows_fit = omega (arith, listed.size.rows_fit, v_line.rows_are, like.size.size_same, column.size.size_same);
    };
    listed = λ i j il jl ne. told_at i j (omega (arith, il, v_rows)) (omega (arith, jl, v_line.width_is, kept.v_size.width_is)) ne;
  }
    where
      at_from : (i j : ℕ) → i < m - 1 → j < m - 1 → number_in v2 i j ≢ 0 → from i < m → bit_in b1 j (from i) ≡ true
      at_from i j il jl ne fl = column.others (from i) j (omega (arith, fl, listed.size.rows_fit, kept.v_size.rows_are)) (omega arith)
          ∙ listed.listed (from i) (skip e j) (omega (arith, fl, kept.v_size.rows_are))
          (omega (arith, skip-below e j m el jl, kept.v_size.width_is)) (λ z. ne (v_numbers i j il ∙ z))

      told_at : (i j : ℕ) → i < m - 1 → j < m - 1 → number_in v2 i j ≢ 0 → bit_in c j i ≡ true
      told_at i j il jl ne = elim (nat_cases i k) [
        | inl z ↦ subst (λ l. bit_in c j l ≡ true) (sym z) (like.listed j jl (subst (λ l. bit_in b1 j l ≡ true)
            (ap from z ∙ here_from m k) (at_from i j il jl ne (omega (arith, ap from z ∙ here_from m k)))))
        | inr other ↦ like.kept i j (omega (arith, il, listed.size.rows_fit, kept.v_size.rows_are, column.size.size_same))
            (subst (λ l. bit_in b1 j l ≡ true) (other_from m k i other) (at_from i j il jl ne (omega (arith, other_from m k i other))))
      ]
