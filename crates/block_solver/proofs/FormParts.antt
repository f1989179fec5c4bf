-- The blocks of a right form of a model that has as many equations as unknowns, as many as its rank: they fit the system of
-- the form's rows with numbers, and are the diagonal parts of the matrix in blocks.
use Rattle.std.proofs.Common.{◌≡◌, ℕ, suc, ◌+◌, ◌-◌, ◌*◌, ◌%◌, ◌<◌, ◌≤◌, true, false, cond, ltb, List, [], ◌∷◌, ◌++◌, length, map}
use Rattle.std.proofs.Common.{get_or, slice_index, slice_index_or, inl, inr, refl, ap, sym, subst, ◌∙◌, arith}
use Rattle.std.specs.List.{All}
use Rattle.std.proofs.lemmas.Bool.Decides.{nat_tests}
use Rattle.std.proofs.lemmas.List.{get_or-map, get_or_append_left, get_or_default, length-map}
use Rattle.residue_theory.specs.Residues.{IsPrime}
use Rattle.residue_theory.specs.Sets.{everything, has}
use Rattle.residue_theory.specs.Sums.{size_on, sum_below}
use Rattle.residue_theory.proofs.ResidueLaws.{agree-mul, agree-sum}
use Rattle.residue_theory.proofs.SetLaws.{eqb_true, lt_cases, not_true, zero_cases}
use Rattle.linear_algebra.specs.Parts.{in_part}
use Rattle.linear_algebra.specs.Products.{product}
use Rattle.linear_algebra_laws.proofs.Entries.{above-low, above-top}
use Rattle.mixed_matrices.specs.Forms.{part_columns, part_rows}
use Rattle.mixed_matrices.specs.LayeredMatrices.{LayeredMatrix}
use Rattle.mixed_matrices.specs.Layerings.{IsLayeredMatrixOf, Origins, gives_q}
use Rattle.mixed_matrices.specs.Models.{MixedMatrix, numbers}
use Rattle.block_laws.specs.NumbersInBlocks.{IsBlockSolved, IsRegularBlock, IsSquareForm, block_matrix, block_right, q_right, row_part, t_right}
use Rattle.block_laws.proofs.BlockRanks.{part_independent, part_rank, row_part-low, row_part-top}
use Rattle.block_laws.proofs.Systems.{stacked-low, stacked-top}
use Rattle.cert_text.specs.Contents.{Contents}
use Rattle.cert_text.specs.Ranges.{AreRising, IsCcf}
use Rattle.cert_text.specs.Readings.{column_lists, entry_at, matrix_of, parts_of, q_row_lists, t_row_lists}
use Rattle.cert_text.specs.Right.{IsRightCcf}
use Rattle.cert_text.specs.declared.part.CcfBlock.{CcfBlock}
use Rattle.cert_text.specs.declared.part.CcfPart.{CcfPart}
use Rattle.certificate_laws.proofs.PlacedLists.{columns-long, columns-rise, held-place, place-counted, place-held}
use Rattle.certificate_laws.proofs.PlacedLists.{q_rows-long, q_rows-rise, t_rows-long, t_rows-rise}
use Rattle.part_arcs.proofs.FormLaws.{has-some, some-has}
use Rattle.solve_plan.proofs.EntryPlaces.{entry-nonzero}
use Rattle.solve_plan.proofs.PlanSizes.{part-even, tri}
use Rattle.block_solver.specs.Blocks.{BlockSystem, FitBlocks, FitsSystem, IsRegularPart, PartHolds, part_matrix, part_right, part_row}
use Rattle.block_solver.specs.Rows.{AreKeysRising}
use Rattle.block_solver.proofs.LocalParts.{local-independent, part-independent, row_sum-all}
use Rattle.block_solver.proofs.PartTables.{part-rising, right-low, right-top, row-low, row-top}

-- the rows of a form and of its T rows, with the numbers w at the symbols and the right sides of b
pub record IsSystemOf (p : ℕ) (M : MixedMatrix) (L : LayeredMatrix) (O : Origins) (c : Contents) (w : ℕ → ℕ → ℕ) (b : ℕ → ℕ)
    (s : BlockSystem) : Type 0 where
  pub p_is : s.p ≡ c.p
  pub t_count : length s.t ≡ L.t_rows
  pub t_rising : (i : ℕ) → i < L.t_rows → AreKeysRising (slice_index_or s.t i [])
  pub t_within : (i : ℕ) → i < L.t_rows → All (λ (e : ℕ × ℕ). e.0 < L.columns) (slice_index_or s.t i [])
  pub t_none : (i j : ℕ) → i < L.t_rows → j < L.columns → L.t i j ≡ false → entry_at (slice_index_or s.t i []) j ≡ 0
  pub t_number : (i j : ℕ) → i < L.t_rows → j < L.columns → entry_at (slice_index_or s.t i []) j % p ≡ numbers L.t w i j % p
  pub p_side : (i : ℕ) → i < L.q_rows → slice_index s.p_right i % p ≡ sum_below L.q_rows (λ t. matrix_of c.s i t * q_right O b t) % p
  pub t_side : (i : ℕ) → i < L.t_rows → slice_index s.t_right i ≡ t_right (gives_q M) O b i

-- the lists of a block
module _ (c : Contents) (of : CcfPart → List ℕ) (k : ℕ) (d : CcfBlock) (kl : k < length c.blocks) where
  pub list-at : get_or (of c.first ∷ (map (λ (block : CcfBlock). of block.part) c.blocks ++ of c.last ∷ [])) (k + 1) []
      ≡ of (slice_index_or c.blocks k d).part
  list-at =
      let f : CcfBlock → List ℕ = λ block. of block.part in
      ap (λ n. get_or (of c.first ∷ (map f c.blocks ++ of c.last ∷ [])) n []) (let q : k + 1 ≡ suc k = omega arith in q)
      ∙ get_or_append_left (map f c.blocks) (of c.last ∷ []) [] k (omega (arith, kl, length-map c.blocks f)) ∙ get_or-map f c.blocks k d [] kl

module _ (p : ℕ) (prime : IsPrime p) (odd : 2 < p) (M : MixedMatrix) (L : LayeredMatrix) (O : Origins) (lay : IsLayeredMatrixOf M L O)
    (c : Contents) (is : IsCcf p c) (R : IsRightCcf p M L O c) where
  columns-up : All (AreRising L.columns) (column_lists c)
  columns-up = subst (λ n. All (AreRising n) (column_lists c)) R.shape.columns (columns-rise p c is)

  q_rows-up : All (AreRising L.q_rows) (q_row_lists c)
  q_rows-up = subst (λ n. All (AreRising n) (q_row_lists c)) R.shape.q_rows (q_rows-rise p c is)

  t_rows-up : All (AreRising L.t_rows) (t_row_lists c)
  t_rows-up = subst (λ n. All (AreRising n) (t_row_lists c)) R.shape.t_rows (t_rows-rise p c is)

  -- ---- a block
  module _ (k : ℕ) (d : CcfBlock) (kl : k < length c.blocks) where
    abbrev part : CcfPart
    part = (slice_index_or c.blocks k d).part

    columns-at : get_or (column_lists c) (k + 1) [] ≡ part.columns
    columns-at = list-at c (λ x. x.columns) k d kl

    q_rows-at : get_or (q_row_lists c) (k + 1) [] ≡ part.q_rows
    q_rows-at = list-at c (λ x. x.q_rows) k d kl

    t_rows-at : get_or (t_row_lists c) (k + 1) [] ≡ part.t_rows
    t_rows-at = list-at c (λ x. x.t_rows) k d kl

    pub block-columns : AreRising L.columns part.columns
    block-columns = subst (λ n. AreRising n part.columns) R.shape.columns ((is.blocks k d kl).part).columns

    pub block-q_rows : AreRising L.q_rows part.q_rows
    block-q_rows = subst (λ n. AreRising n part.q_rows) R.shape.q_rows ((is.blocks k d kl).part).q_rows

    pub block-t_rows : AreRising L.t_rows part.t_rows
    block-t_rows = subst (λ n. AreRising n part.t_rows) R.shape.t_rows ((is.blocks k d kl).part).t_rows

    pub column-place : (x : ℕ) → x < L.columns → has part.columns x ≡ true → (parts_of c).column x ≡ k + 1
    column-place x xl h = held-place L.columns (column_lists c) columns-up R.block_triangular_form.columns (k + 1) x xl
        (omega (arith, kl, columns-long c)) (subst (λ l. has l x ≡ true) (sym columns-at) h)

    pub place-column : (x : ℕ) → x < L.columns → (parts_of c).column x ≡ k + 1 → has part.columns x ≡ true
    place-column x xl e = subst (λ l. has l x ≡ true) columns-at (place-held L.columns (column_lists c) columns-up R.block_triangular_form.columns
        (k + 1) x xl (omega (arith, kl, columns-long c)) e)

    pub q_row-place : (x : ℕ) → x < L.q_rows → has part.q_rows x ≡ true → (parts_of c).q_row x ≡ k + 1
    q_row-place x xl h = held-place L.q_rows (q_row_lists c) q_rows-up R.block_triangular_form.q_rows (k + 1) x xl
        (omega (arith, kl, q_rows-long c)) (subst (λ l. has l x ≡ true) (sym q_rows-at) h)

    pub place-q_row : (x : ℕ) → x < L.q_rows → (parts_of c).q_row x ≡ k + 1 → has part.q_rows x ≡ true
    place-q_row x xl e = subst (λ l. has l x ≡ true) q_rows-at (place-held L.q_rows (q_row_lists c) q_rows-up R.block_triangular_form.q_rows
        (k + 1) x xl (omega (arith, kl, q_rows-long c)) e)

    pub t_row-place : (x : ℕ) → x < L.t_rows → has part.t_rows x ≡ true → (parts_of c).t_row x ≡ k + 1
    t_row-place x xl h = held-place L.t_rows (t_row_lists c) t_rows-up R.block_triangular_form.t_rows (k + 1) x xl
        (omega (arith, kl, t_rows-long c)) (subst (λ l. has l x ≡ true) (sym t_rows-at) h)

    pub place-t_row : (x : ℕ) → x < L.t_rows → (parts_of c).t_row x ≡ k + 1 → has part.t_rows x ≡ true
    place-t_row x xl e = subst (λ l. has l x ≡ true) t_rows-at (place-held L.t_rows (t_row_lists c) t_rows-up R.block_triangular_form.t_rows
        (k + 1) x xl (omega (arith, kl, t_rows-long c)) e)

    columns-counted : length part.columns ≡ part_columns L (parts_of c) (k + 1)
    columns-counted = ap length (sym columns-at) ∙ place-counted L.columns (column_lists c) columns-up R.block_triangular_form.columns (k + 1)
        (omega (arith, kl, columns-long c))

    q_rows-counted : length part.q_rows ≡ size_on (in_part (parts_of c).q_row (k + 1)) L.q_rows
    q_rows-counted = ap length (sym q_rows-at) ∙ place-counted L.q_rows (q_row_lists c) q_rows-up R.block_triangular_form.q_rows (k + 1)
        (omega (arith, kl, q_rows-long c))

    t_rows-counted : length part.t_rows ≡ size_on (in_part (parts_of c).t_row (k + 1)) L.t_rows
    t_rows-counted = ap length (sym t_rows-at) ∙ place-counted L.t_rows (t_row_lists c) t_rows-up R.block_triangular_form.t_rows (k + 1)
        (omega (arith, kl, t_rows-long c))

    -- a block has as many rows as columns
    pub block-square : length part.q_rows + length part.t_rows ≡ length part.columns
    block-square = omega (
      arith,
      q_rows-counted,
      t_rows-counted,
      columns-counted,
      ((tri p prime odd M L O lay c R).square (k + 1) (omega arith) (omega (arith, kl))).0,
    )

  -- ---- the tails are empty
  module _ (even : M.rows ≡ M.columns) (full : M.rows ≡ c.rank) where
    pub square-form : IsSquareForm p L (matrix_of c.s) (parts_of c)
    square-form = record {
      form = R.block_triangular_form.form;
      first_columns = first.1;
      first_rows = first.0;
      last_columns = last.1;
      last_rows = last.0;
    }
      where
        first : (part_rows L (parts_of c) 0 ≡ 0) × (part_columns L (parts_of c) 0 ≡ 0)
        first = elim (tri p prime odd M L O lay c R).first [
          | inl less ↦ absurd (omega (arith, less, part-even p prime odd M L O lay c R even full 0 (omega arith)))
          | inr none ↦ none
        ]

        last : (part_rows L (parts_of c) (length c.blocks + 1) ≡ 0) × (part_columns L (parts_of c) (length c.blocks + 1) ≡ 0)
        last = elim (tri p prime odd M L O lay c R).last [
          | inl less ↦ absurd (omega (arith, less, part-even p prime odd M L O lay c R even full (length c.blocks + 1) (omega arith)))
          | inr none ↦ none
        ]

  -- ---- the system
  module _ (w : ℕ → ℕ → ℕ) (b : ℕ → ℕ) (s : BlockSystem) (sys : IsSystemOf p M L O c w b s) where
    p-count : length s.p ≡ L.q_rows
    p-count = ap length sys.p_is ∙ is.p.count ∙ R.shape.q_rows

    p-row : (i : ℕ) → slice_index_or s.p i [] ≡ slice_index_or c.p i []
    p-row i = ap (λ rows. slice_index_or rows i []) sys.p_is

    fits : (k : ℕ) (d : CcfBlock) → k < length c.blocks → FitsSystem s c.shape.columns (slice_index_or c.blocks k d).part
    fits k d kl = record {
      columns = ((is.blocks k d kl).part).columns;
      q_rows = λ r x rl. subst (λ n. slice_index_or (slice_index_or c.blocks k d).part.q_rows r x < n) (sym p-count) ((block-q_rows k d kl).below r x rl);
      t_rows = λ r x rl. subst (λ n. slice_index_or (slice_index_or c.blocks k d).part.t_rows r x < n) (sym sys.t_count) ((block-t_rows k d kl).below r x rl);
      p_rising = subst (All AreKeysRising) (sym sys.p_is) (λ i x il. (is.p.entries i x il).rising);
      t_rising = λ i x il. subst AreKeysRising (get_or_default s.t i [] x il) (sys.t_rising i (subst (λ n. i < n) sys.t_count il));
      square = block-square k d kl;
    }

    -- no entry at a row of a later block and a column of an earlier one
    empty : (j k r x : ℕ) (d : CcfBlock) → j < k → (kl : k < length c.blocks) → x < L.columns → (parts_of c).column x ≡ j + 1 →
        r < length (slice_index_or c.blocks k d).part.columns → entry_at (part_row s (slice_index_or c.blocks k d).part r) x ≡ 0
    empty j k r x d less kl xl place rl = elim (lt_cases r (length (slice_index_or c.blocks k d).part.q_rows)) [
      | inl top ↦
          let part : CcfPart = (slice_index_or c.blocks k d).part in
          let i : ℕ = slice_index part.q_rows r in
          let il : i < L.q_rows = (block-q_rows k d kl).below r 0 top in
          ap (λ row. entry_at row x) (row-top s part r top ∙ p-row i)
          ∙ no_number i il (R.transform.product_is.q i x il xl
          ∙ ((tri p prime odd M L O lay c R).empty (k + 1) (j + 1) (omega (arith, less))).q i x il xl
          (q_row-place k d kl i il (some-has part.q_rows r i top refl)) place)
      | inr low ↦
          let part : CcfPart = (slice_index_or c.blocks k d).part in
          let l : ℕ = r - length part.q_rows in
          let ll : l < length part.t_rows = omega (arith, low, rl, block-square k d kl) in
          let i : ℕ = slice_index part.t_rows l in
          let il : i < L.t_rows = (block-t_rows k d kl).below l 0 ll in
          ap (λ row. entry_at row x) (row-low s part r low)
          ∙ sys.t_none i x il xl (((tri p prime odd M L O lay c R).empty (k + 1) (j + 1) (omega (arith, less))).t i x il xl
          (t_row-place k d kl i il (some-has part.t_rows l i ll refl)) place)
    ]
      where
        no_number : (i : ℕ) → i < L.q_rows → matrix_of c.p i x % p ≡ 0 → matrix_of c.p i x ≡ 0
        no_number i il none = elim (zero_cases (matrix_of c.p i x)) [
          | inl z ↦ z
          | inr ne ↦ absurd (entry-nonzero p c is i x (subst (λ m. i < m) (sym R.shape.q_rows) il) ne none)
        ]

    pub fit-blocks : FitBlocks s c.shape.columns c.blocks
    fit-blocks = record {
      each = fits;
      apart = λ j k x d e less kl xl.
          let jl : j < length c.blocks = omega (arith, less, kl) in
          let column : ℕ = slice_index (slice_index_or c.blocks j d).part.columns x in
          let low : column < L.columns = (block-columns j d jl).below x 0 xl in
          not_true (has (slice_index_or c.blocks k e).part.columns column) (λ h. absurd (omega (
            arith,
            less,
            column-place j d jl column low (some-has (slice_index_or c.blocks j d).part.columns x column xl refl),
            column-place k e kl column low h,
          )));
      triangular = λ j k r x d e less kl rl xl.
          let jl : j < length c.blocks = omega (arith, less, kl) in
          let column : ℕ = slice_index (slice_index_or c.blocks j d).part.columns x in
          let low : column < L.columns = (block-columns j d jl).below x 0 xl in
          empty j k r column e less kl low (column-place j d jl column low (some-has (slice_index_or c.blocks j d).part.columns x column xl refl)) rl;
    }

    -- ---- a block as a diagonal part
    module _ (k : ℕ) (d : CcfBlock) (kl : k < length c.blocks) where
      -- row r of the block among those of P above T
      big : ℕ → ℕ
      big r = cond (ltb r (length (slice_index_or c.blocks k d).part.q_rows)) (slice_index (slice_index_or c.blocks k d).part.q_rows r)
          (L.q_rows + slice_index (slice_index_or c.blocks k d).part.t_rows (r - length (slice_index_or c.blocks k d).part.q_rows))

      big-top : (r : ℕ) → r < length (slice_index_or c.blocks k d).part.q_rows → big r ≡ slice_index (slice_index_or c.blocks k d).part.q_rows r
      unfolding big
      big-top r top = ap (λ t. cond t (slice_index (slice_index_or c.blocks k d).part.q_rows r)
          (L.q_rows + slice_index (slice_index_or c.blocks k d).part.t_rows (r - length (slice_index_or c.blocks k d).part.q_rows)))
          (let e : ltb r (length (slice_index_or c.blocks k d).part.q_rows) ≡ true = grind (arith, nat_tests) in e)

      big-low : (r : ℕ) → length (slice_index_or c.blocks k d).part.q_rows ≤ r →
          big r ≡ L.q_rows + slice_index (slice_index_or c.blocks k d).part.t_rows (r - length (slice_index_or c.blocks k d).part.q_rows)
      unfolding big
      big-low r low = ap (λ t. cond t (slice_index (slice_index_or c.blocks k d).part.q_rows r)
          (L.q_rows + slice_index (slice_index_or c.blocks k d).part.t_rows (r - length (slice_index_or c.blocks k d).part.q_rows)))
          (let e : ltb r (length (slice_index_or c.blocks k d).part.q_rows) ≡ false = grind (arith, nat_tests) in e)

      q-below : (r : ℕ) → r < length (slice_index_or c.blocks k d).part.q_rows → slice_index (slice_index_or c.blocks k d).part.q_rows r < L.q_rows
      q-below r top = (block-q_rows k d kl).below r 0 top

      low-there : (r : ℕ) → length (slice_index_or c.blocks k d).part.q_rows ≤ r → r < length (slice_index_or c.blocks k d).part.columns →
          r - length (slice_index_or c.blocks k d).part.q_rows < length (slice_index_or c.blocks k d).part.t_rows
      low-there r low rl = omega (arith, low, rl, block-square k d kl)

      t-below : (r : ℕ) → length (slice_index_or c.blocks k d).part.q_rows ≤ r → r < length (slice_index_or c.blocks k d).part.columns →
          slice_index (slice_index_or c.blocks k d).part.t_rows (r - length (slice_index_or c.blocks k d).part.q_rows) < L.t_rows
      t-below r low rl = (block-t_rows k d kl).below (r - length (slice_index_or c.blocks k d).part.q_rows) 0 (low-there r low rl)

      big-below : (r : ℕ) → r < length (slice_index_or c.blocks k d).part.columns → big r < L.q_rows + L.t_rows
      big-below r rl = elim (lt_cases r (length (slice_index_or c.blocks k d).part.q_rows)) [
        | inl top ↦ omega (arith, big-top r top, q-below r top)
        | inr low ↦ omega (arith, big-low r low, t-below r low rl)
      ]

      big-part : (r : ℕ) → r < length (slice_index_or c.blocks k d).part.columns → row_part L (parts_of c) (big r) ≡ k + 1
      big-part r rl = elim (lt_cases r (length (slice_index_or c.blocks k d).part.q_rows)) [
        | inl top ↦
            let i : ℕ = slice_index (slice_index_or c.blocks k d).part.q_rows r in
            ap (row_part L (parts_of c)) (big-top r top) ∙ row_part-top L (parts_of c) i (q-below r top)
            ∙ q_row-place k d kl i (q-below r top) (some-has (slice_index_or c.blocks k d).part.q_rows r i top refl)
        | inr low ↦
            let l : ℕ = r - length (slice_index_or c.blocks k d).part.q_rows in
            let i : ℕ = slice_index (slice_index_or c.blocks k d).part.t_rows l in
            ap (row_part L (parts_of c)) (big-low r low) ∙ row_part-low L (parts_of c) i
            ∙ t_row-place k d kl i (t-below r low rl) (some-has (slice_index_or c.blocks k d).part.t_rows l i (low-there r low rl) refl)
      ]

      big-all : (i : ℕ) → i < L.q_rows + L.t_rows → row_part L (parts_of c) i ≡ k + 1 →
          (r : ℕ) × (r < length (slice_index_or c.blocks k d).part.columns) × (big r ≡ i)
      big-all i il place = elim (lt_cases i L.q_rows) [
        | inl top ↦
            let at = has-some (slice_index_or c.blocks k d).part.q_rows i
            (place-q_row k d kl i top (sym (row_part-top L (parts_of c) i top) ∙ place)) in
            (at.0, omega (arith, at.1, block-square k d kl), big-top at.0 at.1 ∙ at.2)
        | inr low ↦
            let t : ℕ = i - L.q_rows in
            let tl : t < L.t_rows = omega (arith, low, il) in
            let back : L.q_rows + t ≡ i = omega (arith, low) in
            let at = has-some (slice_index_or c.blocks k d).part.t_rows t
            (place-t_row k d kl t tl (sym (row_part-low L (parts_of c) t) ∙ ap (row_part L (parts_of c)) back ∙ place)) in
            let r : ℕ = length (slice_index_or c.blocks k d).part.q_rows + at.0 in
            let after : length (slice_index_or c.blocks k d).part.q_rows ≤ r = omega arith in
            let there : r - length (slice_index_or c.blocks k d).part.q_rows ≡ at.0 = omega arith in (
              r,
              omega (arith, at.1, block-square k d kl),
              big-low r after ∙ ap (λ l. L.q_rows + slice_index (slice_index_or c.blocks k d).part.t_rows l) there ∙ ap (λ x. L.q_rows + x) at.2 ∙ back,
            )
      ]

      -- the entries of its rows
      row-same : (r j : ℕ) → r < length (slice_index_or c.blocks k d).part.columns → j < L.columns →
          entry_at (part_row s (slice_index_or c.blocks k d).part r) j % p ≡ block_matrix (matrix_of c.s) L w (big r) j % p
      row-same r j rl jl = elim (lt_cases r (length (slice_index_or c.blocks k d).part.q_rows)) [
        | inl top ↦
            let part : CcfPart = (slice_index_or c.blocks k d).part in
            let i : ℕ = slice_index part.q_rows r in
            ap (λ row. entry_at row j % p) (row-top s part r top ∙ p-row i)
            ∙ R.transform.product_is.q i j (q-below r top) jl
            ∙ ap (λ x. x % p) (sym (above-top L.q_rows (product L.q_rows (matrix_of c.s) L.q) (numbers L.t w) i j (q-below r top)))
            ∙ ap (λ x. block_matrix (matrix_of c.s) L w x j % p) (sym (big-top r top))
        | inr low ↦
            let part : CcfPart = (slice_index_or c.blocks k d).part in
            let i : ℕ = slice_index part.t_rows (r - length part.q_rows) in
            ap (λ row. entry_at row j % p) (row-low s part r low)
            ∙ sys.t_number i j (t-below r low rl) jl
            ∙ ap (λ x. x % p) (sym (above-low L.q_rows (product L.q_rows (matrix_of c.s) L.q) (numbers L.t w) i j))
            ∙ ap (λ x. block_matrix (matrix_of c.s) L w x j % p) (sym (big-low r low))
      ]

      -- and their right sides
      right-same : (r : ℕ) → r < length (slice_index_or c.blocks k d).part.columns →
          part_right s (slice_index_or c.blocks k d).part r % p ≡ block_right (matrix_of c.s) (gives_q M) L O b (big r) % p
      right-same r rl = elim (lt_cases r (length (slice_index_or c.blocks k d).part.q_rows)) [
        | inl top ↦
            let part : CcfPart = (slice_index_or c.blocks k d).part in
            let i : ℕ = slice_index part.q_rows r in
            ap (λ x. x % p) (right-top s part r top) ∙ sys.p_side i (q-below r top)
            ∙ ap (λ x. x % p) (sym (stacked-top L.q_rows (λ l. sum_below L.q_rows (λ t. matrix_of c.s l t * q_right O b t)) (t_right (gives_q M) O b) i
            (q-below r top)))
            ∙ ap (λ x. block_right (matrix_of c.s) (gives_q M) L O b x % p) (sym (big-top r top))
        | inr low ↦
            let part : CcfPart = (slice_index_or c.blocks k d).part in
            let i : ℕ = slice_index part.t_rows (r - length part.q_rows) in
            ap (λ x. x % p) (right-low s part r low) ∙ ap (λ x. x % p) (sys.t_side i (t-below r low rl))
            ∙ ap (λ x. x % p) (sym (stacked-low L.q_rows (λ l. sum_below L.q_rows (λ t. matrix_of c.s l t * q_right O b t)) (t_right (gives_q M) O b) i))
            ∙ ap (λ x. block_right (matrix_of c.s) (gives_q M) L O b x % p) (sym (big-low r low))
      ]

      same : (r q : ℕ) → r < length (slice_index_or c.blocks k d).part.columns → q < length (slice_index_or c.blocks k d).part.columns →
          part_matrix s (slice_index_or c.blocks k d).part r q % p
          ≡ block_matrix (matrix_of c.s) L w (big r) (slice_index (slice_index_or c.blocks k d).part.columns q) % p
      same r q rl ql = row-same r (slice_index (slice_index_or c.blocks k d).part.columns q) rl ((block-columns k d kl).below q 0 ql)

      pub block-regular : IsRegularPart p s (slice_index_or c.blocks k d).part → IsRegularBlock p (matrix_of c.s) L (parts_of c) w k
      block-regular ind = part_rank p prime (L.q_rows + L.t_rows) L.columns (block_matrix (matrix_of c.s) L w) (row_part L (parts_of c))
          (parts_of c).column (k + 1)
          (part-independent p (L.q_rows + L.t_rows) L.columns (block_matrix (matrix_of c.s) L w) (row_part L (parts_of c)) (parts_of c).column (k + 1)
          (slice_index_or c.blocks k d).part.columns (block-columns k d kl) (column-place k d kl) (place-column k d kl) big big-below big-part big-all
          (part_matrix s (slice_index_or c.blocks k d).part) same ind)

      pub part-regular : IsRegularBlock p (matrix_of c.s) L (parts_of c) w k → IsRegularPart p s (slice_index_or c.blocks k d).part
      part-regular regular = local-independent p (L.q_rows + L.t_rows) L.columns (block_matrix (matrix_of c.s) L w) (row_part L (parts_of c))
          (parts_of c).column (k + 1)
          (slice_index_or c.blocks k d).part.columns (block-columns k d kl) (column-place k d kl) (place-column k d kl) big big-below big-part big-all
          (part_matrix s (slice_index_or c.blocks k d).part) same
          (part_independent p prime (L.q_rows + L.t_rows) L.columns (block_matrix (matrix_of c.s) L w) (row_part L (parts_of c)) (parts_of c).column (k + 1)
          regular)

      row-within : (r : ℕ) → r < length (slice_index_or c.blocks k d).part.columns →
          All (λ (e : ℕ × ℕ). e.0 < L.columns) (part_row s (slice_index_or c.blocks k d).part r)
      row-within r rl = elim (lt_cases r (length (slice_index_or c.blocks k d).part.q_rows)) [
        | inl top ↦
            let part : CcfPart = (slice_index_or c.blocks k d).part in
            let i : ℕ = slice_index part.q_rows r in
            let il : i < length c.p = subst (λ n. i < n) (sym (is.p.count ∙ R.shape.q_rows)) (q-below r top) in
            subst (All (λ (e : ℕ × ℕ). e.0 < L.columns)) (sym (row-top s part r top ∙ p-row i))
            (λ h x hl. subst (λ n. (slice_index_or (slice_index_or c.p i []) h x).0 < n) R.shape.columns ((is.p.entries i [] il).within h x hl).0)
        | inr low ↦
            let part : CcfPart = (slice_index_or c.blocks k d).part in
            subst (All (λ (e : ℕ × ℕ). e.0 < L.columns)) (sym (row-low s part r low))
            (sys.t_within (slice_index part.t_rows (r - length part.q_rows)) (t-below r low rl))
      ]

      pub block-solved : (x : List ℕ) → PartHolds p s (slice_index_or c.blocks k d).part x →
          IsBlockSolved p (matrix_of c.s) (gives_q M) L O (parts_of c) w k everything (slice_index x) b
      block-solved x holds i il mine =
          let at = big-all i il (eqb_true (row_part L (parts_of c) i) (k + 1) mine) in
          subst (λ l. sum_below L.columns (λ j. slice_index x j * block_matrix (matrix_of c.s) L w l j) % p
          ≡ block_right (matrix_of c.s) (gives_q M) L O b l % p) at.2
          (agree-sum p everything L.columns (λ j. slice_index x j * block_matrix (matrix_of c.s) L w (big at.0) j)
          (λ j. slice_index x j * entry_at (part_row s (slice_index_or c.blocks k d).part at.0) j)
          (λ j jl _. agree-mul p (slice_index x j) (block_matrix (matrix_of c.s) L w (big at.0) j)
          (entry_at (part_row s (slice_index_or c.blocks k d).part at.0) j) (sym (row-same at.0 j at.1 jl)))
          ∙ ap (λ z. z % p) (sym (row_sum-all L.columns (part_row s (slice_index_or c.blocks k d).part at.0) x
          (part-rising s c.shape.columns (slice_index_or c.blocks k d).part (fits k d kl) at.0 at.1) (row-within at.0 at.1)))
          ∙ holds at.0 at.1
          ∙ right-same at.0 at.1)
