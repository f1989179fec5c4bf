-- The rows, the values and the right sides that the code lists are the system of a form.
use Rattle.std.proofs.Common.{◌≡◌, ℕ, ◌-◌, ◌*◌, ◌%◌, ◌<◌, List, [], length, map}
use Rattle.std.proofs.Common.{slice_index, slice_index_or, refl, ap, sym, subst, ◌∙◌, arith}
use Rattle.std.specs.List.{All}
use Rattle.std.specs.List.Sorted.{IsStrictlyIncreasing}
use Rattle.std.proofs.lemmas.List.{get_or-map, get_or_default, length-map}
use Rattle.residue_theory.specs.Sets.{everything}
use Rattle.residue_theory.specs.Sums.{sum_below}
use Rattle.residue_theory.proofs.SumLaws.{sum_on-ext}
use Rattle.mixed_matrices.specs.LayeredMatrices.{LayeredMatrix}
use Rattle.mixed_matrices.specs.Layerings.{IsLayeredMatrixOf, Origins}
use Rattle.mixed_matrices.specs.Models.{MixedMatrix}
use Rattle.mixed_model.specs.Layers.{AreLayers, Layers, layered_matrix_of}
use Rattle.mixed_layering.specs.Layers.{origins_of}
use Rattle.value_list_laws.specs.ListedValues.{symbol_count, values_of}
use Rattle.cert_text.specs.Contents.{Contents, numbered, numbered_rows}
use Rattle.cert_text.specs.Ranges.{IsCcf}
use Rattle.cert_text.specs.Readings.{entry_at, matrix_of}
use Rattle.cert_text.specs.Right.{IsRightCcf}
use Rattle.block_laws.specs.NumbersInBlocks.{q_right}
use Rattle.block_solver.specs.Blocks.{block_system}
use Rattle.block_solver.specs.Numbers.{AreSidesAt, AreSymbolRows, LacksOrigins, symbols_above}
use Rattle.block_solver.specs.Rows.{AreRowSums}
use Rattle.block_solver.specs.Solving.{numbers_in_blocks}
use Rattle.block_solver.proofs.FormParts.{IsSystemOf}
use Rattle.block_solver.proofs.LocalParts.{row_sum-all}
use Rattle.block_solver.proofs.SymbolNumbers.{above-all, symbol_row-none, symbol_row-number, symbol_row-rising, t-sides-are}

module _ (p : ℕ) (M : MixedMatrix) (layers : Layers) (split : List ℕ) (c : Contents) (is : IsCcf p c)
    (lay : IsLayeredMatrixOf M (layered_matrix_of layers) (origins_of layers split))
    (R : IsRightCcf p M (layered_matrix_of layers) (origins_of layers split) c) where
  abbrev L : LayeredMatrix
  L = layered_matrix_of layers

  abbrev O : Origins
  O = origins_of layers split

  t-count : length c.t ≡ length layers.t.rows
  t-count = is.t.count ∙ R.shape.t_rows

  t-rising : (i : ℕ) → i < L.t_rows → IsStrictlyIncreasing (slice_index_or c.t i [])
  t-rising i il = (is.t.columns i [] (subst (λ n. i < n) (sym t-count) il)).rising

  t-below : (i h : ℕ) → i < L.t_rows → h < length (slice_index_or c.t i []) → slice_index (slice_index_or c.t i []) h < L.columns
  t-below i h il hl = subst (λ n. slice_index (slice_index_or c.t i []) h < n) R.shape.columns
      ((is.t.columns i [] (subst (λ n. i < n) (sym t-count) il)).below h 0 hl)

  -- ---- what the calls ask
  pub all-rising : (t : List (List ℕ)) → t ≡ c.t → All IsStrictlyIncreasing t
  all-rising t e = subst (All IsStrictlyIncreasing) (sym e) (λ i d il. (is.t.columns i d il).rising)

  pub all-valued : (t : List (List ℕ)) (u n : ℕ) → t ≡ c.t → u ≡ M.columns → n ≡ symbol_count M → n ≡ symbols_above t u (length t)
  all-valued t u n e columns count = count ∙ sym (above-all M L O lay c.t R.transform.product_is.t)
      ∙ ap (symbols_above c.t M.columns) (sym t-count) ∙ ap (λ k. symbols_above c.t k (length c.t)) (sym columns)
      ∙ ap (λ rows. symbols_above rows u (length rows)) (sym e)

  pub q-origins-low : AreLayers layers → (n : ℕ) → n ≡ M.rows → All (λ e. e < n) layers.q_origins
  q-origins-low are n count i d il = subst (λ e. e < n) (get_or_default layers.q_origins i 0 d il)
      (subst (λ m. slice_index layers.q_origins i < m) (sym count) (lay.q_rows.below i (subst (λ m. i < m) are.q_origins il)))

  pub t-origins-low : AreLayers layers → (n : ℕ) → n ≡ M.rows → All (λ e. e < n) layers.t_origins
  t-origins-low are n count i d il = subst (λ e. e < n) (get_or_default layers.t_origins i 0 d il)
      (subst (λ m. slice_index layers.t_origins i < m) (sym count) (lay.t_rows.below i (subst (λ m. i < m) are.t_origins il)))

  pub symbols-given : {T : Type 0} (number : T → ℕ) (values : List ℕ) (slice : List (List ℕ)) (u : ℕ) (t : List (List (ℕ × T))) → slice ≡ c.t →
      u ≡ M.columns → AreSymbolRows p u (length slice) slice values (numbered_rows number t) →
      AreSymbolRows p M.columns (length c.t) c.t values (numbered_rows number t)
  symbols-given number values slice u t slice_is u_is are =
      subst (λ (l : List (List ℕ)). AreSymbolRows p M.columns (length l) l values (numbered_rows number t)) slice_is
      (subst (λ k. AreSymbolRows p k (length slice) slice values (numbered_rows number t)) u_is are)

  module _ {T : Type 0} (number : T → ℕ) (values : List ℕ) (t : List (List (ℕ × T)))
      (are : AreSymbolRows p M.columns (length c.t) c.t values (numbered_rows number t)) where
    rows-are : AreSymbolRows p M.columns L.t_rows c.t values (numbered_rows number t)
    rows-are = subst (λ n. AreSymbolRows p M.columns n c.t values (numbered_rows number t)) t-count are

    within : (i : ℕ) → i < L.t_rows → All (λ (e : ℕ × ℕ). e.0 < L.columns) (slice_index_or (numbered_rows number t) i [])
    within i il h d hl =
        let row = slice_index_or (numbered_rows number t) i [] in
        let there : h < length (slice_index_or c.t i []) = subst (λ n. h < n) (rows-are.row i il).count hl in
        subst (λ (e : ℕ × ℕ). e.0 < L.columns) (get_or_default row h (0, 0) d hl)
        (subst (λ k. k < L.columns) (sym ((rows-are.row i il).key h there)) (t-below i h il there))

    -- the columns of the rows of values
    pub t-keys : (n : ℕ) → n ≡ c.shape.columns → All (λ row. All (λ (e : ℕ × T). e.0 < n) row) t
    t-keys n size i d il h e hl =
        let row : List (ℕ × T) = slice_index_or t i d in
        let low : i < L.t_rows = subst (λ k. i < k) (sym (length-map t (numbered number)) ∙ rows-are.count) il in
        let row-is : slice_index_or (numbered_rows number t) i [] ≡ numbered number row = get_or-map (numbered number) t i d [] il in
        let all : All (λ (x : ℕ × ℕ). x.0 < L.columns) (numbered number row) = subst (All (λ (x : ℕ × ℕ). x.0 < L.columns)) row-is (within i low) in
        let key : slice_index_or (numbered number row) h (0, 0) ≡ ((slice_index_or row h e).0, number (slice_index_or row h e).1) =
        get_or-map (λ (x : ℕ × T). (x.0, number x.1)) row h e (0, 0) hl in
        subst (λ m. (slice_index_or row h e).0 < m) (sym (size ∙ R.shape.columns))
        (subst (λ (x : ℕ × ℕ). x.0 < L.columns) key
        (all h (0, 0) (subst (λ k. h < k) (sym (length-map row (λ (x : ℕ × T). (x.0, number x.1)))) hl)))

    -- ---- all together
    pub system-made : (right : List ℕ) (rows : List (List (ℕ × T))) (p_right t_right : List T) (qs rest : List ℕ) →
        numbered_rows number rows ≡ c.p → AreSidesAt (length layers.q.rows) layers.q_origins right qs → AreRowSums p c.s qs (map number p_right) →
        LacksOrigins (length layers.q.rows) layers.q_origins right rest →
        AreSidesAt (length layers.t.rows) layers.t_origins rest (map number t_right) →
        IsSystemOf p M L O c (numbers_in_blocks p M layers (values_of M values)) (slice_index right) (block_system number rows t p_right t_right)
    system-made right rows p_right t_right qs rest p_is q-sides sums lacks t-sides = record {
      p_is = p_is;
      t_count = rows-are.count;
      t_rising = symbol_row-rising M L O lay c.t R.transform.product_is.t p values (numbered_rows number t) rows-are t-rising;
      t_within = within;
      t_none = λ i j il jl none. symbol_row-none M L O lay c.t R.transform.product_is.t p values (numbered_rows number t) rows-are t-rising i j il
          (R.transform.product_is.t i j il jl ∙ none);
      t_number = symbol_row-number M L O lay c.t R.transform.product_is.t p values (numbered_rows number t) rows-are t-rising;
      p_side = p_side;
      t_side = t-sides-are M L O lay layers.q_origins layers.t_origins right rest (map number t_right) (λ _. refl) (λ _. refl) lacks t-sides;
    }
      where
        p_side : (i : ℕ) → i < L.q_rows → slice_index (map number p_right) i % p
            ≡ sum_below L.q_rows (λ t. matrix_of c.s i t * q_right O (slice_index right) t) % p
        p_side i il =
            let row = slice_index_or c.s i [] in
            let low : i < length c.s = subst (λ n. i < n) (sym (is.s.count ∙ R.shape.q_rows)) il in
            sums.sum i low
            ∙ ap (λ x. x % p) (row_sum-all L.q_rows row qs (is.s.entries i [] low).rising
            (λ h d hl. subst (λ n. (slice_index_or row h d).0 < n) R.shape.q_rows ((is.s.entries i [] low).within h d hl).0)
            ∙ sum_on-ext everything L.q_rows (λ j. slice_index qs j * entry_at row j) (λ t. matrix_of c.s i t * q_right O (slice_index right) t)
            (λ j jl _. ap (λ x. x * entry_at row j) (q-sides.side j jl) ∙ turned (slice_index right (slice_index layers.q_origins j)) (entry_at row j)))
          where
            turned : (x y : ℕ) → x * y ≡ y * x
            turned x y = omega arith

  -- the same from what the calls give
  pub system-given : {T : Type 0} (number : T → ℕ) (values right : List ℕ) (slice : List (List ℕ)) (u : ℕ) (t td rows ss : List (List (ℕ × T)))
      (p_right pd t_right td_right qs qd : List T) → slice ≡ c.t → u ≡ M.columns →
      AreSymbolRows p u (length slice) slice values (numbered_rows number t) → td ≡ t → numbered_rows number rows ≡ c.p →
      AreSidesAt (length layers.q.rows) layers.q_origins right (map number qs) → qd ≡ qs → numbered_rows number ss ≡ c.s →
      AreRowSums p (numbered_rows number ss) (map number qd) (map number p_right) → pd ≡ p_right →
      ((rest : List ℕ) × LacksOrigins (length layers.q.rows) layers.q_origins right rest
      × AreSidesAt (length layers.t.rows) layers.t_origins rest (map number t_right)) → td_right ≡ t_right →
      IsSystemOf p M L O c (numbers_in_blocks p M layers (values_of M values)) (slice_index right) (block_system number rows td pd td_right)
  system-given {T} number values right slice u t td rows ss p_right pd t_right td_right qs qd slice_is u_is are t_is p_is q-sides q_is s_is sums pd_is
      (rest, lacks, t-sides) td_is =
      subst (λ (l : List (List (ℕ × T))). IsSystemOf p M L O c w (slice_index right) (block_system number rows l pd td_right)) (sym t_is)
      (subst (λ (l : List T). IsSystemOf p M L O c w (slice_index right) (block_system number rows t l td_right)) (sym pd_is)
      (subst (λ (l : List T). IsSystemOf p M L O c w (slice_index right) (block_system number rows t p_right l)) (sym td_is)
      (system-made number values t (symbols-given number values slice u t slice_is u_is are) right rows p_right t_right (map number qs) rest p_is q-sides
      (subst (λ (l : List (List (ℕ × ℕ))). AreRowSums p l (map number qs) (map number p_right)) s_is
      (subst (λ (l : List T). AreRowSums p (numbered_rows number ss) (map number l) (map number p_right)) q_is sums))
      lacks t-sides)))
    where
      w : ℕ → ℕ → ℕ
      w = numbers_in_blocks p M layers (values_of M values)
