-- The form that is printed of a best tableau and of the parts of its arcs.
use Rattle.std.proofs.Common.{◌≡◌, ◌≢◌, ℕ, ◌+◌, ◌-◌, ◌<◌, ◌≤◌, ◌%◌, Bool, true, false, eqb, List, [], ◌∷◌, length}
use Rattle.std.proofs.Common.{map, get_or, inl, inr, refl, ap, sym, subst, ◌∙◌, arith}
use Rattle.std.proofs.lemmas.List.{get_or-map}
use Rattle.residue_theory.specs.Residues.{IsPrime}
use Rattle.residue_theory.specs.Sets.{has}
use Rattle.residue_theory.specs.Sums.{size_on}
use Rattle.residue_theory.proofs.SumLaws.{sum_on-same}
use Rattle.residue_theory.proofs.SetLaws.{differ, eqb_from, lt_cases}
use Rattle.closed_sets.specs.Blocks.{IsListing}
use Rattle.mixed_matrices.specs.Arcs.{has_base, has_match, is_end, is_free, leads_to}
use Rattle.mixed_matrices.specs.CheckerRules.{HasRows, KeepsPartRules, block_of, in_first, in_last}
use Rattle.mixed_matrices.specs.Forms.{Parts}
use Rattle.mixed_matrices.specs.LayeredMatrices.{LayeredMatrix}
use Rattle.mixed_matrices.specs.Layerings.{IsLayeredMatrixOf, Origins}
use Rattle.mixed_matrices.specs.Models.{MixedMatrix}
use Rattle.mixed_matrices.specs.Pairs.{pair_size}
use Rattle.mixed_matrices.specs.Tableaus.{Tableau}
use Rattle.mixed_layering_laws.proofs.LayeringRank.{model_rank}
use Rattle.mixed_pair_laws.proofs.ArcFacts.{base_found, match_found, no_base, no_match}
use Rattle.mixed_form_laws.proofs.FormExists.{found-kept, found_below, found_lower, found_parts}
use Rattle.cert_text.specs.Contents.{Contents}
use Rattle.cert_text.specs.Ranges.{AreRising, IsBlock, IsCcf, IsPart, IsShape}
use Rattle.cert_text.specs.Readings.{column_lists, has_column, lower_of, matrix_of, pair_at, place_of, q_row_lists, row_with, t_row_lists, tableau_of}
use Rattle.cert_text.specs.Right.{HasShape, HasUnitColumns, IsRightCcf}
use Rattle.cert_text.specs.Rules.{HasMatching}
use Rattle.cert_text.specs.declared.part.CcfBlock.{CcfBlock}
use Rattle.cert_text.specs.declared.part.CcfPart.{CcfPart}
use Rattle.cert_text.proofs.PrintedRules.{KeepsPrintedRules, has-below, lower-before}
use Rattle.cert_text.proofs.RightFacts.{rules-right}
use Rattle.ccf_builder.specs.Pairs.{ListsPairs}
use Rattle.ccf_builder.proofs.Counts.{few-q_rows, few-split, few-t_rows}
use Rattle.ccf_builder.proofs.PairLists.{are-pairs, column-same, columns-differ, counted, row-same}
use Rattle.ccf_builder.proofs.Products.{inverse-entries, product-entries}
use Rattle.ccf_builder.proofs.SameRules.{same-below, same-rules}
use Rattle.ccf_builder.proofs.SameTableau.{same-arcs, same-ends, same-free, same-has_base, same-has_match}
use Rattle.existence_laws.specs.Forms.{HasRightForm}
use Rattle.existence_laws.proofs.Lists.{members-are, members-has, members_of, pairs-are, pairs-few, pairs_of}
use Rattle.existence_laws.proofs.Lists.{pattern-prints, pattern_rows, rows-print, rows_of, same_test, values-at}
use Rattle.existence_laws.proofs.Lists.{values-long, values_of}
use Rattle.existence_laws.proofs.PlacedLists.{all-at, all-long, once, place, placed}
use Rattle.existence_laws.proofs.Reduced.{LowTableau}

-- the column of a row, where it has one
base_at : (L : LayeredMatrix) (F : Tableau) (i : ℕ) (v : Bool) → has_base L F i ≡ v → ℕ
base_at L F i true e = (base_found L F i e).0
base_at L F i false e = 0

match_at : (L : LayeredMatrix) (F : Tableau) (i : ℕ) (v : Bool) → has_match L F i ≡ v → ℕ
match_at L F i true e = (match_found L F i e).0
match_at L F i false e = 0

-- column y is that of row r
abbrev Based : LayeredMatrix → Tableau → ℕ → ℕ → Type 0
Based L F r y = (y < L.columns) × (F.base y ≡ true) × (F.row y ≡ r)

abbrev Mated : LayeredMatrix → Tableau → ℕ → ℕ → Type 0
Mated L F r y = (y < L.columns) × (F.matched y ≡ true) × (F.mate y ≡ r)

based-at : (L : LayeredMatrix) (F : Tableau) (r : ℕ) (v : Bool) (e : has_base L F r ≡ v) → v ≡ true → Based L F r (base_at L F r v e)
unfolding base_at
based-at L F r true e h = let at = base_found L F r e in (at.1, at.2, at.3)
based-at L F r false e h = absurd (differ refl h)

mated-at : (L : LayeredMatrix) (F : Tableau) (r : ℕ) (v : Bool) (e : has_match L F r ≡ v) → v ≡ true → Mated L F r (match_at L F r v e)
unfolding match_at
mated-at L F r true e h = let at = match_found L F r e in (at.1, at.2, at.3)
mated-at L F r false e h = absurd (differ refl h)

module _ (p : ℕ) (L : LayeredMatrix) (T : LowTableau p L) (b : ℕ) (block : ℕ → ℕ)
    (listing : IsListing (leads_to p L T.F) L.columns (is_free T.F) (is_end p L T.F) block b) where
  abbrev F : Tableau
  F = T.F

  abbrev G : Parts
  G = found_parts p L F T.is.base.distinct T.is.matching.distinct T.clear b block listing

  abbrev below : ℕ → ℕ → Bool
  below = found_below p L F T.is.base.distinct T.is.matching.distinct T.clear b block listing

  abbrev lower : ℕ → ℕ → Bool
  lower = found_lower p L F T.is.base.distinct T.is.matching.distinct T.clear b block listing

  kept : KeepsPartRules p L F G below lower
  kept = found-kept p L F T.is.base.distinct T.is.matching.distinct T.clear b block listing

  -- ---- the pair
  abbrev base : List (ℕ × ℕ)
  base = pairs_of (has_base L F) (λ i. base_at L F i (has_base L F i) refl) L.q_rows

  abbrev mates : List (ℕ × ℕ)
  mates = pairs_of (has_match L F) (λ i. match_at L F i (has_match L F i) refl) L.t_rows

  base-lists : ListsPairs (Based L F) L.q_rows base
  base-lists = pairs-are (Based L F) (has_base L F) (λ i. base_at L F i (has_base L F i) refl)
      (λ r y z hy hz. T.is.base.distinct y z hy.0 hz.0 hy.1 hz.1 (hy.2 ∙ sym hz.2))
      (λ r h. based-at L F r (has_base L F r) refl h)
      (λ r y e h. no_base L F r e y h.0 h.1 h.2) L.q_rows

  mate-lists : ListsPairs (Mated L F) L.t_rows mates
  mate-lists = pairs-are (Mated L F) (has_match L F) (λ i. match_at L F i (has_match L F i) refl)
      (λ r y z hy hz. T.is.matching.distinct y z hy.0 hz.0 hy.1 hz.1 (hy.2 ∙ sym hz.2))
      (λ r h. mated-at L F r (has_match L F r) refl h)
      (λ r y e h. no_match L F r e y h.0 h.1 h.2) L.t_rows

  base-same : (y : ℕ) → y < L.columns → has_column base y ≡ F.base y
  base-same = column-same (Based L F) L.q_rows L.columns base base-lists F.base F.row (λ r y h. h) (λ y yl h. (yl, h, refl)) T.is.base.row_below

  base-row : (y : ℕ) → y < L.columns → F.base y ≡ true → row_with base y ≡ F.row y
  base-row = row-same (Based L F) L.q_rows L.columns base base-lists F.base F.row (λ r y h. h) (λ y yl h. (yl, h, refl)) T.is.base.row_below

  mate-same : (y : ℕ) → y < L.columns → has_column mates y ≡ F.matched y
  mate-same = column-same (Mated L F) L.t_rows L.columns mates mate-lists F.matched F.mate (λ r y h. h) (λ y yl h. (yl, h, refl)) T.is.matching.below

  mate-row : (y : ℕ) → y < L.columns → F.matched y ≡ true → row_with mates y ≡ F.mate y
  mate-row = row-same (Mated L F) L.t_rows L.columns mates mate-lists F.matched F.mate (λ r y h. h) (λ y yl h. (yl, h, refl)) T.is.matching.below

  size : pair_size L F.base F.matched ≡ length base + length mates
  size =
      let one : size_on (has_column base) L.columns ≡ length base =
      counted (Based L F) L.q_rows L.columns base base-lists F.base F.row (λ r y h. h) (λ y yl h. (yl, h, refl)) T.is.base.row_below in
      let two : size_on (has_column mates) L.columns ≡ length mates =
      counted (Mated L F) L.t_rows L.columns mates mate-lists F.matched F.mate (λ r y h. h) (λ y yl h. (yl, h, refl)) T.is.matching.below in
      let three : size_on (has_column base) L.columns ≡ size_on F.base L.columns = sum_on-same (has_column base) F.base L.columns (λ _. 1) base-same in
      let four : size_on (has_column mates) L.columns ≡ size_on F.matched L.columns = sum_on-same (has_column mates) F.matched L.columns (λ _. 1) mate-same in
      omega (arith, one, two, three, four)

  -- ---- the parts
  abbrev part : ℕ → CcfPart
  part k = record { columns = placed G.column L.columns k; q_rows = placed G.q_row L.q_rows k; t_rows = placed G.t_row L.t_rows k }

  abbrev block_at : ℕ → CcfBlock
  block_at k = record { part = part (k + 1); lower = members_of (lower k) k }

  abbrev blocks : List CcfBlock
  blocks = values_of block_at b

  module _ (M : MixedMatrix) (O : Origins) where
    abbrev c : Contents
    c = record {
      shape = record { equations = M.rows; unknowns = M.columns; q_rows = L.q_rows; t_rows = L.t_rows; columns = L.columns };
      rank = length base + length mates - O.split;
      base = base;
      mates = mates;
      s = rows_of T.S L.q_rows L.q_rows;
      u = rows_of T.U L.q_rows L.q_rows;
      p = rows_of F.P L.q_rows L.columns;
      t = pattern_rows L.t L.t_rows L.columns;
      first = part 0;
      blocks = blocks;
      last = part (b + 1);
    }

    columns-within : (x : ℕ) → x < L.columns → G.column x ≤ b + 1
    columns-within = kept.rows.columns

    q-within : (i : ℕ) → i < L.q_rows → G.q_row i ≤ b + 1
    q-within i il = go (has_base L F i) refl
      where
        go : (v : Bool) → has_base L F i ≡ v → G.q_row i ≤ b + 1
        go true e =
            let at = base_found L F i e in
            let column : G.q_row (F.row at.0) ≡ G.column at.0 = kept.rows.base at.0 at.1 at.2 in
            let row : G.q_row (F.row at.0) ≡ G.q_row i = ap G.q_row at.3 in
            omega (arith, column, row, columns-within at.0 at.1)
        go false e = omega (arith, kept.rows.other_q i il e)

    t-within : (i : ℕ) → i < L.t_rows → G.t_row i ≤ b + 1
    t-within i il = go (has_match L F i) refl
      where
        go : (v : Bool) → has_match L F i ≡ v → G.t_row i ≤ b + 1
        go true e =
            let at = match_found L F i e in
            let column : G.t_row (F.mate at.0) ≡ G.column at.0 = kept.rows.matched at.0 at.1 at.2 in
            let row : G.t_row (F.mate at.0) ≡ G.t_row i = ap G.t_row at.3 in
            omega (arith, column, row, columns-within at.0 at.1)
        go false e = omega (arith, kept.rows.other_t i il e)

    columns-long : length (column_lists c) ≡ b + 2
    columns-long = all-long (λ (d : CcfBlock). d.part.columns) block_at b (placed G.column L.columns) (λ k. refl)

    columns-at : (k : ℕ) → k ≤ b + 1 → get_or (column_lists c) k [] ≡ placed G.column L.columns k
    columns-at = all-at (λ (d : CcfBlock). d.part.columns) block_at b (placed G.column L.columns) (λ k. refl)

    q-long : length (q_row_lists c) ≡ b + 2
    q-long = all-long (λ (d : CcfBlock). d.part.q_rows) block_at b (placed G.q_row L.q_rows) (λ k. refl)

    q-at : (k : ℕ) → k ≤ b + 1 → get_or (q_row_lists c) k [] ≡ placed G.q_row L.q_rows k
    q-at = all-at (λ (d : CcfBlock). d.part.q_rows) block_at b (placed G.q_row L.q_rows) (λ k. refl)

    t-long : length (t_row_lists c) ≡ b + 2
    t-long = all-long (λ (d : CcfBlock). d.part.t_rows) block_at b (placed G.t_row L.t_rows) (λ k. refl)

    t-at : (k : ℕ) → k ≤ b + 1 → get_or (t_row_lists c) k [] ≡ placed G.t_row L.t_rows k
    t-at = all-at (λ (d : CcfBlock). d.part.t_rows) block_at b (placed G.t_row L.t_rows) (λ k. refl)

    column-place : (x : ℕ) → x < L.columns → place_of (column_lists c) x ≡ G.column x
    column-place = place L.columns b G.column columns-within (column_lists c) columns-long columns-at

    q-place : (i : ℕ) → i < L.q_rows → place_of (q_row_lists c) i ≡ G.q_row i
    q-place = place L.q_rows b G.q_row q-within (q_row_lists c) q-long q-at

    t-place : (i : ℕ) → i < L.t_rows → place_of (t_row_lists c) i ≡ G.t_row i
    t-place = place L.t_rows b G.t_row t-within (t_row_lists c) t-long t-at

    -- ---- the ranges
    placed-rises : (f : ℕ → ℕ) (n k : ℕ) → AreRising n (placed f n k)
    placed-rises f n k = (members-are (λ x. eqb (f x) k) n).rising

    part-is : (k : ℕ) → IsPart c.shape (part k)
    part-is k = record {
      columns = placed-rises G.column L.columns k;
      q_rows = placed-rises G.q_row L.q_rows k;
      t_rows = placed-rises G.t_row L.t_rows k;
    }

    some-length : (xs : List ℕ) (x : ℕ) → has xs x ≡ true → 0 < length xs
    some-length [] x h = absurd (differ refl h)
    some-length (y ∷ xs) x h = omega arith

    -- each block has a column
    block-some : (k : ℕ) → k < b → 0 < length (placed G.column L.columns (k + 1))
    block-some k kl =
        let found = kept.rules.member k kl in
        let x : ℕ = found.0 in
        let middle = found.1 in
        let number : G.column x - 1 ≡ k = found.2 in
        let not_zero : G.column x ≢ 0 = λ e. differ middle.not_first (eqb_from (G.column x) 0 e) in
        let at : G.column x ≡ k + 1 = omega (arith, number, not_zero) in
        some-length (placed G.column L.columns (k + 1)) x
        (members-has (λ y. eqb (G.column y) (k + 1)) L.columns x middle.below ∙ eqb_from (G.column x) (k + 1) at)

    lower-rises : (k : ℕ) → AreRising k (members_of (lower k) k)
    lower-rises k = (members-are (lower k) k).rising

    block-is : (k : ℕ) (d : CcfBlock) → k < length blocks → IsBlock c.shape k (get_or blocks k d)
    block-is k d kl =
        let low : k < b = omega (arith, kl, values-long block_at b) in
        subst (IsBlock c.shape k) (sym (values-at block_at b k d low))
        (record { part = part-is (k + 1); some = block-some k low; lower = lower-rises k })

    shape-is : M.rows ≤ 4096 → M.columns ≤ 4096 → IsLayeredMatrixOf M L O → IsShape c.shape
    shape-is rows columns lay = record {
      equations = rows;
      unknowns = columns;
      q_rows = omega (arith, few-q_rows M L O lay, rows);
      t_rows = omega (arith, few-t_rows M L O lay, rows);
      columns = omega (arith, few-split M L O lay, rows, columns, lay.columns);
    }

    fits : M.rows ≤ 4096 → M.columns ≤ 4096 → IsLayeredMatrixOf M L O → IsCcf p c
    fits rows columns lay = record {
      shape = shape-is rows columns lay;
      rank =
          let few_base = pairs-few (has_base L F) (λ i. base_at L F i (has_base L F i) refl) L.q_rows in
          let few_mates = pairs-few (has_match L F) (λ i. match_at L F i (has_match L F i) refl) L.t_rows in
          omega (arith, few_base, few_mates, few-q_rows M L O lay, few-t_rows M L O lay, rows);
      base = are-pairs (Based L F) L.q_rows L.columns base base-lists F.base F.row (λ r y h. h) (λ y yl h. (yl, h, refl)) T.is.base.row_below;
      mates = are-pairs (Mated L F) L.t_rows L.columns mates mate-lists F.matched F.mate (λ r y h. h) (λ y yl h. (yl, h, refl)) T.is.matching.below;
      s = (rows-print p L.q_rows T.S T.s_low L.q_rows).is;
      u = (rows-print p L.q_rows T.U T.u_low L.q_rows).is;
      p = (rows-print p L.columns F.P T.p_low L.q_rows).is;
      t = (pattern-prints L.t L.columns L.t_rows).is;
      first = part-is 0;
      blocks = block-is;
      last = part-is (b + 1);
    }

    -- ---- the same arcs
    p-same : (i j : ℕ) → i < L.q_rows → j < L.columns → F.P i j ≡ matrix_of c.p i j
    p-same i j il jl = sym ((rows-print p L.columns F.P T.p_low L.q_rows).same i j il jl)

    arcs-same : (x y : ℕ) → x < L.columns → y < L.columns → leads_to p L F x y ≡ leads_to p L (tableau_of c) x y
    arcs-same = same-arcs p L F (tableau_of c) (λ y yl. sym (base-same y yl)) (λ y yl h. sym (base-row y yl h)) T.is.base.row_below
        (λ y yl. sym (mate-same y yl)) (λ y yl h. sym (mate-row y yl h)) p-same

    free-same : (x : ℕ) → x < L.columns → is_free F x ≡ is_free (tableau_of c) x
    free-same = same-free p L F (tableau_of c) (λ y yl. sym (base-same y yl)) (λ y yl h. sym (base-row y yl h)) T.is.base.row_below
        (λ y yl. sym (mate-same y yl)) (λ y yl h. sym (mate-row y yl h)) p-same

    ends-same : (x : ℕ) → x < L.columns → is_end p L F x ≡ is_end p L (tableau_of c) x
    ends-same = same-ends p L F (tableau_of c) (λ y yl. sym (base-same y yl)) (λ y yl h. sym (base-row y yl h)) T.is.base.row_below
        (λ y yl. sym (mate-same y yl)) (λ y yl h. sym (mate-row y yl h)) p-same

    has-base-same : (i : ℕ) → has_base L F i ≡ has_base L (tableau_of c) i
    has-base-same = same-has_base p L F (tableau_of c) (λ y yl. sym (base-same y yl)) (λ y yl h. sym (base-row y yl h)) T.is.base.row_below
        (λ y yl. sym (mate-same y yl)) (λ y yl h. sym (mate-row y yl h)) p-same

    has-match-same : (i : ℕ) → has_match L F i ≡ has_match L (tableau_of c) i
    has-match-same = same-has_match p L F (tableau_of c) (λ y yl. sym (base-same y yl)) (λ y yl h. sym (base-row y yl h)) T.is.base.row_below
        (λ y yl. sym (mate-same y yl)) (λ y yl h. sym (mate-row y yl h)) p-same

    -- ---- the same parts, with this number of blocks
    abbrev K : Parts
    K = record { blocks = b; column = place_of (column_lists c); q_row = place_of (q_row_lists c); t_row = place_of (t_row_lists c) }

    first-same : (x : ℕ) → x < L.columns → in_first G x ≡ in_first K x
    first-same x xl = ap (λ k. eqb k 0) (sym (column-place x xl))

    last-same : (x : ℕ) → x < L.columns → in_last G x ≡ in_last K x
    last-same x xl = ap (λ k. eqb k (b + 1)) (sym (column-place x xl))

    number-same : (x : ℕ) → x < L.columns → block_of G x ≡ block_of K x
    number-same x xl = ap (λ k. k - 1) (sym (column-place x xl))

    lower-list : (l : ℕ) → l < b → get_or (map (λ (d : CcfBlock). d.lower) blocks) l [] ≡ members_of (lower l) l
    lower-list l ll = get_or-map (λ (d : CcfBlock). d.lower) blocks l (block_at 0) [] (omega (arith, ll, values-long block_at b))
        ∙ ap (λ (d : CcfBlock). d.lower) (values-at block_at b l (block_at 0) ll)

    lower-same : (l k : ℕ) → l < b → k < b → lower l k ≡ lower_of c l k
    lower-same l k ll kl = elim (lt_cases k l) [
      | inl less ↦ sym (ap (λ list. has list k) (lower-list l ll) ∙ members-has (lower l) l k less)
      | inr more ↦
          same_test (lower l k) (lower_of c l k)
          (λ h. absurd (omega (arith, kept.rules.falling k l h, more)))
          (λ h. absurd (omega (
            arith,
            more,
            has-below l (members_of (lower l) l) k (lower-rises l).below (sym (ap (λ list. has list k) (lower-list l ll)) ∙ h),
          )))
    ]

    rows-kept : HasRows L (tableau_of c) K
    rows-kept = record {
      columns = λ x xl. subst (λ k. k ≤ b + 1) (sym (column-place x xl)) (columns-within x xl);
      base = λ y yl h.
          let member : F.base y ≡ true = sym (base-same y yl) ∙ h in
          let row : row_with base y ≡ F.row y = base-row y yl member in
          ap (place_of (q_row_lists c)) row ∙ q-place (F.row y) (T.is.base.row_below y yl member)
          ∙ kept.rows.base y yl member ∙ sym (column-place y yl);
      matched = λ y yl h.
          let member : F.matched y ≡ true = sym (mate-same y yl) ∙ h in
          let row : row_with mates y ≡ F.mate y = mate-row y yl member in
          ap (place_of (t_row_lists c)) row ∙ t-place (F.mate y) (T.is.matching.below y yl member)
          ∙ kept.rows.matched y yl member ∙ sym (column-place y yl);
      other_q = λ i il e. q-place i il ∙ kept.rows.other_q i il (has-base-same i ∙ e);
      other_t = λ i il e. t-place i il ∙ kept.rows.other_t i il (has-match-same i ∙ e);
    }

    parts-kept : IsCcf p c → KeepsPartRules p L (tableau_of c) K below (lower_of c)
    parts-kept is = record {
      rows = rows-kept;
      rules = same-rules (leads_to p L F) (leads_to p L (tableau_of c)) L.columns (is_free F) (is_free (tableau_of c)) (is_end p L F)
          (is_end p L (tableau_of c)) arcs-same free-same ends-same (in_first G) (in_first K) (in_last G) (in_last K) (block_of G) (block_of K) b
          lower (lower_of c) first-same last-same (λ x m. number-same x m.below) lower-same (λ k l h. (lower-before p c is k l h).0) kept.rules;
      order = same-below (leads_to p L F) (leads_to p L (tableau_of c)) L.columns (is_free F) (is_free (tableau_of c)) (is_end p L F)
          (is_end p L (tableau_of c)) arcs-same free-same ends-same (block_of G) (block_of K) b below (λ x m. number-same x m.0) kept.order;
      lists = record {
        is_below = λ k l kl ll h. kept.lists.is_below k l kl ll (lower-same l k ll kl ∙ h);
        none_between = λ k m l kl ml ll h. kept.lists.none_between k m l kl ml ll (lower-same l k ll kl ∙ h);
        all = λ k l kl ll h none. sym (lower-same l k ll kl) ∙ kept.lists.all k l kl ll h none;
      };
    }

    -- ---- the rules
    unit-columns : HasUnitColumns p L c
    unit-columns k kl =
        let at = base-lists.member k kl in
        let r : ℕ = (pair_at base k).0 in
        let y : ℕ = (pair_at base k).1 in
        let row : F.row y ≡ r = at.2 in
        let low : r < L.q_rows = base-lists.below k kl in
        let one : F.P r y % p ≡ 1 = subst (λ i. F.P i y % p ≡ 1) row (T.is.base.one y at.0 at.1) in
        record {
          one = ap (λ x. x % p) (sym (p-same r y low at.0)) ∙ one;
          zero = λ i il other. ap (λ x. x % p) (sym (p-same i y il at.0)) ∙ T.is.base.zero y i at.0 at.1 il (λ e. other (e ∙ row));
        }

    matching-kept : HasMatching L c
    matching-kept = record {
      symbols = λ k kl.
          let at = mate-lists.member k kl in
          subst (λ i. L.t i (pair_at mates k).1 ≡ true) at.2 (T.is.matching.symbol (pair_at mates k).1 at.0 at.1);
      differ = record {
        in_base = columns-differ (Based L F) L.q_rows L.columns base base-lists F.base F.row (λ r y h. h) (λ y yl h. (yl, h, refl)) T.is.base.row_below;
        in_mates = columns-differ (Mated L F) L.t_rows L.columns mates mate-lists F.matched F.mate (λ r y h. h) (λ y yl h. (yl, h, refl)) T.is.matching.below;
        apart = λ k l kl ll same.
            let one = base-lists.member k kl in
            let two = mate-lists.member l ll in
            let none : F.matched (pair_at base k).1 ≡ false = T.is.apart (pair_at base k).1 one.0 one.1 in
            differ none (ap F.matched same ∙ two.1);
      };
    }

    shape-same : HasShape M L c
    shape-same = record { equations = refl; unknowns = refl; q_rows = refl; t_rows = refl; columns = refl }

    module _ (prime : IsPrime p) (big : 2 < p) (lay : IsLayeredMatrixOf M L O) (is : IsCcf p c) where
      count : c.rank + L.columns ≡ M.columns + (length base + length mates)
      count =
          let rank = model_rank p prime big M L O lay (pair_size L F.base F.matched) T.rank in
          omega (arith, rank.1, size, lay.columns)

      rules : KeepsPrintedRules p M L c
      rules = record {
        shape = shape-same;
        inverse = inverse-entries p L.q_rows (matrix_of c.s) T.S (matrix_of c.u) T.U
            (rows-print p L.q_rows T.S T.s_low L.q_rows).same (rows-print p L.q_rows T.U T.u_low L.q_rows).same T.is.inverse;
        product_is = record {
          q = product-entries p L.q_rows L.columns (matrix_of c.s) T.S L.q (matrix_of c.p) F.P
              (rows-print p L.q_rows T.S T.s_low L.q_rows).same (rows-print p L.columns F.P T.p_low L.q_rows).same T.is.product;
          t = (pattern-prints L.t L.columns L.t_rows).same;
        };
        units = unit-columns;
        matching = matching-kept;
        counted = count;
        columns = once L.columns b G.column columns-within (column_lists c) columns-long columns-at;
        checked = record {
          q_rows = once L.q_rows b G.q_row q-within (q_row_lists c) q-long q-at;
          t_rows = once L.t_rows b G.t_row t-within (t_row_lists c) t-long t-at;
          below = below;
          parts = subst (λ m. KeepsPartRules p L (tableau_of c) (record K { blocks = m }) below (lower_of c))
              (sym (values-long block_at b)) (parts-kept is);
        };
      }

      printed-right : IsRightCcf p M L O c
      printed-right = rules-right p prime big M L O lay c is rules

    pub form-of : IsPrime p → 2 < p → M.rows ≤ 4096 → M.columns ≤ 4096 → IsLayeredMatrixOf M L O → HasRightForm p M L O
    form-of prime big rows columns lay =
        let is : IsCcf p c = fits rows columns lay in
        record { form = c; is = is; right = printed-right prime big lay is }
