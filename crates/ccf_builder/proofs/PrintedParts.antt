-- The printed parts of an engine's arcs keep their rules.
use Rattle.std.proofs.Common.{◌≡◌, ℕ, ◌<◌, Bool, true, false, cond, eqb, ◌&&◌, List, [], ◌∷◌}
use Rattle.std.proofs.Common.{◌++◌, length, map, get_or, slice_get, slice_index_or, Some, refl, ap, sym, ◌∙◌, subst}
use Rattle.std.proofs.Common.{arith}
use Rattle.std.proofs.lemmas.List.{get_or-map, length-map}
use Rattle.residue_theory.proofs.SetLaws.{differ, both_true, eqb_from, some_below-holds}
use Rattle.dense_q.specs.Tables.{entry}
use Rattle.bipartite_matching.specs.Matchings.{Matching}
use Rattle.closed_sets.specs.Blocks.{IsBelow}
use Rattle.closed_sets.specs.Closed.{NoEndReached}
use Rattle.closed_sets.specs.Orders.{IsCover}
use Rattle.closed_sets.specs.Rules.{KeepsPlaceRules as KeepsPlaces}
use Rattle.mixed_matrices.specs.Arcs.{has_base, has_match, is_end, is_free, leads_to}
use Rattle.mixed_matrices.specs.CheckerRules.{HasRows, KeepsPartRules, block_of, in_first, in_last}
use Rattle.mixed_matrices.specs.Forms.{Parts as Forms}
use Rattle.mixed_matrices.specs.LayeredMatrices.{LayeredMatrix}
use Rattle.mixed_matrices.specs.Tableaus.{Tableau}
use Rattle.mixed_model.specs.Layers.{Layers}
use Rattle.row_transform.specs.Tableaus.{TableauState, IsTableau, IsBaseColumn}
use Rattle.independent_matching.specs.Sides.{layers_of, is_matched, mate_of}
use Rattle.independent_matching.proofs.EngineLaws.{same-arcs as kept-arcs, same-ends as kept-ends}
use Rattle.minimiser_lattice.specs.Parts.{PlaceParts, part_in}
use Rattle.minimiser_lattice.specs.declared.lattice.Part.{Part}
use Rattle.minimiser_lattice.specs.declared.lattice.Part.TheVariants.{First, Block, Last}
use Rattle.residue_theory.specs.Sets.{has}
use Rattle.cert_text.specs.Readings.{has_column, row_with, place_of, StandsOnce}
use Rattle.cert_text.specs.declared.part.CcfPart.{CcfPart}
use Rattle.cert_text.specs.declared.part.CcfBlock.{CcfBlock}
use Rattle.ccf_builder.specs.Decompositions.{IsDecomposition}
use Rattle.ccf_builder.specs.Pairs.{ListsPairs, IsMate}
use Rattle.ccf_builder.specs.Placings.{PlacesColumns, PlacesRows, Placing, HasPart, HasBlock, ListsBelow, ListsPart}
use Rattle.ccf_builder.specs.Solutions.{IsSolution}
use Rattle.ccf_builder.proofs.PrintedPair.{L, F, G, solved, base_told, base_has, base_low, mate_told, mate_has}
use Rattle.ccf_builder.proofs.PrintedPair.{mate_low, printed-arc, printed-free, printed-end}
use Rattle.ccf_builder.proofs.RowParts.{bare-part, column-part, part_of_row, row-bounded, row-part, row-with-below}
use Rattle.ccf_builder.proofs.ListedParts.{bounded as listed-bounded, column-few as listed-few, column-place as listed-place}
use Rattle.ccf_builder.proofs.ListedParts.{column-told as listed-told, columns-once as listed-once}
use Rattle.ccf_builder.proofs.ListedParts.{covers-listed, order-listed, rules-listed}
use Rattle.ccf_builder.proofs.PartLists.{IsOfBlocks, once, place, place_of_part}
use Rattle.ccf_builder.proofs.SameRules.{same-clear}
use Rattle.cert_text.specs.Printing.{PrintsMatrix}

-- no rows and no columns
abbrev pub no_part : CcfPart
no_part = record { columns = []; q_rows = []; t_rows = [] }

abbrev pub no_block : CcfBlock
no_block = record { part = no_part; lower = [] }

-- the lists of one kind of a part: its columns, its Q rows or its T rows
module _ (list_of : CcfPart → List ℕ) (parts : List Part) (blocks : List CcfBlock)
    (in_blocks : (k : ℕ) → k < length blocks → ListsPart parts (Block k) (list_of (get_or blocks k no_block).part)) where
  abbrev pub middle_lists : List (List ℕ)
  middle_lists = map (λ (block : CcfBlock). list_of block.part) blocks

  pub middle-count : length middle_lists ≡ length blocks
  middle-count = length-map blocks (λ (block : CcfBlock). list_of block.part)

  pub middle-lists : (k : ℕ) → k < length blocks → ListsPart parts (Block k) (get_or middle_lists k [])
  middle-lists k kb = subst (λ list. ListsPart parts (Block k) list)
      (sym (get_or-map (λ (block : CcfBlock). list_of block.part) blocks k no_block [] kb)) (in_blocks k kb)

module _ (p : ℕ) (of : Layers) (S : TableauState) (M : Matching) (reached : ℕ → Bool) (solution : IsSolution p of S M reached) (tableau : IsTableau p S)
    (base mates : List (ℕ × ℕ)) (bases : ListsPairs (IsBaseColumn S) S.rows base)
    (matched : ListsPairs (IsMate M S.columns) (L p of S M reached solution tableau).t_rows mates)
    (P : List (List (ℕ × ℕ))) (prints_p : PrintsMatrix p S.rows S.columns S.p P)
    (v : PlaceParts) (decomposed : IsDecomposition p S M v)
    (placing : Placing) (of_columns : PlacesColumns v placing.columns) (of_q : PlacesRows S.rows base placing.columns placing.q_rows)
    (of_t : PlacesRows (L p of S M reached solution tableau).t_rows mates placing.columns placing.t_rows)
    (first last : CcfPart) (blocks : List CcfBlock) (of_first : HasPart placing First first) (count : length blocks ≡ v.blocks)
    (in_blocks : (k : ℕ) (d : CcfBlock) → k < length blocks → HasBlock placing v k (slice_index_or blocks k d)) (of_last : HasPart placing Last last) where
  abbrev N : LayeredMatrix
  N = L p of S M reached solution tableau

  abbrev H : Tableau
  H = G p of S M reached solution tableau base mates bases matched P prints_p

  abbrev arc : ℕ → ℕ → Bool
  arc = leads_to p (layers_of S M) (F p of S M reached solution tableau)

  pub clear : NoEndReached arc S.columns decomposed.starts decomposed.ends
  clear = same-clear (leads_to p N (F p of S M reached solution tableau)) arc S.columns
      (is_free (F p of S M reached solution tableau)) decomposed.starts
      (is_end p N (F p of S M reached solution tableau)) decomposed.ends
      (λ x y _ _. ap (λ (a : ℕ → ℕ → Bool). a x y) (kept-arcs p (entry of.q) S M)) (λ x xl. sym (decomposed.starts_are x xl))
      (λ x xl. ap (λ (e : ℕ → Bool). e x) (kept-ends p (entry of.q) S M) ∙ sym (decomposed.ends_are x xl)) (solved p of S M reached solution tableau).no_walk

  pub rules : KeepsPlaces arc S.columns decomposed.starts decomposed.ends v.first v.last v.block v.blocks v.covers
  rules = decomposed.rules clear

  -- the columns
  column_blocks : (k : ℕ) → k < length blocks → ListsPart placing.columns (Block k) (get_or blocks k no_block).part.columns
  column_blocks k kb = (in_blocks k no_block kb).part.columns

  lower_list : (k : ℕ) → k < length blocks → ListsBelow (λ j. v.covers k j ≡ true) k (get_or (map (λ (block : CcfBlock). block.lower) blocks) k [])
  lower_list k kb = subst (λ list. ListsBelow (λ j. v.covers k j ≡ true) k list)
      (sym (get_or-map (λ (block : CcfBlock). block.lower) blocks k no_block [] kb)) (in_blocks k no_block kb).lower

  pub bounded : (x : ℕ) → x < S.columns → IsOfBlocks v.blocks (part_in v x)
  bounded = listed-bounded arc S.columns decomposed.starts decomposed.ends v decomposed.places decomposed.lattice rules placing.columns of_columns
      (length blocks) count first.columns last.columns (middle_lists (λ part. part.columns) placing.columns blocks column_blocks)
      (map (λ (block : CcfBlock). block.lower) blocks) (middle-count (λ part. part.columns) placing.columns blocks column_blocks)
      (length-map blocks (λ (block : CcfBlock). block.lower)) of_first.columns
      (middle-lists (λ part. part.columns) placing.columns blocks column_blocks) of_last.columns lower_list

  pub column-told : (x : ℕ) → x < S.columns → slice_get placing.columns x ≡ Some (part_in v x)
  column-told = listed-told arc S.columns decomposed.starts decomposed.ends v decomposed.places decomposed.lattice rules placing.columns of_columns
      (length blocks) count first.columns last.columns (middle_lists (λ part. part.columns) placing.columns blocks column_blocks)
      (map (λ (block : CcfBlock). block.lower) blocks) (middle-count (λ part. part.columns) placing.columns blocks column_blocks)
      (length-map blocks (λ (block : CcfBlock). block.lower)) of_first.columns
      (middle-lists (λ part. part.columns) placing.columns blocks column_blocks) of_last.columns lower_list

  pub columns-once : StandsOnce S.columns (first.columns ∷ (map (λ (block : CcfBlock). block.part.columns) blocks ++ last.columns ∷ []))
  columns-once = listed-once arc S.columns decomposed.starts decomposed.ends v decomposed.places decomposed.lattice rules placing.columns of_columns
      (length blocks) count first.columns last.columns (middle_lists (λ part. part.columns) placing.columns blocks column_blocks)
      (map (λ (block : CcfBlock). block.lower) blocks) (middle-count (λ part. part.columns) placing.columns blocks column_blocks)
      (length-map blocks (λ (block : CcfBlock). block.lower)) of_first.columns
      (middle-lists (λ part. part.columns) placing.columns blocks column_blocks) of_last.columns lower_list

  pub column-place : (x : ℕ) → x < S.columns → place_of
      (first.columns ∷ (map (λ (block : CcfBlock). block.part.columns) blocks ++ last.columns ∷ [])) x ≡ place_of_part (length blocks) (part_in v x)
  column-place = listed-place arc S.columns decomposed.starts decomposed.ends v decomposed.places decomposed.lattice rules placing.columns of_columns
      (length blocks) count first.columns last.columns (middle_lists (λ part. part.columns) placing.columns blocks column_blocks)
      (map (λ (block : CcfBlock). block.lower) blocks) (middle-count (λ part. part.columns) placing.columns blocks column_blocks)
      (length-map blocks (λ (block : CcfBlock). block.lower)) of_first.columns
      (middle-lists (λ part. part.columns) placing.columns blocks column_blocks) of_last.columns lower_list

  -- the Q rows
  abbrev pub q_part : ℕ → Part
  q_part = part_of_row (IsBaseColumn S) S.rows S.columns base bases S.base S.row
      (base_told p of S M reached solution tableau) (base_has p of S M reached solution tableau)
      (base_low p of S M reached solution tableau)
      v placing.columns placing.q_rows decomposed.places of_columns of_q bounded

  q_told : (i : ℕ) → i < S.rows → slice_get placing.q_rows i ≡ Some (q_part i)
  q_told = row-part (IsBaseColumn S) S.rows S.columns base bases S.base S.row
      (base_told p of S M reached solution tableau) (base_has p of S M reached solution tableau)
      (base_low p of S M reached solution tableau)
      v placing.columns placing.q_rows decomposed.places of_columns of_q bounded

  q_bounded : (i : ℕ) → i < S.rows → IsOfBlocks (length blocks) (q_part i)
  q_bounded i il = subst (λ b. IsOfBlocks b (q_part i)) (sym count)
      (row-bounded (IsBaseColumn S) S.rows S.columns base bases S.base S.row
      (base_told p of S M reached solution tableau) (base_has p of S M reached solution tableau)
      (base_low p of S M reached solution tableau)
      v placing.columns placing.q_rows decomposed.places of_columns of_q bounded i il)

  q_blocks : (k : ℕ) → k < length blocks → ListsPart placing.q_rows (Block k) (get_or blocks k no_block).part.q_rows
  q_blocks k kb = (in_blocks k no_block kb).part.q_rows

  pub q_rows-once : StandsOnce S.rows (first.q_rows ∷ (map (λ (block : CcfBlock). block.part.q_rows) blocks ++ last.q_rows ∷ []))
  q_rows-once = once (length blocks) S.rows placing.q_rows of_q.count first.q_rows last.q_rows
      (middle_lists (λ part. part.q_rows) placing.q_rows blocks q_blocks) (middle-count (λ part. part.q_rows) placing.q_rows blocks q_blocks)
      of_first.q_rows (middle-lists (λ part. part.q_rows) placing.q_rows blocks q_blocks) of_last.q_rows q_part q_told q_bounded

  pub q_row-place : (i : ℕ) → i < S.rows → place_of
      (first.q_rows ∷ (map (λ (block : CcfBlock). block.part.q_rows) blocks ++ last.q_rows ∷ [])) i ≡ place_of_part
      (length blocks) (q_part i)
  q_row-place = place (length blocks) S.rows placing.q_rows of_q.count first.q_rows last.q_rows
      (middle_lists (λ part. part.q_rows) placing.q_rows blocks q_blocks) (middle-count (λ part. part.q_rows) placing.q_rows blocks q_blocks)
      of_first.q_rows (middle-lists (λ part. part.q_rows) placing.q_rows blocks q_blocks) of_last.q_rows q_part q_told q_bounded

  -- the T rows
  abbrev pub t_part : ℕ → Part
  t_part = part_of_row (IsMate M S.columns) N.t_rows S.columns mates matched (is_matched M) (mate_of M)
      (mate_told p of S M reached solution tableau) (mate_has p of S M reached solution tableau)
      (mate_low p of S M reached solution tableau)
      v placing.columns placing.t_rows decomposed.places of_columns of_t bounded

  t_told : (i : ℕ) → i < N.t_rows → slice_get placing.t_rows i ≡ Some (t_part i)
  t_told = row-part (IsMate M S.columns) N.t_rows S.columns mates matched (is_matched M) (mate_of M)
      (mate_told p of S M reached solution tableau) (mate_has p of S M reached solution tableau)
      (mate_low p of S M reached solution tableau)
      v placing.columns placing.t_rows decomposed.places of_columns of_t bounded

  t_bounded : (i : ℕ) → i < N.t_rows → IsOfBlocks (length blocks) (t_part i)
  t_bounded i il = subst (λ b. IsOfBlocks b (t_part i)) (sym count)
      (row-bounded (IsMate M S.columns) N.t_rows S.columns mates matched (is_matched M) (mate_of M)
      (mate_told p of S M reached solution tableau) (mate_has p of S M reached solution tableau)
      (mate_low p of S M reached solution tableau)
      v placing.columns placing.t_rows decomposed.places of_columns of_t bounded i il)

  t_blocks : (k : ℕ) → k < length blocks → ListsPart placing.t_rows (Block k) (get_or blocks k no_block).part.t_rows
  t_blocks k kb = (in_blocks k no_block kb).part.t_rows

  pub t_rows-once : StandsOnce N.t_rows (first.t_rows ∷ (map (λ (block : CcfBlock). block.part.t_rows) blocks ++ last.t_rows ∷ []))
  t_rows-once = once (length blocks) N.t_rows placing.t_rows of_t.count first.t_rows last.t_rows
      (middle_lists (λ part. part.t_rows) placing.t_rows blocks t_blocks) (middle-count (λ part. part.t_rows) placing.t_rows blocks t_blocks)
      of_first.t_rows (middle-lists (λ part. part.t_rows) placing.t_rows blocks t_blocks) of_last.t_rows t_part t_told t_bounded

  pub t_row-place : (i : ℕ) → i < N.t_rows → place_of
      (first.t_rows ∷ (map (λ (block : CcfBlock). block.part.t_rows) blocks ++ last.t_rows ∷ [])) i ≡ place_of_part
      (length blocks) (t_part i)
  t_row-place = place (length blocks) N.t_rows placing.t_rows of_t.count first.t_rows last.t_rows
      (middle_lists (λ part. part.t_rows) placing.t_rows blocks t_blocks) (middle-count (λ part. part.t_rows) placing.t_rows blocks t_blocks)
      of_first.t_rows (middle-lists (λ part. part.t_rows) placing.t_rows blocks t_blocks) of_last.t_rows t_part t_told t_bounded

  -- the printed parts, and the lower lists
  abbrev pub printed : Forms
  printed = record {
    blocks = length blocks;
    column = place_of (first.columns ∷ (map (λ (block : CcfBlock). block.part.columns) blocks ++ last.columns ∷ []));
    q_row = place_of (first.q_rows ∷ (map (λ (block : CcfBlock). block.part.q_rows) blocks ++ last.q_rows ∷ []));
    t_row = place_of (first.t_rows ∷ (map (λ (block : CcfBlock). block.part.t_rows) blocks ++ last.t_rows ∷ []));
  }

  abbrev pub lower : ℕ → ℕ → Bool
  lower l k = has (get_or (map (λ (block : CcfBlock). block.lower) blocks) l []) k

  -- each row stands in the part of its column, and the others in the last one
  rows-printed : HasRows N H printed
  unfolding has_base has_match
  rows-printed = record {
    columns = listed-few arc S.columns decomposed.starts decomposed.ends v decomposed.places decomposed.lattice rules placing.columns of_columns
        (length blocks) count first.columns last.columns (middle_lists (λ part. part.columns) placing.columns blocks column_blocks)
        (map (λ (block : CcfBlock). block.lower) blocks) (middle-count (λ part. part.columns) placing.columns blocks column_blocks)
        (length-map blocks (λ (block : CcfBlock). block.lower)) of_first.columns
        (middle-lists (λ part. part.columns) placing.columns blocks column_blocks) of_last.columns lower_list;
    base = λ y yl h.
        q_row-place (row_with base y) (row-with-below (IsBaseColumn S) S.rows S.columns base bases S.base S.row
        (base_told p of S M reached solution tableau) (base_has p of S M reached solution tableau)
        (base_low p of S M reached solution tableau)
        v placing.columns placing.q_rows decomposed.places of_columns of_q bounded y h)
        ∙ ap (place_of_part (length blocks)) (column-part (IsBaseColumn S) S.rows S.columns base bases S.base S.row
        (base_told p of S M reached solution tableau) (base_has p of S M reached solution tableau)
        (base_low p of S M reached solution tableau)
        v placing.columns placing.q_rows decomposed.places of_columns of_q bounded y h)
        ∙ sym (column-place y yl);
    matched = λ y yl h.
        t_row-place (row_with mates y) (row-with-below (IsMate M S.columns) N.t_rows S.columns mates matched
        (is_matched M) (mate_of M) (mate_told p of S M reached solution tableau)
        (mate_has p of S M reached solution tableau) (mate_low p of S M reached solution tableau)
        v placing.columns placing.t_rows decomposed.places of_columns of_t bounded y h)
        ∙ ap (place_of_part (length blocks)) (column-part (IsMate M S.columns) N.t_rows S.columns mates matched
        (is_matched M) (mate_of M) (mate_told p of S M reached solution tableau)
        (mate_has p of S M reached solution tableau) (mate_low p of S M reached solution tableau)
        v placing.columns placing.t_rows decomposed.places of_columns of_t bounded y h)
        ∙ sym (column-place y yl);
    other_q = λ i il none.
        q_row-place i il ∙ ap (place_of_part (length blocks))
        (bare-part (IsBaseColumn S) S.rows S.columns base bases S.base S.row
        (base_told p of S M reached solution tableau) (base_has p of S M reached solution tableau)
        (base_low p of S M reached solution tableau)
        v placing.columns placing.q_rows decomposed.places of_columns of_q bounded i il
        (λ y yl member same. differ none (some_below-holds S.columns
        (λ z. has_column base z && eqb (row_with base z) i) y yl
        (both_true (has_column base y) (eqb (row_with base y) i) member (eqb_from (row_with base y) i same)))));
    other_t = λ i il none.
        t_row-place i il ∙ ap (place_of_part (length blocks))
        (bare-part (IsMate M S.columns) N.t_rows S.columns mates matched (is_matched M) (mate_of M)
        (mate_told p of S M reached solution tableau) (mate_has p of S M reached solution tableau)
        (mate_low p of S M reached solution tableau)
        v placing.columns placing.t_rows decomposed.places of_columns of_t bounded i il
        (λ y yl member same. differ none (some_below-holds S.columns
        (λ z. has_column mates z && eqb (row_with mates z) i) y yl
        (both_true (has_column mates y) (eqb (row_with mates y) i) member
        (eqb_from (row_with mates y) i same)))));
  }

  starts_same : (x : ℕ) → x < S.columns → decomposed.starts x ≡ is_free H x
  starts_same x xl = decomposed.starts_are x xl ∙ printed-free p of S M reached solution tableau base mates bases matched P prints_p x xl

  ends_same : (x : ℕ) → x < S.columns → decomposed.ends x ≡ is_end p N H x
  ends_same x xl = decomposed.ends_are x xl ∙ printed-end p of S M reached solution tableau base mates bases matched P prints_p x xl

  arcs_same : (x y : ℕ) → x < S.columns → y < S.columns → arc x y ≡ leads_to p N H x y
  arcs_same x y xl yl = printed-arc p of S M reached solution tableau base mates bases matched P prints_p x xl y yl

  rules-same : KeepsPlaces (leads_to p N H) S.columns (is_free H) (is_end p N H) (in_first printed) (in_last printed) (block_of printed) (length blocks) lower
  rules-same = rules-listed arc S.columns decomposed.starts decomposed.ends v decomposed.places decomposed.lattice rules placing.columns of_columns
      (length blocks) count first.columns last.columns (middle_lists (λ part. part.columns) placing.columns blocks column_blocks)
      (map (λ (block : CcfBlock). block.lower) blocks) (middle-count (λ part. part.columns) placing.columns blocks column_blocks)
      (length-map blocks (λ (block : CcfBlock). block.lower)) of_first.columns
      (middle-lists (λ part. part.columns) placing.columns blocks column_blocks) of_last.columns lower_list
      (leads_to p N H) (is_free H) (is_end p N H) arcs_same starts_same ends_same

  order-same : IsBelow (leads_to p N H) S.columns (is_free H) (is_end p N H) (block_of printed) (length blocks) v.below
  order-same = order-listed arc S.columns decomposed.starts decomposed.ends v decomposed.places decomposed.lattice rules placing.columns of_columns
      (length blocks) count first.columns last.columns (middle_lists (λ part. part.columns) placing.columns blocks column_blocks)
      (map (λ (block : CcfBlock). block.lower) blocks) (middle-count (λ part. part.columns) placing.columns blocks column_blocks)
      (length-map blocks (λ (block : CcfBlock). block.lower)) of_first.columns
      (middle-lists (λ part. part.columns) placing.columns blocks column_blocks) of_last.columns lower_list
      (leads_to p N H) (is_free H) (is_end p N H) arcs_same starts_same ends_same

  lists-same : IsCover v.below (length blocks) lower
  lists-same = covers-listed arc S.columns decomposed.starts decomposed.ends v decomposed.places decomposed.lattice rules placing.columns of_columns
      (length blocks) count first.columns last.columns (middle_lists (λ part. part.columns) placing.columns blocks column_blocks)
      (map (λ (block : CcfBlock). block.lower) blocks) (middle-count (λ part. part.columns) placing.columns blocks column_blocks)
      (length-map blocks (λ (block : CcfBlock). block.lower)) of_first.columns
      (middle-lists (λ part. part.columns) placing.columns blocks column_blocks) of_last.columns lower_list

  pub parts-printed : KeepsPartRules p N H printed v.below lower
  parts-printed = record { rows = rows-printed; rules = rules-same; order = order-same; lists = lists-same }

  -- each block has a column
  pub block-some : (k : ℕ) (d : CcfBlock) → k < length blocks → 0 < length (get_or blocks k d).part.columns
  block-some k d kb =
      let column = rules.member k (subst (λ b. k < b) count kb) in
      let x : ℕ = column.0 in
      let here : slice_get placing.columns x ≡ Some (Block k) = column-told x column.1.below
      ∙ ap Some (block-is x (v.first x) (v.last x) k column.1.not_first column.1.not_last column.2) in
      let low : x < length placing.columns = subst (λ n. x < n) (sym (of_columns.count ∙ decomposed.places)) column.1.below in
      has-some (get_or blocks k d).part.columns x (((in_blocks k d kb).part.columns.exact x low).1 here)
    where
      block-is : (x : ℕ) (f l : Bool) (k : ℕ) → f ≡ false → l ≡ false → v.block x ≡ k → cond f First (cond l Last (Block (v.block x))) ≡ Block k
      block-is x true l k ef el e = absurd (differ ef refl)
      block-is x false true k ef el e = absurd (differ el refl)
      block-is x false false k ef el e = ap Block e

      has-some : (xs : List ℕ) (x : ℕ) → has xs x ≡ true → 0 < length xs
      has-some [] x h = absurd (differ refl h)
      has-some (y ∷ xs) x h = omega arith
