-- The printed pair of an engine that has run on a layered matrix.
use Rattle.std.proofs.Common.{◌≡◌, ℕ, ◌+◌, ◌<◌, ◌%◌, Bool, true, List, [], length, refl, ap, sym, ◌∙◌, subst, arith}
use Rattle.residue_theory.specs.Sums.{size_on}
use Rattle.residue_theory.proofs.SumLaws.{sum_on-same}
use Rattle.residue_theory.proofs.SetLaws.{differ}
use Rattle.dense_q.specs.Tables.{entry}
use Rattle.bipartite_matching.specs.Matchings.{Matching}
use Rattle.bipartite_matching.proofs.MateLaws.{pair-matched, matched-pair}
use Rattle.mixed_matrices.specs.Arcs.{is_end, is_free, leads_to}
use Rattle.mixed_matrices.specs.LayeredMatrices.{LayeredMatrix}
use Rattle.mixed_matrices.specs.Tableaus.{Tableau}
use Rattle.mixed_model.specs.Layers.{Layers}
use Rattle.row_transform.specs.Tableaus.{TableauState, IsTableau, IsBaseColumn}
use Rattle.independent_matching.specs.Engines.{IsSolved, layers}
use Rattle.independent_matching.specs.Sides.{layers_of, tableau_of_pair, is_matched, mate_of, size_of}
use Rattle.independent_matching.proofs.EngineLaws.{same-arcs as kept-arcs, same-ends as kept-ends}
use Rattle.cert_text.specs.Readings.{matrix_of, pair_at, has_column, row_with, ColumnsDiffer, IsUnitColumn}
use Rattle.cert_text.specs.declared.part.CcfPart.{CcfPart}
use Rattle.cert_text.specs.declared.part.CcfBlock.{CcfBlock}
use Rattle.ccf_builder.specs.Pairs.{ListsPairs, IsMate}
use Rattle.ccf_builder.specs.Solutions.{IsSolution}
use Rattle.ccf_builder.proofs.PairLists.{columns-differ, column-same, counted, row-same}
use Rattle.ccf_builder.proofs.SameTableau.{same-arcs, same-ends, same-free}
use Rattle.cert_text.specs.Printing.{PrintsMatrix}

-- no rows and no columns
no_part : CcfPart
no_part = record { columns = []; q_rows = []; t_rows = [] }

no_block : CcfBlock
no_block = record { part = no_part; lower = [] }

module _ (p : ℕ) (of : Layers) (t : TableauState) (M : Matching) (reached : ℕ → Bool) (solution : IsSolution p of t M reached) (tableau : IsTableau p t) where
  -- the layered matrix on which the engine stands
  abbrev pub L : LayeredMatrix
  L = layers (entry of.q) t M

  -- the tableau of the engine
  abbrev pub F : Tableau
  F = tableau_of_pair t M

  pub solved : IsSolved p L F reached
  solved = subst (λ N. IsSolved p N F reached) (sym solution.layers_are) solution.solved

  pub base_told : (r y : ℕ) → IsBaseColumn t r y → (y < t.columns) × (t.base y ≡ true) × (t.row y ≡ r)
  base_told r y is = (is.below, is.member, is.at_row)

  pub base_has : (y : ℕ) → y < t.columns → t.base y ≡ true → IsBaseColumn t (t.row y) y
  base_has y yl h = record { below = yl; member = h; at_row = refl }

  pub base_low : (y : ℕ) → y < t.columns → t.base y ≡ true → t.row y < t.rows
  base_low y yl h = tableau.unit_columns.row_below y yl h

  pub mate_told : (r y : ℕ) → IsMate M t.columns r y → (y < t.columns) × (is_matched M y ≡ true) × (mate_of M y ≡ r)
  mate_told r y is = let at = pair-matched M r y is.pair in (is.below, at.0, at.1)

  pub mate_has : (y : ℕ) → y < t.columns → is_matched M y ≡ true → IsMate M t.columns (mate_of M y) y
  mate_has y yl h = record { pair = matched-pair M y h; below = yl }

  pub mate_low : (y : ℕ) → y < t.columns → is_matched M y ≡ true → mate_of M y < L.t_rows
  mate_low y yl h = solved.tableau.matching.below y yl h

  module _ (base mates : List (ℕ × ℕ)) (bases : ListsPairs (IsBaseColumn t) t.rows base) (matched : ListsPairs (IsMate M t.columns) L.t_rows mates)
      (P : List (List (ℕ × ℕ))) (prints_p : PrintsMatrix p t.rows t.columns t.p P) where
    -- the printed tableau
    abbrev pub G : Tableau
    G = record { P = matrix_of P; base = has_column base; row = row_with base; matched = has_column mates; mate = row_with mates }

    pub base-same : (y : ℕ) → y < t.columns → has_column base y ≡ t.base y
    base-same = column-same (IsBaseColumn t) t.rows t.columns base bases t.base t.row base_told base_has base_low

    pub base-row : (y : ℕ) → y < t.columns → t.base y ≡ true → row_with base y ≡ t.row y
    base-row = row-same (IsBaseColumn t) t.rows t.columns base bases t.base t.row base_told base_has base_low

    pub mate-same : (y : ℕ) → y < t.columns → has_column mates y ≡ is_matched M y
    mate-same = column-same (IsMate M t.columns) L.t_rows t.columns mates matched (is_matched M) (mate_of M) mate_told mate_has mate_low

    pub mate-row : (y : ℕ) → y < t.columns → is_matched M y ≡ true → row_with mates y ≡ mate_of M y
    mate-row = row-same (IsMate M t.columns) L.t_rows t.columns mates matched (is_matched M) (mate_of M) mate_told mate_has mate_low

    module _ (x : ℕ) (xl : x < t.columns) where
      pub printed-arc : (y : ℕ) → y < t.columns → leads_to p (layers_of t M) F x y ≡ leads_to p L G x y
      printed-arc y yl = sym (ap (λ (arc : ℕ → ℕ → Bool). arc x y) (kept-arcs p (entry of.q) t M)) ∙ same-arcs p L F G
          (λ z zl. sym (base-same z zl)) (λ z zl h. sym (base-row z zl h)) base_low (λ z zl. sym (mate-same z zl))
          (λ z zl h. sym (mate-row z zl h)) (λ i j il jl. sym (prints_p.same i j il jl)) x y xl yl

      pub printed-free : is_free F x ≡ is_free G x
      printed-free = same-free p L F G
          (λ z zl. sym (base-same z zl)) (λ z zl h. sym (base-row z zl h)) base_low (λ z zl. sym (mate-same z zl))
          (λ z zl h. sym (mate-row z zl h)) (λ i j il jl. sym (prints_p.same i j il jl)) x xl

      pub printed-end : is_end p (layers_of t M) F x ≡ is_end p L G x
      printed-end = sym (ap (λ (ends : ℕ → Bool). ends x) (kept-ends p (entry of.q) t M)) ∙ same-ends p L F G
          (λ z zl. sym (base-same z zl)) (λ z zl h. sym (base-row z zl h)) base_low (λ z zl. sym (mate-same z zl))
          (λ z zl h. sym (mate-row z zl h)) (λ i j il jl. sym (prints_p.same i j il jl)) x xl

    pub base-units : (k : ℕ) → k < length base → IsUnitColumn p t.rows (matrix_of P) (pair_at base k).0 (pair_at base k).1
    base-units k kl =
        let column = bases.member k kl in
        let low : (pair_at base k).0 < t.rows = bases.below k kl in
        record {
          one = ap (λ x. x % p) (prints_p.same (pair_at base k).0 (pair_at base k).1 low column.below)
              ∙ subst (λ i. t.p i (pair_at base k).1 % p ≡ 1) column.at_row
              ((tableau.unit_columns).one (pair_at base k).1 column.below column.member);
          zero = λ i il other. ap (λ x. x % p) (prints_p.same i (pair_at base k).1 il column.below)
              ∙ (tableau.unit_columns).zero (pair_at base k).1 i column.below column.member il
              (λ e. other (e ∙ column.at_row));
        }

    pub mate-symbols : (k : ℕ) → k < length mates → L.t (pair_at mates k).0 (pair_at mates k).1 ≡ true
    mate-symbols k kl =
        let is = matched.member k kl in
        let at = pair-matched M (pair_at mates k).0 (pair_at mates k).1 is.pair in
        subst (λ i. L.t i (pair_at mates k).1 ≡ true) at.1 (solved.tableau.matching.symbol (pair_at mates k).1 is.below at.0)

    pub pair-columns-differ : ColumnsDiffer base mates
    pair-columns-differ = record {
      in_base = columns-differ (IsBaseColumn t) t.rows t.columns base bases t.base t.row base_told base_has base_low;
      in_mates = columns-differ (IsMate M t.columns) L.t_rows t.columns mates matched (is_matched M) (mate_of M) mate_told mate_has mate_low;
      apart = λ k l kl ll same.
          let column = bases.member k kl in
          let is = matched.member l ll in
          let at = pair-matched M (pair_at mates l).0 (pair_at mates l).1 is.pair in
          differ (solved.tableau.apart (pair_at base k).1 column.below column.member) (subst (λ y. is_matched M y ≡ true) (sym same) at.0);
    }

    pub pair-size : size_of t M ≡ length base + length mates
    pair-size =
        let of_base : size_on t.base t.columns ≡ length base =
        sym (sum_on-same (has_column base) t.base t.columns (λ _. 1) base-same)
        ∙ counted (IsBaseColumn t) t.rows t.columns base bases t.base t.row base_told base_has base_low in
        let of_mates : size_on (is_matched M) t.columns ≡ length mates =
        sym (sum_on-same (has_column mates) (is_matched M) t.columns (λ _. 1) mate-same)
        ∙ counted (IsMate M t.columns) L.t_rows t.columns mates matched (is_matched M)
        (mate_of M) mate_told mate_has mate_low in
        omega (arith, of_base, of_mates)
