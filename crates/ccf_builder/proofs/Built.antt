-- What is printed of an engine that has run on the layered matrix of a model is right for the model.
use Rattle.std.proofs.Common.{◌≡◌, ℕ, Bool, ◌+◌, ◌-◌, ◌<◌, ◌≤◌, List, length, get_or, refl, ap, sym, ◌∙◌, subst, arith}
use Rattle.residue_theory.specs.Sets.{either}
use Rattle.residue_theory.proofs.CountLaws.{size-either}
use Rattle.residue_theory.specs.Residues.{IsPrime}
use Rattle.bipartite_matching.specs.Matchings.{Matching}
use Rattle.dense_q.specs.Tables.{entry}
use Rattle.sparse_t.specs.Incidences.{touches}
use Rattle.mixed_matrices.specs.LayeredMatrices.{LayeredMatrix}
use Rattle.mixed_matrices.specs.Layerings.{Origins, IsLayeredMatrixOf}
use Rattle.mixed_matrices.specs.StructuralRanks.{IsStructuralRank}
use Rattle.mixed_layering_laws.proofs.LayeringRank.{model_rank}
use Rattle.mixed_layering.specs.Layers.{AreLayersOf, origins_of}
use Rattle.mixed_model.specs.Layers.{Layers, AreLayers, layered_matrix_of, split_of}
use Rattle.mixed_model.specs.Models.{MixedModel, IsModel, mixed_matrix_of}
use Rattle.row_transform.specs.Tableaus.{TableauState, IsTableau, IsBaseColumn}
use Rattle.independent_matching.specs.Engines.{layers}
use Rattle.independent_matching.specs.Sides.{is_matched, mate_of, size_of}
use Rattle.minimiser_lattice.specs.Parts.{PlaceParts}
use Rattle.cert_text.specs.Contents.{Contents}
use Rattle.cert_text.specs.Ranges.{ArePairs, AreRising, IsCcf, IsPart, IsBlock, IsPattern}
use Rattle.cert_text.specs.Readings.{matrix_of}
use Rattle.cert_text.specs.Right.{HasShape, HasProduct, IsRightCcf}
use Rattle.cert_text.proofs.PrintedRules.{KeepsPrintedRules}
use Rattle.cert_text.proofs.RightFacts.{rules-right}
use Rattle.cert_text.specs.declared.part.CcfPart.{CcfPart}
use Rattle.cert_text.specs.declared.part.CcfBlock.{CcfBlock}
use Rattle.cert_text.specs.declared.shape.Shape.{Shape}
use Rattle.ccf_builder.specs.Decompositions.{IsDecomposition}
use Rattle.ccf_builder.specs.Matrices.{PrintsPattern, PrintsTableau}
use Rattle.ccf_builder.specs.Pairs.{ListsPair, ListsPairs, IsMate}
use Rattle.ccf_builder.specs.Placings.{HasPart, PlacesRows, PrintsParts, Placing}
use Rattle.ccf_builder.specs.Promises.{IsOfModel, OfEachModel}
use Rattle.ccf_builder.specs.Solutions.{IsSolution}
use Rattle.minimiser_lattice.specs.declared.lattice.Part.{Part}
use Rattle.minimiser_lattice.specs.declared.lattice.Part.TheVariants.{First, Block, Last}
use Rattle.ccf_builder.proofs.Counts.{few-q_rows, few-split, few-t_rows, rows-counted, size-within}
use Rattle.ccf_builder.proofs.PairLists.{are-pairs}
use Rattle.ccf_builder.proofs.PrintedPair.{solved, base_told, base_has, base_low, mate_told, mate_has, mate_low}
use Rattle.ccf_builder.proofs.PrintedPair.{base-units, mate-symbols, pair-columns-differ, pair-size}
use Rattle.ccf_builder.proofs.PrintedParts.{block-some, columns-once, parts-printed, q_rows-once, t_rows-once}
use Rattle.ccf_builder.proofs.Products.{inverse-entries, product-entries, transformed}

part-ranges : (q t n e u : ℕ) (placing : Placing) (part : Part) (c : CcfPart) → length placing.columns ≡ n →
    length placing.q_rows ≡ q → length placing.t_rows ≡ t → HasPart placing part c →
    IsPart (record { equations = e; unknowns = u; q_rows = q; t_rows = t; columns = n }) c
part-ranges q t n e u placing part c columns q_rows t_rows is = record {
  columns = subst (λ k. AreRising k c.columns) columns is.columns.rising;
  q_rows = subst (λ k. AreRising k c.q_rows) q_rows is.q_rows.rising;
  t_rows = subst (λ k. AreRising k c.t_rows) t_rows is.t_rows.rising;
}

module _ (p : ℕ) (prime : IsPrime p) (odd : 2 < p) (of : Layers) (layers_ok : AreLayers of)
    (t : TableauState) (matching : Matching) (reached : ℕ → Bool) (solution : IsSolution p of t matching reached) (tableau : IsTableau p t)
    (base mates : List (ℕ × ℕ)) (pair : ListsPair t matching (length of.t.rows) base mates)
    (s u P : List (List (ℕ × ℕ))) (prints : PrintsTableau p t s u P)
    (T : List (List ℕ)) (prints_t : PrintsPattern (length of.t.rows) of.t.width (touches of.t) T)
    (v : PlaceParts) (decomposed : IsDecomposition p t matching v)
    (first : CcfPart) (blocks : List CcfBlock) (last : CcfPart) (parts : PrintsParts v t.rows (length of.t.rows) base mates first blocks last) where
  -- the layered matrix on which the engine stands
  abbrev N : LayeredMatrix
  N = layers (entry of.q) t matching

  abbrev pub contents : Contents
  contents = record {
    shape = record {
      equations = t.rows + length of.t.rows - split_of of;
      unknowns = t.columns - split_of of;
      q_rows =
          t.rows;
      t_rows = length of.t.rows;
      columns = t.columns;
    };
    rank = size_of t matching - split_of of;
    base = base;
    mates = mates;
    s = s;
    u = u;
    p = P;
    t = T;
    first = first;
    blocks = blocks;
    last = last;
  }

  t_rows_are : length of.t.rows ≡ N.t_rows
  t_rows_are = sym (ap (λ (K : LayeredMatrix). K.t_rows) solution.layers_are)

  width_is : of.t.width ≡ t.columns
  width_is = layers_ok.same_columns ∙ sym (ap (λ (K : LayeredMatrix). K.columns) solution.layers_are)

  matched : ListsPairs (IsMate matching t.columns) N.t_rows mates
  matched = subst (λ m. ListsPairs (IsMate matching t.columns) m mates) t_rows_are pair.mates_are

  t_placed : PlacesRows N.t_rows mates parts.placing.columns parts.placing.t_rows
  t_placed = subst (λ m. PlacesRows m mates parts.placing.columns parts.placing.t_rows) t_rows_are parts.t_are

  few_in_pair : size_of t matching ≤ t.columns
  few_in_pair =
      let apart = (solved p of t matching reached solution tableau).tableau.apart in
      omega (arith, size-either t.base (is_matched matching) t.columns apart, size-within (either t.base (is_matched matching)) t.columns)

  product : HasProduct p N contents
  product = record {
    q = product-entries p t.rows t.columns (matrix_of s) t.s (entry of.q)
        (matrix_of P) t.p prints.s_is.same prints.p_is.same (transformed p (entry of.q) t solution.entries tableau);
    t = λ i j il jl.
        prints_t.same i j (subst (λ m. i < m) (sym t_rows_are) il) (subst (λ n. j < n) (sym width_is) jl)
        ∙ sym (ap (λ (K : LayeredMatrix). K.t i j) solution.layers_are);
  }

  module _ (model : MixedModel) (is : IsModel p model) (are : AreLayersOf model of) where
    abbrev O : Origins
    O = origins_of of are.split

    laid : IsLayeredMatrixOf (mixed_matrix_of model) N O
    laid = subst (λ K. IsLayeredMatrixOf (mixed_matrix_of model) K O) (sym solution.layers_are) are.layered

    ranked : IsStructuralRank p (mixed_matrix_of model) (size_of t matching - length are.split) × (length are.split ≤ size_of t matching)
    ranked = model_rank p prime odd (mixed_matrix_of model) N O laid (size_of t matching) (solved p of t matching reached solution tableau).rank

    shape : HasShape (mixed_matrix_of model) N contents
    shape = record {
      equations = let counted = rows-counted (mixed_matrix_of model) N O laid in omega (arith, counted, t_rows_are, are.count);
      unknowns = omega (arith, laid.columns, are.count);
      q_rows = refl;
      t_rows = t_rows_are;
      columns = refl;
    }

    rules : KeepsPrintedRules p (mixed_matrix_of model) N contents
    rules = record {
      shape = shape;
      inverse = inverse-entries p t.rows (matrix_of s) t.s (matrix_of u) t.u prints.s_is.same prints.u_is.same tableau.inverse;
      product_is = product;
      units = base-units p of t matching reached solution tableau base mates pair.base_is matched P prints.p_is;
      matching = record {
        symbols = mate-symbols p of t matching reached solution tableau base mates pair.base_is matched P prints.p_is;
        differ = pair-columns-differ p of t matching reached solution tableau base mates pair.base_is matched P prints.p_is;
      };
      counted = let size =
          pair-size p of t matching reached solution tableau base mates pair.base_is matched P prints.p_is in omega
          (arith, size, ranked.1, are.count, laid.columns);
      columns =
          columns-once p of t matching reached solution tableau base mates pair.base_is matched P prints.p_is v
          decomposed parts.placing parts.columns parts.q_are t_placed first last blocks parts.first_is parts.count
          parts.blocks_are parts.last_is;
      checked = record {
        q_rows =
            q_rows-once p of t matching reached solution tableau base mates pair.base_is matched P prints.p_is v
            decomposed parts.placing parts.columns parts.q_are t_placed first last blocks parts.first_is parts.count
            parts.blocks_are parts.last_is;
        t_rows =
            t_rows-once p of t matching reached solution tableau base mates pair.base_is matched P prints.p_is v
            decomposed parts.placing parts.columns parts.q_are t_placed first last blocks parts.first_is parts.count
            parts.blocks_are parts.last_is;
        below = v.below;
        parts = parts-printed p of t matching reached solution tableau base mates pair.base_is matched P prints.p_is
            v decomposed parts.placing parts.columns parts.q_are t_placed first last blocks parts.first_is
            parts.count parts.blocks_are parts.last_is;
      };
    }

    block-ranges : (k : ℕ) (d : CcfBlock) → k < length blocks → IsBlock contents.shape k (get_or blocks k d)
    block-ranges k d kb =
        let block = parts.blocks_are k d kb in
        record {
          part = part-ranges t.rows (length of.t.rows) t.columns contents.shape.equations contents.shape.unknowns
              parts.placing (Block k) (get_or blocks k d).part (parts.columns.count ∙ decomposed.places)
              parts.q_are.count parts.t_are.count block.part;
          some = block-some p of t matching reached solution tableau base mates pair.base_is matched P prints.p_is v
              decomposed parts.placing parts.columns parts.q_are t_placed first last blocks parts.first_is
              parts.count parts.blocks_are parts.last_is k d kb;
          lower = block.lower.rising;
        }

    pub fits : IsCcf p contents
    fits = record {
      shape = record {
        equations = omega (arith, shape.equations, is.equations.few);
        unknowns = omega (arith, shape.unknowns, is.unknowns.few);
        q_rows = omega (arith, few-q_rows (mixed_matrix_of model) N O laid, is.equations.few);
        t_rows = omega (arith, few-t_rows (mixed_matrix_of model) N O laid, is.equations.few, t_rows_are);
        columns = omega (arith, few-split (mixed_matrix_of model) N O laid, is.equations.few, is.unknowns.few, laid.columns);
      };
      rank = omega (arith, few_in_pair, few-split (mixed_matrix_of model) N O laid, is.equations.few, is.unknowns.few, laid.columns);
      base = are-pairs (IsBaseColumn t) t.rows t.columns base pair.base_is t.base t.row
          (base_told p of t matching reached solution tableau) (base_has p of t matching reached solution tableau)
          (base_low p of t matching reached solution tableau);
      mates = subst (λ m. ArePairs m t.columns mates) (sym t_rows_are)
          (are-pairs (IsMate matching t.columns) N.t_rows t.columns mates matched (is_matched matching)
          (mate_of matching) (mate_told p of t matching reached solution tableau)
          (mate_has p of t matching reached solution tableau)
          (mate_low p of t matching reached solution tableau));
      s = prints.s_is.is;
      u = prints.u_is.is;
      p = prints.p_is.is;
      t = subst (λ n. IsPattern (length of.t.rows) n T) width_is prints_t.is;
      first = part-ranges t.rows (length of.t.rows) t.columns contents.shape.equations contents.shape.unknowns
          parts.placing First first (parts.columns.count ∙ decomposed.places) parts.q_are.count parts.t_are.count
          parts.first_is;
      blocks = block-ranges;
      last = part-ranges t.rows (length of.t.rows) t.columns contents.shape.equations contents.shape.unknowns
          parts.placing Last last (parts.columns.count ∙ decomposed.places) parts.q_are.count parts.t_are.count
          parts.last_is;
    }

    right : IsRightCcf p (mixed_matrix_of model) (layered_matrix_of of) O contents
    right = subst (λ K. IsRightCcf p (mixed_matrix_of model) K O contents) solution.layers_are
        (rules-right p prime odd (mixed_matrix_of model) N O laid contents fits rules)

  -- the number of split rows is small
  pub split-rows : IsOfModel p of → split_of of ≤ t.rows + length of.t.rows
  split-rows some = let counted = rows-counted (mixed_matrix_of some.model) N (O some.model some.is some.are)
      (laid some.model some.is some.are) in omega (arith, counted, t_rows_are, some.are.count)

  pub split-size : IsOfModel p of → split_of of ≤ size_of t matching
  split-size some = omega (arith, (ranked some.model some.is some.are).1, some.are.count)

  pub of-model : IsOfModel p of → IsCcf p contents
  of-model some = fits some.model some.is some.are

  pub of-each : OfEachModel p of (λ M O. IsRightCcf p M (layered_matrix_of of) O contents)
  of-each model is are = right model is are

  -- the same for equal parts
  module _ (sizes : Shape) (rank : ℕ) (base_list mates_list : List (ℕ × ℕ)) (sizes_are : sizes ≡ contents.shape)
      (rank_is : rank ≡ contents.rank) (base_is : base_list ≡ base) (mates_are : mates_list ≡ mates) where
    abbrev pub copied : Contents
    copied = record {
      shape = sizes;
      rank = rank;
      base = base_list;
      mates = mates_list;
      s = s;
      u = u;
      p = P;
      t =
          T;
      first = first;
      blocks = blocks;
      last = last;
    }

    same : contents ≡ copied
    same =
        ap (λ k. record {
          shape = k;
          rank = contents.rank;
          base = base;
          mates = mates;
          s = s;
          u = u;
          p = P;
          t =
              T;
          first = first;
          blocks = blocks;
          last = last;
        }) (sym sizes_are)
        ∙ ap (λ k. record {
          shape = sizes;
          rank = k;
          base = base;
          mates = mates;
          s = s;
          u = u;
          p = P;
          t = T;
          first =
              first;
          blocks = blocks;
          last = last;
        }) (sym rank_is)
        ∙ ap (λ k. record {
          shape = sizes;
          rank = rank;
          base = k;
          mates = mates;
          s = s;
          u = u;
          p = P;
          t = T;
          first =
              first;
          blocks = blocks;
          last = last;
        }) (sym base_is)
        ∙ ap (λ k. record {
          shape = sizes;
          rank = rank;
          base = base_list;
          mates = k;
          s = s;
          u = u;
          p = P;
          t =
              T;
          first = first;
          blocks = blocks;
          last = last;
        }) (sym mates_are)

    pub copied-fits : IsOfModel p of → IsCcf p copied
    copied-fits some = subst (IsCcf p) same (of-model some)

    pub copied-right : OfEachModel p of (λ M O. IsRightCcf p M (layered_matrix_of of) O copied)
    copied-right = subst (λ c. OfEachModel p of (λ M O. IsRightCcf p M (layered_matrix_of of) O c)) same of-each
