-- What is right keeps the rules.
use Rattle.std.proofs.Common.{◌≡◌, ℕ, ◌+◌, ◌<◌, ◌≤◌, true, eqb, length, ◌↔◌, refl, ap, sym, subst, ◌∙◌, arith}
use Rattle.residue_theory.specs.Residues.{IsPrime}
use Rattle.residue_theory.specs.Sets.{everything}
use Rattle.residue_theory.proofs.SetLaws.{eqb_from, some_below-holds}
use Rattle.linear_algebra.specs.Columns.{IsRank}
use Rattle.linear_algebra_laws.proofs.Ranks.{rank_exists}
use Rattle.mixed_matrices.specs.CanonicalParts.{IsBlockBelow}
use Rattle.mixed_matrices.specs.LayeredMatrices.{LayeredMatrix, layered_value}
use Rattle.mixed_matrices.specs.Layerings.{IsLayeredMatrixOf, Origins, gives_q, has_symbol}
use Rattle.mixed_matrices.specs.Models.{MixedMatrix}
use Rattle.mixed_matrices.specs.Pairs.{IsBest, pair_size, matching_values}
use Rattle.mixed_matrices.specs.StructuralRanks.{IsLayeredRank}
use Rattle.mixed_matrices.specs.Tableaus.{IsTableau}
use Rattle.mixed_pair_laws.proofs.MinMax.{best-clear}
use Rattle.mixed_pair_laws.proofs.PairRank.{pair-reached}
use Rattle.mixed_pair_laws.proofs.TableauParts.{tableau}
use Rattle.mixed_layering_laws.proofs.LayeringRank.{layering-law}
use Rattle.mixed_form_laws.proofs.RightParts.{right-kept}
use Rattle.cert_text.specs.Contents.{Contents}
use Rattle.cert_text.specs.Ranges.{IsCcf}
use Rattle.cert_text.specs.Readings.{matrix_of, pair_at, has_column, row_with, tableau_of, parts_of, lower_of}
use Rattle.cert_text.specs.Right.{IsRightCcf}
use Rattle.cert_text.proofs.PrintedRules.{KeepsPrintedRules, lower-before}
use Rattle.cert_text.proofs.PairLists.{has-found}
use Rattle.cert_text.proofs.RightFacts.{printed-base, printed-size}

right-tableau : (p : ℕ) (M : MixedMatrix) (L : LayeredMatrix) (O : Origins) (c : Contents) → IsCcf p c →
    IsRightCcf p M L O c → IsTableau p L (matrix_of c.s) (matrix_of c.u) (tableau_of c)
right-tableau p M L O c is R = record {
  inverse = (R.transform).inverse;
  product = ((R.transform).product_is).q;
  base = printed-base p M L c is R.shape (R.pair_and_rank).units;
  matching = ((R.pair_and_rank).pair).matching;
  apart = ((R.pair_and_rank).pair).apart;
}

-- the item of a column is the one whose row stands with it
right-symbols : (p : ℕ) (M : MixedMatrix) (L : LayeredMatrix) (O : Origins) (c : Contents) → IsCcf p c →
    IsRightCcf p M L O c → (k : ℕ) → k < length c.mates → L.t (pair_at c.mates k).0 (pair_at c.mates k).1 ≡ true
right-symbols p M L O c is R k kl =
    let j : ℕ = (pair_at c.mates k).1 in
    let member : has_column c.mates j ≡ true = some_below-holds (length c.mates) (λ i. eqb (pair_at c.mates i).1 j) k kl (eqb_from j j refl) in
    let at = has-found c.mates j member in
    let place : at.0 ≡ k = ((R.pair_and_rank).differ).in_mates at.0 k at.1 kl at.2 in
    let row : row_with c.mates j ≡ (pair_at c.mates k).0 = sym at.3 ∙ ap (λ i. (pair_at c.mates i).0) place in
    let low : j < L.columns = subst (λ n. j < n) (R.shape).columns ((is.mates).within k (0, 0) kl).1 in
    subst (λ i. L.t i j ≡ true) row ((((R.pair_and_rank).pair).matching).symbol j low member)

-- no pair is larger than the printed one
right-best : (p : ℕ) → IsPrime p → 2 < p → (M : MixedMatrix) (L : LayeredMatrix) (O : Origins) →
    IsLayeredMatrixOf M L O → (c : Contents) → IsCcf p c → IsRightCcf p M L O c →
    IsBest p L (has_column c.base) (has_column c.mates)
right-best p prime big M L O lay c is R A B mate pair =
    go (rank_exists p prime (layered_value L (matching_values B mate)) (L.q_rows + L.t_rows) L.columns everything)
  where
    full : IsLayeredRank p L (c.rank + O.split)
    full = layering-law p prime M (gives_q M) (has_symbol M) L O lay big c.rank (R.pair_and_rank).rank

    size : pair_size L (has_column c.base) (has_column c.mates) ≡ c.rank + O.split
    size = printed-size p M L c is R.shape (R.pair_and_rank).differ ∙ (R.pair_and_rank).size

    go : (s : ℕ) × IsRank p (layered_value L (matching_values B mate)) (L.q_rows + L.t_rows) L.columns everything s →
        pair_size L A B ≤ pair_size L (has_column c.base) (has_column c.mates)
    go (s, S) = bound (pair_size L A B) s (c.rank + O.split) (pair_size L (has_column c.base) (has_column c.mates))
        (pair-reached p prime L A B mate pair s S) (full.greatest (matching_values B mate) s S) size
      where
        bound : (x s r y : ℕ) → x ≤ s → s ≤ r → y ≡ r → x ≤ y
        bound x s r y one two same = omega arith

right-count : (rank n u s b m : ℕ) → b + m ≡ rank + s → n ≡ u + s → rank + n ≡ u + (b + m)
right-count rank n u s b m size columns = omega arith

pub right-rules : (p : ℕ) → IsPrime p → 2 < p → (M : MixedMatrix) (L : LayeredMatrix) (O : Origins) →
    IsLayeredMatrixOf M L O → (c : Contents) → IsCcf p c → IsRightCcf p M L O c → KeepsPrintedRules p M L c
right-rules p prime big M L O lay c is R = record {
  shape = R.shape;
  inverse = (R.transform).inverse;
  product_is = (R.transform).product_is;
  units = (R.pair_and_rank).units;
  matching = record { symbols = right-symbols p M L O c is R; differ = (R.pair_and_rank).differ };
  counted = right-count c.rank L.columns M.columns O.split (length c.base) (length c.mates) (R.pair_and_rank).size lay.columns;
  columns = (R.block_triangular_form).columns;
  checked = record {
    q_rows = (R.block_triangular_form).q_rows;
    t_rows = (R.block_triangular_form).t_rows;
    below = (R.ideals).below;
    parts = right-kept p prime L (matrix_of c.s) (matrix_of c.u) (tableau_of c) tab
        (best-clear p prime L (tableau_of c) (tableau p prime L (matrix_of c.s) (matrix_of c.u) (tableau_of c) tab) (right-best p prime big M L O lay c is R))
        (parts_of c) (R.block_triangular_form).form (R.canonical_listing).parts (R.ideals).below (lower_of c) ordered (R.canonical_listing).lists
        (λ k l h. let at = lower-before p c is k l h in (omega (arith, at.0, at.1), at.1));
  };
}
  where
    tab : IsTableau p L (matrix_of c.s) (matrix_of c.u) (tableau_of c)
    tab = right-tableau p M L O c is R

    ordered : (k l : ℕ) → k < length c.blocks → l < length c.blocks → ((R.ideals).below k l ≡ true) ↔ IsBlockBelow p L (parts_of c) k l
    ordered k l kl ll = (
      λ h. ((R.canonical_listing).order k l kl ll).0 (((R.ideals).order k l kl ll).0 h),
      λ b. ((R.ideals).order k l kl ll).1 (((R.canonical_listing).order k l kl ll).1 b),
    )
