-- What keeps the rules is right.
use Rattle.std.proofs.Common.{◌≡◌, ℕ, ◌+◌, ◌<◌, Bool, true, length, ap, sym, subst, ◌∙◌, arith}
use Rattle.residue_theory.specs.Residues.{IsPrime}
use Rattle.residue_theory.specs.Sums.{size_on}
use Rattle.residue_theory.proofs.SetLaws.{not_true}
use Rattle.closed_sets.specs.Orders.{IsOrder}
use Rattle.closed_sets.proofs.BlockOrder.{below-order}
use Rattle.closed_sets.proofs.Covers.{below-chain, chain-below}
use Rattle.linear_algebra.specs.Bases.{IsBase}
use Rattle.mixed_matrices.specs.Arcs.{HasNoWalk, is_end, is_free, leads_to}
use Rattle.mixed_matrices.specs.CheckerRules.{block_of}
use Rattle.mixed_matrices.specs.LayeredMatrices.{LayeredMatrix}
use Rattle.mixed_matrices.specs.Layerings.{IsLayeredMatrixOf, Origins, gives_q, has_symbol}
use Rattle.mixed_matrices.specs.Models.{MixedMatrix}
use Rattle.mixed_matrices.specs.Pairs.{IsMatching, pair_size}
use Rattle.mixed_matrices.specs.StructuralRanks.{IsLayeredRank, IsStructuralRank}
use Rattle.mixed_matrices.specs.Tableaus.{HasTableau, IsTableau}
use Rattle.mixed_pair_laws.proofs.Minimisers.{least_set, least_set-closed, tableau-pair}
use Rattle.mixed_pair_laws.proofs.PairRank.{closed-rank}
use Rattle.mixed_pair_laws.proofs.TableauParts.{tableau}
use Rattle.mixed_layering_laws.proofs.LayeringRank.{law-layering}
use Rattle.mixed_form_laws.proofs.CheckedForms.{checked-form, checked-ordered}
use Rattle.mixed_form_laws.proofs.CheckedParts.{checked-clear, checked-listing}
use Rattle.mixed_form_laws.proofs.Canonical.{below-block, block-below, block-lower, lower-block, checked-canonical}
use Rattle.mixed_form_laws.proofs.IdealLaws.{ideal-minimiser, minimiser-ideal}
use Rattle.cert_text.specs.Contents.{Contents}
use Rattle.cert_text.specs.Ranges.{IsCcf}
use Rattle.cert_text.specs.Readings.{matrix_of, pair_at, has_column, row_with, tableau_of, parts_of, lower_of, ColumnsDiffer, IsUnitColumn}
use Rattle.cert_text.specs.Right.{HasPairAndRank, HasForm, HasIdeals, HasCanonicalListing, IsOrderOf, HasShape, HasUnitColumns, IsRightCcf}
use Rattle.cert_text.proofs.PrintedRules.{KeepsPrintedRules}
use Rattle.cert_text.proofs.PairLists.{has-found, rows_differ, columns_counted}

unit-at : (p m : ℕ) (b : ℕ → ℕ → ℕ) (i j k l : ℕ) → i ≡ k → j ≡ l → IsUnitColumn p m b i j → IsUnitColumn p m b k l
unit-at p m b i j k l rows columns unit = subst (λ y. IsUnitColumn p m b k y) columns (subst (λ x. IsUnitColumn p m b x j) rows unit)

symbol-at : (t : ℕ → ℕ → Bool) (i j k l : ℕ) → i ≡ k → j ≡ l → t i j ≡ true → t k l ≡ true
symbol-at t i j k l rows columns h = subst (λ y. t k y ≡ true) columns (subst (λ x. t x j ≡ true) rows h)

-- the base columns are unit columns
pub printed-base : (p : ℕ) (M : MixedMatrix) (L : LayeredMatrix) (c : Contents) → IsCcf p c → HasShape M L c →
    HasUnitColumns p L c → IsBase p (matrix_of c.p) L.q_rows L.columns (has_column c.base) (row_with c.base)
printed-base p M L c is sizes units = record {
  row_below = λ b bl h. let at = has-found c.base b h in subst (λ i. i < L.q_rows) at.3
      (subst (λ m. (pair_at c.base at.0).0 < m) sizes.q_rows ((is.base).within at.0 (0, 0) at.1).0);
  one = λ b bl h. (unit b h).one;
  zero = λ b i bl h il other. (unit b h).zero i il other;
  distinct = λ a b al bl ha hb same.
      let x = has-found c.base a ha in
      let y = has-found c.base b hb in
      let place : x.0 ≡ y.0 = rows_differ c.shape.q_rows c.shape.columns c.base is.base x.0 y.0 x.1 y.1 (x.3 ∙ same ∙ sym y.3) in
      sym x.2 ∙ ap (λ k. (pair_at c.base k).1) place ∙ y.2;
}
  where
    unit : (b : ℕ) → has_column c.base b ≡ true → IsUnitColumn p L.q_rows (matrix_of c.p) (row_with c.base b) b
    unit b h = let at = has-found c.base b h in unit-at p L.q_rows (matrix_of c.p) (pair_at c.base at.0).0
        (pair_at c.base at.0).1 (row_with c.base b) b at.3 at.2 (units at.0 at.1)

-- the matched columns have rows of their own
printed-matching : (p : ℕ) (M : MixedMatrix) (L : LayeredMatrix) (c : Contents) → IsCcf p c →
    KeepsPrintedRules p M L c → IsMatching L (has_column c.mates) (row_with c.mates)
printed-matching p M L c is K = record {
  below = λ j jl h. let at = has-found c.mates j h in subst (λ i. i < L.t_rows) at.3
      (subst (λ m. (pair_at c.mates at.0).0 < m) (K.shape).t_rows ((is.mates).within at.0 (0, 0) at.1).0);
  symbol = λ j jl h. let at = has-found c.mates j h in
      symbol-at L.t (pair_at c.mates at.0).0 (pair_at c.mates at.0).1 (row_with c.mates j) j at.3 at.2 ((K.matching).symbols at.0 at.1);
  distinct = λ a b al bl ha hb same.
      let x = has-found c.mates a ha in
      let y = has-found c.mates b hb in
      let place : x.0 ≡ y.0 = rows_differ c.shape.t_rows c.shape.columns c.mates is.mates x.0 y.0 x.1 y.1 (x.3 ∙ same ∙ sym y.3) in
      sym x.2 ∙ ap (λ k. (pair_at c.mates k).1) place ∙ y.2;
}

pub printed-tableau : (p : ℕ) (M : MixedMatrix) (L : LayeredMatrix) (c : Contents) → IsCcf p c →
    KeepsPrintedRules p M L c → IsTableau p L (matrix_of c.s) (matrix_of c.u) (tableau_of c)
printed-tableau p M L c is K = record {
  inverse = K.inverse;
  product = (K.product_is).q;
  base = printed-base p M L c is K.shape K.units;
  matching = printed-matching p M L c is K;
  apart = λ j jl hb. not_true (has_column c.mates j) (λ hm.
      let x = has-found c.base j hb in
      let y = has-found c.mates j hm in
      ((K.matching).differ).apart x.0 y.0 x.1 y.1 (x.2 ∙ sym y.2));
}

-- the size of the printed pair
pub printed-size : (p : ℕ) (M : MixedMatrix) (L : LayeredMatrix) (c : Contents) → IsCcf p c → HasShape M L c →
    ColumnsDiffer c.base c.mates → pair_size L (has_column c.base)
    (has_column c.mates) ≡ length c.base + length c.mates
printed-size p M L c is sizes differ =
    let base : size_on (has_column c.base) L.columns ≡ length c.base = columns_counted L.columns c.base
    (λ k kl. subst (λ n. (pair_at c.base k).1 < n) sizes.columns ((is.base).within k (0, 0) kl).1) differ.in_base in
    let mates : size_on (has_column c.mates) L.columns ≡ length c.mates = columns_counted L.columns c.mates
    (λ k kl. subst (λ n. (pair_at c.mates k).1 < n) sizes.columns ((is.mates).within k (0, 0) kl).1) differ.in_mates in
    omega (arith, base, mates)

printed-count : (rank n u s b m : ℕ) → rank + n ≡ u + (b + m) → n ≡ u + s → b + m ≡ rank + s
printed-count rank n u s b m counted columns = omega arith

printed-rank : (p : ℕ) → IsPrime p → 2 < p → (M : MixedMatrix) (L : LayeredMatrix) (O : Origins) →
    IsLayeredMatrixOf M L O → (c : Contents) → IsCcf p c → KeepsPrintedRules p M L c →
    length c.base + length c.mates ≡ c.rank + O.split → IsStructuralRank p M c.rank
printed-rank p prime big M L O lay c is K size = law-layering p prime M (gives_q M) (has_symbol M) L O lay big c.rank
    (subst (λ r. IsLayeredRank p L r) (printed-size p M L c is K.shape (K.matching).differ ∙ size)
    (closed-rank p prime L (tableau_of c) tab (least_set p L (tableau_of c))
    (least_set-closed p L (tableau_of c) clear)))
  where
    tab : HasTableau p L (tableau_of c)
    tab = tableau p prime L (matrix_of c.s) (matrix_of c.u) (tableau_of c) (printed-tableau p M L c is K)

    clear : HasNoWalk p L (tableau_of c)
    clear = checked-clear p L (tableau_of c) (parts_of c) (K.checked).below (lower_of c) (K.checked).parts

printed-pair : (p : ℕ) → IsPrime p → 2 < p → (M : MixedMatrix) (L : LayeredMatrix) (O : Origins) →
    IsLayeredMatrixOf M L O → (c : Contents) → IsCcf p c → KeepsPrintedRules p M L c → HasPairAndRank p M L O c
printed-pair p prime big M L O lay c is K =
    let size : length c.base + length c.mates ≡ c.rank + O.split = printed-count c.rank L.columns M.columns O.split
    (length c.base) (length c.mates) K.counted lay.columns in
    record {
      units = K.units;
      differ = (K.matching).differ;
      pair = tableau-pair p prime L (tableau_of c) (tableau p prime L (matrix_of c.s) (matrix_of c.u) (tableau_of c) (printed-tableau p M L c is K));
      size = size;
      rank = printed-rank p prime big M L O lay c is K size;
    }

-- the order of the blocks is that of the chains
printed-order : (p : ℕ) (M : MixedMatrix) (L : LayeredMatrix) (c : Contents) → (K : KeepsPrintedRules p M L c) → IsOrderOf c (K.checked).below
printed-order p M L c K = λ k l kl ll. (
  below-chain (K.checked).below (length c.blocks) order (lower_of c) ((K.checked).parts).lists k l kl ll,
  chain-below (K.checked).below (length c.blocks) order (lower_of c) ((K.checked).parts).lists k l kl ll,
)
  where
    order : IsOrder (K.checked).below (length c.blocks)
    order = below-order (leads_to p L (tableau_of c)) L.columns (is_free (tableau_of c)) (is_end p L (tableau_of c)) (block_of (parts_of c)) (length c.blocks)
        (checked-listing p L (tableau_of c) (parts_of c) (K.checked).below (lower_of c) (K.checked).parts) (K.checked).below ((K.checked).parts).order

printed-form : (p : ℕ) → IsPrime p → (M : MixedMatrix) (L : LayeredMatrix) (c : Contents) → IsCcf p c → KeepsPrintedRules p M L c → HasForm p L c
printed-form p prime M L c is K = record {
  columns = K.columns;
  q_rows = (K.checked).q_rows;
  t_rows = (K.checked).t_rows;
  form = checked-form p prime L (matrix_of c.s) (matrix_of c.u) (tableau_of c) (printed-tableau p M L c is K)
      (parts_of c) (K.checked).below (lower_of c) (K.checked).parts;
  ordered = λ k l kl ll ne none. checked-ordered p prime L (matrix_of c.s) (matrix_of c.u) (tableau_of c)
      (printed-tableau p M L c is K) (parts_of c) (K.checked).below (lower_of c) (K.checked).parts k l kl ll ne
      (λ h. none ((printed-order p M L c K k l kl ll).0 h));
}

printed-ideals : (p : ℕ) → IsPrime p → (M : MixedMatrix) (L : LayeredMatrix) (c : Contents) → IsCcf p c → KeepsPrintedRules p M L c → HasIdeals p L c
printed-ideals p prime M L c is K = record {
  below = (K.checked).below;
  order = printed-order p M L c K;
  ideals = λ X. (
    minimiser-ideal p prime L (tableau_of c) tab (parts_of c) (K.checked).below (lower_of c) (K.checked).parts X,
    λ I. ideal-minimiser p prime L (tableau_of c) tab (parts_of c) (K.checked).below (lower_of c) (K.checked).parts X I.0 I.1,
  );
}
  where
    tab : HasTableau p L (tableau_of c)
    tab = tableau p prime L (matrix_of c.s) (matrix_of c.u) (tableau_of c) (printed-tableau p M L c is K)

printed-listing : (p : ℕ) → IsPrime p → (M : MixedMatrix) (L : LayeredMatrix) (c : Contents) → IsCcf p c → KeepsPrintedRules p M L c → HasCanonicalListing p L c
printed-listing p prime M L c is K = record {
  parts = checked-canonical p prime L (tableau_of c) tab (parts_of c) (K.checked).below (lower_of c) (K.checked).parts;
  order = λ k l kl ll. (
    λ chain. below-block p prime L (tableau_of c) tab (parts_of c) (K.checked).below (lower_of c)
        (K.checked).parts k l kl ll ((printed-order p M L c K k l kl ll).1 chain),
    λ held. (printed-order p M L c K k l kl ll).0 (block-below p prime L (tableau_of c) tab (parts_of c)
        (K.checked).below (lower_of c) (K.checked).parts k l kl ll held),
  );
  lists = λ k l kl ll. (
    lower-block p prime L (tableau_of c) tab (parts_of c) (K.checked).below (lower_of c) (K.checked).parts k l kl ll,
    block-lower p prime L (tableau_of c) tab (parts_of c) (K.checked).below (lower_of c) (K.checked).parts k l kl ll,
  );
}
  where
    tab : HasTableau p L (tableau_of c)
    tab = tableau p prime L (matrix_of c.s) (matrix_of c.u) (tableau_of c) (printed-tableau p M L c is K)

pub rules-right : (p : ℕ) → IsPrime p → 2 < p → (M : MixedMatrix) (L : LayeredMatrix) (O : Origins) →
    IsLayeredMatrixOf M L O → (c : Contents) → IsCcf p c → KeepsPrintedRules p M L c → IsRightCcf p M L O c
rules-right p prime big M L O lay c is K = record {
  shape = K.shape;
  transform = record { inverse = K.inverse; product_is = K.product_is };
  pair_and_rank = printed-pair p prime big M L O lay c is K;
  block_triangular_form = printed-form p prime M L c is K;
  ideals = printed-ideals p prime M L c is K;
  canonical_listing = printed-listing p prime M L c is K;
}
