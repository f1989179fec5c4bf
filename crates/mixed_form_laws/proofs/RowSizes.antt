-- Two forms with the same column parts have row parts of the same sizes: a block has as many rows as columns, the first tail's are told
-- by R(L), and the last tail has the others.
use Rattle.std.proofs.Common.{◌≡◌, ◌+◌, ◌<◌, ◌≤◌, ◌≢◌, ◌⊎◌, ◌∙◌, ℕ, eqb, leb, inl, inr, ap, sym, subst, arith}
use Rattle.residue_theory.proofs.SumLaws.{nat_cases, sum_on-same}
use Rattle.residue_theory.specs.Residues.{IsPrime}
use Rattle.residue_theory.specs.Sums.{size_on}
use Rattle.linear_algebra.specs.Parts.{in_part}
use Rattle.mixed_matrices.specs.Forms.{IsForm, Parts, part_columns, part_rows, transformed}
use Rattle.mixed_matrices.specs.LayeredMatrices.{LayeredMatrix}
use Rattle.mixed_matrices.specs.StructuralRanks.{IsLayeredRank}
use Rattle.mixed_pair_laws.proofs.BestPairs.{layered-rank_exists}
use Rattle.mixed_form_laws.proofs.FirstParts.{form-rank, last-rows, sizes}

module _ (p : ℕ) (prime : IsPrime p) (L : LayeredMatrix) (S T : ℕ → ℕ → ℕ) (G H : Parts) (form : IsForm p L S G) (other : IsForm p L T H)
    (blocks : G.blocks ≡ H.blocks) (same : (x : ℕ) → x < L.columns → G.column x ≡ H.column x) where
  same-columns : (k : ℕ) → part_columns (transformed S L) G k ≡ part_columns (transformed T L) H k
  same-columns k = sum_on-same (in_part G.column k) (in_part H.column k) L.columns (λ _. 1) (λ x xl. ap (λ c. eqb c k) (same x xl))

  first-rows : part_rows (transformed S L) G 0 ≡ part_rows (transformed T L) H 0
  first-rows = go (layered-rank_exists p prime L)
    where
      go : (r : ℕ) × IsLayeredRank p L r → part_rows (transformed S L) G 0 ≡ part_rows (transformed T L) H 0
      go (r, R) = omega (
        arith,
        form-rank p prime L S form.0.0 form.0.1 G form.1 r R,
        form-rank p prime L T other.0.0 other.0.1 H other.1 r R,
        same-columns 0,
      )

  early-columns : size_on (λ j. leb (G.column j) G.blocks) L.columns ≡ size_on (λ j. leb (H.column j) H.blocks) L.columns
  early-columns = sum_on-same (λ j. leb (G.column j) G.blocks) (λ j. leb (H.column j) G.blocks) L.columns (λ _. 1)
      (λ x xl. ap (λ c. leb c G.blocks) (same x xl))
      ∙ ap (λ b. size_on (λ j. leb (H.column j) b) L.columns) blocks

  final-rows : part_rows (transformed S L) G (G.blocks + 1) ≡ part_rows (transformed T L) H (H.blocks + 1)
  final-rows = omega (
    arith,
    last-rows p prime L S form.0.0 form.0.1 G form.1,
    last-rows p prime L T other.0.0 other.0.1 H other.1,
    sizes p prime L S form.0.0 form.0.1 G form.1 G.blocks (omega arith),
    sizes p prime L T other.0.0 other.0.1 H other.1 H.blocks (omega arith),
    early-columns,
    same-columns 0,
    first-rows,
  )

  pub same-rows : (k : ℕ) → k ≤ G.blocks + 1 → part_rows (transformed S L) G k ≡ part_rows (transformed T L) H k
  same-rows k le = go (nat_cases k 0) (nat_cases k (G.blocks + 1))
    where
      go : (k ≡ 0) ⊎ (k ≢ 0) → (k ≡ G.blocks + 1) ⊎ (k ≢ G.blocks + 1) → part_rows (transformed S L) G k ≡ part_rows (transformed T L) H k
      go (inl z) _ = subst (λ h. part_rows (transformed S L) G h ≡ part_rows (transformed T L) H h) (sym z) first-rows
      go (inr ne) (inl q) = ap (λ h. part_rows (transformed S L) G h) q ∙ final-rows
          ∙ ap (λ h. part_rows (transformed T L) H h) (let e : H.blocks + 1 ≡ k = omega (arith, q, blocks) in e)
      go (inr ne) (inr no_last) = (form.1.square k (omega arith) (omega arith)).0 ∙ same-columns k
          ∙ sym ((other.1.square k (omega arith) (omega (arith, blocks))).0)
