-- A transform keeps the solutions, and blocks that are solved solve the whole.
use Rattle.std.proofs.Common.{◌≡◌, ℕ, ◌+◌, ◌*◌, ◌%◌, ◌<◌, Bool, refl, ◌∙◌}
use Rattle.residue_theory.specs.Residues.{IsPrime}
use Rattle.residue_theory.specs.Sums.{sum_below}
use Rattle.residue_theory.proofs.ResidueLaws.{vanishes-mul}
use Rattle.residue_theory.proofs.SetLaws.{eqb_from}
use Rattle.linear_algebra.specs.Products.{IsInverse, product}
use Rattle.mixed_matrices.specs.Forms.{Parts}
use Rattle.mixed_matrices.specs.LayeredMatrices.{LayeredMatrix, layered_value}
use Rattle.mixed_matrices.specs.Layerings.{IsLayeredMatrixOf, Origins, gives_q}
use Rattle.mixed_matrices.specs.Models.{MixedMatrix, numbers, value}
use Rattle.mixed_layering_laws.specs.LayeredValues.{AreValuesFor}
use Rattle.block_laws.specs.NumbersInBlocks.{HoldsEntries, IsBlockSolved, IsSquareForm, block_matrix, block_right}
use Rattle.block_laws.specs.NumbersInBlocks.{layered_right, q_right, row_part, t_right}
use Rattle.block_laws.specs.Systems.{IsSystemSolution}
use Rattle.block_laws.proofs.BlockRanks.{row_in_block}
use Rattle.block_laws.proofs.LayeredSolutions.{model_solution}
use Rattle.block_laws.proofs.Systems.{solution-low, solution-product, solution-stacked, solution-top}
use Rattle.block_laws.proofs.Systems.{solution_of-product, sum-outside}

module _ (p : ℕ) (prime : IsPrime p) (L : LayeredMatrix) (S U : ℕ → ℕ → ℕ) (inv : IsInverse p L.q_rows S U) (w : ℕ → ℕ → ℕ)
    (A : ℕ → Bool) (O : Origins) (x b : ℕ → ℕ) where
  pub solution-transformed : IsSystemSolution p (layered_value L w) (L.q_rows + L.t_rows) L.columns x (layered_right A L O b) →
      IsSystemSolution p (block_matrix S L w) (L.q_rows + L.t_rows) L.columns x (block_right S A L O b)
  solution-transformed s = solution-stacked p L.q_rows L.t_rows L.columns (product L.q_rows S L.q) (numbers L.t w) x
      (λ i. sum_below L.q_rows (λ t. S i t * q_right O b t)) (t_right A O b)
      (solution-product p prime L.q_rows L.columns S U L.q inv x (q_right O b)
      (solution-top p L.q_rows L.t_rows L.columns L.q (numbers L.t w) x (q_right O b) (t_right A O b) s))
      (solution-low p L.q_rows L.t_rows L.columns L.q (numbers L.t w) x (q_right O b) (t_right A O b) s)

  pub transformed-solution : IsSystemSolution p (block_matrix S L w) (L.q_rows + L.t_rows) L.columns x (block_right S A L O b) →
      IsSystemSolution p (layered_value L w) (L.q_rows + L.t_rows) L.columns x (layered_right A L O b)
  transformed-solution s = solution-stacked p L.q_rows L.t_rows L.columns L.q (numbers L.t w) x (q_right O b) (t_right A O b)
      (solution_of-product p prime L.q_rows L.columns S U L.q inv x (q_right O b)
      (solution-top p L.q_rows L.t_rows L.columns (product L.q_rows S L.q) (numbers L.t w) x
      (λ i. sum_below L.q_rows (λ t. S i t * q_right O b t)) (t_right A O b) s))
      (solution-low p L.q_rows L.t_rows L.columns (product L.q_rows S L.q) (numbers L.t w) x
      (λ i. sum_below L.q_rows (λ t. S i t * q_right O b t)) (t_right A O b) s)

module _ (p : ℕ) (prime : IsPrime p) (M : MixedMatrix) (L : LayeredMatrix) (O : Origins) (lay : IsLayeredMatrixOf M L O) (v w : ℕ → ℕ → ℕ)
    (values : AreValuesFor p M L O v w) (S : ℕ → ℕ → ℕ) (G : Parts) (form : IsSquareForm p L S G) (X : ℕ → ℕ → Bool) (x b : ℕ → ℕ)
    (holds : (k : ℕ) → k < G.blocks → HoldsEntries p S L G w k (X k))
    (solved : (k : ℕ) → k < G.blocks → IsBlockSolved p S (gives_q M) L O G w k (X k) x b) where
  each-row : IsSystemSolution p (block_matrix S L w) (L.q_rows + L.t_rows) L.columns x (block_right S (gives_q M) L O b)
  each-row i il = go (row_in_block p prime L S G form i il)
    where
      go : (k : ℕ) × (k < G.blocks) × (row_part L G i ≡ k + 1) →
          sum_below L.columns (λ j. x j * block_matrix S L w i j) % p ≡ block_right S (gives_q M) L O b i % p
      go (k, kl, q) = sum-outside p L.columns (X k) (λ j. x j * block_matrix S L w i j)
          (λ j jl out. vanishes-mul p (x j) (block_matrix S L w i j) (holds k kl i j il jl (eqb_from (row_part L G i) (k + 1) q) out))
          ∙ solved k kl i il (eqb_from (row_part L G i) (k + 1) q)

  pub blocks-solve : IsSystemSolution p (value M v) M.rows M.columns x b
  blocks-solve = go form.form.0
    where
      go : ((U : ℕ → ℕ → ℕ) × IsInverse p L.q_rows S U × IsInverse p L.q_rows U S) → IsSystemSolution p (value M v) M.rows M.columns x b
      go (U, inv, _) = model_solution p prime M L O lay v w values x b
          (x, (λ _ _. refl), transformed-solution p prime L S U inv w (gives_q M) O x b each-row)
