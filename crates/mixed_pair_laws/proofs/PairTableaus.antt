-- Each pair stands in a tableau.
use Rattle.std.proofs.Common.{ℕ, Bool}
use Rattle.residue_theory.specs.Residues.{IsPrime}
use Rattle.linear_algebra_laws.proofs.Transforms.{Transformed, transformed_base}
use Rattle.mixed_matrices.specs.LayeredMatrices.{LayeredMatrix}
use Rattle.mixed_matrices.specs.Pairs.{IsPair}
use Rattle.mixed_matrices.specs.Tableaus.{IsTableau}

pub pair_tableau : (p : ℕ) → IsPrime p → (L : LayeredMatrix) (I J : ℕ → Bool) (mate : ℕ → ℕ) → IsPair p L I J mate →
    (S : ℕ → ℕ → ℕ) × (U : ℕ → ℕ → ℕ) × (P : ℕ → ℕ → ℕ) × (row : ℕ → ℕ) × IsTableau p L S U (record { P = P; base = I; row = row; matched = J; mate = mate })
pair_tableau p prime L I J mate pair = go (transformed_base p prime L.q_rows L.columns L.q I pair.independent)
  where
    go : Transformed p L.q_rows L.columns L.q I →
        (S : ℕ → ℕ → ℕ) × (U : ℕ → ℕ → ℕ) × (P : ℕ → ℕ → ℕ) × (row : ℕ → ℕ) × IsTableau p L S U (record {
          P = P;
          base =
              I;
          row = row;
          matched = J;
          mate = mate;
        })
    go T = (T.S, T.U, T.P, T.row, record { inverse = T.inverse; product = T.made; base = T.base; matching = pair.matching; apart = pair.apart })
