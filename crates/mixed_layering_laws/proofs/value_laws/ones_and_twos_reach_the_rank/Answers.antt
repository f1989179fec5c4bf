use Rattle.std.proofs.Common.{◌<◌, ℕ}
use Rattle.residue_theory.specs.Sets.{everything}
use Rattle.linear_algebra.specs.Columns.{IsIndependent, IsRank}
use Rattle.mixed_matrices.specs.Models.{value}
use Rattle.mixed_layering_laws.proofs.ChangedValues.{kept-greatest, model-ones_and_twos}
use Rattle.mixed_layering_laws.proofs.ScaledRows.{small}
use Rattle.mixed_layering_laws.specs.LayeredValues.{IsOneOrTwo}
use Rattle.mixed_layering_laws.proofs.value_laws.ones_and_twos_reach_the_rank.Goals as goal

pub returns : goal.returns
returns c p prime M r R = go (model-ones_and_twos p prime M R.reached.1.reached.0 R.reached.0 R.reached.1.reached.2)
  where
    go : (v : ℕ → ℕ → ℕ) × IsIndependent p (value M v) M.rows M.columns R.reached.1.reached.0 ×
        ((i j : ℕ) → i < M.rows → j < M.columns → IsOneOrTwo (v i j)) →
        (v : ℕ → ℕ → ℕ) × IsRank p (value M v) M.rows M.columns everything r × ((i j : ℕ) → i < M.rows → j < M.columns → IsOneOrTwo (v i j))
    go (v, ind, small) = (v, kept-greatest p prime M.rows M.columns (value M) r R v ind, small)
