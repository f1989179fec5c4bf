use Rattle.std.proofs.Common.{◌+◌, ◌<◌, ℕ}
use Rattle.residue_theory.specs.Sets.{everything}
use Rattle.linear_algebra.specs.Columns.{IsIndependent, IsRank}
use Rattle.mixed_matrices.specs.LayeredMatrices.{layered_value}
use Rattle.mixed_layering_laws.proofs.ChangedValues.{kept-greatest, layered-ones_and_twos}
use Rattle.mixed_layering_laws.proofs.ScaledRows.{small}
use Rattle.mixed_layering_laws.specs.LayeredValues.{IsOneOrTwo}
use Rattle.mixed_layering_laws.proofs.value_laws.ones_and_twos_reach_the_layered_rank.Goals as goal

pub returns : goal.returns
returns c p prime L r R = go (layered-ones_and_twos p prime L R.reached.1.reached.0 R.reached.0 R.reached.1.reached.2)
  where
    go : (w : ℕ → ℕ → ℕ) × IsIndependent p (layered_value L w) (L.q_rows + L.t_rows) L.columns R.reached.1.reached.0 ×
        ((i j : ℕ) → i < L.t_rows → j < L.columns → IsOneOrTwo (w i j)) →
        (w : ℕ → ℕ → ℕ) × IsRank p (layered_value L w) (L.q_rows + L.t_rows) L.columns everything r ×
        ((i j : ℕ) → i < L.t_rows → j < L.columns → IsOneOrTwo (w i j))
    go (w, ind, small) = (w, kept-greatest p prime (L.q_rows + L.t_rows) L.columns (layered_value L) r R w ind, small)
