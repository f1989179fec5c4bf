use Rattle.std.proofs.Common.{◌≤◌, ℕ, refl, subst}
use Rattle.residue_theory.specs.Sets.{everything}
use Rattle.linear_algebra.specs.Columns.{IsIndependent, IsRank}
use Rattle.linear_algebra.specs.Parts.{with_entry}
use Rattle.linear_algebra_laws.proofs.Ranks.{rank_exists}
use Rattle.mixed_matrices.specs.Models.{value}
use Rattle.mixed_layering_laws.proofs.ChangedValues.{model-placed}
use Rattle.mixed_layering_laws.proofs.ScaledRows.{small}
use Rattle.mixed_layering_laws.specs.LayeredValues.{IsOneOrTwo}
use Rattle.mixed_layering_laws.proofs.value_laws.one_symbol_may_be_one_or_two.Goals as goal

pub returns : goal.returns
returns c p prime M v i j il r R = go (model-placed p prime M R.reached.0 v R.reached.2 i j il)
  where
    go : (x : ℕ) × IsOneOrTwo x × IsIndependent p (value M (with_entry v i j x)) M.rows M.columns R.reached.0 →
        (x s : ℕ) × IsOneOrTwo x × IsRank p (value M (with_entry v i j x)) M.rows M.columns everything s × (r ≤ s)
    go (x, small, ind) = ranked (rank_exists p prime (value M (with_entry v i j x)) M.rows M.columns everything)
      where
        ranked : (s : ℕ) × IsRank p (value M (with_entry v i j x)) M.rows M.columns everything s →
            (x s : ℕ) × IsOneOrTwo x × IsRank p (value M (with_entry v i j x)) M.rows M.columns everything s × (r ≤ s)
        ranked (s, S) = (x, s, small, S, subst (λ k. k ≤ s) R.reached.3 (S.greatest R.reached.0 (λ _ _ _. refl) ind))
