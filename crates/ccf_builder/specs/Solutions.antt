-- What an engine that has run on a layered matrix tells.
use Rattle.std.specs.Prelude.{ℕ, ◌≡◌, Bool}
use Rattle.bipartite_matching.specs.Matchings.{Matching}
use Rattle.dense_q.specs.Tables.{entry}
use Rattle.row_transform.specs.Tableaus.{TableauState}
use Rattle.mixed_model.specs.Layers.{Layers, layered_matrix_of}
use Rattle.independent_matching.specs.Engines.{AreOpenedEntries, IsSolved, layers}
use Rattle.independent_matching.specs.Sides.{tableau_of_pair}

-- an engine with this tableau modulo p and this matching stands on the layered matrix, and its pair is best;
-- these columns are reached from the free ones
pub record IsSolution (p : ℕ) (of : Layers) (S : TableauState) (M : Matching) (reached : ℕ → Bool) : Type 0 where
  pub layers_are : layers (entry of.q) S M ≡ layered_matrix_of of
  pub entries : AreOpenedEntries p S (entry of.q)
  pub solved : IsSolved p (layered_matrix_of of) (tableau_of_pair S M) reached
