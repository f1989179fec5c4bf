-- What a held model gives to an edit, and what it tells.
use Rattle.std.proofs.Common.{◌≡◌, ℕ, ◌-◌, ◌<◌, ◌≤◌, Bool, length, sym, subst, ◌∙◌}
use Rattle.residue_theory.specs.Residues.{IsPrime}
use Rattle.closed_sets.specs.Closed.{NoEndReached}
use Rattle.dense_q.specs.Tables.{entry}
use Rattle.exchange_graph.specs.Results.{vain_of}
use Rattle.mixed_layering.specs.Layers.{AreLayersOf, origins_of}
use Rattle.mixed_layering_laws.proofs.LayeringRank.{model_rank}
use Rattle.mixed_matrices.specs.Arcs.{HasNoWalk, is_end, is_free, leads_to}
use Rattle.mixed_matrices.specs.LayeredMatrices.{LayeredMatrix}
use Rattle.mixed_matrices.specs.Layerings.{IsLayeredMatrixOf}
use Rattle.mixed_matrices.specs.Pairs.{IsBest, pair_size}
use Rattle.mixed_matrices.specs.StructuralRanks.{IsLayeredRank, IsStructuralRank}
use Rattle.mixed_model.specs.Layers.{Layers, layered_matrix_of, split_of}
use Rattle.mixed_model.specs.Models.{MixedModel, mixed_matrix_of}
use Rattle.row_transform.specs.Tableaus.{TableauState}
use Rattle.independent_matching.specs.Changes.{IsAfter}
use Rattle.independent_matching.specs.declared.change.Change.{Change}
use Rattle.independent_matching.specs.Engines.{AreOpenedEntries, HasKept, HasRun, IsEditOfBest, IsOpenedOver, IsSolved, IsUpdated, Standing, layers}
use Rattle.independent_matching.specs.Sides.{is_matched, layers_of, size_of, tableau_of_pair}
use Rattle.independent_matching.proofs.EngineLaws.{same-arcs, same-ends}
use Rattle.edit_desk.specs.Held.{HeldModel, IsHeld}

-- an engine that was opened and run is at a best pair
pub updated-run : (A : Type 0) (state : A → TableauState) (count : A → ℕ) (p : ℕ) (l : Layers) (old now : Standing A)
    (before after : ℕ) → IsOpenedOver A state p (entry l.q) (layered_matrix_of l) old →
    HasRun A state count p old now before after → IsUpdated A state p l now
updated-run A state count p l old now before after opened run =
    let same = run.same (entry l.q) ∙ opened.layers_are in
    let entries = run.entries (entry l.q) opened.entries in
    record {
      layers_are = same;
      entries = entries;
      solved = subst (λ M. IsSolved p M (tableau_of_pair (state now.tableau) now.matching) (vain_of now.found)) same
          (run.solved (entry l.q) entries);
    }

-- an engine that has stayed is at the same best pair
pub updated-kept : (A : Type 0) (state : A → TableauState) (count : A → ℕ) (p : ℕ) (l : Layers) (old now : Standing A) →
    HasKept A state count old now → IsUpdated A state p l old → IsUpdated A state p l now
updated-kept A state count p l old now kept is = record {
  layers_are = subst (λ S. layers (entry l.q) S now.matching ≡ layered_matrix_of l) (sym kept.tableau)
      (subst (λ M. layers (entry l.q) (state old.tableau) M ≡ layered_matrix_of l) (sym kept.matching) is.layers_are);
  entries = subst (λ S. AreOpenedEntries p S (entry l.q)) (sym kept.tableau) is.entries;
  solved = subst (λ S. IsSolved p (layered_matrix_of l) (tableau_of_pair S now.matching) (vain_of now.found)) (sym kept.tableau)
      (subst (λ M. IsSolved p (layered_matrix_of l) (tableau_of_pair (state old.tableau) M) (vain_of now.found)) (sym kept.matching)
      (subst (λ f. IsSolved p (layered_matrix_of l) (tableau_of_pair (state old.tableau) old.matching) (vain_of f)) (sym kept.found)
      is.solved));
}

module _ (A : Type 0) (state : A → TableauState) (p : ℕ) (h : HeldModel A) (is : IsHeld A state p h) where
  -- an edit of a held model is one of a best pair
  pub edit-of-best : (change : Change) (model : MixedModel) (new : Layers) → AreLayersOf model new →
      IsAfter change (mixed_matrix_of h.model) (mixed_matrix_of model) →
      IsEditOfBest p change (state h.engine.tableau) h.engine.matching new
  edit-of-best change model new are after = record {
    entries = entry h.layers.q;
    opened = is.best.entries;
    best = subst (λ L. IsBest p L (state h.engine.tableau).base (is_matched h.engine.matching)) (sym is.best.layers_are) is.best.solved.best;
    edit = record {
      before = mixed_matrix_of h.model;
      after = mixed_matrix_of model;
      origins = origins_of h.layers is.layers.split;
      split = are.split;
      layered = subst (λ L. IsLayeredMatrixOf (mixed_matrix_of h.model) L (origins_of h.layers is.layers.split)) (sym is.best.layers_are)
          is.layers.layered;
      layered_after = are.layered;
      count = are.count;
      change_is = after;
    };
  }

  module _ (prime : IsPrime p) (odd : 2 < p) where
    ranked : IsStructuralRank p (mixed_matrix_of h.model) (size_of (state h.engine.tableau) h.engine.matching - length is.layers.split)
        × (length is.layers.split ≤ size_of (state h.engine.tableau) h.engine.matching)
    ranked = model_rank p prime odd (mixed_matrix_of h.model) (layered_matrix_of h.layers) (origins_of h.layers is.layers.split) is.layers.layered
        (size_of (state h.engine.tableau) h.engine.matching)
        (subst (λ L. IsLayeredRank p (layered_matrix_of h.layers) (pair_size L (state h.engine.tableau).base (is_matched h.engine.matching)))
        (sym is.best.layers_are) is.best.solved.rank)

    pub held-rank : IsStructuralRank p (mixed_matrix_of h.model) (size_of (state h.engine.tableau) h.engine.matching - split_of h.layers)
    held-rank = subst (λ s. IsStructuralRank p (mixed_matrix_of h.model) (size_of (state h.engine.tableau) h.engine.matching - s))
        (sym is.layers.count) ranked.0

    pub held-split : split_of h.layers ≤ size_of (state h.engine.tableau) h.engine.matching
    held-split = subst (λ s. s ≤ size_of (state h.engine.tableau) h.engine.matching) (sym is.layers.count) ranked.1

  -- no end is reached from a free column by the arcs of the tableau and the matching
  pub held-clear : HasNoWalk p (layers_of (state h.engine.tableau) h.engine.matching)
      (tableau_of_pair (state h.engine.tableau) h.engine.matching)
  held-clear =
      let S = state h.engine.tableau in
      let M = h.engine.matching in
      let F = tableau_of_pair S M in
      subst (λ (ends : ℕ → Bool). NoEndReached (leads_to p (layers_of S M) F) S.columns (is_free F) ends) (same-ends p (entry h.layers.q) S M)
      (subst (λ (arc : ℕ → ℕ → Bool). NoEndReached arc S.columns (is_free F) (is_end p (layers (entry h.layers.q) S M) F))
      (same-arcs p (entry h.layers.q) S M)
      (subst (λ (L : LayeredMatrix). HasNoWalk p L F) (sym is.best.layers_are) is.best.solved.no_walk))
