-- The pair of an engine, for the entries that its tableau came from.
use Rattle.std.proofs.Common.{◌≡◌, ℕ, Bool, ap, refl, sym, subst}
use Rattle.closed_sets.proofs.ClosedLaws.{closed-from, reached-closed}
use Rattle.closed_sets.specs.Closed.{IsReachedSet, NoEndReached}
use Rattle.linear_algebra_laws.proofs.Kernels.{kernel-sym, kernel-trans, kernel_of-agree}
use Rattle.linear_algebra.specs.Products.{Agree}
use Rattle.residue_theory.specs.Residues.{IsPrime}
use Rattle.bipartite_matching.specs.Matchings.{Matching}
use Rattle.row_transform.specs.Tableaus.{TableauState}
use Rattle.mixed_matrices.specs.Arcs.{HasNoWalk, IsClosedIn, IsReachedFromFree, has_base, has_match, is_end, is_free, leads_to}
use Rattle.mixed_matrices.specs.LayeredMatrices.{LayeredMatrix}
use Rattle.mixed_matrices.specs.Tableaus.{Tableau, HasTableau}
use Rattle.mixed_pair_laws.proofs.Minimisers.{closed-best, closed-minimiser, least_set, least_set-closed, minimiser-closed}
use Rattle.mixed_pair_laws.proofs.PairRank.{closed-rank}
use Rattle.independent_matching.specs.Engines.{AreOpenedEntries, IsSolved, layers}
use Rattle.independent_matching.specs.Sides.{layers_of, tableau_of_pair}

-- arcs and ends are read from P, and not from the entries that it came from
pub same-arcs : (p : ℕ) (q : ℕ → ℕ → ℕ) (S : TableauState) (M : Matching) → leads_to p (layers q S M) (tableau_of_pair S M) ≡ leads_to p (layers_of S M)
    (tableau_of_pair S M)
unfolding leads_to
same-arcs p q S M = refl

pub same-ends : (p : ℕ) (q : ℕ → ℕ → ℕ) (S : TableauState) (M : Matching) → is_end p (layers q S M) (tableau_of_pair S M) ≡ is_end p (layers_of S M)
    (tableau_of_pair S M)
unfolding is_end has_base has_match
same-ends p q S M = refl

-- what is a tableau for the kept entries is one for entries that agree with them
pub entries-tableau : (p : ℕ) (q : ℕ → ℕ → ℕ) (S : TableauState) (M : Matching) → AreOpenedEntries p S q →
    HasTableau p (layers_of S M) (tableau_of_pair S M) → HasTableau p (layers q S M) (tableau_of_pair S M)
entries-tableau p q S M agree tableau = record {
  kernel = kernel-trans p S.rows S.columns q S.q S.p (kernel-sym p S.rows S.columns S.q q (kernel_of-agree p S.rows S.columns S.q q agree)) tableau.kernel;
  base = tableau.base;
  matching = record { below = tableau.matching.below; symbol = tableau.matching.symbol; distinct = tableau.matching.distinct };
  apart = tableau.apart;
}

module _ (p : ℕ) (prime : IsPrime p) (S : TableauState) (M : Matching) (kept : HasTableau p (layers_of S M)
    (tableau_of_pair S M)) (clear : HasNoWalk p (layers_of S M) (tableau_of_pair S M))
    (X : ℕ → Bool) (from_free : IsReachedFromFree p (layers_of S M) (tableau_of_pair S M) X) (q : ℕ → ℕ → ℕ) (agree : AreOpenedEntries p S q) where
  abbrev L : LayeredMatrix
  L = layers q S M

  abbrev F : Tableau
  F = tableau_of_pair S M

  tableau : HasTableau p L F
  tableau = entries-tableau p q S M agree kept

  no_walk : HasNoWalk p L F
  no_walk = subst (λ arc. NoEndReached arc S.columns (is_free F) (is_end p L F)) (sym (same-arcs p q S M))
      (subst (λ ends. NoEndReached (leads_to p (layers_of S M) F) S.columns (is_free F) ends) (sym (same-ends p q S M)) clear)

  reached : IsReachedFromFree p L F X
  reached = subst (λ arc. IsReachedSet arc S.columns (is_free F) X) (sym (same-arcs p q S M)) from_free

  closed : IsClosedIn p L F (least_set p L F)
  closed = least_set-closed p L F no_walk

  pub solved : IsSolved p L F X
  solved = record {
    tableau = tableau;
    best = closed-best p prime L F tableau (least_set p L F) closed;
    rank = closed-rank p prime L F tableau (least_set p L F) closed;
    no_walk = no_walk;
    minimisers = λ Y. (minimiser-closed p prime L F tableau (least_set p L F) closed Y, closed-minimiser p prime L F tableau Y);
    from_free = reached;
    minimiser = closed-minimiser p prime L F tableau X (reached-closed (leads_to p L F) L.columns (is_free F) (is_end p L F) no_walk X reached);
    least = λ Y least j jl h. closed-from (leads_to p L F) L.columns (is_free F) (is_end p L F) Y
        (minimiser-closed p prime L F tableau (least_set p L F) closed Y least) j jl ((reached j jl).0 h);
  }

-- where the layered matrix stays, it does with other entries, and the entries that it came from stay
pub layers-kept : (q : ℕ → ℕ → ℕ) (S S₀ : TableauState) (M M₀ : Matching) → layers_of S M ≡ layers_of S₀ M₀ → layers q S M ≡ layers q S₀ M₀
layers-kept q S S₀ M M₀ same = ap (λ (L : LayeredMatrix). record L { q = q }) same

pub entries-kept : (p : ℕ) (q : ℕ → ℕ → ℕ) (S S₀ : TableauState) (M M₀ : Matching) → layers_of S M ≡ layers_of S₀ M₀ → AreOpenedEntries p S₀ q →
    AreOpenedEntries p S q
entries-kept p q S S₀ M M₀ same = subst (λ (L : LayeredMatrix). Agree p L.q_rows L.columns L.q q) (sym same)
