-- The parts of an engine's arcs.
use Rattle.std.specs.Prelude.{ℕ, ◌<◌, ◌≡◌, Bool}
use Rattle.closed_sets.specs.Closed.{NoEndReached}
use Rattle.closed_sets.specs.Rules.{KeepsPlaceRules}
use Rattle.row_transform.specs.Tableaus.{TableauState}
use Rattle.bipartite_matching.specs.Matchings.{Matching}
use Rattle.mixed_matrices.specs.Arcs.{is_end, is_free, leads_to}
use Rattle.independent_matching.specs.Sides.{layers_of, tableau_of_pair}
use Rattle.minimiser_lattice.specs.Parts.{PlaceParts, IsLattice}

-- these are the parts of the arcs of a tableau modulo p and a matching, from the free columns and to the ends
pub record IsDecomposition (p : ℕ) (S : TableauState) (M : Matching) (v : PlaceParts) : Type 0 where
  pub starts : ℕ → Bool
  pub ends : ℕ → Bool
  pub starts_are : (x : ℕ) → x < S.columns → starts x ≡ is_free (tableau_of_pair S M) x
  pub ends_are : (x : ℕ) → x < S.columns → ends x ≡ is_end p (layers_of S M) (tableau_of_pair S M) x
  pub places : v.places ≡ S.columns
  pub lattice : IsLattice (leads_to p (layers_of S M) (tableau_of_pair S M)) S.columns starts ends v
  pub rules :
      NoEndReached (leads_to p (layers_of S M) (tableau_of_pair S M)) S.columns starts ends →
      KeepsPlaceRules (leads_to p (layers_of S M) (tableau_of_pair S M)) S.columns starts ends
      v.first v.last v.block v.blocks v.covers
