-- A pair that is ready, before a column is gained and after it.
use Rattle.std.proofs.Common.{◌≡◌, ◌+◌, ◌*◌, ◌≤◌, ◌∙◌, ℕ, ap, sym, subst, refl, arith}
use Rattle.residue_theory.specs.Sets.{IsWithin}
use Rattle.residue_theory.specs.Sums.{size_on}
use Rattle.residue_theory.proofs.SumLaws.{size_on-within}
use Rattle.bipartite_matching.specs.Matchings.{Matching}
use Rattle.row_transform.specs.Tableaus.{TableauState}
use Rattle.exchange_graph.specs.Results.{Found, vain_of}
use Rattle.exchange_graph.specs.Sweeps.{IsLeftOut}
use Rattle.mixed_matrices.specs.Arcs.{is_end, is_free, leads_to}
use Rattle.mixed_matrices.specs.LayeredMatrices.{LayeredMatrix}
use Rattle.mixed_matrices.specs.Tableaus.{Tableau, HasTableau}
use Rattle.independent_matching.specs.declared.marks.Marks.{Marks}
use Rattle.independent_matching.specs.declared.resting.Resting.{Resting}
use Rattle.independent_matching.specs.declared.row.Row.{Row}
use Rattle.independent_matching.specs.Marks.{AreMarks, IsInOrder, IsReadyPair}
use Rattle.independent_matching.specs.Sides.{HasGained, layers_of, size_of, tableau_of_pair}
use Rattle.independent_matching.proofs.RunLaws.{looks-more}
use Rattle.independent_matching.proofs.VainLaws.{left-stays}

module _ (p : ℕ) (S : TableauState) (M : Matching) (found : Found) (r : Resting) (m : Marks) (size pivots looks : ℕ)
    (ready : IsReadyPair p S M found r m size pivots looks) where
  pub ready-order : IsInOrder p S M r m pivots
  ready-order = record {
    pair = ready.pair;
    width = ready.width;
    marks = ready.marks.of_q;
    few = subst (λ n. pivots ≤ n * n) ready.count ready.few;
  }

  -- after a search, which may have left out more
  module _ (next : Found) (kept : next.places ≡ found.places)
      (left : IsLeftOut (leads_to p (layers_of S M) (tableau_of_pair S M)) S.columns (is_free (tableau_of_pair S M))
      (is_end p (layers_of S M) (tableau_of_pair S M)) (vain_of next) next.next)
      (grown : IsWithin S.columns (vain_of found) (vain_of next)) where
    -- none was found
    pub ready-stayed : (more now : ℕ) → size_on (vain_of next) S.columns ≡ size_on (vain_of found) S.columns + more →
        now ≡ looks + more → IsReadyPair p S M next r m size pivots now
    ready-stayed more now vain told = record {
      pair = ready.pair;
      width = ready.width;
      search = kept ∙ ready.search;
      left = left;
      marks = ready.marks;
      count = ready.count;
      few = ready.few;
      few_looks = omega (arith, ready.few_looks, vain, told);
    }

    -- one was found, and the pair has gained a column
    module _ (S' : TableauState) (M' : Matching) (first : ℕ) (end : Row) (gained : HasGained p S S' M M' first end) where
      abbrev F : Tableau
      F = tableau_of_pair S M

      abbrev G : Tableau
      G = tableau_of_pair S' M'

      same : S'.columns ≡ S.columns
      same = ap (λ (L : LayeredMatrix). L.columns) gained.layers

      left-after : HasTableau p (layers_of S' M') G → IsLeftOut (leads_to p (layers_of S' M') G) S'.columns (is_free G)
          (is_end p (layers_of S' M') G) (vain_of next) next.next
      left-after tableau =
          subst (λ (L : LayeredMatrix). IsLeftOut (leads_to p L G) L.columns (is_free G) (is_end p L G) (vain_of next) next.next)
          (sym gained.layers)
          (left-stays p (layers_of S M) F G ready.pair (subst (λ L. HasTableau p L G) gained.layers tableau) gained.sealed
          first gained.taken (vain_of next) next.next left)

      pub ready-more : (r₁ : Resting) (m₁ : Marks) (pivots' : ℕ) → IsInOrder p S' M' r₁ m₁ pivots' →
          (r' : Resting) (m' : Marks) → AreMarks p S' M' r' m' → (more looks' : ℕ) → more ≤ S.columns →
          looks' ≡ looks + more → IsReadyPair p S' M' next r' m' (size + 1) pivots' looks'
      ready-more r₁ m₁ pivots' order r' m' marks more looks' few told = record {
        pair = order.pair;
        width = order.width;
        search = kept ∙ (ready.search ∙ sym same);
        left = left-after order.pair;
        marks = marks;
        count = sym larger;
        few = subst (λ n. pivots' ≤ n * n) larger order.few;
        few_looks = subst (λ n. looks' ≤ (size + 1) * n + size_on (vain_of next) n) (sym same)
            (looks-more size (size + 1) S.columns (size_on (vain_of found) S.columns) (size_on (vain_of next) S.columns)
            looks more looks' ready.few_looks told few refl
            (size_on-within (vain_of next) (vain_of found) S.columns grown));
      }
        where
          larger : size_of S' M' ≡ size + 1
          larger = omega (arith, gained.size, ready.count)
