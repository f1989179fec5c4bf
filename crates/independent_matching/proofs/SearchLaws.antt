-- A search over marks, in the words of the tableau.
use Rattle.std.proofs.Common.{◌≡◌, ◌<◌, ◌∙◌, ℕ, Bool, true, Option, Some, IfSome, refl, sym, subst, arith}
use Rattle.residue_theory.proofs.SetLaws.{both-first, both-second, both_true, differ}
use Rattle.closed_sets.specs.Closed.{IsReachedSet, NoEndReached}
use Rattle.closed_sets.specs.Walks.{FromSome}
use Rattle.bipartite_matching.specs.Matchings.{Matching}
use Rattle.row_transform.specs.Tableaus.{TableauState}
use Rattle.search_laws.specs.Searches.{IsShortest}
use Rattle.residue_theory.specs.Sets.{only}
use Rattle.exchange_graph.specs.Marks.{members_of}
use Rattle.exchange_graph.specs.Sweeps.{IsLeftOut, IsShortestFromOne}
use Rattle.mixed_matrices.specs.Arcs.{HasNoWalk, IsReachedFromFree, is_end, is_free, leads_to}
use Rattle.mixed_matrices.specs.LayeredMatrices.{LayeredMatrix}
use Rattle.mixed_matrices.specs.Tableaus.{Tableau, HasTableau}
use Rattle.mixed_augmentation_laws.specs.Moves.{IsFreeRow, IsRoute, route}
use Rattle.mixed_augmentation_laws.proofs.Routes.{shortest_from-route}
use Rattle.independent_matching.specs.declared.row.Row.{Row}
use Rattle.independent_matching.specs.declared.marks.Marks.{Marks}
use Rattle.independent_matching.specs.declared.resting.Resting.{Resting}
use Rattle.independent_matching.specs.Marks.{AreMarks}
use Rattle.independent_matching.proofs.SideLaws.{mark-end}
use Rattle.independent_matching.specs.Sides.{in_q, layers_of, number, tableau_of_pair}
use Rattle.std.specs.Prelude.{List}

module _ (p : ℕ) (S : TableauState) (M : Matching) (width : M.pattern.width ≡ S.columns) (r : Resting) (m : Marks)
    (marks : AreMarks p S M r m) (n : ℕ) (same : n ≡ S.columns) where
  abbrev free : List Bool
  free = r.free.items

  abbrev ends : List Bool
  ends = m.ends.items

  abbrev F : Tableau
  F = tableau_of_pair S M

  abbrev L : LayeredMatrix
  L = layers_of S M

  low : (x : ℕ) → x < n → x < S.columns
  low x l = omega (arith, l, same)

  high : (x : ℕ) → x < S.columns → x < n
  high x l = omega (arith, l, same)

  ends_tell : (x : ℕ) → x < S.columns → members_of ends x ≡ is_end p L F x
  ends_tell x l = mark-end p S M x width r m (marks.of_q.ends x l) (marks.by_t x l) (marks.of_q.by_q x l)

  start : (x : ℕ) → x < S.columns → members_of free x ≡ true → is_free F x ≡ true
  start x l h = sym (marks.free x l) ∙ h

  started : (x : ℕ) → x < S.columns → is_free F x ≡ true → members_of free x ≡ true
  started x l h = marks.free x l ∙ h

  end_tells : (x : ℕ) → x < S.columns → members_of ends x ≡ true → is_end p L F x ≡ true
  end_tells x l h = sym (ends_tell x l) ∙ h

  end_told : (x : ℕ) → x < S.columns → is_end p L F x ≡ true → members_of ends x ≡ true
  end_told x l h = ends_tell x l ∙ h

  shortest-told : (at : ℕ → ℕ) (k : ℕ) → IsShortestFromOne (leads_to p L F) n (members_of free) (members_of ends) at k →
      IsShortest (leads_to p L F) L.columns (only (at 0)) (is_end p L F) at k
  shortest-told at k V = let W = V.shortest in
      subst (λ m. IsShortest (leads_to p L F) m (only (at 0)) (is_end p L F) at k) same (record {
        fewer = W.fewer;
        begins = W.begins;
        stops = end_tells (at k) (low (at k) (W.below k (omega arith))) W.stops;
        below = W.below;
        follows = W.follows;
        least = λ s e m sl el st en. W.least s e m sl el st (end_told e (low e el) en);
      })

  pub walk-end : (at : ℕ → ℕ) (k x : ℕ) →
      IsShortestFromOne (leads_to p L F) n (members_of free) (members_of ends) at k → x ≡ at k → is_end p L F x ≡ true
  walk-end at k x W e = subst (λ y. is_end p L F y ≡ true) (sym e) (shortest-told at k W).stops

  pub search-route : HasTableau p L F → (at : ℕ → ℕ) (k x : ℕ) →
      IsShortestFromOne (leads_to p L F) n (members_of free) (members_of ends) at k → x ≡ at k →
      (row : Row) → IsFreeRow p L F x (in_q row) (number row) → IsRoute p L F (route F at k (in_q row) (number row))
  search-route tableau at k x W e row E = shortest_from-route p L F tableau (only (at 0)) at k (shortest-told at k W)
      (start (at 0) ((shortest-told at k W).below 0 (omega arith)) W.start) (in_q row) (number row)
      (subst (λ y. IsFreeRow p L F y (in_q row) (number row)) e E)

  from-told : (x : ℕ) → FromSome (leads_to p L F) n (members_of free) x → FromSome (leads_to p L F) n (is_free F) x
  from-told x (s, l, h, w) = (s, l, start s (low s l) h, w)

  told-from : (x : ℕ) → FromSome (leads_to p L F) n (is_free F) x → FromSome (leads_to p L F) n (members_of free) x
  told-from x (s, l, h, w) = (s, l, started s (low s l) h, w)

  pub reached-told : (X : ℕ → Bool) → IsReachedSet (leads_to p L F) n (members_of free) X → IsReachedFromFree p L F X
  reached-told X reached = subst (λ m. IsReachedSet (leads_to p L F) m (is_free F) X) same
      (λ y l. (λ h. from-told y ((reached y l).0 h), λ w. (reached y l).1 (told-from y w)))

  pub no_walk-told : NoEndReached (leads_to p L F) n (members_of free) (members_of ends) → HasNoWalk p L F
  no_walk-told none = subst (λ m. NoEndReached (leads_to p L F) m (is_free F) (is_end p L F)) same
      (λ e l h w. none e l (end_told e (low e l) h) (told-from e w))

  -- what is left out, in the words of the tableau and in those of the marks
  module _ (C : ℕ → Bool) (next : ℕ) where
    told-left : IsLeftOut (leads_to p L F) L.columns (is_free F) (is_end p L F) C next →
        IsLeftOut (leads_to p L F) L.columns (members_of free) (members_of ends) C next
    told-left V = record {
      vain = record {
        closed = record {
          holds_starts = λ x l h. absurd (differ refl h);
          no_end = λ x l h e. V.vain.closed.no_end x l h (end_tells x l e);
          follows = V.vain.closed.follows;
        };
        rooted = λ x l h. let (s, sl, b, w) = V.vain.rooted x l h in (
          s,
          sl,
          both_true (members_of free s) (C s) (started s sl (both-first (is_free F s) (C s) b))
              (both-second (is_free F s) (C s) b),
          w,
        );
      };
      passed = λ x l less h. V.passed x l less (start x l h);
    }

    left-told : IsLeftOut (leads_to p L F) L.columns (members_of free) (members_of ends) C next →
        IsLeftOut (leads_to p L F) L.columns (is_free F) (is_end p L F) C next
    left-told V = record {
      vain = record {
        closed = record {
          holds_starts = λ x l h. absurd (differ refl h);
          no_end = λ x l h e. V.vain.closed.no_end x l h (end_told x l e);
          follows = V.vain.closed.follows;
        };
        rooted = λ x l h. let (s, sl, b, w) = V.vain.rooted x l h in (
          s,
          sl,
          both_true (is_free F s) (C s) (start s sl (both-first (members_of free s) (C s) b))
              (both-second (members_of free s) (C s) b),
          w,
        );
      };
      passed = λ x l less h. V.passed x l less (started x l h);
    }

    -- in the marks that a search is given
    module _ (starts stops : List Bool) (starts_are : starts ≡ free) (stops_are : stops ≡ ends) where
      pub given-left : IsLeftOut (leads_to p L F) L.columns (is_free F) (is_end p L F) C next →
          IsLeftOut (leads_to p L F) n (members_of starts) (members_of stops) C next
      given-left V = subst (λ v. IsLeftOut (leads_to p L F) n (members_of v) (members_of stops) C next) (sym starts_are)
          (subst (λ v. IsLeftOut (leads_to p L F) n (members_of free) (members_of v) C next) (sym stops_are)
          (subst (λ m. IsLeftOut (leads_to p L F) m (members_of free) (members_of ends) C next) (sym same) (told-left V)))

      pub left-given : IsLeftOut (leads_to p L F) n (members_of starts) (members_of stops) C next →
          IsLeftOut (leads_to p L F) L.columns (is_free F) (is_end p L F) C next
      left-given V = left-told
          (subst (λ m. IsLeftOut (leads_to p L F) m (members_of free) (members_of ends) C next) same
          (subst (λ v. IsLeftOut (leads_to p L F) n (members_of free) (members_of v) C next) stops_are
          (subst (λ v. IsLeftOut (leads_to p L F) n (members_of v) (members_of stops) C next) starts_are V)))

-- what is read of a row that is there
pub some-read : (o : Option Row) (row : Row) (P : Row → Type 0) → o ≡ Some row → IfSome o P → P row
some-read o row P e h = subst (λ x. IfSome x P) e h
