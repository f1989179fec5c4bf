-- Columns that are free, and how many are not.
use Rattle.std.proofs.Common.{◌≡◌, ℕ, ◌<◌, ◌||◌, ◌&&◌, Bool, true, false, not, cond, Some, None, is_some, refl, ap, ◌∙◌}
use Rattle.residue_theory.specs.Sets.{IsApart, either}
use Rattle.residue_theory.specs.Sums.{size_on}
use Rattle.residue_theory.proofs.CountLaws.{size-either}
use Rattle.residue_theory.proofs.SumLaws.{sum_on-same}
use Rattle.bipartite_matching.specs.Matchings.{Matching}
use Rattle.row_transform.specs.Tableaus.{TableauState}
use Rattle.mixed_matrices.specs.Arcs.{is_free}
use Rattle.mixed_matrices.specs.Tableaus.{Tableau}
use Rattle.independent_matching.specs.declared.row.Row.TheVariants.{Q, T}
use Rattle.independent_matching.specs.Sides.{is_matched, row_had, size_of, tableau_of_pair}

pub free-row_had : (F : Tableau) (x : ℕ) → not (is_some (row_had F x)) ≡ is_free F x
unfolding is_free
free-row_had F x = go (F.base x) (F.matched x)
  where
    go : (a b : Bool) → not (is_some (cond a (Some (Q (F.row x))) (cond b (Some (T (F.mate x))) None))) ≡ (not a && not b)
    go true b = refl
    go false true = refl
    go false false = refl

pub not-told : (a b : Bool) → a ≡ not b → b ≡ not a
not-told true true h = h
not-told true false h = refl
not-told false true h = refl
not-told false false h = h

-- the columns that are not free are those of the pair
pub taken-size : (S : TableauState) (M : Matching) (free : ℕ → Bool) → IsApart S.columns S.base (is_matched M) →
    ((x : ℕ) → x < S.columns → free x ≡ is_free (tableau_of_pair S M) x) → size_on (λ x. not (free x)) S.columns ≡ size_of S M
unfolding is_free
taken-size S M free apart same = sum_on-same (λ x. not (free x)) (either S.base (is_matched M)) S.columns (λ _. 1)
    (λ x l. ap not (same x l) ∙ both-not (S.base x) (is_matched M x)) ∙ size-either S.base (is_matched M) S.columns apart
  where
    both-not : (a b : Bool) → not (not a && not b) ≡ (a || b)
    both-not true b = refl
    both-not false true = refl
    both-not false false = refl
