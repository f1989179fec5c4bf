-- A walk of one column: a free column that is an end takes a free row.
use Rattle.std.proofs.Common.{◌≡◌, ◌+◌, ◌<◌, ◌≤◌, ℕ, Bool, true, false, cond, Some, ap, refl, sym, arith}
use Rattle.bipartite_matching.specs.Matchings.{Matching}
use Rattle.row_transform.specs.Tableaus.{TableauState}
use Rattle.search_laws.specs.Searches.{IsShortest}
use Rattle.mixed_matrices.specs.Arcs.{is_end, is_free, leads_to}
use Rattle.mixed_matrices.specs.Tableaus.{HasTableau}
use Rattle.mixed_augmentation_laws.specs.Moves.{IsFreeRow, IsRoute, route}
use Rattle.mixed_augmentation_laws.proofs.Routes.{shortest-route}
use Rattle.mixed_augmentation_laws.specs.Sealed.{KeepsSealed}
use Rattle.mixed_augmentation_laws.proofs.Sealed.{self-keeps}
use Rattle.independent_matching.specs.declared.row.Row.{Row}
use Rattle.independent_matching.specs.Sides.{AreRowsLeft, CanTake, IsFreeTaken, IsMoving, Takes, in_q, layers_of, number, row_had, size_of, tableau_of_pair}
use Rattle.independent_matching.proofs.LeftLaws.{move-rows, moved-rows, moving-rows}
use Rattle.independent_matching.proofs.MoveLaws.{can-take, moving-apart, moving-keeps, moving-next, moving-size, moving-start, moving-tableau, moving-taken}
use Rattle.independent_matching.proofs.SideLaws.{free-end}

pub one-step : (row : Row) → cond (in_q row) 1 0 ≤ 1
one-step row = go (in_q row)
  where
    go : (b : Bool) → cond b 1 0 ≤ 1
    go true = omega arith
    go false = omega arith

module _ (p : ℕ) (S : TableauState) (M : Matching) (tableau : HasTableau p (layers_of S M) (tableau_of_pair S M)) (x : ℕ) (below : x < S.columns) (row : Row)
    (free : is_free (tableau_of_pair S M) x ≡ true) (E : IsFreeRow p (layers_of S M) (tableau_of_pair S M) x (in_q row) (number row)) where
  abbrev at : ℕ → ℕ
  at i = x

  one-walk : IsShortest (leads_to p (layers_of S M) (tableau_of_pair S M)) S.columns (is_free (tableau_of_pair S M))
      (is_end p (layers_of S M) (tableau_of_pair S M)) at 0
  one-walk = record {
    fewer = omega (arith, below);
    begins = free;
    stops = sym (free-end p S M x (in_q row) (number row) E);
    below = λ i l. below;
    follows = λ i l. absurd (omega (arith, l));
    least = λ s e m sl el st en w. omega arith;
  }

  one-route : IsRoute p (layers_of S M) (tableau_of_pair S M) (route (tableau_of_pair S M) at 0 (in_q row) (number row))
  one-route = shortest-route p (layers_of S M) (tableau_of_pair S M) tableau at 0 one-walk (in_q row) (number row) E

  start : IsMoving p S M (route (tableau_of_pair S M) at 0 (in_q row) (number row)) S M (Some row) 1
  start = moving-start p S M tableau at 0 row one-route

  pub one-take : CanTake p (layers_of S M) (tableau_of_pair S M) row x
  one-take = can-take p S M tableau at 0 row one-route S M (Some row) row 1 start refl 0 refl

  module _ (S' : TableauState) (M' : Matching) (same : layers_of S' M' ≡ layers_of S M) (pattern : M'.pattern ≡ M.pattern)
      (takes : Takes p (layers_of S M) (tableau_of_pair S M) (tableau_of_pair S' M') row x) where
    after : IsMoving p S M (route (tableau_of_pair S M) at 0 (in_q row) (number row)) S' M' (row_had (tableau_of_pair S M) x) 0
    after = moving-next p S M tableau at 0 row one-route S M (Some row) row 1 start refl 0 refl S' M' same pattern takes

    pub one-tableau : HasTableau p (layers_of S M) (tableau_of_pair S' M')
    one-tableau = moving-tableau p S M tableau at 0 row one-route S' M' (row_had (tableau_of_pair S M) x) 0 after (after.none refl)

    pub one-taken : IsFreeTaken S.columns (tableau_of_pair S M) (tableau_of_pair S' M') x
    one-taken = moving-taken p S M tableau at 0 row one-route S' M' (row_had (tableau_of_pair S M) x) 0 after (after.none refl)

    pub one-rows : M.pattern.width ≡ S.columns → AreRowsLeft M M' row
    one-rows width = moved-rows M M' row (row_had (tableau_of_pair S M) x) (after.none refl)
        (move-rows p S S' M M' width (ap (λ m. m.width) pattern) x below
        (moving-apart p S M tableau at 0 row one-route S M (Some row) row 1 start refl 0 refl) row takes M row
        (moving-rows M row))

    pub one-size : size_of S' M' ≡ size_of S M + 1
    one-size = moving-size p S M tableau at 0 row one-route S' M' (row_had (tableau_of_pair S M) x) 0 after (after.none refl)

    pub one-keeps : KeepsSealed p (layers_of S M) (tableau_of_pair S M) (tableau_of_pair S' M')
    one-keeps = moving-keeps p S M tableau at 0 row one-route S M (Some row) row 1 start refl 0 refl S' M' same pattern takes
        (self-keeps p (layers_of S M) (tableau_of_pair S M))
