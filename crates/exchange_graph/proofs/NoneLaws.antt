-- A search answers None exactly where no end is reached.
use Rattle.std.proofs.Common.{◌≡◌, ℕ, Bool, true, false, Option, Some, None, refl, arith}
use Rattle.std.specs.Prelude.{IfSome, IfNone, IsNone, ◌↔◌}
use Rattle.closed_sets.specs.Closed.{IsClosed, IsReachedSet, NoEndReached}
use Rattle.residue_theory.specs.Sets.{only}
use Rattle.search_laws.specs.Searches.{IsShortest}
use Rattle.exchange_graph.specs.Sweeps.{IsShortestFromOne}
use Rattle.search_laws.proofs.ShortestWalks.{head_part}

pub none-exactly : (arc : ℕ → ℕ → Bool) (n : ℕ) (starts ends X : ℕ → Bool) (at : ℕ → ℕ) (r : Option ℕ) → IfSome r (λ k. IsShortest arc n starts ends at k) →
    IfNone r (IsClosed arc n starts ends X) → IfNone r (IsReachedSet arc n starts X) → IsNone r ↔ NoEndReached arc n starts ends
none-exactly arc n starts ends X at None found closed reached = (λ _ e l end from. closed.no_end e l ((reached e l).1 from) end, λ _. refl)
none-exactly arc n starts ends X at (Some k) found closed reached = (
  λ e. absurd (differ e),
  λ none. absurd
      (none (at k) (found.below k (omega arith)) found.stops
      (at 0, found.below 0 (omega arith), found.begins, (k, head_part arc n starts ends at k found k (omega arith)))),
)
  where
    differ : true ≡ false → ⊥
    differ e = cc

pub none-in_turn : (arc : ℕ → ℕ → Bool) (n : ℕ) (starts ends X : ℕ → Bool) (at : ℕ → ℕ) (r : Option ℕ) →
    IfSome r (λ k. IsShortestFromOne arc n starts ends at k) → IfNone r (IsClosed arc n starts ends X) →
    IfNone r (IsReachedSet arc n starts X) → IsNone r ↔ NoEndReached arc n starts ends
none-in_turn arc n starts ends X at None found closed reached =
    (λ _ e l end from. closed.no_end e l ((reached e l).1 from) end, λ _. refl)
none-in_turn arc n starts ends X at (Some k) found closed reached = (
  λ e. absurd (differ e),
  λ none. let W = found.shortest in absurd
      (none (at k) (W.below k (omega arith)) W.stops (
        at 0,
        W.below 0 (omega arith),
        found.start,
        (k, head_part arc n (only (at 0)) ends at k W k (omega arith)),
      )),
)
  where
    differ : true ≡ false → ⊥
    differ e = cc
