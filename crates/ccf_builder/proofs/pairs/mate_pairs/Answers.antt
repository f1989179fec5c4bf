use Rattle.std.proofs.Common.{◌≡◌, ◌+◌, List, ℕ, subst, sym, ap, ◌∙◌}
use Rattle.ccf_builder.specs.Pairs.{ListsPairs, IsMate}
use Rattle.ccf_builder.proofs.PairLists.{lists-none, lists-some}
use Rattle.ccf_builder.proofs.pairs.mate_pairs.Goals as goal
use Rattle.ccf_builder.proofs.pairs.mate_pairs.Goals.{in-Some+in_ok-push, in_default}

pub loop-row-preserved : goal.loop-row-preserved
loop-row-preserved g c =
    let M = c.args.engine.now.matching in
    let n = (g.T.Tableau.state c.args.engine.now.tableau).columns in
    let row = c.loop-row.row in
    let P : List (ℕ × ℕ) → Type 0 = λ pairs. ListsPairs (IsMate M n) (row + 1) pairs in
    let one : (r y z : ℕ) → IsMate M n r y → IsMate M n r z → y ≡ z =
    λ r y z first second. c.mate_of_row.ensures.matching.one_column r y z first.pair second.pair in
    elim c.match-mate_of_row.branch [
      | in-Some+in_ok-push w ↦ subst P (sym (ap (λ v. v.items) w.pairs-is ∙ w.in_ok-push.ensures.items))
          (lists-some (IsMate M n) row w.in-Some.column c.loop-row.pairs.items one
          (record { pair = w.in-Some.ensures.some; below = w.in-Some.ensures.below }) c.loop-row.invariant)
      | in_default w ↦ subst P (sym (ap (λ v. v.items) w.pairs-is))
          (lists-none (IsMate M n) row c.loop-row.pairs.items
          (λ y is. w.in_default.ensures.none y is.pair) c.loop-row.invariant)
    ]
