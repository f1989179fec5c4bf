use Rattle.std.proofs.Common.{◌≡◌, ◌+◌, List, ℕ, subst, sym, ap, ◌∙◌}
use Rattle.row_transform.specs.Tableaus.{IsBaseColumn}
use Rattle.ccf_builder.specs.Pairs.{ListsPairs}
use Rattle.ccf_builder.proofs.PairLists.{lists-none, lists-some}
use Rattle.ccf_builder.proofs.pairs.base_pairs.Goals as goal
use Rattle.ccf_builder.proofs.pairs.base_pairs.Goals.{in-Some+in_ok-push, in_default}

pub loop-row-preserved : goal.loop-row-preserved
loop-row-preserved g c =
    let t = g.T.Tableau.state c.args.tableau.now in
    let row = c.loop-row.row in
    let P : List (ℕ × ℕ) → Type 0 = λ pairs. ListsPairs (IsBaseColumn t) (row + 1) pairs in
    let one : (r y z : ℕ) → IsBaseColumn t r y → IsBaseColumn t r z → y ≡ z =
    λ r y z first second. c.rows-row-end.ensures.tableau.unit_columns.distinct y z first.below second.below
    first.member second.member (first.at_row ∙ sym second.at_row) in
    elim c.match-base_of.branch [
      | in-Some+in_ok-push w ↦ subst P (sym (ap (λ v. v.items) w.pairs-is ∙ w.in_ok-push.ensures.items))
          (lists-some (IsBaseColumn t) row w.in-Some.column c.loop-row.pairs.items one w.in-Some.ensures.some c.loop-row.invariant)
      | in_default w ↦ subst P (sym (ap (λ v. v.items) w.pairs-is))
          (lists-none (IsBaseColumn t) row c.loop-row.pairs.items
          (λ y is. w.in_default.ensures.none y is.below is.member is.at_row) c.loop-row.invariant)
    ]
