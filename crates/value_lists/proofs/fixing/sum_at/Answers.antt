use Rattle.std.proofs.Common.{◌∙◌, option_map, ap, sym, unwrap_or}
use Rattle.value_lists.proofs.Numbers.{sum-none, sum-some}
use Rattle.value_lists.proofs.fixing.sum_at.Goals.{in-None, in-Some}
use Rattle.value_lists.proofs.fixing.sum_at.Goals as goal

pub returns-else-is_zero-clause-sum : goal.returns-else-is_zero-clause-sum
returns-else-is_zero-clause-sum g c =
    let p = g.F.Field.modulus in
    let number = g.F.Field.number c.args.number in
    let sum = g.F.Field.number c.match-constant.sum in
    let there = ap (λ x. unwrap_or x 0) (sym c.constant.ensures) in
    elim c.match-constant.branch [
      | in-Some w ↦ sum-some p number sum _ (g.F.Field.number w.in-Some.constant) _
          (ap (option_map g.F.Field.number) (sym w.in-Some.is)) there (ap g.F.Field.number w.sum-is ∙ w.add-sum.ensures)
      | in-None w ↦ sum-none p number sum _ _ (ap (option_map g.F.Field.number) (sym w.in-None.is)) there (ap g.F.Field.number w.sum-is)
    ]
