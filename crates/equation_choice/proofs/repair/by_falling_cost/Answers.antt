use Rattle.std.proofs.Common.{◌∙◌, ◌<◌, ap, sym, subst, length, map, slice_index}
use Rattle.std.proofs.lemmas.Result.{IfOk-weaker}
use Rattle.std.specs.List.{All}
use Rattle.equation_matroid_laws.specs.GreedyChoices.{by_cost}
use Rattle.equation_choice.specs.Choices.{IsAlong}
use Rattle.equation_choice.proofs.PriceLaws.{sorted-along, sorted-below}
use Rattle.equation_choice.proofs.repair.by_falling_cost.Goals as goal

pub returns-clause-below : goal.returns-clause-below
returns-clause-below c =
    let costs = c.args.costs.now in
    let S = c.in_ok-sort_by_falling_cost.ensures in
    IfOk-weaker c.numbers.result _ (λ order. All (λ equation. equation < length costs) order.items)
    (λ order is. subst (λ xs. All (λ equation. equation < length costs) xs) (sym (is ∙ ap (λ ys. map (λ x. x.equation) ys) c.deref.ensures.value))
    (sorted-below costs c.in_ok-list.list.items c.sort_by_falling_cost.new.list.items (length costs) c.in_ok-list.ensures S.moved S.sorted S.stable))
    c.numbers.ensures

pub returns-clause-along : goal.returns-clause-along
returns-clause-along c =
    let costs = c.args.costs.now in
    let S = c.in_ok-sort_by_falling_cost.ensures in
    IfOk-weaker c.numbers.result _ (λ order. IsAlong (length costs) (by_cost (slice_index costs)) order.items)
    (λ order is. subst (λ xs. IsAlong (length costs) (by_cost (slice_index costs)) xs) (sym (is ∙ ap (λ ys. map (λ x. x.equation) ys) c.deref.ensures.value))
    (sorted-along costs c.in_ok-list.list.items c.sort_by_falling_cost.new.list.items (length costs) c.in_ok-list.ensures S.moved S.sorted S.stable))
    c.numbers.ensures
