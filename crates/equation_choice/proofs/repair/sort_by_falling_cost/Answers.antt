use Rattle.std.proofs.Common.{rules, ◌-◌, ◌^◌}
use Rattle.std.proofs.lemmas.List.Sorted.{answers_always}
use Rattle.equation_choice.proofs.repair.sort_by_falling_cost.Goals as goal

pub returns-clause-sorted : goal.returns-clause-sorted
returns-clause-sorted c = c.in_ok-sort_by_key.ensures.sorted (λ x. 2 ^ 64 - 1 - x.cost) (answers_always _ _ _ (λ f a r g h. search rules))

pub returns-clause-stable : goal.returns-clause-stable
returns-clause-stable c = c.sort_by_key.ensures.stable (λ x. 2 ^ 64 - 1 - x.cost) (answers_always _ _ _ (λ f a r g h. search rules))
