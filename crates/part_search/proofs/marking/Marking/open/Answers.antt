use Rattle.std.proofs.Common.{◌≡◌, ℕ, false, List, sym, subst, arith}
use Rattle.std.proofs.lemmas.Grind.{common_steps}
use Rattle.part_rules.specs.Listed.{marked}
use Rattle.part_search.specs.Markings.{IsQueue}
use Rattle.part_search.proofs.MarkLaws.{queue-empty}
use Rattle.part_search.proofs.marking.Marking.open.Goals as goal

pub returns-clause-queued : goal.returns-clause-queued
returns-clause-queued c =
    let marks = c.in_ok-vec.field-0.items in
    let none : (y : ℕ) → marked marks y ≡ false = λ y. grind (arith, common_steps) in
    subst (λ (q : List ℕ). IsQueue marks q) (sym c.new.ensures.items) (queue-empty marks none)
