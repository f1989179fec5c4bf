use Rattle.std.proofs.Common.{sym}
use Rattle.problem_heads.proofs.CostTexts.{parse-cost}
use Rattle.problem_heads.proofs.costs.cost.Goals as goal

pub unreachable-requires : goal.unreachable-requires
unreachable-requires c =
    let read = parse-cost c.args.text.now c.parse.result c.parse.ensures.value.0 (sym c.if-not-is_cost.ensures) in
    let f : ⊥ = cc in f
