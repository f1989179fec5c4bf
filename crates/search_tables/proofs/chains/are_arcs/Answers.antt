use Rattle.std.proofs.Common.{◌<◌, ℕ, List, subst, arith}
use Rattle.std.proofs.lemmas.List.{take_all}
use Rattle.std.proofs.lemmas.List.Elements.{All-more}
use Rattle.part_rules.specs.Listed.{AreArcs}
use Rattle.search_tables.proofs.chains.are_arcs.Goals as goal

pub loop-from-preserved : goal.loop-from-preserved
loop-from-preserved c =
    All-more (λ (arc : ℕ × ℕ). (arc.0 < c.args.places) × (arc.1 < c.args.places)) c.args.arcs.now c.loop-from.from-index
    (0, 0) (omega arith) c.loop-from.invariant (omega arith, omega arith)

pub returns : goal.returns
returns c = λ _. subst (λ (arcs : List (ℕ × ℕ)). AreArcs c.args.places arcs)
    (take_all c.loop-from.from-index c.args.arcs.now (omega arith)) c.loop-from.invariant
