use Rattle.std.proofs.Common.{◌<◌, sym, subst, length, slice_index}
use Rattle.std.proofs.lemmas.Result.{IfOk-weaker}
use Rattle.std.specs.List.{All}
use Rattle.residue_theory.specs.Sets.{everything, has}
use Rattle.exchange_graph.specs.Marks.{members_of}
use Rattle.mixed_model.specs.Models.{mixed_matrix_of}
use Rattle.equation_matroid_laws.specs.GreedyChoices.{IsCheapestRepair, IsGreedyChoice, by_cost, outside}
use Rattle.equation_matroid_laws.proofs.Repairs.{kept-independent, level-reached, levels-cheapest}
use Rattle.equation_choice.specs.Choices.{IsAlong}
use Rattle.equation_choice.specs.Lists.{AreMarkedBelow}
use Rattle.equation_choice.proofs.PlaceLaws.{marked-below}
use Rattle.equation_choice.proofs.PriceLaws.{choice-listed}
use Rattle.equation_choice.proofs.repair.kept_by_cost.Goals as goal

pub returns-clause-below : goal.returns-clause-below
returns-clause-below g c = IfOk-weaker c.marked_numbers.result _ (λ list. All (λ equation. equation < length c.args.model.now.equations) list.items)
    (λ list are. subst (λ n. All (λ equation. equation < n) list.items) c.requires
    (marked-below (members_of c.deref-2.result.now) (length c.args.costs.now) list.items are)) c.marked_numbers.ensures

pub returns-clause-kept : goal.returns-clause-kept
returns-clause-kept g c =
    let p = g.F.Field.modulus in
    let N = mixed_matrix_of c.args.model.now in
    let before = by_cost (slice_index c.args.costs.now) in
    let along = subst (λ xs. IsAlong (length c.args.model.now.equations) before xs) (sym c.deref.ensures.value)
    (subst (λ n. IsAlong n before c.in_ok-order.order.items) c.requires c.in_ok-order.ensures.along) in
    let choice = subst (λ marks. IsGreedyChoice p N before everything (members_of marks)) (sym c.deref-2.ensures.value)
    (c.in_ok-marks.ensures.kept before along) in
    IfOk-weaker c.marked_numbers.result _ (λ list. IsGreedyChoice p N before everything (has list.items))
    (λ list are. choice-listed p N before c.deref-2.result.now list.items
    (subst (λ n. AreMarkedBelow (members_of c.deref-2.result.now) n list.items) c.requires are) choice) c.marked_numbers.ensures

pub returns-clause-repair : goal.returns-clause-repair
returns-clause-repair g c =
    let p = g.F.Field.modulus in
    let N = mixed_matrix_of c.args.model.now in
    let cost = slice_index c.args.costs.now in
    IfOk-weaker c.marked_numbers.result (λ list. IsGreedyChoice p N (by_cost cost) everything (has list.items))
    (λ list. IsCheapestRepair p N cost (outside (has list.items)))
    (λ list choice. levels-cheapest p g.met.F.Field.prime N g.met.F.Field.odd cost (has list.items)
    (kept-independent p g.met.F.Field.prime N g.met.F.Field.odd cost (has list.items) choice)
    (λ e _ _. level-reached p g.met.F.Field.prime N g.met.F.Field.odd cost (has list.items) choice (cost e))) (returns-clause-kept g c)
