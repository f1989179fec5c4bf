use Rattle.std.proofs.Common.{◌≡◌, ◌∙◌, ◌+◌, ◌<◌, true, length, slice_index, refl, ap, sym, subst, arith}
use Rattle.std.proofs.lemmas.List.{length-set}
use Rattle.equation_choice.proofs.Choosing.{HasChosen, chosen-greedy, chosen-joined, chosen-none, chosen-refused}
use Rattle.equation_choice.proofs.along.kept_over.Goals as goal
use Rattle.equation_choice.proofs.along.kept_over.Goals.{then-join, else-join}

pub loop-equation-init : goal.loop-equation-init
loop-equation-init g c =
    let p = g.F.Field.modulus in
    let l = c.args.layered.now in
    let S = g.T.Tableau.state c.in_ok-chooser.chooser.pair.tableau in
    let M = c.in_ok-chooser.chooser.pair.mates in
    record {
      ready = c.in_ok-chooser.ensures.ready;
      count = c.in_ok-kept.ensures.count;
      chosen = λ model of before same along. chosen-none p g.met.F.Field.prime model l of before c.args.n c.args.order.now along S M
          c.in_ok-kept.kept.items c.in_ok-kept.ensures.unmarked (c.in_ok-chooser.ensures.nothing model of);
    }

pub loop-equation-preserved : goal.loop-equation-preserved
loop-equation-preserved g c =
    let p = g.F.Field.modulus in
    let l = c.args.layered.now in
    let order = c.args.order.now in
    let i = c.loop-equation.equation-index in
    let e = slice_index order i in
    let I = c.loop-equation.invariant in
    let kept = c.loop-equation.kept.items in
    let S = g.T.Tableau.state c.loop-equation.chooser.pair.tableau in
    let M = c.loop-equation.chooser.pair.mates in
    let S' = g.T.Tableau.state c.join.new.self.pair.tableau in
    let M' = c.join.new.self.pair.mates in
    let low : e < c.args.n = c.requires i 0 c.loop-equation-test.true in
    let ml : e < length kept = omega (arith, low, I.count) in
    record {
      ready = c.join.ensures.ready;
      count = elim c.if-join.branch [
        | then-join w ↦ ap (λ v. length v.items) w.kept-is ∙ (length-set kept e true ∙ I.count)
        | else-join w ↦ ap (λ v. length v.items) w.kept-is ∙ I.count
      ];
      chosen = λ model of before same along.
          let C = I.chosen model of before same along in
          let el : e < length model.equations = omega (arith, low, same) in
          elim c.if-join.branch [
            | then-join w ↦ subst (λ items. HasChosen p model l of.split S' M' before order (i + 1) items) (sym (ap (λ v. v.items) w.kept-is))
                (chosen-joined p g.met.F.Field.prime model l of before c.args.n order along i c.loop-equation-test.true S M kept C e refl el ml S' M'
                (c.join.ensures.joined w.if-join.true))
            | else-join w ↦ subst (λ items. HasChosen p model l of.split S' M' before order (i + 1) items) (sym (ap (λ v. v.items) w.kept-is))
                (chosen-refused p g.met.F.Field.prime model l of before c.args.n order along i c.loop-equation-test.true S M kept C e refl el ml S' M'
                (c.join.ensures.refused w.if-join.false))
          ];
    }

pub returns-clause-kept : goal.returns-clause-kept
returns-clause-kept g c model of same before along =
    let I = c.loop-equation.invariant in
    let end : c.loop-equation.equation-index ≡ length c.args.order.now =
    omega (arith, c.loop-equation-test.false, c.loop-equation.auto.equation-index-end) in
    chosen-greedy g.F.Field.modulus g.met.F.Field.prime model c.args.layered.now of before c.args.n c.args.order.now along g.met.F.Field.odd
    (g.T.Tableau.state c.loop-equation.chooser.pair.tableau) c.loop-equation.chooser.pair.mates I.ready.over c.loop-equation.kept.items
    c.loop-equation.equation-index end same (I.chosen model of before same along)
