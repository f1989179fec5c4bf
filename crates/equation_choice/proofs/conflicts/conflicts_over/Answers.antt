use Rattle.std.proofs.Common.{◌≡◌, ◌∙◌, ◌+◌, ◌<◌, ℕ, List, [], ◌∷◌, Vec, Global, length, map, ap, sym, subst, arith}
use Rattle.std.proofs.lemmas.List.{map-append}
use Rattle.exchange_graph.specs.Marks.{members_of}
use Rattle.equation_choice.specs.Lists.{AreMarkedBelow}
use Rattle.equation_choice.proofs.Refused.{HasGoneOver, gone-conflicts, gone-joined, gone-none, gone-refused}
use Rattle.equation_choice.proofs.conflicts.conflicts_over.Goals as goal
use Rattle.equation_choice.proofs.conflicts.conflicts_over.Goals.{else-not-join_marking, then-not-join_marking+in_ok-marked_numbers+in_ok-push}

pub loop-equation-init : goal.loop-equation-init
loop-equation-init g c =
    let p = g.F.Field.modulus in
    let l = c.args.layered.now in
    let S = g.T.Tableau.state c.in_ok-chooser.chooser.pair.tableau in
    let M = c.in_ok-chooser.chooser.pair.mates in
    record {
      ready = c.in_ok-chooser.ensures.ready;
      count = c.in_ok-told.ensures.count;
      gone = λ model of same marks. subst (λ (xs : List (Vec ℕ Global)). HasGoneOver p model l of.split S M 0 (map (λ (v : Vec ℕ Global). v.items) xs))
          (sym c.new-sets.ensures.items) (gone-none p g.met.F.Field.prime g.met.F.Field.odd model l of S M (c.in_ok-chooser.ensures.nothing model of));
    }

pub loop-equation-preserved : goal.loop-equation-preserved
loop-equation-preserved g c =
    let p = g.F.Field.modulus in
    let prime = g.met.F.Field.prime in
    let odd = g.met.F.Field.odd in
    let l = c.args.layered.now in
    let i = c.loop-equation.equation in
    let I = c.loop-equation.invariant in
    let S = g.T.Tableau.state c.loop-equation.chooser.pair.tableau in
    let M = c.loop-equation.chooser.pair.mates in
    let S' = g.T.Tableau.state c.join_marking.new.chooser.pair.tableau in
    let M' = c.join_marking.new.chooser.pair.mates in
    let old = c.loop-equation.sets.items in
    let told = c.join_marking.new.told.items in
    record {
      ready = c.join_marking.ensures.ready;
      count = c.join_marking.ensures.count ∙ I.count;
      gone = λ model of same marks.
          let G = I.gone model of same marks in
          let il : i < length model.equations = omega (arith, c.loop-equation-test.true, same) in
          elim c.if-not-join_marking.branch [
            | then-not-join_marking+in_ok-marked_numbers+in_ok-push w ↦
                subst (λ (xs : List (Vec ℕ Global)). HasGoneOver p model l of.split S' M' (i + 1) (map (λ (v : Vec ℕ Global). v.items) xs))
                (sym (ap (λ v. v.items) w.sets-is ∙ w.in_ok-push.ensures.items))
                (subst (λ xs. HasGoneOver p model l of.split S' M' (i + 1) xs)
                (sym (map-append (λ (v : Vec ℕ Global). v.items) old (w.in_ok-marked_numbers.field-0 ∷ [])))
                (gone-refused p prime odd model l of i il S M (map (λ (v : Vec ℕ Global). v.items) old) G S' M'
                (c.join_marking.ensures.refused w.if-not-join_marking.true) c.args.symbols.now told
                (λ x xl. marks x (subst (λ n. x < n) same xl)) (c.join_marking.ensures.told w.if-not-join_marking.true)
                w.in_ok-marked_numbers.field-0.items
                (subst (λ n. AreMarkedBelow (members_of told) n w.in_ok-marked_numbers.field-0.items) (sym same)
                (subst (λ xs. AreMarkedBelow (members_of xs) c.args.n w.in_ok-marked_numbers.field-0.items) w.deref.ensures.value
                w.in_ok-marked_numbers.ensures))))
            | else-not-join_marking w ↦
                subst (λ (xs : List (Vec ℕ Global)). HasGoneOver p model l of.split S' M' (i + 1) (map (λ (v : Vec ℕ Global). v.items) xs))
                (sym (ap (λ v. v.items) w.sets-is))
                (gone-joined p prime odd model l of i il S M (map (λ (v : Vec ℕ Global). v.items) old) G S' M' c.join_marking.ensures.ready.over
                (c.join_marking.ensures.joined w.if-not-join_marking.false))
          ];
    }

pub returns : goal.returns
returns g c model of same marks =
    let p = g.F.Field.modulus in
    let l = c.args.layered.now in
    let I = c.loop-equation.invariant in
    let S = g.T.Tableau.state c.loop-equation.chooser.pair.tableau in
    let M = c.loop-equation.chooser.pair.mates in
    let sets = map (λ (v : Vec ℕ Global). v.items) c.loop-equation.sets.items in
    let end : c.loop-equation.equation ≡ length model.equations =
    omega (arith, c.loop-equation-test.false, c.loop-equation.auto.equation-end, same) in
    gone-conflicts p g.met.F.Field.prime g.met.F.Field.odd model l of S M I.ready.over sets
    (subst (λ n. HasGoneOver p model l of.split S M n sets) end (I.gone model of same marks))
