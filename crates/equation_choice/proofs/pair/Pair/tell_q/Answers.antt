use Rattle.std.proofs.Common.{◌≡◌, ◌<◌, ◌+◌, subst, sym, slice_index}
use Rattle.std.proofs.lemmas.Option.{get_or_from_slice_get, slice_get_within}
use Rattle.equation_choice.specs.Told.{AddsMarks}
use Rattle.equation_choice.proofs.TellLaws.{ToldBefore, told-marked, told-passed}
use Rattle.equation_choice.proofs.pair.Pair.tell_q.Goals as goal
use Rattle.equation_choice.proofs.pair.Pair.tell_q.Goals.{then-not-symbols-equation, else-not-symbols-equation}
use Rattle.std.proofs.Common.{length, arith}

pub loop-found-preserved : goal.loop-found-preserved
loop-found-preserved g c =
    let p = g.F.Field.modulus in
    let l = c.args.layered.now in
    let T = g.T.Tableau.state c.args.self.now.tableau in
    let symbols = c.args.symbols.now in
    let row = c.args.row in
    let at = c.loop-found.at in
    let k = c.in-Some.found.0 in
    let equation = c.q_origin-equation.result in
    let old = c.args.told.now in
    let mid = c.loop-found.told in
    let is : slice_index l.q_origins k ≡ equation = get_or_from_slice_get l.q_origins k equation 0 c.q_origin-equation.ensures in
    let low : equation < length old =
    subst (λ e. e < length old) is (c.requires.origins k 0 (slice_get_within l.q_origins k equation c.q_origin-equation.ensures)) in
    let el : equation < length mid = omega (arith, low, c.loop-found.invariant.count) in
    elim c.if-not-symbols-equation.branch [
      | then-not-symbols-equation w ↦ subst (λ told. AddsMarks (ToldBefore p l T symbols row (k + 1)) old told) (sym w.told-is)
          (told-marked p l T symbols row at k c.in-Some.ensures.least (g.F.Field.number c.in-Some.found.1) c.in-Some.ensures.entry c.in_field.ensures
          equation is old mid c.loop-found.invariant w.if-not-symbols-equation.true el)
      | else-not-symbols-equation w ↦ subst (λ told. AddsMarks (ToldBefore p l T symbols row (k + 1)) old told) (sym w.told-is)
          (told-passed p l T symbols row at k c.in-Some.ensures.least (g.F.Field.number c.in-Some.found.1) c.in-Some.ensures.entry c.in_field.ensures
          equation is old mid c.loop-found.invariant w.if-not-symbols-equation.false)
    ]
