use Rattle.std.proofs.Common.{◌≡◌, ℕ, true, ap, sym, subst, ◌∙◌, arith}
use Rattle.bit_table.specs.Bits.{bit_in}
use Rattle.bit_table.proofs.BitLaws.{item_is}
use Rattle.exchange_graph.specs.Turns.{HasNextTurn}
use Rattle.minimiser_lattice.specs.Components.{IsRowLed, component_places, path_state, component_number}
use Rattle.minimiser_lattice.specs.Paths.{PathState}
use Rattle.minimiser_lattice.specs.declared.components.Components.{Components}
use Rattle.minimiser_lattice.proofs.CloseLaws.{IsAbsorbing, absorbing-next}
use Rattle.minimiser_lattice.proofs.components.Components.absorb.Goals as goal

pub loop-to-preserved : goal.loop-to-preserved
loop-to-preserved g c =
    let I = c.loop-to.invariant in
    let arc = g.A.Arcs.leads c.args.arcs.now in
    let turn = g.A.Arcs.turn c.args.arcs.now in
    let n = component_places c.args.self.now in
    let s = c.loop-to.self in
    let strict = c.lead.new.self.strict in
    let to = c.in-Some.to in
    let same = ap (λ (v : Components). component_places v) I.kept in
    let count = ap (λ (v : Components). v.count) I.kept in
    let N = subst (λ m. HasNextTurn (arc c.args.place) (turn c.args.place) m c.loop-to.from to c.in-Some.next)
    c.requires.places c.in-Some.ensures.some in
    let is : component_number s to ≡ c.index-other.result.now =
    item_is s.number.items to c.index-other.result.now (omega (arith, N.below, same, I.stored.number)) c.index-other.ensures in
    let led : IsRowLed (bit_in s.strict) (bit_in strict) n s.count (component_number s to) =
    subst (λ (m : ℕ). IsRowLed (bit_in s.strict) (bit_in strict) m s.count (component_number s to)) same
    (subst (λ (v : ℕ). IsRowLed (bit_in s.strict) (bit_in strict) (component_places s) s.count v) (sym is) c.lead.ensures.led) in
    let next = absorbing-next arc turn n (path_state s) c.args.place c.loop-to.from to c.in-Some.next (bit_in strict)
    I.absorbing N led in
    record {
      stored = c.lead.ensures.stored;
      kept = c.lead.ensures.kept ∙ ap (λ (v : Components). record v { strict = strict }) I.kept;
      fits = N.fits;
      absorbing = subst (λ (v : PathState). IsAbsorbing arc turn n v c.args.place c.in-Some.next)
          (sym (ap path_state c.lead.ensures.kept)) next.0;
      row = λ y yl h. subst (λ (v : ℕ). bit_in strict v y ≡ true) count
          (next.1 y yl (subst (λ (v : ℕ). bit_in s.strict v y ≡ true) (sym count) (I.row y yl h)));
    }
