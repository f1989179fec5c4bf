use Rattle.std.proofs.Common.{◌≡◌, ◌+◌, ◌<◌, ℕ, Bool, ◌||◌, List, ap, sym, subst, ◌∙◌, arith}
use Rattle.exchange_graph.specs.Marks.{members_of}
use Rattle.bit_table.specs.Bits.{bit_in}
use Rattle.bit_table.proofs.BitLaws.{item_is}
use Rattle.minimiser_lattice.specs.Components.{leads_in, component_number, component_places}
use Rattle.minimiser_lattice.specs.Listings.{IsFirstTail}
use Rattle.minimiser_lattice.proofs.TailLaws.{tail-none, tail-more, tail-other, first-held}
use Rattle.minimiser_lattice.proofs.tails.mark_starts.Goals as goal
use Rattle.minimiser_lattice.proofs.tails.mark_starts.Goals.{then-is_start+then-not-marks-from, else-is_start, else-is_start-via-else-is_start}
use Rattle.minimiser_lattice.proofs.tails.mark_starts.Goals.{else-is_start-via-then-is_start+else-not-marks-from}

pub loop-place-init : goal.loop-place-init
loop-place-init c =
    let cs = c.args.components.now in
    tail-none 0 (members_of c.args.starts.now) (λ s k. leads_in (bit_in cs.strict) (component_number cs s) k) cs.count
    (members_of c.args.marks.now) c.requires.none

pub loop-place-preserved : goal.loop-place-preserved
loop-place-preserved c =
    let cs = c.args.components.now in
    let N = c.requires.numbering in
    let I = c.loop-place.invariant in
    let x = c.loop-place.place in
    let set = members_of c.args.starts.now in
    let marks = members_of c.loop-place.marks in
    let relates : ℕ → ℕ → Bool = λ s k. leads_in (bit_in cs.strict) (component_number cs s) k in
    let xl : x < component_places cs = omega (arith, c.loop-place-test.true, c.requires.starts) in
    let is : component_number cs x ≡ c.index-from.result.now =
    item_is cs.number.items x c.index-from.result.now (omega (arith, xl, c.requires.stored.number)) c.index-from.ensures in
    let Tail : List Bool → Type 0 =
    λ new. IsFirstTail (x + 1) (component_number cs) cs.count (bit_in cs.strict) set (members_of new) in
    elim c.if-is_start.branch [
      | then-is_start+then-not-marks-from w ↦ subst Tail (sym w.marks-is) (tail-more x set relates cs.count marks
          (members_of w.mark_below.new.marks) w.if-is_start.true (λ k l. w.mark_below.ensures.marked k l
          ∙ ap (λ v. marks k || leads_in (bit_in cs.strict) v k) (sym is)) I)
      | else-is_start w ↦ subst Tail (sym w.marks-is) (elim w.else-is_start.branch [
        | else-is_start-via-then-is_start+else-not-marks-from v ↦ first-held (component_places cs) (component_number cs) cs.count (bit_in cs.strict)
            N set marks x xl (ap marks is ∙ v.if-not-marks-from.false) I
        | else-is_start-via-else-is_start v ↦ tail-other x set relates cs.count marks v.if-is_start.false I
      ])
    ]

pub returns-clause-tail : goal.returns-clause-tail
returns-clause-tail c =
    let cs = c.args.components.now in
    subst (λ (n : ℕ). IsFirstTail n (component_number cs) cs.count (bit_in cs.strict) (members_of c.args.starts.now)
    (members_of c.loop-place.marks))
    (omega (arith, c.loop-place-test.false, c.loop-place.auto.place-end, c.requires.starts)) c.loop-place.invariant
