use Rattle.std.proofs.Common.{◌≡◌, ◌≢◌, ◌-◌, ◌<◌, ℕ, true, refl, ap, sym, subst, ◌∙◌, arith}
use Rattle.std.specs.BinaryHeap.{heap_items}
use Rattle.std.specs.List.{Contains}
use Rattle.std.proofs.lemmas.List.Sorted.{le_from_greatest}
use Rattle.residue_theory.proofs.SetLaws.{differ}
use Rattle.bit_table.specs.Bits.{bit_in}
use Rattle.bit_table.proofs.BitLaws.{item_is}
use Rattle.minimiser_lattice.specs.Components.{component_number, component_places}
use Rattle.minimiser_lattice.specs.Standings.{IsFreeToStand, IsWaiting, standing_in}
use Rattle.minimiser_lattice.specs.Ready.{AreApartIn, HasRoomFor, place_by_key}
use Rattle.minimiser_lattice.specs.declared.ready.Ready.{Ready}
use Rattle.minimiser_lattice.specs.declared.standing.Standing.{Standing}
use Rattle.minimiser_lattice.specs.declared.standing.Standing.TheVariants.{Listed}
use Rattle.minimiser_lattice.proofs.ReadyLaws.{none-ready, place-small, popped-least, popped-listed, popped-past}
use Rattle.minimiser_lattice.proofs.ready.Ready.take.Goals as goal

pub loop-key-preserved : goal.loop-key-preserved
loop-key-preserved c =
    let cs = c.args.components.now in
    let n = component_places cs in
    let N = c.requires.numbering in
    let standing = standing_in c.args.standing.now in
    let s = c.loop-key.self in
    let I = c.loop-key.invariant in
    let E = c.in-Some.ensures in
    let y = c.in-Some.key in
    let now : Ready = record s { keys = c.pop.new.self } in
    let order = E.heap_order I.room.ordered in
    let room : HasRoomFor now n = record {
      least = I.room.least;
      held = I.room.held;
      rows = I.room.rows;
      size = I.room.size;
      room = omega (arith, I.room.room, c.pop.ensures.capacity);
      ordered = order.0;
    } in
    let greatest = le_from_greatest y (heap_items s.keys) order.1 in
    let len : c.len.result ≡ n = c.len.ensures ∙ c.requires.stored.number in
    let small = place-small (component_number cs) (bit_in cs.strict) standing n cs.count s now I y E.permutation greatest E.len
    room refl refl refl N.below in
    let is : component_number cs (place_by_key n y) ≡ c.index.result.now =
    ap (λ v. component_number cs (v - 1 - y)) (sym len)
    ∙ item_is cs.number.items (c.len.result - 1 - y) c.index.result.now (omega (arith, len, small, c.requires.stored.number)) c.index.ensures in
    popped-past (component_number cs) (bit_in cs.strict) standing n cs.count s now I y E.permutation greatest E.len
    room refl refl refl N.below
    (λ w. differ c.if-is_waiting.false (c.is_waiting.ensures.1 (subst (λ v. IsWaiting standing v) is w)))

pub returns-then-is_waiting-clause-least : goal.returns-then-is_waiting-clause-least
returns-then-is_waiting-clause-least c =
    let cs = c.args.components.now in
    let n = component_places cs in
    let N = c.requires.numbering in
    let standing = standing_in c.args.standing.now in
    let s = c.loop-key.self in
    let I = c.loop-key.invariant in
    let E = c.in-Some.ensures in
    let y = c.in-Some.key in
    let now : Ready = record s { keys = c.pop.new.self } in
    let order = E.heap_order I.room.ordered in
    let room : HasRoomFor now n = record {
      least = I.room.least;
      held = I.room.held;
      rows = I.room.rows;
      size = I.room.size;
      room = omega (arith, I.room.room, c.pop.ensures.capacity);
      ordered = order.0;
    } in
    let greatest = le_from_greatest y (heap_items s.keys) order.1 in
    let len : c.len.result ≡ n = c.len.ensures ∙ c.requires.stored.number in
    subst (λ v. (j : ℕ) → j < v - 1 - y → IsFreeToStand (bit_in cs.strict) standing (component_number cs j) → ⊥) (sym len)
    (popped-least (component_number cs) (bit_in cs.strict) standing n cs.count s now I y E.permutation greatest E.len
    room refl refl refl N.below)

pub returns-then-is_waiting-clause-apart : goal.returns-then-is_waiting-clause-apart
returns-then-is_waiting-clause-apart c =
    let cs = c.args.components.now in
    let n = component_places cs in
    let N = c.requires.numbering in
    let standing = standing_in c.args.standing.now in
    let s = c.loop-key.self in
    let I = c.loop-key.invariant in
    let E = c.in-Some.ensures in
    let y = c.in-Some.key in
    let now : Ready = record s { keys = c.pop.new.self } in
    let order = E.heap_order I.room.ordered in
    let room : HasRoomFor now n = record {
      least = I.room.least;
      held = I.room.held;
      rows = I.room.rows;
      size = I.room.size;
      room = omega (arith, I.room.room, c.pop.ensures.capacity);
      ordered = order.0;
    } in
    let greatest = le_from_greatest y (heap_items s.keys) order.1 in
    let len : c.len.result ≡ n = c.len.ensures ∙ c.requires.stored.number in
    subst (λ v. (more : ℕ → Standing) → more (component_number cs (v - 1 - y)) ≡ Listed →
    ((l : ℕ) → l ≢ component_number cs (v - 1 - y) → more l ≡ standing l) →
    AreApartIn cs more (λ k. bit_in now.waits (component_number cs (v - 1 - y)) k ≡ true) now) (sym len)
    (popped-listed (component_number cs) (bit_in cs.strict) standing n cs.count s now I y E.permutation greatest E.len
    room refl refl refl N.below)

pub returns-clause-none : goal.returns-clause-none
returns-clause-none c =
    let cs = c.args.components.now in
    let s = c.loop-key.self in
    let empty : (x : ℕ) → Contains (heap_items s.keys) x → ⊥ =
    λ x h. omega (arith, h.1, s.keys.data.ok.0, c.in_default.ensures.none) in
    none-ready (component_number cs) (bit_in cs.strict) (standing_in c.args.standing.now) (component_places cs) cs.count s
    c.loop-key.invariant empty c.requires.numbering.below
