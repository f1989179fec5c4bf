use Rattle.std.proofs.Common.{◌≡◌, ◌<◌, ℕ, length, true, ap, ◌∙◌, set, arith}
use Rattle.std.specs.Vec.{with_item}
use Rattle.std.proofs.lemmas.List.{get_or-set_same, get_or-set_other}
use Rattle.minimiser_lattice.specs.Components.{component_places, path_state, component_number}
use Rattle.exchange_graph.specs.Marks.{members_of}
use Rattle.minimiser_lattice.specs.declared.components.Components.{Components}
use Rattle.bit_table.proofs.BitLaws.{item_is}
use Rattle.minimiser_lattice.proofs.CloseLaws.{numbered-next}
use Rattle.minimiser_lattice.proofs.components.Components.number_group.Goals as goal
use Rattle.std.proofs.Common.{false, subst}
use Rattle.minimiser_lattice.specs.Paths.{IsNumberedTo}

pub loop-position-preserved : goal.loop-position-preserved
loop-position-preserved c =
    let I = c.loop-position.invariant in
    let s = c.loop-position.self in
    let place = c.index-place.result.now in
    let stack_is = ap (λ (v : Components). v.stack.items) I.kept in
    let same : component_places s ≡ component_places c.args.self.now = ap (λ (v : Components). component_places v) I.kept in
    let height = ap (λ (v : Components). v.height) I.kept in
    let fits : c.loop-position.position < length s.stack.items = omega (arith, I.stored.stack, same, height, c.requires.fits) in
    let read = ap (λ xs. Rattle.std.proofs.Common.get_or xs c.loop-position.position 0) stack_is in
    let is = item_is s.stack.items c.loop-position.position place fits c.index-place.ensures in
    let below : place < component_places c.args.self.now = omega (arith, read, is, height, c.requires.below c.loop-position.position (omega (arith, height))) in
    record {
      stored =
          record {
            done = I.stored.done;
            number = I.stored.number;
            position = I.stored.position;
            next =
                I.stored.next;
            stack = I.stored.stack;
            base = I.stored.base;
            path = I.stored.path;
            rows =
                I.stored.rows;
            size = I.stored.size;
          };
      kept = ap (λ (v : Components). record v { done = with_item s.done place true; number = with_item s.number place s.count }) I.kept;
      numbered =
          numbered-next (path_state c.args.self.now) (members_of s.done.items)
          (members_of (set s.done.items place true)) (component_number s)
          (λ y. Rattle.std.proofs.Common.get_or (set s.number.items place s.count) y 0)
          c.args.from c.loop-position.position place I.numbered (omega arith) (Rattle.std.proofs.Common.sym read ∙ is)
          (get_or-set_same s.done.items place true false (omega (arith, I.stored.done, same, below)))
          (get_or-set_same s.number.items place s.count 0 (omega (arith, I.stored.number, same, below)) ∙ ap (λ (v : Components). v.count) I.kept)
          (λ y ne. get_or-set_other s.done.items place y true false ne) (λ y ne. get_or-set_other s.number.items place y s.count 0 ne);
    }

pub returns-clause-numbered : goal.returns-clause-numbered
returns-clause-numbered c =
    subst (λ (v : ℕ). IsNumberedTo (path_state c.args.self.now) (members_of c.loop-position.self.done.items)
    (component_number c.loop-position.self) c.args.from v)
    (omega (arith, ap (λ (v : Components). v.height) c.loop-position.invariant.kept)) c.loop-position.invariant.numbered
