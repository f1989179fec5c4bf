use Rattle.std.proofs.Common.{◌∷◌, subst, arith, rules}
use Rattle.std.specs.BinaryHeap.{heap_items, heap_len}
use Rattle.std.specs.List.Sorted.{IsPermutation}
use Rattle.bit_table.proofs.BitLaws.{item_is}
use Rattle.minimiser_lattice.specs.Components.{component_places}
use Rattle.minimiser_lattice.specs.Ready.{held_of}
use Rattle.minimiser_lattice.proofs.ReadyLaws.{on-ok, room-left}
use Rattle.minimiser_lattice.proofs.ready.Ready.make_ready.Goals as goal

pub returns-clause-ready : goal.returns-clause-ready
returns-clause-ready c =
    let s = c.args.self.now in
    let n = component_places c.args.components.now in
    let few = room-left (held_of s) (heap_len s.keys) c.args.components.now.count c.args.k c.requires.few c.requires.k
    c.requires.held in
    let pushed = c.push-pushed.ensures.succeeds (omega (arith, few, c.requires.count, c.requires.room.room)) in
    let is = item_is s.least.items c.args.k c.index.result.now (omega (arith, c.requires.k, c.requires.count, c.requires.room.least)) c.index.ensures in
    record {
      free = search rules;
      others = search rules;
      pushed = subst (λ v. IsPermutation (v ∷ heap_items s.keys) (heap_items c.push-pushed.new.self)) (omega (arith, c.len.ensures, c.requires.room.least, is))
          (on-ok c.push-pushed.result _ pushed c.push-pushed.ensures.permutation);
      more = on-ok c.push-pushed.result _ pushed c.push-pushed.ensures.len;
      waits = search rules;
    }
