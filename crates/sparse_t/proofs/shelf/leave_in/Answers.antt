use Rattle.std.proofs.Common.{◌≡◌, ◌<◌, ◌∙◌, ℕ, List, true, get_or, length, ap, sym, subst, refl, arith}
use Rattle.std.proofs.lemmas.List.{length-set}
use Rattle.std.specs.List.Sorted.{IsStrictlyIncreasing}
use Rattle.smallvec.specs.SmallVec.{SmallVec}
use Rattle.residue_theory.specs.Sets.{has}
use Rattle.sparse_t.specs.Shelves.{IsNumberTaken}
use Rattle.sparse_t.proofs.ColumnLaws.{capacities-step}
use Rattle.sparse_t.proofs.ListLaws.{has-at}
use Rattle.sparse_t.proofs.ShelfLaws.{untouched, changed-step, unchanged-step, changed-all}
use Rattle.sparse_t.proofs.shelf.leave_in.Goals as goal

pub take_number-requires-clause-rising : goal.take_number-requires-clause-rising
take_number-requires-clause-rising c =
    let I = c.loop-column.invariant in
    let lists = c.loop-column.lists in
    let first = c.args.lists.now in
    let columns = c.args.columns.now in
    let k = c.loop-column.column-index in
    let x = get_or columns k 0 in
    let v = c.index-lists-column.result in
    let read = c.index-lists-column.is in
    let below : x < length first = c.requires.below k (omega arith) in
    let within : x < length lists = omega (arith, I.count, below) in
    subst (λ (v : SmallVec ℕ). IsStrictlyIncreasing v.items) read
    (subst IsStrictlyIncreasing (untouched lists x v v within read (IsNumberTaken c.args.number) first columns k c.requires.rising (omega arith) refl I.others)
    (c.requires.lists x below))

pub take_number-requires-clause-there : goal.take_number-requires-clause-there
take_number-requires-clause-there c =
    let I = c.loop-column.invariant in
    let lists = c.loop-column.lists in
    let first = c.args.lists.now in
    let columns = c.args.columns.now in
    let k = c.loop-column.column-index in
    let x = get_or columns k 0 in
    let v = c.index-lists-column.result in
    let read = c.index-lists-column.is in
    let below : x < length first = c.requires.below k (omega arith) in
    let within : x < length lists = omega (arith, I.count, below) in
    subst (λ (v : SmallVec ℕ). has v.items c.args.number ≡ true) read
    (subst (λ (xs : List ℕ). has xs c.args.number ≡ true)
    (untouched lists x v v within read (IsNumberTaken c.args.number) first columns k c.requires.rising (omega arith) refl I.others)
    (c.requires.there x (has-at columns k x (omega arith) refl)))

pub loop-column-preserved : goal.loop-column-preserved
loop-column-preserved c =
    let I = c.loop-column.invariant in
    let lists = c.loop-column.lists in
    let first = c.args.lists.now in
    let columns = c.args.columns.now in
    let k = c.loop-column.column-index in
    let x = get_or columns k 0 in
    let v = c.index-lists-column.result in
    let read = c.index-lists-column.is in
    let below : x < length first = c.requires.below k (omega arith) in
    let within : x < length lists = omega (arith, I.count, below) in
    let w = c.take_number.new.list in
    let more : IsNumberTaken c.args.number v.items w.items = subst (λ (v : SmallVec ℕ). IsNumberTaken c.args.number v.items w.items)
    (sym read) c.take_number.ensures.taken in
    record {
      count = length-set lists x w ∙ I.count;
      changed = changed-step lists x v w within read (IsNumberTaken c.args.number) first columns k c.requires.rising (omega arith) refl
          I.others more I.changed;
      others = unchanged-step lists x v w within read (IsNumberTaken c.args.number) first columns k c.requires.rising (omega arith) refl I.others;
      capacities = capacities-step lists x v w within read first
          (c.take_number.ensures.capacity ∙ ap (λ (v : SmallVec ℕ). v.capacity) (sym read)) I.capacities;
    }

pub returns-clause-changed : goal.returns-clause-changed
returns-clause-changed c =
    let I = c.loop-column.invariant in
    changed-all (IsNumberTaken c.args.number) c.args.lists.now c.loop-column.lists c.args.columns.now c.loop-column.column-index
    I.count (omega arith) (omega arith) I.changed I.others
