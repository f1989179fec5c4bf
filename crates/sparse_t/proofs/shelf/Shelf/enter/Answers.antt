use Rattle.std.proofs.Common.{◌≡◌, ◌<◌, ◌∙◌, ℕ, false, List, get_or, map, length, ap, sym, subst, vec_capacity, arith}
use Rattle.std.specs.List.Sorted.{IsStrictlyIncreasing}
use Rattle.smallvec.specs.SmallVec.{SmallVec}
use Rattle.residue_theory.specs.Sets.{has}
use Rattle.sparse_t.specs.Columns.{capacity_at}
use Rattle.sparse_t.specs.Shelves.{ShelfLists, IsShelf, AreListsChanged, IsNumberPut}
use Rattle.sparse_t.proofs.ShelfLaws.{shelf-same, written_whole, seen-list, seen-count, seen-lists}
use Rattle.sparse_t.proofs.shelf.Shelf.enter.Goals as goal

pub enter_in-requires-clause-below : goal.enter_in-requires-clause-below
enter_in-requires-clause-below c =
    let T = seen-list c.deref_mut.result.now c.self.inside.lists.items c.args.self.now c.self.inside.count c.self.inside.width c.self.view_is
    c.deref_mut.ensures.value in
    let count = seen-count c.deref_mut.result.now c.self.inside.lists.items c.args.self.now c.self.inside.count c.self.inside.width c.self.view_is
    c.deref_mut.ensures.value in
    λ k l. omega (arith, c.requires.below k l, count)

pub enter_in-requires-clause-lists : goal.enter_in-requires-clause-lists
enter_in-requires-clause-lists c =
    let T = seen-list c.deref_mut.result.now c.self.inside.lists.items c.args.self.now c.self.inside.count c.self.inside.width c.self.view_is
    c.deref_mut.ensures.value in
    let count = seen-count c.deref_mut.result.now c.self.inside.lists.items c.args.self.now c.self.inside.count c.self.inside.width c.self.view_is
    c.deref_mut.ensures.value in
    λ j l. subst IsStrictlyIncreasing (T j) (c.requires.lists j (omega (arith, count, l)))

pub enter_in-requires-clause-missing : goal.enter_in-requires-clause-missing
enter_in-requires-clause-missing c =
    let T = seen-list c.deref_mut.result.now c.self.inside.lists.items c.args.self.now c.self.inside.count c.self.inside.width c.self.view_is
    c.deref_mut.ensures.value in
    let count = seen-count c.deref_mut.result.now c.self.inside.lists.items c.args.self.now c.self.inside.count c.self.inside.width c.self.view_is
    c.deref_mut.ensures.value in
    λ j l. subst (λ (ys : List ℕ). has ys c.args.number ≡ false) (T j) (c.requires.missing j (omega (arith, count, l)))

pub enter_in-requires-clause-room : goal.enter_in-requires-clause-room
enter_in-requires-clause-room c =
    let T = seen-list c.deref_mut.result.now c.self.inside.lists.items c.args.self.now c.self.inside.count c.self.inside.width c.self.view_is
    c.deref_mut.ensures.value in
    let count = seen-count c.deref_mut.result.now c.self.inside.lists.items c.args.self.now c.self.inside.count c.self.inside.width c.self.view_is
    c.deref_mut.ensures.value in
    λ k l. let x = get_or c.args.columns.now k 0 in
    let below : x < length c.args.self.now.lists = c.requires.below k l in
    omega (
      arith,
      c.requires.room x below,
      ap length (T x),
      ap (λ (s : ShelfLists). s.width) c.self.view_is,
      c.self.invariant.wide x (omega (arith, count, below, ap length c.deref_mut.ensures.value)),
      ap (λ (ys : List (SmallVec ℕ)). capacity_at ys x) c.deref_mut.ensures.value,
    )

pub invariant_of-self : goal.invariant_of-self
invariant_of-self c =
    let value = c.deref_mut.ensures.value in
    let same : length c.enter_in.new.lists ≡ length c.self.inside.lists.items = c.enter_in.ensures.count ∙ ap length value in
    subst (λ now. IsShelf c.self.inside.count c.self.inside.width now c.self.inside.spare.items (vec_capacity c.self.inside.lists)
    (vec_capacity c.self.inside.spare))
    (sym (written_whole c.self.inside.lists.len c.self.inside.lists.items c.enter_in.new.lists (omega (arith, c.self.inside.lists.ok.0)) same))
    (shelf-same c.self.inside.count c.self.inside.width (vec_capacity c.self.inside.lists) (vec_capacity c.self.inside.spare)
    c.self.inside.lists.items c.self.inside.spare.items c.self.invariant c.enter_in.new.lists same
    (λ j. c.enter_in.ensures.capacities j ∙ ap (λ (xs : List (SmallVec ℕ)). capacity_at xs j) value))

pub returns-clause-changed : goal.returns-clause-changed
returns-clause-changed c =
    let value = c.deref_mut.ensures.value in
    let same : length c.enter_in.new.lists ≡ length c.self.inside.lists.items = c.enter_in.ensures.count ∙ ap length value in
    let told = seen-lists c.deref_mut.result.now c.self.inside.lists.items c.args.self.now c.self.inside.count c.self.inside.width c.self.view_is value in
    subst (λ (xs : List (SmallVec ℕ)). AreListsChanged (IsNumberPut c.args.number) c.args.self.now.lists (map (λ
    (list : SmallVec ℕ). list.items) xs) c.args.columns.now)
    (sym (written_whole c.self.inside.lists.len c.self.inside.lists.items c.enter_in.new.lists (omega (arith, c.self.inside.lists.ok.0)) same))
    (subst (λ (ys : List (List ℕ)). AreListsChanged (IsNumberPut c.args.number) ys (map (λ
    (list : SmallVec ℕ). list.items) c.enter_in.new.lists) c.args.columns.now)
    (sym told) c.enter_in.ensures.changed)
