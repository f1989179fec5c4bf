use Rattle.std.proofs.Common.{◌≡◌, ◌∙◌, ℕ, true, List, map, length, ap, sym, subst, vec_capacity, arith}
use Rattle.std.specs.List.Sorted.{IsStrictlyIncreasing}
use Rattle.smallvec.specs.SmallVec.{SmallVec}
use Rattle.residue_theory.specs.Sets.{has}
use Rattle.sparse_t.specs.Columns.{capacity_at}
use Rattle.sparse_t.specs.Shelves.{IsShelf, AreListsChanged, IsNumberTaken}
use Rattle.sparse_t.proofs.ShelfLaws.{shelf-same, written_whole, seen-list, seen-count, seen-lists}
use Rattle.sparse_t.proofs.shelf.Shelf.leave.Goals as goal

pub leave_in-requires-clause-below : goal.leave_in-requires-clause-below
leave_in-requires-clause-below c =
    let T = seen-list c.deref_mut.result.now c.self.inside.lists.items c.args.self.now c.self.inside.count c.self.inside.width c.self.view_is
    c.deref_mut.ensures.value in
    let count = seen-count c.deref_mut.result.now c.self.inside.lists.items c.args.self.now c.self.inside.count c.self.inside.width c.self.view_is
    c.deref_mut.ensures.value in
    λ k l. omega (arith, c.requires.below k l, count)

pub leave_in-requires-clause-lists : goal.leave_in-requires-clause-lists
leave_in-requires-clause-lists c =
    let T = seen-list c.deref_mut.result.now c.self.inside.lists.items c.args.self.now c.self.inside.count c.self.inside.width c.self.view_is
    c.deref_mut.ensures.value in
    let count = seen-count c.deref_mut.result.now c.self.inside.lists.items c.args.self.now c.self.inside.count c.self.inside.width c.self.view_is
    c.deref_mut.ensures.value in
    λ j l. subst IsStrictlyIncreasing (T j) (c.requires.lists j (omega (arith, count, l)))

pub leave_in-requires-clause-there : goal.leave_in-requires-clause-there
leave_in-requires-clause-there c =
    let T = seen-list c.deref_mut.result.now c.self.inside.lists.items c.args.self.now c.self.inside.count c.self.inside.width c.self.view_is
    c.deref_mut.ensures.value in
    let count = seen-count c.deref_mut.result.now c.self.inside.lists.items c.args.self.now c.self.inside.count c.self.inside.width c.self.view_is
    c.deref_mut.ensures.value in
    λ j h. subst (λ (ys : List ℕ). has ys c.args.number ≡ true) (T j) (c.requires.there j h)

pub invariant_of-self : goal.invariant_of-self
invariant_of-self c =
    let value = c.deref_mut.ensures.value in
    let same : length c.leave_in.new.lists ≡ length c.self.inside.lists.items = c.leave_in.ensures.count ∙ ap length value in
    subst (λ now. IsShelf c.self.inside.count c.self.inside.width now c.self.inside.spare.items (vec_capacity c.self.inside.lists)
    (vec_capacity c.self.inside.spare))
    (sym (written_whole c.self.inside.lists.len c.self.inside.lists.items c.leave_in.new.lists (omega (arith, c.self.inside.lists.ok.0)) same))
    (shelf-same c.self.inside.count c.self.inside.width (vec_capacity c.self.inside.lists) (vec_capacity c.self.inside.spare)
    c.self.inside.lists.items c.self.inside.spare.items c.self.invariant c.leave_in.new.lists same
    (λ j. c.leave_in.ensures.capacities j ∙ ap (λ (xs : List (SmallVec ℕ)). capacity_at xs j) value))

pub returns-clause-changed : goal.returns-clause-changed
returns-clause-changed c =
    let value = c.deref_mut.ensures.value in
    let same : length c.leave_in.new.lists ≡ length c.self.inside.lists.items = c.leave_in.ensures.count ∙ ap length value in
    let told = seen-lists c.deref_mut.result.now c.self.inside.lists.items c.args.self.now c.self.inside.count c.self.inside.width c.self.view_is value in
    subst (λ (xs : List (SmallVec ℕ)). AreListsChanged (IsNumberTaken c.args.number) c.args.self.now.lists (map (λ
    (list : SmallVec ℕ). list.items) xs) c.args.columns.now)
    (sym (written_whole c.self.inside.lists.len c.self.inside.lists.items c.leave_in.new.lists (omega (arith, c.self.inside.lists.ok.0)) same))
    (subst (λ (ys : List (List ℕ)). AreListsChanged (IsNumberTaken c.args.number) ys (map (λ
    (list : SmallVec ℕ). list.items) c.leave_in.new.lists) c.args.columns.now)
    (sym told) c.leave_in.ensures.changed)
