use Rattle.std.proofs.Common.{◌≡◌, ◌<◌, ◌∙◌, ℕ, List, map, length, ap, sym, subst, vec_capacity, arith}
use Rattle.std.proofs.lemmas.List.{length-map}
use Rattle.linear_algebra.specs.Parts.{skip}
use Rattle.smallvec.specs.SmallVec.{SmallVec}
use Rattle.sparse_t.specs.Columns.{capacity_at, list_items_at}
use Rattle.limits.specs.Limits.{column_limit}
use Rattle.sparse_t.specs.Lists.{AreAllBelow}
use Rattle.sparse_t.specs.Shelves.{ShelfLists, shelf_list, numbers_raised, IsShelf}
use Rattle.sparse_t.proofs.ShelfLaws.{shelf-same, written_whole}
use Rattle.sparse_t.proofs.shelf.Shelf.raise.Goals as goal

pub raise_lists-requires : goal.raise_lists-requires
raise_lists-requires c =
    let small = subst (λ (s : ShelfLists). (i : ℕ) → i < length s.lists → AreAllBelow column_limit (shelf_list s i)) (sym c.self.view_is)
    c.requires.small in record {
      small = subst (λ (xs : List (SmallVec ℕ)). (i : ℕ) → i < length xs → AreAllBelow column_limit (list_items_at xs i))
          (sym c.deref_mut.ensures.value)
          (λ i l. small i (omega (arith, l, length-map c.self.inside.lists.items (λ (list : SmallVec ℕ). list.items))));
    }

pub invariant_of-self : goal.invariant_of-self
invariant_of-self c =
    let value = c.deref_mut.ensures.value in
    let same : length c.raise_lists.new.lists ≡ length c.self.inside.lists.items = c.raise_lists.ensures.count ∙ ap length value in
    subst (λ now. IsShelf c.self.inside.count c.self.inside.width now c.self.inside.spare.items (vec_capacity c.self.inside.lists)
    (vec_capacity c.self.inside.spare))
    (sym (written_whole c.self.inside.lists.len c.self.inside.lists.items c.raise_lists.new.lists (omega (arith, c.self.inside.lists.ok.0)) same))
    (shelf-same c.self.inside.count c.self.inside.width (vec_capacity c.self.inside.lists) (vec_capacity c.self.inside.spare)
    c.self.inside.lists.items c.self.inside.spare.items c.self.invariant c.raise_lists.new.lists same
    (λ j. c.raise_lists.ensures.capacities j ∙ ap (λ (xs : List (SmallVec ℕ)). capacity_at xs j) value))

pub returns : goal.returns
returns c =
    let value = c.deref_mut.ensures.value in
    let same : length c.raise_lists.new.lists ≡ length c.self.inside.lists.items = c.raise_lists.ensures.count ∙ ap length value in
    ap (λ (xs : List (List ℕ)). let s : ShelfLists = record { lists = xs; count = c.self.inside.count; width = c.self.inside.width } in s)
    (ap (map (λ (list : SmallVec ℕ). list.items))
    (written_whole c.self.inside.lists.len c.self.inside.lists.items c.raise_lists.new.lists (omega (arith, c.self.inside.lists.ok.0)) same)
    ∙ (c.raise_lists.ensures.items ∙ ap (λ (xs : List (SmallVec ℕ)). map (map (skip c.args.at)) (map (λ (list : SmallVec ℕ). list.items) xs)) value))
    ∙ ap (λ (s : ShelfLists). numbers_raised s c.args.at) c.self.view_is
