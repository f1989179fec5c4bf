use Rattle.std.proofs.Common.{◌∙◌, ℕ, List, map, length, ap, vec_capacity, arith}
use Rattle.std.proofs.lemmas.List.{length-map}
use Rattle.smallvec.specs.SmallVec.{SmallVec}
use Rattle.sparse_t.specs.Shelves.{ShelfLists, list_taken}
use Rattle.sparse_t.proofs.ShelfLaws.{shelf-taken, map-remove}
use Rattle.sparse_t.proofs.shelf.Shelf.take.Goals as goal

pub invariant_of-self : goal.invariant_of-self
invariant_of-self c =
    shelf-taken c.self.inside.count c.self.inside.width (vec_capacity c.self.inside.lists) (vec_capacity c.self.inside.spare)
    c.self.inside.lists.items c.self.inside.spare.items c.self.invariant c.remove-list.new.self.items c.keep.new.spare.items
    c.remove-list.result c.args.at (vec_capacity c.remove-list.new.self) (vec_capacity c.keep.new.spare)
    (omega (
      arith,
      c.requires,
      ap (λ (s : ShelfLists). length s.lists) c.self.view_is,
      length-map c.self.inside.lists.items (λ
          (list : SmallVec ℕ). list.items),
    ))
    c.remove-list.ensures.items c.remove-list.ensures.value (λ le. c.keep.ensures.full (omega (arith, le, c.self.inside.spare.ok.0)))
    (λ less. c.keep.ensures.kept (omega (arith, less, c.self.inside.spare.ok.0)))
    (omega (arith, c.remove-list.ensures.capacity)) c.keep.ensures.room

pub returns : goal.returns
returns c =
    ap (λ (xs : List (List ℕ)). let s : ShelfLists = record { lists = xs; count = c.self.inside.count; width = c.self.inside.width } in s)
    (ap (map (λ (list : SmallVec ℕ). list.items)) c.remove-list.ensures.items
    ∙ map-remove (λ (list : SmallVec ℕ). list.items) c.self.inside.lists.items c.args.at)
    ∙ ap (λ (s : ShelfLists). list_taken s c.args.at) c.self.view_is
