use Rattle.std.proofs.Common.{rules, ◌≡◌, ◌++◌, ◌∷◌, [], ◌∙◌, ℕ, List, map, length, ap, vec_capacity, arith}
use Rattle.std.proofs.lemmas.List.{length-map}
use Rattle.std.specs.List.{insert}
use Rattle.smallvec.specs.SmallVec.{SmallVec}
use Rattle.sparse_t.specs.Shelves.{ShelfLists, list_put}
use Rattle.sparse_t.proofs.ShelfLaws.{shelf-put, map-insert}
use Rattle.sparse_t.proofs.shelf.Shelf.put.Goals as goal

pub invariant_of-self : goal.invariant_of-self
invariant_of-self c =
    let popped : c.self.inside.spare.items ≡ c.pop.new.self.items ++ c.unwrap.result ∷ [] = search rules in
    shelf-put c.self.inside.count c.self.inside.width (vec_capacity c.self.inside.lists) (vec_capacity c.self.inside.spare)
    c.self.inside.lists.items c.self.inside.spare.items c.self.invariant c.insert_list.new.lists.items c.pop.new.self.items
    c.unwrap.result c.refilled-list.result c.args.at (vec_capacity c.insert_list.new.lists) (vec_capacity c.pop.new.self)
    (omega (
      arith,
      c.requires.at,
      ap (λ (s : ShelfLists). length s.lists) c.self.view_is,
      length-map c.self.inside.lists.items (λ
          (list : SmallVec ℕ). list.items),
    ))
    c.insert_list.ensures.items popped c.refilled-list.ensures.capacity (omega (arith, c.insert_list.ensures.room)) (omega (arith, c.pop.ensures.capacity))

pub returns : goal.returns
returns c =
    ap (λ (xs : List (List ℕ)). let s : ShelfLists = record { lists = xs; count = c.self.inside.count; width = c.self.inside.width } in s)
    (ap (map (λ (list : SmallVec ℕ). list.items)) c.insert_list.ensures.items
    ∙ (map-insert (λ (list : SmallVec ℕ). list.items) c.self.inside.lists.items c.args.at c.refilled-list.result
    ∙ ap (insert (map (λ (list : SmallVec ℕ). list.items) c.self.inside.lists.items) c.args.at) c.refilled-list.ensures.items))
    ∙ ap (λ (s : ShelfLists). list_put s c.args.at c.args.items.now) c.self.view_is
