use Rattle.std.proofs.Common.{ℕ, List, subst}
use Rattle.std.specs.List.Sorted.{IsBinarySearchResult}
use Rattle.std.specs.Ordering.{nat_cmp}
use Rattle.sparse_t.proofs.ShelfLaws.{taken-by_search, there}
use Rattle.sparse_t.proofs.shelf.take_number.Goals as goal

pub returns-in-Ok-clause-taken : goal.returns-in-Ok-clause-taken
returns-in-Ok-clause-taken c =
    let found = subst (λ (xs : List ℕ). IsBinarySearchResult (λ y. nat_cmp y c.args.number) xs c.binary_search.result) c.as_slice.ensures
    c.binary_search.ensures.position in
    taken-by_search c.args.list.now.items c.args.number c.binary_search.result c.requires.rising found c.in-Ok.place
    c.remove.new.self.items c.in-Ok.is c.remove.ensures.items

pub returns-in_default-clause-taken : goal.returns-in_default-clause-taken
returns-in_default-clause-taken c =
    let found = subst (λ (xs : List ℕ). IsBinarySearchResult (λ y. nat_cmp y c.args.number) xs c.binary_search.result) c.as_slice.ensures
    c.binary_search.ensures.position in
    absurd (there c.args.list.now.items c.args.number c.binary_search.result c.requires.rising found c.in_default.field-0
    c.in_default.is c.requires.there)
