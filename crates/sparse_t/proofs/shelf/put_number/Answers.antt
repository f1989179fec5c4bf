use Rattle.std.proofs.Common.{rules, ◌≡◌, ℕ, List, subst}
use Rattle.std.specs.List.{insert}
use Rattle.std.specs.List.Sorted.{IsBinarySearchResult}
use Rattle.std.specs.Ordering.{nat_cmp}
use Rattle.sparse_t.proofs.ShelfLaws.{put-by_search, not_there}
use Rattle.sparse_t.proofs.shelf.put_number.Goals as goal

pub returns-in-Err-clause-put : goal.returns-in-Err-clause-put
returns-in-Err-clause-put c =
    let found = subst (λ (xs : List ℕ). IsBinarySearchResult (λ y. nat_cmp y c.args.number) xs c.binary_search.result) c.as_slice.ensures
    c.binary_search.ensures.position in
    let told : c.insert.new.self.items ≡ insert c.args.list.now.items c.in-Err.place c.args.number = search rules in
    put-by_search c.args.list.now.items c.args.number c.binary_search.result c.requires.rising found c.in-Err.place
    c.insert.new.self.items c.in-Err.is told

pub returns-in_default-clause-put : goal.returns-in_default-clause-put
returns-in_default-clause-put c =
    let found = subst (λ (xs : List ℕ). IsBinarySearchResult (λ y. nat_cmp y c.args.number) xs c.binary_search.result) c.as_slice.ensures
    c.binary_search.ensures.position in
    absurd (not_there c.args.list.now.items c.args.number c.binary_search.result c.requires.rising found c.in_default.field-0
    c.in_default.is c.requires.missing)
