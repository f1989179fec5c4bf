use Rattle.std.proofs.Common.{eqb, subst}
use Rattle.std.proofs.lemmas.List.Filters.{dedup_is}
use Rattle.std.specs.List.Sorted.{IsPermutation}
use Rattle.cheapest_repairs.proofs.Falling.{turned-levels}
use Rattle.cheapest_repairs.proofs.costs.falling_costs.Goals as goal

pub returns : goal.returns
returns c =
    let sorted = c.sort_unstable.new.self.items in
    let once = c.dedup.new.self.items in
    turned-levels c.args.costs.now sorted once c.reverse.new.self.items
    (subst (λ xs. IsPermutation xs sorted) (c.in_ok-list.ensures.items_if_clones_equal (λ x y h. h)) c.sort_unstable.ensures.permutation)
    c.sort_unstable.ensures.sorted (dedup_is eqb sorted once c.dedup.ensures.filtered) c.reverse.ensures.items
