use Rattle.std.proofs.Common.{◌≡◌, ◌≤◌, true, length, nat_le, rules}
use Rattle.std.specs.List.{list_all}
use Rattle.repair_tables.proofs.Costs.{short-costs}
use Rattle.repair_tables.proofs.cheapest.tells.Goals as goal

pub cheapest_repair-requires : goal.cheapest_repair-requires
cheapest_repair-requires g c =
    let count : length c.args.costs.now ≡ length c.args.model.now.equations = search rules in
    let short : length c.args.costs.now ≤ 16 = search rules in
    let small : list_all (λ cost. nat_le cost 999999999) c.args.costs.now ≡ true = search rules in
    short-costs (length c.args.model.now.equations) c.args.costs.now count short small

pub stands-requires-clause-costs : goal.stands-requires-clause-costs
stands-requires-clause-costs g c =
    let count : length c.args.costs.now ≡ length c.args.model.now.equations = search rules in
    let short : length c.args.costs.now ≤ 16 = search rules in
    let small : list_all (λ cost. nat_le cost 999999999) c.args.costs.now ≡ true = search rules in
    short-costs (length c.args.model.now.equations) c.args.costs.now count short small
