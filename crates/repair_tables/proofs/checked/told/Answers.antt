use Rattle.std.proofs.Common.{◌≡◌, length, rules}
use Rattle.repair_tables.proofs.Costs.{two-costs}
use Rattle.repair_tables.proofs.checked.told.Goals as goal

pub check_repair-requires-clause-costs : goal.check_repair-requires-clause-costs
check_repair-requires-clause-costs g c =
    let two : length c.args.model.now.equations ≡ 2 = search rules in
    two-costs (length c.args.model.now.equations) two
