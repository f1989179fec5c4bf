use Rattle.std.proofs.Common.{◌∙◌}
use Rattle.value_lists.proofs.values.listed.Goals as goal

pub list_rows-requires-clause-same : goal.list_rows-requires-clause-same
list_rows-requires-clause-same g c = c.in_ok-held.ensures ∙ c.in_ok-copy.ensures.same
