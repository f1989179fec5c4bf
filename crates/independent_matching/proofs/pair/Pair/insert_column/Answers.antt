use Rattle.std.proofs.Common.{subst}
use Rattle.independent_matching.specs.Edits.{IsColumnOutAt}
use Rattle.independent_matching.proofs.pair.Pair.insert_column.Goals as goal

pub returns-in-Some-clause-edited : goal.returns-in-Some-clause-edited
returns-in-Some-clause-edited g c L K least out E =
    c.insert_column_at.ensures.edited L K least (subst (λ o. IsColumnOutAt g.F.Field.modulus o K L) c.in-Some.is out) E
