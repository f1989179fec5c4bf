use Rattle.value_list_laws.proofs.FixedRanks.{one-more}
use Rattle.value_list_laws.proofs.fixing_laws.symbols_are_fixed_one_by_one.Goals as goal

pub returns : goal.returns
returns c p M X v i j out = one-more p M X v i j out
