use Rattle.value_list_laws.proofs.Runs.{put-fixed}
use Rattle.value_list_laws.proofs.fixing_laws.numbers_put_fix_symbols.Goals as goal

pub returns : goal.returns
returns c p M N i j x here puts = put-fixed p M N i j x here puts
