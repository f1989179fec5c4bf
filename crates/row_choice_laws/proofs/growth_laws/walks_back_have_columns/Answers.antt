use Rattle.row_choice_laws.proofs.WalksBack.{columns-along}
use Rattle.row_choice_laws.proofs.growth_laws.walks_back_have_columns.Goals as goal

pub returns : goal.returns
returns c p L F s at k W = columns-along p L F s at k W
