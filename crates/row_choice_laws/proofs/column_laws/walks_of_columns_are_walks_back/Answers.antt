use Rattle.row_choice_laws.proofs.ColumnWalks.{along-columns, along-shortest}
use Rattle.row_choice_laws.proofs.column_laws.walks_of_columns_are_walks_back.Goals as goal

pub returns : goal.returns
returns c p L F T s sl bare at k W = (along-shortest p L F T s sl bare at k W, along-columns p L F T s sl bare at k W)
