use Rattle.row_choice_laws.proofs.WalksBack.{first-has_column, others-same}
use Rattle.row_choice_laws.proofs.growth_laws.walks_back_give_the_first_row_a_column.Goals as goal

pub returns : goal.returns
returns c p L F G T s bare at col k W C rows =
    (first-has_column p L F s at k W T bare col C G rows, others-same p L F s at k W T bare col C G rows)
