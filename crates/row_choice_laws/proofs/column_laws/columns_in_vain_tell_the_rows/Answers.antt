use Rattle.row_choice_laws.proofs.ColumnWalks.{rows-reached, rows-vain}
use Rattle.row_choice_laws.proofs.column_laws.columns_in_vain_tell_the_rows.Goals as goal

pub returns : goal.returns
returns c p L F T s sl X reached vain = (rows-reached p L F T s sl X reached vain, rows-vain p L F T s sl X reached vain)
