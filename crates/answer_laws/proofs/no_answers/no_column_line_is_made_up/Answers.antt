use Rattle.answer_laws.proofs.OneEquation.{no-line}
use Rattle.answer_laws.proofs.no_answers.no_column_line_is_made_up.Goals as goal

pub returns : goal.returns
returns c = no-line
