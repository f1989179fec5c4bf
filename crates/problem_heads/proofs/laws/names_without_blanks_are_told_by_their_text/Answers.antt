use Rattle.problem_heads.proofs.SameNames.{same-names}
use Rattle.problem_heads.proofs.laws.names_without_blanks_are_told_by_their_text.Goals as goal

pub returns : goal.returns
returns c = same-names
