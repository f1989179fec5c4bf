use Rattle.line_reader.proofs.Deciding.{each_text}
use Rattle.line_reader.proofs.laws.each_text_keeps_all_rules_or_has_a_first_broken_one.Goals as goal

pub returns : goal.returns
returns c = each_text
