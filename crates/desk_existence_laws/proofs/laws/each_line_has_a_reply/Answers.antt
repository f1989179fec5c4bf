use Rattle.desk_existence_laws.proofs.Replies.{each-reply}
use Rattle.desk_existence_laws.proofs.laws.each_line_has_a_reply.Goals as goal

pub returns : goal.returns
returns c = each-reply
