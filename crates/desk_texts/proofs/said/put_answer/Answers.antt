use Rattle.std.proofs.Common.{ℕ, List, [], refl, sym, subst}
use Rattle.edit_desk.specs.declared.reply.Reply.{Reply}
use Rattle.text_writer.specs.Texts.{Puts}
use Rattle.text_writer.proofs.Putting.{puts_nothing}
use Rattle.desk_texts.specs.Said.{IsReplyText}
use Rattle.desk_texts.proofs.said.put_answer.Goals as goal

pub returns-in-Nothing : goal.returns-in-Nothing
returns-in-Nothing g c =
    subst (λ (r : Reply). (text : List ℕ) × IsReplyText c.args.desk.now c.args.line.now r text × Puts g.K.Sink c.args.out.now c.args.out.now text)
    (sym c.in-Nothing.is) ([], refl, puts_nothing)
