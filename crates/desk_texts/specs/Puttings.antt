-- The replies of a desk, put into a writer.
use Rattle.std.specs.Prelude.{ℕ, ◌≡◌, List, length}
use Rattle.edit_desk.specs.Desks.{IsReply}
use Rattle.edit_desk.specs.declared.reply.Reply.{Reply}
use Rattle.mixed_model.specs.Models.{MixedModel}
use Rattle.port_io.specs.declared.ports.Sink.{Ghosts}
use Rattle.text_writer.specs.Texts.{Puts}
use Rattle.text_writer.specs.declared.writer.TextWriter.{TextWriter}
use Rattle.desk_texts.specs.Said.{IsReplyText, IsSaid}

-- a desk of some models replied to a line, and the text of its reply was put
pub record PutsReply {S : Type 0} (K : Ghosts S) (p : ℕ) (old : List MixedModel) (line : List ℕ)
    (new : List MixedModel) (before after : TextWriter S) : Type 0 where
  pub reply : Reply
  pub answers : IsReply p old line new reply
  pub text : List ℕ
  pub own : IsReplyText new line reply text
  pub puts : Puts K before after text
  pub count : length new ≡ length old

-- it replied to lines, and the text of its replies was put
pub record PutsSaid {S : Type 0} (K : Ghosts S) (p : ℕ) (models : List MixedModel) (lines : List (List ℕ))
    (before after : TextWriter S) : Type 0 where
  pub text : List ℕ
  pub said : IsSaid p models lines text
  pub puts : Puts K before after text
