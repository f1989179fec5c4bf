-- Each text has an answer.
use Rattle.std.proofs.Common.{ℕ, zero, suc, ◌<◌, List, [], ◌∷◌, ◌++◌, codes, refl, sym, subst, arith}
use Rattle.residue_theory.specs.Residues.{IsPrime}
use Rattle.line_lexer.specs.Lines.{lines_of}
use Rattle.mixed_model.specs.Models.{IsModel, MixedModel, empty_model}
use Rattle.mixed_model.proofs.NameLaws.{no_names}
use Rattle.edit_desk.specs.Desks.{IsReply, desk_limit, empty_models, model_at}
use Rattle.edit_desk.specs.declared.reply.Reply.{Reply}
use Rattle.edit_desk.specs.declared.reply.Reply.TheVariants.{Changed, Nothing, Parts as Told, Refused}
use Rattle.desk_texts.specs.Said.{IsReplyText, IsSaid}
use Rattle.desk_texts.specs.Texts.{number_line, refused_line, reply_parts_text}
use Rattle.desk_existence_laws.specs.Laws.{AreModels, EachTextHasAnAnswer, HasReply}
use Rattle.desk_existence_laws.proofs.Replies.{each-reply}

empty-is : (p : ℕ) → IsModel p empty_model
empty-is p = record { equations = no_names; unknowns = no_names; one_row_each = refl; rows = λ k d kl. absurd (omega (arith, kl)) }

empty-are : (p n : ℕ) → AreModels p (empty_models n)
empty-are p zero k = empty-is p
empty-are p (suc n) zero = empty-is p
empty-are p (suc n) (suc k) = empty-are p n k

-- each reply has a text
record HasText (models : List MixedModel) (line : List ℕ) (reply : Reply) : Type 0 where
  text : List ℕ
  is : IsReplyText models line reply text

reply-text : (p : ℕ) (old new : List MixedModel) (line : List ℕ) (reply : Reply) → IsReply p old line new reply → HasText new line reply
reply-text p old new line Nothing replies = record { text = []; is = refl }
reply-text p old new line (Refused why) replies = record { text = refused_line why; is = refl }
reply-text p old new line (Changed rank) replies = record { text = number_line (codes "changed") rank; is = refl }
reply-text p old new line (Told rank parts) (asked, kept) = subst (λ models. HasText models line (Told rank parts)) (sym kept) (record {
  text = reply_parts_text (model_at old asked.model) asked.told.layers rank parts;
  is = (asked.model, asked.told.layers, asked.names, asked.told.layered, refl);
})

-- what is printed of lines
record HasSaid (p : ℕ) (models : List MixedModel) (lines : List (List ℕ)) : Type 0 where
  text : List ℕ
  is : IsSaid p models lines text

module _ (p : ℕ) (prime : IsPrime p) (big : 2 < p) where
  one-more : (models : List MixedModel) (line : List ℕ) (lines : List (List ℕ)) (r : HasReply p models line) → HasText r.new line r.reply →
      HasSaid p r.new lines → HasSaid p models (line ∷ lines)
  one-more models line lines r own rest = record {
    text = own.text ++ rest.text;
    is = (r.new, r.reply, own.text, rest.text, r.is_reply, own.is, rest.is, refl);
  }

  said : (lines : List (List ℕ)) (models : List MixedModel) → AreModels p models → HasSaid p models lines
  said [] models are = record { text = []; is = refl }
  said (line ∷ lines) models are =
      let r : HasReply p models line = each-reply p prime big models are line in
      one-more models line lines r (reply-text p models r.new line r.reply r.is_reply) (said lines r.new r.are_models)

pub each-answer : EachTextHasAnAnswer
each-answer p prime big input = let s = said p prime big (lines_of input) (empty_models desk_limit) (empty-are p desk_limit) in (s.text, s.is)
