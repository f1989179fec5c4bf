-- Lines that are said to a desk one after another, and its replies.
use Rattle.std.specs.Prelude.{ℕ, ◌≡◌, Bool, false, List, [], ◌∷◌, filter, nat_eq, Option, None, Some}
use Rattle.line_lexer.specs.Tokens.{words_of}
use Rattle.mixed_model.specs.Models.{MixedModel}
use Rattle.model_edits.specs.Commands.{model_named}
use Rattle.edit_desk.specs.Desks.{IsReply}
use Rattle.edit_desk.specs.declared.reply.Reply.{Reply}
use Rattle.edit_desk.specs.declared.reply.Reply.TheVariants.{Changed, Nothing, Parts, Refused}

-- a line and the reply to it
pub record Turn : Type 0 where
  pub line : List ℕ
  pub reply : Reply

-- from the first models these turns lead to the last ones
abbrev pub IsDialogue : ℕ → List MixedModel → List Turn → List MixedModel → Type 0
IsDialogue p first [] last = last ≡ first
IsDialogue p first (turn ∷ turns) last =
    (next : List MixedModel) × IsReply p first turn.line next turn.reply × IsDialogue p next turns last

-- which of so many models some words name: their second one does
abbrev pub model_in : ℕ → List (List ℕ) → Option ℕ
model_in count [] = None
model_in count (word ∷ []) = None
model_in count (word ∷ number ∷ words) = model_named count number

-- whether this is the number k
abbrev pub is_number : ℕ → Option ℕ → Bool
is_number k None = false
is_number k (Some other) = nat_eq k other

-- the turns whose lines name model k
abbrev pub turns_of : ℕ → ℕ → List Turn → List Turn
turns_of count k turns = filter (λ turn. is_number k (model_in count (words_of turn.line))) turns

-- two replies say the same
abbrev pub IsSameReply : Reply → Reply → Type 0
IsSameReply Nothing Nothing = Unit {0}
IsSameReply (Refused why) (Refused other) = other ≡ why
IsSameReply (Changed rank) (Changed other) = other ≡ rank
IsSameReply (Parts rank parts) (Parts other others) =
    (other ≡ rank) × (others.first ≡ parts.first) × (others.blocks.items ≡ parts.blocks.items)
    × (others.last ≡ parts.last)
IsSameReply reply other = ⊥
