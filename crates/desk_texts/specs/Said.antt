-- What a desk prints of the lines that it is told.
use Rattle.std.specs.Prelude.{ℕ, ◌≡◌, ◌∷◌, ◌++◌, List, [], codes, length}
use Rattle.line_lexer.specs.Lines.{lines_of}
use Rattle.mixed_layering.specs.Layers.{AreLayersOf}
use Rattle.mixed_model.specs.Layers.{Layers}
use Rattle.mixed_model.specs.Models.{MixedModel}
use Rattle.edit_desk.specs.Desks.{IsReply, NamesModel, desk_limit, empty_models, model_at}
use Rattle.edit_desk.specs.declared.reply.Reply.{Reply}
use Rattle.edit_desk.specs.declared.reply.Reply.TheVariants.{Changed, Nothing, Parts, Refused}
use Rattle.desk_texts.specs.Texts.{number_line, reply_parts_text, refused_line}

-- the text of a reply to a line, where the models are these: the columns of a model have their names
abbrev pub IsReplyText : List MixedModel → List ℕ → Reply → List ℕ → Type 0
IsReplyText models line Nothing text = text ≡ []
IsReplyText models line (Refused why) text = text ≡ refused_line why
IsReplyText models line (Changed rank) text = text ≡ number_line (codes "changed") rank
IsReplyText models line (Parts rank parts) text =
    (k : ℕ) × (layers : Layers) × NamesModel (length models) line k (codes "ask") []
    × AreLayersOf (model_at models k) layers × (text ≡ reply_parts_text (model_at models k) layers rank parts)

-- where the models are these, the replies to some lines have this text together
abbrev pub IsSaid : ℕ → List MixedModel → List (List ℕ) → List ℕ → Type 0
IsSaid p models [] text = text ≡ []
IsSaid p models (line ∷ lines) text =
    (next : List MixedModel) × (reply : Reply) × (own : List ℕ) × (rest : List ℕ) × IsReply p models line next reply
    × IsReplyText next line reply own × IsSaid p next lines rest × (text ≡ own ++ rest)

-- What a desk of empty models prints of a text, line by line.
abbrev pub IsSaidOf : ℕ → List ℕ → List ℕ → Type 0
IsSaidOf p input text = IsSaid p (empty_models desk_limit) (lines_of input) text
