-- What a desk prints of lines is one text.
use Rattle.std.proofs.Common.{◌≡◌, ◌∙◌, ℕ, List, [], ◌∷◌, ◌++◌, length, codes, ap, sym, subst, refl}
use Rattle.residue_theory.specs.Residues.{IsPrime}
use Rattle.line_lexer.specs.Lines.{lines_of}
use Rattle.ccf_builder.specs.declared.canonical.Parts.{Parts as Told}
use Rattle.mixed_layering.specs.Layers.{AreLayersOf}
use Rattle.mixed_model.specs.Layers.{Layers, layered_matrix_of}
use Rattle.mixed_model.specs.Models.{MixedModel}
use Rattle.edit_desk.specs.Desks.{IsAsked, IsReply, NamesModel, desk_limit, empty_models, model_at}
use Rattle.edit_desk.specs.Dialogues.{IsSameReply, Turn}
use Rattle.edit_desk.specs.declared.reply.Reply.{Reply}
use Rattle.edit_desk.specs.declared.reply.Reply.TheVariants.{Changed, Nothing, Parts, Refused}
use Rattle.edit_desk.proofs.DeskLaws.{one-width}
use Rattle.desk_laws.proofs.Named.{name-one}
use Rattle.desk_laws.proofs.OneDialogue.{turns-one}
use Rattle.desk_texts.specs.Said.{IsReplyText, IsSaid}
use Rattle.desk_texts.specs.Texts.{number_line, refused_line, reply_parts_text}
use Rattle.desk_text_laws.specs.Laws.{TextsHaveOneAnswer}
use Rattle.desk_text_laws.proofs.ListedColumns.{HasColumnsBelow, listed-below}
use Rattle.desk_text_laws.proofs.OneNames.{parts-one, told_text}

-- parts that say the same have one text
same-said : (model : MixedModel) (layers : Layers) (rank other : ℕ) (parts others : Told) → IsSameReply (Parts rank parts) (Parts other others) →
    reply_parts_text model layers other others ≡ reply_parts_text model layers rank parts
same-said model layers rank other parts others (number, first, blocks, last) =
    ap (λ r. told_text model layers r others.first others.blocks.items others.last) number
    ∙ ap (λ columns. told_text model layers rank columns others.blocks.items others.last) first
    ∙ ap (λ items. told_text model layers rank parts.first items others.last) blocks
    ∙ ap (λ columns. told_text model layers rank parts.first parts.blocks.items columns) last

module _ (p : ℕ) (models : List MixedModel) (line : List ℕ) where
  asked-one : (rank other : ℕ) (parts others : Told) (text his : List ℕ) → IsAsked p models line rank parts →
      IsSameReply (Parts rank parts) (Parts other others) → IsReplyText models line (Parts rank parts) text →
      IsReplyText models line (Parts other others) his → his ≡ text
  asked-one rank other parts others text his asked same (k, layers, names, are, is) (l, layered, named, them, so) =
      let model : MixedModel = model_at models asked.model in
      let here : k ≡ asked.model = at k names in
      let there : l ≡ asked.model = at l named in
      let own : AreLayersOf model layers = subst (λ m. AreLayersOf (model_at models m) layers) here are in
      let their : AreLayersOf model layered = subst (λ m. AreLayersOf (model_at models m) layered) there them in
      let told = asked.told in
      let width : told.layers.q.width ≡ layers.q.width = one-width model told.layers layers told.layered own in
      let below : HasColumnsBelow layers.q.width parts =
      subst (λ n. HasColumnsBelow n parts) width (listed-below p (layered_matrix_of told.layers) parts told.parts_are) in
      so ∙ ap (λ m. reply_parts_text (model_at models m) layered other others) there ∙ same-said model layered rank other parts others same
      ∙ parts-one model layers layered own their rank parts below
      ∙ ap (λ m. reply_parts_text (model_at models m) layers rank parts) (sym here) ∙ sym is
    where
      at : (k : ℕ) → NamesModel (length models) line k (codes "ask") [] → k ≡ asked.model
      at k names = (name-one (length models) line asked.model k (codes "ask") (codes "ask") [] [] asked.names names).model

  -- replies that say the same print the same
  text-one : (next : List MixedModel) (reply answer : Reply) (text his : List ℕ) → IsReply p models line next reply → IsSameReply reply answer →
      IsReplyText next line reply text → IsReplyText next line answer his → his ≡ text
  text-one next Nothing Nothing text his replies same one two = two ∙ sym one
  text-one next (Refused why) (Refused other) text his replies same one two = two ∙ ap refused_line same ∙ sym one
  text-one next (Changed rank) (Changed other) text his replies same one two = two ∙ ap (number_line (codes "changed")) same ∙ sym one
  text-one next (Parts rank parts) (Parts other others) text his (asked, kept) same one two =
      asked-one rank other parts others text his asked same (subst (λ m. IsReplyText m line (Parts rank parts) text) kept one)
      (subst (λ m. IsReplyText m line (Parts other others) his) kept two)
  text-one next reply answer text his replies same one two = absurd same

-- the reply to one line is a dialogue of one turn
reply-one : (p : ℕ) → IsPrime p → (models next then : List MixedModel) (line : List ℕ) (reply answer : Reply) →
    IsReply p models line next reply → IsReply p models line then answer → IsSameReply reply answer × (then ≡ next)
reply-one p prime models next then line reply answer one two =
    let turn : Turn = record { line = line; reply = reply } in
    let other : Turn = record { line = line; reply = answer } in
    let both = turns-one p prime (turn ∷ []) (other ∷ []) models next then refl (next, one, refl) (then, two, refl) in
    (both.0.0, both.1)

said-one : (p : ℕ) → IsPrime p → (lines : List (List ℕ)) (models : List MixedModel) (text other : List ℕ) →
    IsSaid p models lines text → IsSaid p models lines other → other ≡ text
said-one p prime [] models text other one two = two ∙ sym one
said-one p prime (line ∷ lines) models text other (next, reply, own, rest, replies, says, later, is) (then, answer, his, more, answers, tells, after, so) =
    let both = reply-one p prime models next then line reply answer replies answers in
    let here : his ≡ own =
    text-one p models line next reply answer own his replies both.0 says (subst (λ m. IsReplyText m line answer his) both.1 tells) in
    let there : more ≡ rest = said-one p prime lines next rest more later (subst (λ m. IsSaid p m lines more) both.1 after) in
    so ∙ ap (λ first. first ++ more) here ∙ ap (λ last. own ++ last) there ∙ sym is

pub one-answer : TextsHaveOneAnswer
one-answer p input text other prime one two = said-one p prime (lines_of input) (empty_models desk_limit) text other one two
