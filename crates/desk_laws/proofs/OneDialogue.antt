-- The same lines have the same replies, and lead to the same models.
use Rattle.std.proofs.Common.{◌≡◌, ◌∙◌, ℕ, true, List, [], ◌∷◌, length, map, codes, inl, inr, None, Some, ap, sym, subst}
use Rattle.std.specs.List.{AllZip}
use Rattle.std.proofs.lemmas.List.{ext_get_or}
use Rattle.residue_theory.specs.Residues.{IsPrime}
use Rattle.residue_theory.proofs.SumLaws.{nat_cases}
use Rattle.refusals.specs.declared.Why.{Why}
use Rattle.line_lexer.specs.Tokens.{is_clean, words_of}
use Rattle.mixed_matrices.specs.StructuralRanks.{IsStructuralRank}
use Rattle.mixed_model.specs.Models.{MixedModel, empty_model, mixed_matrix_of}
use Rattle.model_edits.specs.Edits.{IsEditOf}
use Rattle.edit_desk.specs.Desks.{IsToldOfModel, IsAsked, IsChangedBy, IsReplaced, IsReply, NamesModel, desk_rule, empty_models, model_at}
use Rattle.edit_desk.specs.Dialogues.{IsDialogue, IsSameReply, Turn}
use Rattle.edit_desk.specs.declared.reply.Reply.{Reply}
use Rattle.edit_desk.specs.declared.reply.Reply.TheVariants.{Changed, Nothing, Parts, Refused}
use Rattle.ccf_builder.specs.declared.canonical.Parts.{Parts as Told}
use Rattle.desk_laws.specs.Laws.{LinesHaveOneDialogue}
use Rattle.desk_laws.proofs.Named.{IsOneName, name-one, named-some, word-free}
use Rattle.desk_laws.proofs.OneEdit.{edit-one}
use Rattle.desk_laws.proofs.OneTold.{rank-one, told-one}

replaced-one : (old a b : List MixedModel) (k : ℕ) (model : MixedModel) → IsReplaced old a k model → IsReplaced old b k model → b ≡ a
replaced-one old a b k model one two = ext_get_or empty_model b a (two.count ∙ sym one.count)
    (λ i il. elim (nat_cases i k) [
      | inl is ↦ ap (model_at b) is ∙ two.here ∙ sym one.here ∙ ap (model_at a) (sym is)
      | inr other ↦ two.others i other ∙ sym (one.others i other)
    ])

module _ (p : ℕ) (prime : IsPrime p) (old a b : List MixedModel) (line : List ℕ) where
  changed-one : (rank other : ℕ) → IsChangedBy p old line a rank → IsChangedBy p old line b other → (other ≡ rank) × (b ≡ a)
  changed-one rank other one two =
      let name : IsOneName one.model two.model one.word two.word one.words two.words =
      name-one (length old) line one.model two.model one.word two.word one.words two.words one.names two.names in
      let edit : IsEditOf p one.word one.words (model_at old one.model) two.changed =
      subst (λ word. IsEditOf p word one.words (model_at old one.model) two.changed) name.word_is
      (subst (λ words. IsEditOf p two.word words (model_at old one.model) two.changed) name.words_are
      (subst (λ k. IsEditOf p two.word two.words (model_at old k) two.changed) name.model two.edited.edit)) in
      let same : two.changed ≡ one.changed =
      edit-one p (model_at old one.model) one.changed two.changed one.edited.is_model two.edited.is_model one.word one.words one.edited.edit
      edit in (
        rank-one p (mixed_matrix_of one.changed) rank other one.edited.rank_is
            (subst (λ m. IsStructuralRank p (mixed_matrix_of m) other) same two.edited.rank_is),
        replaced-one old a b one.model one.changed one.replaced
            (subst (λ k. IsReplaced old b k one.changed) name.model (subst (λ m. IsReplaced old b two.model m) same two.replaced)),
      )

  asked-one : (rank other : ℕ) (parts others : Told) → IsAsked p old line rank parts → IsAsked p old line other others →
      IsSameReply (Parts rank parts) (Parts other others)
  asked-one rank other parts others one two =
      let name : IsOneName one.model two.model (codes "ask") (codes "ask") [] [] =
      name-one (length old) line one.model two.model (codes "ask") (codes "ask") [] [] one.names two.names in
      told-one p (model_at old one.model) rank other parts others prime one.told
      (subst (λ k. IsToldOfModel p (model_at old k) other others) name.model two.told)

  -- a line without a word is no command
  free-refused : (why : Why) → is_clean line ≡ true → words_of line ≡ [] → desk_rule p old line ≡ Some why → ⊥
  free-refused why clean none rule = let kept : desk_rule p old line ≡ None = word-free p old line clean none in absurd cc

  free-named : (k : ℕ) (word : List ℕ) (words : List (List ℕ)) → words_of line ≡ [] → NamesModel (length old) line k word words → ⊥
  free-named k word words none names = named-some (words_of line) word names.number words none names.words_are

  kept-refused : (why : Why) → desk_rule p old line ≡ None → desk_rule p old line ≡ Some why → ⊥
  kept-refused why kept rule = absurd cc

  -- an edit has more words than a question
  asked-changed : (new : List MixedModel) (rank other : ℕ) (parts : Told) → IsAsked p old line rank parts → IsChangedBy p old line new other → ⊥
  asked-changed new rank other parts asked changed =
      let name : IsOneName asked.model changed.model (codes "ask") changed.word [] changed.words =
      name-one (length old) line asked.model changed.model (codes "ask") changed.word [] changed.words asked.names changed.names in
      subst (λ words. IsEditOf p changed.word words (model_at old changed.model) changed.changed) name.words_are changed.edited.edit

  reply-one : (reply other : Reply) → IsReply p old line a reply → IsReply p old line b other → IsSameReply reply other × (b ≡ a)
  reply-one Nothing Nothing (clean, none, kept) (clear, empty, held) = (tt, held ∙ sym kept)
  reply-one Nothing (Refused why) (clean, none, kept) (rule, held) = absurd (free-refused why clean none rule)
  reply-one Nothing (Changed rank) (clean, none, kept) changed = absurd (free-named changed.model changed.word changed.words none changed.names)
  reply-one Nothing (Parts rank parts) (clean, none, kept) (asked, held) = absurd (free-named asked.model (codes "ask") [] none asked.names)
  reply-one (Refused why) Nothing (rule, kept) (clean, none, held) = absurd (free-refused why clean none rule)
  reply-one (Refused why) (Refused other) (rule, kept) (broken, held) = (cc, held ∙ sym kept)
  reply-one (Refused why) (Changed rank) (rule, kept) changed = absurd (kept-refused why changed.kept rule)
  reply-one (Refused why) (Parts rank parts) (rule, kept) (asked, held) = absurd (kept-refused why asked.kept rule)
  reply-one (Changed rank) Nothing changed (clean, none, held) = absurd (free-named changed.model changed.word changed.words none changed.names)
  reply-one (Changed rank) (Refused why) changed (rule, held) = absurd (kept-refused why changed.kept rule)
  reply-one (Changed rank) (Changed other) changed edited = changed-one rank other changed edited
  reply-one (Changed rank) (Parts other parts) changed (asked, held) = absurd (asked-changed a other rank parts asked changed)
  reply-one (Parts rank parts) Nothing (asked, kept) (clean, none, held) = absurd (free-named asked.model (codes "ask") [] none asked.names)
  reply-one (Parts rank parts) (Refused why) (asked, kept) (rule, held) = absurd (kept-refused why asked.kept rule)
  reply-one (Parts rank parts) (Changed other) (asked, kept) changed = absurd (asked-changed b rank other parts asked changed)
  reply-one (Parts rank parts) (Parts other others) (asked, kept) (question, held) = (asked-one rank other parts others asked question, held ∙ sym kept)

abbrev AreReplied : List Turn → List Turn → Type 0
AreReplied turns others = AllZip (λ (turn : Turn) (other : Turn). IsSameReply turn.reply other.reply) turns others

module _ (p : ℕ) (prime : IsPrime p) where
  pub turns-one : (turns others : List Turn) (first last end : List MixedModel) →
      map (λ (turn : Turn). turn.line) others ≡ map (λ (turn : Turn). turn.line) turns →
      IsDialogue p first turns last → IsDialogue p first others end → AreReplied turns others × (end ≡ last)
  turns-one [] [] first last end lines one two = (tt, two ∙ sym one)
  turns-one [] (other ∷ others) first last end lines one two = absurd cc
  turns-one (turn ∷ turns) [] first last end lines one two = absurd cc
  turns-one (turn ∷ turns) (other ∷ others) first last end lines (next, reply, rest) (then, answer, more) =
      let line : other.line ≡ turn.line = cc in
      let here = reply-one p prime first next then turn.line turn.reply other.reply reply
      (subst (λ text. IsReply p first text then other.reply) line answer) in
      let lines_later : map (λ (turn : Turn). turn.line) others ≡ map (λ (turn : Turn). turn.line) turns = cc in
      let later = turns-one turns others next last end lines_later rest (subst (λ models. IsDialogue p models others end) here.1 more) in
      ((here.0, later.0), later.1)

pub lines-one : LinesHaveOneDialogue
lines-one p count turns others models other_models prime lines one two =
    turns-one p prime turns others (empty_models count) models other_models lines one two
