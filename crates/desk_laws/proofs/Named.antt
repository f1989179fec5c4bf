-- Which model a line names, and what the rule of a line depends on.
use Rattle.std.proofs.Common.{◌≡◌, ◌∙◌, ℕ, cond, true, List, [], ◌∷◌, length, Option, None, Some, unwrap_or, refl, ap, sym}
use Rattle.std.proofs.Common.{eqb-true}
use Rattle.std.specs.Option.{option_or}
use Rattle.refusals.specs.declared.Why.{Why}
use Rattle.refusals.specs.declared.Why.TheVariants.{BadByte}
use Rattle.line_lexer.specs.Tokens.{is_clean, words_of}
use Rattle.mixed_model.specs.Models.{MixedModel}
use Rattle.model_edits.specs.Commands.{edit_rule, front_rule, line_front_rule, model_named}
use Rattle.edit_desk.specs.Desks.{NamesModel, behind_rule, desk_rule, model_at}
use Rattle.edit_desk.specs.Dialogues.{is_number, model_in}

pub naming : (count : ℕ) (line : List ℕ) (k : ℕ) (word : List ℕ) (words : List (List ℕ)) →
    NamesModel count line k word words → model_in count (words_of line) ≡ Some k
naming count line k word words names = ap (model_in count) names.words_are ∙ names.named

-- the words of a line are one list
pub record IsOneName (k l : ℕ) (word other : List ℕ) (words others : List (List ℕ)) : Type 0 where
  pub model : l ≡ k
  pub word_is : other ≡ word
  pub words_are : others ≡ words

words-one : (named : List ℕ → Option ℕ) (line : List (List ℕ)) (k l : ℕ) (word other number digits : List ℕ) (words others : List (List ℕ)) →
    line ≡ word ∷ number ∷ words → line ≡ other ∷ digits ∷ others → named number ≡ Some k → named digits ≡ Some l →
    IsOneName k l word other words others
words-one named line k l word other number digits words others one two first second = record { model = cc; word_is = cc; words_are = cc }

pub name-one : (count : ℕ) (line : List ℕ) (k l : ℕ) (word other : List ℕ) (words others : List (List ℕ)) →
    NamesModel count line k word words → NamesModel count line l other others → IsOneName k l word other words others
name-one count line k l word other words others one two =
    words-one (model_named count) (words_of line) k l word other one.number two.number words others one.words_are two.words_are one.named two.named

module _ (p k : ℕ) (old own : List MixedModel) (long : length own ≡ length old) (same : model_at own k ≡ model_at old k) where
  at-number : (word number : List ℕ) (words : List (List ℕ)) (named : Option ℕ) → model_named (length old) number ≡ named → is_number k named ≡ true →
      behind_rule p own (word ∷ number ∷ words) ≡ behind_rule p old (word ∷ number ∷ words)
  at-number word number words None is test = absurd cc
  at-number word number words (Some l) is test =
      let there : k ≡ l = eqb-true k l test in
      ap (λ n. edit_rule p word (model_at own (unwrap_or (model_named n number) 0)) words) long
      ∙ ap (λ o. edit_rule p word (model_at own (unwrap_or o 0)) words) is
      ∙ ap (λ j. edit_rule p word (model_at own j) words) (sym there)
      ∙ ap (λ m. edit_rule p word m words) same
      ∙ ap (λ j. edit_rule p word (model_at old j) words) there
      ∙ ap (λ o. edit_rule p word (model_at old (unwrap_or o 0)) words) (sym is)

  behind-same : (words : List (List ℕ)) → is_number k (model_in (length old) words) ≡ true → behind_rule p own words ≡ behind_rule p old words
  behind-same [] test = refl
  behind-same (word ∷ []) test = refl
  behind-same (word ∷ number ∷ words) test = at-number word number words (model_named (length old) number) refl test

  -- a line that names model k is refused by that model alone
  pub rule-same : (line : List ℕ) → is_number k (model_in (length old) (words_of line)) ≡ true → desk_rule p own line ≡ desk_rule p old line
  rule-same line test =
      ap (λ n. option_or (line_front_rule n line) (behind_rule p own (words_of line))) long
      ∙ ap (λ (rule : Option Why). option_or (line_front_rule (length old) line) rule) (behind-same (words_of line) test)

-- a line without a word is not refused
pub word-free : (p : ℕ) (models : List MixedModel) (line : List ℕ) → is_clean line ≡ true → words_of line ≡ [] → desk_rule p models line ≡ None
word-free p models line clean none =
    ap (λ test. option_or (cond test (front_rule (length models) (words_of line)) (Some BadByte)) (behind_rule p models (words_of line))) clean
    ∙ ap (λ words. option_or (front_rule (length models) words) (behind_rule p models words)) none

pub named-some : (line : List (List ℕ)) (word number : List ℕ) (words : List (List ℕ)) → line ≡ [] → line ≡ word ∷ number ∷ words → ⊥
named-some line word number words none names = absurd cc
