-- The turns that name one model are a dialogue by themselves, whatever the other models are.
use Rattle.std.proofs.Common.{◌≡◌, ◌∙◌, ◌<◌, ℕ, Bool, true, false, cond, List, [], ◌∷◌, length, codes, set, Some}
use Rattle.std.proofs.Common.{refl, ap, sym, subst, eqb-true, get_or-set_same, get_or-set_other, length-set}
use Rattle.std.proofs.lemmas.Bool.{eqb-false}
use Rattle.std.proofs.lemmas.List.{length-replicate}
use Rattle.line_lexer.specs.Tokens.{words_of}
use Rattle.mixed_model.specs.Models.{MixedModel, empty_model}
use Rattle.model_edits.specs.Commands.{model_named}
use Rattle.edit_desk.specs.Desks.{IsChangedBy, IsEditedTo, IsReply, IsToldOfModel, empty_models, model_at}
use Rattle.edit_desk.specs.Dialogues.{IsDialogue, Turn, is_number, model_in, turns_of}
use Rattle.edit_desk.specs.declared.reply.Reply.{Reply}
use Rattle.edit_desk.specs.declared.reply.Reply.TheVariants.{Changed, Nothing, Parts, Refused}
use Rattle.desk_laws.specs.Laws.{OwnCommandsAreADialogue}
use Rattle.desk_laws.proofs.Named.{naming, rule-same}

pub as-many : (p : ℕ) (old new : List MixedModel) (line : List ℕ) (reply : Reply) → IsReply p old line new reply → length new ≡ length old
as-many p old new line Nothing (clean, none, kept) = ap length kept
as-many p old new line (Refused why) (rule, kept) = ap length kept
as-many p old new line (Changed rank) changed = changed.replaced.count
as-many p old new line (Parts rank parts) (asked, kept) = ap length kept

-- the other models are left
left : (p k : ℕ) (old new : List MixedModel) (line : List ℕ) (reply : Reply) → is_number k (model_in (length old) (words_of line)) ≡ false →
    IsReply p old line new reply → model_at new k ≡ model_at old k
left p k old new line Nothing test (clean, none, kept) = ap (λ models. model_at models k) kept
left p k old new line (Refused why) test (rule, kept) = ap (λ models. model_at models k) kept
left p k old new line (Changed rank) test changed = changed.replaced.others k
    (eqb-false k changed.model (sym (ap (is_number k) (naming (length old) line changed.model changed.word changed.words changed.names)) ∙ test))
left p k old new line (Parts rank parts) test (asked, kept) = ap (λ models. model_at models k) kept

-- what a turn of model k leaves elsewhere
record OwnTurn (p k : ℕ) (own : List MixedModel) (line : List ℕ) (new : List MixedModel) (reply : Reply) : Type 0 where
  next : List MixedModel
  is_reply : IsReply p own line next reply
  long : length next ≡ length own
  same : model_at next k ≡ model_at new k

module _ (p k : ℕ) (old own : List MixedModel) (within : k < length own) (long : length own ≡ length old)
    (same : model_at own k ≡ model_at old k) (line : List ℕ) (test : is_number k (model_in (length old) (words_of line)) ≡ true) where
  names-own : (model : ℕ) → model_in (length old) (words_of line) ≡ Some model → k ≡ model
  names-own model named = eqb-true k model (sym (ap (is_number k) named) ∙ test)

  changed-own : (new : List MixedModel) (rank : ℕ) → IsChangedBy p old line new rank → OwnTurn p k own line new (Changed rank)
  changed-own new rank c =
      let there : k ≡ c.model = names-own c.model (naming (length old) line c.model c.word c.words c.names) in
      let here : model_at old c.model ≡ model_at own k = ap (model_at old) (sym there) ∙ sym same in
      let put : model_at (set own k c.changed) k ≡ c.changed = get_or-set_same own k c.changed empty_model within in
      record {
        next = set own k c.changed;
        is_reply = record {
          kept = rule-same p k old own long same line test ∙ c.kept;
          model = k;
          word = c.word;
          words = c.words;
          names = record {
            number = c.names.number;
            named = ap (λ n. model_named n c.names.number) long ∙ c.names.named ∙ ap Some (sym there);
            words_are = c.names.words_are;
          };
          changed = c.changed;
          edited = subst (λ m. IsEditedTo p c.word c.words m c.changed rank) here c.edited;
          replaced = record {
            count = length-set own k c.changed;
            here = put;
            others = λ i other. get_or-set_other own k i c.changed empty_model other;
          };
        };
        long = length-set own k c.changed;
        same = put ∙ sym (ap (model_at new) there ∙ c.replaced.here);
      }

  own-turn : (new : List MixedModel) (reply : Reply) → IsReply p old line new reply → OwnTurn p k own line new reply
  own-turn new Nothing (clean, none, kept) =
      let no : false ≡ true = sym (ap (λ words. is_number k (model_in (length old) words)) none) ∙ test in absurd cc
  own-turn new (Refused why) (rule, kept) = record {
    next = own;
    is_reply = (rule-same p k old own long same line test ∙ rule, refl);
    long = refl;
    same = same ∙ ap (λ models. model_at models k) (sym kept);
  }
  own-turn new (Changed rank) changed = changed-own new rank changed
  own-turn new (Parts rank parts) (asked, kept) =
      let there : k ≡ asked.model = names-own asked.model (naming (length old) line asked.model (codes "ask") [] asked.names) in
      let here : model_at old asked.model ≡ model_at own k = ap (model_at old) (sym there) ∙ sym same in
      record {
        next = own;
        is_reply = (
          record {
            kept = rule-same p k old own long same line test ∙ asked.kept;
            model = k;
            names = record {
              number = asked.names.number;
              named = ap (λ n. model_named n asked.names.number) long ∙ asked.names.named ∙ ap Some (sym there);
              words_are = asked.names.words_are;
            };
            told = subst (λ m. IsToldOfModel p m rank parts) here asked.told;
          },
          refl,
        );
        long = refl;
        same = same ∙ ap (λ models. model_at models k) (sym kept);
      }

module _ (p count k : ℕ) (few : k < count) where
  -- from these models the turns of model k lead it to where it is at the end
  abbrev Leads : List Turn → List MixedModel → List MixedModel → Type 0
  Leads turns own last = (end : List MixedModel) × IsDialogue p own (turns_of count k turns) end × (model_at end k ≡ model_at last k)

  module _ (turn : Turn) (turns : List Turn) (first own next last : List MixedModel) (long : length first ≡ count) (also : length own ≡ count)
      (same : model_at own k ≡ model_at first k) (reply : IsReply p first turn.line next turn.reply)
      (onward : (models : List MixedModel) → length next ≡ count → length models ≡ count → model_at models k ≡ model_at next k → Leads turns models last) where
    many : length next ≡ count
    many = as-many p first next turn.line turn.reply reply ∙ long

    led : OwnTurn p k own turn.line next turn.reply → (end : List MixedModel) × IsDialogue p own (turn ∷ turns_of count k turns) end
        × (model_at end k ≡ model_at last k)
    led at = let then = onward at.next many (at.long ∙ also) at.same in (then.0, (at.next, at.is_reply, then.1), then.2)

    onto : (test : Bool) → is_number k (model_in count (words_of turn.line)) ≡ test →
        (end : List MixedModel) × IsDialogue p own (cond test (turn ∷ turns_of count k turns) (turns_of count k turns)) end
        × (model_at end k ≡ model_at last k)
    onto true is = led (own-turn p k first own (subst (λ n. k < n) (sym also) few) (also ∙ sym long) same turn.line
        (subst (λ n. is_number k (model_in n (words_of turn.line)) ≡ true) (sym long) is) next turn.reply reply)
    onto false is = onward own many also
        (same ∙ sym (left p k first next turn.line turn.reply (subst (λ n. is_number k (model_in n (words_of turn.line)) ≡ false) (sym long) is) reply))

  pub own-turns : (turns : List Turn) (first own last : List MixedModel) → length first ≡ count → length own ≡ count →
      model_at own k ≡ model_at first k → IsDialogue p first turns last → Leads turns own last
  own-turns [] first own last long also same done = (own, refl, same ∙ ap (λ models. model_at models k) (sym done))
  own-turns (turn ∷ turns) first own last long also same (next, reply, rest) =
      onto turn turns first own next last long also same reply (λ models many more there. own-turns turns next models last many more there rest)
      (is_number k (model_in count (words_of turn.line))) refl

pub own-commands : OwnCommandsAreADialogue
own-commands p count k turns models few dialogue =
    own-turns p count k few turns (empty_models count) (empty_models count) models
    (length-replicate count empty_model) (length-replicate count empty_model) refl dialogue
