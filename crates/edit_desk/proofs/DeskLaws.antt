-- What a line does on a desk, from what it does to one model.
use Rattle.std.proofs.Common.{◌≡◌, ℕ, zero, suc, ◌+◌, ◌++◌, ◌*◌, ◌<◌, ◌≤◌, List, [], ◌∷◌, length, set, get_or, max}
use Rattle.std.proofs.Common.{Vec, Some, None, Result, Ok, Err, IfOk, OnOk, refl, sym, ap, subst, ◌∙◌, arith, codes, unwrap_or}
use Rattle.std.proofs.Common.{get_or-set_same, get_or-set_other, length-set}
use Rattle.std.specs.Vec.{with_items}
use Rattle.std.proofs.lemmas.List.{get_or-map, length-map, map-append, map-set, set-get_or, with_items_is}
use Rattle.refusals.specs.Faults.{OnBroken}
use Rattle.refusals.specs.declared.Why.{Why}
use Rattle.refusals.specs.declared.fault.Fault.{Fault}
use Rattle.refusals.specs.declared.fault.Fault.TheVariants.{Broken, NoMemory}
use Rattle.line_lexer.specs.Tokens.{words_of}
use Rattle.line_reader.proofs.Rules.{first_broken, first_kept}
use Rattle.mixed_model.specs.Layers.{Layers, layered_matrix_of}
use Rattle.mixed_model.specs.Models.{MixedModel, empty_model, mixed_matrix_of}
use Rattle.mixed_layering.specs.Layers.{AreLayersOf}
use Rattle.mixed_matrices.specs.Layerings.{gives_q, has_symbol}
use Rattle.residue_theory.specs.Sets.{both}
use Rattle.residue_theory.specs.Sums.{size_on}
use Rattle.model_edits.specs.Commands.{edit_rule, line_front_rule, model_named}
use Rattle.edit_desk.specs.Desks.{IsChangedBy, IsEditedTo, IsReplaced, NamesModel, behind_rule, desk_rule, model_at}
use Rattle.edit_desk.specs.Desks.{HasTicked, IsReply, StepsWithin, TellsOfModel, empty_models}
use Rattle.model_edits.proofs.OrderLaws.{named-below}
use Rattle.model_edits.specs.Orders.{IsSaidOrder, edit_word, task_words, words_behind}
use Rattle.model_edits.specs.declared.order.Edit.{Edit}
use Rattle.model_edits.specs.declared.order.Order.{Order}
use Rattle.model_edits.specs.declared.order.Task.{Task}
use Rattle.model_edits.specs.declared.order.Task.TheVariants.{Ask, Change}
use Rattle.edit_desk.specs.Answers.{HasChangedAt, models_of}
use Rattle.edit_desk.specs.declared.reply.Reply.{Reply}
use Rattle.edit_desk.specs.declared.reply.Reply.TheVariants.{Changed, Nothing, Parts as Told, Refused}
use Rattle.edit_desk.specs.Held.{HeldModel}

-- the layered matrices of a model have as many columns
pub one-width : (model : MixedModel) (a b : Layers) → AreLayersOf model a → AreLayersOf model b →
    (layered_matrix_of a).columns ≡ (layered_matrix_of b).columns
one-width model a b on_a on_b = width a on_a ∙ sym (width b on_b)
  where
    width : (l : Layers) → AreLayersOf model l → (layered_matrix_of l).columns ≡ length model.unknowns
        + size_on (both (gives_q (mixed_matrix_of model)) (has_symbol (mixed_matrix_of model))) (length model.equations)
    width l are = are.layered.columns ∙ ap (λ s. length model.unknowns + s) (sym are.layered.auxiliary.count)

module _ (p : ℕ) (old : List MixedModel) (line : List ℕ) (k : ℕ) (word : List ℕ) (words : List (List ℕ))
    (names : NamesModel (length old) line k word words) where
  -- what follows the number is tested on the model of the number
  behind : behind_rule p old (words_of line) ≡ edit_rule p word (model_at old k) words
  behind = ap (behind_rule p old) names.words_are
      ∙ ap (λ o. edit_rule p word (model_at old (unwrap_or o 0)) words) names.named

  pub desk-kept : line_front_rule (length old) line ≡ None → edit_rule p word (model_at old k) words ≡ None → desk_rule p old line ≡ None
  desk-kept front kept = first_kept _ _ front ∙ behind ∙ kept

  pub desk-broken : (why : Why) → line_front_rule (length old) line ≡ None → edit_rule p word (model_at old k) words ≡ Some why →
      desk_rule p old line ≡ Some why
  desk-broken why front broken = first_kept _ _ front ∙ behind ∙ broken

  -- one model is changed
  pub changed-by : (new : List MixedModel) (model : MixedModel) (rank : ℕ) → line_front_rule (length old) line ≡ None →
      k < length old → new ≡ set old k model → IsEditedTo p word words (model_at old k) model rank → IsChangedBy p old line new rank
  changed-by new model rank front kl is edited = record {
    kept = desk-kept front edited.kept;
    model = k;
    word = word;
    words = words;
    names = names;
    changed = model;
    edited = edited;
    replaced = subst (λ (n : List MixedModel). IsReplaced old n k model) (sym is) (record {
      count = length-set old k model;
      here = get_or-set_same old k model empty_model kl;
      others = λ i ne. get_or-set_other old k i model empty_model ne;
    });
  }

-- a line that is refused as far as its number
pub front-broken : (p : ℕ) (old : List MixedModel) (line : List ℕ) (why : Why) → line_front_rule (length old) line ≡ Some why →
    desk_rule p old line ≡ Some why
front-broken p old line why broken = first_broken _ _ why broken

-- one empty model more
pub empty_more : {A : Type 0} (n : ℕ) (held : List (HeldModel A)) (h : HeldModel A) → models_of held ≡ empty_models n →
    h.model ≡ empty_model → models_of (held ++ h ∷ []) ≡ empty_models (n + 1)
empty_more n held h so_far empty =
    map-append (λ (other : HeldModel _). other.model) held (h ∷ [])
    ∙ ap (λ (models : List MixedModel). models ++ h.model ∷ []) so_far
    ∙ ap (λ (model : MixedModel). empty_models n ++ model ∷ []) empty
    ∙ one_more n
  where
    one_more : (n : ℕ) → empty_models n ++ empty_model ∷ [] ≡ empty_models (n + 1)
    one_more zero = refl
    one_more (suc n) =
        let on : suc n + 1 ≡ suc (n + 1) = omega arith in
        ap (λ (models : List MixedModel). empty_model ∷ models) (one_more n) ∙ ap empty_models (sym on)

-- the number of a model that a line names is below their count
pub names-below : (count : ℕ) (line : List ℕ) (order : Order) → IsSaidOrder count line order → order.model < count
names-below count line order is = named-below count order.model is.says.number is.says.named

-- a question names its model
pub asked-names : (count k : ℕ) (line : List ℕ) (what : Task) → IsSaidOrder count line (record { model = k; task = what }) →
    what ≡ Ask → NamesModel count line k (codes "ask") []
asked-names count k line what is ask = record {
  number = is.says.number;
  named = is.says.named;
  words_are = is.says.words_are ∙ ap (λ t. task_words t is.says.number) ask;
}

-- an edit names its model
pub edited-names : (count k : ℕ) (line : List ℕ) (what : Task) (edit : Edit) →
    IsSaidOrder count line (record { model = k; task = what }) → what ≡ Change edit →
    NamesModel count line k (edit_word edit) (words_behind edit)
edited-names count k line what edit is change = record {
  number = is.says.number;
  named = is.says.named;
  words_are = is.says.words_are ∙ ap (λ t. task_words t is.says.number) change;
}

-- a line names one model
pub named-once : (count j k : ℕ) (line : List ℕ) (word other : List ℕ) (words others : List (List ℕ)) →
    NamesModel count line j word words → NamesModel count line k other others → j ≡ k
named-once count j k line word other words others first then =
    let lists = sym first.words_are ∙ then.words_are in
    let numbers = ap second lists in
    let both : Some j ≡ Some k = sym first.named ∙ ap (model_named count) numbers ∙ then.named in
    cc
  where
    second : List (List ℕ) → List ℕ
    second [] = []
    second (a ∷ []) = []
    second (a ∷ b ∷ rest) = b

-- the reply to a question
pub asked-reply : (p : ℕ) (old new : List MixedModel) (line : List ℕ) (k : ℕ) (reply : Reply) →
    line_front_rule (length old) line ≡ None → NamesModel (length old) line k (codes "ask") [] →
    TellsOfModel p (model_at old k) reply → new ≡ old → IsReply p old line new reply
asked-reply p old new line k (Told rank parts) front names told same = (
  record {
    kept = desk-kept p old line k (codes "ask") [] names front refl;
    model = k;
    names = names;
    told = told;
  },
  same,
)
asked-reply p old new line k Nothing front names told same = absurd told
asked-reply p old new line k (Refused why) front names told same = absurd told
asked-reply p old new line k (Changed rank) front names told same = absurd told

-- it costs nothing
pub asked-ticked : (p : ℕ) (old new : List MixedModel) (line : List ℕ) (model : MixedModel) (no_search : Type 0) (steps now : ℕ)
    (reply : Reply) → TellsOfModel p model reply → no_search → now ≡ steps → HasTicked old line new no_search steps now reply
asked-ticked p old new line model no_search steps now (Told rank parts) told none same = (none, same)
asked-ticked p old new line model no_search steps now Nothing told none same = absurd told
asked-ticked p old new line model no_search steps now (Refused why) told none same = absurd told
asked-ticked p old new line model no_search steps now (Changed rank) told none same = absurd told

-- the reply to an edit, and what it costs
module _ (p : ℕ) (old new : List MixedModel) (line : List ℕ) (k : ℕ) (word : List ℕ) (words : List (List ℕ)) (reply : Reply)
    (names : NamesModel (length old) line k word words) (changed : HasChangedAt p word words old k new reply) where
  pub changed-reply : line_front_rule (length old) line ≡ None → k < length old → IsReply p old line new reply
  changed-reply front kl = subst (IsReply p old line new) (sym changed.reply_is)
      (changed-by p old line k word words names new changed.model changed.rank front kl changed.new_is changed.edited)

  pub changed-ticked : (no_search : Type 0) (steps now : ℕ) → StepsWithin old k new steps now →
      HasTicked old line new no_search steps now reply
  changed-ticked no_search steps now within = subst (HasTicked old line new no_search steps now) (sym changed.reply_is)
      (λ j other others named before after on_before on_after.
      let same = named-once (length old) j k line other word others words named names in
      within before after (subst (λ i. AreLayersOf (model_at old i) before) same on_before)
      (subst (λ i. AreLayersOf (model_at new i) after) same on_after))

-- an edit of one of the models that are held
module _ {A : Type 0} (p k : ℕ) (word : List ℕ) (words : List (List ℕ)) (held : List (HeldModel A)) (h now : HeldModel A)
    (kl : k < length held) (here : h ≡ get_or held k h) where
  at-model : model_at (models_of held) k ≡ h.model
  at-model = get_or-map (λ (other : HeldModel A). other.model) held k h empty_model kl
      ∙ ap (λ (other : HeldModel A). other.model) (sym here)

  set-models : models_of (set held k now) ≡ set (models_of held) k now.model
  set-models = map-set (λ (other : HeldModel A). other.model) held k now

  now-model : model_at (models_of (set held k now)) k ≡ now.model
  now-model = ap (λ models. model_at models k) set-models
      ∙ get_or-set_same (models_of held) k now.model empty_model
      (subst (λ n. k < n) (sym (length-map held (λ (other : HeldModel A). other.model))) kl)

  pub edited-at : (rank : ℕ) → IsEditedTo p word words h.model now.model rank →
      HasChangedAt p word words (models_of held) k (models_of (set held k now)) (Changed rank)
  edited-at rank edited = record {
    rank = rank;
    model = now.model;
    reply_is = refl;
    edited = subst (λ m. IsEditedTo p word words m now.model rank) (sym at-model) edited;
    new_is = set-models;
  }

  pub steps-at : (steps later : ℕ) → AreLayersOf h.model h.layers → AreLayersOf now.model now.layers →
      later ≤ steps + 14 * max (layered_matrix_of h.layers).columns (layered_matrix_of now.layers).columns →
      StepsWithin (models_of held) k (models_of (set held k now)) steps later
  steps-at steps later on_old on_now few before after on_before on_after =
      let old_width = one-width h.model before h.layers (subst (λ m. AreLayersOf m before) at-model on_before) on_old in
      let now_width = one-width now.model after now.layers (subst (λ m. AreLayersOf m after) now-model on_after) on_now in
      subst (λ w. later ≤ steps + 14 * max w (layered_matrix_of after).columns) (sym old_width)
      (subst (λ w. later ≤ steps + 14 * max (layered_matrix_of h.layers).columns w) (sym now_width) few)

  pub kept-at : now.model ≡ h.model → models_of (set held k now) ≡ models_of held
  kept-at same = set-models ∙ ap (set (models_of held) k) (same ∙ sym at-model)
      ∙ set-get_or (models_of held) k empty_model

  pub broken-at : (why : Why) → edit_rule p word h.model words ≡ Some why →
      edit_rule p word (model_at (models_of held) k) words ≡ Some why
  broken-at why broken = ap (λ m. edit_rule p word m words) at-model ∙ broken

-- a command on the models that are held
module _ {A : Type 0} (p count : ℕ) (items : List (HeldModel A)) (old : List MixedModel) (line : List ℕ) (order : Order)
    (view : models_of items ≡ old) (counted : count ≡ length items) (front : line_front_rule count line ≡ None)
    (said : IsSaidOrder count line order) where
  lengths : count ≡ length old
  lengths = counted ∙ sym (length-map items (λ (h : HeldModel A). h.model)) ∙ ap (λ (models : List MixedModel). length models) view

  front-old : line_front_rule (length old) line ≡ None
  front-old = subst (λ n. line_front_rule n line ≡ None) lengths front

  said-old : IsSaidOrder (length old) line order
  said-old = subst (λ n. IsSaidOrder n line order) lengths said

  pub model-below : order.model < length items
  model-below = subst (λ n. order.model < n) counted (names-below count line order said)

  below-old : order.model < length old
  below-old = subst (λ n. order.model < n) lengths (names-below count line order said)

  pub asked : (reply : Reply) → order.task ≡ Ask → TellsOfModel p (model_at (models_of items) order.model) reply →
      IsReply p old line old reply
  asked reply ask told = asked-reply p old old line order.model reply front-old
      (asked-names (length old) order.model line order.task said-old ask)
      (subst (λ (models : List MixedModel). TellsOfModel p (model_at models order.model) reply) view told) refl

  module _ (edit : Edit) (change : order.task ≡ Change edit) where
    names-old : NamesModel (length old) line order.model (edit_word edit) (words_behind edit)
    names-old = edited-names (length old) order.model line order.task edit said-old change

    pub changed : (now : List (HeldModel A)) (new : List MixedModel) (reply : Reply) → new ≡ models_of now →
        HasChangedAt p (edit_word edit) (words_behind edit) (models_of items) order.model (models_of now) reply →
        IsReply p old line new reply
    changed now new reply new_is at = changed-reply p old new line order.model (edit_word edit) (words_behind edit) reply names-old
        (subst (λ (models : List MixedModel). HasChangedAt p (edit_word edit) (words_behind edit) models order.model new reply) view
        (subst (λ (models : List MixedModel). HasChangedAt p (edit_word edit) (words_behind edit) (models_of items) order.model models reply)
        (sym new_is) at)) front-old below-old

    pub ticked : (now : List (HeldModel A)) (new : List MixedModel) (reply : Reply) (no_search : Type 0) (steps later : ℕ) →
        new ≡ models_of now → StepsWithin (models_of items) order.model (models_of now) steps later →
        HasChangedAt p (edit_word edit) (words_behind edit) (models_of items) order.model (models_of now) reply →
        HasTicked old line new no_search steps later reply
    ticked now new reply no_search steps later new_is within at =
        changed-ticked p old new line order.model (edit_word edit) (words_behind edit) reply names-old
        (subst (λ (models : List MixedModel). HasChangedAt p (edit_word edit) (words_behind edit) models order.model new reply) view
        (subst (λ (models : List MixedModel). HasChangedAt p (edit_word edit) (words_behind edit) (models_of items) order.model models reply)
        (sym new_is) at)) no_search steps later
        (subst (λ (models : List MixedModel). StepsWithin models order.model new steps later) view
        (subst (λ (models : List MixedModel). StepsWithin (models_of items) order.model models steps later) (sym new_is) within))

    pub refused : (why : Why) →
        edit_rule p (edit_word edit) (model_at (models_of items) order.model) (words_behind edit) ≡ Some why →
        desk_rule p old line ≡ Some why
    refused why broken = desk-broken p old line order.model (edit_word edit) (words_behind edit) names-old why front-old
        (subst (λ (models : List MixedModel). edit_rule p (edit_word edit) (model_at models order.model) (words_behind edit) ≡ Some why)
        view broken)

-- a line that is refused as far as its number, where so many models are held
pub front-refused : {A : Type 0} (p count : ℕ) (items : List (HeldModel A)) (old : List MixedModel) (line : List ℕ) (why : Why) →
    models_of items ≡ old → count ≡ length items → line_front_rule count line ≡ Some why → desk_rule p old line ≡ Some why
front-refused p count items old line why view counted broken = front-broken p old line why
    (subst (λ n. line_front_rule n line ≡ Some why)
    (counted ∙ sym (length-map items (λ (h : HeldModel _). h.model)) ∙ ap (λ (models : List MixedModel). length models) view) broken)

-- the models of a vector that was written: as many as before
pub written-models : {A Z : Type 0} (v : Vec (HeldModel A) Z) (now : List (HeldModel A)) (p k : ℕ) (word : List ℕ)
    (words : List (List ℕ)) (reply : Reply) (before : List (HeldModel A)) → before ≡ v.items → length v.items ≡ v.len →
    HasChangedAt p word words (models_of before) k (models_of now) reply → models_of (with_items v now).items ≡ models_of now
written-models v now p k word words reply before same ok at =
    ap (λ (items : List (HeldModel _)). models_of items) (with_items_is v now
    (sym (length-map now (λ (h : HeldModel _). h.model))
    ∙ ap (λ (models : List MixedModel). length models) at.new_is
    ∙ length-set (models_of before) k at.model
    ∙ length-map before (λ (h : HeldModel _). h.model)
    ∙ ap (λ (items : List (HeldModel _)). length items) same
    ∙ ok))

-- a broken rule that stands for another one
pub on_broken : (fault : Fault) (P Q : Why → Type 0) → ((why : Why) → P why → Q why) → OnBroken fault P → OnBroken fault Q
on_broken (Broken why) P Q f h = f why h
on_broken NoMemory P Q f h = h

-- two facts of a value that is there
pub if-ok-both : {T E : Type 0} (r : Result T E) (P Q : T → Type 0) (R : Type 0) → ((x : T) → P x → R → Q x) → IfOk r P → OnOk r R → IfOk r Q
if-ok-both (Ok x) P Q R f p q = f x p q
if-ok-both (Err e) P Q R f p q = tt
