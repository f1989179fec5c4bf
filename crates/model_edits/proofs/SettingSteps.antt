-- A place that is set: its rule, and what it leaves.
use Rattle.std.proofs.Common.{◌≡◌, ◌⊎◌, ◌∙◌, ◌∷◌, ℕ, Bool, true, false, cond, List, [], inl, inr, codes, position}
use Rattle.std.proofs.Common.{Option, Some, None, Ok, Err, refl, sym, ap, subst}
use Rattle.std.specs.Option.{option_or}
use Rattle.std.specs.Str.{bytes_eq}
use Rattle.refusals.specs.declared.Why.TheVariants.{TooMany, Undeclared}
use Rattle.refusals.specs.declared.fault.Fault.{Fault}
use Rattle.refusals.specs.declared.fault.Fault.TheVariants.{Broken, NoMemory}
use Rattle.refusals.specs.Faults.{OnBroken}
use Rattle.line_lexer.specs.Names.{is_name}
use Rattle.line_reader.proofs.Rules.{first_kept}
use Rattle.mixed_model.specs.declared.errors.AddError.{AddError}
use Rattle.mixed_model.specs.declared.errors.AddError.TheVariants as refusal
use Rattle.mixed_model.specs.Faults.{fault_of}
use Rattle.mixed_model.specs.Models.{MixedModel}
use Rattle.mixed_model.specs.Names.{has_name, seeing}
use Rattle.matrix_reader.specs.Items.{SaysItem, item_constant, item_symbol, unknown_of, unless_zero}
use Rattle.matrix_reader.specs.Rules.{room_rule, term_rule}
use Rattle.model_edits.specs.Commands.{edit_rule, there_rule}
use Rattle.model_edits.specs.Edits.{SetsItem, SetsPlaceOf}
use Rattle.model_edits.proofs.SeenLaws.{IsSeen-from, no_room}

-- a name that is there, and one that is not
pub there : (names : List (List ℕ)) (name : List ℕ) → is_name name ≡ true → has_name names name ≡ true → there_rule names name ≡ None
there names name named found = rw (named, found) refl

pub not_there : (names : List (List ℕ)) (name : List ℕ) → is_name name ≡ true → has_name names name ≡ false →
    there_rule names name ≡ Some Undeclared
not_there names name named absent = rw (named, absent) refl

-- an item that is set alone
pub set_kept : (p : ℕ) (model : MixedModel) (name item : List ℕ) (j : ℕ) → there_rule model.equations name ≡ None →
    term_rule p item ≡ None → seeing model.unknowns (unknown_of item) ≡ Ok j → edit_rule p (codes "set") model (name ∷ item ∷ []) ≡ None
set_kept p model name item j here term answer =
    let seen = IsSeen-from model.unknowns (unknown_of item) j answer in
    let room : room_rule model.unknowns (unknown_of item) ≡ None = ap (λ b. cond b None (Some TooMany)) seen.room in
    first_kept (there_rule model.equations name) _ here
    ∙ ap (λ o. option_or o None) (first_kept (term_rule p item) _ term ∙ room)

pub set_broken : (p : ℕ) (model : MixedModel) (name item : List ℕ) (error : AddError) → there_rule model.equations name ≡ None →
    term_rule p item ≡ None → (error ≡ refusal.NoMemory) ⊎ (seeing model.unknowns (unknown_of item) ≡ Err error) →
    OnBroken (fault_of error) (λ why. edit_rule p (codes "set") model (name ∷ item ∷ []) ≡ Some why)
set_broken p model name item error here term (inl out) =
    subst (λ e. OnBroken (fault_of e) (λ why. edit_rule p (codes "set") model (name ∷ item ∷ []) ≡ Some why)) (sym out) tt
set_broken p model name item error here term (inr answer) = by (fault_of error) refl
  where
    by : (fault : Fault) → fault_of error ≡ fault → OnBroken fault (λ why. edit_rule p (codes "set") model (name ∷ item ∷ []) ≡ Some why)
    by (Broken why) e =
        first_kept (there_rule model.equations name) _ here
        ∙ ap (λ o. option_or o None) (first_kept (term_rule p item) _ term ∙ no_room model.unknowns (unknown_of item) error why answer e)
    by NoMemory e = tt

pub SetsPlaceOf-from : (p : ℕ) (model other new : MixedModel) (name item unknown : List ℕ) (i : ℕ) (constant : Option ℕ) (symbol : Bool) →
    other ≡ model → position (bytes_eq name) model.equations ≡ Some i → SaysItem p item unknown constant symbol →
    SetsItem other new i unknown constant symbol → SetsPlaceOf p model new name item
SetsPlaceOf-from p model other new name item unknown i constant symbol same found says set = record {
  equation = i;
  found = found;
  set = subst (λ m. SetsItem m new i (unknown_of item) (unless_zero (item_constant p item)) (item_symbol item)) same
      (subst (λ u. SetsItem other new i u (unless_zero (item_constant p item)) (item_symbol item)) says.unknown_is
      (subst (λ c. SetsItem other new i unknown c (item_symbol item)) says.constant_is
      (subst (λ s. SetsItem other new i unknown constant s) says.symbol_is set)));
}
