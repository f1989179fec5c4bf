-- An equation that is added: its rule, and what it leaves.
use Rattle.std.proofs.Common.{◌≡◌, ◌<◌, ◌∙◌, ◌∷◌, ℕ, List, [], codes, length, Option, Some, None, Err, refl, sym, ap, subst, arith}
use Rattle.std.specs.Option.{option_or}
use Rattle.std.proofs.lemmas.List.{get_or_append_left}
use Rattle.refusals.specs.declared.Why.{Why}
use Rattle.refusals.specs.Faults.{OnBroken}
use Rattle.refusals.specs.declared.fault.Fault.{Fault}
use Rattle.refusals.specs.declared.fault.Fault.TheVariants.{Broken, NoMemory}
use Rattle.line_reader.specs.Answers.{AnswersRule}
use Rattle.mixed_model.specs.Models.{IsModel, MixedModel, row_of, with_equation}
use Rattle.mixed_model.specs.Rows.{constant_in, symbol_in}
use Rattle.matrix_reader.specs.Rules.{name_rule, new_equation_rule}
use Rattle.model_edits.specs.Commands.{edit_rule, items_rule}
use Rattle.model_edits.specs.Edits.{HasEquationMore}
use Rattle.model_edits.specs.Marks.{SaysItems}

-- what its items say stands in it, and nothing else is changed
pub AddsEquation-from : (p : ℕ) (old more new : MixedModel) (name : List ℕ) (i : ℕ) (items : List (List ℕ)) → IsModel p old →
    more ≡ with_equation old name → i ≡ length old.equations → SaysItems p more new i items → HasEquationMore p old new name items
AddsEquation-from p old more new name i items is put last says =
    from (subst (λ m. SaysItems p m new (length old.equations) items) put (subst (λ k. SaysItems p more new k items) last says))
  where
    here : (k : ℕ) → k < length old.equations → row_of (with_equation old name) k ≡ row_of old k
    here k below = get_or_append_left old.rows ([] ∷ []) [] k (omega (arith, is.one_row_each, below))

    from : SaysItems p (with_equation old name) new (length old.equations) items → HasEquationMore p old new name items
    from says = record {
      equations = says.equations;
      unknowns = says.unknowns;
      kept_constants = λ k j below. says.edited.constants k j (λ same. omega (arith, below, same)) ∙ ap (λ row. constant_in row j) (here k below);
      kept_symbols = λ k j below. says.edited.symbols k j (λ same. omega (arith, below, same)) ∙ ap (λ row. symbol_in row j) (here k below);
      constants = says.constants;
      symbols = says.symbols;
    }

-- three rules of which the first two are kept, as one
both_kept : (first second third : Option Why) → option_or first second ≡ None → option_or first (option_or second third) ≡ third
both_kept None second third kept = rw kept refl
both_kept (Some why) second third kept = let f : ⊥ = cc in absurd f

module _ (p : ℕ) (old more : MixedModel) (name : List ℕ) (items : List (List ℕ)) where
  -- the equation keeps its rule where it is added, and then its items have the last word
  by_items : more ≡ with_equation old name → option_or (name_rule name) (new_equation_rule old.equations name) ≡ None →
      edit_rule p (codes "add") old (name ∷ items) ≡ items_rule p more items
  by_items put kept =
      both_kept (name_rule name) (new_equation_rule old.equations name) (items_rule p old items) kept
      ∙ sym (ap (λ (m : MixedModel). items_rule p m items) put)

  pub adding_kept : more ≡ with_equation old name → option_or (name_rule name) (new_equation_rule old.equations name) ≡ None →
      items_rule p more items ≡ None → edit_rule p (codes "add") old (name ∷ items) ≡ None
  adding_kept put kept all = by_items put kept ∙ all

  pub adding_broken : (fault : Fault) (Left : Type 0) → more ≡ with_equation old name →
      option_or (name_rule name) (new_equation_rule old.equations name) ≡ None → AnswersRule (items_rule p more items) Left (Err fault) →
      OnBroken fault (λ why. edit_rule p (codes "add") old (name ∷ items) ≡ Some why)
  adding_broken (Broken why) Left put kept broken = by_items put kept ∙ broken
  adding_broken NoMemory Left put kept broken = tt
