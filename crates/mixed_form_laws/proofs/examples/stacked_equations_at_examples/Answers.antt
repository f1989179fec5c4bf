use Rattle.std.proofs.Common.{◌≡◌, ℕ, refl, arith}
use Rattle.mixed_form_laws.proofs.StackedExample.{first-minimiser, second-no_minimiser, stacked-canonical, stacked-form}
use Rattle.mixed_form_laws.proofs.StackedExample.{stacked-is_tableau, stacked-layered, stacked-rank, stacked-rules_kept}
use Rattle.mixed_form_laws.proofs.examples.stacked_equations_at_examples.Goals as goal

pub returns-clause-layered : goal.returns-clause-layered
returns-clause-layered c = stacked-layered

pub returns-clause-rank : goal.returns-clause-rank
returns-clause-rank c = stacked-rank

pub returns-clause-transformed_by : goal.returns-clause-transformed_by
returns-clause-transformed_by c = stacked-is_tableau

pub returns-clause-form : goal.returns-clause-form
returns-clause-form c = stacked-form

pub returns-clause-no_form : goal.returns-clause-no_form
returns-clause-no_form c form = never 1 refl ((form.1.empty 2 1 (omega arith)).q 1 0 (omega arith) (omega arith) refl refl)
  where
    never : (x : ℕ) → x ≡ 1 → x ≡ 0 → ⊥
    never x a b = omega arith

pub returns-clause-canonical : goal.returns-clause-canonical
returns-clause-canonical c = stacked-canonical

pub returns-clause-kept : goal.returns-clause-kept
returns-clause-kept c = stacked-rules_kept

pub returns-clause-minimiser : goal.returns-clause-minimiser
returns-clause-minimiser c = first-minimiser

pub returns-clause-no_minimiser : goal.returns-clause-no_minimiser
returns-clause-no_minimiser c = second-no_minimiser
