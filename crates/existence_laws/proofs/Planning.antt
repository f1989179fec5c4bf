-- Each form has the steps of a plan, and each right one a plan.
use Rattle.std.proofs.Common.{◌≡◌, ◌≢◌, ℕ, ◌⊎◌, Bool, true, false, eqb, List, [], ◌∷◌, map, get_or, inl, inr, refl, ap, sym, subst, ◌∙◌}
use Rattle.std.proofs.lemmas.List.{get_or-map, length-map}
use Rattle.residue_theory.specs.Sets.{has}
use Rattle.residue_theory.proofs.SumLaws.{nat_cases}
use Rattle.residue_theory.proofs.SetLaws.{differ, either_cases, either-first, either-second, eqb_from, eqb_true}
use Rattle.mixed_model.specs.Layers.{Layers}
use Rattle.cert_text.specs.Contents.{Contents}
use Rattle.cert_text.specs.Readings.{matrix_of, pattern_of}
use Rattle.cert_text.specs.declared.part.CcfPart.{CcfPart}
use Rattle.solve_plan.specs.PlanSteps.{AreStepsOf, HasEntryAt, IsStepOf, row_numbers, rows_of_part, solved_parts}
use Rattle.solve_plan.specs.declared.steps.Plan.{Plan}
use Rattle.solve_plan.specs.declared.steps.Step.{Step}
use Rattle.solve_plan.specs.declared.steps.StepPart.{StepPart}
use Rattle.solve_plan.specs.declared.steps.StepRow.{StepRow}
use Rattle.solve_plan.specs.declared.steps.StepRow.TheVariants.{Combined, Symbols}
use Rattle.solve_plan.proofs.PlanLaws.{plan-made}
use Rattle.existence_laws.specs.Telling.{EachRightFormHasAPlan}
use Rattle.existence_laws.proofs.Decided.{IsListed, listed}

-- whether a test holds of an item
some-item : (xs : List ℕ) (t : ℕ → Type 0) → ((i : ℕ) → t i ⊎ (t i → ⊥)) →
    ((i : ℕ) × (has xs i ≡ true) × t i) ⊎ ((i : ℕ) × (has xs i ≡ true) × t i → ⊥)
some-item [] t decide = inr (λ found. differ refl found.1)
some-item (x ∷ xs) t decide = go (decide x) (some-item xs t decide)
  where
    go : t x ⊎ (t x → ⊥) → ((i : ℕ) × (has xs i ≡ true) × t i) ⊎ ((i : ℕ) × (has xs i ≡ true) × t i → ⊥) →
        ((i : ℕ) × (has (x ∷ xs) i ≡ true) × t i) ⊎ ((i : ℕ) × (has (x ∷ xs) i ≡ true) × t i → ⊥)
    go (inl here) rest = inl (x, either-first (eqb x x) (has xs x) (eqb_from x x refl), here)
    go (inr not_here) (inl later) = inl (later.0, either-second (eqb x later.0) (has xs later.0) later.1, later.2)
    go (inr not_here) (inr none) = inr (λ found. elim (either_cases (eqb x found.0) (has xs found.0) found.1) [
      | inl same ↦ not_here (subst t (sym (eqb_true x found.0 same)) found.2)
      | inr later ↦ none (found.0, later, found.2)
    ])

bool-cases : (b : Bool) → (b ≡ true) ⊎ (b ≡ true → ⊥)
bool-cases true = inl refl
bool-cases false = inr (λ h. differ refl h)

not-zero : (n : ℕ) → (n ≢ 0) ⊎ (n ≢ 0 → ⊥)
not-zero n = elim (nat_cases n 0) [ inl same ↦ inr (λ other. other same) | inr other ↦ inl other ]

entry-cases : (c : Contents) (part : CcfPart) (x : ℕ) → HasEntryAt c part x ⊎ (HasEntryAt c part x → ⊥)
entry-cases c part x = go (some-item part.q_rows (λ i. matrix_of c.p i x ≢ 0) (λ i. not-zero (matrix_of c.p i x)))
    (some-item part.t_rows (λ i. pattern_of c.t i x ≡ true) (λ i. bool-cases (pattern_of c.t i x)))
  where
    go : ((i : ℕ) × (has part.q_rows i ≡ true) × (matrix_of c.p i x ≢ 0)) ⊎ ((i : ℕ) × (has part.q_rows i ≡ true) × (matrix_of c.p i x ≢ 0) → ⊥) →
        ((i : ℕ) × (has part.t_rows i ≡ true) × (pattern_of c.t i x ≡ true)) ⊎ ((i : ℕ) × (has part.t_rows i ≡ true) × (pattern_of c.t i x ≡ true) → ⊥) →
        HasEntryAt c part x ⊎ (HasEntryAt c part x → ⊥)
    go (inl number) symbols = inl (inl number)
    go (inr none) (inl symbol) = inl (inr symbol)
    go (inr none) (inr neither) = inr (λ entry. elim entry [ inl number ↦ none number | inr symbol ↦ neither symbol ])

uses-cases : (c : Contents) (part : CcfPart) (x : ℕ) →
    ((has part.columns x ≡ false) × HasEntryAt c part x) ⊎ ((has part.columns x ≡ false) × HasEntryAt c part x → ⊥)
uses-cases c part x = go (has part.columns x) refl (entry-cases c part x)
  where
    go : (b : Bool) → has part.columns x ≡ b → HasEntryAt c part x ⊎ (HasEntryAt c part x → ⊥) →
        ((has part.columns x ≡ false) × HasEntryAt c part x) ⊎ ((has part.columns x ≡ false) × HasEntryAt c part x → ⊥)
    go true is entry = inr (λ both. differ both.0 is)
    go false is (inl entry) = inl (is, entry)
    go false is (inr none) = inr (λ both. none both.1)

-- a row of numbers is its own
pairs-same : (terms : List (ℕ × ℕ)) → map (λ (term : ℕ × ℕ). (term.0, term.1)) terms ≡ terms
pairs-same [] = refl
pairs-same (term ∷ terms) = ap (λ rest. term ∷ rest) (pairs-same terms)

row-same : (row : StepRow ℕ) → row_numbers (λ value. value) row ≡ row
row-same (Combined terms) = ap Combined (pairs-same terms)
row-same (Symbols equation) = refl

rows-same : (rows : List (StepRow ℕ)) → map (row_numbers (λ value. value)) rows ≡ rows
rows-same [] = refl
rows-same (row ∷ rows) = ap (λ first. first ∷ map (row_numbers (λ value. value)) rows) (row-same row) ∙ ap (λ rest. row ∷ rest) (rows-same rows)

-- the columns that a part uses
used : (c : Contents) (part : CcfPart) → IsListed c.shape.columns (λ x. (has part.columns x ≡ false) × HasEntryAt c part x)
used c part = listed (λ x. (has part.columns x ≡ false) × HasEntryAt c part x) c.shape.columns (λ x _. uses-cases c part x)

step_of : Layers → Contents → StepPart × CcfPart → Step ℕ
step_of layers c of = record { part = of.0; columns = of.1.columns; rows = rows_of_part layers c of.1; uses = (used c of.1).list }

step-is : (layers : Layers) (c : Contents) (of : StepPart × CcfPart) → IsStepOf (λ value. value) layers c of (step_of layers c of)
unfolding step_of
step-is layers c of = record { name = refl; columns = refl; rows = rows-same (rows_of_part layers c of.1); uses = (used c of.1).are }

-- the steps of a form
steps_of : (layers : Layers) (c : Contents) → Plan ℕ
steps_of layers c = record { steps = map (step_of layers c) (solved_parts c) }

steps-are : (layers : Layers) (c : Contents) → AreStepsOf (λ value. value) layers c (solved_parts c) (steps_of layers c).steps
unfolding steps_of
steps-are layers c = record {
  count = length-map (solved_parts c) (step_of layers c);
  each = λ k of step kl. subst (IsStepOf (λ value. value) layers c (get_or (solved_parts c) k of))
      (sym (get_or-map (step_of layers c) (solved_parts c) k of step kl)) (step-is layers c (get_or (solved_parts c) k of));
}

pub has-plan : EachRightFormHasAPlan
has-plan p prime big model is layers are c form right = record {
  plan = steps_of layers c;
  is = plan-made (λ value. value) p prime big layers c form (steps_of layers c) (steps-are layers c) model is are right;
}
