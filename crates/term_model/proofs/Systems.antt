-- A system has one model.
use Rattle.std.proofs.Common.{◌≡◌, ℕ, length, sym, ap, ◌∙◌, arith, get_or, []}
use Rattle.mixed_model.specs.Models.{MixedModel}
use Rattle.mixed_model.proofs.ModelLaws.{models_told}
use Rattle.term_model.specs.Systems.{System, IsModelOf}
use Rattle.term_model.specs.Terms.{said_of, symbol_said}

pub one_model : (p : ℕ) (system : System) (a b : MixedModel) → IsModelOf p system a → IsModelOf p system b → a ≡ b
one_model p system a b gives_a gives_b =
    models_told p a b gives_a.is_model gives_b.is_model equations unknowns
    (λ i j at col.
    gives_a.constants_are i j at col
    ∙ ap (λ names. said_of p system.terms (get_or names i []) (get_or a.unknowns j [])) equations
    ∙ ap (λ names. said_of p system.terms (get_or b.equations i []) (get_or names j [])) unknowns
    ∙ sym (gives_b.constants_are i j (omega (arith, ap length equations)) (omega (arith, ap length unknowns))))
    (λ i j at col.
    gives_a.symbols_are i j at col
    ∙ ap (λ names. symbol_said system.terms (get_or names i []) (get_or a.unknowns j [])) equations
    ∙ ap (λ names. symbol_said system.terms (get_or b.equations i []) (get_or names j [])) unknowns
    ∙ sym (gives_b.symbols_are i j (omega (arith, ap length equations)) (omega (arith, ap length unknowns))))
  where
    equations : a.equations ≡ b.equations
    equations = gives_a.equations_are ∙ sym gives_b.equations_are

    unknowns : a.unknowns ≡ b.unknowns
    unknowns = gives_a.unknowns_are ∙ sym gives_b.unknowns_are
