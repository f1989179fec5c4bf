-- A system whose names are lists of names has a model.
use Rattle.std.proofs.Common.{ℕ, ◌<◌, Bool, [], length, get_or, sym, ap, ◌∙◌, arith}
use Rattle.std.proofs.Math.Nat.{mod-lt}
use Rattle.mixed_model.specs.Names.{IsNameList}
use Rattle.mixed_model.specs.Models.{MixedModel}
use Rattle.mixed_model.proofs.Making.{model_made}
use Rattle.term_model.specs.Systems.{System, IsModelOf}
use Rattle.term_model.specs.Terms.{said_of, symbol_said}

module _ (p : ℕ) (system : System) (positive : 0 < p) (equations : IsNameList system.equations) (unknowns : IsNameList system.unknowns) where
  constant_there : ℕ → ℕ → ℕ
  constant_there i j = said_of p system.terms (get_or system.equations i []) (get_or system.unknowns j [])

  symbol_there : ℕ → ℕ → Bool
  symbol_there i j = symbol_said system.terms (get_or system.equations i []) (get_or system.unknowns j [])

  constant_small : (i j : ℕ) → i < length system.equations → j < length system.unknowns → constant_there i j < p
  unfolding constant_there
  constant_small i j at col = mod-lt _ positive

  pub system_made : (model : MixedModel) × IsModelOf p system model
  unfolding constant_there symbol_there
  system_made =
      let (model, has) = model_made p system.equations system.unknowns constant_there symbol_there equations unknowns constant_small in (
        model,
        record {
          is_model = has.is_model;
          equations_are = has.equations_are;
          unknowns_are = has.unknowns_are;
          constants_are = λ i j at col.
              has.constants_are i j (omega (arith, ap length has.equations_are)) (omega (arith, ap length has.unknowns_are))
              ∙ (λ k. said_of p system.terms (get_or (sym has.equations_are k) i []) (get_or (sym has.unknowns_are k) j []));
          symbols_are = λ i j at col.
              has.symbols_are i j (omega (arith, ap length has.equations_are)) (omega (arith, ap length has.unknowns_are))
              ∙ (λ k. symbol_said system.terms (get_or (sym has.equations_are k) i []) (get_or (sym has.unknowns_are k) j []));
        },
      )
