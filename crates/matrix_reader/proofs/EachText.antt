-- Each text gives a model or has a first broken rule.
use Rattle.std.proofs.Common.{ℕ, ◌+◌, ◌<◌, Bool, List, [], length, map, get_or, refl, sym, ap, ◌∙◌, ◌⊎◌, inl, inr, arith}
use Rattle.std.proofs.lemmas.List.{length-map}
use Rattle.refusals.specs.declared.Place.TheVariants.{Line}
use Rattle.refusals.specs.declared.ReadModel.TheVariants.{Refused as IsRefused}
use Rattle.refusals.specs.declared.Refused.{Refused}
use Rattle.refusals.specs.declared.Why.{Why}
use Rattle.residue_theory.specs.Residues.{IsPrime}
use Rattle.line_lexer.specs.Lines.{lines_of}
use Rattle.line_lexer.specs.Tokens.{words_of}
use Rattle.line_reader.specs.LineRules.{KeepsAll, IsFirstBroken as IsFirst}
use Rattle.line_reader.proofs.Deciding.{each_text, of_kept}
use Rattle.mixed_model.specs.Models.{MixedModel}
use Rattle.mixed_model.proofs.Making.{model_made}
use Rattle.matrix_reader.specs.EquationLists.{Equation, equations_in, unknowns_in}
use Rattle.matrix_reader.specs.Models.{GivesModel, IsRefusal, LinesGive, items_at, said_of, symbol_said}
use Rattle.matrix_reader.specs.Rules.{list_rules}
use Rattle.matrix_reader.proofs.KeptLines.{AreSound, none_sound, one_line}

-- lines whose names and constants are good have a model
module _ (p : ℕ) (lines : List (List (List ℕ))) (sound : AreSound p lines) where
  abbrev list : List Equation
  list = equations_in lines

  abbrev unknowns : List (List ℕ)
  unknowns = unknowns_in lines

  abbrev names : List (List ℕ)
  names = map (λ (equation : Equation). equation.name) list

  constant_there : ℕ → ℕ → ℕ
  constant_there i j = said_of p (items_at list i) (get_or unknowns j [])

  symbol_there : ℕ → ℕ → Bool
  symbol_there i j = symbol_said (items_at list i) (get_or unknowns j [])

  constant_small : (i j : ℕ) → i < length names → j < length unknowns → constant_there i j < p
  unfolding constant_there
  constant_small i j at col = sound.constants i (get_or unknowns j []) (omega (arith, length-map list (λ (equation : Equation). equation.name)))

  lines_give : (model : MixedModel) × LinesGive p lines model
  unfolding constant_there symbol_there
  lines_give =
      let (model, has) = model_made p names unknowns constant_there symbol_there sound.equations sound.unknowns constant_small in (
        model,
        record {
          is_model = has.is_model;
          equations_are = has.equations_are;
          unknowns_are = has.unknowns_are;
          constants_are = λ i j at col.
              has.constants_are i j (omega (arith, length-map list (λ (equation : Equation). equation.name))) (omega (arith, ap length has.unknowns_are))
              ∙ ap (λ all. said_of p (items_at list i) (get_or all j [])) (sym has.unknowns_are);
          symbols_are = λ i j at col.
              has.symbols_are i j (omega (arith, length-map list (λ (equation : Equation). equation.name))) (omega (arith, ap length has.unknowns_are))
              ∙ ap (λ all. symbol_said (items_at list i) (get_or all j [])) (sym has.unknowns_are);
        },
      )

-- Each text gives a model or is refused.
pub text_answered : (p : ℕ) → IsPrime p → (text : List ℕ) →
    ((model : MixedModel) × GivesModel p text model) ⊎ ((refused : Refused) × IsRefusal p text (IsRefused refused))
text_answered p prime text = by (each_text (list_rules p) text)
  where
    by : KeepsAll (list_rules p) text ⊎ ((n : ℕ) × (why : Why) × IsFirst (list_rules p) text n why) →
        ((model : MixedModel) × GivesModel p text model) ⊎ ((refused : Refused) × IsRefusal p text (IsRefused refused))
    by (inl kept) =
        let lines = map words_of (lines_of text) in
        let (model, given) = lines_give p lines (of_kept (list_rules p) (AreSound p) (none_sound p) (one_line p prime) text kept) in
        inl (model, record { kept = kept; given = given })
    by (inr (n, why, first)) = inr (record { place = Line (n + 1); why = why }, (n, why, refl, first))
