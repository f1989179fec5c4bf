-- A text gives at most one model.
use Rattle.std.proofs.Common.{◌≡◌, ℕ, ◌<◌, List, length, map, sym, ap, ◌∙◌, arith, get_or, []}
use Rattle.std.proofs.lemmas.List.{length-map}
use Rattle.line_lexer.specs.Lines.{lines_of}
use Rattle.line_lexer.specs.Tokens.{words_of}
use Rattle.mixed_model.specs.Models.{MixedModel}
use Rattle.mixed_model.proofs.ModelLaws.{models_told}
use Rattle.matrix_reader.specs.EquationLists.{Equation, equations_in, unknowns_in}
use Rattle.matrix_reader.specs.Models.{IsModelOf, GivesModel, said_of, symbol_said, items_at}

one_model : (p : ℕ) (list : List Equation) (names : List (List ℕ)) (a b : MixedModel) → IsModelOf p list names a → IsModelOf p list names b → a ≡ b
one_model p list names a b gives_a gives_b =
    models_told p a b gives_a.is_model gives_b.is_model equations unknowns
    (λ i j at col.
    let here : i < length list = omega (arith, ap length gives_a.equations_are, length-map list (λ (e : Equation). e.name)) in
    gives_a.constants_are i j here col
    ∙ ap (λ unknowns. said_of p (items_at list i) (get_or unknowns j [])) unknowns
    ∙ sym (gives_b.constants_are i j here (omega (arith, ap length unknowns))))
    (λ i j at col.
    let here : i < length list = omega (arith, ap length gives_a.equations_are, length-map list (λ (e : Equation). e.name)) in
    gives_a.symbols_are i j here col
    ∙ ap (λ unknowns. symbol_said (items_at list i) (get_or unknowns j [])) unknowns
    ∙ sym (gives_b.symbols_are i j here (omega (arith, ap length unknowns))))
  where
    equations : a.equations ≡ b.equations
    equations = gives_a.equations_are ∙ sym gives_b.equations_are

    unknowns : a.unknowns ≡ b.unknowns
    unknowns = gives_a.unknowns_are ∙ sym gives_b.unknowns_are

pub text_gives_one : (p : ℕ) (text : List ℕ) (a b : MixedModel) → GivesModel p text a → GivesModel p text b → a ≡ b
text_gives_one p text a b gives_a gives_b =
    one_model p (equations_in (map words_of (lines_of text))) (unknowns_in (map words_of (lines_of text))) a b gives_a.given gives_b.given
