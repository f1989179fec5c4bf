-- Costs that a head says of a model: each is small.
use Rattle.std.proofs.Common.{◌≡◌, ℕ, zero, suc, ◌+◌, ◌<◌, ◌≤◌, Bool, true, false, cond, List, [], ◌∷◌, length, map, get_or}
use Rattle.std.proofs.Common.{Some, Ok, Err, refl, ap, sym, subst, ◌∙◌, arith, rules}
use Rattle.std.proofs.lemmas.Bool.Decides.{nat_tests}
use Rattle.std.proofs.lemmas.List.{length-map}
use Rattle.std.proofs.lemmas.List.Elements.{All-append, All-cons, All-head, All-tail}
use Rattle.std.proofs.lemmas.Str.Parse.{IsNumeralModel, digits_value_short, numerals_by_value}
use Rattle.std.specs.Char.{is_ascii_digit}
use Rattle.std.specs.List.{All, find, list_all}
use Rattle.std.specs.Option.{option_map, unwrap_or}
use Rattle.std.specs.Result.{result_unwrap_or}
use Rattle.std.specs.Str.Parse.{digits_value}
use Rattle.refusals.specs.declared.Why.TheVariants.{BadNumber}
use Rattle.mixed_model.specs.Models.{MixedModel}
use Rattle.line_lexer.specs.Lines.{lines_of}
use Rattle.line_lexer.specs.Tokens.{words_of}
use Rattle.problem_heads.specs.Heads.{head_of}
use Rattle.problem_heads.specs.HeadNumbers.{HeadNumber, are_same_names, cost_of, is_cost, number_for, numbers_behind, numbers_from}
use Rattle.problem_heads.specs.HeadNumbers.{numbers_in_line, numbers_of_head}
use Rattle.problem_heads.specs.Problems.{IsRepairProblem}
use Rattle.problem_heads.specs.declared.form.Form.TheVariants.{Repair}
use Rattle.repair_checker.specs.Costs.{AreCosts}
use Rattle.cheapest_repairs.proofs.Few.{few}

abbrev IsSmall : HeadNumber ℕ → Type 0
IsSmall given = given.number ≤ 999999999

digits : IsNumeralModel (λ text. list_all is_ascii_digit text ≡ true) (digits_value 10)
digits = numerals_by_value (λ text. list_all is_ascii_digit text ≡ true) (search rules)

-- a cost has at most nine digits
cost-small : (text : List ℕ) → result_unwrap_or (cost_of text) 0 ≤ 999999999
cost-small text = at (is_cost text) refl
  where
    at : (b : Bool) → is_cost text ≡ b → result_unwrap_or (cond b (Ok (digits_value 10 text)) (Err BadNumber)) 0 ≤ 999999999
    at true cost =
        let all : list_all is_ascii_digit text ≡ true = grind (arith, nat_tests) in
        let short : length text ≤ 9 = grind (arith, nat_tests) in
        let less : digits_value 10 text < 1000000000 = digits_value_short digits text 9 all short in
        omega (arith, less)
    at false cost = omega arith

-- so is what each line of a head gives
none-small : All IsSmall []
none-small k d kl = absurd (omega (arith, kl))

behind-small : (p line : ℕ) (words : List (List ℕ)) → All IsSmall (numbers_behind p Repair line words)
behind-small p line [] = none-small
behind-small p line (word ∷ []) = none-small
behind-small p line (equation ∷ text ∷ []) =
    All-cons IsSmall (record { line = line; names = equation ∷ []; number = result_unwrap_or (cost_of text) 0 }) [] (cost-small text) none-small
behind-small p line (equation ∷ unknown ∷ text ∷ []) =
    All-cons IsSmall (record { line = line; names = equation ∷ unknown ∷ []; number = result_unwrap_or (cost_of text) 0 }) [] (cost-small text) none-small
behind-small p line (equation ∷ unknown ∷ text ∷ next ∷ words) = none-small

line-small : (p line : ℕ) (words : List (List ℕ)) → All IsSmall (numbers_in_line p Repair line words)
line-small p line [] = none-small
line-small p line (word ∷ words) = behind-small p line words

lines-small : (p line : ℕ) (lines : List (List (List ℕ))) → All IsSmall (numbers_from p Repair line lines)
lines-small p line [] = none-small
lines-small p line (words ∷ lines) =
    All-append IsSmall (numbers_in_line p Repair line words) (numbers_from p Repair (line + 1) lines) (line-small p line words) (lines-small p (line + 1) lines)

-- the first that is given for a name, or 1
found-small : (test : HeadNumber ℕ → Bool) (numbers : List (HeadNumber ℕ)) → All IsSmall numbers →
    unwrap_or (option_map (λ (given : HeadNumber ℕ). given.number) (find test numbers)) 1 ≤ 999999999
found-small test [] all = omega arith
found-small test (given ∷ numbers) all = at (test given) (found-small test numbers (All-tail IsSmall given numbers all))
  where
    at : (b : Bool) → unwrap_or (option_map (λ (one : HeadNumber ℕ). one.number) (find test numbers)) 1 ≤ 999999999 →
        unwrap_or (option_map (λ (one : HeadNumber ℕ). one.number) (cond b (Some given) (find test numbers))) 1 ≤ 999999999
    at true later = All-head IsSmall given numbers all
    at false later = later

mapped-small : {X : Type 0} (f : X → ℕ) → ((x : X) → f x ≤ 999999999) → (xs : List X) (e : ℕ) → get_or (map f xs) e 0 ≤ 999999999
mapped-small f each [] e = omega arith
mapped-small f each (x ∷ xs) zero = each x
mapped-small f each (x ∷ xs) (suc e) = mapped-small f each xs e

-- so the costs of a problem are as a cheapest repair takes them
pub problem-costs : (p : ℕ) (text : List ℕ) (model : MixedModel) (costs : List ℕ) →
    IsRepairProblem (numbers_of_head p Repair text) model costs → AreCosts (length model.equations) costs
problem-costs p text model costs problem = record {
  count = ap length problem.costs_are ∙ length-map model.equations cost;
  small = λ e. subst (λ list. get_or list e 0 ≤ 999999999) (sym problem.costs_are) (mapped-small cost each model.equations e);
  few = few costs problem.few;
}
  where
    cost : List ℕ → ℕ
    cost equation = unwrap_or (number_for (numbers_of_head p Repair text) (equation ∷ [])) 1

    each : (equation : List ℕ) → cost equation ≤ 999999999
    each equation = found-small (λ given. are_same_names (equation ∷ []) given.names) (numbers_of_head p Repair text)
        (lines-small p 1 (map words_of (lines_of (head_of text))))
