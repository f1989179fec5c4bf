-- Costs, and the different ones of some.
use Rattle.std.proofs.Common.{◌≡◌, ℕ, ◌<◌, ◌≤◌, true, false, List, [], ◌∷◌, ◌++◌, length, nat_eq}
use Rattle.std.proofs.Common.{Result, Ok, refl, arith, rules}
use Rattle.std.specs.Char.{is_ascii_digit}
use Rattle.std.specs.List.{list_all, list_any}
use Rattle.std.specs.Str.Parse.{digits_value, ParsesUnsigned}
use Rattle.std.proofs.lemmas.Bool.Decides.{nat_tests}
use Rattle.std.proofs.lemmas.Str.Parse.{IsNumeralModel, numerals_by_value, parse_gives, digits_value_short}
use Rattle.problem_heads.specs.HeadNumbers.{is_cost}
use Rattle.problem_heads.specs.Problems.{see_number}

digits : IsNumeralModel (λ text. list_all is_ascii_digit text ≡ true) (digits_value 10)
digits = numerals_by_value (λ text. list_all is_ascii_digit text ≡ true) (search rules)

parse-digits : {E : Type 0} (text : List ℕ) (read : Result ℕ E) → ParsesUnsigned 64 10 text read →
    list_all is_ascii_digit text ≡ true → 0 < length text → length text ≤ 9 → read ≡ Ok (digits_value 10 text)
parse-digits text read parsed all some short =
    parse_gives digits 64 text read parsed all some (omega (arith, digits_value_short digits text 9 all short))

-- a cost is read
pub parse-cost : {E : Type 0} (text : List ℕ) (read : Result ℕ E) → ParsesUnsigned 64 10 text read →
    is_cost text ≡ true → read ≡ Ok (digits_value 10 text)
parse-cost text read parsed cost =
    let all : list_all is_ascii_digit text ≡ true = grind (arith, nat_tests) in
    let some : 0 < length text = grind (arith, nat_tests) in
    let short : length text ≤ 9 = grind (arith, nat_tests) in
    parse-digits text read parsed all some short

pub see-there : (seen : List ℕ) (number : ℕ) → list_any (nat_eq number) seen ≡ true → see_number seen number ≡ seen
see-there seen number there = rw there refl

pub see-new : (seen : List ℕ) (number : ℕ) → list_any (nat_eq number) seen ≡ false → see_number seen number ≡ seen ++ number ∷ []
see-new seen number new = rw new refl

pub ruleset see_laws = (see-there, see-new)
