-- What is read of the digits of a number.
use Rattle.std.proofs.Common.{◌≡◌, ◌≢◌, ℕ, ◌+◌, ◌*◌, ◌^◌, ◌<◌, ◌≤◌, Bool, true, false, cond, List, [], ◌∷◌, ◌++◌}
use Rattle.std.proofs.Common.{length, drop, Some, None, Result, Ok, refl, sym, ap, ◌∙◌, arith, rules, eqb, eqb-true}
use Rattle.std.proofs.Common.{le-leb, length-append}
use Rattle.std.specs.Prelude.{nat_le}
use Rattle.std.specs.Char.{is_ascii_digit, digit_value}
use Rattle.std.specs.List.{list_all}
use Rattle.std.specs.Str.Parse.{digits_value, digits_value_after, ParsesUnsigned, starts_with_minus, without_leading_sign, without_leading_plus}
use Rattle.std.proofs.Math.Nat.{pow-suc}
use Rattle.std.proofs.lemmas.Bool.Decides.{nat_tests}
use Rattle.std.proofs.lemmas.List.Folds.{list_all-append}
use Rattle.std.proofs.lemmas.Str.Parse.{IsNumeralModel, numerals_by_value, parse_gives, digits_value_short}
use Rattle.line_lexer.specs.Numbers.{is_numeral, numeral_of, decimal_of}

digits : IsNumeralModel (λ text. list_all is_ascii_digit text ≡ true) (digits_value 10)
digits = numerals_by_value (λ text. list_all is_ascii_digit text ≡ true) (search rules)

parse-digits : {E : Type 0} (text : List ℕ) (read : Result ℕ E) → ParsesUnsigned 64 10 text read →
    list_all is_ascii_digit text ≡ true → 0 < length text → length text ≤ 18 → read ≡ Ok (digits_value 10 text)
parse-digits text read parsed all some short =
    parse_gives digits 64 text read parsed all some (omega (arith, digits_value_short digits text 18 all short))

-- a numeral is read
pub parse-numeral : {E : Type 0} (text : List ℕ) (read : Result ℕ E) → ParsesUnsigned 64 10 text read →
    is_numeral text ≡ true → read ≡ Ok (digits_value 10 text)
parse-numeral text read parsed numeral =
    let all : list_all is_ascii_digit text ≡ true = grind (arith, nat_tests) in
    let some : 0 < length text = grind (arith, nat_tests) in
    let short : length text ≤ 18 = grind (arith, nat_tests) in
    parse-digits text read parsed all some short

-- a text without a sign
pub no_minus : (text : List ℕ) → ((rest : List ℕ) → text ≢ 45 ∷ rest) → starts_with_minus text ≡ false
no_minus [] none = refl
no_minus (byte ∷ text) none = by (eqb byte 45) refl
  where
    by : (b : Bool) → eqb byte 45 ≡ b → eqb byte 45 ≡ false
    by true e = absurd (none text (ap (λ first. first ∷ text) (eqb-true byte 45 e)))
    by false e = e

no_plus : (text : List ℕ) → ((rest : List ℕ) → text ≢ 43 ∷ rest) → without_leading_plus text ≡ text
no_plus [] none = refl
no_plus (byte ∷ text) none = by (eqb byte 43) refl
  where
    by : (b : Bool) → eqb byte 43 ≡ b → without_leading_plus (byte ∷ text) ≡ byte ∷ text
    by true e = absurd (none text (ap (λ first. first ∷ text) (eqb-true byte 43 e)))
    by false e = rw e refl

pub no_sign : (text : List ℕ) → ((rest : List ℕ) → text ≢ 45 ∷ rest) → ((rest : List ℕ) → text ≢ 43 ∷ rest) → text ≡ without_leading_sign text
no_sign text minus plus = sym (ap (λ b. cond b (drop 1 text) (without_leading_plus text)) (no_minus text minus) ∙ no_plus text plus)

-- digits that follow others
digits_after : (n : ℕ) (text : List ℕ) → digits_value_after 10 n text ≡ n * 10 ^ length text + digits_value 10 text
digits_after n [] = omega arith
digits_after n (byte ∷ text) =
    let here = digits_after (n * 10 + digit_value byte) text in
    let alone = digits_after (0 * 10 + digit_value byte) text in
    let more : 10 ^ length (byte ∷ text) ≡ 10 ^ length text * 10 = pow-suc 10 (length text) in
    here ∙ by (10 ^ length text) (10 ^ length (byte ∷ text)) (digits_value 10 text) (digits_value 10 (byte ∷ text)) more alone
  where
    by : (power bigger rest whole : ℕ) → bigger ≡ power * 10 → whole ≡ (0 * 10 + digit_value byte) * power + rest →
        (n * 10 + digit_value byte) * power + rest ≡ n * bigger + whole
    by power bigger rest whole e f = rw (e, f) (omega arith)

digits_append : (front back : List ℕ) (n : ℕ) → digits_value_after 10 n (front ++ back) ≡ digits_value_after 10 (digits_value_after 10 n front) back
digits_append [] back n = refl
digits_append (byte ∷ front) back n = digits_append front back (n * 10 + digit_value byte)

pub digits_joined : (whole decimals : List ℕ) → digits_value 10 (whole ++ decimals) ≡ digits_value 10 whole * 10 ^ length decimals + digits_value 10 decimals
digits_joined whole decimals = digits_append whole decimals 0 ∙ digits_after (digits_value 10 whole) decimals

-- the number of a numeral
pub record Numeral (text : List ℕ) (number : ℕ) : Type 0 where
  pub numeral : is_numeral text ≡ true
  pub value : number ≡ digits_value 10 text

pub Numeral-Some : (text : List ℕ) (number : ℕ) → numeral_of text ≡ Some number → Numeral text number
Numeral-Some text number e = by (is_numeral text) refl e
  where
    by : (b : Bool) → is_numeral text ≡ b → cond b (Some (digits_value 10 text)) None ≡ Some number → Numeral text number
    by true numeral e = record { numeral = numeral; value = (let same : digits_value 10 text ≡ number = cc in sym same) }
    by false numeral e = let f : ⊥ = cc in absurd f

pub is_numeral-None : (text : List ℕ) → numeral_of text ≡ None → is_numeral text ≡ false
is_numeral-None text e = by (is_numeral text) refl e
  where
    by : (b : Bool) → is_numeral text ≡ b → cond b (Some (digits_value 10 text)) None ≡ None → is_numeral text ≡ false
    by true numeral e = let f : ⊥ = cc in absurd f
    by false numeral e = numeral

-- the digits of a decimal
pub record Decimal (whole decimals : List ℕ) (front back power : ℕ) : Type 0 where
  pub small : front * power + back < 10 ^ 18
  pub is : decimal_of whole decimals ≡ Some (record { numerator = front * power + back; denominator = power })

pub Decimal-of : (whole decimals : List ℕ) (front back power : ℕ) → numeral_of whole ≡ Some front →
    numeral_of decimals ≡ Some back → power ≡ 10 ^ length decimals → length whole + length decimals ≤ 18 →
    Decimal whole decimals front back power
Decimal-of whole decimals front back power first second is_power short =
    let one = Numeral-Some whole front first in
    let two = Numeral-Some decimals back second in
    let digits_one : list_all is_ascii_digit whole ≡ true = grind (arith, nat_tests, one.numeral) in
    let digits_two : list_all is_ascii_digit decimals ≡ true = grind (arith, nat_tests, two.numeral) in
    let all : list_all is_ascii_digit (whole ++ decimals) ≡ true = list_all-append is_ascii_digit whole decimals ∙ rw (digits_one, digits_two) refl in
    let value : front * power + back ≡ digits_value 10 (whole ++ decimals) =
    sym (digits_joined whole decimals ∙ (λ i. sym one.value i * sym is_power i + sym two.value i)) in
    let few : nat_le (length whole + length decimals) 18 ≡ true = le-leb (length whole + length decimals) 18 short in
    record {
      small = omega (arith, value, digits_value_short digits (whole ++ decimals) 18 all (omega (arith, length-append whole decimals)));
      is = rw (one.numeral, two.numeral, few) (λ i. Some (record { numerator = sym value i; denominator = sym is_power i }));
    }
