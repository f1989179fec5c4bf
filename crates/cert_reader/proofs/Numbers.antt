-- A number at the front of bytes.
use Rattle.std.proofs.Common.{◌≡◌, ℕ, zero, suc, ◌+◌, ◌-◌, ◌*◌, ◌^◌, ◌<◌, ◌≤◌, Bool, true, false, cond, List, [], ◌∷◌}
use Rattle.std.proofs.Common.{◌++◌, length, take, drop, get_or, inl, inr, Result, Ok, Err, refl, sym, ap, subst, ◌∙◌, arith}
use Rattle.std.proofs.Common.{rules, eqb, le-leb}
use Rattle.std.specs.Prelude.{◌&&◌, decimal, nat_le}
use Rattle.std.specs.Char.{is_ascii_digit, digit_value}
use Rattle.std.specs.List.{list_all, position_or_len}
use Rattle.std.specs.Str.Parse.{digits_value}
use Rattle.std.proofs.lemmas.Bool.Decides.{nat_tests}
use Rattle.std.proofs.lemmas.List.{take-append-drop, length-take-le}
use Rattle.std.proofs.lemmas.List.Folds.{list_all_more}
use Rattle.std.proofs.lemmas.Fmt.{digits_decimal, digits_value-decimal, decimal-digits_value, length-decimal-le, first_decimal, decimal_nonempty, decimal_digit}
use Rattle.std.proofs.lemmas.Str.Parse.{IsNumeralModel, numerals_by_value, digits_value_short, digit_at}
use Rattle.std.proofs.lemmas.Int.Digits.{digits_value_more}
use Rattle.std.proofs.lemmas.Str.{digit_value_digit}
use Rattle.residue_theory.proofs.SetLaws.{lt_cases}
use Rattle.cert_reader.proofs.Texts.{and_both, drop-again}
use Rattle.cert_reader.specs.Fronts.{AreFrontDigits, is_no_digit, front_digits, is_plain, number_at}

pub digits : IsNumeralModel (λ text. list_all is_ascii_digit text ≡ true) (digits_value 10)
digits = numerals_by_value (λ text. list_all is_ascii_digit text ≡ true) (search rules)

-- what follows a number begins with no digit
abbrev pub EndsNumber : List ℕ → Type 0
EndsNumber [] = Unit {0}
EndsNumber (byte ∷ bytes) = is_ascii_digit byte ≡ false

take-cons : (n byte : ℕ) (bytes : List ℕ) → take (1 + n) (byte ∷ bytes) ≡ byte ∷ take n bytes
take-cons n byte bytes = ap (λ k. take k (byte ∷ bytes)) (let e : 1 + n ≡ suc n = omega arith in e)

front_digits-cons : (byte : ℕ) (bytes : List ℕ) → is_ascii_digit byte ≡ true → front_digits (byte ∷ bytes) ≡ byte ∷ front_digits bytes
front_digits-cons byte bytes e = rw e (take-cons (position_or_len is_no_digit bytes) byte bytes)

front_digits-stop : (byte : ℕ) (bytes : List ℕ) → is_ascii_digit byte ≡ false → front_digits (byte ∷ bytes) ≡ []
front_digits-stop byte bytes e = rw e refl

-- digits in front, and then none
pub front-again : (ds rest : List ℕ) → list_all is_ascii_digit ds ≡ true → EndsNumber rest → front_digits (ds ++ rest) ≡ ds
front-again [] [] all ends = refl
front-again [] (byte ∷ bytes) all ends = front_digits-stop byte bytes ends
front-again (d ∷ ds) rest all ends =
    let both = and_both (is_ascii_digit d) (list_all is_ascii_digit ds) all in
    front_digits-cons d (ds ++ rest) both.0 ∙ ap (λ zs. d ∷ zs) (front-again ds rest both.1 ends)

pub front-digits : (bytes : List ℕ) → list_all is_ascii_digit (front_digits bytes) ≡ true
front-digits [] = refl
front-digits (byte ∷ bytes) = by (is_ascii_digit byte) refl (front-digits bytes)
  where
    by : (b : Bool) → is_ascii_digit byte ≡ b → list_all is_ascii_digit (front_digits bytes) ≡ true →
        list_all is_ascii_digit (front_digits (byte ∷ bytes)) ≡ true
    by true e rest = ap (list_all is_ascii_digit) (front_digits-cons byte bytes e) ∙ rw e rest
    by false e rest = ap (list_all is_ascii_digit) (front_digits-stop byte bytes e)

-- the digits in front, and what follows them
pub front-whole : (bytes : List ℕ) → bytes ≡ front_digits bytes ++ drop (length (front_digits bytes)) bytes
front-whole [] = refl
front-whole (byte ∷ bytes) = by (is_ascii_digit byte) refl (front-whole bytes)
  where
    by : (b : Bool) → is_ascii_digit byte ≡ b → bytes ≡ front_digits bytes ++ drop
        (length (front_digits bytes)) bytes → byte ∷ bytes ≡ front_digits (byte ∷ bytes) ++ drop
        (length (front_digits (byte ∷ bytes))) (byte ∷ bytes)
    by true e rest = subst (λ ds. byte ∷ bytes ≡ ds ++ drop (length ds) (byte ∷ bytes)) (sym (front_digits-cons byte bytes e)) (ap (λ zs. byte ∷ zs) rest)
    by false e rest = subst (λ ds. byte ∷ bytes ≡ ds ++ drop (length ds) (byte ∷ bytes)) (sym (front_digits-stop byte bytes e)) refl

-- plain digits are the text of their number
pub plain-is : (ds : List ℕ) → list_all is_ascii_digit ds ≡ true → is_plain ds ≡ true → decimal (digits_value 10 ds) ≡ ds
plain-is [] all plain = absurd cc
plain-is (d ∷ ds) all plain =
    let short : length (d ∷ ds) ≤ 10 = grind (arith, nat_tests) in
    let one : get_or (d ∷ ds) 0 0 ≡ 48 → length (d ∷ ds) ≡ 1 = λ zero. grind (arith, nat_tests) in
    decimal-digits_value digits (d ∷ ds) all (omega arith) one (omega (arith, digits_value_short digits (d ∷ ds) 10 all short))

plain-first : (ds : List ℕ) → length ds ≤ 10 → 0 < length ds → 48 < get_or ds 0 0 → is_plain ds ≡ true
plain-first [] short some first = absurd (omega arith)
plain-first (d ∷ ds) short some first = rw (few, differs) refl
  where
    few : nat_le (length (d ∷ ds)) 10 ≡ true
    few = le-leb (length (d ∷ ds)) 10 short

    differs : eqb d 48 ≡ false
    differs = grind (arith, nat_tests)

pub plain-again : (n : ℕ) → n < 10 ^ 10 → is_plain (decimal n) ≡ true
plain-again zero small = ap is_plain (decimal_digit 0 (omega arith))
plain-again (suc n) small = plain-first (decimal (suc n)) (length-decimal-le 10 (suc n) (omega arith) small
    (omega arith)) (decimal_nonempty (suc n) (omega arith)) (first_decimal (suc n) (omega arith) (omega arith))

-- what is read
pub number_takes : (limit line : ℕ) (bytes : List ℕ) (x : ℕ × List ℕ) → number_at limit line bytes ≡ Ok x → (bytes ≡ decimal x.0 ++ x.1) × (x.0 ≤ limit)
unfolding number_at
number_takes limit line bytes x e = by (is_plain (front_digits bytes)) (nat_le (digits_value 10 (front_digits bytes)) limit) refl refl e
  where
    by : (a b : Bool) → is_plain (front_digits bytes) ≡ a → nat_le (digits_value 10 (front_digits bytes)) limit ≡ b →
        cond {A = Result (ℕ × List ℕ) ℕ} (a && b) (Ok (
          digits_value 10 (front_digits bytes),
          drop
              (length (front_digits bytes)) bytes,
        )) (Err line) ≡ Ok x → (bytes ≡ decimal x.0 ++ x.1) × (x.0 ≤ limit)
    by true true plain small e =
        let same : (digits_value 10 (front_digits bytes), drop (length (front_digits bytes)) bytes) ≡ x = cc in
        let text : decimal (digits_value 10 (front_digits bytes)) ≡ front_digits bytes = plain-is (front_digits bytes) (front-digits bytes) plain in
        let within : digits_value 10 (front_digits bytes) ≤ limit = grind (arith, nat_tests) in
        subst (λ (y : ℕ × List ℕ). (bytes ≡ decimal y.0 ++ y.1) × (y.0 ≤ limit)) same
        (front-whole bytes ∙ ap (λ ds. ds ++ drop (length (front_digits bytes)) bytes) (sym text), within)
    by true false plain small e = let f : ⊥ = cc in absurd f
    by false b plain small e = let f : ⊥ = cc in absurd f

pub number_fails : (limit line : ℕ) (bytes : List ℕ) (l : ℕ) → number_at limit line bytes ≡ Err l → l ≡ line
unfolding number_at
number_fails limit line bytes l e = by (is_plain (front_digits bytes) && nat_le (digits_value 10 (front_digits bytes)) limit) e
  where
    by : (b : Bool) → cond {A = Result (ℕ × List ℕ) ℕ} b
        (Ok (digits_value 10 (front_digits bytes), drop (length (front_digits bytes)) bytes)) (Err line) ≡ Err l →
        l ≡ line
    by true e = let f : ⊥ = cc in absurd f
    by false e = cc

-- what was written is read
pub number_again : (limit line n : ℕ) (rest : List ℕ) → limit < 10 ^ 10 → n ≤ limit → EndsNumber rest → number_at limit line (decimal n ++ rest) ≡ Ok (n, rest)
unfolding number_at
number_again limit line n rest narrow within ends =
    let front : front_digits (decimal n ++ rest) ≡ decimal n = front-again (decimal n) rest (digits_decimal digits n (omega arith)) ends in
    let plain : is_plain (decimal n) ≡ true = plain-again n (omega arith) in
    let value : digits_value 10 (decimal n) ≡ n = digits_value-decimal digits n (omega arith) in
    let small : nat_le n limit ≡ true = le-leb n limit within in
    rw (front, value, plain, small, drop-again (decimal n) rest) refl

-- ---- digits that are looked through one by one
-- the number so far is below a power of ten
pub value_small : (bytes : List ℕ) (count : ℕ) → list_all is_ascii_digit (take count bytes) ≡ true → count ≤ 10 → count ≤ length bytes →
    digits_value 10 (take count bytes) < 10 ^ 10
value_small bytes count all few within =
    digits_value_short digits (take count bytes) 10 all (omega (arith, length-take-le count bytes within))

pub digits_next : (bytes : List ℕ) (count : ℕ) → count < length bytes → list_all is_ascii_digit (take count bytes) ≡ true →
    is_ascii_digit (get_or bytes count 0) ≡ true → list_all is_ascii_digit (take (count + 1) bytes) ≡ true
digits_next bytes count less all here = rw (list_all_more is_ascii_digit bytes count 0 less, all, here) refl

pub value_next : (bytes : List ℕ) (count : ℕ) → count < length bytes → is_ascii_digit (get_or bytes count 0) ≡ true →
    digits_value 10 (take (count + 1) bytes) ≡ digits_value 10 (take count bytes) * 10 + (get_or bytes count 0 - 48)
value_next bytes count within here =
    let byte : ℕ = get_or bytes count 0 in
    let range = digit_at (byte ∷ []) 0 (digits.to (byte ∷ []) (rw here refl)) (omega arith) in
    digits_value_more 10 bytes count within ∙ ap (λ d. digits_value 10 (take count bytes) * 10 + d)
    (let e : digit_value byte ≡ byte - 48 = omega (arith, digit_value_digit byte range) in e)

ends-at : (bytes : List ℕ) (count : ℕ) → (count < length bytes → is_ascii_digit (get_or bytes count 0) ≡ false) → EndsNumber (drop count bytes)
ends-at [] zero ended = tt
ends-at [] (suc count) ended = tt
ends-at (byte ∷ bytes) zero ended = ended (omega arith)
ends-at (byte ∷ bytes) (suc count) ended = ends-at bytes count (λ less. ended (omega (arith, less)))

front-taken : (bytes : List ℕ) (count : ℕ) → list_all is_ascii_digit (take count bytes) ≡ true → EndsNumber (drop count bytes) →
    front_digits bytes ≡ take count bytes
front-taken bytes count all ends =
    ap front_digits (sym (take-append-drop count bytes)) ∙ front-again (take count bytes) (drop count bytes) all ends

front-longer : (bytes : List ℕ) (count : ℕ) → list_all is_ascii_digit (take count bytes) ≡ true → count ≤ length bytes →
    count ≤ length (front_digits bytes)
front-longer bytes zero all within = omega arith
front-longer [] (suc count) all within = absurd (omega arith)
front-longer (byte ∷ bytes) (suc count) all within =
    let both = and_both (is_ascii_digit byte) (list_all is_ascii_digit (take count bytes)) all in
    subst (λ ds. suc count ≤ length ds) (sym (front_digits-cons byte bytes both.0)) (omega (arith, front-longer bytes count both.1 (omega (arith, within))))

plain-short : (ds : List ℕ) → is_plain ds ≡ true → length ds ≤ 10
plain-short [] plain = omega arith
plain-short (d ∷ ds) plain = grind (arith, nat_tests)

not-plain : (ds : List ℕ) → 10 < length ds → is_plain ds ≡ false
not-plain [] long = refl
not-plain (d ∷ ds) long = rw (let e : nat_le (length (d ∷ ds)) 10 ≡ false = grind (arith, nat_tests) in e) refl

-- what is looked through is what the digits in front say
module _ (bytes : List ℕ) (count value : ℕ) (are : AreFrontDigits bytes count value) where
  long : length (take count bytes) ≡ count
  long = length-take-le count bytes are.within

  front : count < 11 → front_digits bytes ≡ take count bytes
  front less = front-taken bytes count are.digits (ends-at bytes count (are.ended less))

  same : is_plain (take count bytes) ≡ is_plain (front_digits bytes)
  same = elim (lt_cases count 11) [
    | inl less ↦ ap is_plain (sym (front less))
    | inr more ↦ not-plain (take count bytes) (omega (arith, long)) ∙ sym (not-plain (front_digits bytes)
        (omega (arith, front-longer bytes count are.digits are.within)))
  ]

  module _ (limit line : ℕ) where
    pub number_unplain : is_plain (take count bytes) ≡ false → number_at limit line bytes ≡ Err line
    unfolding number_at
    number_unplain plain = rw (let e : is_plain (front_digits bytes) ≡ false = sym same ∙ plain in e) refl

    front_is : is_plain (take count bytes) ≡ true → front_digits bytes ≡ take count bytes
    front_is plain = front (omega (arith, long, plain-short (take count bytes) plain))

    pub number_over : is_plain (take count bytes) ≡ true → limit < value → number_at limit line bytes ≡ Err line
    unfolding number_at
    number_over plain over =
        let large : nat_le (digits_value 10 (take count bytes)) limit ≡ false = grind (arith, nat_tests, are.value_is, over) in
        rw (front_is plain, plain, large) refl

    pub number_within : is_plain (take count bytes) ≡ true → value ≤ limit → number_at limit line bytes ≡ Ok (value, drop count bytes)
    unfolding number_at
    number_within plain within =
        let small : nat_le (digits_value 10 (take count bytes)) limit ≡ true =
        le-leb (digits_value 10 (take count bytes)) limit (omega (arith, within, are.value_is)) in
        rw (front_is plain, plain, small, long) (ap (λ (v : ℕ). Ok (v, drop count bytes)) (sym are.value_is))
