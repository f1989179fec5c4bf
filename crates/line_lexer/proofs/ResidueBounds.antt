-- Modulo a prime, what is read of a number is a residue.
use Rattle.std.proofs.Common.{◌≡◌, ◌≢◌, ℕ, ◌+◌, ◌-◌, ◌*◌, ◌%◌, ◌<◌, Bool, true, false, cond, List}
use Rattle.std.proofs.Common.{get_or, Option, Some, None, Ok, Err, refl, sym, ap, subst, ◌∙◌, arith, eq-eqb, ⊎_elim}
use Rattle.std.specs.List.{position_or_len, range_with_len}
use Rattle.std.specs.Str.Parse.{starts_with_minus, without_leading_sign}
use Rattle.std.proofs.Math.Nat.{mod-eq_of_lt, mod-lt}
use Rattle.std.proofs.lemmas.Nat.{mul-mod_first}
use Rattle.std.proofs.lemmas.Bool.{cases_lt}
use Rattle.std.proofs.lemmas.List.FromFn.{get_or-range_with_len}
use Rattle.std.proofs.lemmas.List.Sums.{fails_before_first}
use Rattle.residue_theory.specs.Residues.{IsPrime}
use Rattle.residue_theory.proofs.ResidueLaws.{agree-add, agree-mul, inverse, lacks}
use Rattle.refusals.specs.declared.Why.TheVariants.{Vanish}
use Rattle.line_lexer.specs.declared.numbers.Ratio.{Ratio}
use Rattle.line_lexer.specs.Numbers.{vanishes, is_residue, fraction_of, fraction_residue, number_of, residue_of}

-- a multiple of the inverse of a denominator, times the denominator
times-inverse : (p num den y : ℕ) → 1 < p → (den * y) % p ≡ 1 → ((num * y) % p * den) % p ≡ num % p
times-inverse p num den y above inverse_is =
    mul-mod_first (num * y) den p
    ∙ ap (λ x. x % p) (let e : num * y * den ≡ num * (den * y) = omega arith in e)
    ∙ agree-mul p num (den * y) 1 (inverse_is ∙ sym (mod-eq_of_lt above))
    ∙ ap (λ x. x % p) (let e : num * 1 ≡ num = omega arith in e)

-- a fraction whose denominator does not vanish has a residue
has-residue : (p : ℕ) → IsPrime p → (negative : Bool) (fraction : Ratio) → fraction.denominator % p ≢ 0 →
    (r : ℕ) × (r < p) × (is_residue p negative fraction r ≡ true)
has-residue p prime false fraction non_zero =
    let (y, inverse_is) = inverse p prime fraction.denominator non_zero in
    let r = (fraction.numerator * y) % p in (
      r,
      mod-lt (fraction.numerator * y) (omega (arith, prime.above_one)),
      eq-eqb ((r * fraction.denominator) % p) (fraction.numerator % p)
          (times-inverse p fraction.numerator fraction.denominator y prime.above_one inverse_is),
    )
has-residue p prime true fraction non_zero =
    let (y, inverse_is) = inverse p prime fraction.denominator non_zero in
    let num = fraction.numerator in
    let den = fraction.denominator in
    let r = ((p - 1) * num * y) % p in (
      r,
      mod-lt ((p - 1) * num * y) (omega (arith, prime.above_one)),
      eq-eqb ((r * den + num) % p) 0
          (agree-add p (r * den) ((p - 1) * num) num num (times-inverse p ((p - 1) * num) den y prime.above_one inverse_is) refl
          ∙ ap (λ x. x % p) (let e : (p - 1) * num + num ≡ num + (p - 1) * num = omega arith in e)
          ∙ lacks p prime num),
    )

-- the first number of a range that passes is in it, where one passes
first-below : (test : ℕ → Bool) (n r : ℕ) → r < n → test r ≡ true → position_or_len test (range_with_len 0 n) < n
first-below test n r below passes = ⊎_elim
    (λ less. less)
    (λ long.
    let fails : test (get_or (range_with_len 0 n) r 0) ≡ false = fails_before_first test (range_with_len 0 n) r 0 (omega (arith, long)) in
    let place : get_or (range_with_len 0 n) r 0 ≡ r = get_or-range_with_len 0 n r 0 below ∙ omega arith in
    let both : true ≡ false = sym passes ∙ ap test (sym place) ∙ fails in absurd cc)
    (cases_lt (position_or_len test (range_with_len 0 n)) n)

fraction-below : (p : ℕ) → IsPrime p → (negative : Bool) (fraction : Ratio) → fraction.denominator % p ≢ 0 →
    fraction_residue p negative fraction < p
unfolding fraction_residue
fraction-below p prime negative fraction non_zero =
    let (r, below, passes) = has-residue p prime negative fraction non_zero in
    first-below (is_residue p negative fraction) p r below passes

-- a denominator that is 0 modulo p vanishes
zero-vanishes : (p : ℕ) (fraction : Ratio) → fraction.denominator % p ≡ 0 → vanishes p fraction ≡ true
zero-vanishes p fraction zero_there = rw (eq-eqb (fraction.denominator % p) 0 zero_there) refl

residue-below : (p : ℕ) → IsPrime p → (negative : Bool) (read : Option Ratio) (n : ℕ) → residue_of p negative read ≡ Ok n → n < p
residue-below p prime negative None n is = absurd cc
residue-below p prime negative (Some fraction) n is = by (vanishes p fraction) refl is
  where
    by : (b : Bool) → vanishes p fraction ≡ b → cond b (Err Vanish) (Ok (fraction_residue p negative fraction)) ≡ Ok n → n < p
    by true e told = absurd cc
    by false e told =
        let same : fraction_residue p negative fraction ≡ n = cc in
        subst (λ m. m < p) same (fraction-below p prime negative fraction (λ none.
        let both : true ≡ false = sym (zero-vanishes p fraction none) ∙ e in cc))

-- The residue of a number modulo a prime is below it.
pub number-below : (p : ℕ) → IsPrime p → (text : List ℕ) (n : ℕ) → number_of p text ≡ Ok n → n < p
number-below p prime text n is = residue-below p prime (starts_with_minus text) (fraction_of (without_leading_sign text)) n is
