-- The residue of a fraction is the one number below p that is it.
use Rattle.std.proofs.Common.{◌≡◌, ◌≢◌, ℕ, ◌+◌, ◌-◌, ◌*◌, ◌%◌, ◌<◌, inl, inr, Bool, true, false, not, ◌&&◌, ◌||◌}
use Rattle.std.proofs.Common.{get_or, Some, Result, Ok, Err, IsErr, ◌↔◌, refl, sym, ap, ◌∙◌, arith, eqb, eqb-true}
use Rattle.std.proofs.Common.{eq-eqb, ne_eqb, ⊎_elim}
use Rattle.std.specs.Prelude.{IfOk, MatchResult}
use Rattle.std.specs.Result.{result_or}
use Rattle.std.specs.List.{position_or_len, range_with_len}
use Rattle.std.proofs.Math.Nat.{mod-eq_of_lt}
use Rattle.std.proofs.lemmas.Bool.{cases_lt, eqb-false, false_from_ne_true}
use Rattle.std.proofs.lemmas.List.FromFn.{get_or-range_with_len, length-range_with_len}
use Rattle.std.proofs.lemmas.List.Sums.{position_or_len_is}
use Rattle.residue_theory.specs.Residues.{IsPrime}
use Rattle.residue_theory.proofs.ResidueLaws.{agree-add, agree_of, lacks, vanishes_by, vanishes-rest, vanishes_factor}
use Rattle.residue_field.specs.Fractions.{Vanishes, IsFraction}
use Rattle.refusals.specs.declared.Why.{Why}
use Rattle.refusals.specs.declared.Why.TheVariants.{Vanish}
use Rattle.line_lexer.specs.declared.numbers.Ratio.{Ratio}
use Rattle.line_lexer.specs.Numbers.{vanishes, is_residue, fraction_residue, residue_of}

module _ (p : ℕ) (prime : IsPrime p) (den : ℕ) (non_zero : den % p ≢ 0) where
  -- what is added to a number and leaves its product vanishes
  nothing_added : (x more : ℕ) → (x * den) % p ≡ ((x + more) * den) % p → more % p ≡ 0
  nothing_added x more same =
      let whole : ((x + more) * den + (p - 1) * (x * den)) % p ≡ 0 =
      agree-add p ((x + more) * den) (x * den) ((p - 1) * (x * den)) ((p - 1) * (x * den)) (sym same) refl ∙ lacks p prime (x * den) in
      vanishes_factor p prime den more non_zero
      (vanishes-rest p (x * den + (p - 1) * (x * den)) (den * more)
      (vanishes_by p _ ((x + more) * den + (p - 1) * (x * den)) (omega arith) whole) (lacks p prime (x * den)))

  not_more : (x y : ℕ) → x < y → y < p → (x * den) % p ≢ (y * den) % p
  not_more x y less small same =
      let added : x + (y - x) ≡ y = omega arith in
      let none = nothing_added x (y - x) (same ∙ ap (λ z. (z * den) % p) (sym added)) in
      let zero_more : y - x ≡ 0 = sym (mod-eq_of_lt (let below : y - x < p = omega arith in below)) ∙ none in
      omega arith

  equal_products : (x y : ℕ) → x < p → y < p → (x * den) % p ≡ (y * den) % p → x ≡ y
  equal_products x y x_small y_small same = ⊎_elim
      (λ less. absurd (not_more x y less y_small same))
      (λ no_less. ⊎_elim
      (λ more. absurd (not_more y x more x_small (sym same)))
      (λ no_more. omega arith)
      (cases_lt y x))
      (cases_lt x y)

-- two residues of a fraction are the same
one_residue : (p : ℕ) (prime : IsPrime p) (negative : Bool) (fraction : Ratio) (x y : ℕ) →
    fraction.denominator % p ≢ 0 → x < p → y < p → is_residue p negative fraction x ≡ true →
    is_residue p negative fraction y ≡ true → x ≡ y
one_residue p prime false fraction x y non_zero x_small y_small at_x at_y =
    equal_products p prime fraction.denominator non_zero x y x_small y_small
    (eqb-true ((x * fraction.denominator) % p) (fraction.numerator % p) at_x
    ∙ sym (eqb-true ((y * fraction.denominator) % p) (fraction.numerator % p) at_y))
one_residue p prime true fraction x y non_zero x_small y_small at_x at_y =
    equal_products p prime fraction.denominator non_zero x y x_small y_small
    (agree_of p (x * fraction.denominator) fraction.numerator (y * fraction.denominator)
    (eqb-true ((x * fraction.denominator + fraction.numerator) % p) 0 at_x)
    (eqb-true ((y * fraction.denominator + fraction.numerator) % p) 0 at_y))

first_in_range : (test : ℕ → Bool) (n r : ℕ) → r < n → test r ≡ true → ((k : ℕ) → k < r → test k ≡ false) → position_or_len test (range_with_len 0 n) ≡ r
first_in_range test n r below passes fails =
    position_or_len_is test (range_with_len 0 n) r 0 (omega (arith, length-range_with_len 0 n))
    (λ k less. ap test (place k (omega arith)) ∙ fails k less)
    (λ within. ap test (place r below) ∙ passes)
  where
    place : (k : ℕ) → k < n → get_or (range_with_len 0 n) k 0 ≡ k
    place k less = get_or-range_with_len 0 n k 0 less ∙ omega arith

fraction_residue_is : (p : ℕ) (prime : IsPrime p) (negative : Bool) (fraction : Ratio) (r : ℕ) →
    fraction.denominator % p ≢ 0 → r < p → is_residue p negative fraction r ≡ true →
    fraction_residue p negative fraction ≡ r
unfolding fraction_residue
fraction_residue_is p prime negative fraction r non_zero below at_r =
    first_in_range (is_residue p negative fraction) p r below at_r
    (λ k less. false_from_ne_true (is_residue p negative fraction k) (λ at_k.
    let same = one_residue p prime negative fraction k r non_zero (omega arith) below at_k at_r in omega arith))

is_residue_true : (p : ℕ) (negative : Bool) (fraction : Ratio) (r : ℕ) →
    IsFraction p negative fraction.numerator fraction.denominator r → is_residue p negative fraction r ≡ true
is_residue_true p false fraction r is = eq-eqb ((r * fraction.denominator) % p) (fraction.numerator % p) is
is_residue_true p true fraction r is = eq-eqb ((r * fraction.denominator + fraction.numerator) % p) 0 is

vanishes_true : (p : ℕ) (fraction : Ratio) → Vanishes p fraction.numerator fraction.denominator → vanishes p fraction ≡ true
vanishes_true p fraction (inl e) = rw (eq-eqb (fraction.denominator % p) 0 e) refl
vanishes_true p fraction (inr why) = rw (ne_eqb fraction.numerator 0 why.0, eq-eqb (fraction.numerator % p) 0 why.1) (by (eqb (fraction.denominator % p) 0))
  where
    by : (b : Bool) → (b || true) ≡ true
    by true = refl
    by false = refl

vanishes_false : (p : ℕ) (fraction : Ratio) → (Vanishes p fraction.numerator fraction.denominator → ⊥) → vanishes p fraction ≡ false
vanishes_false p fraction stays = by (eqb (fraction.denominator % p) 0) refl (eqb fraction.numerator 0) refl (eqb (fraction.numerator % p) 0) refl
  where
    by : (a : Bool) → eqb (fraction.denominator % p) 0 ≡ a → (b : Bool) → eqb fraction.numerator 0 ≡ b → (c : Bool) →
        eqb (fraction.numerator % p) 0 ≡ c → (a || (not b && c)) ≡ false
    by true e b f c g = absurd (stays (inl (eqb-true (fraction.denominator % p) 0 e)))
    by false e true f c g = refl
    by false e false f true g = absurd (stays (inr (eqb-false fraction.numerator 0 f, eqb-true (fraction.numerator % p) 0 g)))
    by false e false f false g = refl

-- what is read of a fraction is its residue, where it has one
pub residue_read : {A E : Type 0} (p : ℕ) (prime : IsPrime p) (number : A → ℕ) (negative : Bool) (fraction : Ratio) (read : Result A E) →
    (IsErr read ↔ Vanishes p fraction.numerator fraction.denominator) →
    IfOk read (λ r. IsFraction p negative fraction.numerator fraction.denominator (number r)) →
    IfOk read (λ r. number r < p)
    → MatchResult read (λ r. residue_of p negative (Some fraction) ≡ Ok (number r)) (λ _. residue_of p negative (Some fraction) ≡ Err Vanish)
residue_read p prime number negative fraction (Ok r) vanish is below =
    rw (
      vanishes_false p fraction none,
      fraction_residue_is p prime negative fraction (number r)
          (λ e. none (inl e)) below (is_residue_true p negative fraction (number r) is),
    ) refl
  where
    none : Vanishes p fraction.numerator fraction.denominator → ⊥
    none why = let bad = vanish.1 why in let f : ⊥ = cc in f
residue_read p prime number negative fraction (Err error) vanish is below = rw (vanishes_true p fraction (vanish.0 refl)) refl

-- and every error is put in the place of another
pub replaced_read : {A E : Type 0} (number : A → ℕ) (read : Result A E) (wanted : Result ℕ Why) →
    MatchResult read (λ r. wanted ≡ Ok (number r)) (λ _. wanted ≡ Err Vanish)
    → MatchResult (result_or read (Err Vanish)) (λ r. wanted ≡ Ok (number r)) (λ why. wanted ≡ Err why)
replaced_read number (Ok r) wanted right = right
replaced_read number (Err error) wanted right = right
