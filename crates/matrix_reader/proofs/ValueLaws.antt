-- The value of an item: where it ends with a symbol, and the number before that.
use Rattle.std.proofs.Common.{◌≡◌, ◌≢◌, ℕ, ◌-◌, Bool, true, false, cond, List, ◌++◌, length, take, drop, codes, Some}
use Rattle.std.proofs.Common.{None, Result, Ok, Err, unwrap_or, refl, sym, ap, ◌∙◌, arith, length-append, eqb, eqb-true}
use Rattle.std.specs.Result.{result_err, result_unwrap_or}
use Rattle.std.proofs.Math.Seq.{take-append_seam, drop-append_seam}
use Rattle.std.proofs.lemmas.Bool.{eqb-false, false_from_ne_true}
use Rattle.std.proofs.lemmas.List.{take-append-drop}
use Rattle.std.proofs.lemmas.Slice.Eq.{bytes_eq-Decides}
use Rattle.refusals.specs.declared.Why.{Why}
use Rattle.line_lexer.specs.Numbers.{number_of}
use Rattle.matrix_reader.specs.Items.{is_symbol, adds_symbol, number_text, unless_zero, value_constant, value_symbol}
use Rattle.matrix_reader.specs.Rules.{value_rule}

-- a value that ends with a symbol
ends_at : (value text : List ℕ) → value ≡ text ++ codes "+?" → length value - 2 ≡ length text
ends_at value text e = omega (arith, ap length e, length-append text (codes "+?"))

adds_symbol_true : (value text : List ℕ) → value ≡ text ++ codes "+?" → adds_symbol value ≡ true
adds_symbol_true value text e =
    (bytes_eq-Decides (drop (length value - 2) value) (codes "+?")).1
    (ap (λ n. drop n value) (ends_at value text e) ∙ ap (drop (length text)) e ∙ drop-append_seam text (codes "+?"))

number_before : (value text : List ℕ) → value ≡ text ++ codes "+?" → number_text value ≡ text
number_before value text e =
    ap (λ b. cond b (take (length value - 2) value) value) (adds_symbol_true value text e)
    ∙ ap (λ n. take n value) (ends_at value text e) ∙ ap (take (length text)) e ∙ take-append_seam text (codes "+?")

-- and one that does not
adds_symbol_false : (value : List ℕ) → ((front : List ℕ) → value ≢ front ++ codes "+?") → adds_symbol value ≡ false
adds_symbol_false value none = false_from_ne_true (adds_symbol value) (λ adds.
    none (take (length value - 2) value)
    (sym (take-append-drop (length value - 2) value)
    ∙ ap (λ back. take (length value - 2) value ++ back) ((bytes_eq-Decides (drop (length value - 2) value) (codes "+?")).0 adds)))

no_symbol : (value : List ℕ) → adds_symbol value ≡ false → number_text value ≡ value
no_symbol value none = ap (λ b. cond b (take (length value - 2) value) value) none

module _ (p : ℕ) (value : List ℕ) (lone : is_symbol value ≡ false) where
  rule_here : (text : List ℕ) (read : Result ℕ Why) → number_text value ≡ text → number_of p text ≡ read → value_rule p value ≡ result_err read
  rule_here text read number is = rw lone (ap result_err (ap (number_of p) number ∙ is))

  constant_here : (text : List ℕ) (constant : ℕ) → number_text value ≡ text → number_of p text ≡ Ok constant → constant ≡ value_constant p value
  constant_here text constant number is = rw lone (sym (ap (λ read. result_unwrap_or read 0) (ap (number_of p) number ∙ is)))

  symbol_here : (adds : Bool) → adds_symbol value ≡ adds → adds ≡ value_symbol value
  symbol_here adds e = rw (lone, e) refl

  -- a number and a symbol
  pub read_before : (text : List ℕ) (constant : ℕ) → value ≡ text ++ codes "+?" → number_of p text ≡ Ok constant
      → (value_rule p value ≡ None) × (constant ≡ value_constant p value) × (true ≡ value_symbol value)
  read_before text constant split is = (
    rule_here text (Ok constant) (number_before value text split) is,
    constant_here text constant (number_before value text split) is,
    symbol_here true (adds_symbol_true value text split),
  )

  -- what stands before a symbol is no number
  pub broken_before : (text : List ℕ) (why : Why) → value ≡ text ++ codes "+?" → number_of p text ≡ Err why → value_rule p value ≡ Some why
  broken_before text why split is = rule_here text (Err why) (number_before value text split) is

  -- a number without a symbol
  pub read_alone : (constant : ℕ) → ((front : List ℕ) → value ≢ front ++ codes "+?") → number_of p value ≡ Ok constant
      → (value_rule p value ≡ None) × (constant ≡ value_constant p value) × (false ≡ value_symbol value)
  read_alone constant none is =
      let plain = adds_symbol_false value none in (
        rule_here value (Ok constant) (no_symbol value plain) is,
        constant_here value constant (no_symbol value plain) is,
        symbol_here false plain,
      )

  -- no number, and no symbol
  pub broken_alone : (why : Why) → ((front : List ℕ) → value ≢ front ++ codes "+?") → number_of p value ≡ Err why → value_rule p value ≡ Some why
  broken_alone why none is = rule_here value (Err why) (no_symbol value (adds_symbol_false value none)) is

-- a symbol alone
pub read_symbol : (p : ℕ) (value : List ℕ) (constant : ℕ) → is_symbol value ≡ true → constant ≡ 0 →
    (value_rule p value ≡ None) × (constant ≡ value_constant p value) × (true ≡ value_symbol value)
read_symbol p value constant alone none = (rw alone refl, rw alone none, rw alone refl)

-- a constant where it is not 0, or else 0
pub or_zero : (constant : ℕ) → unwrap_or (unless_zero constant) 0 ≡ constant
or_zero constant = by (eqb constant 0) refl
  where
    by : (none : Bool) → eqb constant 0 ≡ none → unwrap_or (cond none None (Some constant)) 0 ≡ constant
    by true e = sym (eqb-true constant 0 e)
    by false e = refl

-- and it is none that is 0
pub unless_zero-some : (constant : ℕ) → unless_zero constant ≢ Some 0
unless_zero-some constant = by (eqb constant 0) refl
  where
    by : (none : Bool) → eqb constant 0 ≡ none → cond none None (Some constant) ≢ Some 0
    by true e = λ same. let f : ⊥ = cc in f
    by false e = λ same. let zero_there : constant ≡ 0 = ap (λ o. unwrap_or o 0) same in eqb-false constant 0 e zero_there
