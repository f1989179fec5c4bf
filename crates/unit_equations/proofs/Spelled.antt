-- Texts of letters, digits and points, which may be names in a model.
use Rattle.std.proofs.Common.{◌≡◌, ℕ, ◌+◌, ◌<◌, ◌≤◌, ◌^◌, true, ◌&&◌, IsTrue, List, [], ◌∷◌, ◌++◌, length, codes, refl, ap, ◌∙◌, arith, length-append, leb}
use Rattle.std.specs.Char.{digit_value}
use Rattle.std.specs.Fmt.{decimal}
use Rattle.std.specs.List.{list_all}
use Rattle.std.specs.Str.Parse.{AllDigits}
use Rattle.std.proofs.lemmas.Bool.{le-leb}
use Rattle.std.proofs.lemmas.Bool.Decides.{nat_tests}
use Rattle.std.proofs.lemmas.Fmt.{decimal_is_IsNumeral, length-decimal-le}
use Rattle.std.proofs.lemmas.List.Folds.{list_all-append}
use Rattle.line_lexer.specs.Names.{begins_name, continues_name, is_short_name}
use Rattle.mixed_model.specs.Names.{is_label}
use Rattle.term_model.specs.Terms.{dotted}
use Rattle.term_model.proofs.Labels.{all_solid, begins-continues}
use Rattle.unit_equations.proofs.Dots.{is_dotless}

-- 1 to n bytes, each of which may continue a name
pub record IsSpelled (text : List ℕ) (n : ℕ) : Type 0 where
  pub some : 1 ≤ length text
  pub bytes : list_all continues_name text ≡ true
  pub short : length text ≤ n

-- a name without points, of at most 30 bytes
pub record IsShort (name : List ℕ) : Type 0 where
  pub spelled : IsSpelled name 30
  pub dotless : is_dotless name ≡ true

pub short-name : (name : List ℕ) → is_short_name name ≡ true → IsShort name
short-name [] h = let f : ⊥ = cc in absurd f
short-name (byte ∷ bytes) h =
    let first : begins_name byte ≡ true = grind (arith, nat_tests) in
    let others : list_all continues_name bytes ≡ true = grind (arith, nat_tests) in
    record {
      spelled = record { some = omega arith; bytes = rw (begins-continues byte first) others; short = grind (arith, nat_tests) };
      dotless = grind (arith, nat_tests);
    }

pub spelled-dotted : (a b : List ℕ) (m n : ℕ) → IsSpelled a m → IsSpelled b n → IsSpelled (dotted a b) (m + 1 + n)
spelled-dotted a b m n first second =
    let long : length (dotted a b) ≡ length a + 1 + length b = length-append (a ++ codes ".") b ∙ ap (λ n. n + length b) (length-append a (codes ".")) in
    let front : list_all continues_name (a ++ codes ".") ≡ true = list_all-append continues_name a (codes ".") ∙ ap (λ t. t && true) first.bytes in
    record {
      some = omega (arith, long);
      bytes = list_all-append continues_name (a ++ codes ".") b ∙ (λ t. front t && second.bytes t);
      short = omega (arith, long, first.short, second.short);
    }

pub spelled-more : (text : List ℕ) (m n : ℕ) → IsSpelled text m → m ≤ n → IsSpelled text n
spelled-more text m n is less = record { some = is.some; bytes = is.bytes; short = omega (arith, is.short, less) }

digit-continues : (byte : ℕ) → digit_value byte < 10 → continues_name byte ≡ true
digit-continues byte h = grind (arith, nat_tests)

digits-continue : (bytes : List ℕ) → AllDigits 10 bytes → list_all continues_name bytes ≡ true
digits-continue [] all = refl
digits-continue (byte ∷ bytes) all = rw (digit-continues byte all.0) (digits-continue bytes all.1)

pub decimal-spelled : (k : ℕ) → k < 2 ^ 64 → IsSpelled (decimal k) 20
decimal-spelled k small =
    let is = decimal_is_IsNumeral k small in
    record {
      some = is.0.0;
      bytes = digits-continue (decimal k) is.0.1;
      short = length-decimal-le 20 k (omega arith) (omega (arith, small)) small;
    }

pub spelled-label : (text : List ℕ) → IsSpelled text 96 → IsTrue (is_label text)
spelled-label text is =
    let some : leb 1 (length text) ≡ true = le-leb 1 (length text) is.some in
    let few : leb (length text) 96 ≡ true = le-leb (length text) 96 is.short in
    (λ t. some t && few t && all_solid text is.bytes t)
