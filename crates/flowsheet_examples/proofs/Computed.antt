-- What the definitions make of the examples, by computation.
use Rattle.std.proofs.Common.{◌≡◌, ℕ, ◌*◌, ◌%◌, ◌<◌, true, false, Result, Ok, List, [], ◌∷◌, codes, Some, refl, subst, inl, inr, arith}
use Rattle.std.specs.Fmt.{digits}
use Rattle.std.specs.Result.{IsErr}
use Rattle.residue_theory.proofs.Primes.{prime_65521}
use Rattle.residue_field.specs.Fractions.{Vanishes}
use Rattle.refusals.specs.declared.Place.TheVariants.{Document, Stream, Unit as Unit_of}
use Rattle.refusals.specs.declared.Why.{Why}
use Rattle.refusals.specs.declared.Why.TheVariants.{BadKind, BadValue, BadVersion, NotToml, Twice, UnknownKey}
use Rattle.toml.proofs.OnLiterals.{toml_on_literals}
use Rattle.line_lexer.specs.Numbers.{fraction_residue, residue_of}
use Rattle.line_lexer.proofs.ResidueLaws.{residue_read}
use Rattle.unit_equations.specs.declared.version.Version.TheVariants.{Two}
use Rattle.unit_equations.specs.Kinds.{tee}
use Rattle.flowsheet_reader.specs.Models.{BreaksFirst}
use Rattle.flowsheet_reader.specs.Sheets.{Sheet, sheet_without_units, sheet_with_unit}
use Rattle.flowsheet_examples.specs.Examples.{IsRefusedFor, ReadsAs, separator_sheet, separator_text, tee_sheet, tee_text}

pub separator_read : (p : ℕ) → ReadsAs p separator_text (separator_sheet p)
unfolding toml_on_literals
separator_read p = (_, refl, refl)

pub not_toml : (p : ℕ) → BreaksFirst p (codes "= 3") (record { place = Document; why = NotToml })
unfolding toml_on_literals
not_toml p = inl (refl, λ utf8. refl)

pub unknown_key : (p : ℕ) → IsRefusedFor p (codes "a = 1") Document UnknownKey
unfolding toml_on_literals
unknown_key p = (_, refl, refl)

pub bad_version : (p : ℕ) → IsRefusedFor p (codes "version = 3") Document BadVersion
unfolding toml_on_literals
bad_version p = (_, refl, refl)

pub stream_twice : (p : ℕ) → IsRefusedFor p (codes "streams = [\"s1\", \"s1\"]") (Stream 2) Twice
unfolding toml_on_literals
stream_twice p = (_, refl, refl)

pub bad_kind : (p : ℕ) → IsRefusedFor p (codes "[[unit]]\nname = \"P\"\nkind = \"pump\"") (Unit_of 1) BadKind
unfolding toml_on_literals
bad_kind p = (_, refl, refl)

pub one_fraction : IsRefusedFor 65521 (tee_text (codes "\"1/2\"")) (Unit_of 1) BadValue
unfolding toml_on_literals
one_fraction = (_, refl, refl)

-- the tee with these fractions
abbrev tee_with : ℕ → ℕ → Sheet
tee_with first second =
    let streams : List (List ℕ) = codes "s2" ∷ codes "s3" ∷ codes "s4" ∷ [] in
    sheet_with_unit (sheet_without_units Two (codes "A" ∷ []) (codes "s1" ∷ streams)) (codes "T")
    (tee 65521 Two (codes "A" ∷ []) (codes "T") (codes "s1") streams (first ∷ second ∷ []))

abbrev residue : ℕ → ℕ
residue denominator = fraction_residue 65521 false (record { numerator = 1; denominator = denominator })

abbrev read : ℕ → Result ℕ Why
read r = Ok r

not_failed : {A : Type 0} (r : ℕ) → IsErr (read r) → A
not_failed r failed = absurd (apart failed)
  where
    apart : false ≡ true → ⊥
    apart e = let f : ⊥ = cc in f

-- a number that is 1 over another
one_over : (denominator r : ℕ) → (denominator % 65521 ≡ 0 → ⊥) → (r * denominator) % 65521 ≡ 1 → r < 65521 →
    residue_of 65521 false (Some (record { numerator = 1; denominator = denominator })) ≡ Ok r
one_over denominator r stays is below = residue_read 65521 prime_65521 (λ n. n) false (record { numerator = 1; denominator = denominator }) (read r)
    (λ failed. not_failed r failed, λ why. absurd (none why)) is below
  where
    none : Vanishes 65521 1 denominator → ⊥
    none (inl e) = stays e
    none (inr (some, e)) = let other : 1 ≡ 0 = e in absurd (omega (arith, other))

residue_is : (r s : ℕ) → read r ≡ read s → r ≡ s
residue_is r s same = let told : r ≡ s = cc in told

half : residue 2 ≡ 32761
half = residue_is (residue 2) 32761 (one_over 2 32761 (λ e. absurd (omega (arith, e))) refl (omega arith))

third : residue 3 ≡ 43681
third = residue_is (residue 3) 43681 (one_over 3 43681 (λ e. absurd (omega (arith, e))) refl (omega arith))

with_residues : ReadsAs 65521 (tee_text (codes "\"1/2\", \"1/3\"")) (tee_with (residue 2) (residue 3))
unfolding toml_on_literals
with_residues = (_, refl, refl)

pub tee_read : ReadsAs 65521 (tee_text (codes "\"1/2\", \"1/3\"")) tee_sheet
unfolding digits
tee_read = subst (ReadsAs 65521 (tee_text (codes "\"1/2\", \"1/3\""))) (λ i. tee_with (half i) (third i)) with_residues
