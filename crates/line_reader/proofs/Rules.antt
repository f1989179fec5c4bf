-- Rules of lines that go on, and the first broken one.
use Rattle.std.proofs.Common.{◌≡◌, ℕ, ◌<◌, List, [], ◌∷◌, ◌++◌, length, map, take, get_or, Option, Some, None, refl}
use Rattle.std.proofs.Common.{sym, ap, subst, ◌∙◌, inl, inr, arith, below_more, length-append}
use Rattle.std.specs.Option.{option_or}
use Rattle.std.proofs.Math.Seq.{take-append_seam, get_or-append_seam}
use Rattle.std.proofs.lemmas.Bool.{cases_order}
use Rattle.std.proofs.lemmas.List.{take-append-le, get_or_append_left}
use Rattle.refusals.specs.declared.Why.{Why}
use Rattle.line_lexer.specs.Lines.{lines_of}
use Rattle.line_reader.specs.LineRules.{Rules, KeepBefore, KeepsAll, IsFirstBroken, line_rule, rule_at, words_in}

-- the first of two rules is broken, or kept
pub first_broken : (first next : Option Why) (why : Why) → first ≡ Some why → option_or first next ≡ Some why
first_broken first next why e = rw e refl

pub first_kept : (first next : Option Why) → first ≡ None → option_or first next ≡ next
first_kept first next e = rw e refl

-- a text that keeps all rules has no first broken one
pub keeps-unbroken : (rules : Rules) (text : List ℕ) (n : ℕ) (why : Why) → KeepsAll rules text → IsFirstBroken rules text n why → ⊥
keeps-unbroken rules text n why keeps first = let both : None ≡ Some why = sym (keeps n first.within) ∙ first.here in cc

-- two are the same
pub first_broken-one : (rules : Rules) (text : List ℕ) (m n : ℕ) (v w : Why) → IsFirstBroken rules text m v → IsFirstBroken rules text n w → (m ≡ n) × (v ≡ w)
first_broken-one rules text m n v w first second = elim (cases_order m n) [
  | inl same ↦ (
    same,
    let both : Some v ≡ Some w = sym first.here ∙ ap (rule_at rules (lines_of text)) same ∙ second.here in
        let told : v ≡ w = cc in told,
  )
  | inr (inl less) ↦ let both : None ≡ Some v = sym (second.before m less) ∙ first.here in absurd cc
  | inr (inr more) ↦ let both : None ≡ Some w = sym (first.before n more) ∙ second.here in absurd cc
]

-- later lines don't change what the rules say of a line
pub rule_at-front : (rules : Rules) (lines more : List (List ℕ)) (k : ℕ) → k < length lines → rule_at rules (lines ++ more) k ≡ rule_at rules lines k
rule_at-front rules lines more k within =
    ap (λ before. line_rule rules (map (words_in rules) before) (get_or (lines ++ more) k [])) (take-append-le k lines more (omega arith))
    ∙ ap (line_rule rules (map (words_in rules) (take k lines))) (get_or_append_left lines more [] k within)

pub rule_at-here : (rules : Rules) (lines : List (List ℕ)) (line : List ℕ) (more : List (List ℕ)) →
    rule_at rules (lines ++ line ∷ more) (length lines) ≡ line_rule rules (map (words_in rules) lines) line
rule_at-here rules lines line more =
    ap (λ before. line_rule rules (map (words_in rules) before) (get_or (lines ++ line ∷ more) (length lines) [])) (take-append_seam lines (line ∷ more))
    ∙ ap (line_rule rules (map (words_in rules) lines)) (get_or-append_seam lines line more [])

pub KeepBefore-front : (rules : Rules) (lines more : List (List ℕ)) → KeepBefore rules (length lines) lines → KeepBefore rules (length lines) (lines ++ more)
KeepBefore-front rules lines more kept = λ k within. rule_at-front rules lines more k within ∙ kept k within

-- one line more keeps the rules
pub KeepBefore-more : (rules : Rules) (lines : List (List ℕ)) (line : List ℕ) → KeepBefore rules (length lines) lines →
    line_rule rules (map (words_in rules) lines) line ≡ None → KeepBefore rules (length (lines ++ line ∷ []))
    (lines ++ line ∷ [])
KeepBefore-more rules lines line kept here =
    subst (λ n. KeepBefore rules n (lines ++ line ∷ [])) (sym (length-append lines (line ∷ [])))
    (below_more (λ k. rule_at rules (lines ++ line ∷ []) k ≡ None) (length lines)
    (KeepBefore-front rules lines (line ∷ []) kept) (rule_at-here rules lines line [] ∙ here))

-- or it breaks one
pub first_broken-here : (rules : Rules) (text : List ℕ) (lines : List (List ℕ)) (line : List ℕ)
    (more : List (List ℕ)) (why : Why) → lines_of text ≡ lines ++ line ∷ more → KeepBefore rules (length lines) lines →
    line_rule rules (map (words_in rules) lines) line ≡ Some why → IsFirstBroken rules text (length lines) why
first_broken-here rules text lines line more why whole kept here = record {
  within = omega (arith, ap length whole, length-append lines (line ∷ more));
  before = subst (KeepBefore rules (length lines)) (sym whole) (KeepBefore-front rules lines (line ∷ more) kept);
  here = ap (λ all. rule_at rules all (length lines)) whole ∙ rule_at-here rules lines line more ∙ here;
}
