-- The first broken rule is found by going over the lines; and what holds line by line holds of a text that keeps all.
use Rattle.std.proofs.Common.{◌≡◌, ℕ, zero, suc, ◌+◌, ◌<◌, ◌≤◌, Bool, true, false, cond, List, [], ◌∷◌, ◌++◌, length}
use Rattle.std.proofs.Common.{map, take, get_or, Option, Some, None, refl, sym, ap, subst, ◌∙◌, ◌⊎◌, inl, inr, arith}
use Rattle.std.proofs.Common.{below_more}
use Rattle.std.specs.Option.{option_or}
use Rattle.std.proofs.Math.Seq.{take-length}
use Rattle.std.proofs.lemmas.List.{map_more}
use Rattle.refusals.specs.declared.Why.{Why}
use Rattle.refusals.specs.declared.Why.TheVariants.{BadByte}
use Rattle.line_lexer.specs.Lines.{lines_of}
use Rattle.line_lexer.specs.Tokens.{is_clean}
use Rattle.line_reader.specs.LineRules.{Rules, KeepBefore, KeepsAll, IsFirstBroken, content, line_rule, rule_at, words_in}

-- a rule is kept, or this is why it is broken
pub kept_or_broken : (rule : Option Why) → (rule ≡ None) ⊎ ((why : Why) × (rule ≡ Some why))
kept_or_broken None = inl refl
kept_or_broken (Some why) = inr (why, refl)

-- where the first broken of two rules is none, both are kept
pub both_kept : (first next : Option Why) → option_or first next ≡ None → (first ≡ None) × (next ≡ None)
both_kept None next e = (refl, e)
both_kept (Some why) next e = absurd cc

-- a test that a rule wants holds where the rule is kept, and one that it forbids fails
pub wanted : (b : Bool) (why : Why) → cond b None (Some why) ≡ None → b ≡ true
wanted true why e = refl
wanted false why e = absurd cc

pub forbidden : (b : Bool) (why : Why) (next : Option Why) → cond b (Some why) next ≡ None → (b ≡ false) × (next ≡ None)
forbidden true why next e = absurd cc
forbidden false why next e = (refl, e)

-- of the rules below n, m is the first that is broken
pub record IsFirstBelow (rule : ℕ → Option Why) (n m : ℕ) (why : Why) : Type 0 where
  pub within : m < n
  pub before : (k : ℕ) → k < m → rule k ≡ None
  pub here : rule m ≡ Some why

-- all below n are kept, or one is the first that is broken
pub first_below : (rule : ℕ → Option Why) (n : ℕ) → ((k : ℕ) → k < n → rule k ≡ None) ⊎ ((m : ℕ) × (why : Why) × IsFirstBelow rule n m why)
first_below rule zero = inl (λ k low. absurd (omega arith))
first_below rule (suc n) = by (first_below rule n) (kept_or_broken (rule n))
  where
    by : ((k : ℕ) → k < n → rule k ≡ None) ⊎ ((m : ℕ) × (why : Why) × IsFirstBelow rule n m why) →
        (rule n ≡ None) ⊎ ((why : Why) × (rule n ≡ Some why)) →
        ((k : ℕ) → k < suc n → rule k ≡ None) ⊎ ((m : ℕ) × (why : Why) × IsFirstBelow rule (suc n) m why)
    by (inl kept) (inl here) = inl (λ k low. below_more (λ k. rule k ≡ None) n kept here k (omega (arith, low)))
    by (inl kept) (inr (why, here)) = inr (n, why, record { within = omega arith; before = kept; here = here })
    by (inr (m, why, first)) last = inr (m, why, record { within = omega (arith, first.within); before = first.before; here = first.here })

-- each text keeps all rules, or has a first broken one
pub each_text : (rules : Rules) (text : List ℕ) → KeepsAll rules text ⊎ ((n : ℕ) × (why : Why) × IsFirstBroken rules text n why)
each_text rules text = by (first_below (rule_at rules (lines_of text)) (length (lines_of text)))
  where
    by : KeepsAll rules text ⊎ ((n : ℕ) × (why : Why) × IsFirstBelow (rule_at rules (lines_of text)) (length (lines_of text)) n why) →
        KeepsAll rules text ⊎ ((n : ℕ) × (why : Why) × IsFirstBroken rules text n why)
    by (inl kept) = inl kept
    by (inr (n, why, first)) = inr (n, why, record { within = first.within; before = first.before; here = first.here })

-- a line that keeps its rules keeps that of its words
words_kept : (rules : Rules) (before : List (List (List ℕ))) (line : List ℕ) → line_rule rules before line ≡ None →
    rules.words before (words_in rules line) ≡ None
words_kept rules before line kept = by (is_clean (content rules line)) kept
  where
    by : (b : Bool) → cond b (rules.words before (words_in rules line)) (Some BadByte) ≡ None → rules.words before (words_in rules line) ≡ None
    by true e = e
    by false e = absurd cc

-- What holds of no lines, and of each line more that keeps the rule of words, holds of the lines of a text that keeps
-- all rules.
module _ (rules : Rules) (Holds : List (List (List ℕ)) → Type 0) (none : Holds [])
    (more : (before : List (List (List ℕ))) (words : List (List ℕ)) → Holds before → rules.words before words ≡ None → Holds (before ++ words ∷ [])) where
  of_first : (lines : List (List ℕ)) (n : ℕ) → n ≤ length lines → KeepBefore rules n lines → Holds (map (words_in rules) (take n lines))
  of_first lines zero within kept = none
  of_first lines (suc n) within kept =
      let words = words_in rules (get_or lines n []) in
      let before = map (words_in rules) (take n lines) in
      let longer : map (words_in rules) (take (n + 1) lines) ≡ before ++ words ∷ [] = map_more (words_in rules) lines n [] (omega (arith, within)) in
      let next : n + 1 ≡ suc n = omega arith in
      subst Holds (sym longer ∙ ap (λ m. map (words_in rules) (take m lines)) next)
      (more before words (of_first lines n (omega (arith, within)) (λ k low. kept k (omega (arith, low))))
      (words_kept rules before (get_or lines n []) (kept n (omega arith))))

  pub of_kept : (text : List ℕ) → KeepsAll rules text → Holds (map (words_in rules) (lines_of text))
  of_kept text kept =
      let lines = lines_of text in
      subst (λ first. Holds (map (words_in rules) first)) (take-length lines) (of_first lines (length lines) (omega arith) kept)
