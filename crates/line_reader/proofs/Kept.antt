-- What is kept of a line, and what is read by it.
use Rattle.std.proofs.Common.{◌≡◌, ℕ, Bool, true, false, ◌||◌, ◌&&◌, List, [], ◌++◌, map, inl, inr, if◌then◌else◌, Some, refl, sym, ap, subst, ◌∙◌}
use Rattle.std.specs.List.{list_all, list_any}
use Rattle.std.specs.Str.Lines.{strip_carriage_return}
use Rattle.std.proofs.lemmas.List.Folds.{list_any-append}
use Rattle.refusals.specs.declared.Why.TheVariants.{BadByte}
use Rattle.line_lexer.specs.Tokens.{is_blank, is_clean, is_comment_sign, is_text_byte, tokens_from, uncommented}
use Rattle.line_reader.specs.LineRules.{Rules, content, is_remark, line_rule, words_in}
use Rattle.line_reader.specs.Readings.{is_commented, kept_of}
use Rattle.line_reader.proofs.Blanks.{blanks-uncommented, blanks-text, blanks-tokens}
use Rattle.line_reader.proofs.Comments.{uncommented-commented, uncommented-whole, uncommented-behind, ended-same}
use Rattle.line_reader.proofs.Cuts.{or_false-first, or_false-second}
use Rattle.line_reader.proofs.Remarks.{and_false, remark-none, remark-append, remark-more, uncommented-plain, stripped-plain, stripped-remark}

-- lines of which the same is read
pub record ReadsSame (rules : Rules) (line other : List ℕ) : Type 0 where
  pub clean : is_clean (content rules line) ≡ is_clean (content rules other)
  pub words : words_in rules line ≡ words_in rules other

pub line_rule-same : (rules : Rules) (before : List (List (List ℕ))) (line other : List ℕ) →
    ReadsSame rules line other → line_rule rules before line ≡ line_rule rules before other
line_rule-same rules before line other same =
    ap (λ b. if b then rules.words before (words_in rules line) else Some BadByte) same.clean
    ∙ ap (λ words. if is_clean (content rules other) then rules.words before words else Some BadByte) same.words

pub same-sym : (rules : Rules) (line other : List ℕ) → ReadsSame rules line other → ReadsSame rules other line
same-sym rules line other same = record { clean = sym same.clean; words = sym same.words }

pub same-trans : (rules : Rules) (line other more : List ℕ) → ReadsSame rules line other → ReadsSame rules other more → ReadsSame rules line more
same-trans rules line other more first second = record { clean = first.clean ∙ second.clean; words = first.words ∙ second.words }

same-kept : (rules : Rules) (line other : List ℕ) → kept_of rules line ≡ kept_of rules other → ReadsSame rules line other
same-kept rules line other same = record {
  clean = ap (list_all is_text_byte) same;
  words = ap (λ text. map (λ (token : ℕ × List ℕ). token.1) (tokens_from 0 text)) same;
}

-- a comment as a whole, and any other line
content-remark : (rules : Rules) (line : List ℕ) → is_remark rules.remark line ≡ true → content rules line ≡ []
content-remark rules line some = rw some refl

content-plain : (rules : Rules) (line : List ℕ) → is_remark rules.remark line ≡ false → content rules line ≡ line
content-plain rules line none = rw none refl

content-none : (rules : Rules) → content rules [] ≡ []
content-none rules = content-plain rules [] (remark-none rules.remark)

pub kept-none : (rules : Rules) → kept_of rules [] ≡ []
kept-none rules = ap uncommented (content-none rules)

pub commented-none : (rules : Rules) → is_commented rules [] ≡ false
commented-none rules = rw (remark-none rules.remark) refl

same-remark : (rules : Rules) (line : List ℕ) → is_remark rules.remark line ≡ true → ReadsSame rules [] line
same-remark rules line some = same-kept rules [] line (kept-none rules ∙ sym (ap uncommented (content-remark rules line some)))

-- of blanks nothing is read
same-blanks : (rules : Rules) (line : List ℕ) → list_all is_blank line ≡ true → ReadsSame rules [] line
same-blanks rules line blanks = by (is_remark rules.remark line) refl
  where
    whole : uncommented line ≡ line
    whole = uncommented-whole line (blanks-uncommented line blanks)

    clean : is_clean line ≡ true
    clean = ap (list_all is_text_byte) whole ∙ blanks-text line blanks

    tokens : tokens_from 0 (uncommented line) ≡ []
    tokens = ap (tokens_from 0) whole ∙ blanks-tokens 0 line blanks

    by : (b : Bool) → is_remark rules.remark line ≡ b → ReadsSame rules [] line
    by true some = same-remark rules line some
    by false none = record {
      clean = ap is_clean (content-none rules) ∙ sym clean ∙ sym (ap is_clean (content-plain rules line none));
      words =
          ap (λ text. map (λ (token : ℕ × List ℕ). token.1) (tokens_from 0 text)) (kept-none rules)
          ∙ sym (ap (map (λ (token : ℕ × List ℕ). token.1)) tokens)
          ∙ sym (ap (λ text. map (λ (token : ℕ × List ℕ). token.1) (tokens_from 0 (uncommented text))) (content-plain rules line none));
    }

-- By what is kept of an ended line the same is read as by the line without a carriage return.
pub ended-reads_same : (rules : Rules) (bytes : List ℕ) →
    ReadsSame rules (if is_commented rules bytes then kept_of rules bytes else strip_carriage_return
    (kept_of rules bytes)) (strip_carriage_return bytes)
ended-reads_same rules bytes = by (is_remark rules.remark bytes) refl
  where
    given : List ℕ
    given = if list_any is_comment_sign bytes then uncommented bytes else strip_carriage_return (uncommented bytes)

    given-plain : is_remark rules.remark bytes ≡ false → (b : Bool) →
        is_remark rules.remark (if b then uncommented bytes else strip_carriage_return (uncommented bytes)) ≡ false
    given-plain none true = uncommented-plain rules.remark bytes none
    given-plain none false = stripped-plain rules.remark (uncommented bytes) (uncommented-plain rules.remark bytes none)

    by : (b : Bool) → is_remark rules.remark bytes ≡ b →
        ReadsSame rules (if b || list_any is_comment_sign bytes then uncommented
        (if b then [] else bytes) else strip_carriage_return (uncommented (if b then [] else bytes)))
        (strip_carriage_return bytes)
    by true some = elim (stripped-remark rules.remark bytes some) [
      | inl here ↦ same-remark rules (strip_carriage_return bytes) here
      | inr blanks ↦ same-blanks rules (strip_carriage_return bytes) blanks
    ]
    by false none = same-kept rules given (strip_carriage_return bytes) (
        ap uncommented (content-plain rules given (given-plain none (list_any is_comment_sign bytes)))
        ∙ ended-same bytes
        ∙ sym (ap uncommented (content-plain rules (strip_carriage_return bytes) (stripped-plain rules.remark bytes none)))
        )

-- lines of which the same is kept
pub stripped-same : (rules : Rules) (line bytes : List ℕ) → kept_of rules line ≡ kept_of rules bytes →
    is_commented rules line ≡ is_commented rules bytes → ReadsSame rules (strip_carriage_return line)
    (strip_carriage_return bytes)
stripped-same rules line bytes same sign = same-trans rules (strip_carriage_return line)
    (given (is_commented rules bytes) (kept_of rules bytes)) (strip_carriage_return bytes)
    (same-sym rules (given (is_commented rules bytes) (kept_of rules bytes)) (strip_carriage_return line) by_bytes)
    (ended-reads_same rules bytes)
  where
    given : Bool → List ℕ → List ℕ
    given commented kept = if commented then kept else strip_carriage_return kept

    by_bytes : ReadsSame rules (given (is_commented rules bytes) (kept_of rules bytes)) (strip_carriage_return line)
    by_bytes =
        subst (λ b. ReadsSame rules (given b (kept_of rules bytes)) (strip_carriage_return line)) sign
        (subst (λ kept. ReadsSame rules (given (is_commented rules line) kept) (strip_carriage_return line)) same (ended-reads_same rules line))

-- a line in which no comment has begun
module _ (rules : Rules) (rest : List ℕ) (plain : is_commented rules rest ≡ false) where
  no_remark : is_remark rules.remark rest ≡ false
  no_remark = or_false-first (is_remark rules.remark rest) (list_any is_comment_sign rest) plain

  no_sign : list_any is_comment_sign rest ≡ false
  no_sign = or_false-second (is_remark rules.remark rest) (list_any is_comment_sign rest) plain

  pub kept-whole : kept_of rules rest ≡ rest
  kept-whole = ap uncommented (content-plain rules rest no_remark) ∙ uncommented-whole rest no_sign

  -- a part that makes it no comment as a whole
  pub kept-plain : (part : List ℕ) → (is_remark rules.remark part && list_all is_blank rest) ≡ false
      → (kept_of rules (rest ++ part) ≡ kept_of rules rest ++ uncommented part) × (is_commented rules (rest ++ part) ≡ list_any is_comment_sign part)
  kept-plain part none =
      let whole = remark-append rules.remark rest part no_remark ∙ none in (
        ap uncommented (content-plain rules (rest ++ part) whole) ∙ uncommented-behind rest part no_sign
            ∙ ap (λ front. front ++ uncommented part) (sym kept-whole),
        rw (whole, list_any-append is_comment_sign rest part, no_sign) refl,
      )

  -- and one that makes it a comment as a whole
  pub kept-remark : (part : List ℕ) → (is_remark rules.remark part && list_all is_blank rest) ≡ true
      → (kept_of rules (rest ++ part) ≡ []) × (is_commented rules (rest ++ part) ≡ true)
  kept-remark part some =
      let whole = remark-append rules.remark rest part no_remark ∙ some in (
        ap uncommented (content-remark rules (rest ++ part) whole),
        rw whole refl,
      )

-- in a comment stands a byte that is no blank
sign-unblank : (line : List ℕ) → list_any is_comment_sign line ≡ true → list_all is_blank line ≡ false
sign-unblank line some = by (list_all is_blank line) refl
  where
    by : (b : Bool) → list_all is_blank line ≡ b → list_all is_blank line ≡ false
    by true blanks = let both : true ≡ false = sym some ∙ blanks-uncommented line blanks in absurd cc
    by false here = here

-- a part behind a comment
pub kept-commented : (rules : Rules) (rest part : List ℕ) → is_commented rules rest ≡ true →
    (kept_of rules (rest ++ part) ≡ kept_of rules rest) × (is_commented rules (rest ++ part) ≡ true)
kept-commented rules rest part commented = by (is_remark rules.remark rest) refl commented
  where
    by : (b : Bool) → is_remark rules.remark rest ≡ b → (b || list_any is_comment_sign rest) ≡ true →
        (kept_of rules (rest ++ part) ≡ kept_of rules rest) × (is_commented rules (rest ++ part) ≡ true)
    by true some e =
        let whole = remark-more rules.remark rest part some in (
          ap uncommented (content-remark rules (rest ++ part) whole) ∙ sym (ap uncommented (content-remark rules rest some)),
          rw whole refl,
        )
    by false none e =
        let here : (is_remark rules.remark part && list_all is_blank rest) ≡ false = rw (sign-unblank rest e) (and_false (is_remark rules.remark part)) in
        let whole = remark-append rules.remark rest part none ∙ here in (
          ap uncommented (content-plain rules (rest ++ part) whole) ∙ uncommented-commented rest part e ∙ sym (ap uncommented (content-plain rules rest none)),
          rw (whole, list_any-append is_comment_sign rest part, e) refl,
        )
