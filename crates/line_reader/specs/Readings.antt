-- What a reader of lines knows of the text so far.
use Rattle.std.specs.Prelude.{◌≡◌, ℕ, ◌+◌, Bool, false, ◌||◌, List, [], ◌∷◌, ◌++◌, length, map, Option, Some, None}
use Rattle.std.specs.List.{list_any}
use Rattle.std.specs.Str.Lines.{strip_carriage_return}
use Rattle.refusals.specs.declared.Place.TheVariants.{Line}
use Rattle.refusals.specs.declared.Why.{Why}
use Rattle.refusals.specs.declared.Refused.{Refused}
use Rattle.refusals.specs.declared.ReadModel.TheVariants.{Refused as IsRefused}
use Rattle.line_lexer.specs.Lines.{is_line_feed, lines_of}
use Rattle.line_lexer.specs.Tokens.{is_comment_sign, uncommented}
use Rattle.line_reader.specs.LineRules.{Rules, KeepBefore, IsRefusal, is_remark, content, line_rule, words_in}

-- The fields of a reader: what its format has, the number of the line that is not ended, that line so far without its
-- comment, whether a comment has begun in it, and the first refusal.
pub record Reading (R : Type 0) : Type 0 where
  pub format : R
  pub number : ℕ
  pub line : List ℕ
  pub commented : Bool
  pub refused : Option Refused

-- the reading of these fields
abbrev pub reading : {R : Type 0} → R → ℕ → List ℕ → Bool → Option Refused → Reading R
reading what n bytes sign why = record { format = what; number = n; line = bytes; commented = sign; refused = why }

-- A text begins with these lines, each of which is ended by a line feed, and then has this rest, in which none stands.
-- However the text goes on, the lines stay, and the rest goes on with it.
pub record IsCutInLines (text : List ℕ) (lines : List (List ℕ)) (rest : List ℕ) : Type 0 where
  pub whole : (more : List ℕ) → lines_of (text ++ more) ≡ lines ++ lines_of (rest ++ more)
  pub unended : list_any is_line_feed rest ≡ false

-- what is kept of a line that is not ended: what stands before a comment
abbrev pub kept_of : Rules → List ℕ → List ℕ
kept_of rules line = uncommented (content rules line)

-- whether a comment has begun in a line
abbrev pub is_commented : Rules → List ℕ → Bool
is_commented rules line = is_remark rules.remark line || list_any is_comment_sign line

-- So far each ended line was read and keeps the rules, and of the rest what stands before a comment is kept.
pub record IsProgress {R : Type 0}
    (rules : Rules) (has_read : R → List (List (List ℕ)) → Type 0) (reading : Reading R) (text : List ℕ)
    : Type 0 where
  pub lines : List (List ℕ)
  pub rest : List ℕ
  pub cut : IsCutInLines text lines rest
  pub kept : KeepBefore rules (length lines) lines
  pub read : has_read reading.format (map (words_in rules) lines)
  pub number_is : reading.number ≡ length lines + 1
  pub line_is : reading.line ≡ kept_of rules rest
  pub commented_is : reading.commented ≡ is_commented rules rest

-- however a text goes on, this is its refusal
abbrev pub IsBroken : Rules → List ℕ → Refused → Type 0
IsBroken rules text refused = (more : List ℕ) → IsRefusal rules (text ++ more) (IsRefused refused)

-- a reader with this refusal, or none
abbrev pub IsFedBy : {R : Type 0} → Rules → (R → List (List (List ℕ)) → Type 0) → Reading R → List ℕ
    → Option Refused → Type 0
IsFedBy rules has_read reading text None = IsProgress rules has_read reading text
IsFedBy rules has_read reading text (Some refused) = IsBroken rules text refused

-- A reader was fed this text.
abbrev pub IsFed : {R : Type 0} → Rules → (R → List (List (List ℕ)) → Type 0) → Reading R → List ℕ → Type 0
IsFed rules has_read reading text = IsFedBy rules has_read reading text reading.refused

-- What ending a line leaves, where these lines came before and these are its bytes: it was read, or this is why it
-- was not.
abbrev pub EndsLine : {R : Type 0} → Rules → (R → List (List (List ℕ)) → Type 0) → ℕ → R → List (List (List ℕ))
    → List ℕ → Option Refused → Type 0
EndsLine rules has_read number new before bytes None =
    (line_rule rules before bytes ≡ None) × has_read new (before ++ words_in rules bytes ∷ [])
EndsLine rules has_read number new before bytes (Some refused) =
    (why : Why) × (refused ≡ record { place = Line number; why = why }) × (line_rule rules before bytes ≡ Some why)

-- What reading a line by its bytes leaves, whatever was read before it. It has this number.
abbrev pub ReadsLine : {R : Type 0} → Rules → (R → List (List (List ℕ)) → Type 0) → ℕ → R → R → List ℕ
    → Option Refused → Type 0
ReadsLine rules has_read number old new bytes refused =
    (before : List (List (List ℕ))) → has_read old before → length before + 1 ≡ number
    → EndsLine rules has_read number new before bytes refused

-- What ending a line leaves, by what was kept of it, whatever was read before and whatever its bytes were.
abbrev pub ReadsEnded : {R : Type 0} → Rules → (R → List (List (List ℕ)) → Type 0) → ℕ → List ℕ → Bool → R → R
    → Option Refused → Type 0
ReadsEnded rules has_read number line commented old new refused =
    (before : List (List (List ℕ))) (bytes : List ℕ) → has_read old before → length before + 1 ≡ number
    → line ≡ kept_of rules bytes → commented ≡ is_commented rules bytes
    → EndsLine rules has_read number new before (strip_carriage_return bytes) refused
