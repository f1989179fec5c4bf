-- The rules of a line format: each line is given with the words of the lines before it, and the answer is why it breaks
-- a rule, or None where it keeps all.
use Rattle.std.specs.Prelude.{◌≡◌, ℕ, ◌+◌, ◌<◌, Bool, false, not, List, [], length, map, take, nat_eq, if◌then◌else◌, slice_index_or, Option, Some, None}
use Rattle.std.specs.List.{find}
use Rattle.refusals.specs.declared.Place.TheVariants.{Line}
use Rattle.refusals.specs.declared.Why.{Why}
use Rattle.refusals.specs.declared.Why.TheVariants.{BadByte}
use Rattle.refusals.specs.declared.ReadModel.{ReadModel}
use Rattle.refusals.specs.declared.ReadModel.TheVariants.{Refused, NoMemory}
use Rattle.line_lexer.specs.Lines.{lines_of}
use Rattle.line_lexer.specs.Tokens.{is_blank, is_clean, words_of}

-- a rule of words, given the words of the lines before
abbrev pub WordsRule : Type 0
WordsRule = List (List (List ℕ)) → List (List ℕ) → Option Why

-- The rules of a format: the sign, if it has one, that makes a line a comment as a whole where it is the line's first
-- byte that is no blank, and the rule of the words of any other line.
pub record Rules : Type 0 where
  pub remark : Option ℕ
  pub words : WordsRule

-- the first byte of a line that is no blank
abbrev pub first_byte : List ℕ → Option ℕ
first_byte line = find (λ byte. not (is_blank byte)) line

-- whether a line begins with this sign, by its first byte that is no blank
abbrev pub is_sign : ℕ → Option ℕ → Bool
is_sign sign None = false
is_sign sign (Some byte) = nat_eq byte sign

-- whether a line is a comment as a whole
abbrev pub is_remark : Option ℕ → List ℕ → Bool
is_remark None line = false
is_remark (Some sign) line = is_sign sign (first_byte line)

-- what of a line is read: nothing of a comment as a whole, in which any byte may stand
abbrev pub content : Rules → List ℕ → List ℕ
content rules line = if is_remark rules.remark line then [] else line

-- the words of a line
abbrev pub words_in : Rules → List ℕ → List (List ℕ)
words_in rules line = words_of (content rules line)

-- A line, given the words of the lines before it: first its bytes are tested, and then its words.
abbrev pub line_rule : Rules → List (List (List ℕ)) → List ℕ → Option Why
line_rule rules before line =
    if is_clean (content rules line) then rules.words before (words_in rules line) else Some BadByte

-- what the rules say of line k, counted from 0: why it breaks one, if it does
abbrev pub rule_at : Rules → List (List ℕ) → ℕ → Option Why
rule_at rules lines k = line_rule rules (map (words_in rules) (take k lines)) (slice_index_or lines k [])

-- the first n lines keep all rules
abbrev pub KeepBefore : Rules → ℕ → List (List ℕ) → Type 0
KeepBefore rules n lines = (k : ℕ) → k < n → rule_at rules lines k ≡ None

-- each line of a text keeps all rules
abbrev pub KeepsAll : Rules → List ℕ → Type 0
KeepsAll rules text = KeepBefore rules (length (lines_of text)) (lines_of text)

-- The first broken rule of a text: line n, counted from 0, is the first that breaks one, and this is why.
pub record IsFirstBroken (rules : Rules) (text : List ℕ) (n : ℕ) (why : Why) : Type 0 where
  pub within : n < length (lines_of text)
  pub before : KeepBefore rules n (lines_of text)
  pub here : rule_at rules (lines_of text) n ≡ Some why

-- Why a text is not read: its first broken rule and the line of it, counted from 1, or memory ran out.
abbrev pub IsRefusal : Rules → List ℕ → ReadModel → Type 0
IsRefusal rules text (Refused refused) =
    (n : ℕ) × (why : Why) × (refused ≡ record { place = Line (n + 1); why = why }) × IsFirstBroken rules text n why
IsRefusal rules text NoMemory = Unit {0}
