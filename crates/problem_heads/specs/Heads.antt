-- Texts with a head before their model: the head ends with the first line that is the word `model`.
use Rattle.std.specs.Prelude.{ℕ, zero, suc, ◌-◌, Bool, false, ◌&&◌, List, [], ◌∷◌, codes, length, take}
use Rattle.std.specs.List.{after_first, list_any, position_or_len}
use Rattle.std.specs.Str.{bytes_eq}
use Rattle.line_lexer.specs.Lines.{is_line_feed, lines_of}
use Rattle.line_lexer.specs.Tokens.{is_clean, words_of}

-- whether the words of a line are the one word `model`
abbrev pub is_model_word : List (List ℕ) → Bool
is_model_word [] = false
is_model_word (word ∷ []) = bytes_eq word (codes "model")
is_model_word (word ∷ next ∷ words) = false

-- whether a line ends a head
abbrev pub is_model_line : List ℕ → Bool
is_model_line line = is_clean line && is_model_word (words_of line)

-- what follows the first n lines of a text
abbrev pub behind_lines : ℕ → List ℕ → List ℕ
behind_lines zero text = text
behind_lines (suc n) text = behind_lines n (after_first is_line_feed text)

-- The model's part of a text: what follows its first line that ends a head, and nothing where no line does.
abbrev pub model_text : List ℕ → List ℕ
model_text text = after_first is_line_feed (behind_lines (position_or_len is_model_line (lines_of text)) text)

-- The head of a text: what stands before the model's part.
abbrev pub head_of : List ℕ → List ℕ
head_of text = take (length text - length (model_text text)) text

-- how many lines the head has
abbrev pub lines_before : List ℕ → ℕ
lines_before text = length (lines_of (head_of text))

-- whether a line ends the head
abbrev pub has_model : List ℕ → Bool
has_model text = list_any is_model_line (lines_of text)
