-- How many lines, words and names a text has at most, by its bytes.
use Rattle.std.proofs.Common.{◌≡◌, ℕ, ◌+◌, ◌-◌, ◌*◌, ◌≤◌, Bool, true, false, cond, List, [], ◌∷◌, ◌++◌, length}
use Rattle.std.proofs.Common.{map, fold, filter, take, refl, arith, length-take, if◌then◌else◌, ◌==◌, slice_index}
use Rattle.std.specs.List.{onto_first, position_or_len}
use Rattle.std.specs.Str.Lines.{strip_carriage_return}
use Rattle.std.proofs.lemmas.List.{length-append, length-map}
use Rattle.line_lexer.specs.Lines.{is_line_feed, cut_at_feeds, lines_of}
use Rattle.line_lexer.specs.Tokens.{is_blank, is_comment_sign, onto_first_part, pieces_from, has_bytes, tokens_of, words_of, uncommented}
use Rattle.mixed_model.specs.Names.{see, has_name}

-- the bytes of some lines
abbrev pub bytes_of : List (List ℕ) → ℕ
bytes_of [] = 0
bytes_of (line ∷ lines) = length line + bytes_of lines

-- the lines of a text
first-count : (byte : ℕ) (lines : List (List ℕ)) → length (onto_first byte lines) ≤ length lines + 1
first-count byte [] = omega arith
first-count byte (line ∷ lines) = omega arith

first-bytes : (byte : ℕ) (lines : List (List ℕ)) → bytes_of (onto_first byte lines) ≡ bytes_of lines + 1
first-bytes byte [] = refl
first-bytes byte (line ∷ lines) = omega arith

pub cut-count : (text : List ℕ) → length (cut_at_feeds text) ≤ length text
cut-count [] = omega arith
cut-count (byte ∷ bytes) = go (cut-count bytes) (is_line_feed byte)
  where
    go : length (cut_at_feeds bytes) ≤ length bytes → (b : Bool) →
        length (if b then [] ∷ cut_at_feeds bytes else onto_first byte (cut_at_feeds bytes)) ≤ length (byte ∷ bytes)
    go rest true = omega (arith, rest)
    go rest false = omega (arith, rest, first-count byte (cut_at_feeds bytes))

cut-bytes : (text : List ℕ) → bytes_of (cut_at_feeds text) ≤ length text
cut-bytes [] = omega arith
cut-bytes (byte ∷ bytes) = go (cut-bytes bytes) (is_line_feed byte)
  where
    go : bytes_of (cut_at_feeds bytes) ≤ length bytes → (b : Bool) →
        bytes_of (if b then [] ∷ cut_at_feeds bytes else onto_first byte (cut_at_feeds bytes)) ≤ length (byte ∷ bytes)
    go rest true = omega (arith, rest)
    go rest false = omega (arith, rest, first-bytes byte (cut_at_feeds bytes))

stripped-bytes : (line : List ℕ) → length (strip_carriage_return line) ≤ length line
stripped-bytes line = go (slice_index line (length line - 1) == 13)
  where
    go : (b : Bool) → length (if b then take (length line - 1) line else line) ≤ length line
    go true = omega (arith, length-take (length line - 1) line)
    go false = omega arith

lines-bytes : (lines : List (List ℕ)) → bytes_of (map strip_carriage_return lines) ≤ bytes_of lines
lines-bytes [] = omega arith
lines-bytes (line ∷ lines) = omega (arith, stripped-bytes line, lines-bytes lines)

pub text-bytes : (text : List ℕ) → bytes_of (lines_of text) ≤ length text
text-bytes text = omega (arith, lines-bytes (cut_at_feeds text), cut-bytes text)

-- The tokens of a line: between two of them stands a blank.
abbrev opens : List (ℕ × List ℕ) → ℕ
opens [] = 0
opens (part ∷ parts) = cond (has_bytes part) 1 0

opens-one : (parts : List (ℕ × List ℕ)) → opens parts ≤ 1
opens-one [] = omega arith
opens-one (part ∷ parts) = go (has_bytes part)
  where
    go : (b : Bool) → cond b 1 0 ≤ 1
    go true = omega arith
    go false = omega arith

part-count : (i byte : ℕ) (parts : List (ℕ × List ℕ)) →
    2 * length (filter has_bytes (onto_first_part i byte parts)) + opens parts ≤ 2 * length (filter has_bytes parts) + 1 + opens (onto_first_part i byte parts)
part-count i byte [] = omega arith
part-count i byte (part ∷ parts) = go (has_bytes (i, byte ∷ part.1)) (has_bytes part)
  where
    go : (b d : Bool) →
        2 * length (cond b ((i, byte ∷ part.1) ∷ filter has_bytes parts)
        (filter has_bytes parts)) + cond d 1 0 ≤ 2 * length (cond d (part ∷ filter has_bytes parts)
        (filter has_bytes parts)) + 1 + cond b 1 0
    go true true = omega arith
    go true false = omega arith
    go false true = omega arith
    go false false = omega arith

tokens-short : (i : ℕ) (text : List ℕ) → 2 * length (filter has_bytes (pieces_from i text)) ≤ length text + opens (pieces_from i text)
tokens-short i [] = omega arith
tokens-short i (byte ∷ bytes) = go (tokens-short (i + 1) bytes) (is_blank byte)
  where
    rest : List (ℕ × List ℕ)
    rest = pieces_from (i + 1) bytes

    go : 2 * length (filter has_bytes rest) ≤ length bytes + opens rest → (b : Bool) →
        2 * length (filter has_bytes (if b then (i, []) ∷ rest else onto_first_part i byte rest)) ≤ length
        (byte ∷ bytes) + opens (if b then (i, []) ∷ rest else onto_first_part i byte rest)
    go short true = omega (arith, short, opens-one rest)
    go short false = omega (arith, short, part-count i byte rest)

pub words-short : (line : List ℕ) → 2 * length (words_of line) ≤ length line + 1
words-short line =
    let text : List ℕ = uncommented line in
    omega (
      arith,
      length-map (tokens_of line) (λ (token : ℕ × List ℕ). token.1),
      tokens-short 0 text,
      opens-one (pieces_from 0 text),
      length-take (position_or_len is_comment_sign line) line,
    )

pub words-few : (line : List ℕ) → length (words_of line) ≤ length line
words-few line = omega (arith, words-short line)

-- names that are seen one after another
see-few : (names : List (List ℕ)) (name : List ℕ) → length (see names name) ≤ length names + 1
see-few names name = go (has_name names name)
  where
    go : (b : Bool) → length (if b then names else names ++ name ∷ []) ≤ length names + 1
    go true = omega arith
    go false = omega (arith, length-append names (name ∷ []))

pub seen-few : (names more : List (List ℕ)) → length (fold see names more) ≤ length names + length more
seen-few names [] = omega arith
seen-few names (name ∷ more) = omega (arith, seen-few (see names name) more, see-few names name)
