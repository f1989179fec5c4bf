-- The first token of a text, and the others.
use Rattle.std.proofs.Common.{◌≡◌, ◌≢◌, ℕ, ◌+◌, ◌<◌, Bool, true, false, not, ◌&&◌, ne_eqb, List, [], ◌∷◌, length, take, drop}
use Rattle.std.proofs.Common.{filter, cond, nat_lt, get_or, Some, None, position, lt-ltb, refl, sym, ap, ◌∙◌, arith}
use Rattle.std.proofs.Common.{length-drop, length-take-le, one-add, add-zero, add_assoc}
use Rattle.std.specs.List.{position_or_len, slice_index}
use Rattle.std.specs.Str.{IsAscii, IsUtf8}
use Rattle.std.specs.List.{list_all}
use Rattle.std.proofs.Math.Seq.{take-length}
use Rattle.std.proofs.lemmas.Bool.Decides.{nat_tests}
use Rattle.std.proofs.lemmas.Str.Ascii.{IsAscii-nil, IsAscii-cons}
use Rattle.std.proofs.Math.ListN.{drop_of_length-le}
use Rattle.std.proofs.lemmas.List.Quantifiers.{position-Some}
use Rattle.std.proofs.lemmas.List.{get_or_default, get_or_past}
use Rattle.std.proofs.lemmas.List.Sums.{prefix_len-le-length, prefix_len-drop_yes}
use Rattle.std.proofs.lemmas.Str.{IsAscii-drop, IsUtf8-from_ascii}
use Rattle.line_lexer.proofs.PlaceLaws.{position_or_len-Some, position_or_len-None}
use Rattle.line_lexer.specs.Cuts.{CutsToken}
use Rattle.line_lexer.specs.Tokens.{is_blank, is_comment_sign, is_odd, is_text_byte, is_clean, uncommented, pieces_from}
use Rattle.line_lexer.specs.Tokens.{onto_first_part, has_bytes, tokens_from}

-- blanks before a token only move its place
pub tokens_after_blanks : (i : ℕ) (text : List ℕ) → tokens_from i text ≡ tokens_from
    (i + position_or_len (λ byte. not (is_blank byte)) text)
    (drop (position_or_len (λ byte. not (is_blank byte)) text) text)
tokens_after_blanks i [] = sym (ap (λ j. tokens_from j []) (add-zero i))
tokens_after_blanks i (byte ∷ text) = by (is_blank byte) refl (tokens_after_blanks (i + 1) text)
  where
    by : (b : Bool) → is_blank byte ≡ b → tokens_from (i + 1) text ≡ tokens_from
        (i + 1 + position_or_len (λ byte. not (is_blank byte)) text)
        (drop (position_or_len (λ byte. not (is_blank byte)) text) text) → tokens_from i (byte ∷ text) ≡ tokens_from
        (i + position_or_len (λ byte. not (is_blank byte)) (byte ∷ text))
        (drop (position_or_len (λ byte. not (is_blank byte)) (byte ∷ text)) (byte ∷ text))
    by true e rest = rw e (rest ∙ ap (λ j. tokens_from j
        (drop (position_or_len (λ byte. not (is_blank byte)) text) text))
        (add_assoc i 1 (position_or_len (λ byte. not (is_blank byte)) text)) ∙ rw one-add refl)
    by false e rest = rw (e, add-zero) (rw e refl)

-- what the parts of a text are from a blank on
parts_after : ℕ → List ℕ → List (ℕ × List ℕ)
parts_after i [] = []
parts_after i (byte ∷ bytes) = pieces_from (i + 1) bytes

-- the first part of a text ends at its first blank
first_part : (i : ℕ) (text : List ℕ) → pieces_from i text ≡
    (i, take (position_or_len is_blank text) text) ∷ parts_after (i + position_or_len is_blank text)
    (drop (position_or_len is_blank text) text)
unfolding parts_after
first_part i [] = refl
first_part i (byte ∷ text) = by (is_blank byte) refl (first_part (i + 1) text)
  where
    by : (b : Bool) → is_blank byte ≡ b → pieces_from (i + 1) text ≡
        (i + 1, take (position_or_len is_blank text) text) ∷ parts_after (i + 1 + position_or_len is_blank text)
        (drop (position_or_len is_blank text) text) →
        pieces_from i (byte ∷ text) ≡ (i, take (position_or_len is_blank (byte ∷ text)) (byte ∷ text)) ∷ parts_after
        (i + position_or_len is_blank (byte ∷ text)) (drop (position_or_len is_blank (byte ∷ text)) (byte ∷ text))
    by true e rest = rw e (ap (λ j. (i, []) ∷ pieces_from (j + 1) text) (sym (add-zero i)))
    by false e rest = rw e (ap (onto_first_part i byte) rest
        ∙ ap (λ j. (i, byte ∷ take (position_or_len is_blank text) text) ∷ parts_after j
        (drop (position_or_len is_blank text) text)) (add_assoc i 1 (position_or_len is_blank text))
        ∙ rw one-add refl)

-- from the first blank on, an empty part is no token
tokens_after_part : (i : ℕ) (text : List ℕ) → filter has_bytes
    (parts_after i (drop (position_or_len is_blank text) text)) ≡ tokens_from i
    (drop (position_or_len is_blank text) text)
unfolding parts_after
tokens_after_part i [] = refl
tokens_after_part i (byte ∷ text) = by (is_blank byte) refl (tokens_after_part i text)
  where
    by : (b : Bool) → is_blank byte ≡ b → filter has_bytes
        (parts_after i (drop (position_or_len is_blank text) text)) ≡ tokens_from i
        (drop (position_or_len is_blank text) text) →
        filter has_bytes (parts_after i (drop (position_or_len is_blank (byte ∷ text))
        (byte ∷ text))) ≡ tokens_from i (drop (position_or_len is_blank (byte ∷ text)) (byte ∷ text))
    by true e rest = rw e (rw e refl)
    by false e rest = rw (e, one-add) rest

-- a text that begins with a token
tokens_at_token : (i : ℕ) (text : List ℕ) → 0 < position_or_len is_blank text →
    tokens_from i text ≡ (i, take (position_or_len is_blank text) text) ∷ tokens_from
    (i + position_or_len is_blank text) (drop (position_or_len is_blank text) text)
tokens_at_token i text some =
    let short = prefix_len-le-length (λ byte. not (is_blank byte)) text in
    let token : nat_lt 0 (length (take (position_or_len is_blank text) text)) ≡ true =
    lt-ltb 0 _ (omega (arith, length-take-le (position_or_len is_blank text) text short)) in
    ap (filter has_bytes) (first_part i text)
    ∙ ap (λ b. cond b ((i, take (position_or_len is_blank text) text) ∷ filter has_bytes
    (parts_after (i + position_or_len is_blank text) (drop (position_or_len is_blank text) text)))
    (filter has_bytes (parts_after (i + position_or_len is_blank text)
    (drop (position_or_len is_blank text) text)))) token
    ∙ ap (λ rest. (i, take (position_or_len is_blank text) text) ∷ rest) (tokens_after_part (i + position_or_len is_blank text) text)

-- where no byte is of a token
pub tokens_from-None : (i : ℕ) (text : List ℕ) → position (λ byte. not (is_blank byte)) text ≡ None → tokens_from i text ≡ []
tokens_from-None i text e =
    let whole = position_or_len-None (λ byte. not (is_blank byte)) text e in
    tokens_after_blanks i text ∙ ap (λ rest. tokens_from (i + position_or_len (λ byte. not (is_blank byte)) text) rest) (drop_of_length-le text (omega arith))

pub CutsToken-Some : (text : List ℕ) (skipped n : ℕ) → IsAscii text →
    position (λ byte. not (is_blank byte)) text ≡ Some skipped → n ≡ position_or_len is_blank (drop skipped text) →
    CutsToken text skipped (take n (drop skipped text)) (drop n (drop skipped text))
CutsToken-Some text skipped n ascii found end =
    let at = position-Some (λ byte. not (is_blank byte)) text skipped 0 found in
    let more = prefix_len-drop_yes (λ byte. not (is_blank byte)) text skipped 0 at.0 at.1 in
    let short = prefix_len-le-length (λ byte. not (is_blank byte)) (drop skipped text) in
    let length_token = length-take-le n (drop skipped text) (omega arith) in
    record {
      tokens = λ i.
          tokens_after_blanks i text
          ∙ ap (λ m. tokens_from (i + m) (drop m text)) (position_or_len-Some (λ byte. not (is_blank byte)) text skipped found)
          ∙ tokens_at_token (i + skipped) (drop skipped text) (omega arith)
          ∙ ap (λ m. (i + skipped, take m (drop skipped text)) ∷ tokens_from (i + skipped + m) (drop m (drop skipped text))) (sym end)
          ∙ ap (λ m. (i + skipped, take n (drop skipped text)) ∷ tokens_from (i + skipped + m) (drop n (drop skipped text))) (sym length_token);
      whole = omega (arith, length_token, length-drop n (drop skipped text), length-drop skipped text);
      ascii = IsAscii-drop (drop skipped text) n (IsAscii-drop text skipped ascii);
    }

-- up to the sign of a comment, or whole
pub uncommented-Some : (line : List ℕ) (end : ℕ) → position is_comment_sign line ≡ Some end → take end line ≡ uncommented line
uncommented-Some line end e = ap (λ n. take n line) (sym (position_or_len-Some is_comment_sign line end e))

pub uncommented-None : (line : List ℕ) → position is_comment_sign line ≡ None → line ≡ uncommented line
uncommented-None line e = sym (take-length line) ∙ ap (λ n. take n line) (sym (position_or_len-None is_comment_sign line e))

pub ruleset uncommented_is = (uncommented-Some, uncommented-None)

text_byte_below : (byte : ℕ) → is_text_byte byte ≡ true → byte < 128
text_byte_below byte h = grind (arith, nat_tests)

pub IsAscii-from_text_bytes : (text : List ℕ) → list_all is_text_byte text ≡ true → IsAscii text
IsAscii-from_text_bytes [] h = IsAscii-nil
IsAscii-from_text_bytes (byte ∷ text) h = by (is_text_byte byte) refl h (λ rest. IsAscii-from_text_bytes text rest)
  where
    by : (b : Bool) → is_text_byte byte ≡ b → (b && list_all is_text_byte text) ≡ true →
        (list_all is_text_byte text ≡ true → IsAscii text) → IsAscii (byte ∷ text)
    by true e rest more = IsAscii-cons byte text (text_byte_below byte e) (more rest)
    by false e rest more = let f : ⊥ = cc in absurd f

pub text_is_utf8 : (text : List ℕ) → list_all is_text_byte text ≡ true → IsUtf8 text
text_is_utf8 text h = IsUtf8-from_ascii text (IsAscii-from_text_bytes text h)

-- up to the first odd byte all is text
before_odd : (line : List ℕ) → list_all is_text_byte (take (position_or_len is_odd line) line) ≡ true
before_odd [] = refl
before_odd (byte ∷ line) = by (is_comment_sign byte) refl (is_text_byte byte) refl (before_odd line)
  where
    by : (sign : Bool) → is_comment_sign byte ≡ sign → (text : Bool) → is_text_byte byte ≡ text →
        list_all is_text_byte (take (position_or_len is_odd line) line) ≡ true →
        list_all is_text_byte (take (position_or_len is_odd (byte ∷ line)) (byte ∷ line)) ≡ true
    by true e text f rest = rw e refl
    by false e true f rest = rw (e, f, one-add) (rw f rest)
    by false e false f rest = rw (e, f) refl

-- it is the sign of the comment, or the line has none and ends there
at_sign : (line : List ℕ) → is_comment_sign (get_or line (position_or_len is_odd line) 35) ≡ true →
    position_or_len is_comment_sign line ≡ position_or_len is_odd line
at_sign [] h = refl
at_sign (byte ∷ line) h = by (is_comment_sign byte) refl (is_text_byte byte) refl (at_sign line) h
  where
    by : (sign : Bool) → is_comment_sign byte ≡ sign → (text : Bool) → is_text_byte byte ≡ text →
        (is_comment_sign (get_or line (position_or_len is_odd line) 35) ≡ true →
        position_or_len is_comment_sign line ≡ position_or_len is_odd line) →
        is_comment_sign (get_or (byte ∷ line) (position_or_len is_odd (byte ∷ line)) 35) ≡ true →
        position_or_len is_comment_sign (byte ∷ line) ≡ position_or_len is_odd (byte ∷ line)
    by true e text f rest at = rw e refl
    by false e true f rest at =
        let moved : is_comment_sign (get_or (byte ∷ line) (position_or_len is_odd (byte ∷ line)) 35) ≡
        is_comment_sign (get_or line (position_or_len is_odd line) 35) = rw (e, f, one-add) refl in
        rw (e, f) (ap (λ n. 1 + n) (rest (sym moved ∙ at)))
    by false e false f rest at =
        let here : is_comment_sign (get_or (byte ∷ line) (position_or_len is_odd (byte ∷ line)) 35) ≡ false =
        rw (e, f) e in let h : ⊥ = cc in absurd h

text_before : (line : List ℕ) → is_comment_sign (get_or line (position_or_len is_odd line) 35) ≡ true → is_clean line ≡ true
text_before line sign = ap (λ n. list_all is_text_byte (take n line)) (at_sign line sign) ∙ before_odd line

-- or it is bad
at_bad_byte : (line : List ℕ) → is_comment_sign (get_or line (position_or_len is_odd line) 35) ≡ false → is_clean line ≡ false
at_bad_byte [] h = let f : ⊥ = cc in absurd f
at_bad_byte (byte ∷ line) h = by (is_comment_sign byte) refl (is_text_byte byte) refl (at_bad_byte line) h
  where
    by : (sign : Bool) → is_comment_sign byte ≡ sign → (text : Bool) → is_text_byte byte ≡ text →
        (is_comment_sign (get_or line (position_or_len is_odd line) 35) ≡ false → is_clean line ≡ false) →
        is_comment_sign (get_or (byte ∷ line) (position_or_len is_odd (byte ∷ line)) 35) ≡ false →
        is_clean (byte ∷ line) ≡ false
    by true e text f rest at =
        let here : is_comment_sign (get_or (byte ∷ line) (position_or_len is_odd (byte ∷ line)) 35) ≡ true =
        rw e e in let h : ⊥ = cc in absurd h
    by false e true f rest at =
        let moved : is_comment_sign (get_or (byte ∷ line) (position_or_len is_odd (byte ∷ line)) 35) ≡
        is_comment_sign (get_or line (position_or_len is_odd line) 35) = rw (e, f, one-add) refl in
        rw (e, one-add) (rw f (rest (sym moved ∙ at)))
    by false e false f rest at = rw (e, one-add) (rw f refl)

-- what the first odd byte of a line says of it
pub text-whole : (line : List ℕ) → position is_odd line ≡ None → (is_clean line ≡ true) × (line ≡ uncommented line)
text-whole line none =
    let end = position_or_len-None is_odd line none in
    let sign : is_comment_sign (get_or line (position_or_len is_odd line) 35) ≡ true =
    ap is_comment_sign (get_or_past line (position_or_len is_odd line) 35 (omega (arith, end))) in
    let same : position_or_len is_comment_sign line ≡ length line = at_sign line sign ∙ end in
    (text_before line sign, sym (take-length line) ∙ ap (λ n. take n line) (sym same))

pub text-sign : (line : List ℕ) (end : ℕ) → position is_odd line ≡ Some end → slice_index line end ≡ 35 →
    (is_clean line ≡ true) × (take end line ≡ uncommented line)
text-sign line end found sign =
    let at = position-Some is_odd line end 0 found in
    let place = position_or_len-Some is_odd line end found in
    let here : is_comment_sign (get_or line (position_or_len is_odd line) 35) ≡ true =
    ap (λ n. is_comment_sign (get_or line n 35)) place ∙ ap is_comment_sign (get_or_default line end 35 0 at.0 ∙ sign) in
    (text_before line here, ap (λ n. take n line) (sym (at_sign line here ∙ place)))

pub text-bad : (line : List ℕ) (end : ℕ) → position is_odd line ≡ Some end → slice_index line end ≢ 35 → is_clean line ≡ false
text-bad line end found other =
    let at = position-Some is_odd line end 0 found in
    let place = position_or_len-Some is_odd line end found in
    at_bad_byte line
    (ap (λ n. is_comment_sign (get_or line n 35)) place
    ∙ ap is_comment_sign (get_or_default line end 35 0 at.0) ∙ ne_eqb (slice_index line end) 35 other)
