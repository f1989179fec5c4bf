-- What stands before a comment in a line that goes on.
use Rattle.std.proofs.Common.{◌≡◌, ℕ, ◌+◌, ◌-◌, ◌<◌, ◌==◌, Bool, true, false, ◌||◌, List, [], ◌∷◌, ◌++◌, length, take}
use Rattle.std.proofs.Common.{refl, sym, ap, ◌∙◌, arith, cond, nat_lt, lt-ltb, slice_index, one-add, if◌then◌else◌}
use Rattle.std.specs.List.{list_any}
use Rattle.std.specs.Str.Lines.{strip_carriage_return}
use Rattle.std.proofs.Math.Seq.{take-length}
use Rattle.std.proofs.lemmas.List.{take_more}
use Rattle.std.proofs.lemmas.Bool.{eqb-true, le-ltb}
use Rattle.std.proofs.lemmas.List.Folds.{list_any-append}
use Rattle.line_lexer.specs.Tokens.{is_comment_sign, uncommented}
use Rattle.line_reader.proofs.Cuts.{or_false-first, or_false-second}

-- in a comment
pub uncommented-commented : (line part : List ℕ) → list_any is_comment_sign line ≡ true → uncommented (line ++ part) ≡ uncommented line
uncommented-commented [] part some = let f : ⊥ = cc in absurd f
uncommented-commented (first ∷ line) part some = by (is_comment_sign first) refl some (λ rest. uncommented-commented line part rest)
  where
    by : (b : Bool) → is_comment_sign first ≡ b → (b || list_any is_comment_sign line) ≡ true →
        (list_any is_comment_sign line ≡ true → uncommented (line ++ part) ≡ uncommented line) →
        uncommented ((first ∷ line) ++ part) ≡ uncommented (first ∷ line)
    by true e h more = rw e refl
    by false e h more = rw e (simp one-add (ap (λ bytes. first ∷ bytes) (more h)))

-- where no comment begins
pub uncommented-whole : (line : List ℕ) → list_any is_comment_sign line ≡ false → uncommented line ≡ line
uncommented-whole [] none = refl
uncommented-whole (first ∷ line) none =
    let here = or_false-first (is_comment_sign first) (list_any is_comment_sign line) none in
    let rest = uncommented-whole line (or_false-second (is_comment_sign first) (list_any is_comment_sign line) none) in
    rw here (simp one-add (ap (λ bytes. first ∷ bytes) rest))

-- behind a line in which none begins
pub uncommented-behind : (line part : List ℕ) → list_any is_comment_sign line ≡ false → uncommented (line ++ part) ≡ line ++ uncommented part
uncommented-behind [] part none = refl
uncommented-behind (first ∷ line) part none =
    let here = or_false-first (is_comment_sign first) (list_any is_comment_sign line) none in
    let rest = uncommented-behind line part (or_false-second (is_comment_sign first) (list_any is_comment_sign line) none) in
    rw here (simp one-add (ap (λ bytes. first ∷ bytes) rest))

shorter-commented : (part : List ℕ) → list_any is_comment_sign part ≡ true → length (uncommented part) < length part
shorter-commented [] some = let f : ⊥ = cc in absurd f
shorter-commented (byte ∷ part) some = by (is_comment_sign byte) refl some (λ rest. shorter-commented part rest)
  where
    by : (b : Bool) → is_comment_sign byte ≡ b → (b || list_any is_comment_sign part) ≡ true →
        (list_any is_comment_sign part ≡ true → length (uncommented part) < length part) →
        length (uncommented (byte ∷ part)) < length (byte ∷ part)
    by true e h more = rw e (omega arith)
    by false e h more = rw e (simp one-add (omega (arith, more h)))

-- a comment begins where fewer bytes stand before it
pub uncommented-shorter : (part : List ℕ) → nat_lt (length (uncommented part)) (length part) ≡ list_any is_comment_sign part
uncommented-shorter part = by (list_any is_comment_sign part) refl
  where
    by : (b : Bool) → list_any is_comment_sign part ≡ b → nat_lt (length (uncommented part)) (length part) ≡ b
    by true e = lt-ltb (length (uncommented part)) (length part) (shorter-commented part e)
    by false e = le-ltb (length (uncommented part)) (length part) (omega (arith, ap length (uncommented-whole part e)))

or_false : (b : Bool) → (b || false) ≡ b
or_false true = refl
or_false false = refl

-- a line, and its last byte
front_of : (line : List ℕ) → 0 < length line → line ≡ take (length line - 1) line ++ slice_index line (length line - 1) ∷ []
front_of line some =
    let back : length line ≡ length line - 1 + 1 = omega arith in
    sym (take-length line) ∙ ap (λ n. take n line) back ∙ take_more line (length line - 1) 0 (omega arith)

-- a line whose last byte is dropped, where that is a carriage return, in a comment
stripped-front : (front line : List ℕ) → line ≡ front ++ 13 ∷ [] → list_any is_comment_sign line ≡ true → uncommented front ≡ uncommented line
stripped-front front line same some =
    let both : (list_any is_comment_sign front || false) ≡ true =
    sym (list_any-append is_comment_sign front (13 ∷ [])) ∙ ap (list_any is_comment_sign) (sym same) ∙ some in
    let inside : list_any is_comment_sign front ≡ true = sym (or_false (list_any is_comment_sign front)) ∙ both in
    sym (ap uncommented same ∙ uncommented-commented front (13 ∷ []) inside)

uncommented-strip : (line : List ℕ) → list_any is_comment_sign line ≡ true → uncommented (strip_carriage_return line) ≡ uncommented line
uncommented-strip [] some = refl
uncommented-strip (byte ∷ line) some = by (slice_index (byte ∷ line) (length (byte ∷ line) - 1) == 13) refl
  where
    by : (b : Bool) → (slice_index (byte ∷ line) (length (byte ∷ line) - 1) == 13) ≡ b →
        uncommented (cond b (take (length (byte ∷ line) - 1) (byte ∷ line)) (byte ∷ line)) ≡ uncommented (byte ∷ line)
    by true e = stripped-front (take (length (byte ∷ line) - 1) (byte ∷ line)) (byte ∷ line)
        (front_of (byte ∷ line) (omega arith) ∙ ap (λ last. take (length (byte ∷ line) - 1)
        (byte ∷ line) ++ last ∷ []) (eqb-true (slice_index (byte ∷ line) (length (byte ∷ line) - 1)) 13 e)) some
    by false e = refl

uncommented-twice : (line : List ℕ) → uncommented (uncommented line) ≡ uncommented line
uncommented-twice [] = refl
uncommented-twice (byte ∷ line) = by (is_comment_sign byte) refl (uncommented-twice line)
  where
    by : (b : Bool) → is_comment_sign byte ≡ b → uncommented (uncommented line) ≡ uncommented line →
        uncommented (uncommented (byte ∷ line)) ≡ uncommented (byte ∷ line)
    by true e rest = rw e refl
    by false e rest = rw e (simp one-add (rw e (ap (λ bytes. byte ∷ bytes) rest)))

-- What is kept of an ended line has the same bytes before a comment as the line without a carriage return.
pub ended-same : (line : List ℕ) → uncommented
    (if list_any is_comment_sign line then uncommented line else strip_carriage_return (uncommented line)) ≡ uncommented
    (strip_carriage_return line)
ended-same line = by (list_any is_comment_sign line) refl
  where
    by : (b : Bool) → list_any is_comment_sign line ≡ b →
        uncommented (if b then uncommented line else strip_carriage_return (uncommented line)) ≡ uncommented
        (strip_carriage_return line)
    by true e = uncommented-twice line ∙ sym (uncommented-strip line e)
    by false e = ap (λ bytes. uncommented (strip_carriage_return bytes)) (uncommented-whole line e)
