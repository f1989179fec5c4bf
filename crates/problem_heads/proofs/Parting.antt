-- A text is its head and its model's part.
use Rattle.std.proofs.Common.{◌≡◌, ℕ, zero, suc, ◌+◌, ◌-◌, ◌≤◌, List, [], ◌∷◌, ◌++◌, length, take, drop, position, Option, Some, None}
use Rattle.std.proofs.Common.{refl, sym, ap, subst, ◌∙◌, arith, append_assoc, append-nil, length-append}
use Rattle.std.specs.List.{after_first, position_or_len}
use Rattle.std.specs.Str.Lines.{strip_carriage_return}
use Rattle.std.proofs.lemmas.List.{drop_at, take_all, take_at}
use Rattle.line_lexer.specs.Lines.{is_line_feed, lines_of}
use Rattle.line_reader.proofs.Cuts.{feed-before, feed-cut, feed-none, lines_last}
use Rattle.problem_heads.specs.Heads.{behind_lines, head_of, is_model_line, model_text}
use Rattle.problem_heads.proofs.FirstLines.{after-ended, after-unended, lines_ended}

-- a text is a front of n lines, or of all that it has, and this rest
pub record IsParted (n : ℕ) (text rest : List ℕ) : Type 0 where
  pub front : List ℕ
  pub whole : text ≡ front ++ rest
  pub lines : lines_of text ≡ lines_of front ++ lines_of rest
  pub taken : lines_of front ≡ take n (lines_of text)

behind-none : (n : ℕ) → behind_lines n [] ≡ []
behind-none zero = refl
behind-none (suc n) = behind-none n

one-line : (text : List ℕ) → position is_line_feed text ≡ None → length (lines_of text) ≤ 1
one-line [] none = omega arith
one-line (byte ∷ text) none = omega (arith, ap length (lines_last byte text (feed-none (byte ∷ text) none)))

parted-none : (n : ℕ) (text rest : List ℕ) → position is_line_feed text ≡ None → rest ≡ [] → IsParted (suc n) text rest
parted-none n text rest unended none = record {
  front = text;
  whole = sym (append-nil text) ∙ ap (λ more. text ++ more) (sym none);
  lines = sym (append-nil (lines_of text)) ∙ ap (λ more. lines_of text ++ lines_of more) (sym none);
  taken = sym (take_all (suc n) (lines_of text) (omega (arith, one-line text unended)));
}

-- behind its first line
parted-next : (n : ℕ) (text rest : List ℕ) (end : ℕ) → position is_line_feed text ≡ Some end → IsParted n (drop (end + 1) text) rest →
    IsParted (suc n) text rest
parted-next n text rest end here parts =
    let line = take end text in
    let others = drop (end + 1) text in
    let front = line ++ 10 ∷ parts.front in
    let none = feed-before text end here in
    let first : lines_of text ≡ strip_carriage_return line ∷ lines_of others = ap lines_of (feed-cut text end here) ∙ lines_ended line others none in
    record {
      front = front;
      whole = feed-cut text end here ∙ ap (λ more. line ++ 10 ∷ more) parts.whole ∙ sym (append_assoc line (10 ∷ parts.front) rest);
      lines = first
          ∙ ap (λ more. strip_carriage_return line ∷ more) parts.lines
          ∙ ap (λ lines. lines ++ lines_of rest) (sym (lines_ended line parts.front none));
      taken = lines_ended line parts.front none
          ∙ ap (λ more. strip_carriage_return line ∷ more) parts.taken
          ∙ ap (take (suc n)) (sym first);
    }

pub parted : (n : ℕ) (text : List ℕ) → IsParted n text (behind_lines n text)
parted zero text = record { front = []; whole = refl; lines = refl; taken = refl }
parted (suc n) text = by (position is_line_feed text) refl (parted n (after_first is_line_feed text))
  where
    by : (found : Option ℕ) → position is_line_feed text ≡ found →
        IsParted n (after_first is_line_feed text) (behind_lines n (after_first is_line_feed text)) →
        IsParted (suc n) text (behind_lines n (after_first is_line_feed text))
    by (Some end) here parts =
        parted-next n text (behind_lines n (after_first is_line_feed text)) end here
        (subst (λ others. IsParted n others (behind_lines n (after_first is_line_feed text))) (sym (after-ended text end here)) parts)
    by None none parts =
        parted-none n text (behind_lines n (after_first is_line_feed text)) none
        (ap (behind_lines n) (after-unended text none) ∙ behind-none n)

after-behind : (n : ℕ) (text : List ℕ) → after_first is_line_feed (behind_lines n text) ≡ behind_lines (suc n) text
after-behind zero text = refl
after-behind (suc n) text = after-behind n (after_first is_line_feed text)

pub model-parted : (text : List ℕ) → IsParted (suc (position_or_len is_model_line (lines_of text))) text (model_text text)
model-parted text =
    let n = position_or_len is_model_line (lines_of text) in
    subst (IsParted (suc n) text) (sym (after-behind n text)) (parted (suc n) text)

front-is_head : (n : ℕ) (text : List ℕ) (parts : IsParted n text (model_text text)) → parts.front ≡ head_of text
front-is_head n text parts =
    let long : length parts.front ≡ length text - length (model_text text) =
    omega (arith, ap length parts.whole, length-append parts.front (model_text text)) in
    sym (ap (take (length text - length (model_text text))) parts.whole
    ∙ take_at parts.front (model_text text) (length text - length (model_text text)) long)

-- a text is its head, and behind it the model's part
pub text-whole : (text : List ℕ) → text ≡ head_of text ++ model_text text
text-whole text =
    let n = suc (position_or_len is_model_line (lines_of text)) in
    let parts = model-parted text in parts.whole ∙ ap (λ front. front ++ model_text text) (front-is_head n text parts)

-- and its lines are theirs
pub text-lines : (text : List ℕ) → lines_of text ≡ lines_of (head_of text) ++ lines_of (model_text text)
text-lines text =
    let n = suc (position_or_len is_model_line (lines_of text)) in
    let parts = model-parted text in parts.lines ∙ ap (λ front. lines_of front ++ lines_of (model_text text)) (front-is_head n text parts)

-- the head's lines are the first ones
pub head-lines : (text : List ℕ) → lines_of (head_of text) ≡ take (position_or_len is_model_line (lines_of text) + 1) (lines_of text)
head-lines text =
    let n = position_or_len is_model_line (lines_of text) in
    let parts = model-parted text in
    let e : suc n ≡ n + 1 = omega arith in
    ap lines_of (sym (front-is_head (suc n) text parts)) ∙ parts.taken ∙ ap (λ m. take m (lines_of text)) e

-- the model's part begins where the head ends
pub model-drop : (text : List ℕ) → drop (length (head_of text)) text ≡ model_text text
model-drop text = ap (drop (length (head_of text))) (text-whole text) ∙ drop_at (head_of text) (model_text text) (length (head_of text)) refl
