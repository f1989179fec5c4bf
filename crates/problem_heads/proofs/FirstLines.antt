-- The first line of a text, and the model's part behind it.
use Rattle.std.proofs.Common.{◌≡◌, ◌≢◌, ℕ, suc, ◌+◌, ◌-◌, true, false, not, ◌||◌, cond, List, [], ◌∷◌, ◌++◌, length, map}
use Rattle.std.proofs.Common.{take, drop, position, Some, None, refl, sym, ap, ◌∙◌, arith}
use Rattle.std.specs.List.{after_first, list_any, position_or_len}
use Rattle.std.specs.Str.Lines.{strip_carriage_return}
use Rattle.std.proofs.Math.Seq.{drop-length}
use Rattle.std.proofs.lemmas.List.{drop_all, length-drop, length-take-le}
use Rattle.std.proofs.lemmas.List.Quantifiers.{position-Some}
use Rattle.line_lexer.proofs.PlaceLaws.{position_or_len-Some, position_or_len-None}
use Rattle.line_lexer.specs.Lines.{cut_at_feeds, is_line_feed, lines_of}
use Rattle.line_reader.proofs.Cuts.{feed-before, feed-cut, feed-none, lines_last, or_false-first, or_false-second}
use Rattle.problem_heads.specs.Cuts.{IsFirstLine}
use Rattle.problem_heads.specs.Heads.{behind_lines, has_model, head_of, is_model_line, model_text}

-- a line that a line feed ends
pub cut_ended : (line more : List ℕ) → list_any is_line_feed line ≡ false → cut_at_feeds (line ++ 10 ∷ more) ≡ line ∷ cut_at_feeds more
cut_ended [] more none = refl
cut_ended (byte ∷ line) more none =
    let first = or_false-first (is_line_feed byte) (list_any is_line_feed line) none in
    let rest = cut_ended line more (or_false-second (is_line_feed byte) (list_any is_line_feed line) none) in
    rw first (rw rest refl)

pub lines_ended : (line more : List ℕ) → list_any is_line_feed line ≡ false → lines_of (line ++ 10 ∷ more) ≡ strip_carriage_return line ∷ lines_of more
lines_ended line more none = ap (map strip_carriage_return) (cut_ended line more none)

pub after-ended : (text : List ℕ) (end : ℕ) → position is_line_feed text ≡ Some end → drop (end + 1) text ≡ after_first is_line_feed text
after-ended text end here = ap (λ n. drop (n + 1) text) (sym (position_or_len-Some is_line_feed text end here))

pub after-unended : (text : List ℕ) → position is_line_feed text ≡ None → after_first is_line_feed text ≡ []
after-unended text none =
    drop_all (position_or_len is_line_feed text + 1) text (omega (arith, position_or_len-None is_line_feed text none))

pub first-ended : (text : List ℕ) (end : ℕ) → position is_line_feed text ≡ Some end →
    IsFirstLine text (strip_carriage_return (take end text)) (drop (end + 1) text)
first-ended text end here = record {
  lines = ap lines_of (feed-cut text end here) ∙ lines_ended (take end text) (drop (end + 1) text) (feed-before text end here);
  others_are = after-ended text end here;
  shorter = omega (arith, length-drop (end + 1) text, (position-Some is_line_feed text end 0 here).0);
}

pub first-unended : (text : List ℕ) → text ≢ [] → position is_line_feed text ≡ None →
    IsFirstLine text (strip_carriage_return text) (drop (length text) text)
first-unended [] some none = absurd (some refl)
first-unended (byte ∷ text) some none =
    let gone = drop-length (byte ∷ text) in
    record {
      lines = lines_last byte text (feed-none (byte ∷ text) none)
          ∙ ap (λ rest. strip_carriage_return (byte ∷ text) ∷ lines_of rest) (sym gone);
      others_are = gone ∙ sym (after-unended (byte ∷ text) none);
      shorter = omega (arith, ap length gone);
    }

module _ (text line others : List ℕ) (first : IsFirstLine text line others) where
  -- the line ends the head
  pub model-here : is_model_line line ≡ true → model_text text ≡ others
  model-here here =
      let n = position_or_len is_model_line (lines_of others) in
      let none : position_or_len is_model_line (lines_of text) ≡ 0 =
      ap (position_or_len is_model_line) first.lines ∙ ap (λ b. cond (not b) (1 + n) 0) here in
      ap (λ m. after_first is_line_feed (behind_lines m text)) none ∙ sym first.others_are

  -- or does not
  pub model-later : is_model_line line ≡ false → model_text text ≡ model_text others
  model-later other =
      let n = position_or_len is_model_line (lines_of others) in
      let more : 1 + n ≡ suc n = omega arith in
      let next : position_or_len is_model_line (lines_of text) ≡ suc n =
      ap (position_or_len is_model_line) first.lines ∙ ap (λ b. cond (not b) (1 + n) 0) other ∙ more in
      ap (λ m. after_first is_line_feed (behind_lines m text)) next
      ∙ ap (λ rest. after_first is_line_feed (behind_lines n rest)) (sym first.others_are)

  pub found-here : is_model_line line ≡ true → has_model text ≡ true
  found-here here = ap (list_any is_model_line) first.lines ∙ ap (λ b. b || has_model others) here

  pub found-later : is_model_line line ≡ false → has_model text ≡ has_model others
  found-later other = ap (list_any is_model_line) first.lines ∙ ap (λ b. b || has_model others) other

-- how long a head is
pub head-length : (text rest : List ℕ) → model_text text ≡ rest → length (head_of text) ≡ length text - length rest
head-length text rest same =
    length-take-le (length text - length (model_text text)) text (omega arith) ∙ ap (λ part. length text - length part) same
