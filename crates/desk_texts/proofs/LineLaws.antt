-- The first line of a text, and the lines behind it.
use Rattle.std.proofs.Common.{◌≡◌, ℕ, ◌+◌, ◌<◌, List, [], ◌∷◌, length, take, drop, position, Some, None, sym, ap, ◌∙◌, append_assoc, arith}
use Rattle.std.specs.Str.Lines.{strip_carriage_return}
use Rattle.line_lexer.specs.Lines.{is_line_feed, lines_of}
use Rattle.line_reader.proofs.Cuts.{cut-feed, cut-none, cut-part, feed-before, feed-cut, feed-none, lines_last}

-- a line that a line feed ends
pub line-ended : (text : List ℕ) (end : ℕ) → position is_line_feed text ≡ Some end →
    lines_of text ≡ strip_carriage_return (take end text) ∷ lines_of (drop (end + 1) text)
line-ended text end here =
    let line : List ℕ = take end text in
    let rest : List ℕ = drop (end + 1) text in
    let cut = cut-feed line [] line (cut-part [] [] [] line cut-none (feed-before text end here)) in
    ap lines_of (feed-cut text end here ∙ sym (append_assoc line (10 ∷ []) rest)) ∙ cut.whole rest

-- a line that none ends
pub line-last : (text : List ℕ) → 0 < length text → position is_line_feed text ≡ None → lines_of text ≡ strip_carriage_return text ∷ []
line-last [] some none = absurd (omega arith)
line-last (byte ∷ text) some none = lines_last byte text (feed-none (byte ∷ text) none)
