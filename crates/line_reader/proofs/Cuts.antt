-- Lines of a text that goes on.
use Rattle.std.proofs.Common.{◌≡◌, ℕ, suc, ◌+◌, ◌<◌, ◌≤◌, Bool, true, false, ◌||◌, List, [], ◌∷◌, ◌++◌, length, map}
use Rattle.std.proofs.Common.{take, drop, get_or, position, Some, None, refl, sym, ap, ◌∙◌, arith, append_assoc}
use Rattle.std.proofs.Common.{append-nil, length-append, one-add}
use Rattle.std.specs.List.{onto_first, list_any, before_first}
use Rattle.std.specs.Str.Lines.{strip_carriage_return}
use Rattle.std.proofs.Math.Seq.{take-length, drop-cons}
use Rattle.std.proofs.lemmas.Bool.{eqb-true}
use Rattle.std.proofs.lemmas.List.{length-map, take-append-drop}
use Rattle.std.proofs.lemmas.List.Quantifiers.{position-Some}
use Rattle.std.proofs.lemmas.List.Folds.{list_any-append}
use Rattle.line_lexer.proofs.PlaceLaws.{position_or_len-Some, position_or_len-None}
use Rattle.line_lexer.specs.Lines.{is_line_feed, cut_at_feeds, lines_of}
use Rattle.line_reader.specs.Readings.{IsCutInLines}

pub or_false-first : (a b : Bool) → (a || b) ≡ false → a ≡ false
or_false-first true b e = e
or_false-first false b e = refl

pub or_false-second : (a b : Bool) → (a || b) ≡ false → b ≡ false
or_false-second true b e = let f : ⊥ = cc in absurd f
or_false-second false b e = e

-- a line that a line feed ends
cut_ended : (line more : List ℕ) → list_any is_line_feed line ≡ false → cut_at_feeds (line ++ 10 ∷ more) ≡ line ∷ cut_at_feeds more
cut_ended [] more none = refl
cut_ended (byte ∷ line) more none =
    let first = or_false-first (is_line_feed byte) (list_any is_line_feed line) none in
    let rest = cut_ended line more (or_false-second (is_line_feed byte) (list_any is_line_feed line) none) in
    rw first (rw rest refl)

-- a line that none ends
cut_last : (byte : ℕ) (line : List ℕ) → list_any is_line_feed (byte ∷ line) ≡ false → cut_at_feeds (byte ∷ line) ≡ (byte ∷ line) ∷ []
cut_last byte [] none = rw (or_false-first (is_line_feed byte) false none) refl
cut_last byte (next ∷ line) none =
    let first = or_false-first (is_line_feed byte) (list_any is_line_feed (next ∷ line)) none in
    let rest = cut_last next line (or_false-second (is_line_feed byte) (list_any is_line_feed (next ∷ line)) none) in
    rw first (ap (onto_first byte) rest)

pub lines_last : (byte : ℕ) (line : List ℕ) → list_any is_line_feed (byte ∷ line) ≡ false → lines_of (byte ∷ line) ≡ strip_carriage_return (byte ∷ line) ∷ []
lines_last byte line none = ap (map strip_carriage_return) (cut_last byte line none)

onto_first-length : (byte : ℕ) (parts : List (List ℕ)) → length (onto_first byte parts) ≤ length parts + 1
onto_first-length byte [] = omega arith
onto_first-length byte (part ∷ parts) = omega arith

cut-length : (text : List ℕ) → length (cut_at_feeds text) ≤ length text
cut-length [] = omega arith
cut-length (byte ∷ text) = by (is_line_feed byte) refl (cut-length text)
  where
    by : (b : Bool) → is_line_feed byte ≡ b → length (cut_at_feeds text) ≤ length text → length (cut_at_feeds (byte ∷ text)) ≤ length (byte ∷ text)
    by true e rest = rw e (omega arith)
    by false e rest = rw e (omega (arith, onto_first-length byte (cut_at_feeds text)))

-- the lines are no more than the bytes
pub cut-lines_within : (text : List ℕ) (lines : List (List ℕ)) (rest : List ℕ) → IsCutInLines text lines rest → length lines ≤ length text
cut-lines_within text lines rest cut =
    let whole = ap length (cut.whole []) in
    omega (
      arith,
      whole,
      length-append lines (lines_of (rest ++ [])),
      length-map
          (cut_at_feeds (text ++ [])) strip_carriage_return,
      cut-length (text ++ []),
      ap length (append-nil text),
    )

-- nothing was fed
pub cut-none : IsCutInLines [] [] []
cut-none = record { whole = λ more. refl; unended = refl }

-- a part that ends no line
pub cut-part : (text : List ℕ) (lines : List (List ℕ)) (rest part : List ℕ) → IsCutInLines text lines rest →
    list_any is_line_feed part ≡ false → IsCutInLines (text ++ part) lines (rest ++ part)
cut-part text lines rest part cut unended = record {
  whole = λ more.
      ap lines_of (append_assoc text part more) ∙ cut.whole (part ++ more)
      ∙ ap (λ all. lines ++ lines_of all) (sym (append_assoc rest part more));
  unended = list_any-append is_line_feed rest part ∙ rw (cut.unended, unended) refl;
}

-- a line feed
pub cut-feed : (text : List ℕ) (lines : List (List ℕ)) (rest : List ℕ) → IsCutInLines text lines rest →
    IsCutInLines (text ++ 10 ∷ []) (lines ++ strip_carriage_return rest ∷ []) []
cut-feed text lines rest cut = record {
  whole = λ more.
      ap lines_of (append_assoc text (10 ∷ []) more) ∙ cut.whole (10 ∷ more)
      ∙ ap (λ parts. lines ++ map strip_carriage_return parts) (cut_ended rest more cut.unended)
      ∙ sym (append_assoc lines (strip_carriage_return rest ∷ []) (lines_of more));
  unended = refl;
}

-- the lines of a text that ends here
pub cut-end : (text : List ℕ) (lines : List (List ℕ)) (rest : List ℕ) → IsCutInLines text lines rest → lines_of text ≡ lines ++ lines_of rest
cut-end text lines rest cut = ap lines_of (sym (append-nil text)) ∙ cut.whole [] ∙ ap (λ all. lines ++ lines_of all) (append-nil rest)

-- before the first line feed stands none
feed-unended : (text : List ℕ) → list_any is_line_feed (before_first is_line_feed text) ≡ false
feed-unended [] = refl
feed-unended (byte ∷ text) = by (is_line_feed byte) refl (feed-unended text)
  where
    by : (b : Bool) → is_line_feed byte ≡ b → list_any is_line_feed (before_first is_line_feed text) ≡ false →
        list_any is_line_feed (before_first is_line_feed (byte ∷ text)) ≡ false
    by true e rest = rw e refl
    by false e rest = rw e (simp one-add (rw e rest))

pub feed-before : (text : List ℕ) (end : ℕ) → position is_line_feed text ≡ Some end → list_any is_line_feed (take end text) ≡ false
feed-before text end here = ap (λ n. list_any is_line_feed (take n text)) (sym (position_or_len-Some is_line_feed text end here)) ∙ feed-unended text

pub feed-none : (text : List ℕ) → position is_line_feed text ≡ None → list_any is_line_feed text ≡ false
feed-none text none =
    let whole : before_first is_line_feed text ≡ text = ap (λ n. take n text) (position_or_len-None is_line_feed text none) ∙ take-length text in
    ap (list_any is_line_feed) (sym whole) ∙ feed-unended text

-- a text is what stands before its first line feed, that, and what stands behind it
pub feed-cut : (text : List ℕ) (end : ℕ) → position is_line_feed text ≡ Some end → text ≡ take end text ++ 10 ∷ drop (end + 1) text
feed-cut text end here =
    let found = position-Some is_line_feed text end 0 here in
    let feed : get_or text end 0 ≡ 10 = eqb-true (get_or text end 0) 10 found.1 in
    let next : suc end ≡ end + 1 = omega arith in
    sym (take-append-drop end text) ∙ ap (λ rest. take end text ++ rest) (drop-cons text end 0 found.0 ∙ (λ i. feed i ∷ drop (next i) text))

-- a piece of which a line more was taken
module _ (front rest line others piece : List ℕ) (whole : front ++ rest ≡ piece) (rest_is : rest ≡ line ++ 10 ∷ others) where
  pub piece-taken : (front ++ line ++ 10 ∷ []) ++ others ≡ piece
  piece-taken = append_assoc (front ++ line) (10 ∷ []) others ∙ append_assoc front line (10 ∷ others) ∙ ap (λ bytes. front ++ bytes) (sym rest_is) ∙ whole

  pub piece-within : (text : List ℕ) (limit : ℕ) → length (text ++ piece) ≤ limit → length (text ++ front ++ line) < limit
  piece-within text limit short = omega (
    arith,
    length-append text piece,
    ap length whole,
    length-append front rest,
    ap length rest_is,
    length-append line (10 ∷ others),
    length-append (text ++ front) line,
    length-append text front,
  )

pub piece-joined : (text front line : List ℕ) → text ++ front ++ line ++ 10 ∷ [] ≡ text ++ (front ++ line ++ 10 ∷ [])
piece-joined text front line = ap (λ bytes. bytes ++ 10 ∷ []) (append_assoc text front line) ∙ append_assoc text (front ++ line) (10 ∷ [])
