-- A reader that is fed a part more, and one that ends.
use Rattle.std.proofs.Common.{◌≡◌, ◌≢◌, ℕ, ◌+◌, ◌<◌, Bool, true, false, ◌||◌, ◌&&◌, is_some, List, [], ◌∷◌, ◌++◌}
use Rattle.std.proofs.Common.{length, map, min, if◌then◌else◌, Option, Some, None, Result, Ok, Err, OnOk, refl, sym}
use Rattle.std.proofs.Common.{ap, subst, ◌∙◌, arith, append_assoc, append-nil, length-append}
use Rattle.std.specs.List.{list_all, list_any}
use Rattle.std.specs.Str.Lines.{strip_carriage_return}
use Rattle.std.proofs.lemmas.List.{map-append, length-map}
use Rattle.limits.specs.Limits.{input_limit}
use Rattle.refusals.specs.declared.Place.TheVariants.{Line}
use Rattle.refusals.specs.declared.Refused.{Refused}
use Rattle.refusals.specs.declared.ReadModel.TheVariants.{Refused as IsRefused}
use Rattle.line_lexer.specs.Lines.{is_line_feed, lines_of}
use Rattle.line_lexer.specs.Tokens.{is_blank, is_comment_sign, uncommented}
use Rattle.line_reader.specs.LineRules.{Rules, KeepBefore, KeepsAll, IsRefusal, is_remark, words_in}
use Rattle.line_reader.specs.Readings.{reading, is_commented, kept_of, IsProgress, IsBroken, IsFed, EndsLine, ReadsEnded, ReadsLine}
use Rattle.line_reader.proofs.Cuts.{lines_last, cut-lines_within, cut-none, cut-part, cut-feed, cut-end}
use Rattle.line_reader.proofs.Kept.{ReadsSame, line_rule-same, kept-none, commented-none, ended-reads_same}
use Rattle.line_reader.proofs.Kept.{stripped-same, kept-whole, kept-plain, kept-remark, kept-commented}
use Rattle.line_reader.proofs.Rules.{KeepBefore-more, first_broken-here}

-- a refusal stays
broken-more : (rules : Rules) (text more : List ℕ) (refused : Refused) → IsBroken rules text refused → IsBroken rules (text ++ more) refused
broken-more rules text more refused broken = λ rest. subst (λ all. IsRefusal rules all (IsRefused refused))
    (sym (append_assoc text more rest)) (broken (more ++ rest))

-- the words of one line more
words_more : (rules : Rules) (lines : List (List ℕ)) (line : List ℕ) →
    map (words_in rules) (lines ++ line ∷ []) ≡ map (words_in rules) lines ++ words_in rules line ∷ []
words_more rules lines line = map-append (words_in rules) lines (line ∷ [])

module _ {R : Type 0} (rules : Rules) (has_read : R → List (List (List ℕ)) → Type 0) (text : List ℕ) (what : R) (n : ℕ) (bytes : List ℕ) (sign : Bool) where
  -- before the first byte
  pub progress-none : has_read what [] → n ≡ 1 → bytes ≡ [] → sign ≡ false → IsProgress rules has_read (reading what n bytes sign None) []
  progress-none read first empty plain = record {
    lines = [];
    rest = [];
    cut = cut-none;
    kept = λ k within. absurd (omega arith);
    read = read;
    number_is = first;
    line_is = empty ∙ sym (kept-none rules);
    commented_is = plain ∙ sym (commented-none rules);
  }

  -- a part that ends no line
  progress-part : (part line : List ℕ) (commented : Bool) → list_any is_line_feed part ≡ false
      → ((rest : List ℕ) → bytes ≡ kept_of rules rest → sign ≡ is_commented rules rest →
      (line ≡ kept_of rules (rest ++ part)) × (commented ≡ is_commented rules (rest ++ part)))
      → IsProgress rules has_read (reading what n bytes sign None) text → IsProgress rules has_read (reading what n line commented None) (text ++ part)
  progress-part part line commented unended kept progress =
      let more = kept progress.rest progress.line_is progress.commented_is in
      record {
        lines = progress.lines;
        rest = progress.rest ++ part;
        cut = cut-part text progress.lines progress.rest part progress.cut unended;
        kept = progress.kept;
        read = progress.read;
        number_is = progress.number_is;
        line_is = more.0;
        commented_is = more.1;
      }

  -- a line is ended
  fed-ended : (new : R) (later : ℕ) (refused : Option Refused) → length text < input_limit →
      later ≡ min (n + 1) 4294967295 → ReadsEnded rules has_read n bytes sign what new refused →
      IsProgress rules has_read (reading what n bytes sign None) text →
      IsFed rules has_read (reading new later [] false refused) (text ++ 10 ∷ [])
  fed-ended new later refused short next reads progress =
      by refused (reads (map (words_in rules) progress.lines) progress.rest progress.read
      (omega (
        arith,
        progress.number_is,
        length-map progress.lines
            (words_in rules),
      )) progress.line_is progress.commented_is)
    where
      by : (why : Option Refused) → EndsLine rules has_read n new (map (words_in rules) progress.lines)
          (strip_carriage_return progress.rest) why → IsFed rules has_read (reading new later [] false why)
          (text ++ 10 ∷ [])
      by None ended = record {
        lines = progress.lines ++ strip_carriage_return progress.rest ∷ [];
        rest = [];
        cut = cut-feed text progress.lines progress.rest progress.cut;
        kept = KeepBefore-more rules progress.lines (strip_carriage_return progress.rest) progress.kept ended.0;
        read = subst (has_read new) (sym (words_more rules progress.lines (strip_carriage_return progress.rest))) ended.1;
        number_is = omega (
          arith,
          progress.number_is,
          length-append progress.lines
              (strip_carriage_return progress.rest ∷ []),
          cut-lines_within text progress.lines progress.rest progress.cut,
        );
        line_is = sym (kept-none rules);
        commented_is = sym (commented-none rules);
      }
      by (Some why) ended = λ more. (
        length progress.lines,
        ended.0,
        ended.1 ∙ ap (λ k. record { place = Line k; why = ended.0 }) progress.number_is,
        first_broken-here rules ((text ++ 10 ∷ []) ++ more) progress.lines (strip_carriage_return progress.rest) (lines_of more) ended.0
            ((cut-feed text progress.lines progress.rest progress.cut).whole more ∙ append_assoc progress.lines
            (strip_carriage_return progress.rest ∷ []) (lines_of more))
            progress.kept ended.2,
      )

-- what a reader was fed, with its refusal, if it has one
module _ {R : Type 0} (rules : Rules) (has_read : R → List (List (List ℕ)) → Type 0) (text : List ℕ) (what : R) (n : ℕ) (bytes : List ℕ) (sign : Bool) where
  pub fed-part : (refused : Option Refused) (part line : List ℕ) (commented : Bool) →
      (refused ≡ None → list_any is_line_feed part ≡ false) → sign ≡ false →
      (is_remark rules.remark part && list_all is_blank bytes) ≡ false
      → line ≡ bytes ++ uncommented part → commented ≡ list_any is_comment_sign part
      → IsFed rules has_read (reading what n bytes sign refused) text → IsFed rules has_read (reading what n line commented refused) (text ++ part)
  fed-part None part line commented unended plain none line_is commented_is fed =
      progress-part rules has_read text what n bytes sign part line commented (unended refl) kept fed
    where
      kept : (rest : List ℕ) → bytes ≡ kept_of rules rest → sign ≡ is_commented rules rest →
          (line ≡ kept_of rules (rest ++ part)) × (commented ≡ is_commented rules (rest ++ part))
      kept rest bytes_are sign_is =
          let unsigned = sym sign_is ∙ plain in
          let whole = bytes_are ∙ kept-whole rules rest unsigned in
          let more = kept-plain rules rest unsigned part (ap (λ start. is_remark rules.remark part && list_all is_blank start) (sym whole) ∙ none) in (
            line_is ∙ ap (λ front. front ++ uncommented part) bytes_are ∙ sym more.0,
            commented_is ∙ sym more.1,
          )
  fed-part (Some why) part line commented unended plain none line_is commented_is fed = broken-more rules text part why fed

  -- a part that makes the line a comment as a whole
  pub fed-remark : (refused : Option Refused) (part line : List ℕ) →
      (refused ≡ None → list_any is_line_feed part ≡ false) → sign ≡ false →
      (is_remark rules.remark part && list_all is_blank bytes) ≡ true → line ≡ []
      → IsFed rules has_read (reading what n bytes sign refused) text → IsFed rules has_read (reading what n line true refused) (text ++ part)
  fed-remark None part line unended plain some line_is fed =
      progress-part rules has_read text what n bytes sign part line true (unended refl) kept fed
    where
      kept : (rest : List ℕ) → bytes ≡ kept_of rules rest → sign ≡ is_commented rules rest →
          (line ≡ kept_of rules (rest ++ part)) × (true ≡ is_commented rules (rest ++ part))
      kept rest bytes_are sign_is =
          let unsigned = sym sign_is ∙ plain in
          let whole = bytes_are ∙ kept-whole rules rest unsigned in
          let more = kept-remark rules rest unsigned part (ap (λ start. is_remark rules.remark part && list_all is_blank start) (sym whole) ∙ some) in (
            line_is ∙ sym more.0,
            sym more.1,
          )
  fed-remark (Some why) part line unended plain some line_is fed = broken-more rules text part why fed

  -- after a refusal, or in a comment
  pub fed-left : (refused : Option Refused) (part : List ℕ) → (refused ≡ None → list_any is_line_feed part ≡ false) → (is_some refused || sign) ≡ true
      → IsFed rules has_read (reading what n bytes sign refused) text → IsFed rules has_read (reading what n bytes sign refused) (text ++ part)
  fed-left None part unended commented fed =
      progress-part rules has_read text what n bytes sign part bytes sign (unended refl) kept fed
    where
      kept : (rest : List ℕ) → bytes ≡ kept_of rules rest → sign ≡ is_commented rules rest →
          (bytes ≡ kept_of rules (rest ++ part)) × (sign ≡ is_commented rules (rest ++ part))
      kept rest bytes_are sign_is =
          let more = kept-commented rules rest part (sym sign_is ∙ commented) in (bytes_are ∙ sym more.0, commented ∙ sym more.1)
  fed-left (Some why) part unended commented fed = broken-more rules text part why fed

  -- a reader that has a refusal
  pub refused-end : (refused : Option Refused) (why : Refused) → refused ≡ Some why →
      IsFed rules has_read (reading what n bytes sign refused) text → IsRefusal rules text (IsRefused why)
  refused-end None why here fed = let f : ⊥ = cc in absurd f
  refused-end (Some other) why here fed =
      let same : other ≡ why = cc in
      subst (λ all. IsRefusal rules all (IsRefused why)) (append-nil text) (subst (λ r. IsBroken rules text r) same fed [])

-- what is read of a line, by the bytes of another one of which the same is read
ends-same : {R : Type 0} (rules : Rules) (has_read : R → List (List (List ℕ)) → Type 0) (n : ℕ) (new : R)
    (before : List (List (List ℕ))) (line bytes : List ℕ) (refused : Option Refused) → ReadsSame rules line bytes
    → EndsLine rules has_read n new before line refused → EndsLine rules has_read n new before bytes refused
ends-same rules has_read n new before line bytes None same ended = (
  sym (line_rule-same rules before line bytes same) ∙ ended.0,
  subst (λ words. has_read new (before ++ words ∷ [])) same.words ended.1,
)
ends-same rules has_read n new before line bytes (Some refused) same ended = (ended.0, ended.1, sym (line_rule-same rules before line bytes same) ∙ ended.2)

-- a line feed
module _ {R : Type 0} (rules : Rules) (has_read : R → List (List (List ℕ)) → Type 0) (what : R) (n : ℕ) (bytes : List ℕ) (sign : Bool) where
  -- after the last part of a line
  pub fed-feed : {E : Type 0} (result : Result (Unit {0}) E) (part : List ℕ) (WasFed : List ℕ → Type 0)
      (refused : Option Refused) (new : R) (later : ℕ) (left : List ℕ) (commented : Bool) (why : Option Refused) →
      refused ≡ None
      → ((text : List ℕ) → WasFed text → IsFed rules has_read (reading what n bytes sign refused) (text ++ part))
      → OnOk result (later ≡ min (n + 1) 4294967295) → OnOk result (left ≡ []) → OnOk result (commented ≡ false) →
      OnOk result (ReadsEnded rules has_read n bytes sign what new why)
      → OnOk result ((text : List ℕ) → length (text ++ part) < input_limit → WasFed text →
      IsFed rules has_read (reading new later left commented why) (text ++ part ++ 10 ∷ []))
  fed-feed (Ok done) part WasFed refused new later left commented why none step next empty plain reads = λ text short fed.
      subst (λ b. IsFed rules has_read (reading new later left b why) (text ++ part ++ 10 ∷ [])) (sym plain)
      (subst (λ l. IsFed rules has_read (reading new later l false why) (text ++ part ++ 10 ∷ [])) (sym empty)
      (fed-ended rules has_read (text ++ part) what n bytes sign new later why short next reads
      (subst (λ r. IsFed rules has_read (reading what n bytes sign r) (text ++ part)) none (step text fed))))
  fed-feed (Err fault) part WasFed refused new later left commented why none step next empty plain reads = tt

  -- after a whole line
  pub fed-whole : (part line : List ℕ) (refused : Option Refused) (new : R) (later : ℕ) (why : Option Refused) →
      refused ≡ None → bytes ≡ [] → sign ≡ false → list_any is_line_feed part ≡ false →
      line ≡ strip_carriage_return part
      → later ≡ min (n + 1) 4294967295 → ReadsLine rules has_read n what new line why
      → (text : List ℕ) → length (text ++ part) < input_limit →
      IsFed rules has_read (reading what n bytes sign refused) text →
      IsFed rules has_read (reading new later bytes sign why) (text ++ part ++ 10 ∷ [])
  fed-whole part line refused new later why none empty plain unended line_is next reads text short fed =
      subst (λ b. IsFed rules has_read (reading new later bytes b why) (text ++ part ++ 10 ∷ [])) (sym plain)
      (subst (λ l. IsFed rules has_read (reading new later l false why) (text ++ part ++ 10 ∷ [])) (sym empty)
      (fed-ended rules has_read (text ++ part) what n (kept_of rules part) (is_commented rules part) new later why short next ended progress))
    where
      ended : ReadsEnded rules has_read n (kept_of rules part) (is_commented rules part) what new why
      ended = λ before other read counted same sign_is. ends-same rules has_read n new before line (strip_carriage_return other) why
          (subst (λ given. ReadsSame rules given (strip_carriage_return other)) (sym line_is)
          (stripped-same rules part other same sign_is)) (reads before read counted)

      kept : (rest : List ℕ) → bytes ≡ kept_of rules rest → sign ≡ is_commented rules rest →
          (kept_of rules part ≡ kept_of rules (rest ++ part))
          × (is_commented rules part ≡ is_commented rules (rest ++ part))
      kept rest bytes_are sign_is =
          let nothing : [] ≡ rest = sym empty ∙ bytes_are ∙ kept-whole rules rest (sym sign_is ∙ plain) in (
            ap (λ front. kept_of rules (front ++ part)) nothing,
            ap (λ front. is_commented rules (front ++ part)) nothing,
          )

      progress : IsProgress rules has_read (reading what n (kept_of rules part) (is_commented rules part) None) (text ++ part)
      progress = progress-part rules has_read text what n bytes sign part (kept_of rules part) (is_commented rules part) unended kept
          (subst (λ r. IsFed rules has_read (reading what n bytes sign r) text) none fed)

-- a text that ends
module _ {R : Type 0} (rules : Rules) (has_read : R → List (List (List ℕ)) → Type 0) (text : List ℕ) (what : R) (n : ℕ) (bytes : List ℕ) (sign : Bool) where
  abbrev IsOpen : Type 0
  IsOpen = IsProgress rules has_read (reading what n bytes sign None) text

  -- at a line feed, or before any byte
  lines-fed : bytes ≡ [] → sign ≡ false → (progress : IsOpen) → lines_of text ≡ progress.lines
  lines-fed empty plain progress =
      let nothing : progress.rest ≡ [] = sym (kept-whole rules progress.rest (sym progress.commented_is ∙ plain)) ∙ sym progress.line_is ∙ empty in
      cut-end text progress.lines progress.rest progress.cut ∙ ap (λ rest. progress.lines ++ lines_of rest) nothing ∙ append-nil progress.lines

  pub keeps-fed : bytes ≡ [] → sign ≡ false → IsOpen → KeepsAll rules text
  keeps-fed empty plain progress = subst (λ lines. KeepBefore rules (length lines) lines) (sym (lines-fed empty plain progress)) progress.kept

  pub reads-fed : bytes ≡ [] → sign ≡ false → IsOpen → has_read what (map (words_in rules) (lines_of text))
  reads-fed empty plain progress = subst (λ lines. has_read what (map (words_in rules) lines)) (sym (lines-fed empty plain progress)) progress.read

  -- within a line
  lines-left : (sign ≡ false → bytes ≢ []) → (progress : IsOpen) → lines_of text ≡ progress.lines ++ strip_carriage_return progress.rest ∷ []
  lines-left some progress = cut-end text progress.lines progress.rest progress.cut
      ∙ ap (λ more. progress.lines ++ more) (by progress.rest progress.line_is progress.commented_is progress.cut.unended)
    where
      by : (rest : List ℕ) → bytes ≡ kept_of rules rest → sign ≡ is_commented rules rest →
          list_any is_line_feed rest ≡ false → lines_of rest ≡ strip_carriage_return rest ∷ []
      by [] line commented none = absurd (some (commented ∙ commented-none rules) (line ∙ kept-none rules))
      by (byte ∷ rest) line commented none = lines_last byte rest none

  ends : (new : R) (refused : Option Refused) → ReadsEnded rules has_read n bytes sign what new refused →
      (progress : IsOpen) → EndsLine rules has_read n new (map (words_in rules) progress.lines)
      (strip_carriage_return progress.rest) refused
  ends new refused reads progress = reads (map (words_in rules) progress.lines) progress.rest progress.read
      (omega (
        arith,
        progress.number_is,
        length-map progress.lines
            (words_in rules),
      )) progress.line_is progress.commented_is

  pub keeps-left : (new : R) → (sign ≡ false → bytes ≢ []) → ReadsEnded rules has_read n bytes sign what new None → IsOpen → KeepsAll rules text
  keeps-left new some reads progress =
      subst (λ lines. KeepBefore rules (length lines) lines) (sym (lines-left some progress))
      (KeepBefore-more rules progress.lines (strip_carriage_return progress.rest) progress.kept (ends new None reads progress).0)

  pub reads-left : (new : R) → (sign ≡ false → bytes ≢ []) → ReadsEnded rules has_read n bytes sign what new None →
      IsOpen → has_read new (map (words_in rules) (lines_of text))
  reads-left new some reads progress =
      subst (λ lines. has_read new (map (words_in rules) lines)) (sym (lines-left some progress))
      (subst (has_read new) (sym (words_more rules progress.lines (strip_carriage_return progress.rest))) (ends new None reads progress).1)

  pub refused-left : (new : R) (why : Refused) → (sign ≡ false → bytes ≢ []) →
      ReadsEnded rules has_read n bytes sign what new (Some why) → IsOpen → IsRefusal rules text (IsRefused why)
  refused-left new why some reads progress =
      let ended = ends new (Some why) reads progress in (
        length progress.lines,
        ended.0,
        ended.1 ∙ ap (λ k. record { place = Line k; why = ended.0 }) progress.number_is,
        first_broken-here rules text progress.lines (strip_carriage_return progress.rest) [] ended.0 (lines-left some progress) progress.kept ended.2,
      )

-- What reading an ended line by what was kept of it answers.
pub ended-reads : {R : Type 0} (rules : Rules) (has_read : R → List (List (List ℕ)) → Type 0) (n : ℕ)
    (line : List ℕ) (sign : Bool) (old new : R) (given : List ℕ) (refused : Option Refused) →
    given ≡ (if sign then line else strip_carriage_return line)
    → ReadsLine rules has_read n old new given refused → ReadsEnded rules has_read n line sign old new refused
ended-reads rules has_read n line sign old new given refused given_is reads = λ before bytes read counted line_is sign_is.
    let kept = subst (λ l. ReadsSame rules (if is_commented rules bytes then l else strip_carriage_return l)
    (strip_carriage_return bytes)) (sym line_is) (ended-reads_same rules bytes) in
    let signed = subst (λ b. ReadsSame rules (if b then line else strip_carriage_return line) (strip_carriage_return bytes)) (sym sign_is) kept in
    let same = subst (λ l. ReadsSame rules l (strip_carriage_return bytes)) (sym given_is) signed in
    ends-same rules has_read n new before given (strip_carriage_return bytes) refused same (reads before read counted)
