-- A line that is read by its words.
use Rattle.std.proofs.Common.{◌≡◌, ℕ, ◌+◌, List, [], ◌∷◌, ◌++◌, length, map, Result, Ok, Err}
use Rattle.std.proofs.Common.{sym, ap, subst, ◌∙◌, arith, append_assoc, append-nil, length-append}
use Rattle.std.specs.Result.{result_err, result_unwrap_or}
use Rattle.std.proofs.lemmas.List.{map-append}
use Rattle.refusals.specs.declared.fault.Fault.{Fault}
use Rattle.refusals.specs.declared.fault.Fault.TheVariants.{Broken, NoMemory}
use Rattle.line_reader.specs.Answers.{AnswersRule, ReadsWords}
use Rattle.line_reader.proofs.Rules.{first_kept}
use Rattle.problem_heads.specs.HeadNumbers.{HeadNumber, head_number, number_given, numbers_from, numbers_in_line}
use Rattle.problem_heads.specs.HeadReading.{AddsNumber, HasReadLines, HeadParts, IsAfterLine, ReadsBehind, ReadsHeadLine, parts_told_by, told_by}
use Rattle.problem_heads.specs.HeadRules.{equation_number_rule, fresh_names_rule, given_rule, head_line_rule, head_words_rule, place_number_rule}
use Rattle.problem_heads.specs.declared.form.Form.{Form}
use Rattle.problem_heads.proofs.Telling.{fresh-told}

-- a number that is put last
module _ {N : Type 0} (f : N → ℕ) (p : ℕ) (form : Form) (line : ℕ) (names : List (List ℕ)) (text : List ℕ) (number : N)
    (read : head_number p form text ≡ Ok (f number)) (old new : HeadParts N) where
  added-rule : given_rule p form (map (told_by f) old.numbers) names text ≡ fresh_names_rule old.numbers names
  added-rule =
      first_kept (result_err (head_number p form text)) (fresh_names_rule (map (told_by f) old.numbers) names) (ap result_err read)
      ∙ fresh-told f old.numbers names

  added-last : IsAfterLine line old new (record { line = line; names = names; number = number } ∷ []) →
      IsAfterLine line (parts_told_by f old) (parts_told_by f new) (number_given p form line names text ∷ [])
  added-last after =
      let given : HeadNumber N = record { line = line; names = names; number = number } in
      let same : f number ≡ result_unwrap_or (head_number p form text) 0 = ap (λ r. result_unwrap_or r 0) (sym read) in
      ap (parts_told_by f) after
      ∙ (λ i. record { lines = line; numbers = map-append (told_by f) old.numbers (given ∷ []) i })
      ∙ (λ i. record { lines = line; numbers = map (told_by f) old.numbers ++ record { line = line; names = names; number = same i } ∷ [] })

  pub added-told : (result : Result (Unit {0}) Fault) →
      AddsNumber old new (record { line = line; names = names; number = number }) result →
      AnswersRule (given_rule p form (map (told_by f) old.numbers) names text)
      (IsAfterLine line (parts_told_by f old) (parts_told_by f new) (number_given p form line names text ∷ [])) result
  added-told (Ok done) (kept, after) = (added-rule ∙ kept, added-last after)
  added-told (Err (Broken why)) broken = added-rule ∙ broken
  added-told (Err NoMemory) answer = tt

-- an equation and a number
pub equation-told : {N : Type 0} (f : N → ℕ) (p : ℕ) (form : Form) (line : ℕ) (equation text : List ℕ) (number : N) →
    head_number p form text ≡ Ok (f number) → (old new : HeadParts N) (self : HeadParts ℕ) (words : List (List ℕ))
    (result : Result (Unit {0}) Fault) → parts_told_by f old ≡ self → words ≡ equation ∷ text ∷ [] →
    AddsNumber old new (record { line = line; names = equation ∷ []; number = number }) result →
    ReadsBehind p form line self (parts_told_by f new) words (equation_number_rule p form self.numbers words) result
equation-told f p form line equation text number read old new self words result view words_are adds =
    subst (λ w. ReadsBehind p form line self (parts_told_by f new) w (equation_number_rule p form self.numbers w) result) (sym words_are)
    (subst (λ s. ReadsBehind p form line s (parts_told_by f new) (equation ∷ text ∷ [])
    (equation_number_rule p form s.numbers (equation ∷ text ∷ [])) result) view
    (added-told f p form line (equation ∷ []) text number read old new result adds))

-- a place and a number
pub place-told : {N : Type 0} (f : N → ℕ) (p : ℕ) (form : Form) (line : ℕ) (equation unknown text : List ℕ) (number : N) →
    head_number p form text ≡ Ok (f number) → (old new : HeadParts N) (self : HeadParts ℕ) (words : List (List ℕ))
    (result : Result (Unit {0}) Fault) → parts_told_by f old ≡ self → words ≡ equation ∷ unknown ∷ text ∷ [] →
    AddsNumber old new (record { line = line; names = equation ∷ unknown ∷ []; number = number }) result →
    ReadsBehind p form line self (parts_told_by f new) words (place_number_rule p form self.numbers words) result
place-told f p form line equation unknown text number read old new self words result view words_are adds =
    subst (λ w. ReadsBehind p form line self (parts_told_by f new) w (place_number_rule p form self.numbers w) result) (sym words_are)
    (subst (λ s. ReadsBehind p form line s (parts_told_by f new) (equation ∷ unknown ∷ text ∷ [])
    (place_number_rule p form s.numbers (equation ∷ unknown ∷ text ∷ [])) result) view
    (added-told f p form line (equation ∷ unknown ∷ []) text number read old new result adds))

-- what one line more gives
numbers-more : (p : ℕ) (form : Form) (first line : ℕ) (before : List (List (List ℕ))) (words : List (List ℕ)) → first + length before ≡ line →
    numbers_from p form first (before ++ words ∷ []) ≡ numbers_from p form first before ++ numbers_in_line p form line words
numbers-more p form first line [] words at =
    let same : first ≡ line = omega (arith, at) in
    append-nil (numbers_in_line p form first words) ∙ ap (λ n. numbers_in_line p form n words) same
numbers-more p form first line (other ∷ before) words at =
    ap (λ more. numbers_in_line p form first other ++ more) (numbers-more p form (first + 1) line before words (omega (arith, at)))
    ∙ sym (append_assoc (numbers_in_line p form first other) (numbers_from p form (first + 1) before) (numbers_in_line p form line words))

-- A line that is read, whatever was read before.
pub reads-head_line : (p : ℕ) (form : Form) (line : ℕ) (old new : HeadParts ℕ) (words : List (List ℕ)) (result : Result (Unit {0}) Fault) →
    ReadsHeadLine p form line old new words result → ReadsWords (head_line_rule p form) (HasReadLines p form) line old new words result
reads-head_line p form line old new words (Ok done) (kept, after) = λ before has counted. (
  ap (λ given. head_words_rule p form given words) (sym has.numbers_are) ∙ kept,
  let here : 1 + length before ≡ line = omega (arith, counted) in
      record {
        count = ap (λ (parts : HeadParts ℕ). parts.lines) after ∙ omega (arith, counted, length-append before (words ∷ []));
        numbers_are = ap (λ (parts : HeadParts ℕ). parts.numbers) after
            ∙ ap (λ given. given ++ numbers_in_line p form line words) has.numbers_are
            ∙ sym (numbers-more p form 1 line before words here);
      },
)
reads-head_line p form line old new words (Err (Broken why)) broken = λ before has counted.
    ap (λ given. head_words_rule p form given words) (sym has.numbers_are) ∙ broken
reads-head_line p form line old new words (Err NoMemory) answer = λ before has counted. tt
