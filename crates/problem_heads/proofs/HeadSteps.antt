-- A head that is read.
use Rattle.std.proofs.Common.{◌≡◌, ℕ, ◌+◌, List, [], ◌∷◌, ◌++◌, codes, length, take, Some, None, if◌then◌else◌}
use Rattle.std.proofs.Common.{refl, ap, ◌∙◌}
use Rattle.std.specs.Str.{bytes_eq}
use Rattle.std.proofs.lemmas.List.{take_at}
use Rattle.refusals.specs.declared.Why.TheVariants.{BadWord}
use Rattle.problem_heads.specs.Heads.{head_of, model_text}
use Rattle.problem_heads.specs.HeadNumbers.{HeadNumber, head_numbers, numbers_from, numbers_in_line}
use Rattle.problem_heads.specs.HeadReading.{HasReadLines, HeadParts}
use Rattle.problem_heads.specs.HeadRules.{equation_number_rule, head_line_rule, head_rules, head_words_rule, model_word_rule}
use Rattle.problem_heads.specs.declared.form.Form.TheVariants.{Repair}
use Rattle.problem_heads.proofs.Parting.{text-whole}

-- the head is what stands before its end
pub head-taken : (text : List ℕ) (start : ℕ) → start ≡ length (head_of text) → take start text ≡ head_of text
head-taken text start start_is =
    ap (λ n. take n text) start_is ∙ ap (take (length (head_of text))) (text-whole text)
    ∙ take_at (head_of text) (model_text text) (length (head_of text)) refl

-- costs do not depend on a field
costs-in_line : (p line : ℕ) (words : List (List ℕ)) → numbers_in_line 0 Repair line words ≡ numbers_in_line p Repair line words
costs-in_line p line [] = refl
costs-in_line p line (a ∷ []) = refl
costs-in_line p line (a ∷ b ∷ []) = refl
costs-in_line p line (a ∷ b ∷ c ∷ []) = refl
costs-in_line p line (a ∷ b ∷ c ∷ d ∷ []) = refl
costs-in_line p line (a ∷ b ∷ c ∷ d ∷ e ∷ words) = refl

costs-from : (p first : ℕ) (lines : List (List (List ℕ))) → numbers_from 0 Repair first lines ≡ numbers_from p Repair first lines
costs-from p first [] = refl
costs-from p first (words ∷ lines) =
    let here = costs-in_line p first words in let rest = costs-from p (first + 1) lines in λ i. here i ++ rest i

cost-rule : (p : ℕ) (given : List (HeadNumber ℕ)) (words : List (List ℕ)) →
    equation_number_rule 0 Repair given words ≡ equation_number_rule p Repair given words
cost-rule p given [] = refl
cost-rule p given (a ∷ []) = refl
cost-rule p given (a ∷ b ∷ []) = refl
cost-rule p given (a ∷ b ∷ c ∷ words) = refl

cost-line_rule : (p : ℕ) (given : List (HeadNumber ℕ)) (words : List (List ℕ)) →
    head_words_rule 0 Repair given words ≡ head_words_rule p Repair given words
cost-line_rule p given [] = refl
cost-line_rule p given (word ∷ words) =
    ap (λ rule. if bytes_eq word (codes "cost") then rule else (if bytes_eq word (codes "model") then model_word_rule words else Some BadWord))
    (cost-rule p given words)

pub cost-rules : (p : ℕ) → head_rules 0 Repair ≡ head_rules p Repair
cost-rules p =
    let same : (before : List (List (List ℕ))) (words : List (List ℕ)) → head_line_rule 0 Repair before words ≡ head_line_rule p Repair before words =
    λ before words. ap (λ given. head_words_rule 0 Repair given words) (costs-from p 1 before)
    ∙ cost-line_rule p (head_numbers p Repair before) words in
    λ i. record { remark = None; words = λ before words. same before words i }

pub cost-lines_read : (p : ℕ) (parts : HeadParts ℕ) (lines : List (List (List ℕ))) → HasReadLines 0 Repair parts lines →
    HasReadLines p Repair parts lines
cost-lines_read p parts lines has = record { count = has.count; numbers_are = has.numbers_are ∙ costs-from p 1 lines }
