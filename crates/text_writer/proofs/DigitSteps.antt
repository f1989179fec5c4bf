-- Digits from the last to the first.
use Rattle.std.proofs.Common.{ℕ, zero, suc, ◌≡◌, ◌≤◌, ◌<◌, ◌+◌, ◌/◌, ◌%◌, ◌^◌, List, [], ◌∷◌, ◌++◌, length, drop, set}
use Rattle.std.proofs.Common.{append_assoc, length-set, ap, sym, ◌∙◌, subst, arith}
use Rattle.std.proofs.lemmas.List.{drop-set}
use Rattle.std.proofs.lemmas.Fmt.{decimal_digit, decimal_step}
use Rattle.std.proofs.lemmas.Grind.{pow_more}
use Rattle.std.specs.Fmt.{decimal}

-- the digits from `start + 1` on end n, and the last digit of what is left goes before them
pub digit_before : (n left start before : ℕ) (place : List ℕ) → before + 1 ≡ start → 10 ≤ left → left < 2 ^ 64 → start < length place →
    decimal n ≡ decimal left ++ drop (start + 1) place → decimal n ≡ decimal (left / 10) ++ drop (before + 1) (set place start (48 + left % 10))
digit_before n left start before place next ten fits within told =
    told
    ∙ ap (λ ds. ds ++ drop (start + 1) place) (decimal_step left ten fits)
    ∙ append_assoc (decimal (left / 10)) ((48 + left % 10) ∷ []) (drop (start + 1) place)
    ∙ ap (λ ds. decimal (left / 10) ++ ds) (sym (drop-set place start (48 + left % 10) within))
    ∙ ap (λ k. decimal (left / 10) ++ drop k (set place start (48 + left % 10))) (sym next)

-- the first digit, and the mark before it
pub mark_before : (n left start before mark : ℕ) (place : List ℕ) → before + 1 ≡ start → left < 10 → start < length place →
    decimal n ≡ decimal left ++ drop (start + 1) place → drop before (set (set place start (48 + left)) before mark) ≡ mark ∷ decimal n
mark_before n left start before mark place next small within told =
    drop-set (set place start (48 + left)) before mark (subst (λ k. before < k) (sym (length-set place start (48 + left))) (omega arith))
    ∙ ap (λ k. mark ∷ drop k (set place start (48 + left))) next
    ∙ ap (λ ds. mark ∷ ds) (drop-set place start (48 + left) within ∙ sym (told ∙ ap (λ ds. ds ++ drop (start + 1) place) (decimal_digit left small)))

-- a number with two digits or more has more than one power of ten above it
pub two_places : (left start : ℕ) → 10 ≤ left → left < 10 ^ start → 2 ≤ start
two_places left zero ten small = absurd (omega arith)
two_places left (suc zero) ten small = absurd (omega arith)
two_places left (suc (suc start)) ten small = omega arith

-- one digit less
pub tenth_below : (left start before : ℕ) → before + 1 ≡ start → left < 10 ^ start → left / 10 < 10 ^ before
tenth_below left start before next small = go (subst (λ k. left < 10 ^ k) (sym next) small)
  where
    go : left < 10 ^ (before + 1) → left / 10 < 10 ^ before
    go h = omega (arith, pow_more 10 before)
