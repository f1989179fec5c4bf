-- The lengths of a certificate's lines, whose numbers have at most four digits, and how many numbers lists have.
use Rattle.std.proofs.Common.{◌≡◌, ℕ, zero, suc, ◌+◌, ◌*◌, ◌/◌, ◌%◌, ◌^◌, ◌<◌, ◌≤◌, ◌==◌, Bool, true, false, List, [], ◌∷◌}
use Rattle.std.proofs.Common.{length, get_or, decimal, if◌then◌else◌, inl, inr, refl, arith, suc-mul, ◌||◌}
use Rattle.std.specs.List.{All}
use Rattle.std.specs.List.Sorted.{IsStrictlyIncreasing}
use Rattle.std.specs.Fmt.{digit_glyph, digits as written, digits_onto}
use Rattle.std.proofs.lemmas.Bool.{eqb-false}
use Rattle.std.proofs.lemmas.List.{length-append}
use Rattle.std.proofs.lemmas.List.Elements.{All-head, All-tail}
use Rattle.residue_theory.specs.Sets.{everything, has}
use Rattle.residue_theory.specs.Sums.{size_on}
use Rattle.residue_theory.proofs.SetLaws.{differ, either_cases, not_true}
use Rattle.residue_theory.proofs.CountLaws.{size-everything, size-either}
use Rattle.residue_theory.proofs.SumLaws.{size_on-within}
use Rattle.cert_text.specs.Ranges.{AreRising}
use Rattle.certificate_laws.proofs.RisingLists.{members-counted}
use Rattle.cert_text.specs.Texts.{with_mark, spaced, item, lettered, pairs_text, entries_text, numbers_text, letters_text}

either-short : (b : Bool) (k : ℕ) (xs ys : List ℕ) → length xs ≤ k → (b ≡ false → length ys ≤ k) → length (if b then xs else ys) ≤ k
either-short true k xs ys one other = one
either-short false k xs ys one other = other refl

-- digits put before a text: however many there may be, a number below 10 ^ (k + 1) has at most k + 1
onto-short : (most k n : ℕ) (text : List ℕ) → n < 10 ^ suc k → length (digits_onto most 10 false n text) ≤ suc k + length text
onto-short zero k n text few = omega arith
onto-short (suc most) zero n text few =
    let more : List ℕ = digit_glyph false (n % 10) ∷ text in
    either-short (n / 10 == 0) (1 + length text) more (digits_onto most 10 false (n / 10) more) (omega arith)
    (λ some. absurd (eqb-false (n / 10) 0 some (omega (arith, few))))
onto-short (suc most) (suc k) n text few =
    let more : List ℕ = digit_glyph false (n % 10) ∷ text in
    either-short (n / 10 == 0) (suc (suc k) + length text) more (digits_onto most 10 false (n / 10) more) (omega arith)
    (λ some. omega (arith, onto-short most k (n / 10) more (omega (arith, few))))

-- a number below 10 ^ k has at most k digits, where k is not 0
pub decimal-short : (k n : ℕ) → 0 < k → n < 10 ^ k → length (decimal n) ≤ k
unfolding written
decimal-short zero n some few = absurd (omega (arith, some))
decimal-short (suc k) n some few = omega (arith, onto-short 64 k n [] few)

-- k is not 0 where a number but 0 is below 10 ^ k
pub value-short : (k value : ℕ) → 0 < value → value < 10 ^ k → length (decimal value) ≤ k
value-short zero value some few = absurd (omega (arith, some, few))
value-short (suc k) value some few = decimal-short (suc k) value (omega arith) few

-- a number of at most four digits
pub four : (n : ℕ) → n < 10000 → length (decimal n) ≤ 4
four n few = decimal-short 4 n (omega arith) (omega (arith, few))

pub marked-short : (mark n : ℕ) → n < 10000 → length (with_mark mark n) ≤ 5
marked-short mark n few = omega (arith, four n few)

pub item-short : (k key value : ℕ) → key < 10000 → 0 < value → value < 10 ^ k → length (item key value) ≤ 6 + k
item-short k key value few some small =
    omega (arith, length-append (spaced key) (with_mark 61 value), marked-short 32 key few, value-short k value some small)

lettered-short : (letter row : ℕ) → row < 10000 → length (lettered letter row) ≤ 6
lettered-short letter row few = omega (arith, marked-short letter row few)

-- rising numbers below n are at most n
pub rising-few : (n : ℕ) (numbers : List ℕ) → IsStrictlyIncreasing numbers → All (λ number. number < n) numbers → length numbers ≤ n
rising-few n numbers rising below = omega (
  arith,
  size-everything n,
  members-counted n numbers (record { rising = rising; below = below }),
  size_on-within everything (has numbers) n (λ j jl h. refl),
)

-- how many numbers some lists have in all
abbrev pub total : List (List ℕ) → ℕ
total [] = 0
total (list ∷ lists) = length list + total lists

-- whether one of the lists holds a number
abbrev in_some : List (List ℕ) → ℕ → Bool
in_some [] x = false
in_some (list ∷ lists) x = has list x || in_some lists x

in-list : (lists : List (List ℕ)) (x : ℕ) → in_some lists x ≡ true → (k : ℕ) × (k < length lists) × (has (get_or lists k []) x ≡ true)
in-list [] x held = absurd (differ refl held)
in-list (list ∷ lists) x held = elim (either_cases (has list x) (in_some lists x) held) [
  | inl here ↦ (0, omega arith, here)
  | inr later ↦ let at = in-list lists x later in (suc at.0, omega (arith, at.1), at.2)
]

-- no number below n stands in two lists
abbrev pub AreApart : ℕ → List (List ℕ) → Type 0
AreApart n lists = (x k l : ℕ) → x < n → k < length lists → l < length lists → has (get_or lists k []) x ≡ true → has (get_or lists l []) x ≡ true → k ≡ l

totals-held : (n : ℕ) (lists : List (List ℕ)) → All (AreRising n) lists → AreApart n lists → total lists ≤ size_on (in_some lists) n
totals-held n [] rising apart = omega arith
totals-held n (list ∷ lists) rising apart =
    let here : AreRising n list = All-head (AreRising n) list lists rising in
    let less : AreApart n lists = λ x k l xl kl ll hk hl.
    let same : suc k ≡ suc l = apart x (suc k) (suc l) xl (omega (arith, kl)) (omega (arith, ll)) hk hl in omega (arith, same) in
    omega (
      arith,
      members-counted n list here,
      totals-held n lists (All-tail (AreRising n) list lists rising) less,
      size-either (has list) (in_some lists) n (λ x xl held. not_true (in_some lists x) (λ again.
          let at = in-list lists x again in
          let same : 0 ≡ suc at.0 = apart x 0 (suc at.0) xl (omega arith) (omega (arith, at.1)) held at.2 in omega (arith, same))),
    )

-- rising lists of numbers below n that are apart have at most n numbers in all
pub totals-few : (n : ℕ) (lists : List (List ℕ)) → All (AreRising n) lists → AreApart n lists → total lists ≤ n
totals-few n lists rising apart = omega (
  arith,
  size-everything n,
  totals-held n lists rising apart,
  size_on-within everything (in_some lists) n (λ j jl h. refl),
)

-- the lists of a line
pub pairs-short : (pairs : List (ℕ × ℕ)) → All (λ pair. (pair.0 < 8192) × (pair.1 < 8192)) pairs → length (pairs_text pairs) ≤ 10 * length pairs
pairs-short [] within = omega arith
pairs-short (pair ∷ pairs) within =
    let here : (pair.0 < 8192) × (pair.1 < 8192) = All-head (λ (pair : ℕ × ℕ). (pair.0 < 8192) × (pair.1 < 8192)) pair pairs within in
    let rest = pairs-short pairs (All-tail (λ (pair : ℕ × ℕ). (pair.0 < 8192) × (pair.1 < 8192)) pair pairs within) in
    omega (
      arith,
      rest,
      length-append (item (pair.0 + 1) (pair.1 + 1)) (pairs_text pairs),
      item-short 4 (pair.0 + 1) (pair.1 + 1) (omega (arith, here.0)) (omega arith) (omega (arith, here.1)),
    )

pub entries-short : (p digits : ℕ) → p ≤ 10 ^ digits → (entries : List (ℕ × ℕ)) →
    All (λ entry. (entry.0 < 8192) × (0 < entry.1) × (entry.1 < p)) entries → length (entries_text entries) ≤ length entries * (6 + digits)
entries-short p digits short [] within = omega arith
entries-short p digits short (entry ∷ entries) within =
    let P : ℕ × ℕ → Type 0 = λ entry. (entry.0 < 8192) × (0 < entry.1) × (entry.1 < p) in
    let here : (entry.0 < 8192) × (0 < entry.1) × (entry.1 < p) = All-head P entry entries within in
    let rest = entries-short p digits short entries (All-tail P entry entries within) in
    rw (suc-mul (length entries) (6 + digits)) (omega (
      arith,
      rest,
      length-append (item (entry.0 + 1) entry.1) (entries_text entries),
      item-short digits (entry.0 + 1) entry.1 (omega (arith, here.0)) here.1 (omega (arith, here.2, short)),
    ))

pub numbers-short : (numbers : List ℕ) → All (λ number. number < 8192) numbers → length (numbers_text numbers) ≤ 5 * length numbers
numbers-short [] within = omega arith
numbers-short (number ∷ numbers) within =
    let here : number < 8192 = All-head (λ number. number < 8192) number numbers within in
    let rest = numbers-short numbers (All-tail (λ number. number < 8192) number numbers within) in
    omega (arith, rest, length-append (spaced (number + 1)) (numbers_text numbers), marked-short 32 (number + 1) (omega (arith, here)))

pub letters-short : (letter : ℕ) (rows : List ℕ) → All (λ row. row < 8192) rows → length (letters_text letter rows) ≤ 6 * length rows
letters-short letter [] within = omega arith
letters-short letter (row ∷ rows) within =
    let here : row < 8192 = All-head (λ row. row < 8192) row rows within in
    let rest = letters-short letter rows (All-tail (λ row. row < 8192) row rows within) in
    omega (arith, rest, length-append (lettered letter (row + 1)) (letters_text letter rows), lettered-short letter (row + 1) (omega (arith, here)))
