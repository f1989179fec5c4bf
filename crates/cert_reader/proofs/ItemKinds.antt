-- The items of a certificate.
use Rattle.std.proofs.Common.{◌≡◌, ℕ, ◌+◌, ◌-◌, ◌^◌, ◌<◌, ◌≤◌, true, false, eqb, List, [], ◌∷◌, ◌++◌, length, Ok}
use Rattle.std.proofs.Common.{refl, sym, ap, subst, ◌∙◌, append_assoc, length-append, arith}
use Rattle.std.specs.Prelude.{decimal, codes, nat_lt, not, ◌&&◌}
use Rattle.std.specs.Char.{is_ascii_digit}
use Rattle.std.specs.List.{list_all}
use Rattle.std.proofs.lemmas.Bool.Decides.{nat_tests}
use Rattle.std.proofs.lemmas.Fmt.{digits_decimal, decimal_nonempty}
use Rattle.cert_text.specs.Texts.{spaced, with_mark, item, lettered, pairs_text, entries_text, numbers_text, letters_text}
use Rattle.cert_reader.specs.Fronts.{◌>>=◌, text_at, number_at, begins_with}
use Rattle.cert_reader.specs.Items.{index_at, positive_at, marked_at, pair_at, entry_at, goes_on}
use Rattle.cert_reader.proofs.Numbers.{EndsNumber, digits}
use Rattle.cert_reader.proofs.Spells.{Spells, Spells-then, Spells-where, Spells-behind, Spells-number}
use Rattle.cert_reader.proofs.Items.{AreItems}
use Rattle.cert_reader.proofs.Rising.{Above}
use Rattle.cert_reader.proofs.Texts.{and_both, begins-again}

pub ltb-true : (a b : ℕ) → a < b → nat_lt a b ≡ true
ltb-true a b less = grind (arith, nat_tests)

pub from-ltb : (a b : ℕ) → nat_lt a b ≡ true → a < b
from-ltb a b e = grind (arith, nat_tests)

pub Spells-index : (n low : ℕ) → n < 10 ^ 10 → Spells EndsNumber (Above (λ i. i) (λ i. i < n) low) (λ i. decimal (i + 1)) (index_at n low)
unfolding index_at
Spells-index n low narrow = Spells-where {F = λ x. x ≤ n} {G = Above (λ i. i) (λ i. i < n) low} (number_at n)
    (λ x. nat_lt low x) (λ x. x - 1) (λ i. i + 1) (Spells-number n narrow)
    (λ x fits test. ((omega (arith, from-ltb low x test), omega (arith, from-ltb low x test)), omega (arith, from-ltb low x test)))
    (λ i fits. (omega (arith, fits.1), ltb-true low (i + 1) (omega (arith, fits.0)), omega arith))

pub Spells-positive : (limit : ℕ) → limit < 10 ^ 10 → Spells EndsNumber (λ v. (0 < v) × (v ≤ limit)) (λ v. decimal v) (positive_at limit)
unfolding positive_at
Spells-positive limit narrow = Spells-where {F = λ x. x ≤ limit} (number_at limit) (λ x. nat_lt 0 x) (λ x. x) (λ v. v) (Spells-number limit narrow)
    (λ x fits test. ((from-ltb 0 x test, fits), refl)) (λ v fits. (fits.1, ltb-true 0 v fits.0, refl))

pub Spells-marked : (mark : List ℕ) (n low : ℕ) → n < 10 ^ 10 → Spells EndsNumber (Above (λ i. i) (λ i. i < n) low)
    (λ i. mark ++ decimal (i + 1)) (marked_at mark n low)
unfolding marked_at
Spells-marked mark n low narrow = Spells-behind mark (index_at n low) (Spells-index n low narrow)

-- behind the row, and the whole pair
Spells-column : (n row : ℕ) → n < 10 ^ 10 → Spells EndsNumber (λ (p : ℕ × ℕ). (p.0 ≡ row) × (p.1 < n)) (λ p. codes "=" ++ decimal (p.1 + 1))
    (λ line bytes. text_at (codes "=") line bytes >>= λ equals. index_at n 0 line equals.1 >>= λ column. Ok ((row, column.0), column.1))
Spells-column n row narrow =
    Spells-behind (codes "=") (λ line bytes. index_at n 0 line bytes >>= λ column. Ok ((row, column.0), column.1))
    (Spells-where {A = ℕ} {B = ℕ × ℕ} {G = λ p. (p.0 ≡ row) × (p.1 < n)} (index_at n 0) (λ c. true) (λ c. (row, c)) (λ p. p.1) (Spells-index n 0 narrow)
    (λ c fits test. ((refl, fits.1), refl)) (λ p fits. ((omega arith, fits.1), refl, ap (λ r. (r, p.1)) (sym fits.0))))

Spells-value : (modulus column : ℕ) → modulus < 2 ^ 32 → Spells EndsNumber (λ (p : ℕ × ℕ). (p.0 ≡ column) × (0 < p.1)
    × (p.1 < modulus)) (λ p. codes "=" ++ decimal p.1)
    (λ line bytes. text_at (codes "=") line bytes >>= λ equals. positive_at (modulus - 1) line equals.1 >>= λ value. Ok ((column, value.0), value.1))
Spells-value modulus column small =
    Spells-behind (codes "=") (λ line bytes. positive_at (modulus - 1) line bytes >>= λ value. Ok ((column, value.0), value.1))
    (Spells-where {A = ℕ} {B = ℕ × ℕ} {G = λ p. (p.0 ≡ column) × (0 < p.1) × (p.1 < modulus)}
    (positive_at (modulus - 1)) (λ c. true) (λ c. (column, c)) (λ p. p.1)
    (Spells-positive (modulus - 1) (omega (arith, small)))
    (λ c fits test. ((refl, fits.0, omega (arith, fits.0, fits.1)), refl)) (λ p fits. ((fits.1, omega (arith, fits.2)), refl, ap (λ r. (r, p.1)) (sym fits.0))))

pub Spells-pair : (m n low : ℕ) → m < 10 ^ 10 → n < 10 ^ 10 →
    Spells EndsNumber (Above (λ p. p.0) (λ p. (p.0 < m) × (p.1 < n)) low) (λ p. item (p.0 + 1) (p.1 + 1))
    (pair_at m n low)
unfolding pair_at
Spells-pair m n low small narrow =
    Spells-behind (codes " ") (λ line bytes. index_at m low line bytes >>= λ row. text_at
    (codes "=") line row.1 >>= λ equals. index_at n 0 line equals.1 >>= λ column. Ok
    ((row.0, column.0), column.1))
    (Spells-then {FB = λ row p. (p.0 ≡ row) × (p.1 < n)} {FC = Above (λ p. p.0) (λ p. (p.0 < m) × (p.1 < n)) low} {tb = λ row p. codes "=" ++ decimal (p.1 + 1)}
    (index_at m low) (λ row line bytes. text_at (codes "=") line bytes >>= λ equals. index_at n 0 line equals.1 >>= λ column. Ok ((row, column.0), column.1))
    (Spells-index m low small) (λ row fits. Spells-column n row narrow)
    (λ p fits. (p.0, (fits.0, fits.1.0), (refl, fits.1.1), refl))
    (λ row p one two. (
      (subst (λ r. low ≤ r) (sym two.0) one.0, (subst (λ r. r < m) (sym two.0) one.1, two.1)),
      ap
          (λ r. decimal (r + 1) ++ (codes "=" ++ decimal (p.1 + 1))) two.0,
    ))
    (λ row p rest one two ending. refl))

pub Spells-entry : (modulus n low : ℕ) → modulus < 2 ^ 32 → n < 10 ^ 10 →
    Spells EndsNumber (Above (λ p. p.0) (λ p. (p.0 < n) × (0 < p.1) × (p.1 < modulus)) low)
    (λ p. item (p.0 + 1) p.1) (entry_at modulus n low)
unfolding entry_at
Spells-entry modulus n low small narrow =
    Spells-behind (codes " ") (λ line bytes. index_at n low line bytes >>= λ column. text_at
    (codes "=") line column.1 >>= λ equals. positive_at (modulus - 1) line equals.1 >>= λ value. Ok
    ((column.0, value.0), value.1))
    (Spells-then {FB = λ column p. (p.0 ≡ column) × (0 < p.1) × (p.1 < modulus)} {FC =
    Above (λ p. p.0) (λ p. (p.0 < n) × (0 < p.1) × (p.1 < modulus)) low} {tb =
    λ column p. codes "=" ++ decimal p.1}
    (index_at n low) (λ column line bytes. text_at (codes "=") line bytes >>= λ equals. positive_at
    (modulus - 1) line equals.1 >>= λ value. Ok ((column, value.0), value.1))
    (Spells-index n low narrow) (λ column fits. Spells-value modulus column small)
    (λ p fits. (p.0, (fits.0, fits.1.0), (refl, fits.1.1, fits.1.2), refl))
    (λ column p one two. (
      (
        subst (λ r. low ≤ r) (sym two.0) one.0,
        (subst (λ r. r < n) (sym two.0) one.1, two.1, two.2),
      ),
      ap
          (λ r. decimal (r + 1) ++ (codes "=" ++ decimal p.1)) two.0,
    ))
    (λ column p rest one two ending. refl))

-- a number begins with no bar
no-bar : (ds rest : List ℕ) → list_all is_ascii_digit ds ≡ true → 0 < length ds → begins_with (codes "|") (ds ++ rest) ≡ false
no-bar [] rest all some = absurd (omega arith)
no-bar (d ∷ ds) rest all some =
    let digit : is_ascii_digit d ≡ true = (and_both (is_ascii_digit d) (list_all is_ascii_digit ds) all).0 in
    let other : eqb 124 d ≡ false = grind (arith, nat_tests) in
    rw other refl

number-goes : (n : ℕ) (rest : List ℕ) → n < 2 ^ 64 → goes_on (32 ∷ (decimal n ++ rest)) ≡ true
number-goes n rest small = ap (λ b. true && not b) (no-bar (decimal n) rest (digits_decimal digits n small) (decimal_nonempty n small))

pub are-numbers : (n : ℕ) → n < 10 ^ 10 → AreItems goes_on (λ i. i + 1) (marked_at (codes " ") n) EndsNumber
    (Above (λ i. i) (λ i. i < n)) (λ i. spaced (i + 1)) numbers_text
are-numbers n narrow = record {
  spells = λ low. Spells-marked (codes " ") n low narrow;
  goes = λ low i rest fits. number-goes (i + 1) rest (omega (arith, fits.1));
  ending = λ low i rest fits. refl;
  some = λ i. omega arith;
  none = refl;
  more = λ i is. refl;
}

pub are-letters : (letter n : ℕ) → n < 10 ^ 10 → AreItems (λ bytes. begins_with (32 ∷ letter ∷ []) bytes)
    (λ i. i + 1) (marked_at (32 ∷ letter ∷ []) n) EndsNumber (Above (λ i. i) (λ i. i < n))
    (λ i. lettered letter (i + 1)) (letters_text letter)
are-letters letter n narrow = record {
  spells = λ low. Spells-marked (32 ∷ letter ∷ []) n low narrow;
  goes = λ low i rest fits. begins-again (32 ∷ letter ∷ []) (decimal (i + 1) ++ rest);
  ending = λ low i rest fits. refl;
  some = λ i. omega arith;
  none = refl;
  more = λ i is. refl;
}

pub are-pairs : (m n : ℕ) → m < 10 ^ 10 → n < 10 ^ 10 → AreItems goes_on (λ p. p.0 + 1) (pair_at m n) EndsNumber
    (Above (λ p. p.0) (λ p. (p.0 < m) × (p.1 < n))) (λ p. item (p.0 + 1) (p.1 + 1)) pairs_text
are-pairs m n small narrow = record {
  spells = λ low. Spells-pair m n low small narrow;
  goes = λ low p rest fits. ap goes_on (append_assoc (spaced (p.0 + 1)) (with_mark 61 (p.1 + 1)) rest)
      ∙ number-goes (p.0 + 1) (with_mark 61 (p.1 + 1) ++ rest) (omega (arith, fits.1.0));
  ending = λ low p rest fits. refl;
  some = λ p. omega (arith, length-append (spaced (p.0 + 1)) (with_mark 61 (p.1 + 1)));
  none = refl;
  more = λ p ps. refl;
}

pub are-entries : (modulus n : ℕ) → modulus < 2 ^ 32 → n < 10 ^ 10 → AreItems goes_on (λ p. p.0 + 1)
    (entry_at modulus n) EndsNumber (Above (λ p. p.0) (λ p. (p.0 < n) × (0 < p.1) × (p.1 < modulus)))
    (λ p. item (p.0 + 1) p.1) entries_text
are-entries modulus n small narrow = record {
  spells = λ low. Spells-entry modulus n low small narrow;
  goes = λ low p rest fits. ap goes_on (append_assoc (spaced (p.0 + 1)) (with_mark 61 p.1) rest)
      ∙ number-goes (p.0 + 1) (with_mark 61 p.1 ++ rest) (omega (arith, fits.1.0));
  ending = λ low p rest fits. refl;
  some = λ p. omega (arith, length-append (spaced (p.0 + 1)) (with_mark 61 p.1));
  none = refl;
  more = λ p ps. refl;
}
