-- Rising lists with the same members are the same.
use Rattle.std.proofs.Common.{◌≡◌, ℕ, ◌<◌, ◌≤◌, Bool, true, false, ◌||◌, eqb, List, [], ◌∷◌, length, slice_index_or, inl, inr, refl, ap, sym, subst, ◌∙◌, arith}
use Rattle.std.specs.List.Sorted.{IsStrictlyIncreasing}
use Rattle.residue_theory.proofs.SetLaws.{differ, eqb_true, eqb_from, not_true, lt_cases}
use Rattle.sparse_t.specs.Incidences.{Incidence, IsIncidence, incidence_rows, columns_at, touches}
use Rattle.cert_text.specs.Ranges.{AreRising, IsPattern}
use Rattle.residue_theory.specs.Sets.{has}
use Rattle.cert_text.specs.Readings.{pattern_of}
use Rattle.cert_text.proofs.PrintedRules.{has-below}
use Rattle.cert_checker.specs.Matching.{HasRowsOf}
use Rattle.std.proofs.lemmas.List.{get_or_default}
use Rattle.cert_checker.proofs.StandingLaws.{rising-rest, or-false}

absent-lower : (z y : ℕ) (ys : List ℕ) → z < y → IsStrictlyIncreasing (y ∷ ys) → has (y ∷ ys) z ≡ false
absent-lower z y [] less rising = or-false (eqb y z) false (not_true (eqb y z) (λ h. absurd (omega (arith, less, eqb_true y z h)))) refl
absent-lower z y (w ∷ ys) less rising =
    let first : y < w = rising 0 (omega arith) in
    or-false (eqb y z) (has (w ∷ ys) z) (not_true (eqb y z) (λ h. absurd (omega (arith, less, eqb_true y z h))))
    (absent-lower z w ys (omega (arith, less, first)) (rising-rest y (w ∷ ys) rising))

absent-head : (y : ℕ) (ys : List ℕ) → IsStrictlyIncreasing (y ∷ ys) → has ys y ≡ false
absent-head y [] rising = refl
absent-head y (w ∷ ys) rising = absent-lower y w ys (rising 0 (omega arith)) (rising-rest y (w ∷ ys) rising)

has-head : (y : ℕ) (ys : List ℕ) → has (y ∷ ys) y ≡ true
has-head y ys = ap (λ b. b || has ys y) (eqb_from y y refl)

head-least : (z y : ℕ) (ys : List ℕ) → IsStrictlyIncreasing (y ∷ ys) → has (y ∷ ys) z ≡ true → y ≤ z
head-least z y ys rising h = elim (lt_cases z y) [
  | inl less ↦ absurd (differ (absent-lower z y ys less rising) h)
  | inr le ↦ le
]

tail-same : (b : Bool) (x w : ℕ) (xs ys : List ℕ) → IsStrictlyIncreasing (x ∷ xs) → IsStrictlyIncreasing (x ∷ ys) →
    eqb x w ≡ b → (b || has xs w) ≡ (b || has ys w) → has xs w ≡ has ys w
tail-same true x w xs ys one two e same =
    subst (λ v. has xs v ≡ has ys v) (eqb_true x w e) (absent-head x xs one ∙ sym (absent-head x ys two))
tail-same false x w xs ys one two e same = same

pub rising-same : (xs ys : List ℕ) → IsStrictlyIncreasing xs → IsStrictlyIncreasing ys → ((x : ℕ) → has xs x ≡ has ys x) → xs ≡ ys
rising-same [] [] one two same = refl
rising-same [] (y ∷ ys) one two same = absurd (differ (sym (same y)) (has-head y ys))
rising-same (x ∷ xs) [] one two same = absurd (differ (same x) (has-head x xs))
rising-same (x ∷ xs) (y ∷ ys) one two same = go heads (rising-same xs ys)
  where
    heads : x ≡ y
    heads =
        let low : y ≤ x = head-least x y ys two (sym (same x) ∙ has-head x xs) in
        let high : x ≤ y = head-least y x xs one (same y ∙ has-head y ys) in
        omega (arith, low, high)

    go : x ≡ y → (IsStrictlyIncreasing xs → IsStrictlyIncreasing ys → ((w : ℕ) → has xs w ≡ has ys w) → xs ≡ ys) → x ∷ xs ≡ y ∷ ys
    go e rest =
        let two' : IsStrictlyIncreasing (x ∷ ys) = subst (λ v. IsStrictlyIncreasing (v ∷ ys)) (sym e) two in
        let same' : (w : ℕ) → has (x ∷ xs) w ≡ has (x ∷ ys) w = λ w. subst (λ v. has (x ∷ xs) w ≡ has (v ∷ ys) w) (sym e) (same w) in
        ap (λ v. v ∷ xs) e ∙ ap (λ zs. y ∷ zs) (rest (rising-rest x xs one) (rising-rest y ys two) (λ w. tail-same (eqb x w) x w xs ys one two' refl (same' w)))

pub rows-symbols : (t : Incidence) (rows : List (List ℕ)) → HasRowsOf t rows (incidence_rows t) → (i j : ℕ) →
    i < length t.rows → j < t.width → pattern_of rows i j ≡ touches t i j
rows-symbols t rows same i j il jl = ap (λ list. has list j) (same i il)

absent-from : (n j : ℕ) (xs : List ℕ) → ((k d : ℕ) → k < length xs → slice_index_or xs k d < n) → n ≤ j → has xs j ≡ false
absent-from n j xs below le = not_true (has xs j) (λ h. absurd (omega (arith, le, has-below n xs j below h)))

pub symbols-rows : (t : Incidence) (rows : List (List ℕ)) → IsIncidence t → IsPattern (incidence_rows t) t.width rows →
    ((i j : ℕ) → i < length t.rows → j < t.width → pattern_of rows i j ≡ touches t i j) → HasRowsOf t rows (incidence_rows t)
symbols-rows t rows is printed same i il =
    rising-same row (columns_at t i) (at.rising) (is.rising i il) (λ j. elim (lt_cases j t.width) [
      | inl low ↦ same i j il low
      | inr high ↦ absent-from t.width j row at.below high
          ∙ sym (absent-from t.width j (columns_at t i)
          (λ k d kl. subst (λ x. x < t.width) (get_or_default (columns_at t i) k 0 d kl) (is.below i il k kl)) high)
    ])
  where
    row : List ℕ
    row = slice_index_or rows i []

    at : AreRising t.width row
    at = printed.columns i [] (omega (arith, il, printed.count))
