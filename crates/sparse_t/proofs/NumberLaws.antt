-- Rising lists whose numbers move, and into which a number is put or of which one is taken.
use Rattle.std.proofs.Common.{◌≡◌, ◌≢◌, ℕ, zero, suc, ◌+◌, ◌<◌, ◌≤◌, Bool, true, false, List, [], ◌∷◌, length, map, get_or, nat_eq, refl}
use Rattle.std.proofs.Common.{sym, ◌∙◌, ap, subst, ◌⊎◌, inl, inr, arith}
use Rattle.std.proofs.lemmas.Bool.Decides.{nat_tests}
use Rattle.std.proofs.lemmas.List.{get_or-map, length-map}
use Rattle.std.proofs.lemmas.List.Edits.{length-insert, get_or-insert_below, get_or-insert_at, get_or-insert_above, length-remove}
use Rattle.std.specs.List.Sorted.{IsStrictlyIncreasing}
use Rattle.linear_algebra.specs.Parts.{skip, unskip}
use Rattle.residue_theory.specs.Sets.{has}
use Rattle.number_pairs.proofs.MoveLaws.{inserted_other, removed_other, skip_back, within_skip, skip_within}
use Rattle.sparse_t.specs.Lists.{AreAllBelow}
use Rattle.sparse_t.specs.Shelves.{IsNumberPut, IsNumberTaken}
use Rattle.sparse_t.proofs.ListLaws.{nat_cases, lt_cases, nat_eq-apart, has-at, has-none, has-member, rises}
use Rattle.sparse_t.proofs.ShelfLaws.{all-insert, all-remove}

pub skip_other : (v k : ℕ) → skip v k ≢ v
skip_other v k = grind (arith, nat_tests)

skip_less : (v i j : ℕ) → i < j → skip v i < skip v j
skip_less v i j l = grind (arith, nat_tests)

skip_same : (v x i : ℕ) → nat_eq (skip v x) (skip v i) ≡ nat_eq x i
skip_same v x i = grind (arith, nat_tests)

unskipped_less : (v i j : ℕ) → i < j → i ≢ v → j ≢ v → unskip v i < unskip v j
unskipped_less v i j l ne apart = grind (arith, nat_tests)

unskipped_within : (v i n : ℕ) → v < n + 1 → i < n + 1 → i ≢ v → unskip v i < n
unskipped_within v i n vl il ne = grind (arith, nat_tests)

unskipped_same : (v x i : ℕ) → x ≢ v → nat_eq (unskip v x) i ≡ nat_eq x (skip v i)
unskipped_same v x i ne = grind (arith, nat_tests)

pub true_false : true ≡ false → ⊥
true_false e = cc

same_tests : (a b : Bool) → (a ≡ true → b ≡ true) → (b ≡ true → a ≡ true) → a ≡ b
same_tests true b f g = sym (f refl)
same_tests false true f g = g refl
same_tests false false f g = refl

-- numbers from v on are greater by one
module _ (v : ℕ) where
  pub rising-skip : (list : List ℕ) → IsStrictlyIncreasing list → IsStrictlyIncreasing (map (skip v) list)
  rising-skip list up k l =
      let n = length-map list (skip v) in
      omega (
        arith,
        get_or-map (skip v) list k 0 0 (omega (arith, n, l)),
        get_or-map (skip v) list (k + 1) 0 0 (omega (arith, n, l)),
        skip_less v (get_or list k 0) (get_or list (k + 1) 0) (up k (omega (arith, n, l))),
      )

  pub below-skip : (n : ℕ) (list : List ℕ) → AreAllBelow n list → AreAllBelow (n + 1) (map (skip v) list)
  below-skip n list below k l =
      let within : k < length list = omega (arith, length-map list (skip v), l) in
      omega (arith, get_or-map (skip v) list k 0 0 within, skip_within v (get_or list k 0) n (below k within))

  pub has-skip : (list : List ℕ) (i : ℕ) → has (map (skip v) list) (skip v i) ≡ has list i
  has-skip [] i = refl
  has-skip (x ∷ list) i = rw (skip_same v x i, has-skip list i) refl

  pub has-gap : (list : List ℕ) → has (map (skip v) list) v ≡ false
  has-gap [] = refl
  has-gap (x ∷ list) = rw (nat_eq-apart (skip v x) v (skip_other v x), has-gap list) refl

-- numbers after v, which is not there, are smaller by one
module _ (v : ℕ) (list : List ℕ) (missing : has list v ≡ false) where
  pub apart : (k : ℕ) → k < length list → get_or list k 0 ≢ v
  apart k l q = true_false (sym (has-at list k v l q) ∙ missing)

  pub rising-unskip : IsStrictlyIncreasing list → IsStrictlyIncreasing (map (unskip v) list)
  rising-unskip up k l =
      let n = length-map list (unskip v) in
      let here : k < length list = omega (arith, n, l) in
      let next : k + 1 < length list = omega (arith, n, l) in
      omega (
        arith,
        get_or-map (unskip v) list k 0 0 here,
        get_or-map (unskip v) list (k + 1) 0 0 next,
        unskipped_less v (get_or list k 0) (get_or list (k + 1) 0) (up k next) (apart k here) (apart (k + 1) next),
      )

  pub below-unskip : (n : ℕ) → v < n + 1 → AreAllBelow (n + 1) list → AreAllBelow n (map (unskip v) list)
  below-unskip n vl below k l =
      let within : k < length list = omega (arith, length-map list (unskip v), l) in
      omega (arith, get_or-map (unskip v) list k 0 0 within, unskipped_within v (get_or list k 0) n vl (below k within) (apart k within))

pub has-unskip : (v : ℕ) (list : List ℕ) (i : ℕ) → has list v ≡ false → has (map (unskip v) list) i ≡ has list (skip v i)
has-unskip v list i missing = same_tests (has (map (unskip v) list) i) (has list (skip v i))
    (λ h. let m = has-member (map (unskip v) list) i h in
    let within : m.0 < length list = omega (arith, m.1, length-map list (unskip v)) in
    has-at list m.0 (skip v i) within
    (sym (skip_back v (get_or list m.0 0) (apart v list missing m.0 within))
    ∙ ap (skip v) (sym (get_or-map (unskip v) list m.0 0 0 within) ∙ m.2)))
    (λ h. let m = has-member list (skip v i) h in
    has-at (map (unskip v) list) m.0 i (omega (arith, m.1, length-map list (unskip v)))
    (get_or-map (unskip v) list m.0 0 0 m.1 ∙ (ap (unskip v) m.2 ∙ back)))
  where
    back : unskip v (skip v i) ≡ i
    back = grind (arith, nat_tests)

-- a number is put in its place
module _ (number : ℕ) (list now : List ℕ) (P : IsNumberPut number list now) where
  put_at : (k : ℕ) → k < P.place → get_or now k 0 ≡ get_or list k 0
  put_at k l = ap (λ xs. get_or xs k 0) P.now_is ∙ get_or-insert_below list P.place number 0 k l P.within

  put_here : get_or now P.place 0 ≡ number
  put_here = ap (λ xs. get_or xs P.place 0) P.now_is ∙ get_or-insert_at list P.place number 0 P.within

  put_later : (k : ℕ) → P.place ≤ k → get_or now (k + 1) 0 ≡ get_or list k 0
  put_later k le = ap (λ xs. get_or xs (k + 1) 0) P.now_is ∙ get_or-insert_above list P.place number 0 k le P.within

  put_other : (k : ℕ) → get_or now (skip P.place k) 0 ≡ get_or list k 0
  put_other k = ap (λ xs. get_or xs (skip P.place k) 0) P.now_is ∙ inserted_other 0 list P.place k number P.within

  put_length : length now ≡ length list + 1
  put_length = ap length P.now_is ∙ length-insert list P.place number P.within

  pub put-rising : IsStrictlyIncreasing list → IsStrictlyIncreasing now
  put-rising up k l = go (lt_cases k P.place)
    where
      early : k < P.place → (k + 1 < P.place) ⊎ (P.place ≤ k + 1) → get_or now k 0 < get_or now (k + 1) 0
      early less (inl next) = omega (arith, put_at k less, put_at (k + 1) next, up k (omega (arith, P.within)))
      early less (inr ge) = let q : k + 1 ≡ P.place = omega arith in
          omega (arith, put_at k less, P.less k less, ap (λ i. get_or now i 0) q, put_here)

      later : P.place ≤ k → (k ≡ P.place) ⊎ (k ≢ P.place) → get_or now k 0 < get_or now (k + 1) 0
      later ge (inl q) = omega (arith, ap (λ i. get_or now i 0) q, put_here, put_later k ge, P.greater k ge (omega (arith, put_length, l)))
      later ge (inr ne) = before k refl
        where
          before : (m : ℕ) → m ≡ k → get_or now k 0 < get_or now (k + 1) 0
          before zero e = absurd (ne (omega arith))
          before (suc m) e =
              let q : m + 1 ≡ k = omega arith in
              let rise : get_or list m 0 < get_or list (m + 1) 0 = up m (omega (arith, put_length, l)) in
              omega (arith, ap (λ i. get_or now i 0) q, put_later m (omega arith), put_later k ge, ap (λ i. get_or list i 0) q, rise)

      go : (k < P.place) ⊎ (P.place ≤ k) → get_or now k 0 < get_or now (k + 1) 0
      go (inl less) = early less (lt_cases (k + 1) P.place)
      go (inr ge) = later ge (nat_cases k P.place)

  pub put-below : (n : ℕ) → AreAllBelow n list → number < n → AreAllBelow n now
  put-below n below l = subst (AreAllBelow n) (sym P.now_is) (all-insert 0 (λ x. x < n) list P.place below number P.within l)

  pub put-there : has now number ≡ true
  put-there = has-at now P.place number (omega (arith, put_length, P.within)) put_here

  pub put-others : (i : ℕ) → i ≢ number → has now i ≡ has list i
  put-others i ne = same_tests (has now i) (has list i)
      (λ h. let m = has-member now i h in
      let other : m.0 ≢ P.place = λ q. ne (sym m.2 ∙ (ap (λ k. get_or now k 0) q ∙ put_here)) in
      let back = skip_back P.place m.0 other in
      has-at list (unskip P.place m.0) i
      (within_skip P.place (unskip P.place m.0) (length list) P.within (omega (arith, back, m.1, put_length)))
      (sym (put_other (unskip P.place m.0)) ∙ (ap (λ k. get_or now k 0) back ∙ m.2)))
      (λ h. let m = has-member list i h in
      has-at now (skip P.place m.0) i (omega (arith, skip_within P.place m.0 (length list) m.1, put_length)) (put_other m.0 ∙ m.2))

-- a number is taken out
module _ (number : ℕ) (list now : List ℕ) (T : IsNumberTaken number list now) (up : IsStrictlyIncreasing list) where
  left_at : (k : ℕ) → get_or now k 0 ≡ get_or list (skip T.place k) 0
  left_at k = ap (λ xs. get_or xs k 0) T.now_is ∙ removed_other 0 list T.place k T.within

  left_length : length now + 1 ≡ length list
  left_length = ap (λ xs. length xs + 1) T.now_is ∙ length-remove list T.place T.within

  pub taken-rising : IsStrictlyIncreasing now
  taken-rising k l = omega (
    arith,
    left_at k,
    left_at (k + 1),
    rises list up (skip T.place k) (skip T.place (k + 1)) (skip_less T.place k (k + 1) (omega arith))
        (omega (arith, skip_within T.place (k + 1) (length now) l, left_length)),
  )

  pub taken-below : (n : ℕ) → AreAllBelow n list → AreAllBelow n now
  taken-below n below = subst (AreAllBelow n) (sym T.now_is) (all-remove 0 (λ x. x < n) list T.place below T.within)

  pub taken-gone : has now number ≡ false
  taken-gone = has-none now number (λ k l q. differ k (skip_within T.place k (length now) l) (sym (left_at k) ∙ q))
    where
      differ : (k : ℕ) → skip T.place k < length now + 1 → get_or list (skip T.place k) 0 ≡ number → ⊥
      differ k l q = elim (lt_cases (skip T.place k) T.place) [
        | inl less ↦ omega (arith, rises list up (skip T.place k) T.place less T.within, q, T.number_is)
        | inr ge ↦ omega (
          arith,
          rises list up T.place (skip T.place k) (omega (arith, ge, skip_other T.place k)) (omega
              (arith, l, left_length)),
          q,
          T.number_is,
        )
      ]

  pub taken-others : (i : ℕ) → i ≢ number → has now i ≡ has list i
  taken-others i ne = same_tests (has now i) (has list i)
      (λ h. let m = has-member now i h in
      has-at list (skip T.place m.0) i (omega (arith, skip_within T.place m.0 (length now) m.1, left_length)) (sym (left_at m.0) ∙ m.2))
      (λ h. let m = has-member list i h in
      let other : m.0 ≢ T.place = λ q. ne (sym m.2 ∙ (ap (λ k. get_or list k 0) q ∙ T.number_is)) in
      let back = skip_back T.place m.0 other in
      has-at now (unskip T.place m.0) i
      (within_skip T.place (unskip T.place m.0) (length now) (omega (arith, T.within, left_length)) (omega (arith, back, m.1, left_length)))
      (left_at (unskip T.place m.0) ∙ (ap (λ k. get_or list k 0) back ∙ m.2)))

-- a rising list of numbers below n has at most n
at_least : (list : List ℕ) → IsStrictlyIncreasing list → (k : ℕ) → k < length list → k ≤ get_or list k 0
at_least list up zero l = omega arith
at_least list up (suc k) l =
    let rise : get_or list k 0 < get_or list (k + 1) 0 = up k (omega arith) in
    let next : k + 1 ≡ suc k = omega arith in
    omega (arith, at_least list up k (omega arith), rise, ap (λ i. get_or list i 0) next)

pub rising-length : (n : ℕ) (list : List ℕ) → IsStrictlyIncreasing list → AreAllBelow n list → length list ≤ n
rising-length n list up below = go (length list) refl
  where
    go : (m : ℕ) → m ≡ length list → length list ≤ n
    go zero e = omega arith
    go (suc m) e = omega (arith, at_least list up m (omega arith), below m (omega arith))
