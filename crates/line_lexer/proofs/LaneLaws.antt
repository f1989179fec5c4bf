-- A test at each lane of a vector, and the first place that passes it.
use Rattle.std.proofs.Common.{◌≡◌, ℕ, ◌+◌, ◌*◌, ◌%◌, ◌^◌, ◌<◌, ◌≤◌, Bool, true, false, not, cond, ⊎_elim, List, [], ◌∷◌, map}
use Rattle.std.proofs.Common.{length, get_or, position, nat_lt, Option, Some, None, MatchOption, Fits, w8, refl, sym, ap}
use Rattle.std.proofs.Common.{ap₂, ◌∙◌, arith, lt-ltb, le-ltb}
use Rattle.std.specs.List.{prefix_len}
use Rattle.std.specs.Simd.Lanes.{mask_l, top, Each1}
use Rattle.std.proofs.lemmas.Bool.{agree_below, agree_below_at, cases_lt}
use Rattle.std.proofs.lemmas.List.{length-map}
use Rattle.std.proofs.lemmas.List.Sums.{position_or_len_is, prefix_len-le-length}
use Rattle.std.proofs.lemmas.Simd.{mask_l-mod}

each_byte : (f : ℕ → ℕ) (test : ℕ → Bool) → agree_below (λ x. top 7 (f x)) test 256 ≡ true → (lanes : List ℕ) →
    Each1 (Fits w8) lanes → map (top 7) (map f lanes) ≡ map test lanes
each_byte f test all [] fits = refl
each_byte f test all (x ∷ lanes) fits =
    ap₂ (λ a b. a ∷ b) (agree_below_at (λ y. top 7 (f y)) test 256 x all fits.0.fits) (each_byte f test all lanes fits.1)

-- a mask that is computed lane by lane is that of a test which agrees with it at each of the 256 bytes
pub masked : (f : ℕ → ℕ) (test : ℕ → Bool) (lanes mask : List ℕ) → length lanes ≤ 64 → Each1 (Fits w8) lanes →
    mask ≡ map f lanes → agree_below (λ x. top 7 (f x)) test 256 ≡ true →
    mask_l (map (top 7) mask) % 2 ^ 64 ≡ mask_l (map test lanes)
masked f test lanes mask short fits is all =
    ap (λ bits. mask_l bits % 2 ^ 64) (ap (map (top 7)) is ∙ each_byte f test all lanes fits)
    ∙ mask_l-mod (map test lanes) 64 (omega (arith, length-map lanes test))

pub position-Some : (test : ℕ → Bool) (bytes : List ℕ) (n : ℕ) → n < length bytes →
    ((k : ℕ) → k < n → test (get_or bytes k 0) ≡ false) → test (get_or bytes n 0) ≡ true → position test bytes ≡ Some n
position-Some test bytes n within fails passes =
    let place = position_or_len_is test bytes n 0 (omega arith) fails (λ _. passes) in
    (λ i. cond (nat_lt (place i) (length bytes)) (Some (place i)) None)
    ∙ ap (λ b. cond b (Some n) None) (lt-ltb n (length bytes) within)

pub position-None : (test : ℕ → Bool) (bytes : List ℕ) → ((k : ℕ) → k < length bytes → test (get_or bytes k 0) ≡ false) →
    position test bytes ≡ None
position-None test bytes fails =
    let place = position_or_len_is test bytes (length bytes) 0 (omega arith) fails (λ within. absurd (omega arith)) in
    (λ i. cond (nat_lt (place i) (length bytes)) (Some (place i)) None)
    ∙ ap (λ b. cond b (Some (length bytes)) None) (le-ltb (length bytes) (length bytes) (omega arith))

none_fails : (b : Bool) (n l m : ℕ) → n ≤ l → cond (not b) (1 + n) 0 ≡ 1 + l → (n ≡ l → m ≡ 0) → cond b 1 0 + 2 * m ≡ 0
none_fails true n l m le e rest = let no : ⊥ = omega arith in absurd no
none_fails false n l m le e rest = let none = rest (omega arith) in omega arith

no_bit : (test : ℕ → Bool) (lanes : List ℕ) → prefix_len (λ x. not (test x)) lanes ≡ length lanes → mask_l (map test lanes) ≡ 0
no_bit test [] e = refl
no_bit test (x ∷ lanes) e =
    none_fails (test x) _ (length lanes) _ (prefix_len-le-length (λ y. not (test y)) lanes) (omega arith) (no_bit test lanes)

-- where a bit is set, a lane passes
pub some_lane : (test : ℕ → Bool) (lanes : List ℕ) → 0 < mask_l (map test lanes) →
    prefix_len (λ x. not (test x)) lanes < length lanes
some_lane test lanes some =
    ⊎_elim
    (λ less. less)
    (λ more. let none = no_bit test lanes (omega (arith, prefix_len-le-length (λ x. not (test x)) lanes)) in absurd (omega arith))
    (cases_lt (prefix_len (λ x. not (test x)) lanes) (length lanes))

module _ (test : ℕ → Bool) (bytes : List ℕ) (seen start : ℕ) (overlap : start ≤ seen)
    (before : (k : ℕ) → k < seen → test (get_or bytes k 0) ≡ false) where
  fails_to : (end : ℕ) → ((k : ℕ) → start ≤ k → k < end → test (get_or bytes k 0) ≡ false) →
      (k : ℕ) → k < end → test (get_or bytes k 0) ≡ false
  fails_to end after k less = ⊎_elim (λ early. before k early) (λ late. after k (omega arith) less) (cases_lt k seen)

  -- the first place, where none of those seen passes and the next ones begin among them
  pub found_next : (found : ℕ) → found < length bytes → test (get_or bytes found 0) ≡ true →
      ((k : ℕ) → start ≤ k → k < found → test (get_or bytes k 0) ≡ false) → Some found ≡ position test bytes
  found_next found within passes after = sym (position-Some test bytes found within (fails_to found after) passes)

  -- and where the next ones are the last
  pub found_last : (n : ℕ) (result : Option ℕ) → start + n ≡ length bytes → MatchOption result
      ((k : ℕ) → start ≤ k → k < start + n → test (get_or bytes k 0) ≡ false)
      (λ found. (found < start + n) × (test (get_or bytes found 0) ≡ true)
      × ((k : ℕ) → start ≤ k → k < found → test (get_or bytes k 0) ≡ false)) → result ≡ position test bytes
  found_last n None whole after =
      sym (position-None test bytes (fails_to (length bytes) (λ k from to. after k from (omega arith))))
  found_last n (Some found) whole next = found_next found (omega (arith, next.0)) next.1 next.2
