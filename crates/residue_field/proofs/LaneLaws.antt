-- Lanes by their places, and what sixteen places make of a row.
use Rattle.std.proofs.Common.{◌≡◌, ℕ, ◌+◌, ◌-◌, ◌*◌, ◌/◌, ◌%◌, ◌^◌, ◌<◌, ◌≤◌, inl, inr, Bool, false}
use Rattle.std.proofs.Common.{cond, ltb, lt-ltb, le-ltb, List, length, slice_index, slice_set, get_or, map, replicate}
use Rattle.std.proofs.Common.{bit_and, w32, refl, sym, ap, subst, ◌∙◌, arith}
use Rattle.std.proofs.lemmas.Bool.{cases_lt}
use Rattle.std.proofs.lemmas.List.{ext_get_or, get_or-set_other}
use Rattle.std.proofs.lemmas.Grind.{get_or-set_at}
use Rattle.std.proofs.Math.Nat.{mod-lt}
use Rattle.std.proofs.lemmas.Nat.{and_mask, mul-le}
use Rattle.std.proofs.lemmas.Simd.{get_or-zip2, get_or-replicate, length-zip2, tops_compared, length-sel_l, get_or-sel_l}
use lib.Lanes.{sel_l, top, zip2}
use Rattle.residue_field.specs.Lanes.{AreBelow, HasLanes, IsAddedLane, AreLanesStored, folded}
use Rattle.residue_field.specs.Rows.{plus_multiple}
use Rattle.residue_field.proofs.RowLaws.{plus_multiple-at, plus_multiple-length}

-- ---- an operator on two vectors, lane by lane
module _ {A : Type 0} (f : ℕ → ℕ → A) (d : A) (xs ys : List ℕ) (p : length xs ≡ 16) (q : length ys ≡ 16) where
  zip-length : length (zip2 f xs ys) ≡ 16
  zip-length = length-zip2 f xs ys (p ∙ sym q) ∙ p

  zip-at : (i : ℕ) → i < 16 → get_or (zip2 f xs ys) i d ≡ f (get_or xs i 0) (get_or ys i 0)
  zip-at i l = get_or-zip2 f xs ys i 0 0 d (omega arith) (omega arith)

module _ (f : ℕ → ℕ → ℕ) (xs : List ℕ) (k : ℕ) (p : length xs ≡ 16) where
  pub splat-length : length (zip2 f xs (replicate 16 k)) ≡ 16
  splat-length = zip-length f 0 xs (replicate 16 k) p refl

  pub splat-at : (i : ℕ) → i < 16 → get_or (zip2 f xs (replicate 16 k)) i 0 ≡ f (get_or xs i 0) k
  splat-at i l = zip-at f 0 xs (replicate 16 k) p refl i l ∙ ap (f (get_or xs i 0)) (get_or-replicate 16 i k 0 l)

-- the high half 15-fold and the low half
pub fold_has : (add mul shr and : ℕ → ℕ → ℕ) (v : List ℕ) → length v ≡ 16 →
    ((s : ℕ) → add (mul (shr s 16) 15) (and s 65535) ≡ (s / 65536 * 15 % 2 ^ 32 + bit_and s 65535) % 2 ^ 32) →
    ((i : ℕ) → i < 16 → get_or v i 0 < 2 ^ 32) →
    HasLanes (zip2 add (zip2 mul (zip2 shr v (replicate 16 16)) (replicate 16 15)) (zip2 and v (replicate 16 65535)))
    (λ i. folded (get_or v i 0))
fold_has add mul shr and v long is fits = record {
  len = zip-length add 0 high low high-long low-long;
  lanes = λ i l.
      zip-at add 0 high low high-long low-long i l
      ∙ ap (λ x. add x (get_or low i 0)) (splat-at mul down 15 down-long i l ∙ ap (λ x. mul x 15) (splat-at shr v 16 long i l))
      ∙ ap (λ x. add (mul (shr (get_or v i 0) 16) 15) x) (splat-at and v 65535 long i l)
      ∙ is (get_or v i 0) ∙ ap (λ x. (get_or v i 0 / 65536 * 15 % 2 ^ 32 + x) % 2 ^ 32) (and_mask (get_or v i 0) 16)
      ∙ small (get_or v i 0) (fits i l);
}
  where
    down : List ℕ
    down = zip2 shr v (replicate 16 16)

    down-long : length down ≡ 16
    down-long = splat-length shr v 16 long

    high : List ℕ
    high = zip2 mul down (replicate 16 15)

    high-long : length high ≡ 16
    high-long = splat-length mul down 15 down-long

    low : List ℕ
    low = zip2 and v (replicate 16 65535)

    low-long : length low ≡ 16
    low-long = splat-length and v 65535 long

    small : (s : ℕ) → s < 2 ^ 32 → (s / 65536 * 15 % 2 ^ 32 + s % 65536) % 2 ^ 32 ≡ folded s
    small s l = omega arith

-- the smaller of each two lanes
pub smaller_has : (xs ys : List ℕ) → length xs ≡ 16 → length ys ≡ 16 →
    HasLanes (sel_l (map (top 31) (zip2 (λ a b. cond (ltb a b) (2 ^ 32 - 1) 0) xs ys)) xs ys)
    (λ i. cond (ltb (get_or xs i 0) (get_or ys i 0)) (get_or xs i 0) (get_or ys i 0))
smaller_has xs ys p q = record {
  len = ap (λ ms. length (sel_l ms xs ys)) tops ∙ length-sel_l tests xs ys (tests-long ∙ sym p) (tests-long ∙ sym q) ∙ tests-long;
  lanes = λ i l.
      ap (λ ms. get_or (sel_l ms xs ys) i 0) tops
      ∙ get_or-sel_l tests xs ys i 0 (omega (arith, tests-long)) (omega arith) (omega arith)
      ∙ ap (λ t. cond t (get_or xs i 0) (get_or ys i 0)) (zip-at ltb false xs ys p q i l);
}
  where
    tests : List Bool
    tests = zip2 ltb xs ys

    tests-long : length tests ≡ 16
    tests-long = zip-length ltb false xs ys p q

    tops : map (top 31) (zip2 (λ a b. cond (ltb a b) (2 ^ 32 - 1) 0) xs ys) ≡ tests
    tops = tops_compared w32 ltb xs ys

-- what is left when a number of 32 bits is folded twice and the modulus is taken away where it can be
reduced : (s t r : ℕ) → s < 2 ^ 32 → t ≡ folded (folded s) → r ≡ (t + (2 ^ 32 - 65521)) % 2 ^ 32 → cond (ltb t r) t r ≡ s % 65521
reduced s t r l is less = elim (cases_lt t r) [
  | inl lt ↦ rw (lt-ltb t r lt) (omega arith)
  | inr ge ↦ rw (le-ltb t r ge) (omega arith)
]

pub sum_reduced : (x y c s t r : ℕ) → x < 65521 → y < 65521 → c < 65521 → s ≡ (x + y * c % 2 ^ 32) % 2 ^ 32 →
    t ≡ folded (folded s) → r ≡ (t + (2 ^ 32 - 65521)) % 2 ^ 32 → cond (ltb t r) t r ≡ (x + c * y) % 65521
sum_reduced x y c s t r lx ly lc is twice less =
    reduced s t r (omega arith) twice less ∙ ap (λ n. n % 65521) (is ∙ omega (arith, product))
  where
    product : y * c ≤ 65520 * 65520
    product = mul-le y c 65520 65520 (omega arith) (omega arith)

-- what is computed of the lanes of two vectors below the modulus, and of a number
module _ (add mul sub : ℕ → ℕ → ℕ) (xs ys once twice : List ℕ) (c : ℕ) (p : length xs ≡ 16) (q : length ys ≡ 16)
    (adds : (a b : ℕ) → add a b ≡ (a + b) % 2 ^ 32) (multiplies : (a b : ℕ) → mul a b ≡ (a * b) % 2 ^ 32)
    (subtracts : (a : ℕ) → sub a 65521 ≡ (a + (2 ^ 32 - 65521)) % 2 ^ 32)
    (folds : HasLanes once (λ i. folded (get_or (zip2 add xs (zip2 mul ys (replicate 16 c))) i 0)))
    (folds_again : HasLanes twice (λ i. folded (get_or once i 0))) where
  abbrev pub products : List ℕ
  products = zip2 mul ys (replicate 16 c)

  abbrev pub rests : List ℕ
  rests = zip2 sub twice (replicate 16 65521)

  pub sums_have : (factor : ℕ) → c ≡ factor → AreBelow 65521 xs → AreBelow 65521 ys → c < 65521 →
      HasLanes (sel_l (map (top 31) (zip2 (λ a b. cond (ltb a b) (2 ^ 32 - 1) 0) twice rests)) twice rests)
      (λ i. (get_or xs i 0 + factor * get_or ys i 0) % 65521)
  sums_have factor same small others few = record {
    len = smaller.len;
    lanes = λ i l.
        smaller.lanes i l
        ∙ sum_reduced (get_or xs i 0) (get_or ys i 0) c (get_or (zip2 add xs products) i 0) (get_or twice i 0) (get_or rests i 0)
        (small i l) (others i l) few
        (zip-at add 0 xs products p (splat-length mul ys c q) i l ∙ adds (get_or xs i 0) (get_or products i 0)
        ∙ ap (λ n. (get_or xs i 0 + n) % 2 ^ 32) (splat-at mul ys c q i l ∙ multiplies (get_or ys i 0) c))
        (folds_again.lanes i l ∙ ap folded (folds.lanes i l))
        (splat-at sub twice 65521 folds_again.len i l ∙ subtracts (get_or twice i 0))
        ∙ ap (λ k. (get_or xs i 0 + k * get_or ys i 0) % 65521) same;
  }
    where
      smaller : HasLanes (sel_l (map (top 31) (zip2 (λ a b. cond (ltb a b) (2 ^ 32 - 1) 0) twice rests)) twice rests)
          (λ i. cond (ltb (get_or twice i 0) (get_or rests i 0)) (get_or twice i 0) (get_or rests i 0))
      smaller = smaller_has twice rests folds_again.len (splat-length sub twice 65521 folds_again.len)

pub sums-below : (v : List ℕ) (sum : ℕ → ℕ) → HasLanes v (λ i. sum i % 65521) → AreBelow 65521 v
sums-below v sum has i l = rw (has.lanes i l) (mod-lt (sum i) (omega arith))

-- the vector after one lane more of a row was read
pub loaded-next : (values row : List ℕ) (at i value : ℕ) → length values ≡ 16 → i < 16 → value ≡ slice_index row (at + i) →
    ((k : ℕ) → k < i → slice_index values k ≡ slice_index row (at + k)) → (k : ℕ) → k < i + 1 →
    slice_index (slice_set values i value) k ≡ slice_index row (at + k)
loaded-next values row at i value long below is before k l = elim (cases_lt k i) [
  | inl lt ↦ get_or-set_other values i k value 0 (λ e. omega arith) ∙ before k lt
  | inr ge ↦ last (omega arith)
]
  where
    last : k ≡ i → slice_index (slice_set values i value) k ≡ slice_index row (at + k)
    last e = get_or-set_at values i k value 0 e (omega arith) ∙ is ∙ ap (λ j. slice_index row (at + j)) (sym e)

-- sixteen places of a row with the lanes of a sum put there
pub block_added : (p c at : ℕ) (old src now values others sums : List ℕ) → at + 16 ≤ length old →
    HasLanes values (λ i. slice_index old (at + i)) → HasLanes others (λ i. slice_index src (at + i)) →
    HasLanes sums (λ i. (slice_index values i + c * slice_index others i) % p) → AreLanesStored 16 at sums old now →
    IsAddedLane p c at (at + 16) old src now
block_added p c at old src now values others sums room values_are others_are sums_are stored = record {
  len = stored.len;
  here = λ j from to. subst (λ j. slice_index now j ≡ (slice_index old j + c * slice_index src j) % p) (back from)
      (placed (j - at) (omega arith));
  others = stored.others;
}
  where
    back : {j : ℕ} → at ≤ j → at + (j - at) ≡ j
    back from = omega arith

    placed : (i : ℕ) → i < 16 → slice_index now (at + i) ≡ (slice_index old (at + i) + c * slice_index src (at + i)) % p
    placed i l =
        stored.here i l ∙ sums_are.lanes i l
        ∙ ap (λ x. (x + c * slice_index others i) % p) (values_are.lanes i l)
        ∙ ap (λ y. (slice_index old (at + i) + c * y) % p) (others_are.lanes i l)

-- a row with the multiple of another added at each place
pub all_added : (p c : ℕ) (old src now : List ℕ) → length old ≡ length src → IsAddedLane p c 0 (length old) old src now →
    now ≡ plus_multiple p c old src
all_added p c old src now same added =
    ext_get_or 0 now (plus_multiple p c old src) (added.len ∙ sym (plus_multiple-length p c old src same))
    (λ j l. added.here j (omega arith) (omega (arith, added.len)) ∙ sym (plus_multiple-at p c old src j same (omega (arith, added.len))))

pub below-next : (values : List ℕ) (i value : ℕ) → length values ≡ 16 → i < 16 → value < 65521 →
    ((k : ℕ) → k < i → slice_index values k < 65521) → (k : ℕ) → k < i + 1 → slice_index (slice_set values i value) k < 65521
below-next values i value long below small before k l = elim (cases_lt k i) [
  | inl lt ↦ subst (λ n. n < 65521) (sym (get_or-set_other values i k value 0 (λ e. omega arith))) (before k lt)
  | inr ge ↦ subst (λ n. n < 65521) (sym (get_or-set_at values i k value 0 (omega arith) (omega arith))) small
]
