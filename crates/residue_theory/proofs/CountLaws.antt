-- Counting members: injections, sets put together, and the parts of a set.
use Rattle.std.proofs.Common.{◌≡◌, ℕ, zero, suc, ◌+◌, ◌<◌, ◌≤◌, ◌≢◌, Bool, true, false, cond, ◌&&◌, ◌||◌, not, eqb, leb, ◌⊎◌}
use Rattle.std.proofs.Common.{inl, inr, refl, ap, sym, subst, ◌∙◌, arith}
use Rattle.std.proofs.lemmas.Bool.Decides.{nat_tests}
use Rattle.residue_theory.specs.Sets.{everything, without, with_one, both, either, IsApart, IsWithin}
use Rattle.residue_theory.specs.Sums.{sum_on, size_on, sum_below}
use Rattle.residue_theory.proofs.SumLaws.{sum_on-add, sum_on-same, sum_on-without, sum_on-none, sum_on-ext, size_on-within}
use Rattle.residue_theory.proofs.SumLaws.{nat_cases, without-member, member-without}
use Rattle.residue_theory.proofs.SetLaws.{differ, both_true, both-first, both-second, with_one-new, with_one-without, choice, eqb_from}

-- ---- small sizes
pub size-everything : (n : ℕ) → size_on everything n ≡ n
size-everything zero = refl
size-everything (suc n) = grind (arith, size-everything n)

pub size-zero : (X : ℕ → Bool) (n : ℕ) → ((j : ℕ) → j < n → X j ≡ false) → size_on X n ≡ 0
size-zero X zero h = refl
size-zero X (suc n) h = grind (arith, size-zero X n (λ j l. h j (omega arith)), h n (omega arith))

pub size-positive : (X : ℕ → Bool) (n j : ℕ) → j < n → X j ≡ true → 0 < size_on X n
size-positive X n j l x = omega (arith, sum_on-without X n j (λ _. 1) l x)

pub sum-with_one : (X : ℕ → Bool) (n v : ℕ) (f : ℕ → ℕ) → v < n → X v ≡ false → sum_on (with_one X v) n f ≡ sum_on X n f + f v
sum-with_one X n v f l h = sum_on-without (with_one X v) n v f l (with_one-new X v)
    ∙ ap (λ s. s + f v) (sum_on-same (without (with_one X v) v) X n f (λ j _. with_one-without X v j h))

-- one member less, or none
pub size-without : (X : ℕ → Bool) (n v : ℕ) → v < n → size_on X n ≤ size_on (without X v) n + 1
size-without X n v l = at (X v) refl
  where
    at : (b : Bool) → X v ≡ b → size_on X n ≤ size_on (without X v) n + 1
    at true e = omega (arith, sum_on-without X n v (λ _. 1) l e)
    at false e = omega (arith, size_on-within (without X v) X n (λ j _ h. member-without X v j h (λ q. differ (subst (λ k. X k ≡ false) (sym q) e) h)))

-- ---- maps between sets
-- members of A with distinct images in D
pub size-injection : (A : ℕ → Bool) (n : ℕ) (f : ℕ → ℕ) (m : ℕ) (D : ℕ → Bool) →
    ((a : ℕ) → a < n → A a ≡ true → f a < m) → ((a : ℕ) → a < n → A a ≡ true → D (f a) ≡ true) →
    ((a b : ℕ) → a < n → b < n → A a ≡ true → A b ≡ true → f a ≡ f b → a ≡ b) → size_on A n ≤ size_on D m
size-injection A zero f m D below inside distinct = omega arith
size-injection A (suc n) f m D below inside distinct = go (A n) refl
    (λ E h. size-injection A n f m E (λ a l. below a (omega arith)) h (λ a b l k. distinct a b (omega arith) (omega arith)))
  where
    go : (b : Bool) → A n ≡ b → ((E : ℕ → Bool) → ((a : ℕ) → a < n → A a ≡ true → E (f a) ≡ true) → size_on A n ≤ size_on E m) → size_on A (suc n) ≤ size_on D m
    go false e ih = grind (arith, e, ih D (λ a l. inside a (omega arith)))
    go true e ih = grind (
      arith,
      e,
      ih (without D (f n)) (λ a l h. member-without D (f n) (f a) (inside a (omega arith) h)
          (λ q. let same : a ≡ n = distinct a n (omega arith) (omega arith) h e q in absurd (omega arith))),
      sum_on-without D m (f n) (λ _. 1) (below n (omega arith) e) (inside n (omega arith) e),
    )

-- members of D that are all images of members of A
pub size-surjection : (A : ℕ → Bool) (n : ℕ) (f : ℕ → ℕ) (m : ℕ) (D : ℕ → Bool) →
    ((i : ℕ) → i < m → D i ≡ true → (a : ℕ) × (a < n) × (A a ≡ true) × (f a ≡ i)) → size_on D m ≤ size_on A n
size-surjection A n f m D each = go (choice m D (λ i c. (c 0 < n) × (A (c 0) ≡ true) × (f (c 0) ≡ i))
    (λ i l h. let a : (a : ℕ) × (a < n) × (A a ≡ true) × (f a ≡ i) = each i l h in ((λ _. a.0), (a.1, a.2, a.3))))
  where
    go : (g : ℕ → ℕ → ℕ) × ((i : ℕ) → i < m → D i ≡ true → (g i 0 < n) × (A (g i 0) ≡ true) × (f (g i 0) ≡ i)) → size_on D m ≤ size_on A n
    go (g, ok) = size-injection D m (λ i. g i 0) n A (λ i l h. (ok i l h).0) (λ i l h. (ok i l h).1)
        (λ i k l r h s q. sym ((ok i l h).2) ∙ ap f q ∙ (ok k r s).2)

-- ---- sets put together
-- the first n numbers of a set, and the next m
pub sum_on-join : (X : ℕ → Bool) (n m : ℕ) (f : ℕ → ℕ) → sum_on X (n + m) f ≡ sum_on X n f + sum_on (λ j. X (n + j)) m (λ j. f (n + j))
sum_on-join X n zero f = ap (λ k. sum_on X k f) (let e : n + zero ≡ n = omega arith in e) ∙ omega arith
sum_on-join X n (suc m) f = ap (λ k. sum_on X k f) (let e : n + suc m ≡ suc (n + m) = omega arith in e) ∙ omega (arith, sum_on-join X n m f)

-- the sum over a set is that over a part and that over the rest
pub sum_on-rest : (X Y : ℕ → Bool) (n : ℕ) (f : ℕ → ℕ) → IsWithin n Y X → sum_on X n f ≡ sum_on Y n f + sum_on (λ j. X j && not (Y j)) n f
sum_on-rest X Y zero f h = refl
sum_on-rest X Y (suc n) f h = omega (arith, sum_on-rest X Y n f (λ j l. h j (omega arith)), one (Y n) (X n) (f n) (h n (omega arith)))
  where
    one : (a b : Bool) (x : ℕ) → (a ≡ true → b ≡ true) → cond b x 0 ≡ cond a x 0 + cond (b && not a) x 0
    one a b x e = grind arith

-- two sets with nothing in common
pub size-either : (I J : ℕ → Bool) (n : ℕ) → IsApart n I J → size_on (either I J) n ≡ size_on I n + size_on J n
size-either I J zero h = refl
size-either I J (suc n) h = omega (arith, size-either I J n (λ j l. h j (omega arith)), one (I n) (J n) (h n (omega arith)))
  where
    one : (a b : Bool) → (a ≡ true → b ≡ false) → cond (a || b) 1 0 ≡ cond a 1 0 + cond b 1 0
    one a b e = grind arith

-- a set within X or Y is counted in both parts, and in the common part twice
pub size-parts : (K X Y : ℕ → Bool) (n : ℕ) → IsWithin n K (either X Y) →
    size_on K n + size_on (both K (both X Y)) n ≡ size_on (both K X) n + size_on (both K Y) n
size-parts K X Y zero h = refl
size-parts K X Y (suc n) h = omega (arith, size-parts K X Y n (λ j l. h j (omega arith)), one (K n) (X n) (Y n) (h n (omega arith)))
  where
    one : (b x y : Bool) → (b ≡ true → x || y ≡ true) → cond b 1 0 + cond (b && (x && y)) 1 0 ≡ cond (b && x) 1 0 + cond (b && y) 1 0
    one b x y e = grind arith

-- the part of a set in X and the part outside
pub size-outside : (C X : ℕ → Bool) (n : ℕ) → size_on C n + size_on X n ≤ size_on (both C X) n + n
size-outside C X zero = omega arith
size-outside C X (suc n) = omega (arith, size-outside C X n, one (C n) (X n))
  where
    one : (a x : Bool) → cond a 1 0 + cond x 1 0 ≤ cond (a && x) 1 0 + 1
    one a x = grind arith

-- the members of X that are in Y, counted
pub sum_on-chosen : (X Y Z : ℕ → Bool) (n : ℕ) → ((j : ℕ) → j < n → Z j ≡ X j && Y j) → sum_on X n (λ j. cond (Y j) 1 0) ≡ size_on Z n
sum_on-chosen X Y Z zero h = refl
sum_on-chosen X Y Z (suc n) h = omega (arith, sum_on-chosen X Y Z n (λ j l. h j (omega arith)), one (X n) (Y n) (Z n) 1 (h n (omega arith)))
  where
    one : (a b z : Bool) (x : ℕ) → z ≡ a && b → cond a (cond b x 0) 0 ≡ cond z x 0
    one a b z x e = grind arith

-- ---- two sets I and J with nothing in common, beside a set X
pub counts : (I J X : ℕ → Bool) (n : ℕ) → IsApart n I J → size_on I n + size_on J n + size_on X n ≤ size_on (both I X) n + size_on (both J X) n + n
counts I J X zero h = omega arith
counts I J X (suc n) h = omega (arith, counts I J X n (λ j l. h j (omega arith)), one (I n) (J n) (X n) (h n (omega arith)))
  where
    one : (a b x : Bool) → (a ≡ true → b ≡ false) → cond a 1 0 + cond b 1 0 + cond x 1 0 ≤ cond (a && x) 1 0 + cond (b && x) 1 0 + 1
    one a b x e = grind arith

-- they are equal where X holds each number of neither
pub counts-equal : (I J X : ℕ → Bool) (n : ℕ) → IsApart n I J → ((j : ℕ) → j < n → I j ≡ false → J j ≡ false → X j ≡ true) →
    size_on I n + size_on J n + size_on X n ≡ size_on (both I X) n + size_on (both J X) n + n
counts-equal I J X zero h free = omega arith
counts-equal I J X (suc n) h free = omega
    (arith, counts-equal I J X n (λ j l. h j (omega arith)) (λ j l. free j (omega arith)), one (I n) (J n) (X n) (h n (omega arith)) (free n (omega arith)))
  where
    one : (a b x : Bool) → (a ≡ true → b ≡ false) → (a ≡ false → b ≡ false → x ≡ true) →
        cond a 1 0 + cond b 1 0 + cond x 1 0 ≡ cond (a && x) 1 0 + cond (b && x) 1 0 + 1
    one a b x e f = grind arith

-- and not where it lacks one
pub counts-less : (I J X : ℕ → Bool) (n : ℕ) → IsApart n I J → (j : ℕ) → j < n → I j ≡ false → J j ≡ false → X j ≡ false →
    size_on I n + size_on J n + size_on X n < size_on (both I X) n + size_on (both J X) n + n
counts-less I J X zero h j l a b x = absurd (omega arith)
counts-less I J X (suc n) h j l a b x = go (nat_cases j n) (λ less. counts-less I J X n (λ k r. h k (omega arith)) j less a b x)
  where
    one : (u v w : Bool) → (u ≡ true → v ≡ false) → cond u 1 0 + cond v 1 0 + cond w 1 0 ≤ cond (u && w) 1 0 + cond (v && w) 1 0 + 1
    one u v w e = grind arith

    none : (u v w : Bool) → u ≡ false → v ≡ false → w ≡ false → cond u 1 0 + cond v 1 0 + cond w 1 0 + 1 ≤ cond (u && w) 1 0 + cond (v && w) 1 0 + 1
    none u v w d e f = grind arith

    go : (j ≡ n) ⊎ (j ≢ n) → (j < n → size_on I n + size_on J n + size_on X n < size_on (both I X) n + size_on (both J X) n + n) →
        size_on I (suc n) + size_on J (suc n) + size_on X (suc n) < size_on (both I X) (suc n) + size_on (both J X) (suc n) + suc n
    go (inl q) ih = omega (
      arith,
      counts I J X n (λ k r. h k (omega arith)),
      none (I n) (J n) (X n) (subst (λ k. I k ≡ false) q a) (subst (λ k. J k ≡ false) q b)
          (subst (λ k. X k ≡ false) q x),
    )
    go (inr ne) ih = omega (arith, ih (omega arith), one (I n) (J n) (X n) (h n (omega arith)))

-- the members of I and of J that are in X
pub pair-columns : (I J X : ℕ → Bool) (n : ℕ) → IsApart n I J → size_on (both I X) n + size_on (both J X) n ≤ size_on X n
pair-columns I J X zero h = omega arith
pair-columns I J X (suc n) h = omega (arith, pair-columns I J X n (λ j l. h j (omega arith)), one (I n) (J n) (X n) (h n (omega arith)))
  where
    one : (a b x : Bool) → (a ≡ true → b ≡ false) → cond (a && x) 1 0 + cond (b && x) 1 0 ≤ cond x 1 0
    one a b x e = grind arith

pub pair-columns-equal : (I J X : ℕ → Bool) (n : ℕ) → IsApart n I J → ((j : ℕ) → j < n → X j ≡ true → I j ≡ false → J j ≡ true) →
    size_on (both I X) n + size_on (both J X) n ≡ size_on X n
pair-columns-equal I J X zero h all = omega arith
pair-columns-equal I J X (suc n) h all = omega
    (arith, pair-columns-equal I J X n (λ j l. h j (omega arith)) (λ j l. all j (omega arith)), one (I n) (J n) (X n) (h n (omega arith)) (all n (omega arith)))
  where
    one : (a b x : Bool) → (a ≡ true → b ≡ false) → (x ≡ true → a ≡ false → b ≡ true) → cond (a && x) 1 0 + cond (b && x) 1 0 ≡ cond x 1 0
    one a b x e f = grind arith

pub pair-columns-less : (I J X : ℕ → Bool) (n : ℕ) → IsApart n I J → (j : ℕ) → j < n → X j ≡ true → I j ≡ false → J j ≡ false →
    size_on (both I X) n + size_on (both J X) n < size_on X n
pair-columns-less I J X n h j l x a b = omega (
  arith,
  pair-columns I J (without X j) n h,
  sum_on-without X n j (λ _. 1) l x,
  size_on-within (both I (without X j)) (both I X) n
      (λ k _ q. both_true (I k) (without X j k) (both-first (I k) (X k) q)
      (member-without X j k (both-second (I k) (X k) q) (λ e. differ (subst (λ i. I i ≡ false) (sym e) a) (both-first (I k) (X k) q)))),
  size_on-within (both J (without X j)) (both J X) n
      (λ k _ q. both_true (J k) (without X j k) (both-first (J k) (X k) q)
      (member-without X j k (both-second (J k) (X k) q) (λ e. differ (subst (λ i. J i ≡ false) (sym e) b) (both-first (J k) (X k) q)))),
)

-- ---- the levels of a function f
-- the members of the first k + 1 levels, and of the next
pub levels : (f : ℕ → ℕ) (n k : ℕ) (g : ℕ → ℕ) → sum_on (λ j. leb (f j) (suc k)) n g ≡ sum_on (λ j. leb (f j) k) n g + sum_on (λ j. eqb (f j) (suc k)) n g
levels f zero k g = refl
levels f (suc n) k g = omega (arith, levels f n k g, one (f n) (g n))
  where
    one : (a x : ℕ) → cond (leb a (suc k)) x 0 ≡ cond (leb a k) x 0 + cond (eqb a (suc k)) x 0
    one a x = grind (arith, nat_tests)

pub levels-first : (f : ℕ → ℕ) (n : ℕ) (g : ℕ → ℕ) → sum_on (λ j. leb (f j) 0) n g ≡ sum_on (λ j. eqb (f j) 0) n g
levels-first f n g = sum_on-same (λ j. leb (f j) 0) (λ j. eqb (f j) 0) n g (λ j _. one (f j))
  where
    one : (a : ℕ) → leb a 0 ≡ eqb a 0
    one a = grind (arith, nat_tests)

pub levels-all : (f : ℕ → ℕ) (n k : ℕ) (g : ℕ → ℕ) → ((j : ℕ) → j < n → f j ≤ k) → sum_on (λ j. leb (f j) k) n g ≡ sum_on everything n g
levels-all f n k g h = sum_on-same (λ j. leb (f j) k) everything n g (λ j l. holds (f j) (h j l))
  where
    holds : (a : ℕ) → a ≤ k → leb a k ≡ true
    holds a le = grind (arith, nat_tests)

-- ---- a set by its levels
-- one term for the level of a member, none for another number
level-one : (b : Bool) (k l x : ℕ) → (b ≡ true → l < k) → sum_below k (λ h. cond (b && eqb l h) x 0) ≡ cond b x 0
level-one false k l x h = sum_on-none everything k
level-one true k l x h =
    sum_on-without everything k l (λ i. cond (eqb l i) x 0) (h refl) refl
    ∙ ap (λ s. s + cond (eqb l l) x 0) (sum_on-ext (without everything l) k (λ i. cond (eqb l i) x 0) (λ _. 0)
    (λ i _ m. other i (without-member everything l i m).1) ∙ sum_on-none (without everything l) k)
    ∙ ap (λ b. 0 + cond b x 0) (eqb_from l l refl) ∙ omega arith
  where
    other : (i : ℕ) → i ≢ l → cond (eqb l i) x 0 ≡ 0
    other i ne = grind (arith, nat_tests)

-- a set whose members stand in the levels below k has the sizes of its parts together
pub size-levels : (f : ℕ → ℕ) (Y : ℕ → Bool) (n k : ℕ) → ((j : ℕ) → j < n → Y j ≡ true → f j < k) →
    size_on Y n ≡ sum_below k (λ h. size_on (λ j. Y j && eqb (f j) h) n)
size-levels f Y zero k h = sym (sum_on-none everything k)
size-levels f Y (suc n) k h =
    ap (λ s. s + cond (Y n) 1 0) (size-levels f Y n k (λ j l. h j (omega arith)))
    ∙ ap (λ s. sum_below k (λ i. size_on (λ j. Y j && eqb (f j) i) n) + s) (sym (level-one (Y n) k (f n) 1 (h n (omega arith))))
    ∙ sym (sum_on-add everything k (λ i. size_on (λ j. Y j && eqb (f j) i) n) (λ i. cond (Y n && eqb (f n) i) 1 0))
