-- Numbers read modulo p: what vanishes, what agrees, and inverses modulo a prime.
use Rattle.std.proofs.Common.{◌≡◌, ℕ, zero, suc, ◌+◌, ◌*◌, ◌%◌, ◌/◌, ◌-◌, ◌<◌, ◌≤◌, ◌≢◌, Bool, true, false, cond, ◌⊎◌, inl, inr, refl, ap, sym, ◌∙◌, arith}
use Rattle.std.proofs.Math.Nat.{add-mod, mod-add-mod, mod-add-div, zero-mod, zero-add, mul-zero, mod_self, mod-lt, mod-eq_of_lt, mul-mod_right}
use Rattle.std.proofs.lemmas.Nat.{mul-mod_second, mul-mod_first}
use Rattle.residue_theory.specs.Sums.{sum_on}
use Rattle.residue_theory.specs.Residues.{IsPrime}
use Rattle.residue_theory.specs.Sets.{without}
use Rattle.residue_theory.proofs.SumLaws.{sum_on-without, without-member}

pos_of : (x : ℕ) → x ≢ 0 → 0 < x
pos_of x ne = omega arith

one_or : (a : ℕ) → 0 < a → (a ≡ 1) ⊎ (1 < a)
one_or a h = grind arith

module _ (p : ℕ) where
  pub agree-add : (x y z w : ℕ) → x % p ≡ y % p → z % p ≡ w % p → (x + z) % p ≡ (y + w) % p
  agree-add x y z w e h = rw (add-mod x z p, add-mod y w p, e, h)

  pub vanishes-add : (x y : ℕ) → x % p ≡ 0 → y % p ≡ 0 → (x + y) % p ≡ 0
  vanishes-add x y e h = rw (add-mod x y p, e, h, zero-mod)

  pub vanishes-rest : (x y : ℕ) → (x + y) % p ≡ 0 → x % p ≡ 0 → y % p ≡ 0
  vanishes-rest x y s e = ap (λ w. w % p) (sym (zero-add y)) ∙ ap (λ w. (w + y) % p) (sym e) ∙ mod-add-mod x p y ∙ s

  pub vanishes-mul : (k x : ℕ) → x % p ≡ 0 → (k * x) % p ≡ 0
  vanishes-mul k x e = sym (mul-mod_second k x p) ∙ ap (λ w. (k * w) % p) e ∙ (rw mul-zero (zero-mod p))

  pub agree-mul : (k x y : ℕ) → x % p ≡ y % p → (k * x) % p ≡ (k * y) % p
  agree-mul k x y e = sym (mul-mod_second k x p) ∙ ap (λ w. (k * w) % p) e ∙ mul-mod_second k y p

  -- the sum of residues that vanish
  pub vanishes-sum : (X : ℕ → Bool) (n : ℕ) (f : ℕ → ℕ) → ((j : ℕ) → j < n → X j ≡ true → f j % p ≡ 0) → sum_on X n f % p ≡ 0
  vanishes-sum X zero f h = zero-mod p
  vanishes-sum X (suc n) f h = vanishes-add (sum_on X n f) (cond (X n) (f n) 0) (vanishes-sum X n f (λ j l. h j (omega arith))) (last (X n) refl)
    where
      last : (b : Bool) → X n ≡ b → cond b (f n) 0 % p ≡ 0
      last true e = h n (omega arith) e
      last false e = zero-mod p

  pub agree-sum : (X : ℕ → Bool) (n : ℕ) (f g : ℕ → ℕ) → ((j : ℕ) → j < n → X j ≡ true → f j % p ≡ g j % p) → sum_on X n f % p ≡ sum_on X n g % p
  agree-sum X zero f g h = refl
  agree-sum X (suc n) f g h = agree-add (sum_on X n f) (sum_on X n g) (cond (X n) (f n) 0) (cond (X n) (g n) 0)
      (agree-sum X n f g (λ j l. h j (omega arith))) (last (X n) refl)
    where
      last : (b : Bool) → X n ≡ b → cond b (f n) 0 % p ≡ cond b (g n) 0 % p
      last true e = h n (omega arith) e
      last false e = refl

  vanishes-plus : (x y : ℕ) → x % p ≡ 0 → (x + y) % p ≡ y % p
  vanishes-plus x y e = sym (mod-add-mod x p y) ∙ ap (λ w. (w + y) % p) e ∙ ap (λ w. w % p) (zero-add y)

  -- y is what x lacks, and what z lacks
  pub agree_of : (x y z : ℕ) → (x + y) % p ≡ 0 → (z + y) % p ≡ 0 → x % p ≡ z % p
  agree_of x y z e h = sym (vanishes-plus (z + y) x h) ∙ ap (λ w. w % p) (omega arith) ∙ vanishes-plus (x + y) z e

  pub vanishes_by : (x y : ℕ) → x ≡ y → y % p ≡ 0 → x % p ≡ 0
  vanishes_by x y e h = rw e h

  -- what is left once a pivot row has cleared a column: the rest T, the pivot row's rest S, and the coefficient c of the pivot column
  pub cleared : (T S c ai am w : ℕ) → (T + c * ai) % p ≡ 0 → (S + c * am) % p ≡ 0 → (am * w + 1) % p ≡ 0 → (T + w * ai * S) % p ≡ 0
  cleared T S c ai am w x y z =
      vanishes-rest (c * ai * (am * w + 1)) (T + w * ai * S)
      (vanishes_by _ ((T + c * ai) + w * ai * (S + c * am)) (omega arith)
      (vanishes-add (T + c * ai) (w * ai * (S + c * am)) x (vanishes-mul (w * ai) (S + c * am) y)))
      (vanishes-mul (c * ai) (am * w + 1) z)

  pub pivot_free : (S c am w : ℕ) → (S + c * am) % p ≡ 0 → S % p ≡ 0 → (am * w + 1) % p ≡ 0 → c % p ≡ 0
  pivot_free S c am w y s z =
      vanishes-rest (w * (c * am)) c
      (vanishes_by _ (c * (am * w + 1)) (omega arith) (vanishes-mul c (am * w + 1) z))
      (vanishes-mul w (c * am) (vanishes-rest S (c * am) y s))

abbrev pub HasNegativeInverse : ℕ → ℕ → Type 0
HasNegativeInverse p a = (w : ℕ) × ((a * w + 1) % p ≡ 0)

-- one step of Euclid, at p = a * q + r: the inverse of r serves a
euclid_step : (k a q r : ℕ) → suc k ≡ a * q + r → HasNegativeInverse (suc k) r → HasNegativeInverse (suc k) a
euclid_step k a q r e (w, h) = (k * (q * w), same ∙ mod_self (suc k))
  where
    multiple : (k * (a * (q * w)) + k * (r * w)) % suc k ≡ 0
    multiple = vanishes_by (suc k) _ (k * w * suc k) (rw e (omega arith)) (vanishes-mul (suc k) (k * w) (suc k) (mod_self (suc k)))

    rest : (k + k * (r * w)) % suc k ≡ 0
    rest = vanishes_by (suc k) _ (k * (r * w + 1)) (omega arith) (vanishes-mul (suc k) k (r * w + 1) h)

    same : (a * (k * (q * w)) + 1) % suc k ≡ suc k % suc k
    same = ap (λ x. x % suc k) (omega arith) ∙ agree-add (suc k) (k * (a * (q * w))) k 1 1
        (agree_of (suc k) (k * (a * (q * w))) (k * (r * w)) k multiple rest) refl
        ∙ ap (λ x. x % suc k) (omega arith)

inverse_below : (k : ℕ) → IsPrime (suc k) → (fuel a : ℕ) → a ≤ fuel → 0 < a → a < suc k → HasNegativeInverse (suc k) a
inverse_below k prime zero a le pos l = absurd (omega arith)
inverse_below k prime (suc fuel) a le pos l = go (one_or a pos) (λ r less rpos. inverse_below k prime fuel r (omega arith) rpos (omega arith))
  where
    go : (a ≡ 1) ⊎ (1 < a) → ((r : ℕ) → r < a → 0 < r → HasNegativeInverse (suc k) r) → HasNegativeInverse (suc k) a
    go (inl e) ih = (k, ap (λ x. (x * k + 1) % suc k) e ∙ ap (λ x. x % suc k) (omega arith) ∙ mod_self (suc k))
    go (inr more) ih = euclid_step k a (suc k / a) (suc k % a) (sym (omega (arith, mod-add-div (suc k) a)))
        (ih (suc k % a) (mod-lt (suc k) pos) (pos_of (suc k % a) (prime.no_divisor a more l)))

-- Each number that p does not divide has an inverse, here the one whose product is -1.
pub negative_inverse : (p : ℕ) → IsPrime p → (a : ℕ) → a % p ≢ 0 → HasNegativeInverse p a
negative_inverse zero prime a ne = absurd (none prime.above_one)
  where
    none : 1 < 0 → ⊥
    none h = omega arith
negative_inverse (suc k) prime a ne = (found.0, sym (lower found.0) ∙ found.1)
  where
    found : HasNegativeInverse (suc k) (a % suc k)
    found = inverse_below k prime (a % suc k) (a % suc k) (omega arith) (pos_of (a % suc k) ne) (omega arith)

    lower : (w : ℕ) → (a % suc k * w + 1) % suc k ≡ (a * w + 1) % suc k
    lower w = agree-add (suc k) (a % suc k * w) (a * w) 1 1 (mul-mod_first a w (suc k)) refl

-- a product vanishes only where a factor does
pub vanishes_factor : (p : ℕ) → IsPrime p → (c x : ℕ) → c % p ≢ 0 → (c * x) % p ≡ 0 → x % p ≡ 0
vanishes_factor p prime c x ne h = go (negative_inverse p prime c ne)
  where
    go : HasNegativeInverse p c → x % p ≡ 0
    go (w, z) = vanishes-rest p (w * (c * x)) x (vanishes_by p _ (x * (c * w + 1)) (omega arith) (vanishes-mul p x (c * w + 1) z)) (vanishes-mul p w (c * x) h)

-- what a program computes for -y
pub negated-sum : (p y : ℕ) → 0 < p → ((p - y % p) % p + y) % p ≡ 0
negated-sum p y pos =
    mod-add-mod (p - y % p) p y ∙ ap (λ s. s % p) whole ∙ mul-mod_right p (y / p + 1)
  where
    whole : p - y % p + y ≡ p * (y / p + 1)
    whole = omega (arith, mod-add-div y p, mod-lt y pos)

-- one step of a program's Euclid: from x, which is c * a, to the remainder of p by x
pub inverse-step : (p : ℕ) → IsPrime p → (a c x : ℕ) → 1 < x → x < p → (c * a) % p ≡ x →
    (((p - p / x * c % p) % p * a) % p ≡ p % x) × (0 < p % x) × (p % x < x)
inverse-step p prime a c x more less e = (stands ∙ mod-eq_of_lt smaller, pos_of (p % x) (prime.no_divisor x more less), mod-lt p (omega arith))
  where
    smaller : p % x < p
    smaller = omega (arith, mod-lt p (let pos : 0 < x = omega arith in pos))

    next : ℕ
    next = (p - p / x * c % p) % p

    zero_left : (next * a + p / x * x) % p ≡ 0
    zero_left = agree-add p (next * a) (next * a) (p / x * x) (p / x * (c * a)) refl (agree-mul p (p / x) x (c * a) (mod-eq_of_lt less ∙ sym e))
        ∙ vanishes_by p _ (a * (next + p / x * c)) (omega arith)
        (vanishes-mul p a (next + p / x * c) (negated-sum p (p / x * c) (omega (arith, prime.above_one))))

    zero_right : (p % x + p / x * x) % p ≡ 0
    zero_right = ap (λ s. s % p) (omega (arith, mod-add-div p x)) ∙ mod_self p

    stands : (next * a) % p ≡ p % x % p
    stands = agree_of p (next * a) (p / x * x) (p % x) zero_left zero_right

-- p - 1 times x is what x lacks
pub lacks : (p : ℕ) → IsPrime p → (x : ℕ) → (x + (p - 1) * x) % p ≡ 0
lacks p prime x = vanishes_by p _ (x * p) (multiple (p - 1) (omega (arith, prime.above_one))) (vanishes-mul p x p (mod_self p))
  where
    multiple : (d : ℕ) → d + 1 ≡ p → x + d * x ≡ x * p
    multiple d q = let e : x + d * x ≡ x * (d + 1) = omega arith in e ∙ ap (λ k. x * k) q

-- a number that is 1 does not vanish
pub one_non_zero : (p : ℕ) → IsPrime p → (y : ℕ) → y ≡ suc zero → y % p ≢ 0
one_non_zero p prime y e z = bad (y % p) z (ap (λ s. s % p) e ∙ mod-eq_of_lt prime.above_one)
  where
    bad : (u : ℕ) → u ≡ 0 → u ≡ suc zero → ⊥
    bad u a b = omega arith

-- the inverse whose product is 1
pub inverse : (p : ℕ) → IsPrime p → (x : ℕ) → x % p ≢ 0 → (y : ℕ) × ((x * y) % p ≡ 1)
inverse p prime x ne = go (negative_inverse p prime x ne)
  where
    go : HasNegativeInverse p x → (y : ℕ) × ((x * y) % p ≡ 1)
    go (w, h) = (
      (p - 1) * w,
      agree_of p (x * ((p - 1) * w)) (x * w) (suc zero)
          (vanishes_by p _ (x * w + (p - 1) * (x * w)) (omega arith) (lacks p prime (x * w)))
          (vanishes_by p _ (x * w + 1) (omega arith) h)
          ∙ mod-eq_of_lt prime.above_one,
    )

-- of a product that vanishes a factor does
pub factor_vanishes : (p : ℕ) → IsPrime p → (x y : ℕ) → (x * y) % p ≡ 0 → (x % p ≡ 0) ⊎ (y % p ≡ 0)
factor_vanishes p prime x y h = go (zero_or (x % p))
  where
    zero_or : (u : ℕ) → (u ≡ 0) ⊎ (u ≢ 0)
    zero_or u = grind arith

    go : (x % p ≡ 0) ⊎ (x % p ≢ 0) → (x % p ≡ 0) ⊎ (y % p ≡ 0)
    go (inl z) = inl z
    go (inr ne) = inr (vanishes_factor p prime x y ne h)

-- a sum whose terms but one vanish
pub sum-one : (p : ℕ) (X : ℕ → Bool) (n v : ℕ) (f : ℕ → ℕ) → v < n → X v ≡ true →
    ((j : ℕ) → j < n → X j ≡ true → j ≢ v → f j % p ≡ 0) → sum_on X n f % p ≡ f v % p
sum-one p X n v f l h rest =
    ap (λ s. s % p) (sum_on-without X n v f l h)
    ∙ agree-add p (sum_on (without X v) n f) 0 (f v) (f v)
    (vanishes-sum p (without X v) n f (λ j jl jh. let w : (X j ≡ true) × (j ≢ v) = without-member X v j jh in rest j jl w.0 w.1) ∙ sym (zero-mod p)) refl
    ∙ ap (λ s. s % p) (zero-add (f v))
