-- The entries of the identity matrix, of a part, and of matrices put together.
use Rattle.std.proofs.Common.{◌≡◌, ℕ, ◌+◌, ◌-◌, ◌<◌, ◌≤◌, ◌≢◌, Bool, true, false, cond, ltb, ◌&&◌, ap, ◌∙◌, arith}
use Rattle.std.proofs.lemmas.Bool.Decides.{nat_tests}
use Rattle.linear_algebra.specs.Products.{identity}
use Rattle.linear_algebra.specs.Parts.{part, above, with_column, with_entry}

pub identity-same : (i : ℕ) → identity i i ≡ 1
identity-same i = grind (arith, nat_tests)

pub identity-other : (i j : ℕ) → i ≢ j → identity i j ≡ 0
identity-other i j ne = grind (arith, nat_tests)

-- ---- a part
pub part-shown : (R X : ℕ → Bool) (a : ℕ → ℕ → ℕ) (i j : ℕ) → R i ≡ true → X j ≡ true → part R X a i j ≡ a i j
part-shown R X a i j r x = on (R i) (X j) (a i j) r x
  where
    on : (b c : Bool) (y : ℕ) → b ≡ true → c ≡ true → cond (b && c) y 0 ≡ y
    on b c y h k = grind arith

pub part-other_row : (R X : ℕ → Bool) (a : ℕ → ℕ → ℕ) (i j : ℕ) → R i ≡ false → part R X a i j ≡ 0
part-other_row R X a i j r = off (R i) (X j) (a i j) r
  where
    off : (b c : Bool) (y : ℕ) → b ≡ false → cond (b && c) y 0 ≡ 0
    off b c y h = grind arith

pub part-other_column : (R X : ℕ → Bool) (a : ℕ → ℕ → ℕ) (i j : ℕ) → X j ≡ false → part R X a i j ≡ 0
part-other_column R X a i j x = off (R i) (X j) (a i j) x
  where
    off : (b c : Bool) (y : ℕ) → c ≡ false → cond (b && c) y 0 ≡ 0
    off b c y h = grind arith

-- ---- one matrix above another
pub above-top : (m : ℕ) (a b : ℕ → ℕ → ℕ) (i j : ℕ) → i < m → above m a b i j ≡ a i j
above-top m a b i j l = grind (arith, nat_tests)

pub above-low : (m : ℕ) (a b : ℕ → ℕ → ℕ) (i j : ℕ) → above m a b (m + i) j ≡ b i j
above-low m a b i j = low (ltb (m + i) m) (m + i - m) (let g : m ≤ m + i = omega arith in grind (arith, nat_tests)) (omega arith)
  where
    low : (t : Bool) (k : ℕ) → t ≡ false → k ≡ i → cond t (a (m + i) j) (b k j) ≡ b i j
    low t k e q = ap (λ s. cond s (a (m + i) j) (b k j)) e ∙ ap (λ s. b s j) q

-- ---- a column beside a matrix
pub with_column-first : (n : ℕ) (a : ℕ → ℕ → ℕ) (x : ℕ → ℕ) (i j : ℕ) → j < n → with_column n a x i j ≡ a i j
with_column-first n a x i j l = grind (arith, nat_tests)

pub with_column-last : (n : ℕ) (a : ℕ → ℕ → ℕ) (x : ℕ → ℕ) (i : ℕ) → with_column n a x i n ≡ x i
with_column-last n a x i = grind (arith, nat_tests)

-- ---- one entry changed
pub with_entry-there : (a : ℕ → ℕ → ℕ) (r v x : ℕ) → with_entry a r v x r v ≡ x
with_entry-there a r v x = grind (arith, nat_tests)

pub with_entry-row : (a : ℕ → ℕ → ℕ) (r v x i j : ℕ) → i ≢ r → with_entry a r v x i j ≡ a i j
with_entry-row a r v x i j ne = grind (arith, nat_tests)

pub with_entry-column : (a : ℕ → ℕ → ℕ) (r v x i j : ℕ) → j ≢ v → with_entry a r v x i j ≡ a i j
with_entry-column a r v x i j ne = grind (arith, nat_tests)
