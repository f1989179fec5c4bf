-- Products of matrices by their rows.
use Rattle.std.proofs.Common.{◌≡◌, ℕ, ◌+◌, ◌*◌, ◌%◌, ◌<◌, ◌↔◌, List, slice_index, ap, sym, subst, ◌∙◌, arith}
use Rattle.std.proofs.Math.Nat.{add-mod-mod, mod-add-mod, zero-mod}
use Rattle.std.proofs.lemmas.Nat.{mul-mod_first}
use Rattle.residue_theory.specs.Sets.{everything}
use Rattle.residue_theory.specs.Sums.{sum_below}
use Rattle.residue_theory.proofs.SumLaws.{sum_on-ext}
use Rattle.linear_algebra.specs.Products.{Agree, IsInverse, identity, product}
use Rattle.cert_text.specs.Readings.{entry_at, matrix_of}
use Rattle.cert_checker.specs.Gathering.{IsAddedRow, IsGatheredRow, IsZeroRow, IsRowCombination}

-- ---- a sum less what it should be
none-before : (a : ℕ) → 0 + a ≡ a
none-before a = omega arith

-- f is -1, so that x and f * x cancel
cancel : (p f x : ℕ) → (1 + f) % p ≡ 0 → (x + f * x) % p ≡ 0
cancel p f x minus =
    ap (λ z. z % p) (joined x f) ∙ sym (mul-mod_first (1 + f) x p) ∙ ap (λ z. (z * x) % p) minus ∙ ap (λ z. z % p) (none x) ∙ zero-mod p
  where
    joined : (a b : ℕ) → a + b * a ≡ (1 + b) * a
    joined a b = grind arith

    none : (a : ℕ) → 0 * a ≡ 0
    none a = grind arith

zero-same : (p f e s : ℕ) → (1 + f) % p ≡ 0 → (s + f * e) % p ≡ 0 → e % p ≡ s % p
zero-same p f e s minus zero_is =
    ap (λ z. z % p) (plain e) ∙ ap (λ z. (e + z) % p) (sym zero_is) ∙ add-mod-mod e (s + f * e) p ∙ ap (λ z. z % p) (moved e s (f * e))
    ∙ sym (mod-add-mod (e + f * e) p s) ∙ ap (λ z. (z + s) % p) (cancel p f e minus) ∙ ap (λ z. z % p) (none-before s)
  where
    plain : (a : ℕ) → a ≡ a + 0
    plain a = omega arith

    moved : (a b d : ℕ) → a + (b + d) ≡ (a + d) + b
    moved a b d = omega arith

same-zero : (p f e s : ℕ) → (1 + f) % p ≡ 0 → e % p ≡ s % p → (s + f * e) % p ≡ 0
same-zero p f e s minus same =
    sym (mod-add-mod s p (f * e)) ∙ ap (λ z. (z + f * e) % p) (sym same) ∙ mod-add-mod e p (f * e) ∙ cancel p f e minus

module _ (p k n f : ℕ) (minus : (1 + f) % p ≡ 0) (coefficients : List (ℕ × ℕ)) (matrix : List (List (ℕ × ℕ))) (entries : List (ℕ × ℕ)) (old sum less : List ℕ)
    (zero_is : IsZeroRow p n old) (gathered : IsGatheredRow p k n coefficients matrix old sum) (added : IsAddedRow p n f entries sum less) where
  wanted : ℕ → ℕ
  wanted j = sum_below k (λ t. entry_at coefficients t * matrix_of matrix t j)

  -- what is left of the sum
  rest : (j : ℕ) → j < n → slice_index less j % p ≡ (wanted j + f * entry_at entries j) % p
  unfolding wanted
  rest j jl =
      added j jl ∙ sym (mod-add-mod (slice_index sum j) p (f * entry_at entries j))
      ∙ ap (λ z. (z + f * entry_at entries j) % p) (gathered j jl
      ∙ sym (mod-add-mod (slice_index old j) p (wanted j)) ∙ ap (λ z. (z + wanted j) % p) (zero_is j jl)
      ∙ ap (λ z. z % p) (none-before (wanted j)))
      ∙ mod-add-mod (wanted j) p (f * entry_at entries j)

  pub nothing-left : IsZeroRow p n less → IsRowCombination p k n coefficients matrix entries
  unfolding wanted
  nothing-left none j jl = zero-same p f (entry_at entries j) (wanted j) minus (sym (rest j jl) ∙ none j jl)

  pub left-nothing : IsRowCombination p k n coefficients matrix entries → IsZeroRow p n less
  unfolding wanted
  left-nothing is j jl = rest j jl ∙ same-zero p f (entry_at entries j) (wanted j) minus (is j jl)

pub combination_as : (p k : ℕ) (rows : List (List (ℕ × ℕ))) (n m : ℕ) (a b c d : List (ℕ × ℕ)) → n ≡ m → a ≡ b →
    c ≡ d → IsRowCombination p k n a rows c → IsRowCombination p k m b rows d
combination_as p k rows n m a b c d size first second is =
    subst (λ i. IsRowCombination p k i b rows d) size (subst (λ x. IsRowCombination p k n x rows d) first
    (subst (λ x. IsRowCombination p k n a rows x) second is))

-- ---- products of matrices that have the same entries
-- a third matrix that prints the unit matrix
pub inverse-iff : (p m : ℕ) (S U I : ℕ → ℕ → ℕ) → ((i j : ℕ) → i < m → j < m → I i j ≡ identity i j) → Agree p m m I (product m S U) ↔ IsInverse p m S U
inverse-iff p m S U I same = (
  λ h i j il jl. sym (h i j il jl) ∙ ap (λ x. x % p) (same i j il jl),
  λ h i j il jl. ap (λ x. x % p) (same i j il jl) ∙ sym (h i j il jl),
)

-- c is the product of a and b, where a has k columns
abbrev IsProductOf : ℕ → ℕ → ℕ → ℕ → List (List (ℕ × ℕ)) → List (List (ℕ × ℕ)) → List (List (ℕ × ℕ)) → Type 0
IsProductOf p m n k c a b = Agree p m n (matrix_of c) (product k (matrix_of a) (matrix_of b))

-- other words for the same sizes and rows
pub product_as : (p : ℕ) (c d a b u v : List (List (ℕ × ℕ))) (m x n y k z : ℕ) → m ≡ x → n ≡ y → k ≡ z → c ≡ d → a ≡ b → u ≡ v →
    Agree p m n (matrix_of c) (product k (matrix_of a) (matrix_of u)) ↔ Agree p x y (matrix_of d) (product z (matrix_of b) (matrix_of v))
product_as p c d a b u v m x n y k z rows columns middle third first second =
    subst (λ i. IsProductOf p m n k c a u ↔ IsProductOf p i y z d b v) rows
    (subst (λ i. IsProductOf p m n k c a u ↔ IsProductOf p m i z d b v) columns
    (subst (λ i. IsProductOf p m n k c a u ↔ IsProductOf p m n i d b v) middle
    (subst (λ r. IsProductOf p m n k c a u ↔ IsProductOf p m n k r b v) third
    (subst (λ r. IsProductOf p m n k c a u ↔ IsProductOf p m n k c r v) first
    (subst (λ r. IsProductOf p m n k c a u ↔ IsProductOf p m n k c a r) second (λ h. h, λ h. h))))))

-- a product by the same entries
pub product-same : (p m n k : ℕ) (C A B D : ℕ → ℕ → ℕ) → ((t j : ℕ) → t < k → j < n → B t j ≡ D t j) →
    Agree p m n C (product k A B) ↔ Agree p m n C (product k A D)
product-same p m n k C A B D same = (
  λ h i j il jl. h i j il jl ∙ ap (λ x. x % p) (sum i j jl),
  λ h i j il jl. h i j il jl ∙ sym (ap (λ x. x % p) (sum i j jl)),
)
  where
    sum : (i j : ℕ) → j < n → product k A B i j ≡ product k A D i j
    sum i j jl = sum_on-ext everything k (λ t. A i t * B t j) (λ t. A i t * D t j) (λ t tl is. ap (λ x. A i t * x) (same t j tl jl))
