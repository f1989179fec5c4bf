-- A tableau before any row operation: S and the transpose of U are the identity.
use Rattle.std.proofs.Common.{◌≡◌, ℕ, ◌*◌, ◌%◌, ◌<◌, ap, sym, ◌∙◌, arith}
use Rattle.std.proofs.lemmas.Bool.Decides.{nat_tests}
use Rattle.residue_theory.specs.Sets.{everything}
use Rattle.residue_theory.proofs.SumLaws.{sum_on-ext}
use Rattle.linear_algebra.specs.Products.{identity, product, Agree, IsInverse}
use Rattle.linear_algebra_laws.proofs.Products.{sum-identity}

turned : (i j : ℕ) → identity i j ≡ identity j i
turned i j = grind (arith, nat_tests)

pub opened-product : (p m n : ℕ) (q P S : ℕ → ℕ → ℕ) → P ≡ q →
    ((i j : ℕ) → i < m → j < m → S i j ≡ identity i j) → Agree p m n P (product m S q)
opened-product p m n q P S e s i j il jl =
    ap (λ a. a i j % p) e
    ∙ sym (ap (λ y. y % p) (sum_on-ext everything m (λ t. S i t * q t j) (λ t. identity i t * q t j)
    (λ t tl _. ap (λ y. y * q t j) (s i t il tl)) ∙ sum-identity m i (λ t. q t j) il))

pub opened-inverse : (p m : ℕ) (S V : ℕ → ℕ → ℕ) → ((i j : ℕ) → i < m → j < m → S i j ≡ identity i j) →
    ((i j : ℕ) → i < m → j < m → V i j ≡ identity i j) → IsInverse p m S (λ i j. V j i)
opened-inverse p m S V s v i j il jl = ap (λ y. y % p)
    (sum_on-ext everything m (λ t. S i t * V j t) (λ t. identity i t * V j t)
    (λ t tl _. ap (λ y. y * V j t) (s i t il tl)) ∙ sum-identity m i (V j) il ∙ v j i jl il ∙ turned j i)
