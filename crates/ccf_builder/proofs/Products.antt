-- Products of matrices with the same entries.
use Rattle.std.proofs.Common.{◌≡◌, ℕ, ◌*◌, ◌<◌, ◌%◌, ap, sym, ◌∙◌}
use Rattle.residue_theory.specs.Sets.{everything}
use Rattle.residue_theory.proofs.SumLaws.{sum_on-ext}
use Rattle.residue_theory.proofs.ResidueLaws.{agree-sum, agree-mul}
use Rattle.linear_algebra.specs.Products.{product, Agree, IsInverse}
use Rattle.row_transform.specs.Tableaus.{TableauState, IsTableau}

-- equal right factors give equal products
product-right : (p k m n : ℕ) (S a b : ℕ → ℕ → ℕ) → Agree p k n a b → Agree p m n (product k S a) (product k S b)
product-right p k m n S a b same i j il jl = agree-sum p everything k (λ t. S i t * a t j) (λ t. S i t * b t j)
    (λ t tl _. agree-mul p (S i t) (a t j) (b t j) (same t j tl jl))

pub inverse-entries : (p m : ℕ) (S T U V : ℕ → ℕ → ℕ) → ((i j : ℕ) → i < m → j < m → S i j ≡ T i j) →
    ((i j : ℕ) → i < m → j < m → U i j ≡ V i j) → IsInverse p m T V → IsInverse p m S U
inverse-entries p m S T U V s u inverse i j il jl = ap (λ x. x % p) (sum_on-ext everything m (λ t. S i t * U t j)
    (λ t. T i t * V t j) (λ t tl _. ap (λ x. x * U t j) (s i t il tl) ∙ ap (λ x. T i t * x) (u t j tl jl)))
    ∙ inverse i j il jl

pub product-entries : (p m n : ℕ) (S T a P R : ℕ → ℕ → ℕ) → ((i j : ℕ) → i < m → j < m → S i j ≡ T i j) →
    ((i j : ℕ) → i < m → j < n → P i j ≡ R i j) → Agree p m n R (product m T a) → Agree p m n P (product m S a)
product-entries p m n S T a P R s r same i j il jl = ap (λ x. x % p) (r i j il jl) ∙ same i j il jl
    ∙ ap (λ x. x % p) (sum_on-ext everything m (λ t. T i t * a t j) (λ t. S i t * a t j)
    (λ t tl _. ap (λ x. x * a t j) (sym (s i t il tl))))

-- P is S times the matrix that the tableau came from
pub transformed : (p : ℕ) (q : ℕ → ℕ → ℕ) (t : TableauState) → Agree p t.rows t.columns t.q q → IsTableau p t → Agree p t.rows t.columns t.p
    (product t.rows t.s q)
transformed p q t entries tableau i j il jl = tableau.product_is i j il jl ∙ product-right p t.rows t.rows t.columns t.s t.q q entries i j il jl
