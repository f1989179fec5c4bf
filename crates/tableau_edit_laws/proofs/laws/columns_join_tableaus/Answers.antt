use Rattle.std.proofs.Common.{ℕ, true, ◌≡◌, ◌≢◌, ◌+◌, ◌*◌, ◌%◌, ◌<◌, ◌⊎◌, inl, inr, ap, sym, subst, ◌∙◌, arith}
use Rattle.residue_theory.specs.Sets.{everything}
use Rattle.residue_theory.proofs.ResidueLaws.{agree-mul, agree-sum, vanishes-mul, vanishes-sum}
use Rattle.residue_theory.proofs.SetLaws.{differ}
use Rattle.linear_algebra.specs.Parts.{skip}
use Rattle.linear_algebra.specs.Products.{product}
use Rattle.tableau_edit_laws.proofs.Joining.{skip_cases}
use Rattle.tableau_edit_laws.proofs.laws.columns_join_tableaus.Goals as goal

pub returns : goal.returns
returns c p m n a b S P R B C row now v vl same joined shown base members rows none = (
  λ i j il jl. products i j il (cases j jl),
  record {
    row_below = λ j jl h. go_below j h (cases j jl);
    one = λ j jl h. go_one j h (cases j jl);
    zero = λ j i jl h il ne. go_zero j i h il ne (cases j jl);
    distinct = λ j g jl gl jh gh q. go_distinct j g jh gh q (cases j jl) (cases g gl);
  },
)
  where
    cases : (j : ℕ) → j < n + 1 → (j ≡ v) ⊎ ((l : ℕ) × (l < n) × (skip v l ≡ j))
    cases j jl = skip_cases n v j (omega arith) (omega arith)

    products : (i j : ℕ) → i < m → (j ≡ v) ⊎ ((l : ℕ) × (l < n) × (skip v l ≡ j)) → R i j % p ≡ product m S b i j % p
    products i j il (inl q) = subst (λ j. R i j % p ≡ product m S b i j % p) (sym q) (shown.here i il
        ∙ sym (vanishes-sum p everything m (λ t. S i t * b t v) (λ t tl _. vanishes-mul p (S i t) (b t v) (joined.here t tl))))
    products i j il (inr (l, ll, q)) = subst (λ j. R i j % p ≡ product m S b i j % p) q (shown.others i l il ll ∙ same i l il ll
        ∙ sym (agree-sum p everything m (λ t. S i t * b t (skip v l)) (λ t. S i t * a t l)
        (λ t tl _. agree-mul p (S i t) (b t (skip v l)) (a t l) (joined.others t l tl ll))))

    -- a base column is one of the others
    member : (j : ℕ) → C j ≡ true → (j ≡ v) ⊎ ((l : ℕ) × (l < n) × (skip v l ≡ j)) → (l : ℕ) × (l < n) × (skip v l ≡ j) × (B l ≡ true) × (now j ≡ row l)
    member j h (inl q) = absurd (differ none (subst (λ j. C j ≡ true) q h))
    member j h (inr (l, ll, q)) = (l, ll, q, in_base, ap now (sym q) ∙ rows l ll in_base)
      where
        in_base : B l ≡ true
        in_base = sym (members l ll) ∙ ap C q ∙ h

    go_below : (j : ℕ) → C j ≡ true → (j ≡ v) ⊎ ((l : ℕ) × (l < n) × (skip v l ≡ j)) → now j < m
    go_below j h w = let t = member j h w in subst (λ s. s < m) (sym t.4) (base.row_below t.0 t.1 t.3)

    go_one : (j : ℕ) → C j ≡ true → (j ≡ v) ⊎ ((l : ℕ) × (l < n) × (skip v l ≡ j)) → R (now j) j % p ≡ 1
    go_one j h w = let t = member j h w in subst (λ s. R s j % p ≡ 1) (sym t.4)
        (subst (λ s. R (row t.0) s % p ≡ 1) t.2 (shown.others (row t.0) t.0 (base.row_below t.0 t.1 t.3) t.1 ∙ base.one t.0 t.1 t.3))

    go_zero : (j i : ℕ) → C j ≡ true → i < m → i ≢ now j → (j ≡ v) ⊎ ((l : ℕ) × (l < n) × (skip v l ≡ j)) → R i j % p ≡ 0
    go_zero j i h il ne w = let t = member j h w in subst (λ s. R i s % p ≡ 0) t.2
        (shown.others i t.0 il t.1 ∙ base.zero t.0 i t.1 t.3 il (λ q. ne (q ∙ sym t.4)))

    go_distinct : (j g : ℕ) → C j ≡ true → C g ≡ true → now j ≡ now g → (j ≡ v) ⊎ ((l : ℕ) × (l < n) × (skip v l ≡ j)) →
        (g ≡ v) ⊎ ((l : ℕ) × (l < n) × (skip v l ≡ g)) → j ≡ g
    go_distinct j g jh gh q w z = let t = member j jh w in let u = member g gh z in
        sym t.2 ∙ ap (λ l. skip v l) (base.distinct t.0 u.0 t.1 u.1 t.3 u.3 (sym t.4 ∙ q ∙ u.4)) ∙ u.2
