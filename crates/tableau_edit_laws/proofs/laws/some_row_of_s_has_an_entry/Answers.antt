use Rattle.std.proofs.Common.{ℕ, ◌≡◌, ◌≢◌, ◌*◌, ◌%◌, ◌<◌, ◌⊎◌, inl, inr, sym, ◌∙◌}
use Rattle.residue_theory.specs.Sets.{everything}
use Rattle.residue_theory.proofs.ResidueLaws.{one_non_zero, vanishes-mul, vanishes-sum}
use Rattle.residue_theory.proofs.SetLaws.{search_below, zero_cases}
use Rattle.linear_algebra.specs.Products.{identity}
use Rattle.linear_algebra_laws.proofs.Entries.{identity-same}
use Rattle.linear_algebra_laws.proofs.Products.{inverse-swap}
use Rattle.tableau_edit_laws.proofs.laws.some_row_of_s_has_an_entry.Goals as goal

pub returns : goal.returns
returns c p prime m S U e el inv = go (search_below m (λ k. S k e % p ≢ 0) (λ k kl. test (zero_cases (S k e % p))))
  where
    test : {x : ℕ} → (x ≡ 0) ⊎ (x ≢ 0) → (x ≢ 0) ⊎ ((x ≢ 0) → ⊥)
    test (inl z) = inr (λ ne. ne z)
    test (inr ne) = inl ne

    go : ((k : ℕ) × (k < m) × (S k e % p ≢ 0)) ⊎ ((k : ℕ) → k < m → (S k e % p ≢ 0) → ⊥) → (k : ℕ) × (k < m) × (S k e % p ≢ 0)
    go (inl found) = found
    go (inr none) = absurd (one_non_zero p prime (identity e e) (identity-same e) (sym (inverse-swap p prime m S U inv e e el el)
        ∙ vanishes-sum p everything m (λ t. U e t * S t e) (λ t tl _. vanishes-mul p (U e t) (S t e) (zero_at t tl (zero_cases (S t e % p))))))
      where
        zero_at : (t : ℕ) → t < m → (S t e % p ≡ 0) ⊎ (S t e % p ≢ 0) → S t e % p ≡ 0
        zero_at t tl (inl z) = z
        zero_at t tl (inr ne) = absurd (none t tl ne)
