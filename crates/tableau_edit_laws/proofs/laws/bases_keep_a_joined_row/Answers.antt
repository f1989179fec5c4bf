use Rattle.std.proofs.Common.{ℕ, true, ◌≡◌, ◌≢◌, ◌+◌, ◌*◌, ◌%◌, ◌<◌, ◌⊎◌, inl, inr, suc, ap, sym, subst, refl, ◌∙◌, arith}
use Rattle.std.proofs.Math.Nat.{mod-eq_of_lt}
use Rattle.residue_theory.specs.Sets.{everything}
use Rattle.residue_theory.specs.Sums.{sum_below}
use Rattle.residue_theory.proofs.ResidueLaws.{agree-add, agree-mul, sum-one, vanishes-mul}
use Rattle.linear_algebra.specs.Parts.{skip}
use Rattle.linear_algebra_laws.proofs.SkipLaws.{unskip, unskip-skip}
use Rattle.tableau_edit_laws.proofs.Joining.{skip_cases}
use Rattle.tableau_edit_laws.proofs.Leaving.{skip-within}
use Rattle.tableau_edit_laws.proofs.laws.bases_keep_a_joined_row.Goals as goal

pub returns : goal.returns
returns c p m n S U P T V R e k x f d B row kl one joined base opposite = record {
  row_below = λ b bl h. within (row b) (base.row_below b bl h);
  one = λ b bl h. joined.p_others (row b) b (base.row_below b bl h) bl ∙ base.one b bl h;
  zero = λ b i bl h il ne. go b bl h i ne (skip_cases m k i (omega arith) (omega arith));
  distinct = λ b g bl gl bh gh q. base.distinct b g bl gl bh gh
      (sym (unskip-skip k (row b)) ∙ ap (λ t. unskip k t) q ∙ unskip-skip k (row g));
}
  where
    within : (i : ℕ) → i < m → skip k i < m + 1
    within i il = subst (λ s. skip k i < s) (let q : suc m ≡ m + 1 = omega arith in q) (skip-within k i m (omega arith) il)

    combined : (b : ℕ) → b < n → B b ≡ true → sum_below m (λ i. d i * P i b) % p ≡ d (row b) % p
    combined b bl h = sum-one p everything m (row b) (λ i. d i * P i b) (base.row_below b bl h) refl
        (λ i il _ other. vanishes-mul p (d i) (P i b) (base.zero b i bl h il other))
        ∙ one_there (d (row b)) (P (row b) b) (base.one b bl h)
      where
        one_there : (y z : ℕ) → z % p ≡ 1 → (y * z) % p ≡ y % p
        one_there y z h = agree-mul p y z 1 (h ∙ sym (mod-eq_of_lt one)) ∙ ap (λ s. s % p) (let q : y * 1 ≡ y = omega arith in q)

    go : (b : ℕ) → b < n → B b ≡ true → (i : ℕ) → i ≢ skip k (row b) → (i ≡ k) ⊎ ((l : ℕ) × (l < m) × (skip k l ≡ i)) → R i b % p ≡ 0
    go b bl h i ne (inl q) = subst (λ i. R i b % p ≡ 0) (sym q) (joined.p_row b bl
        ∙ agree-add p (sum_below m (λ i. d i * P i b)) (d (row b)) (x b) (x b) (combined b bl h) refl ∙ opposite b bl h)
    go b bl h i ne (inr (l, ll, q)) = subst (λ i. R i b % p ≡ 0) q (joined.p_others l b ll bl
        ∙ base.zero b l bl h ll (λ g. ne (sym q ∙ ap (λ t. skip k t) g)))
