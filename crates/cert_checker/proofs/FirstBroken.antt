-- A form that keeps each rule, and one that breaks one.
use Rattle.std.proofs.Common.{◌≡◌, ℕ, zero, suc, ◌+◌, ◌≤◌, inl, inr, sym, subst, arith}
use Rattle.residue_theory.proofs.SumLaws.{nat_cases}
use Rattle.mixed_matrices.specs.LayeredMatrices.{LayeredMatrix}
use Rattle.mixed_matrices.specs.Models.{MixedMatrix}
use Rattle.cert_text.specs.Contents.{Contents}
use Rattle.cert_text.specs.Rules.{KeepsRules}
use Rattle.cert_checker.specs.Checking.{KeepsRule, KeepsFirst, IsFirstBrokenRule}

pub all-kept : (p : ℕ) (M : MixedMatrix) (L : LayeredMatrix) (c : Contents) → KeepsFirst p M L c 11 → KeepsRules p M L c
all-kept p M L c each = record {
  shape = each 0 (omega arith);
  inverse = each 1 (omega arith);
  product_is = each 2 (omega arith);
  units = each 3 (omega arith);
  matching = each 4 (omega arith);
  counted = each 5 (omega arith);
  columns = each 6 (omega arith);
  rows = each 7 (omega arith);
  arcs = each 8 (omega arith);
  reasons = each 9 (omega arith);
  listing = each 10 (omega arith);
}

pub each-kept : (p : ℕ) (M : MixedMatrix) (L : LayeredMatrix) (c : Contents) → KeepsRules p M L c → (k : ℕ) → KeepsRule p M L c k
each-kept p M L c R zero = R.shape
each-kept p M L c R (suc zero) = R.inverse
each-kept p M L c R (suc (suc zero)) = R.product_is
each-kept p M L c R (suc (suc (suc zero))) = R.units
each-kept p M L c R (suc (suc (suc (suc zero)))) = R.matching
each-kept p M L c R (suc (suc (suc (suc (suc zero))))) = R.counted
each-kept p M L c R (suc (suc (suc (suc (suc (suc zero)))))) = R.columns
each-kept p M L c R (suc (suc (suc (suc (suc (suc (suc zero))))))) = R.rows
each-kept p M L c R (suc (suc (suc (suc (suc (suc (suc (suc zero)))))))) = R.arcs
each-kept p M L c R (suc (suc (suc (suc (suc (suc (suc (suc (suc zero))))))))) = R.reasons
each-kept p M L c R (suc (suc (suc (suc (suc (suc (suc (suc (suc (suc zero)))))))))) = R.listing
each-kept p M L c R (suc (suc (suc (suc (suc (suc (suc (suc (suc (suc (suc k))))))))))) = tt

pub broken-kept : (p : ℕ) (M : MixedMatrix) (L : LayeredMatrix) (c : Contents) (rule : ℕ) → IsFirstBrokenRule p M L c rule → KeepsRules p M L c → ⊥
broken-kept p M L c zero first R = absurd (omega (arith, first.from))
broken-kept p M L c (suc zero) first R = absurd (omega (arith, first.from))
broken-kept p M L c (suc (suc k)) first R = first.broken k (omega arith) (each-kept p M L c R k)

module _ (p : ℕ) (M : MixedMatrix) (L : LayeredMatrix) (c : Contents) where
  pub none-kept : KeepsFirst p M L c 0
  none-kept k low = absurd (omega (arith, low))

  -- one rule more
  pub more-kept : (n m : ℕ) → m ≡ n + 1 → KeepsFirst p M L c n → KeepsRule p M L c n → KeepsFirst p M L c m
  more-kept n m next before here k low = elim (nat_cases k n) [
    | inl same ↦ subst (KeepsRule p M L c) (sym same) here
    | inr other ↦ before k (omega (arith, low, next, other))
  ]

  -- the next rule is broken
  pub next-broken : (n rule : ℕ) → rule ≡ n + 2 → rule ≤ 12 → KeepsFirst p M L c n → (KeepsRule p M L c n → ⊥) → IsFirstBrokenRule p M L c rule
  next-broken n rule is few before broken = record {
    from = omega (arith, is);
    to = few;
    kept = λ k low. before k (omega (arith, low, is));
    broken = λ k same here. let equal : k ≡ n = omega (arith, same, is) in broken (subst (KeepsRule p M L c) equal here);
  }
