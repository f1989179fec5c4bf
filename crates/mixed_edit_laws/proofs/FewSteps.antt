-- The steps of a run from a pair that lacks at most four columns.
use Rattle.std.proofs.Common.{ℕ, zero, suc, ◌≡◌, ◌+◌, ◌-◌, ◌*◌, ◌≤◌, subst, arith}
use Rattle.mixed_edit_laws.specs.RemovalLaws.{EditsTakeFewSteps}

-- by how many columns the pair gains
by_gain : (n s d before after : ℕ) → d ≤ 4 → s + d ≤ n →
    after + (s * n + s * s) ≤ before + (s + d + 1) * n + (s + d) * (s + d) → after ≤ before + 14 * n
by_gain n s zero before after dl le h = omega (arith, h)
by_gain n s (suc zero) before after dl le h = omega (arith, h)
by_gain n s (suc (suc zero)) before after dl le h = omega (arith, h)
by_gain n s (suc (suc (suc zero))) before after dl le h = omega (arith, h)
by_gain n s (suc (suc (suc (suc zero)))) before after dl le h = omega (arith, h)
by_gain n s (suc (suc (suc (suc (suc d))))) before after dl le h = absurd (omega arith)

pub few-steps : EditsTakeFewSteps
few-steps n s m before after searches sm md mn steps made = (
  by_gain n s (m - s) before after (omega arith) (omega arith)
      (subst (λ k. after + (s * n + s * s) ≤ before + (k + 1) * n + k * k) (let q : m ≡ s + (m - s) = omega arith in q) steps),
  omega (arith, made),
)
