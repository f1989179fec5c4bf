-- Conflict sets: the equations that a surplus equation clashes with.
use Rattle.std.specs.Prelude.{ℕ, ◌≡◌, ◌≢◌, ◌<◌, ◌⊎◌, ◌↔◌, Bool, true, false, ◌&&◌, ◌||◌, ltb}
use Rattle.residue_theory.specs.Sets.{with_one, without}
use Rattle.mixed_matrices.specs.Models.{MixedMatrix}
use Rattle.equation_matroid_laws.specs.EquationRanks.{AreIndependent, IsRankOf}

-- equation e is surplus among the equations X: R(X) is the same without it
abbrev pub IsSurplusAmong : ℕ → MixedMatrix → (ℕ → Bool) → ℕ → Type 0
IsSurplusAmong p M X e = (r : ℕ) × IsRankOf p M X r × IsRankOf p M (without X e) r

-- what is left when x is tried, from the last equation to the first: those before x, and of those after x the ones of C
abbrev pub tried : (ℕ → Bool) → ℕ → ℕ → Bool
tried C x y = ltb y x || (ltb x y && C y)

-- C is the conflict set of e: each other equation is left out, from the last to the first, where e is still surplus
-- without it and without those left out before
pub record IsConflictSet (p : ℕ) (M : MixedMatrix) (e : ℕ) (C : ℕ → Bool) : Type 0 where
  pub holds : C e ≡ true
  pub left_out : (x : ℕ) → x < M.rows → x ≢ e → (C x ≡ false) ↔ IsSurplusAmong p M (tried C x) e

-- x is in the circuit of e in B: it is e, or an equation of B that e may replace
abbrev pub IsInCircuit : ℕ → MixedMatrix → (ℕ → Bool) → ℕ → ℕ → Type 0
IsInCircuit p M B e x = (x ≡ e) ⊎ ((B x ≡ true) × AreIndependent p M (with_one (without B x) e))

-- C is the circuit of e in B
abbrev pub IsCircuitOf : ℕ → MixedMatrix → (ℕ → Bool) → ℕ → (ℕ → Bool) → Type 0
IsCircuitOf p M B e C = (x : ℕ) → x < M.rows → (C x ≡ true) ↔ IsInCircuit p M B e x
