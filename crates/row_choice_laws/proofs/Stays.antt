-- The circuit of an equation stays the same when more is kept.
use Rattle.std.proofs.Common.{◌≡◌, ℕ, ◌<◌, Bool, true, false, inl, inr, refl, subst}
use Rattle.residue_theory.proofs.SetLaws.{differ, not_true, with_one-member, with_one-new}
use Rattle.residue_theory.proofs.SumLaws.{member-without, nat_cases, without-member}
use Rattle.residue_theory.specs.Residues.{IsPrime}
use Rattle.residue_theory.specs.Sets.{IsWithin, with_one, without}
use Rattle.mixed_matrices.specs.Models.{MixedMatrix}
use Rattle.equation_matroid_laws.proofs.Matroids.{grown-within, swap}
use Rattle.equation_matroid_laws.proofs.RowRanks.{Free, equations, free-independent, free-within, independent-free}
use Rattle.equation_matroid_laws.specs.Conflicts.{IsInCircuit}
use Rattle.equation_matroid_laws.specs.EquationRanks.{AreIndependent}

module _ (p : ℕ) (prime : IsPrime p) (big : 2 < p) (M : MixedMatrix) (B C : ℕ → Bool) (f : ℕ) (fl : f < M.rows) (within : IsWithin M.rows B C)
    (ind : AreIndependent p M C) (new : C f ≡ false) (dep : AreIndependent p M (with_one B f) → ⊥) (x : ℕ) (xl : x < M.rows) where
  -- a larger set than B with f is not independent
  never : (Y : ℕ → Bool) → IsWithin M.rows (with_one B f) Y → Free p prime M Y → ⊥
  never Y inside free = dep (free-independent p prime M (with_one B f) (free-within p prime M (with_one B f) Y inside free))

  -- where x is not in B, B stays without x
  beside : (z : ℕ) → B z ≡ false → IsWithin M.rows (with_one B f) (with_one (without C z) f)
  beside z out = grown-within M.rows B (without C z) f (λ j jl h. member-without C z j (within j jl h) (λ q. differ out (subst (λ i. B i ≡ true) q h)))

  pub circuit-grows : IsInCircuit p M B f x → IsInCircuit p M C f x
  circuit-grows (inl q) = inl q
  circuit-grows (inr (h, free)) = inr (
    within x xl h,
    free-independent p prime M (with_one (without C x) f)
        (go (swap M.rows (Free p prime M) (equations p prime M big) C (with_one (without B x) f) f fl new (independent-free p prime M C ind)
        (λ grown. never (with_one C f) (grown-within M.rows B C f within) grown)
        (grown-within M.rows (without B x) C f (λ j jl g. within j jl (without-member B x j g).0)) (with_one-new (without B x) f)
        (independent-free p prime M (with_one (without B x) f) free))),
  )
    where
      go : (z : ℕ) × (z < M.rows) × (C z ≡ true) × (with_one (without B x) f z ≡ false) × Free p prime M (with_one (without C z) f) →
          Free p prime M (with_one (without C x) f)
      go (z, zl, cz, out, grown) = elim (nat_cases z x) [
        | inl q ↦ subst (λ i. Free p prime M (with_one (without C i) f)) q grown
        | inr ne ↦ absurd (never (with_one (without C z) f)
            (beside z (not_true (B z) (λ b. differ out (with_one-member (without B x) f z (member-without B x z b ne))))) grown)
      ]

  pub circuit-shrinks : IsInCircuit p M C f x → IsInCircuit p M B f x
  circuit-shrinks (inl q) = inl q
  circuit-shrinks (inr (h, free)) = at (B x) refl
    where
      whole : Free p prime M (with_one (without C x) f)
      whole = independent-free p prime M (with_one (without C x) f) free

      at : (b : Bool) → B x ≡ b → IsInCircuit p M B f x
      at false b = absurd (never (with_one (without C x) f) (beside x b) whole)
      at true b = inr (
        b,
        free-independent p prime M (with_one (without B x) f)
            (free-within p prime M (with_one (without B x) f) (with_one (without C x) f)
            (grown-within M.rows (without B x) (without C x) f (λ j jl g. let (bj, ne) = without-member B x j g in member-without C x j (within j jl bj) ne))
            whole),
      )
