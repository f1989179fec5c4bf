-- Laws of a matrix with one entry changed.
use Rattle.std.specs.Prelude.{ℕ, ◌+◌, ◌<◌, ◌⊎◌, Bool}
use Rattle.residue_theory.specs.Residues.{IsPrime}
use Rattle.linear_algebra.specs.Columns.{IsIndependent}
use Rattle.linear_algebra.specs.Parts.{with_entry}

-- whatever stands at a place, one of x and x + 1 there keeps columns independent
abbrev pub OneOfTwoNeighboursKeepsIndependence : Type 0
OneOfTwoNeighboursKeepsIndependence =
    (p : ℕ) → IsPrime p → (m n : ℕ) (a : ℕ → ℕ → ℕ) (r v : ℕ) (Y : ℕ → Bool) (x : ℕ) → r < m →
    IsIndependent p a m n Y →
    IsIndependent p (with_entry a r v x) m n Y ⊎ IsIndependent p (with_entry a r v (x + 1)) m n Y
