-- Rising lists of the numbers that are marked.
use Rattle.std.specs.Prelude.{ℕ, ◌<◌, ◌≡◌, ◌↔◌, Bool, true, List}
use Rattle.std.specs.List.Sorted.{IsStrictlyIncreasing}
use Rattle.residue_theory.specs.Sets.{has}

-- the list holds, rising, exactly the numbers of A below n
pub record AreMarkedBelow (A : ℕ → Bool) (n : ℕ) (list : List ℕ) : Type 0 where
  pub rising : IsStrictlyIncreasing list
  pub exact : (i : ℕ) → (has list i ≡ true) ↔ ((i < n) × (A i ≡ true))
