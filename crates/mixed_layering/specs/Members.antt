-- The members of a set, listed by rising number.
use Rattle.std.specs.Prelude.{ℕ, ◌<◌, ◌≤◌, Bool, List, length, slice_index}
use Rattle.std.specs.List.Sorted.{IsStrictlyIncreasing}
use Rattle.limits.specs.Limits.{equation_limit}
use Rattle.residue_theory.specs.Sets.{both}
use Rattle.mixed_matrices.specs.Models.{MixedMatrix}
use Rattle.mixed_matrices.specs.Layerings.{AreMembers, gives_q, has_symbol}

-- the list holds the members of A below n, rising
abbrev pub AreListed : (ℕ → Bool) → ℕ → List ℕ → Type 0
AreListed A n list = AreMembers A n (slice_index list) (length list)

-- of the first n equations of M those that give a Q row, those that give a T row, and those that are split
pub record AreRows (M : MixedMatrix) (n : ℕ) (of_q of_t of_z : List ℕ) : Type 0 where
  pub constants : AreListed (gives_q M) n of_q
  pub symbols : AreListed (has_symbol M) n of_t
  pub split : AreListed (both (gives_q M) (has_symbol M)) n of_z

-- numbers of equations, at most 4,096 of them
pub record AreEquations (n : ℕ) (list : List ℕ) : Type 0 where
  pub few : length list ≤ equation_limit
  pub below : (k : ℕ) → k < length list → slice_index list k < n

-- numbers of equations, rising
pub record AreSplit (n : ℕ) (list : List ℕ) : Type 0 where
  pub few : length list ≤ equation_limit
  pub rising : IsStrictlyIncreasing list
