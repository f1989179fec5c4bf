-- Values of a layered matrix: those that stand for values of its model, and those that differ by multiples of T rows.
use Rattle.std.specs.Prelude.{ℕ, ◌+◌, ◌*◌, ◌<◌, ◌≡◌, ◌≢◌, ◌%◌, ◌⊎◌, true}
use Rattle.mixed_matrices.specs.Models.{MixedMatrix}
use Rattle.mixed_matrices.specs.LayeredMatrices.{LayeredMatrix}
use Rattle.mixed_matrices.specs.Layerings.{Origins}

-- w stands for the values v of the model: v at the unknowns, and -1 where a T row meets its auxiliary column
pub record AreValuesFor (p : ℕ) (M : MixedMatrix) (L : LayeredMatrix) (O : Origins) (v w : ℕ → ℕ → ℕ) : Type 0 where
  pub unknown : (i j : ℕ) → i < L.t_rows → j < M.columns → w i j % p ≡ v (O.of_t i) j % p
  pub auxiliary : (i k : ℕ) → i < L.t_rows → k < O.split → O.of_t i ≡ O.of_z k → (w i (M.columns + k) + 1) % p ≡ 0

-- w is not zero where a T row meets its auxiliary column
abbrev pub AreFreeOfZeros : ℕ → MixedMatrix → LayeredMatrix → Origins → (ℕ → ℕ → ℕ) → Type 0
AreFreeOfZeros p M L O w = (i k : ℕ) → i < L.t_rows → k < O.split → O.of_t i ≡ O.of_z k → w i (M.columns + k) % p ≢ 0

-- at the symbols of each T row i, u is f i times w, and f i is not zero
pub record AreScaledValues (p : ℕ) (L : LayeredMatrix) (f : ℕ → ℕ) (w u : ℕ → ℕ → ℕ) : Type 0 where
  pub not_zero : (i : ℕ) → i < L.t_rows → f i % p ≢ 0
  pub symbol : (i j : ℕ) → i < L.t_rows → j < L.columns → L.t i j ≡ true → u i j % p ≡ f i * w i j % p

abbrev pub IsOneOrTwo : ℕ → Type 0
IsOneOrTwo x = (x ≡ 1) ⊎ (x ≡ 2)
