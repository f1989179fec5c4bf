-- Pairs: columns independent in Q, and other columns matched in T (Murota, chapter 2, independent matching).
use Rattle.std.specs.Prelude.{ℕ, ◌+◌, ◌<◌, ◌≤◌, ◌≡◌, Bool, true, cond, eqb, ◌&&◌}
use Rattle.residue_theory.specs.Sets.{IsApart}
use Rattle.residue_theory.specs.Sums.{size_on}
use Rattle.linear_algebra.specs.Columns.{IsIndependent}
use Rattle.mixed_matrices.specs.LayeredMatrices.{LayeredMatrix}

-- each column of J has a symbol at its mate, a T row of its own
pub record IsMatching (L : LayeredMatrix) (J : ℕ → Bool) (mate : ℕ → ℕ) : Type 0 where
  pub below : (j : ℕ) → j < L.columns → J j ≡ true → mate j < L.t_rows
  pub symbol : (j : ℕ) → j < L.columns → J j ≡ true → L.t (mate j) j ≡ true
  pub distinct : (j k : ℕ) → j < L.columns → k < L.columns → J j ≡ true → J k ≡ true → mate j ≡ mate k → j ≡ k

-- columns I independent in Q, columns J matched in T, and no column in both
pub record IsPair (p : ℕ) (L : LayeredMatrix) (I J : ℕ → Bool) (mate : ℕ → ℕ) : Type 0 where
  pub independent : IsIndependent p L.q L.q_rows L.columns I
  pub matching : IsMatching L J mate
  pub apart : IsApart L.columns I J

abbrev pub pair_size : LayeredMatrix → (ℕ → Bool) → (ℕ → Bool) → ℕ
pair_size L I J = size_on I L.columns + size_on J L.columns

-- no pair is larger
abbrev pub IsBest : ℕ → LayeredMatrix → (ℕ → Bool) → (ℕ → Bool) → Type 0
IsBest p L I J = (A B : ℕ → Bool) (mate : ℕ → ℕ) → IsPair p L A B mate → pair_size L A B ≤ pair_size L I J

-- the values of a matching: 1 where a column of J has its mate, and 0 elsewhere
abbrev pub matching_values : (ℕ → Bool) → (ℕ → ℕ) → ℕ → ℕ → ℕ
matching_values J mate i j = cond (J j && eqb (mate j) i) 1 0
