-- Layered mixed matrices: rows of constants alone above rows of symbols alone (Murota, chapter 4).
use Rattle.std.specs.Prelude.{ℕ, ◌<◌, ◌≡◌, Bool, ◌&&◌}
use Rattle.linear_algebra.specs.Products.{Agree}
use Rattle.linear_algebra.specs.Parts.{above, part}
use Rattle.mixed_matrices.specs.Models.{numbers}

-- Q has the constants and T the symbols; they have the same columns
pub record LayeredMatrix : Type 0 where
  pub q_rows : ℕ
  pub t_rows : ℕ
  pub columns : ℕ
  pub q : ℕ → ℕ → ℕ
  pub t : ℕ → ℕ → Bool

-- Q above T, with the numbers w for the symbols
abbrev pub layered_value : LayeredMatrix → (ℕ → ℕ → ℕ) → ℕ → ℕ → ℕ
layered_value L w = above L.q_rows L.q (numbers L.t w)

-- the part of the Q rows R, the T rows D and the columns X: no other place keeps its entry
abbrev pub layered_part : (ℕ → Bool) → (ℕ → Bool) → (ℕ → Bool) → LayeredMatrix → LayeredMatrix
layered_part R D X L = record {
  q_rows = L.q_rows;
  t_rows = L.t_rows;
  columns = L.columns;
  q = part R X L.q;
  t = λ i j. D i && X j && L.t i j;
}

-- L and K have the same sizes, the same constants modulo p, and the same symbols
pub record AreSameLayers (p : ℕ) (L K : LayeredMatrix) : Type 0 where
  pub q_rows : L.q_rows ≡ K.q_rows
  pub t_rows : L.t_rows ≡ K.t_rows
  pub columns : L.columns ≡ K.columns
  pub q : Agree p L.q_rows L.columns L.q K.q
  pub t : (i j : ℕ) → i < L.t_rows → j < L.columns → L.t i j ≡ K.t i j
