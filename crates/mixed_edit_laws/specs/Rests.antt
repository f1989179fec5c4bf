-- What is left of a layering without the rows and the auxiliary column of an equation.
use Rattle.std.specs.Prelude.{ℕ, ◌+◌, ◌-◌, Bool, ◌&&◌, cond}
use Rattle.residue_theory.specs.Sets.{both}
use Rattle.residue_theory.specs.Sums.{size_on}
use Rattle.linear_algebra.specs.Parts.{skip, unskip}
use Rattle.mixed_matrices.specs.LayeredMatrices.{LayeredMatrix}
use Rattle.mixed_matrices.specs.Layerings.{Origins}
use Rattle.mixed_matrices.specs.Models.{MixedMatrix}

-- the numbers in order, but for v where it is taken out
abbrev pub gap : Bool → ℕ → ℕ → ℕ
gap out v k = cond out (skip v k) k

-- how many go
abbrev pub one : Bool → ℕ
one out = cond out 1 0

-- a set of the numbers but e
abbrev pub set_without : ℕ → (ℕ → Bool) → ℕ → Bool
set_without e A i = A (skip e i)

-- the members of A without e, as places among the numbers but e; `at` lists those of A
abbrev pub listed_without : ℕ → (ℕ → Bool) → (ℕ → ℕ) → ℕ → ℕ
listed_without e A at k = unskip e (at (gap (A e) (size_on A e) k))

-- the place of the auxiliary column of equation e, where it is split
abbrev pub auxiliary_place : MixedMatrix → (ℕ → Bool) → (ℕ → Bool) → ℕ → ℕ
auxiliary_place M A D e = M.columns + size_on (both A D) e

-- L without the Q row of equation e, if it has one
abbrev pub q_rest : (ℕ → Bool) → ℕ → LayeredMatrix → LayeredMatrix
q_rest A e L = record {
  q_rows = L.q_rows - one (A e);
  t_rows = L.t_rows;
  columns = L.columns;
  q = λ i j. L.q (gap (A e) (size_on A e) i) j;
  t = L.t;
}

-- without its T row, if it has one
abbrev pub t_rest : (ℕ → Bool) → ℕ → LayeredMatrix → LayeredMatrix
t_rest D e L = record {
  q_rows = L.q_rows;
  t_rows = L.t_rows - one (D e);
  columns = L.columns;
  q = L.q;
  t = λ i j. L.t (gap (D e) (size_on D e) i) j;
}

-- without a column, if it goes
abbrev pub column_rest : Bool → ℕ → LayeredMatrix → LayeredMatrix
column_rest out v L = record {
  q_rows = L.q_rows;
  t_rows = L.t_rows;
  columns = L.columns - one out;
  q = λ i j. L.q i (gap out v j);
  t = λ i j. L.t i (gap out v j);
}

-- without all of them
abbrev pub rest : MixedMatrix → (ℕ → Bool) → (ℕ → Bool) → ℕ → LayeredMatrix → LayeredMatrix
rest M A D e L = column_rest (A e && D e) (auxiliary_place M A D e) (t_rest D e (q_rest A e L))

abbrev pub rest_origins : (ℕ → Bool) → (ℕ → Bool) → ℕ → Origins → Origins
rest_origins A D e O = record {
  of_q = listed_without e A O.of_q;
  of_t = listed_without e D O.of_t;
  of_z = listed_without e (both A D) O.of_z;
  split = O.split - one (A e && D e);
}
