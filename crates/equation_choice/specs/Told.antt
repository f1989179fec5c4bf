-- The equations that rows tell, as marks.
use Rattle.std.specs.Prelude.{ℕ, ◌-◌, ◌<◌, ◌≤◌, ◌≡◌, ◌≢◌, ◌%◌, ◌⊎◌, ◌↔◌, Bool, true, false, List, length, slice_index}
use Rattle.std.specs.Prelude.{Option, Some}
use Rattle.mixed_matrices.specs.Layerings.{has_symbol}
use Rattle.mixed_model.specs.Layers.{Layers}
use Rattle.mixed_model.specs.Models.{mixed_matrix_of}
use Rattle.bipartite_matching.specs.Matchings.{Matching}
use Rattle.exchange_graph.specs.Marks.{members_of}
use Rattle.row_transform.specs.Tableaus.{TableauState}
use Rattle.independent_matching.specs.Sides.{layers_of, tableau_of_pair}
use Rattle.equation_matroid_laws.specs.Conflicts.{IsInCircuit}
use Rattle.equation_choice.specs.Choosers.{WhereKept, first_place}
use Rattle.equation_choice.specs.Pairs.{place_held}

-- the numbers of A are marked now, beside what was marked
pub record AddsMarks (A : ℕ → Type 0) (old now : List Bool) : Type 0 where
  pub count : length now ≡ length old
  pub tells : (x : ℕ) → (members_of now x ≡ true) ↔ ((members_of old x ≡ true) ⊎ A x)

-- equation x is told by the row: it is that of the T row, or has no symbols and a Q row with which the Q row is made
abbrev pub IsToldByRow : ℕ → Layers → TableauState → List Bool → ℕ → ℕ → Type 0
IsToldByRow p l S symbols row x =
    ((row < S.rows) × (k : ℕ) × (k < S.rows) × (S.s row k % p ≢ 0) × (slice_index l.q_origins k ≡ x)
    × (members_of symbols x ≡ false))
    ⊎ ((S.rows ≤ row) × (slice_index l.t_origins (row - S.rows) ≡ x))

-- it is told by the row of column y, which is one of X
abbrev pub IsToldByColumn : ℕ → Layers → TableauState → Matching → List Bool → (ℕ → Bool) → ℕ → ℕ → Type 0
IsToldByColumn p l S M symbols X y x =
    (row : ℕ) × (X y ≡ true) × (place_held (layers_of S M) (tableau_of_pair S M) y ≡ Some row)
    × IsToldByRow p l S symbols row x

-- or of some column below n
abbrev pub IsToldByReached : ℕ → Layers → TableauState → Matching → List Bool → (ℕ → Bool) → ℕ → ℕ → Type 0
IsToldByReached p l S M symbols X n x = (y : ℕ) × (y < n) × IsToldByColumn p l S M symbols X y x

-- after a try in vain that reached X: it is the equation that tried, or is told by its first row or by that of a column
-- of X
abbrev pub IsToldByTry : ℕ → Layers → TableauState → Matching → List Bool → (ℕ → Bool) → (q t : Option ℕ) → ℕ →
    ℕ → Type 0
IsToldByTry p l S M symbols X q t e x =
    (x ≡ e) ⊎ ((row : ℕ) × (first_place S.rows q t ≡ Some row) × IsToldByRow p l S symbols row x)
    ⊎ IsToldByReached p l S M symbols X S.columns x

-- the marks tell the circuit of equation e in what is kept, where `symbols` marks the equations with symbols
abbrev pub TellsCircuit : ℕ → Layers → TableauState → Matching → List Bool → List Bool → ℕ → Type 0
TellsCircuit p l S M symbols told e = WhereKept p l S M e (λ model split K.
    ((x : ℕ) → x < length model.equations → members_of symbols x ≡ has_symbol (mixed_matrix_of model) x) →
    (x : ℕ) → x < length model.equations → (members_of told x ≡ true) ↔ IsInCircuit p (mixed_matrix_of model) K e x)
