-- The turns of the columns that a column x leads to: first by T rows, in the order of the rows that touch x, and then
-- by Q rows, in the order of all Q rows.
use Rattle.std.specs.Prelude.{ℕ, ◌+◌, cond}
use Rattle.residue_theory.specs.Sums.{size_on}
use Rattle.sparse_t.specs.Incidences.{incidence_rows, touches}
use Rattle.bipartite_matching.specs.Matchings.{Matching}
use Rattle.row_transform.specs.Tableaus.{TableauState}
use Rattle.independent_matching.specs.Sides.{mate_of, t_arc}

-- how many of the T rows before this one touch x
abbrev pub t_rows_before : Matching → ℕ → ℕ → ℕ
t_rows_before M x row = size_on (λ i. touches M.pattern i x) row

-- the turn of y among the T rows that touch x
abbrev pub t_turn : Matching → ℕ → ℕ → ℕ
t_turn M x y = t_rows_before M x (mate_of M y)

-- how many T rows touch x
abbrev pub t_turns : Matching → ℕ → ℕ
t_turns M x = t_rows_before M x (incidence_rows M.pattern)

-- the turn of y, by its T row where x leads to it by that
abbrev pub turn_of : TableauState → Matching → ℕ → ℕ → ℕ
turn_of S M x y = cond (t_arc M x y) (t_turn M x y) (t_turns M x + S.row y)
