-- The arcs between the columns of a printed form, its free columns and its ends.
use Rattle.std.specs.Prelude.{ℕ, ◌<◌, ◌≡◌, ◌↔◌, Bool, true, List, length}
use Rattle.mixed_matrices.specs.Arcs.{is_end, is_free, leads_to}
use Rattle.mixed_matrices.specs.LayeredMatrices.{LayeredMatrix}
use Rattle.cert_text.specs.Contents.{Contents}
use Rattle.cert_text.specs.Readings.{matrix_of, pattern_of, tableau_of}
use Rattle.part_rules.specs.Listed.{AreArcs, arc_in, marked}

-- the printed rows: those of P, and the T lines
abbrev pub printed_rows : Contents → LayeredMatrix
printed_rows c = record {
  q_rows = c.shape.q_rows;
  t_rows = c.shape.t_rows;
  columns = c.shape.columns;
  q = matrix_of c.p;
  t = pattern_of c.t;
}

-- arcs, marks of free columns and marks of ends are those of the form
pub record AreArcsOf (p : ℕ) (c : Contents) (arcs : List (ℕ × ℕ)) (free ends : List Bool) : Type 0 where
  pub within : AreArcs c.shape.columns arcs
  pub lead : (x y : ℕ) → x < c.shape.columns → y < c.shape.columns →
      (arc_in arcs x y ≡ true) ↔ (leads_to p (printed_rows c) (tableau_of c) x y ≡ true)
  pub free_count : length free ≡ c.shape.columns
  pub starts : (x : ℕ) → x < c.shape.columns → (marked free x ≡ true) ↔ (is_free (tableau_of c) x ≡ true)
  pub end_count : length ends ≡ c.shape.columns
  pub stops : (x : ℕ) → x < c.shape.columns →
      (marked ends x ≡ true) ↔ (is_end p (printed_rows c) (tableau_of c) x ≡ true)
