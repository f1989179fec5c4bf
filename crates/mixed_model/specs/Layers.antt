-- Layered matrices as data, and the layered mixed matrix of the theory that such data give.
use Rattle.std.specs.Prelude.{ℕ, ◌≡◌, Bool, true, false, List, length}
use Rattle.std.specs.List.{count_by}
use Rattle.dense_q.specs.Tables.{Table, height, entry}
use Rattle.sparse_t.specs.Incidences.{Incidence, touches}
use Rattle.mixed_matrices.specs.LayeredMatrices.{LayeredMatrix}
use Rattle.mixed_model.specs.declared.origin.Origin.{Origin}
use Rattle.mixed_model.specs.declared.origin.Origin.TheVariants.{Unknown, Split}

-- The constants, the places of symbols, the equation of each Q row and of each T row, and the origin of each column.
pub record Layers : Type 0 where
  pub q : Table
  pub t : Incidence
  pub q_origins : List ℕ
  pub t_origins : List ℕ
  pub column_origins : List Origin

-- Both parts have the same columns, and each row and each column has its origin.
pub record AreLayers (layers : Layers) : Type 0 where
  pub same_columns : layers.t.width ≡ layers.q.width
  pub q_origins : length layers.q_origins ≡ height layers.q
  pub t_origins : length layers.t_origins ≡ length layers.t.rows
  pub column_origins : length layers.column_origins ≡ layers.q.width

-- the layered mixed matrix of the data
abbrev pub layered_matrix_of : Layers → LayeredMatrix
layered_matrix_of layers = record {
  q_rows = height layers.q;
  t_rows = length layers.t.rows;
  columns = layers.q.width;
  q = entry layers.q;
  t = touches layers.t;
}

-- whether a column is auxiliary
abbrev pub is_split : Origin → Bool
is_split (Unknown unknown) = false
is_split (Split equation) = true

-- how many columns are auxiliary
abbrev pub split_of : Layers → ℕ
split_of layers = count_by is_split layers.column_origins
