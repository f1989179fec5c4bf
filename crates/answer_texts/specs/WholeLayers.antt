-- What the type of a layered matrix keeps.
use Rattle.dense_q.specs.Tables.{IsMatrix}
use Rattle.mixed_model.specs.Layers.{Layers, AreLayers}
use Rattle.sparse_t.specs.Incidences.{IsIncidence}

-- each row and each column has its origin, each row of constants has a number for each column, and the columns of
-- symbols rise
pub record AreWholeLayers (layers : Layers) : Type 0 where
  pub origins : AreLayers layers
  pub q : IsMatrix layers.q
  pub t : IsIncidence layers.t
