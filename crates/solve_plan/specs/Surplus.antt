-- What the last tail of a form tells of the equations of a model.
use Rattle.std.specs.Prelude.{ℕ, ◌<◌, ◌≡◌, ◌⊎◌, length, map, slice_index}
use Rattle.std.specs.List.{All}
use Rattle.dense_q.specs.Tables.{height}
use Rattle.mixed_model.specs.Layers.{Layers}
use Rattle.cert_text.specs.Contents.{Contents}
use Rattle.part_arcs.specs.Marking.{first_numbers, row_of_lists}
use Rattle.solve_plan.specs.Marks.{IsItem, OfSome}

-- a T row of the last tail comes from equation x
abbrev pub IsOfLast : Layers → Contents → ℕ → Type 0
IsOfLast layers c x =
    OfSome (length c.last.t_rows) (λ k y. slice_index layers.t_origins (slice_index c.last.t_rows k) ≡ y) x

-- S has an entry in column e of a Q row of the last tail
abbrev pub IsUsedLast : Contents → ℕ → Type 0
IsUsedLast c e = OfSome (length c.last.q_rows) (λ k. IsItem (row_of_lists (map first_numbers c.s)
    (slice_index c.last.q_rows k))) e

-- equation x has no T row, and its Q row is used so
abbrev pub IsMadeWith : Layers → Contents → ℕ → Type 0
IsMadeWith layers c x = OfSome (height layers.q)
    (λ e y. (slice_index layers.q_origins e ≡ y) × IsUsedLast c e × (IsItem layers.t_origins y → ⊥)) x

-- the form tells that equation x is surplus
abbrev pub IsToldSurplus : Layers → Contents → ℕ → Type 0
IsToldSurplus layers c x = IsOfLast layers c x ⊎ IsMadeWith layers c x

-- the form has the rows of these layers, and the rows come from its equations
pub record FitsForm (layers : Layers) (c : Contents) : Type 0 where
  pub q_rows : height layers.q ≡ c.shape.q_rows
  pub t_rows : length layers.t.rows ≡ c.shape.t_rows
  pub q_origins : All (λ equation. equation < c.shape.equations) layers.q_origins
  pub t_origins : All (λ equation. equation < c.shape.equations) layers.t_origins
