-- A tableau of Q and a matching in T, by the rows that columns have. The rows of Q come first, and then those of T.
use Rattle.std.specs.Prelude.{ℕ, ◌+◌, ◌-◌, ◌<◌, ◌≤◌, ◌≡◌, ◌≢◌, ◌%◌, ◌&&◌, Bool, true, false, cond, eqb, not}
use Rattle.std.specs.Prelude.{Option, Some, None}
use Rattle.residue_theory.specs.Sets.{some_below, with_one}
use Rattle.dense_q.specs.Tables.{entry}
use Rattle.linear_algebra.specs.Bases.{HasNoBase}
use Rattle.mixed_matrices.specs.LayeredMatrices.{LayeredMatrix}
use Rattle.mixed_matrices.specs.Layerings.{Origins}
use Rattle.mixed_matrices.specs.Models.{MixedMatrix}
use Rattle.mixed_matrices.specs.Tableaus.{IsTableau, Tableau}
use Rattle.mixed_augmentation_laws.specs.Moves.{TakesMate, TakesRow}
use Rattle.mixed_model.specs.Layers.{Layers, layered_matrix_of}
use Rattle.bipartite_matching.specs.Matchings.{Matching}
use Rattle.row_transform.specs.Edits.{KeepsZeroColumns}
use Rattle.row_transform.specs.Tableaus.{TableauState}
use Rattle.independent_matching.specs.Engines.{AreOpenedEntries, layers}
use Rattle.independent_matching.specs.Sides.{is_matched, layers_of, tableau_of_pair}
use Rattle.row_choice_laws.specs.ColumnSearches.{rows_along}
use Rattle.row_choice_laws.specs.Growth.{IsRowStage, route_back}
use Rattle.row_choice_laws.specs.RowSearches.{IsJoining}
use Rattle.row_choice_laws.specs.States.{IsSameOutside}

-- the row that column x has, if it has one
abbrev pub place_held : LayeredMatrix → Tableau → ℕ → Option ℕ
place_held L F x = cond (F.base x) (Some (F.row x)) (cond (F.matched x) (Some (L.q_rows + F.mate x)) None)

-- how many columns Q and T have, where they have the same and no column is both in the base and matched; else none is
-- common to them
abbrev pub apart_columns : TableauState → Matching → ℕ
apart_columns S M =
    cond (eqb S.columns M.pattern.width && not (some_below S.columns (λ x. S.base x && is_matched M x))) S.columns 0

-- no column below n with an entry is free
abbrev pub HasNoFree : ℕ → (ℕ → Bool) → (ℕ → Bool) → Type 0
HasNoFree n has free = (x : ℕ) → x < n → has x ≡ true → free x ≡ true → ⊥

-- column x may take the row: a Q row where it has an entry, or a T row that touches it and that no column has
pub record CanTakePlace (p : ℕ) (L : LayeredMatrix) (F : Tableau) (row x : ℕ) : Type 0 where
  pub of_q : row < L.q_rows → (F.P row x % p ≢ 0) × (F.base x ≡ false)
  pub of_t : L.q_rows ≤ row → (row - L.q_rows < L.t_rows) × (L.t (row - L.q_rows) x ≡ true)
      × HasNoBase L.columns F.matched F.mate (row - L.q_rows)

-- column x has taken the row, whatever q is the matrix Q
pub record HasTakenPlace (p : ℕ) (S S' : TableauState) (M M' : Matching) (row x : ℕ) : Type 0 where
  pub of_q : (q : ℕ → ℕ → ℕ) → row < S.rows →
      TakesRow p (layers q S M) (tableau_of_pair S M) (tableau_of_pair S' M') row x
  pub of_t : (q : ℕ → ℕ → ℕ) → S.rows ≤ row →
      TakesMate (layers q S M) (tableau_of_pair S M) (tableau_of_pair S' M') (row - S.rows) x
  pub layers : layers_of S' M' ≡ layers_of S M
  pub pattern : M'.pattern ≡ M.pattern
  pub columns_of_s : row < S.rows → KeepsZeroColumns p S.rows S.s S'.s row
  pub same_s : S.rows ≤ row → S'.s ≡ S.s

-- S and M are a tableau and a matching of the layered matrix
pub record IsPairOver (p : ℕ) (l : Layers) (S : TableauState) (M : Matching) : Type 0 where
  pub same : layers (entry l.q) S M ≡ layered_matrix_of l
  pub opened : AreOpenedEntries p S (entry l.q)
  pub width : M.pattern.width ≡ S.columns
  pub tableau : IsTableau p (layers (entry l.q) S M) S.s S.u (tableau_of_pair S M)

-- the pair has grown along a walk back from a row: that row has a column now, and where it is of an equation that
-- joins, S has stayed at all equations but those that are kept with it
pub record HasGrownBack (p : ℕ) (L : LayeredMatrix) (S S' : ℕ → ℕ → ℕ) (F F' : Tableau) (from : ℕ) (at : ℕ → ℕ) (k : ℕ)
    : Type 0 where
  pub rows : IsRowStage L F (route_back L (rows_along L F from at) at k) 0 F'
  pub same : (M : MixedMatrix) (A : ℕ → Bool) (O : Origins) (K : ℕ → Bool) (f : ℕ) → IsJoining p M A L O S F K f →
      (from < L.q_rows → O.of_q from ≡ f) → IsSameOutside p L O (with_one K f) S S'
