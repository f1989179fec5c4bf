-- The pair of a layered matrix that gains and loses rows and empty columns.
use Rattle.std.specs.Prelude.{ℕ, ◌+◌, ◌≤◌, ◌≡◌, ◌<◌, ◌%◌, false, Option, Some, None, List, length, slice_index}
use Rattle.residue_theory.specs.Sets.{IsApart}
use Rattle.dense_q.specs.Tables.{Table, entry}
use Rattle.sparse_t.specs.Incidences.{incidence_rows, touches}
use Rattle.bipartite_matching.specs.Matchings.{Matching}
use Rattle.row_transform.specs.Edits.{Room}
use Rattle.row_transform.specs.Tableaus.{TableauState}
use Rattle.mixed_matrices.specs.LayeredMatrices.{AreSameLayers, LayeredMatrix}
use Rattle.mixed_edit_laws.specs.Changes.{IsWiderLayers}
use Rattle.mixed_edit_laws.specs.Removed.{IsEmptyColumnOut, IsQRowOut, IsTRowOut}
use Rattle.independent_matching.specs.declared.places.EquationPlaces.{EquationPlaces}
use Rattle.independent_matching.specs.declared.places.Places.{Places}
use Rattle.independent_matching.specs.Sides.{is_matched, layers_of, size_of}

-- the tableau and the matching have the layered matrix L, its Q modulo p, and at least `least` columns in the base or
-- matched, none of them both
pub record IsEdited (p : ℕ) (L : LayeredMatrix) (least : ℕ) (S : TableauState) (M : Matching) : Type 0 where
  pub same : AreSameLayers p (layers_of S M) L
  pub width : M.pattern.width ≡ S.columns
  pub apart : IsApart S.columns S.base (is_matched M)
  pub size : least ≤ size_of S M

-- K is L without the Q row that is told, if one is
abbrev pub IsQRowOutAt : ℕ → Option ℕ → LayeredMatrix → LayeredMatrix → Type 0
IsQRowOutAt p None L K = AreSameLayers p L K
IsQRowOutAt p (Some e) L K = IsQRowOut p L K e

-- K is L without the T row that is told, if one is
abbrev pub IsTRowOutAt : ℕ → Option ℕ → LayeredMatrix → LayeredMatrix → Type 0
IsTRowOutAt p None L K = AreSameLayers p L K
IsTRowOutAt p (Some e) L K = IsTRowOut p L K e

-- K is L without the empty column that is told, if one is
abbrev pub IsColumnOutAt : ℕ → Option ℕ → LayeredMatrix → LayeredMatrix → Type 0
IsColumnOutAt p None L K = AreSameLayers p L K
IsColumnOutAt p (Some v) L K = IsEmptyColumnOut p L K v

-- K is L without an equation: its Q row, then its T row, then its auxiliary column, which is empty then
pub record IsThinned (p : ℕ) (L K : LayeredMatrix) (at : EquationPlaces) : Type 0 where
  pub without_q : LayeredMatrix
  pub without_t : LayeredMatrix
  pub q : IsQRowOutAt p at.q L without_q
  pub t : IsTRowOutAt p at.t without_q without_t
  pub column : IsColumnOutAt p at.column without_t K

-- L loses an equation, gains empty columns behind its unknowns, and an equation, and is K then
pub record IsChain (p : ℕ) (L K : LayeredMatrix) (at : Places) : Type 0 where
  pub before : LayeredMatrix
  pub after : LayeredMatrix
  pub out : IsThinned p L before at.out
  pub wider : IsWiderLayers before after at.unknowns at.unknowns_after
  pub unknowns : at.unknowns ≤ at.unknowns_after
  pub unknowns_before : at.unknowns ≤ before.columns
  pub put : IsThinned p K after at.put

-- K is L with empty columns in between, its Q modulo p: behind u unknowns, up to column w
pub record IsWidened (p : ℕ) (L K : LayeredMatrix) (u w : ℕ) : Type 0 where
  pub q_rows : K.q_rows ≡ L.q_rows
  pub t_rows : K.t_rows ≡ L.t_rows
  pub columns : K.columns + u ≡ L.columns + w
  pub q : (i j : ℕ) → i < L.q_rows → j < u → K.q i j % p ≡ L.q i j % p
  pub t : (i j : ℕ) → i < L.t_rows → j < u → K.t i j ≡ L.t i j
  pub q_behind : (i k : ℕ) → i < L.q_rows → u + k < L.columns → K.q i (w + k) % p ≡ L.q i (u + k) % p
  pub t_behind : (i k : ℕ) → i < L.t_rows → u + k < L.columns → K.t i (w + k) ≡ L.t i (u + k)
  pub q_empty : (i j : ℕ) → i < L.q_rows → u ≤ j → j < w → K.q i j % p ≡ 0
  pub t_empty : (i j : ℕ) → i < L.t_rows → u ≤ j → j < w → K.t i j ≡ false

-- there is room for so many Q rows, T rows and columns
pub record HasPairRoom (q_rows t_rows columns : ℕ) (room : Room) (M : Matching) : Type 0 where
  pub rows_of_q : q_rows ≤ room.rows
  pub columns_of_q : columns ≤ room.columns
  pub rows_of_t : t_rows ≤ M.row_room
  pub columns_of_t : columns ≤ M.column_room

-- there is as much room as before
abbrev pub KeepsRoom : Room → Room → Matching → Matching → Type 0
KeepsRoom room now M N = (now ≡ room) × (N.row_room ≡ M.row_room) × (N.column_room ≡ M.column_room)

-- column v is empty in Q and in T
pub record IsEmptyColumnAt (p : ℕ) (S : TableauState) (M : Matching) (v : ℕ) : Type 0 where
  pub below : v < S.columns
  pub q : (i : ℕ) → i < S.rows → S.q i v % p ≡ 0
  pub t : (i : ℕ) → i < incidence_rows M.pattern → touches M.pattern i v ≡ false

-- the numbers are row i of the table
pub record AreRowItems (q : Table) (i : ℕ) (numbers : List ℕ) : Type 0 where
  pub count : length numbers ≡ q.width
  pub items : (j : ℕ) → j < q.width → slice_index numbers j ≡ entry q i j

-- a pair that is edited: L loses an equation and is K then
pub record IsTakingOut (p : ℕ) (at : EquationPlaces) (S : TableauState) (M : Matching) : Type 0 where
  pub L : LayeredMatrix
  pub K : LayeredMatrix
  pub least : ℕ
  pub thinned : IsThinned p L K at
  pub edited : IsEdited p L least S M

-- a pair that is edited: it is to gain an equation, and to be K then
pub record IsPuttingIn (p : ℕ) (K : LayeredMatrix) (at : EquationPlaces) (S : TableauState) (M : Matching)
    : Type 0 where
  pub L : LayeredMatrix
  pub least : ℕ
  pub thinned : IsThinned p K L at
  pub edited : IsEdited p L least S M

-- a pair that is edited: it follows the places, and is K then
pub record IsFollowing (p : ℕ) (K : LayeredMatrix) (at : Places) (S : TableauState) (M : Matching) : Type 0 where
  pub L : LayeredMatrix
  pub least : ℕ
  pub chain : IsChain p L K at
  pub edited : IsEdited p L least S M
