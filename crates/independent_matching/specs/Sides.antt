-- A tableau of Q and a matching in T, read as a tableau of the layered matrix of Q and T.
use Rattle.std.specs.Prelude.{ℕ, ◌+◌, ◌<◌, ◌≡◌, ◌≢◌, ◌%◌, ◌&&◌, ◌↔◌, Bool, eqb, not, true, false, Option, Some, None, cond, is_some, unwrap_or}
use Rattle.linear_algebra.specs.Bases.{HasNoBase}
use Rattle.sparse_t.specs.Incidences.{incidence_rows, touches}
use Rattle.bipartite_matching.specs.Matchings.{Matching, mate_at}
use Rattle.row_transform.specs.Tableaus.{TableauState, IsBare, has_entry}
use Rattle.mixed_matrices.specs.Arcs.{is_free}
use Rattle.mixed_matrices.specs.LayeredMatrices.{LayeredMatrix}
use Rattle.mixed_matrices.specs.Pairs.{pair_size}
use Rattle.mixed_matrices.specs.Tableaus.{Tableau}
use Rattle.mixed_augmentation_laws.specs.Moves.{TakesRow, TakesMate, Route, IsStage}
use Rattle.mixed_augmentation_laws.specs.Sealed.{KeepsSealed}
use Rattle.independent_matching.specs.declared.row.Row.{Row}
use Rattle.independent_matching.specs.declared.row.Row.TheVariants.{Q, T}

abbrev pub is_matched : Matching → ℕ → Bool
is_matched M j = is_some (mate_at M j)

-- the row of the matched column j
abbrev pub mate_of : Matching → ℕ → ℕ
mate_of M j = unwrap_or (mate_at M j) 0

-- no column is matched with the T row
abbrev pub HasNoMate : Matching → ℕ → Type 0
HasNoMate M row = HasNoBase M.pattern.width (is_matched M) (mate_of M) row

-- x leads to another column y by the T row of y
abbrev pub t_arc : Matching → ℕ → ℕ → Bool
t_arc M x y = not (eqb x y) && (is_matched M y && touches M.pattern (mate_of M y) x)

-- x leads to another column y by the Q row of y
abbrev pub q_arc : ℕ → TableauState → ℕ → ℕ → Bool
q_arc p S x y = not (eqb x y) && (S.base y && has_entry p S (S.row y) x)

-- no column has the Q row, and P has an entry in it in x
pub record IsFreeQRow (p : ℕ) (S : TableauState) (x row : ℕ) : Type 0 where
  pub below : row < S.rows
  pub entry : S.p row x % p ≢ 0
  pub bare : IsBare S row

-- no column has the T row, and it touches x
pub record IsFreeTRow (M : Matching) (x row : ℕ) : Type 0 where
  pub below : row < incidence_rows M.pattern
  pub touching : touches M.pattern row x ≡ true
  pub loose : HasNoMate M row

-- the layered matrix of Q and T
abbrev pub layers_of : TableauState → Matching → LayeredMatrix
layers_of S M = record {
  q_rows = S.rows;
  t_rows = incidence_rows M.pattern;
  columns = S.columns;
  q = S.q;
  t = λ i j. touches M.pattern i j;
}

-- how many columns Q and T have, where they have the same; else none is common to them
abbrev pub common_columns : TableauState → Matching → ℕ
common_columns S M = cond (eqb S.columns M.pattern.width) S.columns 0

-- the tableau of the base columns and of the matched ones
abbrev pub tableau_of_pair : TableauState → Matching → Tableau
tableau_of_pair S M = record {
  P = S.p;
  base = S.base;
  row = S.row;
  matched = is_matched M;
  mate = mate_of M;
}

abbrev pub size_of : TableauState → Matching → ℕ
size_of S M = pair_size (layers_of S M) S.base (is_matched M)

-- whether it is a Q row
abbrev pub in_q : Row → Bool
in_q (Q row) = true
in_q (T row) = false

abbrev pub number : Row → ℕ
number (Q row) = row
number (T row) = row

-- the row that column x has
abbrev pub row_had : Tableau → ℕ → Option Row
row_had F x = cond (F.base x) (Some (Q (F.row x))) (cond (F.matched x) (Some (T (F.mate x))) None)

-- column x may take the row: a Q row where it has an entry, or a T row that touches it and has no column
pub record CanTake (p : ℕ) (L : LayeredMatrix) (F : Tableau) (row : Row) (x : ℕ) : Type 0 where
  pub of_q : in_q row ≡ true → (number row < L.q_rows) × (F.P (number row) x % p ≢ 0) × (F.base x ≡ false)
  pub of_t : in_q row ≡ false → (number row < L.t_rows) × (L.t (number row) x ≡ true)
      × HasNoBase L.columns F.matched F.mate (number row)

-- column x has taken the row, and G is the tableau after that
pub record Takes (p : ℕ) (L : LayeredMatrix) (F G : Tableau) (row : Row) (x : ℕ) : Type 0 where
  pub of_q : in_q row ≡ true → TakesRow p L F G (number row) x
  pub of_t : in_q row ≡ false → TakesMate L F G (number row) x

-- column x has taken the row, in the same layered matrix
pub record HasTaken (p : ℕ) (S S' : TableauState) (M M' : Matching) (row : Row) (x : ℕ) : Type 0 where
  pub takes : Takes p (layers_of S M) (tableau_of_pair S M) (tableau_of_pair S' M') row x
  pub layers : layers_of S' M' ≡ layers_of S M
  pub pattern : M'.pattern ≡ M.pattern

-- the first `left` columns of the route have still to move, and `next` is the row that the last of them takes, if there
-- is one; S₀ and M₀ are from before all moves
pub record IsMoving (p : ℕ) (S₀ : TableauState) (M₀ : Matching) (R : Route) (S : TableauState) (M : Matching)
    (next : Option Row)
    (left : ℕ) : Type 0 where
  pub layers : layers_of S M ≡ layers_of S₀ M₀
  pub width : M.pattern.width ≡ M₀.pattern.width
  pub stage : IsStage p (layers_of S₀ M₀) (tableau_of_pair S₀ M₀) R left (tableau_of_pair S M)
  pub none : left ≡ 0 → next ≡ None
  pub some : (j : ℕ) → j + 1 ≡ left → (row : Row) × (next ≡ Some row) × (in_q row ≡ R.in_q j) × (number row ≡ R.row j)

-- the rows without mate are those from before, but for the given row where that is a T row
abbrev pub AreRowsLeft : Matching → Matching → Row → Type 0
AreRowsLeft M now given = (row : ℕ) → HasNoMate now row ↔ (HasNoMate M row × (given ≢ T row))

-- while the columns of a walk move, with `next` as the row that is taken next: with it taken, the rows without mate are
-- those from before all moves, but for the last row of the walk
abbrev pub AreRowsMoving : Matching → Row → Matching → Option Row → Type 0
AreRowsMoving M₀ end M next = (row : ℕ) → (HasNoMate M row × (next ≢ Some (T row))) ↔ (HasNoMate M₀ row × (end ≢ T row))

-- x is free no more, and each other one of the columns as before
pub record IsFreeTaken (columns : ℕ) (F G : Tableau) (x : ℕ) : Type 0 where
  pub here : is_free G x ≡ false
  pub others : (y : ℕ) → y < columns → y ≢ x → is_free G y ≡ is_free F y

-- the pair has gained the column `first`, along a walk that took the row `end`, and the columns from which no end was
-- reached have stayed
pub record HasGained (p : ℕ) (S S' : TableauState) (M M' : Matching) (first : ℕ) (end : Row) : Type 0 where
  pub layers : layers_of S' M' ≡ layers_of S M
  pub size : size_of S' M' ≡ size_of S M + 1
  pub rows : AreRowsLeft M M' end
  pub taken : IsFreeTaken S.columns (tableau_of_pair S M) (tableau_of_pair S' M') first
  pub sealed : KeepsSealed p (layers_of S M) (tableau_of_pair S M) (tableau_of_pair S' M')
