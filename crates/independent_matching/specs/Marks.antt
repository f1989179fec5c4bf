-- Marks of the free columns and of the ends, and what makes a column an end: those that rest while columns move, r, and
-- those that a pivot may change, m.
use Rattle.std.specs.Prelude.{ℕ, ◌+◌, ◌*◌, ◌<◌, ◌≤◌, ◌≡◌, ◌≢◌, ◌%◌, ◌||◌, Bool, true, false, List, Option, Some}
use Rattle.std.specs.Prelude.{None, is_some, length, slice_index, slice_index_or}
use Rattle.residue_theory.specs.Sums.{size_on}
use Rattle.bipartite_matching.specs.Matchings.{Matching}
use Rattle.row_transform.specs.Tableaus.{TableauState}
use Rattle.exchange_graph.specs.Marks.{members_of}
use Rattle.exchange_graph.specs.Results.{Found, vain_of}
use Rattle.exchange_graph.specs.Sweeps.{IsLeftOut}
use Rattle.mixed_matrices.specs.Arcs.{is_end, is_free, leads_to}
use Rattle.mixed_matrices.specs.Tableaus.{HasTableau}
use Rattle.independent_matching.specs.declared.marks.Marks.{Marks}
use Rattle.independent_matching.specs.declared.resting.Resting.{Resting}
use Rattle.independent_matching.specs.Sides.{IsFreeQRow, IsFreeTRow, layers_of, size_of, tableau_of_pair}

-- the Q row that is told for x
abbrev pub marked_row : List (Option ℕ) → ℕ → Option ℕ
marked_row rows x = slice_index_or rows x None

abbrev pub touched_at : Marks → ℕ → ℕ
touched_at m i = slice_index m.touched.items i

-- column x is noted as one that a pivot may change
abbrev pub IsTouched : Marks → ℕ → Type 0
IsTouched m x = (i : ℕ) × (i < m.count) × (touched_at m i ≡ x)

-- there is room to note each of the columns, and what is noted is some of them
pub record AreNoted (columns : ℕ) (m : Marks) : Type 0 where
  pub count : length m.touched.items ≡ columns
  pub below : (i : ℕ) → i < m.count → touched_at m i < columns
  pub few : m.count ≤ columns

-- each list has an item for each of the columns, and no column before the first is free and an end
pub record AreKeptMarks (columns : ℕ) (r : Resting) (m : Marks) : Type 0 where
  pub free_count : length r.free.items ≡ columns
  pub end_count : length m.ends.items ≡ columns
  pub t_count : length r.by_t.items ≡ columns
  pub q_count : length m.by_q.items ≡ columns
  pub touched : AreNoted columns m
  pub passed : (x : ℕ) → x < m.first → members_of r.free.items x ≡ true → members_of m.ends.items x ≡ true → ⊥

-- x is marked where it touches a T row that no column has
pub record IsTMark (M : Matching) (by_t : List Bool) (x : ℕ) : Type 0 where
  pub some : members_of by_t x ≡ true → (row : ℕ) × IsFreeTRow M x row
  pub none : members_of by_t x ≡ false → (row : ℕ) → IsFreeTRow M x row → ⊥

-- for x a Q row is told that no column has and where P has an entry in x, if there is one
pub record IsQMark (p : ℕ) (S : TableauState) (by_q : List (Option ℕ)) (x : ℕ) : Type 0 where
  pub some : (row : ℕ) → marked_row by_q x ≡ Some row → IsFreeQRow p S x row
  pub none : marked_row by_q x ≡ None → (row : ℕ) → IsFreeQRow p S x row → ⊥

-- x is marked as an end where a row is told for it or it is marked for T
abbrev pub IsEndMark : Resting → Marks → ℕ → Type 0
IsEndMark r m x = members_of m.ends.items x ≡ (members_of r.by_t.items x || is_some (marked_row m.by_q.items x))

-- the marks for Q are right, and with those for T they tell the ends
pub record AreMarksOfQ (p : ℕ) (S : TableauState) (r : Resting) (m : Marks) : Type 0 where
  pub sized : AreKeptMarks S.columns r m
  pub by_q : (x : ℕ) → x < S.columns → IsQMark p S m.by_q.items x
  pub ends : (x : ℕ) → x < S.columns → IsEndMark r m x

-- all marks are right
pub record AreMarks (p : ℕ) (S : TableauState) (M : Matching) (r : Resting) (m : Marks) : Type 0 where
  pub of_q : AreMarksOfQ p S r m
  pub by_t : (x : ℕ) → x < S.columns → IsTMark M r.by_t.items x
  pub free : (x : ℕ) → x < S.columns → members_of r.free.items x ≡ is_free (tableau_of_pair S M) x

-- the marks of x alone may differ
pub record IsChangedAt (r r' : Resting) (m now : Marks) (x : ℕ) : Type 0 where
  pub ends : (y : ℕ) → y ≢ x → members_of now.ends.items y ≡ members_of m.ends.items y
  pub by_t : (y : ℕ) → y ≢ x → members_of r'.by_t.items y ≡ members_of r.by_t.items y
  pub by_q : (y : ℕ) → y ≢ x → marked_row now.by_q.items y ≡ marked_row m.by_q.items y

-- each column in which P has an entry in the row is touched
abbrev pub AreTouchedByRow : ℕ → TableauState → Marks → ℕ → Type 0
AreTouchedByRow p S m row = (x : ℕ) → x < S.columns → S.p row x % p ≢ 0 → IsTouched m x

-- the base and the matched columns are a pair, the marks that a pivot may change are right, and there were few pivots
pub record IsInOrder (p : ℕ) (S : TableauState) (M : Matching) (r : Resting) (m : Marks) (pivots : ℕ) : Type 0 where
  pub pair : HasTableau p (layers_of S M) (tableau_of_pair S M)
  pub width : M.pattern.width ≡ S.columns
  pub marks : AreMarksOfQ p S r m
  pub few : pivots ≤ size_of S M * size_of S M

-- the base and the matched columns are a pair of that size, the marks are right, what the search leaves out reaches no
-- end, and there were few pivots and looks
pub record IsReadyPair (p : ℕ) (S : TableauState) (M : Matching) (found : Found) (r : Resting) (m : Marks)
    (size pivots looks : ℕ) : Type 0 where
  pub pair : HasTableau p (layers_of S M) (tableau_of_pair S M)
  pub width : M.pattern.width ≡ S.columns
  pub search : found.places ≡ S.columns
  pub left : IsLeftOut (leads_to p (layers_of S M) (tableau_of_pair S M)) S.columns (is_free (tableau_of_pair S M))
      (is_end p (layers_of S M) (tableau_of_pair S M)) (vain_of found) found.next
  pub marks : AreMarks p S M r m
  pub count : size ≡ size_of S M
  pub few : pivots ≤ size * size
  pub few_looks : looks ≤ size * S.columns + size_on (vain_of found) S.columns
