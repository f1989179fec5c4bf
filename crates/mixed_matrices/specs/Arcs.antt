-- Free columns, ends, and what leads to what, in a tableau. What is closed, reached and ordered by these arcs
-- is said in the words of closed sets.
use Rattle.std.specs.Prelude.{ℕ, ◌%◌, Bool, ◌&&◌, ◌||◌, not, eqb}
use Rattle.residue_theory.specs.Sets.{some_below}
use Rattle.closed_sets.specs.Walks.{Reaches, FromSome, ToSome}
use Rattle.closed_sets.specs.Closed.{IsClosed, NoEndReached, IsReachedSet, IsMiddle}
use Rattle.mixed_matrices.specs.LayeredMatrices.{LayeredMatrix}
use Rattle.mixed_matrices.specs.Tableaus.{Tableau}

-- Q row i is the row of a base column
unfoldable pub has_base : LayeredMatrix → Tableau → ℕ → Bool
has_base L F i = some_below L.columns (λ y. F.base y && eqb (F.row y) i)

-- T row i is the mate of a matched column
unfoldable pub has_match : LayeredMatrix → Tableau → ℕ → Bool
has_match L F i = some_below L.columns (λ y. F.matched y && eqb (F.mate y) i)

-- column x is neither in the base nor matched
unfoldable pub is_free : Tableau → ℕ → Bool
is_free F x = not (F.base x) && not (F.matched x)

-- column x has an entry of P that is not 0 at a Q row without base, or a symbol at a T row without match
unfoldable pub is_end : ℕ → LayeredMatrix → Tableau → ℕ → Bool
is_end p L F x =
    some_below L.q_rows (λ i. not (eqb (F.P i x % p) 0) && not (has_base L F i))
    || some_below L.t_rows (λ i. L.t i x && not (has_match L F i))

-- column x leads to another column y: P has an entry that is not 0 in x at the row of the base column y,
-- or the T row matched with y has a symbol in x
unfoldable pub leads_to : ℕ → LayeredMatrix → Tableau → ℕ → ℕ → Bool
leads_to p L F x y =
    not (eqb x y) && ((F.base y && not (eqb (F.P (F.row y) x % p) 0)) || (F.matched y && L.t (F.mate y) x))

-- y is x, or is reached from it
abbrev pub ReachesIn : ℕ → LayeredMatrix → Tableau → ℕ → ℕ → Type 0
ReachesIn p L F x y = Reaches (leads_to p L F) L.columns x y

-- x is reached from a free column
abbrev pub IsFromFree : ℕ → LayeredMatrix → Tableau → ℕ → Type 0
IsFromFree p L F x = FromSome (leads_to p L F) L.columns (is_free F) x

-- x reaches an end
abbrev pub ReachesEnd : ℕ → LayeredMatrix → Tableau → ℕ → Type 0
ReachesEnd p L F x = ToSome (leads_to p L F) L.columns (is_end p L F) x

-- x is a column that is not reached from a free one and reaches no end
abbrev pub IsOfMiddle : ℕ → LayeredMatrix → Tableau → ℕ → Type 0
IsOfMiddle p L F x = IsMiddle (leads_to p L F) L.columns (is_free F) (is_end p L F) x

-- X holds every free column, no end, and all that its columns lead to
abbrev pub IsClosedIn : ℕ → LayeredMatrix → Tableau → (ℕ → Bool) → Type 0
IsClosedIn p L F X = IsClosed (leads_to p L F) L.columns (is_free F) (is_end p L F) X

-- no end is reached from a free column
abbrev pub HasNoWalk : ℕ → LayeredMatrix → Tableau → Type 0
HasNoWalk p L F = NoEndReached (leads_to p L F) L.columns (is_free F) (is_end p L F)

-- X is what is reached from the free columns
abbrev pub IsReachedFromFree : ℕ → LayeredMatrix → Tableau → (ℕ → Bool) → Type 0
IsReachedFromFree p L F X = IsReachedSet (leads_to p L F) L.columns (is_free F) X
