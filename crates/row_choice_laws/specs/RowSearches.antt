-- Searches backwards over the rows of a tableau. Q row i is place i, and T row t is place q_rows + t.
use Rattle.std.specs.Prelude.{ℕ, ◌+◌, ◌-◌, ◌<◌, ◌≡◌, ◌≢◌, ◌%◌, ◌⊎◌, ◌↔◌, Bool, true, false, cond, eqb, ltb, not, ◌&&◌}
use Rattle.residue_theory.specs.Sets.{both, some_below, with_one}
use Rattle.closed_sets.specs.Closed.{IsReachedSet, NoEndReached}
use Rattle.mixed_matrices.specs.Arcs.{is_free}
use Rattle.mixed_matrices.specs.LayeredMatrices.{LayeredMatrix}
use Rattle.mixed_matrices.specs.Layerings.{Origins}
use Rattle.mixed_matrices.specs.Models.{MixedMatrix}
use Rattle.mixed_matrices.specs.Tableaus.{Tableau}

abbrev pub places : LayeredMatrix → ℕ
places L = L.q_rows + L.t_rows

-- row r has an entry at column y: a number of P that is not 0, or a symbol
abbrev pub has_row_entry : ℕ → LayeredMatrix → Tableau → ℕ → ℕ → Bool
has_row_entry p L F r y = cond (ltb r L.q_rows) (not (eqb (F.P r y % p) 0)) (L.t (r - L.q_rows) y)

-- column y is the base column of row r, or its match
abbrev pub is_column_of : LayeredMatrix → Tableau → ℕ → ℕ → Bool
is_column_of L F r y =
    cond (ltb r L.q_rows) (F.base y && eqb (F.row y) r) (F.matched y && eqb (F.mate y) (r - L.q_rows))

-- row r leads to row s: it has an entry at the column of s
unfoldable pub row_leads : ℕ → LayeredMatrix → Tableau → ℕ → ℕ → Bool
row_leads p L F r s = some_below L.columns (λ y. has_row_entry p L F r y && is_column_of L F s y)

-- row r has an entry at a free column
unfoldable pub is_open : ℕ → LayeredMatrix → Tableau → ℕ → Bool
is_open p L F r = some_below L.columns (λ y. has_row_entry p L F r y && is_free F y)

-- row r has no column
unfoldable pub is_bare_row : LayeredMatrix → Tableau → ℕ → Bool
is_bare_row L F r = not (some_below L.columns (is_column_of L F r))

-- the equation from which row r comes
abbrev pub origin_of_row : LayeredMatrix → Origins → ℕ → ℕ
origin_of_row L O r = cond (ltb r L.q_rows) (O.of_q r) (O.of_t (r - L.q_rows))

abbrev pub is_row_of : LayeredMatrix → Origins → (ℕ → Bool) → ℕ → Bool
is_row_of L O K r = K (origin_of_row L O r)

-- the rows of the equations K that have no column
abbrev pub bare_of : LayeredMatrix → Origins → Tableau → (ℕ → Bool) → ℕ → Bool
bare_of L O F K = both (is_row_of L O K) (is_bare_row L F)

-- only rows of the equations K have columns, and these rows of P are made of Q rows of K alone
pub record IsOnRowsOf (p : ℕ) (L : LayeredMatrix) (O : Origins) (S : ℕ → ℕ → ℕ) (F : Tableau)
    (K : ℕ → Bool) : Type 0 where
  pub base : (b : ℕ) → b < L.columns → F.base b ≡ true → K (O.of_q (F.row b)) ≡ true
  pub matched : (j : ℕ) → j < L.columns → F.matched j ≡ true → K (O.of_t (F.mate j)) ≡ true
  pub made : (i k : ℕ) → i < L.q_rows → k < L.q_rows → K (O.of_q i) ≡ true → K (O.of_q k) ≡ false → S i k % p ≡ 0

-- W is what is reached from the rows of K that have no column, and no row of W has an entry at a free column
pub record AreRowsReachedInVain (p : ℕ) (L : LayeredMatrix) (O : Origins) (F : Tableau) (K W : ℕ → Bool) : Type 0 where
  pub reached : IsReachedSet (row_leads p L F) (places L) (bare_of L O F K) W
  pub vain : NoEndReached (row_leads p L F) (places L) (bare_of L O F K) (is_open p L F)

-- f joins the equations B, whose rows all have columns: the Q row of f has none yet, and S has its own entry there; the
-- T row of f has none where f has no Q row, and is matched with its auxiliary column where it has one
pub record IsJoining (p : ℕ) (M : MixedMatrix) (A : ℕ → Bool) (L : LayeredMatrix) (O : Origins) (S : ℕ → ℕ → ℕ)
    (F : Tableau)
    (B : ℕ → Bool) (f : ℕ) : Type 0 where
  pub on : IsOnRowsOf p L O S F (with_one B f)
  pub used : (r : ℕ) → r < places L → is_row_of L O B r ≡ true → is_bare_row L F r ≡ false
  pub own : (i : ℕ) → i < L.q_rows → O.of_q i ≡ f → (is_bare_row L F i ≡ true) × (S i i % p ≢ 0)
  pub single : (t : ℕ) → t < L.t_rows → O.of_t t ≡ f → A f ≡ false → is_bare_row L F (L.q_rows + t) ≡ true
  pub split : (t k : ℕ) → t < L.t_rows → k < O.split → O.of_t t ≡ f → O.of_z k ≡ f →
      (F.matched (M.columns + k) ≡ true) × (F.mate (M.columns + k) ≡ t)

-- each of the equations K has a row in L
abbrev pub HaveRows : MixedMatrix → (ℕ → Bool) → (ℕ → Bool) → (ℕ → Bool) → Type 0
HaveRows M A D K = (x : ℕ) → x < M.rows → K x ≡ true → (A x ≡ true) ⊎ (D x ≡ true)

-- the equation from which a T row comes, or a Q row that has no T row beside it, is told by the rows W: its T row is
-- one of them, or a Q row of them is made with its Q row
pub record TellsOf (p : ℕ) (D : ℕ → Bool) (L : LayeredMatrix) (O : Origins) (S : ℕ → ℕ → ℕ) (K W : ℕ → Bool)
    (Told : ℕ → Type 0) : Type 0 where
  pub by_t : (d : ℕ) → d < L.t_rows → K (O.of_t d) ≡ true → Told (O.of_t d) ↔ (W (L.q_rows + d) ≡ true)
  pub by_q : (e : ℕ) → e < L.q_rows → K (O.of_q e) ≡ true → D (O.of_q e) ≡ false →
      Told (O.of_q e) ↔ ((i : ℕ) × (i < L.q_rows) × (W i ≡ true) × (S i e % p ≢ 0))
