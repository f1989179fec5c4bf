-- Column sets from which no end is reached, and the columns that a move leaves as they are.
use Rattle.std.specs.Prelude.{ℕ, ◌<◌, ◌≡◌, ◌≢◌, ◌%◌, Bool, true}
use Rattle.residue_theory.specs.Sets.{nothing}
use Rattle.closed_sets.specs.Walks.{Reaches}
use Rattle.closed_sets.specs.Closed.{IsClosed}
use Rattle.mixed_matrices.specs.Arcs.{is_free, is_end, leads_to}
use Rattle.mixed_matrices.specs.LayeredMatrices.{LayeredMatrix}
use Rattle.mixed_matrices.specs.Tableaus.{Tableau}

-- C holds all that its columns lead to, and no end
abbrev pub IsSealed : ℕ → LayeredMatrix → Tableau → (ℕ → Bool) → Type 0
IsSealed p L F C = IsClosed (leads_to p L F) L.columns nothing (is_end p L F) C

-- each row that a column of C may take is that of a column of C
pub record HoldsRows (p : ℕ) (L : LayeredMatrix) (F : Tableau) (C : ℕ → Bool) : Type 0 where
  pub of_q : (x i : ℕ) → x < L.columns → C x ≡ true → i < L.q_rows → F.P i x % p ≢ 0 →
      (y : ℕ) × (y < L.columns) × (C y ≡ true) × (F.base y ≡ true) × (F.row y ≡ i)
  pub of_t : (x i : ℕ) → x < L.columns → C x ≡ true → i < L.t_rows → L.t i x ≡ true →
      (y : ℕ) × (y < L.columns) × (C y ≡ true) × (F.matched y ≡ true) × (F.mate y ≡ i)

-- each column of C is reached from a free one of C
abbrev pub IsRooted : ℕ → LayeredMatrix → Tableau → (ℕ → Bool) → Type 0
IsRooted p L F C =
    (x : ℕ) → x < L.columns → C x ≡ true →
    (s : ℕ) × (s < L.columns) × (C s ≡ true) × (is_free F s ≡ true) × Reaches (leads_to p L F) L.columns s x

-- the columns of C have in G the row, the mate and the entries that they had in F
pub record HaveStayed (p : ℕ) (L : LayeredMatrix) (F G : Tableau) (C : ℕ → Bool) : Type 0 where
  pub tests : (x : ℕ) → x < L.columns → C x ≡ true → G.base x ≡ F.base x
  pub rows : (x : ℕ) → x < L.columns → C x ≡ true → F.base x ≡ true → G.row x ≡ F.row x
  pub matches : (x : ℕ) → x < L.columns → C x ≡ true → G.matched x ≡ F.matched x
  pub mates : (x : ℕ) → x < L.columns → C x ≡ true → G.mate x ≡ F.mate x
  pub entries : (i x : ℕ) → i < L.q_rows → x < L.columns → C x ≡ true → G.P i x % p ≡ F.P i x % p

-- the columns of each set that is sealed in F have stayed in G
abbrev pub KeepsSealed : ℕ → LayeredMatrix → Tableau → Tableau → Type 0
KeepsSealed p L F G = (C : ℕ → Bool) → IsSealed p L F C → HaveStayed p L F G C
