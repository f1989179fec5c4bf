-- Block triangular forms of a layered matrix, and what is at least as fine as another (Murota, chapters 2 and 4). Parts
-- are numbered from 0: part 0 is the first tail, part k + 1 is block k, and after the blocks stands the last tail.
use Rattle.std.specs.Prelude.{ℕ, ◌+◌, ◌<◌, ◌≤◌, ◌≡◌, ◌≢◌, ◌%◌, ◌⊎◌, false, leb}
use Rattle.residue_theory.specs.Sums.{size_on}
use Rattle.linear_algebra.specs.Products.{IsInverse, product}
use Rattle.linear_algebra.specs.Parts.{in_part}
use Rattle.mixed_matrices.specs.LayeredMatrices.{LayeredMatrix, layered_part}
use Rattle.mixed_matrices.specs.StructuralRanks.{IsLayeredRank}

-- the part of each column, Q row and T row
pub record Parts : Type 0 where
  pub blocks : ℕ
  pub column : ℕ → ℕ
  pub q_row : ℕ → ℕ
  pub t_row : ℕ → ℕ

-- |Ck|
abbrev pub part_columns : LayeredMatrix → Parts → ℕ → ℕ
part_columns L G k = size_on (in_part G.column k) L.columns

-- |Rk|
abbrev pub part_rows : LayeredMatrix → Parts → ℕ → ℕ
part_rows L G k = size_on (in_part G.q_row k) L.q_rows + size_on (in_part G.t_row k) L.t_rows

-- L with S * Q in place of Q
abbrev pub transformed : (ℕ → ℕ → ℕ) → LayeredMatrix → LayeredMatrix
transformed S L = record {
  q_rows = L.q_rows;
  t_rows = L.t_rows;
  columns = L.columns;
  q = product L.q_rows S L.q;
  t = L.t;
}

-- the diagonal part k
abbrev pub diagonal_part : LayeredMatrix → Parts → ℕ → LayeredMatrix
diagonal_part L G k = layered_part (in_part G.q_row k) (in_part G.t_row k) (in_part G.column k) L

-- at a row of part k and a column of part l there is no entry: no number that is not 0, and no symbol
pub record IsEmptyAt (p : ℕ) (L : LayeredMatrix) (G : Parts) (k l : ℕ) : Type 0 where
  pub q : (i j : ℕ) → i < L.q_rows → j < L.columns → G.q_row i ≡ k → G.column j ≡ l → L.q i j % p ≡ 0
  pub t : (i j : ℕ) → i < L.t_rows → j < L.columns → G.t_row i ≡ k → G.column j ≡ l → L.t i j ≡ false

-- L is block triangular with these parts, and each diagonal part has the rank of its rows, or the last of its columns
pub record IsTriangular (p : ℕ) (L : LayeredMatrix) (G : Parts) : Type 0 where
  pub columns : (j : ℕ) → j < L.columns → G.column j ≤ G.blocks + 1
  pub q_rows : (i : ℕ) → i < L.q_rows → G.q_row i ≤ G.blocks + 1
  pub t_rows : (i : ℕ) → i < L.t_rows → G.t_row i ≤ G.blocks + 1
  pub empty : (k l : ℕ) → l < k → IsEmptyAt p L G k l
  pub first : (part_rows L G 0 < part_columns L G 0) ⊎ ((part_rows L G 0 ≡ 0) × (part_columns L G 0 ≡ 0))
  pub square : (k : ℕ) → 1 ≤ k → k ≤ G.blocks → (part_rows L G k ≡ part_columns L G k) × (0 < part_columns L G k)
  pub last : (part_columns L G (G.blocks + 1) < part_rows L G (G.blocks + 1))
      ⊎ ((part_rows L G (G.blocks + 1) ≡ 0) × (part_columns L G (G.blocks + 1) ≡ 0))
  pub row_rank : (k : ℕ) → k ≤ G.blocks → IsLayeredRank p (diagonal_part L G k) (part_rows L G k)
  pub column_rank : IsLayeredRank p (diagonal_part L G (G.blocks + 1)) (part_columns L G (G.blocks + 1))

-- a form of L: an invertible S, and parts with which S * Q above T is block triangular
abbrev pub IsForm : ℕ → LayeredMatrix → (ℕ → ℕ → ℕ) → Parts → Type 0
IsForm p L S G = ((U : ℕ → ℕ → ℕ) × IsInverse p L.q_rows S U × IsInverse p L.q_rows U S)
    × IsTriangular p (transformed S L) G

-- with an order of its blocks: at a row of block k and a column of block l no entry, unless k is l or below l
abbrev pub IsOrdered : ℕ → LayeredMatrix → (ℕ → ℕ → ℕ) → Parts → (ℕ → ℕ → Type 0) → Type 0
IsOrdered p L S G Below = (k l : ℕ) → k < G.blocks → l < G.blocks → k ≢ l → (Below k l → ⊥) →
    IsEmptyAt p (transformed S L) G (k + 1) (l + 1)

-- F is at least as fine as G: the first tail and the first k blocks of G are a union of column parts of F
abbrev pub IsAsFine : LayeredMatrix → Parts → Parts → Type 0
IsAsFine L F G = (k : ℕ) → k ≤ G.blocks → (x y : ℕ) → x < L.columns → y < L.columns → F.column x ≡ F.column y →
    leb (G.column x) k ≡ leb (G.column y) k
