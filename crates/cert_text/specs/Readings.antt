-- The matrices, sets and parts that the lines of a certificate stand for.
use Rattle.std.specs.Prelude.{ℕ, suc, ◌<◌, ◌≡◌, ◌≢◌, ◌%◌, ◌∷◌, ◌++◌, Bool, true, cond, eqb, List, [], length, map, slice_index_or}
use Rattle.residue_theory.specs.Sets.{has, some_below}
use Rattle.mixed_matrices.specs.Forms.{Parts}
use Rattle.mixed_matrices.specs.Tableaus.{Tableau}
use Rattle.cert_text.specs.Contents.{Contents}

-- the number at column j of a row, 0 where the row has no entry there
abbrev pub entry_at : List (ℕ × ℕ) → ℕ → ℕ
entry_at [] j = 0
entry_at (entry ∷ entries) j = cond (eqb entry.0 j) entry.1 (entry_at entries j)

-- the matrix of rows of entries
abbrev pub matrix_of : List (List (ℕ × ℕ)) → ℕ → ℕ → ℕ
matrix_of rows i j = entry_at (slice_index_or rows i []) j

-- the pattern of rows of columns
abbrev pub pattern_of : List (List ℕ) → ℕ → ℕ → Bool
pattern_of rows i j = has (slice_index_or rows i []) j

-- item k of a list of rows and their columns
abbrev pub pair_at : List (ℕ × ℕ) → ℕ → ℕ × ℕ
pair_at pairs k = slice_index_or pairs k (0, 0)

-- whether column j is the column of an item
abbrev pub has_column : List (ℕ × ℕ) → ℕ → Bool
has_column pairs j = some_below (length pairs) (λ k. eqb (pair_at pairs k).1 j)

-- the row that stands with column j
abbrev pub row_with : List (ℕ × ℕ) → ℕ → ℕ
row_with [] j = 0
row_with (pair ∷ pairs) j = cond (eqb pair.1 j) pair.0 (row_with pairs j)

-- P with the base and the matched columns
abbrev pub tableau_of : Contents → Tableau
tableau_of c = record {
  P = matrix_of c.p;
  base = has_column c.base;
  row = row_with c.base;
  matched = has_column c.mates;
  mate = row_with c.mates;
}

-- the place of the first list that holds x
abbrev pub place_of : List (List ℕ) → ℕ → ℕ
place_of [] x = 0
place_of (list ∷ lists) x = cond (has list x) 0 (suc (place_of lists x))

-- the columns, the Q rows and the T rows of the first tail, the blocks and the last tail
abbrev pub column_lists : Contents → List (List ℕ)
column_lists c = c.first.columns ∷ (map (λ block. block.part.columns) c.blocks ++ c.last.columns ∷ [])

abbrev pub q_row_lists : Contents → List (List ℕ)
q_row_lists c = c.first.q_rows ∷ (map (λ block. block.part.q_rows) c.blocks ++ c.last.q_rows ∷ [])

abbrev pub t_row_lists : Contents → List (List ℕ)
t_row_lists c = c.first.t_rows ∷ (map (λ block. block.part.t_rows) c.blocks ++ c.last.t_rows ∷ [])

-- the printed parts: 0 is the first tail, k + 1 is block k, and the last tail comes after the blocks
abbrev pub parts_of : Contents → Parts
parts_of c = record {
  blocks = length c.blocks;
  column = place_of (column_lists c);
  q_row = place_of (q_row_lists c);
  t_row = place_of (t_row_lists c);
}

-- lower_of c l k: block k is in the printed lower list of block l
abbrev pub lower_of : Contents → ℕ → ℕ → Bool
lower_of c l k = has (slice_index_or (map (λ block. block.lower) c.blocks) l []) k

-- each number below n stands in exactly one of the lists
pub record StandsOnce (n : ℕ) (lists : List (List ℕ)) : Type 0 where
  pub some : (x : ℕ) → x < n → (k : ℕ) × (k < length lists) × (has (slice_index_or lists k []) x ≡ true)
  pub one : (x k l : ℕ) → x < n → k < length lists → l < length lists →
      has (slice_index_or lists k []) x ≡ true → has (slice_index_or lists l []) x ≡ true → k ≡ l

-- no column stands twice, in one list or in both
pub record ColumnsDiffer (base mates : List (ℕ × ℕ)) : Type 0 where
  pub in_base : (k l : ℕ) → k < length base → l < length base → (pair_at base k).1 ≡ (pair_at base l).1 → k ≡ l
  pub in_mates : (k l : ℕ) → k < length mates → l < length mates → (pair_at mates k).1 ≡ (pair_at mates l).1 → k ≡ l
  pub apart : (k l : ℕ) → k < length base → l < length mates → (pair_at base k).1 ≢ (pair_at mates l).1

-- column j of b is 1 at row i and 0 elsewhere
pub record IsUnitColumn (p m : ℕ) (b : ℕ → ℕ → ℕ) (i j : ℕ) : Type 0 where
  pub one : b i j % p ≡ 1
  pub zero : (k : ℕ) → k < m → k ≢ i → b k j % p ≡ 0
