-- In which rows the columns of a sparse matrix have entries, as they are listed.
use Rattle.std.specs.Prelude.{ℕ, ◌≢◌, Bool, eqb, not}
use Rattle.bit_table.specs.Bits.{Bits}
use Rattle.sparse_q.specs.Tables.{SparseTable, sparse_rows, number_in}
use Rattle.row_transform.specs.Entries.{AreRowsListed, AreEntriesListed}

-- whether row i of a has a number at column j that is not zero
abbrev pub has_number_at : SparseTable → ℕ → ℕ → Bool
has_number_at a j i = not (eqb (number_in a i j) 0)

-- the numbers of a that are not zero are listed
abbrev pub AreNumbersListed : SparseTable → Bits → Type 0
AreNumbersListed a b = AreRowsListed (sparse_rows a) a.width (λ i j. number_in a i j ≢ 0) b

-- the entries of a that are not zero modulo p are listed
abbrev pub AreSparseEntriesListed : ℕ → SparseTable → Bits → Type 0
AreSparseEntriesListed p a b = AreEntriesListed p (sparse_rows a) a.width (number_in a) b
