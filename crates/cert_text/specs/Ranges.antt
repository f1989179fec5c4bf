-- The ranges and orders that the lines of a certificate keep.
use Rattle.std.specs.Prelude.{ℕ, ◌+◌, ◌<◌, ◌≤◌, ◌≡◌, ◌^◌, List, length, map, slice_index_or}
use Rattle.std.specs.List.{All}
use Rattle.std.specs.List.Sorted.{IsStrictlyIncreasing}
use Rattle.limits.specs.Limits.{column_limit, equation_limit}
use Rattle.cert_text.specs.Contents.{Contents}
use Rattle.cert_text.specs.declared.shape.Shape.{Shape}
use Rattle.cert_text.specs.declared.part.CcfPart.{CcfPart}
use Rattle.cert_text.specs.declared.part.CcfBlock.{CcfBlock}

pub record IsShape (shape : Shape) : Type 0 where
  pub equations : shape.equations ≤ equation_limit
  pub unknowns : shape.unknowns ≤ equation_limit
  pub q_rows : shape.q_rows ≤ equation_limit
  pub t_rows : shape.t_rows ≤ equation_limit
  pub columns : shape.columns ≤ column_limit

-- rising numbers below n
pub record AreRising (n : ℕ) (numbers : List ℕ) : Type 0 where
  pub rising : IsStrictlyIncreasing numbers
  pub below : All (λ number. number < n) numbers

-- by rising row, rows below m and columns below n
pub record ArePairs (m n : ℕ) (pairs : List (ℕ × ℕ)) : Type 0 where
  pub rising : IsStrictlyIncreasing (map (λ pair. pair.0) pairs)
  pub within : All (λ pair. (pair.0 < m) × (pair.1 < n)) pairs

-- by rising column below n, with numbers below p that are not 0
pub record AreEntries (p n : ℕ) (entries : List (ℕ × ℕ)) : Type 0 where
  pub rising : IsStrictlyIncreasing (map (λ entry. entry.0) entries)
  pub within : All (λ entry. (entry.0 < n) × (0 < entry.1) × (entry.1 < p)) entries

-- m rows of entries in n columns
pub record IsPrintedMatrix (p m n : ℕ) (rows : List (List (ℕ × ℕ))) : Type 0 where
  pub count : length rows ≡ m
  pub entries : All (AreEntries p n) rows

-- m rows of symbols in n columns
pub record IsPattern (m n : ℕ) (rows : List (List ℕ)) : Type 0 where
  pub count : length rows ≡ m
  pub columns : All (AreRising n) rows

pub record IsPart (shape : Shape) (part : CcfPart) : Type 0 where
  pub columns : AreRising shape.columns part.columns
  pub q_rows : AreRising shape.q_rows part.q_rows
  pub t_rows : AreRising shape.t_rows part.t_rows

-- block k has a column, and its lower blocks stand before it
pub record IsBlock (shape : Shape) (k : ℕ) (block : CcfBlock) : Type 0 where
  pub part : IsPart shape block.part
  pub some : 0 < length block.part.columns
  pub lower : AreRising k block.lower

-- a form with values modulo this number
pub record IsCcf (modulus : ℕ) (c : Contents) : Type 0 where
  pub shape : IsShape c.shape
  pub rank : c.rank ≤ column_limit
  pub base : ArePairs c.shape.q_rows c.shape.columns c.base
  pub mates : ArePairs c.shape.t_rows c.shape.columns c.mates
  pub s : IsPrintedMatrix modulus c.shape.q_rows c.shape.q_rows c.s
  pub u : IsPrintedMatrix modulus c.shape.q_rows c.shape.q_rows c.u
  pub p : IsPrintedMatrix modulus c.shape.q_rows c.shape.columns c.p
  pub t : IsPattern c.shape.t_rows c.shape.columns c.t
  pub first : IsPart c.shape c.first
  pub blocks : (k : ℕ) (d : CcfBlock) → k < length c.blocks → IsBlock c.shape k (slice_index_or c.blocks k d)
  pub last : IsPart c.shape c.last

-- numbers that have a next one of 64 bits
abbrev pub AreSmall : List ℕ → Type 0
AreSmall numbers = All (λ number. number + 1 < 2 ^ 64) numbers

-- and such rows and columns
abbrev pub AreSmallPairs : List (ℕ × ℕ) → Type 0
AreSmallPairs pairs = All (λ pair. (pair.0 + 1 < 2 ^ 64) × (pair.1 + 1 < 2 ^ 64)) pairs

-- and entries at such columns
abbrev pub HasSmallKeys : {T : Type 0} → List (ℕ × T) → Type 0
HasSmallKeys entries = All (λ entry. entry.0 + 1 < 2 ^ 64) entries

pub record IsSmallPart (part : CcfPart) : Type 0 where
  pub columns : AreSmall part.columns
  pub q_rows : AreSmall part.q_rows
  pub t_rows : AreSmall part.t_rows

pub record IsSmallBlock (block : CcfBlock) : Type 0 where
  pub part : IsSmallPart block.part
  pub lower : AreSmall block.lower

-- each block has small rows and columns, and lower blocks that stand before it
abbrev pub AreSmallBlocks : List CcfBlock → Type 0
AreSmallBlocks blocks =
    (k : ℕ) (d : CcfBlock) → k < length blocks →
    IsSmallPart (slice_index_or blocks k d).part × All (λ number. number < k) (slice_index_or blocks k d).lower
