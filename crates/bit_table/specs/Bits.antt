-- Rows of bits, each in words of 64.
use Rattle.std.specs.Prelude.{ℕ, ◌+◌, ◌*◌, ◌/◌, ◌%◌, ◌<◌, ◌≤◌, ◌≡◌, ◌≢◌, ◌⊎◌, ◌==◌, ◌||◌, Bool, true, false, List, length, slice_index}
use Rattle.std.specs.Int.{bit_at}

-- how many rows there are, how many bits a row has, and the words that keep them, so many for each row
pub record Bits : Type 0 where
  pub rows : ℕ
  pub size : ℕ
  pub width : ℕ
  pub words : List ℕ

-- bit y of row x, where a row has `width` words
abbrev pub bit_of : List ℕ → ℕ → ℕ → ℕ → Bool
bit_of words width x y = bit_at (slice_index words (x * width + y / 64)) (y % 64) == 1

-- whether bit y of row x is set
abbrev pub bit_in : Bits → ℕ → ℕ → Bool
bit_in t = bit_of t.words t.width

-- there is room for so many rows of so many bits, kept in words, of which row x uses the first ones alone, and none
-- where it is not made
pub record AreKeptBits (rows size width room : ℕ) (words used : List ℕ) : Type 0 where
  pub room_is : rows * width ≤ room
  pub words_are : length words ≤ rows * width
  pub width_is : width ≡ size / 64 + 1
  pub used_are : length used ≡ rows
  pub within : (x : ℕ) → x < rows → slice_index used x ≤ width
  pub made : (x : ℕ) → x < rows → 0 < slice_index used x → x * width + width ≤ length words
  pub behind : (x i : ℕ) → x < rows → slice_index used x ≤ i → i < width → slice_index words (x * width + i) ≡ 0

-- the bit at x and y is set, and no other bit of the n of each row changes
pub record IsBitSet (before now : ℕ → ℕ → Bool) (n x y : ℕ) : Type 0 where
  pub here : now x y ≡ true
  pub row : (j : ℕ) → j < n → j ≢ y → now x j ≡ before x j
  pub others : (i j : ℕ) → j < n → i ≢ x → now i j ≡ before i j

-- row x gets the bits of a further row, and no other row changes
pub record IsJoined (before now : ℕ → ℕ → Bool) (row : ℕ → Bool) (n x : ℕ) : Type 0 where
  pub here : (j : ℕ) → j < n → now x j ≡ (before x j || row j)
  pub others : (i j : ℕ) → j < n → i ≢ x → now i j ≡ before i j

-- row x has no bit set, and no other row changes
pub record IsRowCleared (before now : ℕ → ℕ → Bool) (n x : ℕ) : Type 0 where
  pub here : (j : ℕ) → j < n → now x j ≡ false
  pub others : (i j : ℕ) → j < n → i ≢ x → now i j ≡ before i j

-- each word of row x is 0, and no other one changes
pub record IsRowEmptied (before now : List ℕ) (width x : ℕ) : Type 0 where
  pub here : (i : ℕ) → i < width → slice_index now (x * width + i) ≡ 0
  pub others : (k : ℕ) → (k < x * width) ⊎ (x * width + width ≤ k) → slice_index now k ≡ slice_index before k
