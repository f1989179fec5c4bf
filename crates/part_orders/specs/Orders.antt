-- The lists of blocks as one list of items, and what the tables of blocks tell.
use Rattle.std.specs.Prelude.{ℕ, ◌+◌, ◌<◌, ◌≤◌, ◌≡◌, ◌↔◌, Bool, true, false, List, length, slice_index_or}
use Rattle.std.specs.List.{All}

-- pairs (l, k) of blocks below b with k < l, by rising l
pub record AreLowerItems (b : ℕ) (lower : List (ℕ × ℕ)) : Type 0 where
  pub within : All (λ item. (item.0 < b) × (item.1 < item.0)) lower
  pub rising : (i j : ℕ) → i < j → j < length lower →
      (slice_index_or lower i (0, 0)).0 ≤ (slice_index_or lower j (0, 0)).0

-- direct tells from which block of b an arc leads to which one; the places of block k are those of part k + 2
abbrev pub TellsArcs : (ℕ → ℕ → Bool) → ℕ → (ℕ → ℕ) → ℕ → (ℕ → ℕ → Bool) → Type 0
TellsArcs arc n part b direct = (l k : ℕ) → l < b → k < b → (direct l k ≡ true) ↔
    ((x y : ℕ) × (x < n) × (y < n) × (part x ≡ l + 2) × (part y ≡ k + 2) × (arc x y ≡ true))

-- deep l tells what the blocks of the list of l have below them
abbrev pub TellsDeep : (ℕ → ℕ → Bool) → ℕ → (ℕ → ℕ → Bool) → (ℕ → ℕ → Bool) → Type 0
TellsDeep lower b below deep = (l k : ℕ) → l < b → k < b → (deep l k ≡ true) ↔
    ((m : ℕ) × (lower l m ≡ true) × (below m k ≡ true))

-- each block of a list is told by direct, and not by deep
abbrev pub AreOnlyDirect : (ℕ → ℕ → Bool) → (ℕ → ℕ → Bool) → (ℕ → ℕ → Bool) → Type 0
AreOnlyDirect lower direct deep = (l k : ℕ) → lower l k ≡ true → (direct l k ≡ true) × (deep l k ≡ false)

-- ready l is the least number behind all blocks of the list of l
abbrev pub AreReadyFrom : ℕ → (ℕ → ℕ → Bool) → (ℕ → ℕ) → Type 0
AreReadyFrom b lower ready = (l k : ℕ) → l < b → (ready l ≤ k) ↔ ((m : ℕ) → lower l m ≡ true → m < k)
