-- Which blocks are right below which, found from the components.
use Rattle.std.specs.Prelude.{ℕ, ◌<◌, ◌≤◌, ◌≡◌, ◌≢◌, ◌⊎◌, Bool, true, vec_len, slice_index}
use Rattle.bit_table.specs.Bits.{IsBitSet, bit_in}
use Rattle.minimiser_lattice.specs.Components.{HasArrays, component_number, component_places}
use Rattle.minimiser_lattice.specs.Listings.{IsOpenedListing, listed_of}
use Rattle.minimiser_lattice.specs.Paths.{IsNumbering}
use Rattle.minimiser_lattice.specs.declared.components.Components.{Components}
use Rattle.minimiser_lattice.specs.declared.covers.Covers.{Covers}
use Rattle.minimiser_lattice.specs.declared.listing.Listing.{Listing}

-- there is room for the covers of n components
pub record HasCoverRoom (c : Covers) (n : ℕ) : Type 0 where
  pub rows : c.table.rows ≡ n
  pub size : c.table.size ≡ n
  pub one : c.between.rows ≡ 1
  pub bits : c.between.size ≡ n
  pub lower : vec_len c.lower ≡ n

abbrev pub lower_count : Covers → ℕ → ℕ
lower_count c i = slice_index c.lower.items i

-- the components are numbered, and each block has one of them
pub record HasBlocksListed (c : Components) (l : Listing) : Type 0 where
  pub stored : HasArrays c
  pub opened : IsOpenedListing l (component_places c)
  pub numbering : IsNumbering (component_places c) (component_number c) c.count (bit_in c.strict)
  pub fits : l.blocks ≤ component_places c
  pub below : (j : ℕ) → j < l.blocks → listed_of l j < c.count
  pub ranks : (j : ℕ) → j < l.blocks → slice_index l.rank.items (listed_of l j) ≡ j

-- the list tells, by rising number, to which components below `to` component l leads
pub record IsGathered (strict : ℕ → ℕ → Bool) (l to : ℕ) (list : ℕ → ℕ) (filled : ℕ) : Type 0 where
  pub leads : (i : ℕ) → i < filled → strict l (list i) ≡ true
  pub below : (i : ℕ) → i < filled → list i < to
  pub rises : (i j : ℕ) → i < j → j < filled → list i < list j
  pub all : (m : ℕ) → m < to → strict l m ≡ true → (i : ℕ) × (i < filled) × (list i ≡ m)

-- no component stands between l and k
abbrev pub NoneBetween : ℕ → (ℕ → ℕ → Bool) → ℕ → ℕ → Type 0
NoneBetween n strict l k = (m : ℕ) → m < n → strict l m ≡ true → strict m k ≡ true → ⊥

-- the row of block j: the bit of a block is set exactly where its component is below that of j with none between
pub record IsCoverRow (n : ℕ) (strict : ℕ → ℕ → Bool) (listed : ℕ → ℕ) (blocks : ℕ) (covers : ℕ → ℕ → Bool) (j : ℕ)
    : Type 0 where
  pub leads : (i : ℕ) → i < blocks → covers j i ≡ true → strict (listed j) (listed i) ≡ true
  pub none : (i : ℕ) → i < blocks → covers j i ≡ true → NoneBetween n strict (listed j) (listed i)
  pub all : (i : ℕ) → i < blocks → strict (listed j) (listed i) ≡ true → NoneBetween n strict (listed j) (listed i) →
      covers j i ≡ true

abbrev pub AreListedCovers : ℕ → (ℕ → ℕ → Bool) → (ℕ → ℕ) → ℕ → (ℕ → ℕ → Bool) → Type 0
AreListedCovers n strict listed blocks covers = (j : ℕ) → j < blocks → IsCoverRow n strict listed blocks covers j

-- in row j the bit of the block with component m is set, where there is one
abbrev pub IsCoverPut : (ℕ → ℕ → Bool) → (ℕ → ℕ → Bool) → ℕ → (ℕ → ℕ) → ℕ → ℕ → ℕ → Type 0
IsCoverPut before now n listed blocks j m =
    ((i : ℕ) × (i < blocks) × (listed i ≡ m) × IsBitSet before now n j i)
    ⊎ (((i : ℕ) → i < blocks → listed i ≢ m) × (now ≡ before))

-- the row of block j, of the items of the list from `left` on: `between` tells what one of them leads to
pub record IsRowFrom (n : ℕ) (strict : ℕ → ℕ → Bool) (list : ℕ → ℕ) (filled : ℕ) (listed : ℕ → ℕ) (blocks : ℕ)
    (covers : ℕ → ℕ → Bool) (between : ℕ → Bool) (j left : ℕ) : Type 0 where
  pub some : (y : ℕ) → y < n → between y ≡ true → (m : ℕ) × (m < n) × (strict (listed j) m ≡ true) × (strict m y ≡ true)
  pub made : (i y : ℕ) → left ≤ i → i < filled → y < n → strict (list i) y ≡ true → between y ≡ true
  pub leads : (i : ℕ) → i < blocks → covers j i ≡ true → strict (listed j) (listed i) ≡ true
  pub none : (i : ℕ) → i < blocks → covers j i ≡ true → NoneBetween n strict (listed j) (listed i)
  pub all : (i at : ℕ) → i < blocks → left ≤ at → at < filled → list at ≡ listed i →
      NoneBetween n strict (listed j) (listed i) → covers j i ≡ true
