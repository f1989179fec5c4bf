-- The parts that components and their listing tell.
use Rattle.std.specs.Prelude.{ℕ, ◌<◌, ◌≤◌, Bool, List, ◌&&◌, nat_lt, slice_index}
use Rattle.exchange_graph.specs.Marks.{members_of}
use Rattle.bit_table.specs.Bits.{Bits, bit_in}
use Rattle.minimiser_lattice.specs.Components.{HasArrays, component_number, component_places}
use Rattle.minimiser_lattice.specs.Listings.{IsOpenedListing}
use Rattle.minimiser_lattice.specs.Covers.{HasCoverRoom}
use Rattle.minimiser_lattice.specs.Parts.{PlaceParts}
use Rattle.minimiser_lattice.specs.declared.components.Components.{Components}
use Rattle.minimiser_lattice.specs.declared.covers.Covers.{Covers}
use Rattle.minimiser_lattice.specs.declared.listing.Listing.{Listing}

abbrev pub parts_from : ℕ → (ℕ → ℕ) → (ℕ → Bool) → (ℕ → Bool) → (ℕ → ℕ) → (ℕ → ℕ) → ℕ → (ℕ → ℕ → Bool) →
    (ℕ → ℕ → Bool) → PlaceParts
parts_from n number first last rank listed blocks strict covers = record {
  places = n;
  first = λ x. first (number x);
  last = λ x. last (number x);
  block = λ x. rank (number x);
  blocks = blocks;
  below = λ k l. strict (listed l) (listed k);
  covers = λ l k. (nat_lt k blocks && nat_lt l blocks) && covers l k;
}

-- what a lattice keeps: how many places there are, the number of each place's component; of each component whether it
-- is of the first part or the last, and its block; the component of each block and how many blocks there are; and two
-- tables of bits: which component leads to which, and which block is right below which
pub record KeptLattice : Type 0 where
  pub places : ℕ
  pub number : List ℕ
  pub first : List Bool
  pub last : List Bool
  pub rank : List ℕ
  pub listed : List ℕ
  pub blocks : ℕ
  pub strict : Bits
  pub covers : Bits

abbrev pub kept_lattice : Components → Listing → Covers → KeptLattice
kept_lattice c l v = record {
  places = component_places c;
  number = c.number.items;
  first = l.first.items;
  last = l.last.items;
  rank = l.rank.items;
  listed = l.listed.items;
  blocks = l.blocks;
  strict = c.strict;
  covers = v.table;
}

-- the parts that these tell
abbrev pub parts_in : KeptLattice → PlaceParts
parts_in v = parts_from v.places (λ x. slice_index v.number x) (members_of v.first) (members_of v.last)
    (λ k. slice_index v.rank k) (λ j. slice_index v.listed j) v.blocks (bit_in v.strict) (bit_in v.covers)

-- all that is read stands in the arrays
pub record AreKeptArrays (c : Components) (l : Listing) (v : Covers) : Type 0 where
  pub stored : HasArrays c
  pub opened : IsOpenedListing l (component_places c)
  pub room : HasCoverRoom v (component_places c)
  pub numbers : (x : ℕ) → x < component_places c → component_number c x < component_places c
  pub fits : l.blocks ≤ component_places c
  pub listed : (j : ℕ) → j < l.blocks → slice_index l.listed.items j < component_places c
