-- What the arrays of a listing mean.
use Rattle.std.specs.Prelude.{ℕ, ◌<◌, ◌≤◌, ◌≡◌, Bool, true, false, cond, ◌&&◌, not, vec_len, slice_index}
use Rattle.residue_theory.specs.Sums.{size_on}
use Rattle.exchange_graph.specs.Marks.{members_of}
use Rattle.minimiser_lattice.specs.Components.{leads_in}
use Rattle.minimiser_lattice.specs.Standings.{in_middle, is_listed, standing_in}
use Rattle.minimiser_lattice.specs.Ready.{HasRoomFor}
use Rattle.minimiser_lattice.specs.declared.listing.Listing.{Listing}
use Rattle.minimiser_lattice.specs.declared.standing.Standing.{Standing}
use Rattle.minimiser_lattice.specs.declared.standing.Standing.TheVariants.{Tail, Waiting, Listed}

-- each array has an item for each of n components, and there is room to take them apart
pub record IsOpenedListing (l : Listing) (n : ℕ) : Type 0 where
  pub first : vec_len l.first ≡ n
  pub last : vec_len l.last ≡ n
  pub standing : vec_len l.standing ≡ n
  pub ready : HasRoomFor l.ready n
  pub rank : vec_len l.rank ≡ n
  pub listed : vec_len l.listed ≡ n

-- of the components, those are marked to which a place of the set, of the places below n, is related
pub record IsTail (n : ℕ) (set : ℕ → Bool) (relates : ℕ → ℕ → Bool) (count : ℕ) (marks : ℕ → Bool) : Type 0 where
  pub some : (k : ℕ) → k < count → marks k ≡ true → (x : ℕ) × (x < n) × (set x ≡ true) × (relates x k ≡ true)
  pub none : (k x : ℕ) → k < count → marks k ≡ false → x < n → set x ≡ true → relates x k ≡ false

-- a start is related to the components that its own is or leads to
abbrev pub IsFirstTail : ℕ → (ℕ → ℕ) → ℕ → (ℕ → ℕ → Bool) → (ℕ → Bool) → (ℕ → Bool) → Type 0
IsFirstTail n number count strict starts first = IsTail n starts (λ s k. leads_in strict (number s) k) count first

-- an end is related to the components that are its own or lead to it
abbrev pub IsLastTail : ℕ → (ℕ → ℕ) → ℕ → (ℕ → ℕ → Bool) → (ℕ → Bool) → (ℕ → Bool) → Type 0
IsLastTail n number count strict ends last = IsTail n ends (λ e k. leads_in strict k (number e)) count last

-- the components that a start leads to, and those that lead to an end
pub record AreMarkedTails (n : ℕ) (number : ℕ → ℕ) (count : ℕ) (strict : ℕ → ℕ → Bool)
    (starts ends first last : ℕ → Bool) : Type 0 where
  pub first_tail : IsFirstTail n number count strict starts first
  pub last_tail : IsLastTail n number count strict ends last

-- component k is of neither tail
abbrev pub of_neither : (ℕ → Bool) → (ℕ → Bool) → ℕ → Bool
of_neither first last k = not (first k) && not (last k)

abbrev pub middle_of : Listing → ℕ → Bool
middle_of l = of_neither (members_of l.first.items) (members_of l.last.items)

abbrev pub standing_of : Listing → ℕ → Standing
standing_of l = standing_in l.standing.items

-- all components of the middle wait
abbrev pub AllWait : ℕ → (ℕ → Bool) → (ℕ → Standing) → Type 0
AllWait count middle standing = (k : ℕ) → k < count → standing k ≡ cond (middle k) Waiting Tail

-- each block has its component of the middle, and that one its block
pub record HasPlaces (count : ℕ) (middle : ℕ → Bool) (rank listed : ℕ → ℕ) (blocks : ℕ) : Type 0 where
  pub below : (j : ℕ) → j < blocks → listed j < count
  pub of_middle : (j : ℕ) → j < blocks → middle (listed j) ≡ true
  pub ranks : (j : ℕ) → j < blocks → rank (listed j) ≡ j

-- the components of the middle wait or are listed, and those of the blocks are listed
pub record HasStandings (count : ℕ) (middle : ℕ → Bool) (standing : ℕ → Standing) (listed : ℕ → ℕ) (blocks : ℕ)
    : Type 0 where
  pub middles : (k : ℕ) → k < count → in_middle (standing k) ≡ middle k
  pub still_listed : (j : ℕ) → j < blocks → standing (listed j) ≡ Listed
  pub room : blocks ≤ size_on (λ k. is_listed (standing k)) count

-- what place is reached from what place
abbrev pub reached_table : (ℕ → ℕ → Bool) → (ℕ → ℕ) → ℕ → ℕ → Bool
reached_table strict number x y = leads_in strict (number x) (number y)

-- the component of block j
abbrev pub listed_of : Listing → ℕ → ℕ
listed_of l j = slice_index l.listed.items j
