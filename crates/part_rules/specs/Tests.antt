-- What can be tested of parts by their numbers alone: 1 for the first part, k + 2 for block k of b, b + 2 for the last.
use Rattle.std.specs.Prelude.{ℕ, ◌+◌, ◌<◌, ◌≡◌, ◌⊎◌, ◌↔◌, Bool, true}
use Rattle.closed_sets.specs.Walks.{ReachesOn}

-- a place of part s may lead to one of part t
abbrev pub MayLead : ℕ → (ℕ → ℕ → Bool) → ℕ → ℕ → Type 0
MayLead b lower s t = (s ≡ b + 2) ⊎ (t ≡ 1) ⊎ (s ≡ t)
    ⊎ ((k l : ℕ) × (k < b) × (l < b) × (s ≡ l + 2) × (t ≡ k + 2) × ReachesOn lower b l k)

-- starts stand first and ends last, and each arc leads where it may
pub record ArcsAreDown (arc : ℕ → ℕ → Bool) (n : ℕ) (starts ends : ℕ → Bool) (part : ℕ → ℕ) (b : ℕ)
    (lower : ℕ → ℕ → Bool) : Type 0 where
  pub starts_first : (x : ℕ) → x < n → starts x ≡ true → part x ≡ 1
  pub ends_last : (x : ℕ) → x < n → ends x ≡ true → part x ≡ b + 2
  pub arcs : (x y : ℕ) → x < n → y < n → arc x y ≡ true → MayLead b lower (part x) (part y)

-- below tells what is reached by chains of the lists
abbrev pub TellsChains : (ℕ → ℕ → Bool) → ℕ → (ℕ → ℕ → Bool) → Type 0
TellsChains lower b below = (l k : ℕ) → l < b → k < b → (below l k ≡ true) ↔ ReachesOn lower b l k

-- head k is a place of block k
abbrev pub AreHeads : ℕ → (ℕ → ℕ) → ℕ → (ℕ → ℕ) → Type 0
AreHeads n part b head = (k : ℕ) → k < b → (head k < n) × (part (head k) ≡ k + 2)

-- the places of S, and the heads of the blocks
abbrev pub AreSeeds : ℕ → (ℕ → Bool) → ℕ → (ℕ → ℕ) → (ℕ → Bool) → Type 0
AreSeeds n S b head seeds = (x : ℕ) → x < n → (seeds x ≡ true) ↔ ((S x ≡ true) ⊎ ((k : ℕ) × (k < b) × (x ≡ head k)))

-- each place but those of the last part is met from below, and each but those of the first from above
abbrev pub AreMet : ℕ → ℕ → (ℕ → ℕ) → (ℕ → Bool) → (ℕ → Bool) → Type 0
AreMet n b part from to = (x : ℕ) → x < n → ((part x ≡ b + 2) ⊎ (from x ≡ true)) × ((part x ≡ 1) ⊎ (to x ≡ true))

-- an arc leads from each block to each one of its list, and from no other one of the list a chain leads to that
pub record AreCovers (arc : ℕ → ℕ → Bool) (n : ℕ) (part : ℕ → ℕ) (b : ℕ) (lower : ℕ → ℕ → Bool) : Type 0 where
  pub direct : (k l : ℕ) → l < b → lower l k ≡ true →
      (x y : ℕ) × (x < n) × (y < n) × (part x ≡ l + 2) × (part y ≡ k + 2) × (arc x y ≡ true)
  pub none_between : (k m l : ℕ) → l < b → lower l k ≡ true → lower l m ≡ true → ReachesOn lower b m k → ⊥

-- head k is the first place of block k
pub record AreFirstPlaces (n : ℕ) (part : ℕ → ℕ) (b : ℕ) (head : ℕ → ℕ) : Type 0 where
  pub heads : AreHeads n part b head
  pub least : (k x : ℕ) → k < b → x < n → part x ≡ k + 2 → head k < x + 1

-- a block that stands before another one, and behind all of that one's list, has the lesser first place
abbrev pub IsLeastFirst : ℕ → (ℕ → ℕ → Bool) → (ℕ → ℕ) → Type 0
IsLeastFirst b lower head = (k l : ℕ) → k < l → l < b → ((m : ℕ) → lower l m ≡ true → m < k) → head k < head l
