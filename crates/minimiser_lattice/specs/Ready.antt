-- The components that wait: those that are ready, and by which one each other one is held back.
use Rattle.std.specs.Prelude.{ℕ, ◌+◌, ◌-◌, ◌<◌, ◌≤◌, ◌≡◌, ◌≢◌, ◌⊎◌, ◌∷◌, Bool, true, false, All, vec_len, slice_index}
use Rattle.std.specs.List.{Contains}
use Rattle.std.specs.List.Sorted.{IsPermutation}
use Rattle.std.specs.Ordering.{nat_cmp}
use Rattle.std.specs.BinaryHeap.{IsHeap, heap_capacity, heap_items, heap_len}
use Rattle.residue_theory.specs.Sums.{size_on}
use Rattle.exchange_graph.specs.Marks.{members_of}
use Rattle.bit_table.specs.Bits.{IsBitSet, bit_in}
use Rattle.minimiser_lattice.specs.Components.{component_number, component_places}
use Rattle.minimiser_lattice.specs.Standings.{IsWaiting, NoneWaitsBelow}
use Rattle.minimiser_lattice.specs.declared.components.Components.{Components}
use Rattle.minimiser_lattice.specs.declared.ready.Ready.{Ready}
use Rattle.minimiser_lattice.specs.declared.standing.Standing.{Standing}

-- there is room for n components, and the heap is one
pub record HasRoomFor (r : Ready) (n : ℕ) : Type 0 where
  pub least : vec_len r.least ≡ n
  pub held : vec_len r.held ≡ n
  pub rows : r.waits.rows ≡ n
  pub size : r.waits.size ≡ n
  pub room : n ≤ heap_capacity r.keys
  pub ordered : IsHeap nat_cmp (heap_items r.keys)

abbrev pub least_of : Ready → ℕ → ℕ
least_of r k = slice_index r.least.items k

abbrev pub held_of : Ready → ℕ → Bool
held_of r = members_of r.held.items

-- x is the least place of component k
pub record IsLeastPlace (number : ℕ → ℕ) (n k x : ℕ) : Type 0 where
  pub below : x < n
  pub has : number x ≡ k
  pub least : (y : ℕ) → y < n → number y ≡ k → x ≤ y

-- the greater its key, the lesser is a place: of n places that with key y
abbrev pub place_by_key : ℕ → ℕ → ℕ
place_by_key n y = n - 1 - y

-- component k waits for another one that it leads to
abbrev pub IsHeldBack : (ℕ → ℕ → Bool) → (ℕ → Standing) → Ready → ℕ → Type 0
IsHeldBack strict standing r k = (l : ℕ) × (l < k) × (strict k l ≡ true) × (bit_in r.waits l k ≡ true)
    × IsWaiting standing l

-- the key of a place whose component leads to none that waits
abbrev pub IsKey : (ℕ → ℕ) → (ℕ → ℕ → Bool) → (ℕ → Standing) → ℕ → ℕ → Type 0
IsKey number strict standing n y = (y < n)
    × NoneWaitsBelow strict standing (number (place_by_key n y)) (number (place_by_key n y))

-- each component that waits is held back, unless it is excused, or has its least place in the heap
pub record AreApart (number : ℕ → ℕ) (strict : ℕ → ℕ → Bool) (standing : ℕ → Standing) (n count : ℕ)
    (Excused : ℕ → Type 0) (r : Ready) : Type 0 where
  pub room : HasRoomFor r n
  pub few : heap_len r.keys + size_on (held_of r) count ≤ count
  pub least : (k : ℕ) → k < count → IsLeastPlace number n k (least_of r k)
  pub held : (k : ℕ) → k < count → IsWaiting standing k → held_of r k ≡ true →
      Excused k ⊎ IsHeldBack strict standing r k
  pub free : (k : ℕ) → k < count → IsWaiting standing k → held_of r k ≡ false →
      Contains (heap_items r.keys) (place_by_key n (least_of r k))
  pub ready : All (IsKey number strict standing n) (heap_items r.keys)
  pub watched : (l k : ℕ) → l < n → k < count → bit_in r.waits l k ≡ true → NoneWaitsBelow strict standing k l

-- the same of these components
abbrev pub AreApartIn : Components → (ℕ → Standing) → (ℕ → Type 0) → Ready → Type 0
AreApartIn c standing Excused r =
    AreApart (component_number c) (bit_in c.strict) standing (component_places c) c.count Excused r

-- component k waits for l, the first one that it leads to and that waits
pub record IsMadeWait (strict : ℕ → ℕ → Bool) (standing : ℕ → Standing) (n k from : ℕ) (r now : Ready) : Type 0 where
  pub holder : ℕ
  pub from_on : from ≤ holder
  pub below : holder < k
  pub leads : strict k holder ≡ true
  pub waiting : IsWaiting standing holder
  pub none_before : NoneWaitsBelow strict standing k holder
  pub set : IsBitSet (bit_in r.waits) (bit_in now.waits) n holder k
  pub held : now.held ≡ r.held
  pub keys : now.keys ≡ r.keys

-- the key of component k's least place is put into the heap, and nothing holds the component back
pub record IsPutReady (n k : ℕ) (r now : Ready) : Type 0 where
  pub free : held_of now k ≡ false
  pub others : (j : ℕ) → j ≢ k → held_of now j ≡ held_of r j
  pub pushed : IsPermutation (place_by_key n (least_of r k) ∷ heap_items r.keys) (heap_items now.keys)
  pub more : heap_len now.keys ≡ heap_len r.keys + 1
  pub waits : now.waits ≡ r.waits

-- component k, which leads to none that waits, is ready
pub record IsMadeReady (strict : ℕ → ℕ → Bool) (standing : ℕ → Standing) (n k : ℕ) (r now : Ready) : Type 0 where
  pub none_waits : NoneWaitsBelow strict standing k k
  pub put : IsPutReady n k r now

abbrev pub AreSettledStandings : (ℕ → ℕ → Bool) → (ℕ → Standing) → ℕ → ℕ → ℕ → Ready → Ready → Type 0
AreSettledStandings strict standing n k from r now =
    IsMadeWait strict standing n k from r now ⊎ IsMadeReady strict standing n k r now
