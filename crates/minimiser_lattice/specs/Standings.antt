-- Where components stand while the blocks are listed.
use Rattle.std.specs.Prelude.{ℕ, ◌<◌, ◌≡◌, Bool, true, false, List, slice_index_or}
use Rattle.minimiser_lattice.specs.declared.standing.Standing.{Standing}
use Rattle.minimiser_lattice.specs.declared.standing.Standing.TheVariants.{Tail, Waiting, Listed}

-- where component k stands
abbrev pub standing_in : List Standing → ℕ → Standing
standing_in items k = slice_index_or items k Tail

abbrev pub in_middle : Standing → Bool
in_middle Tail = false
in_middle Waiting = true
in_middle Listed = true

abbrev pub is_listed : Standing → Bool
is_listed Tail = false
is_listed Waiting = false
is_listed Listed = true

abbrev pub IsWaiting : (ℕ → Standing) → ℕ → Type 0
IsWaiting standing k = standing k ≡ Waiting

-- no component below `to` that k leads to waits
abbrev pub NoneWaitsBelow : (ℕ → ℕ → Bool) → (ℕ → Standing) → ℕ → ℕ → Type 0
NoneWaitsBelow strict standing k to = (l : ℕ) → l < to → strict k l ≡ true → IsWaiting standing l → ⊥

-- component k waits, and nothing that it leads to waits
abbrev pub IsFreeToStand : (ℕ → ℕ → Bool) → (ℕ → Standing) → ℕ → Type 0
IsFreeToStand strict standing k = IsWaiting standing k × NoneWaitsBelow strict standing k k
