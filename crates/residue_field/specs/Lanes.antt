-- Sixteen places of a row at a time.
use Rattle.std.specs.Prelude.{ℕ, ◌≡◌, ◌+◌, ◌*◌, ◌%◌, ◌/◌, ◌<◌, ◌≤◌, ◌⊎◌, List, length, slice_index}

-- the sixteen lanes, each by its place
pub record HasLanes (v : List ℕ) (lane : ℕ → ℕ) : Type 0 where
  pub len : length v ≡ 16
  pub lanes : (i : ℕ) → i < 16 → slice_index v i ≡ lane i

-- each of the sixteen lanes is below this number
abbrev pub AreBelow : ℕ → List ℕ → Type 0
AreBelow p v = (i : ℕ) → i < 16 → slice_index v i < p

-- a number of 32 bits with its high half brought down: the same modulo 65,521
abbrev pub folded : ℕ → ℕ
folded s = s / 65536 * 15 + s % 65536

-- `now` is `old` with the first n lanes from this place on
pub record AreLanesStored (n at : ℕ) (lanes old now : List ℕ) : Type 0 where
  pub len : length now ≡ length old
  pub here : (i : ℕ) → i < n → slice_index now (at + i) ≡ slice_index lanes i
  pub others : (j : ℕ) → (j < at) ⊎ (at + n ≤ j) → slice_index now j ≡ slice_index old j

-- `now` is `old` with k times `src` added modulo p at the places from one on and before another
pub record IsAddedLane (p k from to : ℕ) (old src now : List ℕ) : Type 0 where
  pub len : length now ≡ length old
  pub here : (j : ℕ) → from ≤ j → j < to → slice_index now j ≡ (slice_index old j + k * slice_index src j) % p
  pub others : (j : ℕ) → (j < from) ⊎ (to ≤ j) → slice_index now j ≡ slice_index old j
