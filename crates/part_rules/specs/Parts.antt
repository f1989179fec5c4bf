-- The parts in which places stand, by their numbers.
use Rattle.std.specs.Prelude.{ℕ, ◌+◌, ◌<◌, ◌≤◌, ◌≡◌, ◌↔◌, Bool, true}

-- each of n places stands in the first part F, in one of b blocks or in the last part L: part numbers these from 1, and
-- block numbers the blocks from 0; each block has a place
pub record AreNumbered (n b : ℕ) (F L : ℕ → Bool) (block part : ℕ → ℕ) : Type 0 where
  pub from : (x : ℕ) → x < n → 1 ≤ part x
  pub to : (x : ℕ) → x < n → part x ≤ b + 2
  pub first : (x : ℕ) → x < n → (F x ≡ true) ↔ (part x ≡ 1)
  pub last : (x : ℕ) → x < n → (L x ≡ true) ↔ (part x ≡ b + 2)
  pub number : (x : ℕ) → x < n → 1 < part x → part x < b + 2 → block x + 2 ≡ part x
  pub member : (k : ℕ) → k < b → (x : ℕ) × (x < n) × (part x ≡ k + 2)
