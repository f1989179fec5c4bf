-- Which numbers from `from` on and below `end` a test holds of.
use Rattle.std.specs.Prelude.{ℕ, ◌<◌, ◌≤◌, ◌≡◌, Bool, true, false}

-- of none
abbrev pub HasNone : (ℕ → Bool) → ℕ → ℕ → Type 0
HasNone test from end = (y : ℕ) → from ≤ y → y < end → test y ≡ false

-- y is the least of them
pub record IsLeast (test : ℕ → Bool) (from end y : ℕ) : Type 0 where
  pub from_on : from ≤ y
  pub before_end : y < end
  pub holds : test y ≡ true
  pub none_before : HasNone test from y
