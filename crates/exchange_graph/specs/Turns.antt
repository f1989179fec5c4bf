-- The places that a place leads to, told one after another: each has a turn, and several may have the same one.
use Rattle.std.specs.Prelude.{ℕ, ◌<◌, ◌^◌, ◌≡◌, ◌⊎◌, Bool, true}

-- each of them has its turn before `from`
abbrev pub HaveHadTurns : (ℕ → Bool) → (ℕ → ℕ) → ℕ → ℕ → Type 0
HaveHadTurns arc turn n from = (y : ℕ) → y < n → arc y ≡ true → turn y < from

-- y is one of them, and the only one, if any, whose turn is not before `from` and is before `next`
pub record HasNextTurn (arc : ℕ → Bool) (turn : ℕ → ℕ) (n from y next : ℕ) : Type 0 where
  pub below : y < n
  pub holds : arc y ≡ true
  pub onward : from < next
  pub fits : next < 2 ^ 64
  pub others : (z : ℕ) → z < n → arc z ≡ true → turn z < next → (turn z < from) ⊎ (z ≡ y)
