-- Blocks of places and their order.
use Rattle.std.specs.Prelude.{ℕ, ◌<◌, ◌≤◌, ◌≡◌, ◌⊎◌, ◌↔◌, Bool, true}
use Rattle.closed_sets.specs.Walks.{Reaches, FromSome, ToSome, Mutual}
use Rattle.closed_sets.specs.Closed.{IsMiddle, IsReachedSet}

-- block numbers the blocks of the middle from 0 to b - 1: at each place stands, of the blocks all of whose lower ones
-- have stood before, the one with the least place
pub record IsListing (arc : ℕ → ℕ → Bool) (n : ℕ) (starts ends : ℕ → Bool) (block : ℕ → ℕ) (b : ℕ) : Type 0 where
  pub below_b : (x : ℕ) → IsMiddle arc n starts ends x → block x < b
  pub each : (k : ℕ) → k < b → (x : ℕ) × IsMiddle arc n starts ends x × (block x ≡ k)
  pub shared : (x y : ℕ) → IsMiddle arc n starts ends x → IsMiddle arc n starts ends y →
      block x ≡ block y → Mutual arc n x y
  pub joined : (x y : ℕ) → IsMiddle arc n starts ends x → IsMiddle arc n starts ends y →
      Mutual arc n x y → block x ≡ block y
  pub lower_before : (x y : ℕ) → IsMiddle arc n starts ends x → IsMiddle arc n starts ends y →
      Reaches arc n x y → block y ≤ block x
  pub least : (x k : ℕ) → IsMiddle arc n starts ends x → k < block x →
      ((y : ℕ) → IsMiddle arc n starts ends y → Reaches arc n x y → (block y < k) ⊎ (block y ≡ block x)) →
      (z : ℕ) × (z < x) × IsMiddle arc n starts ends z × (block z ≡ k)

-- X is what is reached from a start, and the places of the blocks of B, which holds with each block all blocks below it
pub record IsIdeal (arc : ℕ → ℕ → Bool) (n : ℕ) (starts ends : ℕ → Bool) (block : ℕ → ℕ) (X B : ℕ → Bool) : Type 0 where
  pub down : (x y : ℕ) → IsMiddle arc n starts ends x → IsMiddle arc n starts ends y → Reaches arc n x y →
      B (block x) ≡ true → B (block y) ≡ true
  pub holds : (x : ℕ) → x < n → FromSome arc n starts x
      ⊎ (IsMiddle arc n starts ends x × (B (block x) ≡ true)) → X x ≡ true
  pub held : (x : ℕ) → x < n → X x ≡ true → FromSome arc n starts x
      ⊎ (IsMiddle arc n starts ends x × (B (block x) ≡ true))

-- below k l says of two blocks of a listing that k is another one than l and is reached from it
pub record IsBelow (arc : ℕ → ℕ → Bool) (n : ℕ) (starts ends : ℕ → Bool) (block : ℕ → ℕ) (b : ℕ)
    (below : ℕ → ℕ → Bool) : Type 0 where
  pub apart : (k l : ℕ) → k < b → l < b → below k l ≡ true → k ≡ l → ⊥
  pub tells : (x y : ℕ) → IsMiddle arc n starts ends x → IsMiddle arc n starts ends y →
      below (block y) (block x) ≡ true → Reaches arc n x y
  pub made : (x y : ℕ) → IsMiddle arc n starts ends x → IsMiddle arc n starts ends y → Reaches arc n x y →
      (block y ≡ block x → ⊥) → below (block y) (block x) ≡ true

-- F is what is reached from a start, L is what reaches an end, and block lists the others from 0 to b - 1
pub record AreParts (arc : ℕ → ℕ → Bool) (n : ℕ) (starts ends F L : ℕ → Bool) (block : ℕ → ℕ) (b : ℕ) : Type 0 where
  pub first : IsReachedSet arc n starts F
  pub last : (x : ℕ) → x < n → (L x ≡ true ↔ ToSome arc n ends x)
  pub listing : IsListing arc n starts ends block b
