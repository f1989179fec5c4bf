-- What is counted of a search.
use Rattle.std.specs.Prelude.{ℕ, ◌+◌, ◌-◌, ◌^◌, ◌<◌, ◌≤◌, ◌≡◌, Bool, true, min}
use Rattle.residue_theory.specs.Sums.{size_on}
use Rattle.closed_sets.specs.Walks.{Walk}

-- y is reached from a start by a walk of at most k arcs
abbrev pub IsWithinReach : (ℕ → ℕ → Bool) → ℕ → (ℕ → Bool) → ℕ → ℕ → Type 0
IsWithinReach arc n starts k y = (s : ℕ) × (m : ℕ) × (s < n) × (starts s ≡ true) × (m ≤ k) × Walk arc n s y m

-- looks is the size of a set of places, those that were looked at in a search that finds an end k arcs away: each is at
-- most k arcs away from a start and is no end, and each place that is fewer than k arcs away is one of them
pub record AreLookedAt (arc : ℕ → ℕ → Bool) (n : ℕ) (starts ends : ℕ → Bool) (k looks : ℕ) : Type 0 where
  pub places : ℕ → Bool
  pub size : size_on places n ≡ looks
  pub near : (y : ℕ) → y < n → places y ≡ true → IsWithinReach arc n starts k y
  pub no_end : (y : ℕ) → y < n → places y ≡ true → ends y ≡ true → ⊥
  pub nearer : (s m y : ℕ) → s < n → starts s ≡ true → m < k → y < n → Walk arc n s y m → places y ≡ true

-- a count after so many more: at the greatest number that it holds it stays
abbrev pub counted_on : ℕ → ℕ → ℕ
counted_on count more = min (count + more) (2 ^ 64 - 1)

-- so many looks were made, no more than there are places: as many steps, from `before` to `after`, and counted with all
-- looks, from `all` to `now`
pub record AreLooksTold (n looks before after all now : ℕ) : Type 0 where
  pub told : after ≡ before + looks
  pub all_looks : now ≡ counted_on all looks
  pub few : looks ≤ n
