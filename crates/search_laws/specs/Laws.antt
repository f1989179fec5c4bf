-- The laws of shortest walks.
use Rattle.std.specs.Prelude.{ℕ, ◌+◌, ◌<◌, ◌≤◌, ◌≡◌, Bool, true}
use Rattle.search_laws.specs.Searches.{IsShortest}

-- a shortest walk has no shortcut, meets no place twice, and has one start and one end
pub record IsBareWalk (arc : ℕ → ℕ → Bool) (starts ends : ℕ → Bool) (at : ℕ → ℕ) (k : ℕ) : Type 0 where
  pub no_shortcut : (i j : ℕ) → j ≤ k → i + 1 < j → arc (at i) (at j) ≡ true → ⊥
  pub places_differ : (i j : ℕ) → i ≤ k → j ≤ k → at i ≡ at j → i ≡ j
  pub one_start : (i : ℕ) → i ≤ k → starts (at i) ≡ true → i ≡ 0
  pub one_end : (i : ℕ) → i ≤ k → ends (at i) ≡ true → i ≡ k

abbrev pub ShortestWalksAreBare : Type 0
ShortestWalksAreBare = (arc : ℕ → ℕ → Bool) (n : ℕ) (starts ends : ℕ → Bool) (at : ℕ → ℕ) (k : ℕ) →
    IsShortest arc n starts ends at k → IsBareWalk arc starts ends at k
