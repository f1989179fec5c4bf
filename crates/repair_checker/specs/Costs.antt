-- What equations cost: whole numbers, of which few differ.
use Rattle.std.specs.Prelude.{ℕ, ◌≡◌, ◌<◌, ◌≤◌, ◌+◌, true, List, filter, leb, length, slice_index}
use Rattle.std.specs.List.{range_with_len}
use Rattle.residue_theory.specs.Sets.{has}

-- at most sixteen numbers are among these
abbrev pub AreFew : List ℕ → Type 0
AreFew costs = (levels : List ℕ) × (length levels ≤ 16)
    × ((e : ℕ) → e < length costs → has levels (slice_index costs e) ≡ true)

-- a cost for each of n equations, none above 999,999,999, and at most sixteen different ones
pub record AreCosts (n : ℕ) (costs : List ℕ) : Type 0 where
  pub count : length costs ≡ n
  pub small : (e : ℕ) → slice_index costs e ≤ 999999999
  pub few : AreFew costs

-- of some equations those that cost at least so much
abbrev pub costing_of : List ℕ → ℕ → List ℕ → List ℕ
costing_of costs cost equations = filter (λ e. leb cost (slice_index costs e)) equations

-- all equations that cost at least so much, rising
abbrev pub all_costing : List ℕ → ℕ → List ℕ
all_costing costs cost = costing_of costs cost (range_with_len 0 (length costs))

-- the levels are the costs that equations have, each once and falling
pub record AreLevels (costs levels : List ℕ) : Type 0 where
  pub falling : (k : ℕ) → k + 1 < length levels → slice_index levels (k + 1) < slice_index levels k
  pub each : (e : ℕ) → e < length costs → has levels (slice_index costs e) ≡ true
  pub some : (k : ℕ) → k < length levels → has costs (slice_index levels k) ≡ true
