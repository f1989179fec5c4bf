-- Equations with their costs.
use Rattle.std.specs.Prelude.{ℕ, ◌^◌, ◌<◌, ◌≡◌, List, length, slice_index, slice_index_or}
use Rattle.equation_choice.specs.declared.repair.Priced.{Priced}

-- the first n equations by rising number, each with its cost, which 64 bits have room for
pub record ArePriced (costs : List ℕ) (n : ℕ) (list : List Priced) : Type 0 where
  pub count : length list ≡ n
  pub number : (k : ℕ) (d : Priced) → k < n → (slice_index_or list k d).equation ≡ k
  pub cost : (k : ℕ) (d : Priced) → k < n → (slice_index_or list k d).cost ≡ slice_index costs k
  pub below : (k : ℕ) (d : Priced) → k < n → (slice_index_or list k d).cost < 2 ^ 64
