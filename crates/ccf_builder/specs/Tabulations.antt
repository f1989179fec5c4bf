-- Lists that tabulate a function.
use Rattle.std.specs.Prelude.{ℕ, ◌<◌, ◌≡◌, List, length, slice_get, Some}

-- the list has the values of f at 0 to n - 1
pub record Tabulates {A : Type 0} (f : ℕ → A) (n : ℕ) (list : List A) : Type 0 where
  pub count : length list ≡ n
  pub at : (x : ℕ) → x < n → slice_get list x ≡ Some (f x)
