-- Lists of numbers.
use Rattle.std.specs.Prelude.{ℕ, ◌<◌, List, length, slice_index}

-- each item is below n
abbrev pub AreAllBelow : ℕ → List ℕ → Type 0
AreAllBelow n list = (k : ℕ) → k < length list → slice_index list k < n
