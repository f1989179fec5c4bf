-- What two searches within the parts tell.
use Rattle.std.specs.Prelude.{ℕ, ◌<◌, ◌≡◌, ◌↔◌, Bool, true, IsTrue}
use Rattle.closed_sets.specs.Walks.{FromSome, ToSome}
use Rattle.part_rules.specs.Tests.{AreMet, AreSeeds}

-- one search goes forth from the starts and a head of each block, the other back from the ends and the heads: the
-- answer is whether each place is met as it should be
pub record IsSearched (within : ℕ → ℕ → Bool) (n : ℕ) (starts ends : ℕ → Bool) (part : ℕ → ℕ) (b : ℕ) (head : ℕ → ℕ)
    (answer : Bool) : Type 0 where
  pub low : ℕ → Bool
  pub high : ℕ → Bool
  pub from : ℕ → Bool
  pub to : ℕ → Bool
  pub low_seeds : AreSeeds n starts b head low
  pub high_seeds : AreSeeds n ends b head high
  pub reached : (y : ℕ) → y < n → (from y ≡ true) ↔ FromSome within n low y
  pub reaching : (x : ℕ) → x < n → (to x ≡ true) ↔ ToSome within n high x
  pub told : IsTrue answer ↔ AreMet n b part from to
