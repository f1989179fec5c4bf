-- The loops of a search, place by place.
use Rattle.std.specs.Prelude.{ℕ, ◌+◌, ◌<◌, ◌≤◌, ◌≡◌, Bool, true, false}
use Rattle.search_laws.specs.Searches.{SearchState, IsSearch, IsGrown}

-- the place at `head` is being looked at: what it leads to and had its turn before `from` is reached; s₀ is what was
-- known before
pub record IsLookingFrom (arc : ℕ → ℕ → Bool) (turn : ℕ → ℕ → ℕ) (n : ℕ) (s₀ s : SearchState)
    (f₀ head filled from place depth : ℕ) : Type 0 where
  pub search : IsSearch arc n s head filled
  pub grown : IsGrown n s₀ s f₀
  pub looks_at : s.order head ≡ place
  pub deeper : s.depth place + 1 ≡ depth
  pub more : head < filled
  pub first : f₀ ≤ filled
  pub scanned : (y : ℕ) → y < n → turn place y < from → arc place y ≡ true → s.reached y ≡ true

-- of the places below i the starts are reached, and no other place is
pub record IsStartingFrom (arc : ℕ → ℕ → Bool) (n : ℕ) (starts : ℕ → Bool) (s : SearchState) (filled i : ℕ)
    : Type 0 where
  pub search : IsSearch arc n s 0 filled
  pub from : (y : ℕ) → y < n → s.reached y ≡ true → (s.depth y ≡ 0) × (starts y ≡ true)
  pub scanned : (y : ℕ) → y < i → starts y ≡ true → s.reached y ≡ true
  pub waiting : (y : ℕ) → i ≤ y → y < n → s.reached y ≡ false
