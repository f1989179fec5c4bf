-- Arcs, free columns and ends, by what the rows of a form hold.
use Rattle.std.specs.Prelude.{ℕ, ◌<◌, ◌≡◌, ◌≢◌, ◌⊎◌, Bool, true, List, length, map, slice_index}
use Rattle.cert_text.specs.Contents.{Contents}
use Rattle.cert_text.specs.Readings.{pair_at}
use Rattle.part_rules.specs.Listed.{arc_in, marked}
use Rattle.part_arcs.specs.Marking.{first_numbers, row_of_lists}

-- item j of the pairs has column b, and a stands in its row
abbrev pub Leads : List (List ℕ) → List (ℕ × ℕ) → ℕ → ℕ → Type 0
Leads rows pairs a b = (j k : ℕ) × (j < length pairs) × (k < length (row_of_lists rows (pair_at pairs j).0))
    × ((pair_at pairs j).1 ≡ b) × (slice_index (row_of_lists rows (pair_at pairs j).0) k ≡ a)

-- x stands in a row without an item
abbrev pub Ends : List (List ℕ) → List (ℕ × ℕ) → ℕ → Type 0
Ends rows pairs x = (i k : ℕ) × (i < length rows) × ((j : ℕ) → j < length pairs → (pair_at pairs j).0 ≡ i → ⊥)
    × (k < length (row_of_lists rows i)) × (slice_index (row_of_lists rows i) k ≡ x)

-- an arc for each place of a row with an item, but that of its column
pub record AreArcsFrom (c : Contents) (arcs : List (ℕ × ℕ)) : Type 0 where
  pub base : (a b : ℕ) → a ≢ b → Leads (map first_numbers c.p) c.base a b → arc_in arcs a b ≡ true
  pub mates : (a b : ℕ) → a ≢ b → Leads c.t c.mates a b → arc_in arcs a b ≡ true
  pub only : (a b : ℕ) → arc_in arcs a b ≡ true →
      (a ≢ b) × (Leads (map first_numbers c.p) c.base a b ⊎ Leads c.t c.mates a b)

-- the columns of no item are marked
pub record AreFreeFrom (c : Contents) (free : List Bool) : Type 0 where
  pub count : length free ≡ c.shape.columns
  pub set : (x : ℕ) → x < c.shape.columns → marked free x ≡ true →
      ((j : ℕ) → j < length c.base → (pair_at c.base j).1 ≡ x → ⊥)
      × ((j : ℕ) → j < length c.mates → (pair_at c.mates j).1 ≡ x → ⊥)
  pub all : (x : ℕ) → x < c.shape.columns → ((j : ℕ) → j < length c.base → (pair_at c.base j).1 ≡ x → ⊥) →
      ((j : ℕ) → j < length c.mates → (pair_at c.mates j).1 ≡ x → ⊥) → marked free x ≡ true

-- what stands in a row without an item is marked
pub record AreEndsFrom (c : Contents) (ends : List Bool) : Type 0 where
  pub count : length ends ≡ c.shape.columns
  pub base : (x : ℕ) → Ends (map first_numbers c.p) c.base x → marked ends x ≡ true
  pub mates : (x : ℕ) → Ends c.t c.mates x → marked ends x ≡ true
  pub only : (x : ℕ) → marked ends x ≡ true → Ends (map first_numbers c.p) c.base x ⊎ Ends c.t c.mates x
