-- Where the columns of [P | S] stand in one table, after a row or a column more or less.
use Rattle.std.specs.Prelude.{ℕ, ◌+◌, ◌-◌, ◌<◌, ◌≤◌, ◌≡◌, ◌≢◌, true, false, cond, eqb}
use Rattle.linear_algebra.specs.Parts.{skip, unskip}
use Rattle.linear_algebra.specs.Products.{identity}
use Rattle.row_table.specs.Places.{HaveSlots, Places, last_at, whole}

-- a list with x put in at v
abbrev pub put_in : {A : Type 0} → ℕ → A → (ℕ → A) → ℕ → A
put_in v x f c = cond (eqb c v) x (f (unskip v c))

-- without row k and its unit column v
abbrev pub places_without_row : ℕ → ℕ → Places → Places
places_without_row k v s = record {
  basic = λ i. unskip v (s.basic (skip k i));
  is_unit = λ c. s.is_unit (skip v c);
  row = λ c. unskip k (s.row (skip v c));
  slot = λ c. s.slot (skip v c);
}

-- without row k of m rows and its unit column v; the last row takes the place of k
abbrev pub places_with_last_at : ℕ → ℕ → ℕ → Places → Places
places_with_last_at k m v s = record {
  basic = λ i. unskip v (s.basic (last_at k (m - 1) i));
  is_unit = λ c. s.is_unit (skip v c);
  row = λ c. cond (eqb (skip v c) (s.basic (m - 1))) k (s.row (skip v c));
  slot = λ c. s.slot (skip v c);
}

-- with a row after the m rows, and column v as its unit column
abbrev pub places_with_row : ℕ → ℕ → Places → Places
places_with_row m v s = record {
  basic = λ i. cond (eqb i m) v (skip v (s.basic i));
  is_unit = put_in v true s.is_unit;
  row = put_in v m s.row;
  slot = put_in v 0 s.slot;
}

-- without column v, whose slot the column takes that has the last of n slots
abbrev pub places_without_column : ℕ → ℕ → Places → Places
places_without_column n v s = record {
  basic = λ i. unskip v (s.basic i);
  is_unit = λ c. s.is_unit (skip v c);
  row = λ c. s.row (skip v c);
  slot = λ c. cond (eqb (s.slot (skip v c)) (n - 1)) (s.slot v) (s.slot (skip v c));
}

-- with a column v in a slot after the n slots
abbrev pub places_with_column : ℕ → ℕ → Places → Places
places_with_column n v s = record {
  basic = λ i. skip v (s.basic i);
  is_unit = put_in v false s.is_unit;
  row = put_in v 0 s.row;
  slot = put_in v n s.slot;
}

-- s and t place the columns alike; basic columns are told for m rows
pub record ArePlacedAlike (m : ℕ) (s t : Places) : Type 0 where
  pub basic_is : (i : ℕ) → i < m → t.basic i ≡ s.basic i
  pub unit_is : t.is_unit ≡ s.is_unit
  pub row_is : t.row ≡ s.row
  pub slot_is : t.slot ≡ s.slot

-- a row leaves with its unit column; the other entries stay
abbrev pub RowsLeavePlaces : Type 0
RowsLeavePlaces =
    (m n all : ℕ) (s : Places) (a : ℕ → ℕ → ℕ) (k : ℕ) → HaveSlots m n all s → k < m →
    HaveSlots (m - 1) n (all - 1) (places_without_row k (s.basic k) s)
    × ((i c : ℕ) → c < all - 1 → whole (places_without_row k (s.basic k) s) (λ i j. a (skip k i) j) i c
    ≡ whole s a (skip k i) (skip (s.basic k) c))

-- a row joins with its unit column; the other entries of the other rows stay
abbrev pub RowsJoinPlaces : Type 0
RowsJoinPlaces =
    (m n all : ℕ) (s : Places) (a : ℕ → ℕ → ℕ) (v : ℕ) → HaveSlots m n all s → v ≤ all →
    HaveSlots (m + 1) n (all + 1) (places_with_row m v s)
    × ((i c : ℕ) → whole (places_with_row m v s) a i (skip v c) ≡ whole s a i c)
    × ((i : ℕ) → whole (places_with_row m v s) a i v ≡ identity i m)

-- a column that is no unit column leaves: where the last column of the table takes its place, the other entries stay
abbrev pub ColumnsLeavePlaces : Type 0
ColumnsLeavePlaces =
    (m n all : ℕ) (s : Places) (a b : ℕ → ℕ → ℕ) (v : ℕ) → HaveSlots m n all s → v < all → s.is_unit v ≡ false →
    ((i : ℕ) → b i (s.slot v) ≡ a i (n - 1)) → ((i j : ℕ) → j ≢ s.slot v → b i j ≡ a i j) →
    HaveSlots m (n - 1) (all - 1) (places_without_column n v s)
    × ((i c : ℕ) → c < all - 1 → whole (places_without_column n v s) b i c ≡ whole s a i (skip v c))

-- a column joins: the other entries stay
abbrev pub ColumnsJoinPlaces : Type 0
ColumnsJoinPlaces =
    (m n all : ℕ) (s : Places) (a : ℕ → ℕ → ℕ) (v : ℕ) → HaveSlots m n all s → v ≤ all →
    HaveSlots m (n + 1) (all + 1) (places_with_column n v s)
    × ((i c : ℕ) → whole (places_with_column n v s) a i (skip v c) ≡ whole s a i c)
    × ((i : ℕ) → whole (places_with_column n v s) a i v ≡ a i n)

-- a row leaves with its unit column, and the last row takes its place; the other entries stay
abbrev pub LastRowsTakePlaces : Type 0
LastRowsTakePlaces =
    (m n all : ℕ) (s : Places) (k : ℕ) → HaveSlots m n all s → k < m →
    HaveSlots (m - 1) n (all - 1) (places_with_last_at k m (s.basic k) s)
    × ((a b : ℕ → ℕ → ℕ) → ((i j : ℕ) → i < m - 1 → j < n → b i j ≡ a (last_at k (m - 1) i) j) →
    (i c : ℕ) → i < m - 1 → c < all - 1 → whole (places_with_last_at k m (s.basic k) s) b i c
    ≡ whole s a (last_at k (m - 1) i) (skip (s.basic k) c))
