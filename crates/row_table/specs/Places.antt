-- One table for P and S: where each column of [P | S] stands.
use Rattle.std.specs.Prelude.{ℕ, ◌<◌, ◌≡◌, Bool, true, false, cond, eqb, ltb, ◌-◌}
use Rattle.linear_algebra.specs.Products.{identity}
use Rattle.row_table.specs.Reductions.{IsReduced, with_column_as}

-- of the columns together m are unit columns, one for each row: `basic` tells which, `is_unit` whether a column is
-- one, and `row` its row.
-- Each other column stands in the table, at the column `slot` of the table
pub record Places : Type 0 where
  pub basic : ℕ → ℕ
  pub is_unit : ℕ → Bool
  pub row : ℕ → ℕ
  pub slot : ℕ → ℕ

-- of `all` columns, m are unit columns, and each other one has a slot below n of its own
pub record HaveSlots (m n all : ℕ) (s : Places) : Type 0 where
  pub basic_below : (i : ℕ) → i < m → s.basic i < all
  pub basic_unit : (i : ℕ) → i < m → s.is_unit (s.basic i) ≡ true
  pub basic_row : (i : ℕ) → i < m → s.row (s.basic i) ≡ i
  pub row_below : (c : ℕ) → c < all → s.is_unit c ≡ true → s.row c < m
  pub row_basic : (c : ℕ) → c < all → s.is_unit c ≡ true → s.basic (s.row c) ≡ c
  pub slot_below : (c : ℕ) → c < all → s.is_unit c ≡ false → s.slot c < n
  pub apart : (c d : ℕ) → c < all → d < all → s.is_unit c ≡ false → s.is_unit d ≡ false → s.slot c ≡ s.slot d → c ≡ d

-- the columns together, as the table a and the places tell them
abbrev pub whole : Places → (ℕ → ℕ → ℕ) → ℕ → ℕ → ℕ
whole s a i c = cond (s.is_unit c) (identity i (s.row c)) (a i (s.slot c))

-- column v becomes the unit column of row r, and the one that was it before takes the slot of v
abbrev pub exchanged : Places → ℕ → ℕ → Places
exchanged s r v = record {
  basic = λ i. cond (eqb i r) v (s.basic i);
  is_unit = λ c. cond (eqb c v) true (cond (eqb c (s.basic r)) false (s.is_unit c));
  row = λ c. cond (eqb c v) r (s.row c);
  slot = λ c. cond (eqb c (s.basic r)) (s.slot v) (s.slot c);
}

-- the table with the unit column of row r at j
abbrev pub with_unit : (ℕ → ℕ → ℕ) → ℕ → ℕ → ℕ → ℕ → ℕ
with_unit a r j = with_column_as a j (λ i. identity i r)

-- the exchange keeps that the columns are placed
abbrev pub ExchangesKeepThePlaces : Type 0
ExchangesKeepThePlaces =
    (m n all : ℕ) (s : Places) (r v : ℕ) → HaveSlots m n all s → r < m → v < all → s.is_unit v ≡ false →
    HaveSlots m n all (exchanged s r v)

-- and if the table, with the leaving unit column in the slot of v, is reduced by what stood there, all columns are
-- reduced by column v
abbrev pub ExchangesReduceTheWhole : Type 0
ExchangesReduceTheWhole =
    (p m n all : ℕ) (s : Places) (a b : ℕ → ℕ → ℕ) (r v : ℕ) → HaveSlots m n all s → r < m → v < all →
    s.is_unit v ≡ false →
    IsReduced p m n (with_unit a r (s.slot v)) b r (λ i. a i (s.slot v)) →
    IsReduced p m all (whole s a) (whole (exchanged s r v) b) r (λ i. whole s a i v)

-- the columns of q, with n columns, and after them the unit columns of the rows
abbrev pub with_units : ℕ → (ℕ → ℕ → ℕ) → ℕ → ℕ → ℕ
with_units n q i c = cond (ltb c n) (q i c) (identity i (c - n))

-- the numbers below n + 1 with the last one, n, in the place of k
abbrev pub last_at : ℕ → ℕ → ℕ → ℕ
last_at k n i = cond (eqb i k) n i
