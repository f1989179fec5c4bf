-- The rows that are listed for the columns of a sparse matrix.
use Rattle.std.proofs.Common.{◌≡◌, ℕ, ◌+◌, ◌%◌, ◌<◌, ◌≢◌, ◌*◌, true, inl, inr, refl, sym, subst, ap, ◌∙◌, arith}
use Rattle.std.proofs.Math.Nat.{zero-mod}
use Rattle.std.proofs.lemmas.Bool.Decides.{nat_tests}
use Rattle.residue_theory.proofs.SumLaws.{nat_cases}
use Rattle.residue_theory.proofs.ResidueLaws.{agree-add, vanishes-mul}
use Rattle.linear_algebra.specs.Products.{identity}
use Rattle.linear_algebra.specs.RowOperations.{IsPivoted}
use Rattle.bit_table.specs.Bits.{Bits, bit_in}
use Rattle.sparse_q.specs.Tables.{SparseTable, sparse_rows, number_in, HasSize, IsRowSet}
use Rattle.row_table.specs.Reductions.{IsReduced, ZeroRowsStay}
use Rattle.row_transform.specs.Entries.{HasSizeOf, HasTableSize, AreRowsListed, AreEntriesListed, IsReadyForPivot}
use Rattle.row_transform.proofs.EntryLaws.{pivot-listed}
use Rattle.sparse_tableau.specs.Listings.{AreNumbersListed, AreSparseEntriesListed}

-- ---- before any operation
-- what is listed of a matrix is listed of its sparse form
pub numbers-listed : (m n : ℕ) (a : ℕ → ℕ → ℕ) (p : SparseTable) (b : Bits) → HasSize m n p → number_in p ≡ a →
    AreRowsListed m n (λ i j. a i j ≢ 0) b → AreNumbersListed p b
numbers-listed m n a p b size same listed = record {
  size = record {
    columns_fit = omega (arith, listed.size.columns_fit, size.width_is);
    rows_fit = omega (arith, listed.size.rows_fit, size.rows_are);
  };
  listed = λ i j il jl ne. listed.listed i j (subst (λ k. i < k) size.rows_are il)
      (subst (λ k. j < k) size.width_is jl) (λ z. ne (ap (λ (f : ℕ → ℕ → ℕ). f i j) same ∙ z));
}

-- the identity has its entries where row and column are the same
pub diagonal-listed : (m : ℕ) (v : SparseTable) (b : Bits) → HasSize m m v →
    ((i j : ℕ) → i < m → number_in v i j ≡ identity i j) → AreRowsListed m m (λ i j. i ≡ j) b → AreNumbersListed v b
diagonal-listed m v b size is listed = record {
  size = record {
    columns_fit = omega (arith, listed.size.columns_fit, size.width_is);
    rows_fit = omega (arith, listed.size.rows_fit, size.rows_are);
  };
  listed = λ i j il jl ne.
      let below : i < m = subst (λ k. i < k) size.rows_are il in
      elim (nat_cases i j) [
        | inl q ↦ listed.listed i j below (subst (λ k. j < k) size.width_is jl) q
        | inr other ↦ absurd (ne (is i j below ∙ zero i j other))
      ];
}
  where
    zero : (i j : ℕ) → i ≢ j → identity i j ≡ 0
    zero i j ne = grind (arith, nat_tests)

-- ---- a pivot
-- c is a with other numbers in row r, which are listed now too
pub row_set-listed : (a c : SparseTable) (b d : Bits) (r : ℕ) (f : ℕ → ℕ) → AreNumbersListed a b → IsRowSet a c r f →
    HasSizeOf (sparse_rows c) c.width d → ((j : ℕ) → j < c.width → number_in c r j ≢ 0 → bit_in d j r ≡ true) →
    ((i j : ℕ) → i < sparse_rows c → bit_in b j i ≡ true → bit_in d j i ≡ true) → AreNumbersListed c d
row_set-listed a c b d r f all set size row kept = record {
  size = size;
  listed = λ i j il jl ne. elim (nat_cases i r) [
    | inl q ↦ subst (λ x. bit_in d j x ≡ true) (sym q) (row j jl (subst (λ x. number_in c x j ≢ 0) q ne))
    | inr other ↦ kept i j il (all.listed i j (subst (λ x. i < x) set.size.rows_are il)
        (subst (λ x. j < x) set.size.width_is jl) (λ z. ne (set.others i j other ∙ z)))
  ];
}

-- and so, modulo p
pub row_set-entries : (p : ℕ) (a c : SparseTable) (b d : Bits) (r : ℕ) (f : ℕ → ℕ) → AreSparseEntriesListed p a b → IsRowSet a c r f →
    HasTableSize b d → ((j : ℕ) → j < c.width → number_in c r j ≢ 0 → bit_in d j r ≡ true) →
    ((i j : ℕ) → i < sparse_rows c → bit_in b j i ≡ true → bit_in d j i ≡ true) → AreSparseEntriesListed p c d
row_set-entries p a c b d r f all set size row kept = record {
  size = record {
    columns_fit = omega (arith, all.size.columns_fit, set.size.width_is, size.rows_same);
    rows_fit = omega (arith, all.size.rows_fit, set.size.rows_are, size.size_same);
  };
  listed = λ i j il jl ne. elim (nat_cases i r) [
    | inl q ↦ subst (λ x. bit_in d j x ≡ true) (sym q)
        (row j jl (λ z. ne (ap (λ x. number_in c x j % p) q ∙ ap (λ x. x % p) z ∙ zero-mod p)))
    | inr other ↦ kept i j il (all.listed i j (subst (λ x. i < x) set.size.rows_are il)
        (subst (λ x. j < x) set.size.width_is jl) (λ z. ne (ap (λ x. x % p) (set.others i j other) ∙ z)))
  ];
}

-- a row that is multiplied has entries where it had some
pub scaled-entries : (p : ℕ) (a c : SparseTable) (b : Bits) (r f : ℕ) → AreSparseEntriesListed p a b →
    IsRowSet a c r (λ j. f * number_in a r j % p) → AreSparseEntriesListed p c b
scaled-entries p a c b r f all set = record {
  size = record {
    columns_fit = omega (arith, all.size.columns_fit, set.size.width_is);
    rows_fit = omega (arith, all.size.rows_fit, set.size.rows_are);
  };
  listed = λ i j il jl ne. all.listed i j (subst (λ x. i < x) set.size.rows_are il) (subst (λ x. j < x) set.size.width_is jl)
      (λ z. ne (elim (nat_cases i r) [
        | inl q ↦ ap (λ x. number_in c x j % p) q ∙ ap (λ x. x % p) (set.changed j
            ∙ vanishes-mul p f (number_in a r j) (subst (λ x. number_in a x j % p ≡ 0) q z)) ∙ zero-mod p
        | inr other ↦ ap (λ x. x % p) (set.others i j other) ∙ z
      ]));
}

module _ (p : ℕ) (old now : SparseTable) (b c : Bits) (r v : ℕ) (vl : v < old.width)
    (listed : AreSparseEntriesListed p old b)
    (ready : IsReadyForPivot (sparse_rows old) old.width (number_in old) (bit_in b) (bit_in c) r v)
    (pivoted : IsPivoted p (sparse_rows old) old.width (number_in old) (number_in now) r v)
    (reduced : IsReduced p (sparse_rows old) old.width (number_in old) (number_in now) r (λ i. number_in old i v)) where
  -- a row with nothing in column v stays
  stay : ZeroRowsStay p (sparse_rows old) old.width (number_in old) (number_in now) r v
  stay i j il jl ne z = sym (
      reduced.others i j il jl ne
      ∙ agree-add p (number_in now i j) (number_in now i j) (number_in old i v * number_in now r j) 0 refl
      (ap (λ x. x % p) (let e : number_in old i v * number_in now r j ≡ number_in now r j * number_in old i v = omega
      arith in e)
      ∙ vanishes-mul p (number_in now r j) (number_in old i v) z ∙ sym (zero-mod p))
      ∙ ap (λ x. x % p) (let e : number_in now i j + 0 ≡ number_in now i j = omega arith in e))

  pub pivoted-listed : HasSizeOf (sparse_rows old) old.width c → HasSize (sparse_rows old) old.width now →
      AreSparseEntriesListed p now c
  pivoted-listed size same =
      subst (λ m. AreEntriesListed p m now.width (number_in now) c) (sym same.rows_are)
      (subst (λ n. AreEntriesListed p (sparse_rows old) n (number_in now) c) (sym same.width_is)
      (pivot-listed p (sparse_rows old) old.width (number_in old) (number_in now) b c r v listed ready pivoted stay vl size))
