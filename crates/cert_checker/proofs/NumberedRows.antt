-- Rows of entries whose values are seen by their numbers.
use Rattle.std.proofs.Common.{◌≡◌, ℕ, zero, suc, ◌+◌, ◌<◌, List, [], ◌∷◌, length, map, drop, get_or, slice_index_or, refl, ap, sym, subst, ◌∙◌, arith}
use Rattle.std.specs.List.{All}
use Rattle.std.specs.List.Sorted.{IsStrictlyIncreasing}
use Rattle.std.proofs.lemmas.List.{drop_more, get_or-map, length-map}
use Rattle.cert_text.specs.Contents.{numbered, numbered_rows}
use Rattle.cert_text.specs.Ranges.{AreEntries, IsPrintedMatrix}

pub next_is : {X : Type 0} → (xs : List X) (k : ℕ) (x : X) → k < length xs → x ≡ get_or xs k x → drop k xs ≡ x ∷ drop (k + 1) xs
next_is xs k x low is = drop_more xs k x low ∙ ap (λ y. y ∷ drop (k + 1) xs) (sym is)

module _ {T : Type 0} (number : T → ℕ) where
  abbrev pub named : ℕ × T → ℕ × ℕ
  named entry = (entry.0, number entry.1)

  pub entry_count : (entries : List (ℕ × T)) → length (numbered number entries) ≡ length entries
  entry_count entries = length-map entries named

  pub rows_count : (rows : List (List (ℕ × T))) → length (numbered_rows number rows) ≡ length rows
  rows_count rows = length-map rows (numbered number)

  -- an entry of the row, seen by its number
  pub entry_is : (entries : List (ℕ × T)) (k : ℕ) (entry : ℕ × T) (d : ℕ × ℕ) → k < length entries →
      entry ≡ get_or entries k entry → get_or (numbered number entries) k d ≡ named entry
  entry_is entries k entry d low is = get_or-map named entries k entry d low ∙ ap named (sym is)

  -- its column
  pub key_is : (entries : List (ℕ × T)) (k : ℕ) (entry : ℕ × T) → k < length entries → entry ≡ get_or entries k entry →
      (get_or (numbered number entries) k (0, 0)).0 ≡ entry.0
  key_is entries k entry low is = ap (λ (e : ℕ × ℕ). e.0) (entry_is entries k entry (0, 0) low is)

  -- and what is left of the row from it on
  pub next_entry : (entries : List (ℕ × T)) (k : ℕ) (entry : ℕ × T) → k < length entries → entry ≡ get_or entries k entry →
      drop k (numbered number entries) ≡ named entry ∷ drop (k + 1) (numbered number entries)
  next_entry entries k entry low is =
      next_is (numbered number entries) k (named entry) (subst (λ n. k < n) (sym (entry_count entries)) low)
      (sym (entry_is entries k entry (named entry) low is))

  -- an entry stands in its range
  pub entry_within : (p n : ℕ) (entries : List (ℕ × T)) (k : ℕ) (entry : ℕ × T) →
      AreEntries p n (numbered number entries) → k < length entries → entry ≡ get_or entries k entry →
      (entry.0 < n) × (0 < number entry.1) × (number entry.1 < p)
  entry_within p n entries k entry are low is =
      subst (λ (e : ℕ × ℕ). (e.0 < n) × (0 < e.1) × (e.1 < p)) (entry_is entries k entry (0, 0) low is)
      (are.within k (0, 0) (subst (λ m. k < m) (sym (entry_count entries)) low))

  -- the columns of the entries
  pub entry_columns : (p n : ℕ) (entries : List (ℕ × T)) → AreEntries p n (numbered number entries) → All (λ entry. entry.0 < n) entries
  entry_columns p n entries are k d low =
      subst (λ (e : ℕ × ℕ). e.0 < n) (get_or-map named entries k d (named d) low)
      (are.within k (named d) (subst (λ m. k < m) (sym (entry_count entries)) low)).0

  keys_same : (entries : List (ℕ × T)) → map (λ (entry : ℕ × ℕ). entry.0) (numbered number entries) ≡ map (λ (entry : ℕ × T). entry.0) entries
  keys_same [] = refl
  keys_same (entry ∷ entries) = ap (λ keys. entry.0 ∷ keys) (keys_same entries)

  pub entry_rising : (p n : ℕ) (entries : List (ℕ × T)) → AreEntries p n (numbered number entries) → IsStrictlyIncreasing (map (λ entry. entry.0) entries)
  entry_rising p n entries are = subst IsStrictlyIncreasing (keys_same entries) are.rising

  pub rising_entry : (entries : List (ℕ × T)) → IsStrictlyIncreasing (map (λ entry. entry.0) entries) →
      IsStrictlyIncreasing (map (λ entry. entry.0) (numbered number entries))
  rising_entry entries rising = subst IsStrictlyIncreasing (sym (keys_same entries)) rising

  -- a row of the matrix
  pub row_is : (rows : List (List (ℕ × T))) (i : ℕ) (slice row : List (ℕ × T)) → i < length rows → slice ≡ row →
      row ≡ get_or rows i row → slice_index_or (numbered_rows number rows) i [] ≡ numbered number slice
  row_is rows i slice row low same is = get_or-map (numbered number) rows i row [] low ∙ ap (numbered number) (sym is ∙ sym same)

  pub row_within : (p m n : ℕ) (rows : List (List (ℕ × T))) (i : ℕ) (slice row : List (ℕ × T)) →
      IsPrintedMatrix p m n (numbered_rows number rows) → i < length rows → slice ≡ row → row ≡ get_or rows i row →
      AreEntries p n (numbered number slice)
  row_within p m n rows i slice row is low same at =
      subst (AreEntries p n) (row_is rows i slice row low same at) (is.entries i [] (subst (λ k. i < k) (sym (rows_count rows)) low))

  -- a value that is 0, seen by its number
  pub zero_at : (row : List T) (j : ℕ) → j < length row → ((d : T) → number (get_or row j d) ≡ 0) → get_or (map number row) j 0 ≡ 0
  zero_at [] j low is = absurd (omega arith)
  zero_at (x ∷ row) zero low is = is x
  zero_at (x ∷ row) (suc j) low is = zero_at row j (omega arith) is
