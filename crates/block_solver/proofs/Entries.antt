-- Rows of entries: the number at a column, and sums.
use Rattle.std.proofs.Common.{◌≡◌, ℕ, zero, suc, ◌+◌, ◌*◌, ◌%◌, ◌<◌, ◌≤◌, ◌≢◌, cond, eqb, List, [], ◌∷◌}
use Rattle.std.proofs.Common.{length, drop, get_or, slice_index, slice_index_or, refl, ap, sym, subst, ◌∙◌, arith}
use Rattle.std.proofs.lemmas.List.{drop_more, get_or-map, length-map}
use Rattle.std.proofs.Math.Nat.{mod-add-mod}
use Rattle.residue_theory.proofs.SetLaws.{eqb_from, eqb_true, not_true}
use Rattle.cert_text.specs.Contents.{numbered, numbered_rows}
use Rattle.cert_text.specs.Readings.{entry_at}
use Rattle.block_solver.specs.Rows.{row_sum}

module _ {T : Type 0} (number : T → ℕ) where
  abbrev pub named : ℕ × T → ℕ × ℕ
  named entry = (entry.0, number entry.1)

  pub entry_count : (entries : List (ℕ × T)) → length (numbered number entries) ≡ length entries
  entry_count entries = length-map entries named

  -- what is left of a row from an entry on
  pub next_entry : (entries : List (ℕ × T)) (k : ℕ) (entry : ℕ × T) → k < length entries → entry ≡ get_or entries k entry →
      drop k (numbered number entries) ≡ named entry ∷ drop (k + 1) (numbered number entries)
  next_entry entries k entry low is =
      drop_more (numbered number entries) k (named entry) (subst (λ n. k < n) (sym (entry_count entries)) low)
      ∙ ap (λ e. e ∷ drop (k + 1) (numbered number entries)) (get_or-map named entries k entry (named entry) low ∙ ap named (sym is))

drop-all : {X : Type 0} → (xs : List X) (k : ℕ) → length xs ≤ k → drop k xs ≡ []
drop-all [] zero low = refl
drop-all [] (suc k) low = refl
drop-all (x ∷ xs) zero low = absurd (omega arith)
drop-all (x ∷ xs) (suc k) low = drop-all xs k (omega arith)

-- ---- the number at a column
pub entry-here : (entry : ℕ × ℕ) (entries : List (ℕ × ℕ)) (j : ℕ) → entry.0 ≡ j → entry_at (entry ∷ entries) j ≡ entry.1
entry-here entry entries j same = ap (λ b. cond b entry.1 (entry_at entries j)) (eqb_from entry.0 j same)

pub entry-other : (entry : ℕ × ℕ) (entries : List (ℕ × ℕ)) (j : ℕ) → entry.0 ≢ j → entry_at (entry ∷ entries) j ≡ entry_at entries j
entry-other entry entries j other = ap (λ b. cond b entry.1 (entry_at entries j)) (not_true (eqb entry.0 j) (λ h. other (eqb_true entry.0 j h)))

pub entry-none : (entries : List (ℕ × ℕ)) (k j : ℕ) → length entries ≤ k → entry_at (drop k entries) j ≡ 0
entry-none entries k j low = ap (λ es. entry_at es j) (drop-all entries k low)

-- ---- sums
-- a term moves into the sum that is made
pub sum-step : (p s now : ℕ) (entry : ℕ × ℕ) (entries : List (ℕ × ℕ)) (x : List ℕ) (y want : ℕ) → y ≡ slice_index x entry.0 →
    now ≡ (s + y * entry.1) % p → (s + row_sum (entry ∷ entries) x) % p ≡ want % p → (now + row_sum entries x) % p ≡ want % p
sum-step p s now entry entries x y want at made left =
    ap (λ z. (z + row_sum entries x) % p) made ∙ mod-add-mod (s + y * entry.1) p (row_sum entries x)
    ∙ ap (λ z. (s + z * entry.1 + row_sum entries x) % p) at
    ∙ ap (λ z. z % p) (plain s (slice_index x entry.0 * entry.1) (row_sum entries x)) ∙ left
  where
    plain : (a b c : ℕ) → a + b + c ≡ a + (b + c)
    plain a b c = omega arith

-- ---- rows of values, as a slice gives them
pub row_is : {T : Type 0} (number : T → ℕ) (rows : List (List (ℕ × T))) (k : ℕ) (slice item : List (ℕ × T)) → k < length rows →
    slice ≡ item → item ≡ slice_index_or rows k item → slice_index_or (numbered_rows number rows) k [] ≡ numbered number slice
row_is number rows k slice item kl same is = get_or-map (numbered number) rows k item [] kl ∙ ap (numbered number) (sym is ∙ sym same)
