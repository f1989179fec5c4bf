-- A row times a number, entry by entry, and the loop that makes it.
use Rattle.std.proofs.Common.{◌≡◌, ℕ, suc, zero, ◌+◌, ◌*◌, ◌%◌, ◌<◌, List, [], ◌∷◌, length, slice_index, slice_index_or}
use Rattle.std.proofs.Common.{slice_set, map, refl, ap, sym, ◌∙◌, arith}
use Rattle.std.proofs.lemmas.List.{length-map}
use Rattle.residue_field.proofs.RowLaws.{upto, read_at, written_at}
use Rattle.dense_q.specs.Rows.{multiple}

pub multiple-length : (p k : ℕ) (xs : List ℕ) → length (multiple p k xs) ≡ length xs
multiple-length p k [] = refl
multiple-length p k (x ∷ xs) = ap suc (multiple-length p k xs)

pub multiple-at : (p k : ℕ) (xs : List ℕ) (j : ℕ) → j < length xs →
    slice_index (multiple p k xs) j ≡ k * slice_index xs j % p
multiple-at p k [] j l = absurd (omega arith)
multiple-at p k (x ∷ xs) zero l = refl
multiple-at p k (x ∷ xs) (suc j) l = multiple-at p k xs j (omega arith)

-- ---- the loop
module _ {A : Type 0} (number : A → ℕ) where
  pub multiplied_at : (p k : ℕ) (old now : List A) (i : ℕ) (x y : A) → length now ≡ length old → i < length now →
      map number now ≡ upto i (multiple p k (map number old)) (map number old) →
      x ≡ slice_index_or now i x → number y ≡ (k * number x) % p →
      map number (slice_set now i y) ≡ upto (i + 1) (multiple p k (map number old)) (map number old)
  multiplied_at p k old now i x y len l e is done =
      written_at number xs ys now i y lengths less e
      (done ∙ ap (λ z. (k * z) % p) (read_at number xs ys now i x lengths e l is) ∙ sym (multiple-at p k ys i less))
    where
      ys : List ℕ
      ys = map number old

      xs : List ℕ
      xs = multiple p k ys

      lengths : length xs ≡ length ys
      lengths = multiple-length p k ys

      less : i < length ys
      less = omega (arith, length-map old number)
