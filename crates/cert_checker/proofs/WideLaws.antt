-- The values of a row, as it is made and as it is added.
use Rattle.std.proofs.Common.{◌≡◌, ℕ, ◌+◌, ◌*◌, ◌%◌, ◌<◌, inl, inr, List, [], ◌∷◌, ◌++◌, Option, Some, None, IfSome, option_map}
use Rattle.std.proofs.Common.{length, replicate, slice_index, slice_index_or, ap, sym, subst, ◌∙◌, arith}
use Rattle.std.proofs.Math.Nat.{add-mod-mod, mod-mod}
use Rattle.std.proofs.lemmas.Nat.{mul-mod_second}
use Rattle.std.proofs.lemmas.List.{get_or_append_left, get_or_push, get_or-replicate}
use Rattle.residue_theory.proofs.SumLaws.{nat_cases}
use Rattle.residue_field.specs.Rows.{plus_multiple}
use Rattle.residue_field.proofs.RowLaws.{plus_multiple-at}
use Rattle.cert_text.specs.Readings.{entry_at}
use Rattle.cert_checker.specs.Gathering.{IsAddedRow}
use Rattle.cert_checker.specs.WideRows.{AreValues}

-- a row of zeros to which the entries were added
pub values-made : (p n f : ℕ) (entries : List (ℕ × ℕ)) (zeros values : List ℕ) → zeros ≡ replicate n 0 → f ≡ 1 →
    length values ≡ n → IsAddedRow p n f entries zeros values → AreValues p n entries values
values-made p n f entries zeros values none one long added = record {
  count = long;
  at = λ j low. added j low
      ∙ ap (λ z. (z + f * entry_at entries j) % p) (ap (λ xs. slice_index xs j) none ∙ get_or-replicate n j 0 0 low)
      ∙ ap (λ z. (0 + z * entry_at entries j) % p) one
      ∙ ap (λ z. z % p) (once (entry_at entries j));
}
  where
    once : (e : ℕ) → 0 + 1 * e ≡ e
    once e = omega arith

-- a multiple of numbers that are the same modulo p
multiple-same : (p f x y e : ℕ) → y % p ≡ e % p → (x + f * y) % p ≡ (x + f * e) % p
multiple-same p f x y e same =
    sym (add-mod-mod x (f * y) p) ∙ ap (λ z. (x + z) % p) (sym (mul-mod_second f y p) ∙ ap (λ z. (f * z) % p) same ∙ mul-mod_second f e p)
    ∙ add-mod-mod x (f * e) p

-- a row to which values were added is one to which the entries were
pub values-added : (p n f : ℕ) (entries : List (ℕ × ℕ)) (values old new : List ℕ) → length old ≡ n → AreValues p n entries values →
    new ≡ plus_multiple p f old values → IsAddedRow p n f entries old new
values-added p n f entries values old new long are sum j low =
    ap (λ xs. slice_index xs j % p) sum
    ∙ ap (λ z. z % p) (plus_multiple-at p f old values j (omega (arith, long, are.count)) (omega (arith, long, low)))
    ∙ mod-mod (slice_index old j + f * slice_index values j) p
    ∙ multiple-same p f (slice_index old j) (slice_index values j) (entry_at entries j) (are.at j low)

-- the values of the first k rows stand there
abbrev pub AreValuesOfFirst : ℕ → ℕ → ℕ → List (List (ℕ × ℕ)) → List (Option (List ℕ)) → Type 0
AreValuesOfFirst p n k rows values =
    (i : ℕ) → i < k → IfSome (slice_index_or values i None) (λ row. AreValues p n (slice_index_or rows i []) row)

pub values-next : (p n k : ℕ) (rows : List (List (ℕ × ℕ))) (values : List (Option (List ℕ))) (found : Option (List ℕ)) →
    length values ≡ k → IfSome found (λ row. AreValues p n (slice_index_or rows k []) row) →
    AreValuesOfFirst p n k rows values → AreValuesOfFirst p n (k + 1) rows (values ++ found ∷ [])
values-next p n k rows values found long here before i low = elim (nat_cases i k) [
  | inl same ↦ subst (λ j. IfSome (slice_index_or (values ++ found ∷ []) j None) (λ row. AreValues p n (slice_index_or rows j []) row)) (sym same)
      (subst (λ x. IfSome x (λ row. AreValues p n (slice_index_or rows k []) row)) (sym (get_or_push values found None k long)) here)
  | inr other ↦
      subst (λ x. IfSome x (λ row. AreValues p n (slice_index_or rows i []) row))
      (sym (get_or_append_left values (found ∷ []) None i (omega (arith, low, other, long)))) (before i (omega (arith, low, other)))
]

-- what is found, seen by other words
pub some-as : {X Y : Type 0} (f : X → Y) (found : Option X) (P : Y → Type 0) → IfSome found (λ x. P (f x)) → IfSome (option_map f found) P
some-as f None P is = is
some-as f (Some x) P is = is

pub some-from : {X Y : Type 0} (f : X → Y) (found : Option X) (P : Y → Type 0) → IfSome (option_map f found) P → IfSome found (λ x. P (f x))
some-from f None P is = is
some-from f (Some x) P is = is
