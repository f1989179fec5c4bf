-- Rows of a matrix, printed one after the other.
use Rattle.std.proofs.Common.{◌≡◌, ◌≢◌, ℕ, ◌+◌, ◌<◌, false, not, zero, ◌-◌, ◌≤◌, cond, eqb, List, [], ◌∷◌}
use Rattle.std.proofs.Common.{◌++◌, length, map, get_or, inl, inr, suc, refl, ap, sym, ◌∙◌, subst, arith}
use Rattle.std.specs.List.{All}
use Rattle.std.specs.List.Sorted.{IsStrictlyIncreasing}
use Rattle.std.proofs.lemmas.List.{get_or_append_left, get_or_push, get_or-map, length-map, length_push, map-append}
use Rattle.std.proofs.lemmas.List.Elements.{All-append, All-from_get_or}
use Rattle.residue_theory.proofs.SumLaws.{nat_cases}
use Rattle.residue_theory.proofs.SetLaws.{eqb_from, eqb_true, not_true}
use Rattle.residue_theory.specs.Ranges.{HasNone}
use Rattle.sparse_t.specs.Lists.{AreAllBelow}
use Rattle.sparse_t.proofs.ListLaws.{rising-append}
use Rattle.cert_text.specs.Contents.{numbered, numbered_rows}
use Rattle.cert_text.specs.Ranges.{AreEntries}
use Rattle.cert_text.specs.Printing.{PrintsMatrix, PrintsRow}
use Rattle.cert_text.specs.Readings.{entry_at}

-- a list with one item is all of it
pub all-one : {A : Type 0} (P : A → Type 0) (x : A) → P x → All P (x ∷ [])
all-one P x is = All-from_get_or P (x ∷ []) x (λ k kl. let zero_is : k ≡ 0 = omega (arith, kl) in subst (λ i. P (get_or (x ∷ []) i x)) (sym zero_is) is)

keys : List (ℕ × ℕ) → List ℕ
keys entries = map (λ (entry : ℕ × ℕ). entry.0) entries

entry_at-push : (entries : List (ℕ × ℕ)) (n v j : ℕ) → n ≢ j → entry_at (entries ++ (n, v) ∷ []) j ≡ entry_at entries j
entry_at-push [] n v j apart = ap (λ b. cond b v 0) (not_true (eqb n j) (λ h. apart (eqb_true n j h)))
entry_at-push (entry ∷ entries) n v j apart = ap (λ x. cond (eqb entry.0 j) entry.1 x) (entry_at-push entries n v j apart)

entry_at-new : (entries : List (ℕ × ℕ)) (n v : ℕ) → ((k : ℕ) → k < length entries → (get_or entries k (0, 0)).0 ≢ n) → entry_at (entries ++ (n, v) ∷ []) n ≡ v
entry_at-new [] n v apart = ap (λ b. cond b v 0) (eqb_from n n refl)
entry_at-new (entry ∷ entries) n v apart =
    ap (λ b. cond b entry.1 (entry_at (entries ++ (n, v) ∷ []) n)) (not_true (eqb entry.0 n) (λ h. apart 0 (omega arith) (eqb_true entry.0 n h)))
    ∙ entry_at-new entries n v (λ k kl. apart (suc k) (omega (arith, kl)))

entry_at-none : (entries : List (ℕ × ℕ)) (n : ℕ) → ((k : ℕ) → k < length entries → (get_or entries k (0, 0)).0 ≢ n) → entry_at entries n ≡ 0
entry_at-none [] n apart = refl
entry_at-none (entry ∷ entries) n apart =
    ap (λ b. cond b entry.1 (entry_at entries n)) (not_true (eqb entry.0 n) (λ h. apart 0 (omega arith) (eqb_true entry.0 n h)))
    ∙ entry_at-none entries n (λ k kl. apart (suc k) (omega (arith, kl)))

module _ (p n : ℕ) (row : ℕ → ℕ) (entries : List (ℕ × ℕ)) (prints : PrintsRow p n row entries) where
  apart : (k : ℕ) → k < length entries → (get_or entries k (0, 0)).0 ≢ n
  apart k kl e = absurd (omega (arith, (prints.are.within k (0, 0) kl).0, e))

  keys-below : AreAllBelow n (keys entries)
  unfolding keys
  keys-below k kl =
      let low : k < length entries = subst (λ m. k < m) (length-map entries (λ (entry : ℕ × ℕ). entry.0)) kl in
      subst (λ x. x < n) (sym (get_or-map (λ (entry : ℕ × ℕ). entry.0) entries k (0, 0) 0 low)) (prints.are.within k (0, 0) low).0

  -- one column more, with an entry that is not 0
  pub row-more : (v : ℕ) → v ≡ row n → v ≢ 0 → v < p → PrintsRow p (n + 1) row (entries ++ (n, v) ∷ [])
  unfolding keys
  row-more v is some small = record {
    are = record {
      rising = subst IsStrictlyIncreasing (sym (map-append (λ (entry : ℕ × ℕ). entry.0) entries ((n, v) ∷ [])))
          (rising-append (keys entries) n prints.are.rising keys-below);
      within = All-append (λ (entry : ℕ × ℕ). (entry.0 < n + 1) × (0 < entry.1) × (entry.1 < p)) entries ((n, v) ∷ [])
          (λ k d kl. let at = prints.are.within k d kl in (omega (arith, at.0), at.1, at.2))
          (all-one (λ (entry : ℕ × ℕ). (entry.0 < n + 1) × (0 < entry.1) × (entry.1 < p)) (n, v) (omega arith, omega (arith, some), small));
    };
    same = λ j low. elim (nat_cases j n) [
      | inl equal ↦ subst (λ c. entry_at (entries ++ (n, v) ∷ []) c ≡ row c) (sym equal) (entry_at-new entries n v apart ∙ is)
      | inr other ↦ entry_at-push entries n v j (λ e. other (sym e)) ∙ prints.same j (omega (arith, low, other))
    ];
  }

  -- one column more, whose entry is 0
  pub row-same : row n ≡ 0 → PrintsRow p (n + 1) row entries
  row-same is = record {
    are = record { rising = prints.are.rising; within = λ k d kl. let at = prints.are.within k d kl in (omega (arith, at.0), at.1, at.2) };
    same = λ j low. elim (nat_cases j n) [
      | inl equal ↦ subst (λ c. entry_at entries c ≡ row c) (sym equal) (entry_at-none entries n apart ∙ sym is)
      | inr other ↦ prints.same j (omega (arith, low, other))
    ];
  }

-- columns whose entries are 0
pub row-skips : (p : ℕ) (row : ℕ → ℕ) (entries : List (ℕ × ℕ)) (a k : ℕ) → PrintsRow p a row entries →
    ((j : ℕ) → a ≤ j → j < a + k → row j ≡ 0) → PrintsRow p (a + k) row entries
row-skips p row entries a zero prints none = subst (λ n. PrintsRow p n row entries) (omega arith) prints
row-skips p row entries a (suc k) prints none =
    subst (λ n. PrintsRow p n row entries) (omega arith)
    (row-same p (a + k) row entries
    (row-skips p row entries a k prints (λ j low high. none j low (omega (arith, high))))
    (none (a + k) (omega arith) (omega arith)))

pub row-until : (p : ℕ) (row : ℕ → ℕ) (entries : List (ℕ × ℕ)) (a b : ℕ) → PrintsRow p a row entries → a ≤ b →
    HasNone (λ j. not (eqb (row j) 0)) a b → PrintsRow p b row entries
row-until p row entries a b prints low none =
    subst (λ n. PrintsRow p n row entries) (omega (arith, low))
    (row-skips p row entries a (b - a) prints
    (λ j from before. is_zero (row j) (none j from (omega (arith, low, before)))))
  where
    is_zero : (x : ℕ) → not (eqb x 0) ≡ false → x ≡ 0
    is_zero x h = eqb_true x 0 (grind (arith, h))

-- one entry more, whose value is seen by its number
numbered-push : {T : Type 0} (number : T → ℕ) (entries : List (ℕ × T)) (n : ℕ) (v : T) →
    numbered number (entries ++ (n, v) ∷ []) ≡ numbered number entries ++ (n, number v) ∷ []
numbered-push number entries n v = map-append (λ entry. (entry.0, number entry.1)) entries ((n, v) ∷ [])

numbered_rows-push : {T : Type 0} (number : T → ℕ) (rows : List (List (ℕ × T))) (entries : List (ℕ × T)) →
    numbered_rows number (rows ++ entries ∷ []) ≡ numbered_rows number rows ++ numbered number entries ∷ []
numbered_rows-push number rows entries = map-append (numbered number) rows (entries ∷ [])

-- the same of entries whose values are seen by their numbers
pub entry-more : {T : Type 0} (number : T → ℕ) (p n : ℕ) (row : ℕ → ℕ) (entries : List (ℕ × T)) → PrintsRow p n row (numbered number entries) →
    (v : T) → number v ≡ row n → number v ≢ 0 → number v < p → PrintsRow p (n + 1) row (numbered number (entries ++ (n, v) ∷ []))
entry-more number p n row entries prints v is some small =
    subst (PrintsRow p (n + 1) row) (sym (numbered-push number entries n v)) (row-more p n row (numbered number entries) prints (number v) is some small)

-- the next row of a matrix
pub matrix-push : (p m n : ℕ) (matrix : ℕ → ℕ → ℕ) (rows : List (List (ℕ × ℕ))) (entries : List (ℕ × ℕ)) →
    PrintsMatrix p m n matrix rows → PrintsRow p n (matrix m) entries →
    PrintsMatrix p (m + 1) n matrix (rows ++ entries ∷ [])
matrix-push p m n matrix rows entries prints next = record {
  is = record {
    count = let long : length (rows ++ entries ∷ []) ≡ length rows + 1 = length_push rows entries in omega (arith, long, prints.is.count);
    entries = All-append (AreEntries p n) rows (entries ∷ []) prints.is.entries (all-one (AreEntries p n) entries next.are);
  };
  same = λ i j il jl. elim (nat_cases i m) [
    | inl last ↦
        let at : get_or (rows ++ entries ∷ []) i [] ≡ entries = get_or_push rows entries [] i (prints.is.count ∙ sym last) in
        ap (λ list. entry_at list j) at ∙ next.same j jl ∙ ap (λ r. matrix r j) (sym last)
    | inr other ↦
        let before : i < m = omega (arith, il, other) in
        let at : get_or (rows ++ entries ∷ []) i [] ≡ get_or rows i [] = get_or_append_left rows (entries ∷ []) [] i (omega (arith, before, prints.is.count)) in
        ap (λ list. entry_at list j) at ∙ prints.same i j before jl
  ];
}

-- and of a matrix whose entries are seen by their numbers
pub rows-push : {T : Type 0} (number : T → ℕ) (p m n : ℕ) (matrix : ℕ → ℕ → ℕ) (rows : List (List (ℕ × T))) (entries : List (ℕ × T)) →
    PrintsMatrix p m n matrix (numbered_rows number rows) → PrintsRow p n (matrix m) (numbered number entries) →
    PrintsMatrix p (m + 1) n matrix (numbered_rows number (rows ++ entries ∷ []))
rows-push number p m n matrix rows entries prints next =
    subst (PrintsMatrix p (m + 1) n matrix) (sym (numbered_rows-push number rows entries))
    (matrix-push p m n matrix (numbered_rows number rows) (numbered number entries) prints next)
