-- Numbers put at some columns: what they add to the sum of a row.
use Rattle.std.proofs.Common.{◌≡◌, ℕ, zero, suc, ◌+◌, ◌*◌, ◌%◌, ◌<◌, ◌≢◌, ◌⊎◌, Bool, true, false, cond, eqb, ◌||◌, List, []}
use Rattle.std.proofs.Common.{◌∷◌, length, map, slice_index, inl, inr, refl, ap, sym, subst, ◌∙◌, arith}
use Rattle.residue_theory.specs.Sets.{everything, has, without}
use Rattle.residue_theory.specs.Sums.{sum_on, sum_below}
use Rattle.residue_theory.proofs.ResidueLaws.{agree-add}
use Rattle.residue_theory.proofs.SetLaws.{differ, either-first, either-second, eqb_from, eqb_true, not_true}
use Rattle.residue_theory.proofs.SumLaws.{nat_cases, sum_on-add, sum_on-ext, sum_on-none, sum_on-without, without-member}
use Rattle.cert_text.specs.Readings.{entry_at}
use Rattle.block_solver.specs.Rows.{AreKeysRising}
use Rattle.block_solver.specs.Rows.{row_sum}
use Rattle.block_solver.proofs.Entries.{entry-here, entry-other}

-- ---- members of a list, by their places
pub has-found : (list : List ℕ) (x : ℕ) → has list x ≡ true → (c : ℕ) × (c < length list) × (slice_index list c ≡ x)
has-found [] x h = absurd (differ refl h)
has-found (a ∷ rest) x h = go (eqb a x) refl (λ later. has-found rest x later)
  where
    go : (b : Bool) → eqb a x ≡ b → (has rest x ≡ true → (c : ℕ) × (c < length rest) × (slice_index rest c ≡ x)) →
        (c : ℕ) × (c < length (a ∷ rest)) × (slice_index (a ∷ rest) c ≡ x)
    go true e found = (0, omega arith, eqb_true a x e)
    go false e found =
        let there = found (ap (λ b. b || has rest x) (sym e) ∙ h) in
        (suc there.0, omega (arith, there.1), there.2)

pub has-place : (list : List ℕ) (c : ℕ) → c < length list → has list (slice_index list c) ≡ true
has-place [] c l = absurd (omega arith)
has-place (a ∷ rest) zero l = either-first (eqb a a) (has rest a) (eqb_from a a refl)
has-place (a ∷ rest) (suc c) l = either-second (eqb a (slice_index rest c)) (has rest (slice_index rest c)) (has-place rest c (omega arith))

-- ---- a row with rising columns
pub rising-tail : (entry : ℕ × ℕ) (entries : List (ℕ × ℕ)) → AreKeysRising (entry ∷ entries) → AreKeysRising entries
rising-tail entry entries rising k kl = subst (λ i. slice_index keys k < slice_index (entry.0 ∷ keys) i) next (rising (suc k) (omega (arith, kl)))
  where
    keys : List ℕ
    keys = map (λ (e : ℕ × ℕ). e.0) entries

    next : suc k + 1 ≡ suc (k + 1)
    next = omega arith

entry-before : (x : ℕ) (entry : ℕ × ℕ) (entries : List (ℕ × ℕ)) → x < entry.0 → AreKeysRising (entry ∷ entries) → entry_at (entry ∷ entries) x ≡ 0
entry-before x entry [] less rising = ap (λ b. cond b entry.1 0) (not_true (eqb entry.0 x) (λ h. absurd (omega (arith, less, eqb_true entry.0 x h))))
entry-before x entry (next ∷ entries) less rising =
    let step : entry.0 < next.0 = rising 0 (omega arith) in
    ap (λ b. cond b entry.1 (entry_at (next ∷ entries) x)) (not_true (eqb entry.0 x) (λ h. absurd (omega (arith, less, eqb_true entry.0 x h))))
    ∙ entry-before x next entries (omega (arith, less, step)) (rising-tail entry (next ∷ entries) rising)

pub entry-once : (entry : ℕ × ℕ) (entries : List (ℕ × ℕ)) → AreKeysRising (entry ∷ entries) → entry_at entries entry.0 ≡ 0
entry-once entry [] rising = refl
entry-once entry (next ∷ entries) rising = entry-before entry.0 next entries (rising 0 (omega arith)) (rising-tail entry (next ∷ entries) rising)

-- ---- y differs from x at the columns alone, where x is 0
module _ (columns x y : List ℕ)
    (distinct : (c d : ℕ) → c < length columns → d < length columns → slice_index columns c ≡ slice_index columns d → c ≡ d)
    (none : (c : ℕ) → c < length columns → slice_index x (slice_index columns c) ≡ 0)
    (same : (j : ℕ) → has columns j ≡ false → slice_index y j ≡ slice_index x j) where
  -- one entry
  one-entry : (k v : ℕ) → slice_index y k * v ≡
      slice_index x k * v + sum_below (length columns) (λ c. cond (eqb k (slice_index columns c)) (slice_index y k * v) 0)
  one-entry k v = go (has columns k) refl
    where
      go : (b : Bool) → has columns k ≡ b →
          slice_index y k * v ≡ slice_index x k * v + sum_below (length columns) (λ c. cond (eqb k (slice_index columns c)) (slice_index y k * v) 0)
      go true h =
          let place = has-found columns k h in
          let gone : slice_index x k ≡ 0 = subst (λ j. slice_index x j ≡ 0) place.2 (none place.0 place.1) in
          let others : sum_on (without everything place.0) (length columns) (λ c. cond (eqb k (slice_index columns c)) (slice_index y k * v) 0) ≡ 0 =
          sum_on-ext (without everything place.0) (length columns) (λ c. cond (eqb k (slice_index columns c)) (slice_index y k * v) 0) (λ _. 0)
          (λ c cl ch. ap (λ b. cond b (slice_index y k * v) 0) (not_true (eqb k (slice_index columns c))
          (λ e. (without-member everything place.0 c ch).1 (distinct c place.0 cl place.1 (sym (eqb_true k (slice_index columns c) e) ∙ sym place.2)))))
          ∙ sum_on-none (without everything place.0) (length columns) in
          let here : cond (eqb k (slice_index columns place.0)) (slice_index y k * v) 0 ≡ slice_index y k * v =
          ap (λ b. cond b (slice_index y k * v) 0) (eqb_from k (slice_index columns place.0) (sym place.2)) in
          sym (ap (λ a. a * v + sum_below (length columns) (λ c. cond (eqb k (slice_index columns c)) (slice_index y k * v) 0)) gone
          ∙ ap (λ s. 0 * v + s) (sum_on-without everything (length columns) place.0
          (λ c. cond (eqb k (slice_index columns c)) (slice_index y k * v) 0) place.1 refl
          ∙ ap (λ s. s + cond (eqb k (slice_index columns place.0)) (slice_index y k * v) 0) others
          ∙ ap (λ s. 0 + s) here)
          ∙ plain v (slice_index y k * v))
        where
          plain : (a b : ℕ) → 0 * a + (0 + b) ≡ b
          plain a b = omega arith
      go false h =
          ap (λ a. a * v) (same k h)
          ∙ padded (slice_index x k * v)
          ∙ ap (λ s. slice_index x k * v + s) (sym (sum_on-ext everything (length columns)
          (λ c. cond (eqb k (slice_index columns c)) (slice_index y k * v) 0) (λ _. 0)
          (λ c cl _. ap (λ b. cond b (slice_index y k * v) 0) (not_true (eqb k (slice_index columns c))
          (λ e. differ (subst (λ j. has columns j ≡ false) (eqb_true k (slice_index columns c) e) h) (has-place columns c cl))))
          ∙ sum_on-none everything (length columns)))
        where
          padded : (a : ℕ) → a ≡ a + 0
          padded a = omega arith

  pub row-split : (row : List (ℕ × ℕ)) → AreKeysRising row → row_sum row y ≡ row_sum row x +
      sum_below (length columns) (λ c. slice_index y (slice_index columns c) * entry_at row (slice_index columns c))
  row-split [] rising = sym (ap (λ s. 0 + s) (sum_on-ext everything (length columns) (λ c. slice_index y (slice_index columns c) * 0) (λ _. 0)
      (λ c _ _. omega arith) ∙ sum_on-none everything (length columns)))
  row-split (e ∷ es) rising =
      ap (λ a. a + row_sum es y) (one-entry e.0 e.1)
      ∙ ap (λ a. slice_index x e.0 * e.1 + ones + a) (row-split es (rising-tail e es rising))
      ∙ shuffled (slice_index x e.0 * e.1) ones (row_sum es x) rest
      ∙ ap (λ a. slice_index x e.0 * e.1 + row_sum es x + a) (sym
      (sum_on-ext everything (length columns) (λ c. slice_index y (slice_index columns c) * entry_at (e ∷ es) (slice_index columns c))
      (λ c. cond (eqb e.0 (slice_index columns c)) (slice_index y e.0 * e.1) 0 + slice_index y (slice_index columns c) * entry_at es (slice_index columns c))
      (λ c _ _. term (slice_index columns c))
      ∙ sum_on-add everything (length columns) (λ c. cond (eqb e.0 (slice_index columns c)) (slice_index y e.0 * e.1) 0)
      (λ c. slice_index y (slice_index columns c) * entry_at es (slice_index columns c))))
    where
      ones : ℕ
      ones = sum_below (length columns) (λ c. cond (eqb e.0 (slice_index columns c)) (slice_index y e.0 * e.1) 0)

      rest : ℕ
      rest = sum_below (length columns) (λ c. slice_index y (slice_index columns c) * entry_at es (slice_index columns c))

      shuffled : (a b c d : ℕ) → a + b + (c + d) ≡ a + c + (b + d)
      shuffled a b c d = omega arith

      term : (j : ℕ) → slice_index y j * entry_at (e ∷ es) j ≡ cond (eqb e.0 j) (slice_index y e.0 * e.1) 0 + slice_index y j * entry_at es j
      term j = go (nat_cases e.0 j)
        where
          lead : (a : ℕ) → a ≡ 0 + a
          lead a = omega arith

          hit : (v w : ℕ) → v * w ≡ v * w + v * 0
          hit v w = omega arith

          go : (e.0 ≡ j) ⊎ (e.0 ≢ j) → slice_index y j * entry_at (e ∷ es) j ≡ cond (eqb e.0 j) (slice_index y e.0 * e.1) 0 + slice_index y j * entry_at es j
          go (inl q) = subst (λ i. slice_index y i * entry_at (e ∷ es) i ≡ cond (eqb e.0 i) (slice_index y e.0 * e.1) 0 + slice_index y i * entry_at es i) q
              (ap (λ a. slice_index y e.0 * a) (entry-here e es e.0 refl) ∙ hit (slice_index y e.0) e.1
              ∙ ap (λ a. slice_index y e.0 * e.1 + slice_index y e.0 * a) (sym (entry-once e es rising))
              ∙ ap (λ b. cond b (slice_index y e.0 * e.1) 0 + slice_index y e.0 * entry_at es e.0) (sym (eqb_from e.0 e.0 refl)))
          go (inr ne) = ap (λ a. slice_index y j * a) (entry-other e es j ne)
              ∙ lead (slice_index y j * entry_at es j)
              ∙ ap (λ b. cond b (slice_index y e.0 * e.1) 0 + slice_index y j * entry_at es j) (sym (not_true (eqb e.0 j) (λ h. ne (eqb_true e.0 j h))))

  -- where the columns take what the old sum leaves of the right side, the new sum is the right side
  pub row-solved : (p : ℕ) (row : List (ℕ × ℕ)) (z a : ℕ → ℕ) (left right : ℕ) → AreKeysRising row →
      ((c : ℕ) → c < length columns → slice_index y (slice_index columns c) ≡ z c) →
      ((c : ℕ) → c < length columns → a c ≡ entry_at row (slice_index columns c)) →
      sum_below (length columns) (λ c. z c * a c) % p ≡ left % p → (left + row_sum row x) % p ≡ right % p → row_sum row y % p ≡ right % p
  row-solved p row z a left right rising put at solved leaves =
      ap (λ s. s % p) (row-split row rising ∙ turned (row_sum row x) (sum_below (length columns) (λ c. slice_index y (slice_index columns c) *
      entry_at row (slice_index columns c))))
      ∙ agree-add p (sum_below (length columns) (λ c. slice_index y (slice_index columns c) * entry_at row (slice_index columns c))) left
      (row_sum row x) (row_sum row x)
      (ap (λ s. s % p) (sum_on-ext everything (length columns) (λ c. slice_index y (slice_index columns c) * entry_at row (slice_index columns c))
      (λ c. z c * a c) (λ c cl _. ap (λ s. s * entry_at row (slice_index columns c)) (put c cl) ∙ ap (λ s. z c * s) (sym (at c cl)))) ∙ solved) refl
      ∙ leaves
    where
      turned : (u w : ℕ) → u + w ≡ w + u
      turned u w = omega arith
