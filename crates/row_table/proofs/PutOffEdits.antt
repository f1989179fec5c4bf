-- A matrix beside which changes wait, whose rows and columns come and go: what becomes of the actual entries.
use Rattle.std.proofs.Common.{length, ◌≡◌, ℕ, ◌+◌, ◌-◌, ◌*◌, ◌%◌, ◌<◌, ◌≤◌, ◌≢◌, ◌⊎◌, [], replicate, slice_index, inl, inr, refl, ap, sym, subst, ◌∙◌, arith}
use Rattle.std.proofs.Math.Nat.{mod-mod, mod-eq_of_lt, zero-mod}
use Rattle.residue_theory.specs.Sets.{everything}
use Rattle.residue_theory.specs.Sums.{sum_below}
use Rattle.residue_theory.proofs.SumLaws.{nat_cases, sum_on-ext, sum_on-none, sum_on-add, sum_on-mul}
use Rattle.residue_theory.proofs.SetLaws.{lt_cases}
use Rattle.residue_theory.proofs.ResidueLaws.{agree-add, agree-mul, agree-sum}
use Rattle.linear_algebra.specs.Parts.{with_entry}
use Rattle.linear_algebra.specs.RowOperations.{IsRowAdded}
use Rattle.std.proofs.lemmas.List.{get_or_past, get_or-replicate, length-replicate}
use Rattle.dense_q.specs.Tables.{Table, IsMatrix, height, row_at, entry, zero_table}
use Rattle.linear_algebra_laws.proofs.Entries.{with_entry-there, with_entry-row, with_entry-column}
use Rattle.row_table.specs.Places.{last_at}
use Rattle.row_table.specs.Tables.{IsLarger}
use Rattle.row_table.specs.PutOffs.{Kept, AreKeptFactors, actual, waiting, HasRows, HasColumns, IsSettled, IsWidened}
use Rattle.row_table.proofs.PutOffLaws.{settled-none}
use Rattle.row_table.proofs.PlaceEdits.{last_at-here, last_at-other}

-- two entries are the same where the stored entries, the factors and the waiting entries are
pub actual-same : (p : ℕ) (a b : Kept) (i j u w : ℕ) → entry a.stored i j ≡ entry b.stored u w → a.count ≡ b.count →
    ((t : ℕ) → t < b.count → entry a.factors i t ≡ entry b.factors u t) →
    ((t : ℕ) → t < b.count → entry a.pending t j ≡ entry b.pending t w) →
    actual p a i j ≡ actual p b u w
actual-same p a b i j u w stored count factors pending =
    ap (λ x. (x + waiting a i j) % p) stored
    ∙ ap (λ s. (entry b.stored u w + s) % p)
    (ap (λ n. sum_below n (λ t. entry a.factors i t * entry a.pending t j)) count
    ∙ sum_on-ext everything b.count (λ t. entry a.factors i t * entry a.pending t j)
    (λ t. entry b.factors u t * entry b.pending t w)
    (λ t l _. ap (λ x. x * entry a.pending t j) (factors t l) ∙ ap (λ y. entry b.factors u t * y) (pending t l)))

-- an entry is zero where nothing is stored, and factors or waiting entries are all zero
pub actual-none : (p : ℕ) (a : Kept) (i j : ℕ) → entry a.stored i j ≡ 0 →
    ((t : ℕ) → t < a.count → (entry a.factors i t ≡ 0) ⊎ (entry a.pending t j ≡ 0)) → actual p a i j ≡ 0
actual-none p a i j stored none =
    ap (λ x. (x + waiting a i j) % p) stored
    ∙ ap (λ s. (0 + s) % p) (sum_on-ext everything a.count (λ t. entry a.factors i t * entry a.pending t j) (λ _. 0)
    (λ t l _. nothing t (none t l)) ∙ sum_on-none everything a.count)
    ∙ zero-mod p
  where
    nothing : (t : ℕ) → (entry a.factors i t ≡ 0) ⊎ (entry a.pending t j ≡ 0) →
        entry a.factors i t * entry a.pending t j ≡ 0
    nothing t (inl z) = ap (λ x. x * entry a.pending t j) z ∙ (let q : 0 * entry a.pending t j ≡ 0 = omega arith in q)
    nothing t (inr z) = ap (λ y. entry a.factors i t * y) z ∙ (let q : entry a.factors i t * 0 ≡ 0 = omega arith in q)

abbrev with_size : Kept → ℕ → ℕ → Table → Table → Table → Kept
with_size k rows columns stored factors pending = record {
  rows = rows;
  columns = columns;
  stored = stored;
  factors = factors;
  pending = pending;
  count = k.count;
}

-- ---- larger matrices
pub past-column : (m : Table) (i j : ℕ) → IsMatrix m → i < height m → m.width ≤ j → entry m i j ≡ 0
past-column m i j good il le = get_or_past (row_at m i) j 0 (omega (arith, good.full i [] il))

pub past-row : (m : Table) (i j : ℕ) → height m ≤ i → entry m i j ≡ 0
past-row m i j le = ap (λ r. slice_index r j) (get_or_past m.rows i [] le)

zero-height : (h w : ℕ) → height (zero_table h w) ≡ h
zero-height h w = length-replicate h (replicate w 0)

zero-width : (w : ℕ) → length {A = ℕ} (replicate w 0) ≡ w
zero-width w = length-replicate {A = ℕ} w 0

pub zero-entry : (h w i j : ℕ) → entry (zero_table h w) i j ≡ 0
zero-entry h w i j = elim (lt_cases i h) [
  | inl l ↦ ap (λ r. slice_index r j) (get_or-replicate h i (replicate w 0) [] l) ∙ elim (lt_cases j w) [
    | inl jl ↦ get_or-replicate w j 0 0 jl
    | inr le ↦ get_or_past (replicate w 0) j 0 (omega (arith, zero-width w))
  ]
  | inr le ↦ past-row (zero_table h w) i j (omega (arith, zero-height h w))
]

pub larger-same : (p : ℕ) (k : Kept) (stored factors pending : Table) (rows columns w h : ℕ) → AreKeptFactors k →
    IsLarger k.stored rows columns stored → IsLarger k.factors rows w factors → IsLarger k.pending h columns pending →
    IsWidened p k (with_size k k.rows k.columns stored factors pending) rows columns
larger-same p k stored factors pending rows columns w h good a b c = record {
  rows_same = refl;
  columns_same = refl;
  rows_room = a.rows_are;
  columns_room = a.columns_are;
  same = λ i j. actual-same p (with_size k k.rows k.columns stored factors pending) k i j i j (a.same i j) refl
      (λ t l. b.same i t) (λ t l. c.same t j);
}

-- ---- rows
pub row-pushed : (p : ℕ) (k : Kept) (stored factors : Table) → AreKeptFactors k →
    height stored ≡ height k.stored → stored.width ≡ k.stored.width →
    ((j : ℕ) → j < k.stored.width → entry stored k.rows j ≡ 0) →
    ((u j : ℕ) → u ≢ k.rows → entry stored u j ≡ entry k.stored u j) →
    ((t : ℕ) → t < k.factors.width → entry factors k.rows t ≡ 0) →
    ((u t : ℕ) → u ≢ k.rows → entry factors u t ≡ entry k.factors u t) →
    HasRows p k (with_size k (k.rows + 1) k.columns stored factors k.pending) (k.rows + 1) (λ i. i)
row-pushed p k stored factors good rows columns zero others none other_factors = record {
  rows_are = refl;
  columns_same = refl;
  height_same = rows;
  width_same = columns;
  entries = λ i j il low jl. actual-same p (with_size k (k.rows + 1) k.columns stored factors k.pending) k i j i j
      (others i j (omega arith)) refl (λ t l. other_factors i t (omega arith)) (λ t l. refl);
  zero = λ i j il high jl. let now = with_size k (k.rows + 1) k.columns stored factors k.pending in
      let e : i ≡ k.rows = omega arith in
      subst (λ u. actual p now u j ≡ 0) (sym e) (actual-none p now k.rows j (zero j (omega (arith, good.columns_fit, jl)))
      (λ t l. inl (none t (omega (arith, good.few, good.factors_width, l)))));
}

pub row-removed : (p : ℕ) (k : Kept) (stored factors : Table) (r : ℕ) → r < k.rows →
    height stored ≡ height k.stored → stored.width ≡ k.stored.width →
    ((j : ℕ) → entry stored r j ≡ entry k.stored (k.rows - 1) j) →
    ((u j : ℕ) → u ≢ r → u ≢ k.rows - 1 → entry stored u j ≡ entry k.stored u j) →
    ((t : ℕ) → entry factors r t ≡ entry k.factors (k.rows - 1) t) →
    ((u t : ℕ) → u ≢ r → u ≢ k.rows - 1 → entry factors u t ≡ entry k.factors u t) →
    HasRows p k (with_size k (k.rows - 1) k.columns stored factors k.pending) (k.rows - 1) (last_at r (k.rows - 1))
row-removed p k stored factors r rl rows columns here others here_factors other_factors = record {
  rows_are = refl;
  columns_same = refl;
  height_same = rows;
  width_same = columns;
  entries = λ i j il low jl. elim (nat_cases i r) [
    | inl q ↦ subst (λ u. actual p (with_size k (k.rows - 1) k.columns stored factors k.pending) i j ≡ actual p k u j) (sym (ap (last_at r (k.rows - 1)) q
        ∙ last_at-here r (k.rows - 1)))
        (actual-same p (with_size k (k.rows - 1) k.columns stored factors k.pending) k i j (k.rows - 1) j (ap (λ u. entry stored u j) q ∙ here j) refl
        (λ t l. ap (λ u. entry factors u t) q ∙ here_factors t) (λ t l. refl))
    | inr ne ↦ subst (λ u. actual p (with_size k (k.rows - 1) k.columns stored factors k.pending) i j ≡ actual p k u j) (sym (last_at-other r
        (k.rows - 1) i ne))
        (actual-same p (with_size k (k.rows - 1) k.columns stored factors k.pending) k i j i j (others i j ne (omega arith)) refl
        (λ t l. other_factors i t ne (omega arith)) (λ t l. refl))
  ];
  zero = λ i j il high jl. absurd (within i il (nat_cases i r) high);
}
  where
    within : (i : ℕ) → i < (k.rows - 1) → (i ≡ r) ⊎ (i ≢ r) → k.rows ≤ last_at r (k.rows - 1) i → ⊥
    within i il (inl q) high =
        let e : last_at r (k.rows - 1) i ≡ (k.rows - 1) = ap (last_at r (k.rows - 1)) q ∙ last_at-here r (k.rows - 1) in omega arith
    within i il (inr ne) high = let e : last_at r (k.rows - 1) i ≡ i = last_at-other r (k.rows - 1) i ne in omega arith

-- ---- columns
pub column-pushed : (p : ℕ) (k : Kept) (stored pending : Table) → AreKeptFactors k →
    height stored ≡ height k.stored → stored.width ≡ k.stored.width →
    ((i : ℕ) → i < height k.stored → entry stored i k.columns ≡ 0) →
    ((i c : ℕ) → c ≢ k.columns → entry stored i c ≡ entry k.stored i c) →
    ((t : ℕ) → t < height k.pending → entry pending t k.columns ≡ 0) →
    ((t c : ℕ) → c ≢ k.columns → entry pending t c ≡ entry k.pending t c) →
    HasColumns p k (with_size k k.rows (k.columns + 1) stored k.factors pending) (k.columns + 1) (λ j. j)
column-pushed p k stored pending good rows columns zero others none other_pending = record {
  rows_same = refl;
  columns_are = refl;
  height_same = rows;
  width_same = columns;
  entries = λ i j il jl low. actual-same p (with_size k k.rows (k.columns + 1) stored k.factors pending) k i j i j
      (others i j (omega arith)) refl (λ t l. refl) (λ t l. other_pending t j (omega arith));
  zero = λ i j il jl high. let now = with_size k k.rows (k.columns + 1) stored k.factors pending in
      let e : j ≡ k.columns = omega arith in
      subst (λ w. actual p now i w ≡ 0) (sym e) (actual-none p now i k.columns (zero i (omega (arith, good.rows_fit, il)))
      (λ t l. inr (none t (omega (arith, good.few, good.pending_height, l)))));
}

pub column-removed : (p : ℕ) (k : Kept) (stored pending : Table) (c : ℕ) → c < k.columns → AreKeptFactors k →
    height stored ≡ height k.stored → stored.width ≡ k.stored.width →
    ((i : ℕ) → i < height k.stored → entry stored i c ≡ entry k.stored i (k.columns - 1)) →
    ((i j : ℕ) → j ≢ c → entry stored i j ≡ entry k.stored i j) →
    ((t : ℕ) → t < height k.pending → entry pending t c ≡ entry k.pending t (k.columns - 1)) →
    ((t j : ℕ) → j ≢ c → entry pending t j ≡ entry k.pending t j) →
    HasColumns p k (with_size k k.rows (k.columns - 1) stored k.factors pending) (k.columns - 1)
    (last_at c (k.columns - 1))
column-removed p k stored pending c cl good rows columns here others here_pending other_pending = record {
  rows_same = refl;
  columns_are = refl;
  height_same = rows;
  width_same = columns;
  entries = λ i j il jl low. elim (nat_cases j c) [
    | inl q ↦ subst (λ w. actual p (with_size k k.rows (k.columns - 1) stored k.factors pending) i j ≡ actual p k i w) (sym (ap (last_at c (k.columns - 1)) q
        ∙ last_at-here c (k.columns - 1)))
        (actual-same p (with_size k k.rows (k.columns - 1) stored k.factors pending) k i j i (k.columns - 1) (ap (λ w. entry stored i w) q ∙ here i (omega
        (arith, good.rows_fit, il))) refl
        (λ t l. refl)
        (λ t l. ap (λ w. entry pending t w) q ∙ here_pending t (omega (arith, good.few, good.pending_height, l))))
    | inr ne ↦ subst (λ w. actual p (with_size k k.rows (k.columns - 1) stored k.factors pending) i j ≡ actual p k i w) (sym (last_at-other c
        (k.columns - 1) j ne))
        (actual-same p (with_size k k.rows (k.columns - 1) stored k.factors pending) k i j i j (others i j ne) refl (λ t l. refl) (λ t l. other_pending t j ne))
  ];
  zero = λ i j il jl high. absurd (within j jl (nat_cases j c) high);
}
  where
    within : (j : ℕ) → j < (k.columns - 1) → (j ≡ c) ⊎ (j ≢ c) → k.columns ≤ last_at c (k.columns - 1) j → ⊥
    within j jl (inl q) high =
        let e : last_at c (k.columns - 1) j ≡ (k.columns - 1) = ap (last_at c (k.columns - 1)) q ∙ last_at-here c (k.columns - 1) in omega arith
    within j jl (inr ne) high = let e : last_at c (k.columns - 1) j ≡ j = last_at-other c (k.columns - 1) j ne in omega arith

-- ---- an entry that is put where nothing waits
pub put-settled : (p : ℕ) (k : Kept) (stored : Table) (i j x : ℕ) → IsSettled k i → x < p → entry stored i j ≡ x →
    ((u w : ℕ) → u ≢ i → entry stored u w ≡ entry k.stored u w) →
    ((w : ℕ) → w ≢ j → entry stored i w ≡ entry k.stored i w) → (u w : ℕ) →
    actual p (with_size k k.rows k.columns stored k.factors k.pending) u w ≡ with_entry (actual p k) i j x u w
put-settled p k stored i j x settled small here others other_columns u w = at (nat_cases u i) (nat_cases w j)
  where
    value : actual p (with_size k k.rows k.columns stored k.factors k.pending) i j ≡ x
    value = ap (λ s. (entry stored i j + s) % p) (settled-none (with_size k k.rows k.columns stored k.factors k.pending) i j settled)
        ∙ ap (λ y. (y + 0) % p) here ∙ ap (λ y. y % p) (let q : x + 0 ≡ x = omega arith in q) ∙ mod-eq_of_lt small

    at : (u ≡ i) ⊎ (u ≢ i) → (w ≡ j) ⊎ (w ≢ j) → actual p (with_size k k.rows k.columns stored k.factors k.pending) u w ≡ with_entry (actual p k) i j x u w
    at (inl q) (inl r) = ap (λ u. actual p (with_size k k.rows k.columns stored k.factors k.pending) u w) q ∙ ap (λ w. actual p
        (with_size k k.rows k.columns stored k.factors k.pending) i w) r ∙ value
        ∙ sym (ap (λ u. with_entry (actual p k) i j x u w) q ∙ ap (λ w. with_entry (actual p k) i j x i w) r
        ∙ with_entry-there (actual p k) i j x)
    at (inl q) (inr ne) = actual-same p (with_size k k.rows k.columns stored k.factors k.pending) k u w u w
        (ap (λ u. entry stored u w) q ∙ other_columns w ne ∙ ap (λ u. entry k.stored u w) (sym q)) refl
        (λ t l. refl) (λ t l. refl) ∙ sym (with_entry-column (actual p k) i j x u w ne)
    at (inr ne) s = actual-same p (with_size k k.rows k.columns stored k.factors k.pending) k u w u w (others u w ne) refl (λ t l. refl) (λ t l. refl)
        ∙ sym (with_entry-row (actual p k) i j x u w ne)

-- ---- a row that is added to another one
-- sums of which one is the other two together
sum-linear : (p n c : ℕ) (f h g y : ℕ → ℕ) → ((t : ℕ) → t < n → g t % p ≡ (f t + c * h t) % p) →
    sum_below n (λ t. g t * y t) % p ≡ (sum_below n (λ t. f t * y t) + c * sum_below n (λ t. h t * y t)) % p
sum-linear p n c f h g y is =
    agree-sum p everything n (λ t. g t * y t) (λ t. f t * y t + c * (h t * y t))
    (λ t l _. ap (λ x. x % p) (let q : g t * y t ≡ y t * g t = omega arith in q)
    ∙ agree-mul p (y t) (g t) (f t + c * h t) (is t l)
    ∙ ap (λ x. x % p) (let q : y t * (f t + c * h t) ≡ f t * y t + c * (h t * y t) = omega arith in q))
    ∙ ap (λ x. x % p) (sum_on-add everything n (λ t. f t * y t) (λ t. c * (h t * y t))
    ∙ ap (λ s. sum_below n (λ t. f t * y t) + s) (sum_on-mul everything n c (λ t. h t * y t)))

pub row-added : (p : ℕ) (k : Kept) (stored factors : Table) (t s c : ℕ) → AreKeptFactors k → t < k.rows → s < k.rows →
    IsRowAdded p (height k.stored) k.stored.width (entry k.stored) (entry stored) t s c →
    IsRowAdded p (height k.factors) k.factors.width (entry k.factors) (entry factors) t s c →
    IsRowAdded p k.rows k.columns (actual p k) (actual p (with_size k k.rows k.columns stored factors k.pending)) t s c
row-added p k stored factors t s c good tl sl added added_factors = record {
  changed = λ j jl.
      mod-mod (entry stored t j + waiting (with_size k k.rows k.columns stored factors k.pending) t j) p
      ∙ agree-add p (entry stored t j) (entry k.stored t j + c * entry k.stored s j) (waiting (with_size k k.rows k.columns stored factors k.pending) t j)
      (waiting k t j + c * waiting k s j)
      (added.changed j (omega (arith, good.columns_fit, jl)))
      (sum-linear p k.count c (λ w. entry k.factors t w) (λ w. entry k.factors s w) (λ w. entry factors t w)
      (λ w. entry k.pending w j) (λ w l. added_factors.changed w (omega (arith, good.few, good.factors_width, l))))
      ∙ ap (λ y. y % p) (let q : entry k.stored t j + c * entry k.stored s j + (waiting k t j + c * waiting k s j)
      ≡ entry k.stored t j + waiting k t j + c * (entry k.stored s j + waiting k s j) = omega arith in q)
      ∙ agree-add p (entry k.stored t j + waiting k t j) (actual p k t j) (c * (entry k.stored s j + waiting k s j))
      (c * actual p k s j) (sym (mod-mod (entry k.stored t j + waiting k t j) p))
      (agree-mul p c (entry k.stored s j + waiting k s j) (actual p k s j)
      (sym (mod-mod (entry k.stored s j + waiting k s j) p)));
  others = λ i j il jl ne.
      mod-mod (entry stored i j + waiting (with_size k k.rows k.columns stored factors k.pending) i j) p
      ∙ agree-add p (entry stored i j) (entry k.stored i j) (waiting (with_size k k.rows k.columns stored factors k.pending) i j) (waiting k i j)
      (added.others i j (omega (arith, good.rows_fit, il)) (omega (arith, good.columns_fit, jl)) ne)
      (agree-sum p everything k.count (λ w. entry factors i w * entry k.pending w j)
      (λ w. entry k.factors i w * entry k.pending w j)
      (λ w l _. ap (λ x. x % p) (let q : entry factors i w * entry k.pending w j
      ≡ entry k.pending w j * entry factors i w = omega arith in q)
      ∙ agree-mul p (entry k.pending w j) (entry factors i w) (entry k.factors i w)
      (added_factors.others i w (omega (arith, good.rows_fit, good.factors_height, il)) (omega (
        arith,
        good.few,
        good.factors_width,
        l,
      )) ne)
      ∙ ap (λ x. x % p) (let q : entry k.pending w j * entry k.factors i w
      ≡ entry k.factors i w * entry k.pending w j = omega arith in q)))
      ∙ sym (mod-mod (entry k.stored i j + waiting k i j) p);
}

pub widened-to : (p : ℕ) (k k' n : Kept) (r r' w w' : ℕ) → k ≡ k' → r ≡ r' → w ≡ w' → IsWidened p k n r w →
    IsWidened p k' n r' w'
widened-to p k k' n r r' w w' e a b h = subst (λ x. IsWidened p x n r' w') e
    (subst (λ x. IsWidened p k n x w') a (subst (λ x. IsWidened p k n r x) b h))
