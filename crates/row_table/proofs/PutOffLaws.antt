-- A matrix beside which changes wait: what each step does to the actual entries.
use Rattle.std.proofs.Common.{◌≡◌, ℕ, ◌+◌, ◌*◌, ◌%◌, ◌<◌, ◌≤◌, ◌≢◌, List, [], length, map, slice_index, slice_index_or, slice_set, ◌⊎◌, inl, inr, refl, ap}
use Rattle.std.proofs.Common.{sym, subst, ◌∙◌, arith, add-one}
use Rattle.std.proofs.Math.Nat.{mod-mod, zero-mod, mod-eq_of_lt}
use Rattle.std.proofs.lemmas.List.{get_or-set_same, get_or-set_other, length-set, get_or-map, length-map, map-set}
use Rattle.residue_theory.specs.Sets.{everything, without}
use Rattle.residue_theory.specs.Sums.{sum_on, sum_below}
use Rattle.residue_theory.proofs.SumLaws.{nat_cases, sum_on-ext, sum_on-none, sum_on-without, without-member}
use Rattle.residue_theory.proofs.ResidueLaws.{agree-add, agree-mul}
use Rattle.dense_q.specs.Tables.{Table, IsMatrix, HasSameSize, height, row_at, entry, table_with_entry}
use Rattle.residue_theory.specs.Residues.{IsPrime}
use Rattle.linear_algebra.specs.Products.{identity}
use Rattle.linear_algebra.specs.RowOperations.{IsRowScaled}
use Rattle.linear_algebra_laws.proofs.Entries.{identity-same, identity-other}
use Rattle.row_table.specs.Reductions.{IsReduced}
use Rattle.row_table.specs.Places.{with_unit}
use Rattle.row_table.specs.PutOffs.{Kept, AreKeptFactors, actual, waiting, HasSameShape, IsActuallySame, IsSettled}
use Rattle.row_table.proofs.PlaceLaws.{if_same, if_other}

pub sum-next : (n : ℕ) (f : ℕ → ℕ) → sum_below (n + 1) f ≡ sum_below n f + f n
sum-next n f = ap (λ k. sum_below k f) (add-one n)

-- ---- one entry put
module _ (m now : Table) (i j x : ℕ) (good : IsMatrix m) (il : i < height m) (jl : j < m.width) (e : now
    ≡ table_with_entry m i j x) where
  pub put-size : HasSameSize now m
  put-size = record { height_same = ap height e ∙ length-set m.rows i _; width_same = ap (λ (t : Table). t.width) e }

  pub put-here : entry now i j ≡ x
  put-here = ap (λ (t : Table). entry t i j) e
      ∙ ap (λ r. slice_index r j) (get_or-set_same m.rows i (slice_set (row_at m i) j x) [] il)
      ∙ get_or-set_same (row_at m i) j x 0 (omega (arith, good.full i [] il))

  pub put-other_rows : (u w : ℕ) → u ≢ i → entry now u w ≡ entry m u w
  put-other_rows u w ne = ap (λ (t : Table). entry t u w) e
      ∙ ap (λ r. slice_index r w) (get_or-set_other m.rows i u (slice_set (row_at m i) j x) [] ne)

  pub put-other_columns : (w : ℕ) → w ≢ j → entry now i w ≡ entry m i w
  put-other_columns w ne = ap (λ (t : Table). entry t i w) e
      ∙ ap (λ r. slice_index r w) (get_or-set_same m.rows i (slice_set (row_at m i) j x) [] il)
      ∙ get_or-set_other (row_at m i) j w x 0 ne

-- ---- a sum of which one term is taken out
pub sum-taken : (n t : ℕ) (f g y : ℕ → ℕ) → t < n → g t ≡ 0 → ((w : ℕ) → w ≢ t → g w ≡ f w) →
    sum_below n (λ w. f w * y w) ≡ f t * y t + sum_below n (λ w. g w * y w)
sum-taken n t f g y tl zero same =
    sum_on-without everything n t (λ w. f w * y w) tl refl
    ∙ ap (λ s. s + f t * y t) (sum_on-ext (without everything t) n (λ w. f w * y w) (λ w. g w * y w)
    (λ w _ h. ap (λ k. k * y w) (sym (same w (without-member everything t w h).1))))
    ∙ (let q : sum_on (without everything t) n (λ w. g w * y w) + f t * y t
    ≡ f t * y t + (sum_on (without everything t) n (λ w. g w * y w) + 0 * y t) = omega arith in q)
    ∙ ap (λ s. f t * y t + (sum_on (without everything t) n (λ w. g w * y w) + s * y t)) (sym zero)
    ∙ ap (λ s. f t * y t + s) (sym (sum_on-without everything n t (λ w. g w * y w) tl refl))

-- of row i the change t is made
pub made-same : (p : ℕ) (old now : Kept) (i t k : ℕ) → old.columns ≤ old.stored.width → t < old.count →
    k ≡ entry old.factors i t →
    now.pending ≡ old.pending → now.count ≡ old.count →
    ((j : ℕ) → j < old.stored.width → entry now.stored i j ≡ (entry old.stored i j + k * entry old.pending t j) % p) →
    ((u j : ℕ) → u ≢ i → entry now.stored u j ≡ entry old.stored u j) →
    entry now.factors i t ≡ 0 → ((u w : ℕ) → u ≢ i → entry now.factors u w ≡ entry old.factors u w) →
    ((w : ℕ) → w ≢ t → entry now.factors i w ≡ entry old.factors i w) →
    IsActuallySame p now old
made-same p old now i t k fits tl factor pending count changed stays zero other_rows other_changes u j ul jl =
    elim (nat_cases u i) [
      | inl q ↦ subst (λ x. actual p now x j ≡ actual p old x j) (sym q) here
      | inr ne ↦ ap (λ s. (s + waiting now u j) % p) (stays u j ne)
          ∙ ap (λ s. (entry old.stored u j + s) % p) (there ne)
    ]
  where
    rows_are : (u : ℕ) → waiting now u j ≡ sum_below old.count (λ w. entry now.factors u w * entry old.pending w j)
    rows_are u = ap (λ n. sum_below n (λ w. entry now.factors u w * entry now.pending w j)) count
        ∙ ap (λ (m : Table). sum_below old.count (λ w. entry now.factors u w * entry m w j)) pending

    there : u ≢ i → waiting now u j ≡ waiting old u j
    there ne = rows_are u ∙ sum_on-ext everything old.count (λ w. entry now.factors u w * entry old.pending w j)
        (λ w. entry old.factors u w * entry old.pending w j) (λ w _ _. ap (λ x. x * entry old.pending w j)
        (other_rows u w ne))

    here : actual p now i j ≡ actual p old i j
    here =
        agree-add p (entry now.stored i j) (entry old.stored i j + k * entry old.pending t j) (waiting now i j)
        (sum_below old.count (λ w. entry now.factors i w * entry old.pending w j))
        (ap (λ y. y % p) (changed j (omega (arith, fits, jl))) ∙ mod-mod (entry old.stored i j + k * entry old.pending t j) p)
        (ap (λ y. y % p) (rows_are i))
        ∙ ap (λ y. y % p) (ap (λ f. entry old.stored i j + f * entry old.pending t j + sum_below old.count
        (λ w. entry now.factors i w * entry old.pending w j)) factor
        ∙ (let q : entry old.stored i j + entry old.factors i t * entry old.pending t j + sum_below old.count
        (λ w. entry now.factors i w * entry old.pending w j)
        ≡ entry old.stored i j + (entry old.factors i t * entry old.pending t j + sum_below old.count
        (λ w. entry now.factors i w * entry old.pending w j)) = omega arith in q)
        ∙ ap (λ s. entry old.stored i j + s)
        (sym (sum-taken old.count t (λ w. entry old.factors i w) (λ w. entry now.factors i w)
        (λ w. entry old.pending w j) tl zero other_changes)))

-- ---- sizes and shapes
pub shape-trans : (a b c : Kept) → HasSameShape a b → HasSameShape b c → HasSameShape a c
shape-trans a b c e h = record {
  rows_same = e.rows_same ∙ h.rows_same;
  columns_same = e.columns_same ∙ h.columns_same;
  height_same = e.height_same ∙ h.height_same;
  width_same = e.width_same ∙ h.width_same;
}

pub same-trans : (p : ℕ) (a b c : Kept) → HasSameShape b c → IsActuallySame p a b → IsActuallySame p b c →
    IsActuallySame p a c
same-trans p a b c shape e h i j il jl = e i j (subst (λ m. i < m) (sym shape.rows_same) il)
    (subst (λ n. j < n) (sym shape.columns_same) jl) ∙ h i j il jl

pub size-trans : (a b c : Table) → HasSameSize a b → HasSameSize b c → HasSameSize a c
size-trans a b c e h = record { height_same = e.height_same ∙ h.height_same; width_same = e.width_same ∙ h.width_same }

-- ---- a column of values that is written one by one
module _ {A : Type 0} (number : A → ℕ) where
  pub written-here : (xs : List A) (i : ℕ) (x : A) → i < length xs → slice_index (map number (slice_set xs i x)) i
      ≡ number x
  written-here xs i x l = ap (λ ys. slice_index ys i) (map-set number xs i x)
      ∙ get_or-set_same (map number xs) i (number x) 0 (omega (arith, length-map xs number))

  pub written-other : (xs : List A) (i k : ℕ) (x : A) → k ≢ i → slice_index (map number (slice_set xs i x)) k
      ≡ slice_index (map number xs) k
  written-other xs i k x ne = ap (λ ys. slice_index ys k) (map-set number xs i x)
      ∙ get_or-set_other (map number xs) i k (number x) 0 ne

  pub column-next : (xs : List A) (i : ℕ) (x : A) (f : ℕ → ℕ) → i < length xs →
      ((k : ℕ) → k < i → slice_index (map number xs) k ≡ f k) → number x ≡ f i →
      (k : ℕ) → k < i + 1 → slice_index (map number (slice_set xs i x)) k ≡ f k
  column-next xs i x f l so_far e k kl = elim (nat_cases k i) [
    | inl q ↦ subst (λ u. slice_index (map number (slice_set xs i x)) u ≡ f u) (sym q) (written-here xs i x l ∙ e)
    | inr ne ↦ written-other xs i k x ne ∙ so_far k (omega arith)
  ]

  pub value-at : (xs : List A) (i : ℕ) (x : A) → i < length xs → x ≡ slice_index_or xs i x →
      number x ≡ slice_index (map number xs) i
  value-at xs i x l e = ap number e ∙ sym (get_or-map number xs i x 0 l)

  pub negated-next : (p : ℕ) (old xs : List A) (i : ℕ) (x y : A) → i < length xs → x ≡ slice_index_or xs i x →
      (number x + number y) % p ≡ 0 →
      slice_index (map number xs) i ≡ slice_index (map number old) i →
      ((k : ℕ) → k < i → (slice_index (map number old) k + slice_index (map number xs) k) % p ≡ 0) →
      (k : ℕ) → k < i + 1 → (slice_index (map number old) k + slice_index (map number (slice_set xs i y)) k) % p ≡ 0
  negated-next p old xs i x y l e z is so_far k kl = elim (nat_cases k i) [
    | inl q ↦ subst (λ u. (slice_index (map number old) u + slice_index (map number (slice_set xs i y)) u) % p ≡ 0)
        (sym q)
        (ap (λ s. (slice_index (map number old) i + s) % p) (written-here xs i y l)
        ∙ ap (λ s. (s + number y) % p) (sym (value-at xs i x l e ∙ is)) ∙ z)
    | inr ne ↦ ap (λ s. (slice_index (map number old) k + s) % p) (written-other xs i k y ne) ∙ so_far k (omega arith)
  ]

-- ---- a sum that a loop makes
pub added-next : (p e t s m a : ℕ) (f : ℕ → ℕ) → s % p ≡ (e + sum_below t f) % p → m ≡ f t →
    a ≡ (s + m) % p → a % p ≡ (e + sum_below (t + 1) f) % p
added-next p e t s m a f so_far term sum =
    ap (λ y. y % p) sum ∙ mod-mod (s + m) p
    ∙ agree-add p s (e + sum_below t f) m (f t) so_far (ap (λ y. y % p) term)
    ∙ ap (λ y. y % p) ((let q : e + sum_below t f + f t ≡ e + (sum_below t f + f t) = omega arith in q)
    ∙ ap (λ y. e + y) (sym (sum-next t f)))

-- ---- what waits for a settled row
pub settled-none : (k : Kept) (i j : ℕ) → IsSettled k i → waiting k i j ≡ 0
settled-none k i j h = sum_on-ext everything k.count (λ t. entry k.factors i t * entry k.pending t j) (λ _. 0)
    (λ t tl _. ap (λ x. x * entry k.pending t j) (h t tl) ∙ (let q : 0 * entry k.pending t j ≡ 0 = omega arith in q))
    ∙ sum_on-none everything k.count

settled-actual : (p : ℕ) (k : Kept) (i j : ℕ) → IsSettled k i → actual p k i j ≡ entry k.stored i j % p
settled-actual p k i j h = ap (λ s. (entry k.stored i j + s) % p) (settled-none k i j h) ∙ ap (λ y. y % p) (omega arith)

pub flushed-same : (p : ℕ) (old mid : Kept) → HasSameShape mid old → IsActuallySame p mid old →
    ((u : ℕ) → u < mid.rows → IsSettled mid u) → IsActuallySame p (record mid { count = 0 }) old
flushed-same p old mid shape same settled i j il jl =
    ap (λ y. y % p) (let q : entry mid.stored i j + 0 ≡ entry mid.stored i j = omega arith in q)
    ∙ sym (settled-actual p mid i j (settled i (subst (λ m. i < m) (sym shape.rows_same) il))) ∙ same i j il jl

pub scaled-actual : (p : ℕ) (old mid : Kept) (stored : Table) (i k : ℕ) → i < old.rows → AreKeptFactors mid →
    HasSameShape mid old → IsActuallySame p mid old → IsSettled mid i →
    IsRowScaled p (height mid.stored) mid.stored.width (entry mid.stored) (entry stored) i k →
    IsRowScaled p old.rows old.columns (actual p old) (actual p (record mid { stored = stored })) i k
scaled-actual p old mid stored i k il fit shape same settled scaled = record {
  changed = λ j jl.
      ap (λ y. y % p) (settled-actual p (record mid { stored = stored }) i j settled) ∙ mod-mod (entry stored i j) p
      ∙ scaled.changed j (omega (arith, shape.columns_same, fit.columns_fit, jl))
      ∙ agree-mul p k (entry mid.stored i j) (actual p old i j) (sym (mod-mod (entry mid.stored i j) p)
      ∙ ap (λ y. y % p) (sym (settled-actual p mid i j settled) ∙ same i j il jl));
  others = λ u j ul jl ne.
      mod-mod (entry stored u j + waiting mid u j) p
      ∙ agree-add p (entry stored u j) (entry mid.stored u j) (waiting mid u j) (waiting mid u j)
      (scaled.others u j (omega (arith, shape.rows_same, fit.rows_fit, ul))
      (omega (arith, shape.columns_same, fit.columns_fit, jl)) ne) refl
      ∙ same u j ul jl ∙ sym (mod-mod (entry old.stored u j + waiting old u j) p);
}

-- ---- a unit column
abbrev pub with_tables : Kept → Table → Table → Kept
with_tables old stored pending = record {
  rows = old.rows;
  columns = old.columns;
  stored = stored;
  factors = old.factors;
  pending = pending;
  count = old.count;
}

pub unit-put : (p : ℕ) → IsPrime p → (old : Kept) (cleared now pending : Table) (r j x : ℕ) → AreKeptFactors old →
    r < old.rows →
    ((t : ℕ) → t < height old.pending → entry pending t j ≡ 0) →
    ((t c : ℕ) → c ≢ j → entry pending t c ≡ entry old.pending t c) →
    ((i : ℕ) → i < height old.stored → entry cleared i j ≡ 0) →
    ((i c : ℕ) → c ≢ j → entry cleared i c ≡ entry old.stored i c) →
    x ≡ 1 → entry now r j ≡ x → ((i c : ℕ) → i ≢ r → entry now i c ≡ entry cleared i c) →
    ((c : ℕ) → c ≢ j → entry now r c ≡ entry cleared r c) →
    (i c : ℕ) → i < old.rows → c < old.columns →
    actual p (with_tables old now pending) i c
    ≡ with_unit (actual p old) r j i c
unit-put p prime old cleared now pending r j x kept rl none others zeros stays one here other_rows other_columns i c
    il cl = elim (nat_cases c j) [
      | inl q ↦ at_unit q (nat_cases i r)
      | inr ne ↦ (ap (λ s. (s + waiting (with_tables old now pending) i c) % p) (elsewhere ne)
          ∙ ap (λ s. (entry old.stored i c + s) % p) (waits ne))
          ∙ sym (if_other c j (identity i r) (actual p old i c) ne)
    ]
  where
    elsewhere : c ≢ j → entry now i c ≡ entry old.stored i c
    elsewhere ne = elim (nat_cases i r) [
      | inl q ↦ subst (λ u. entry now u c ≡ entry old.stored u c) (sym q) (other_columns c ne ∙ stays r c ne)
      | inr apart ↦ other_rows i c apart ∙ stays i c ne
    ]

    waits : c ≢ j → waiting (with_tables old now pending) i c ≡ waiting old i c
    waits ne = sum_on-ext everything old.count (λ t. entry old.factors i t * entry pending t c)
        (λ t. entry old.factors i t * entry old.pending t c) (λ t _ _. ap (λ y. entry old.factors i t * y)
        (others t c ne))

    nothing : c ≡ j → waiting (with_tables old now pending) i c ≡ 0
    nothing q = sum_on-ext everything old.count (λ t. entry old.factors i t * entry pending t c) (λ _. 0)
        (λ t tl _. ap (λ y. entry old.factors i t * y) (ap (λ d. entry pending t d) q
        ∙ none t (omega (arith, kept.few, kept.pending_height, tl))) ∙ (let z : entry old.factors i t * 0 ≡ 0 =
        omega arith in z))
        ∙ sum_on-none everything old.count

    number_here : c ≡ j → (i ≡ r) ⊎ (i ≢ r) → entry now i c ≡ identity i r
    number_here q (inl s) = subst (λ u. entry now u c ≡ identity u r) (sym s) (ap (λ d. entry now r d) q ∙ here ∙ one
        ∙ sym (identity-same r))
    number_here q (inr ne) = other_rows i c ne ∙ ap (λ d. entry cleared i d) q ∙ zeros i (omega (arith, kept.rows_fit, il))
        ∙ sym (identity-other i r ne)

    small : (i ≡ r) ⊎ (i ≢ r) → identity i r < p
    small (inl s) = subst (λ y. y < p) (sym (ap (λ u. identity u r) s ∙ identity-same r)) prime.above_one
    small (inr ne) = subst (λ y. y < p) (sym (identity-other i r ne)) (omega (arith, prime.above_one))

    at_unit : c ≡ j → (i ≡ r) ⊎ (i ≢ r) → actual p (with_tables old now pending) i c ≡ with_unit (actual p old) r j i c
    at_unit q s =
        ap (λ y. (entry now i c + y) % p) (nothing q) ∙ ap (λ y. (y + 0) % p) (number_here q s)
        ∙ ap (λ y. y % p) (let z : identity i r + 0 ≡ identity i r = omega arith in z) ∙ mod-eq_of_lt (small s)
        ∙ sym (if_same c j (identity i r) (actual p old i c) q)

-- ---- one more change that waits
module _ (p : ℕ) (old : Kept) (put factors pending : Table) (r : ℕ) (f : ℕ → ℕ) (z : ℕ) (settled : IsSettled old r)
    (copied : (j : ℕ) → entry pending old.count j ≡ entry old.stored r j) (stays : (t j : ℕ) → t ≢ old.count →
    entry pending t j ≡ entry old.pending t j)
    (puts : (i : ℕ) → i < old.rows → entry put i old.count ≡ f i) (others : (i t : ℕ) → t ≢ old.count →
    entry put i t ≡ entry old.factors i t)
    (zero : z ≡ 0) (here : entry factors r old.count ≡ z) (other_rows : (i t : ℕ) → i ≢ r → entry factors i t
    ≡ entry put i t) (other_columns : (t : ℕ) → t ≢ old.count → entry factors r t ≡ entry put r t) where
  abbrev more : Kept
  more = record {
    rows = old.rows;
    columns = old.columns;
    stored = old.stored;
    factors = factors;
    pending = pending;
    count = old.count + 1;
  }

  factor-before : (i t : ℕ) → t < old.count → entry factors i t ≡ entry old.factors i t
  factor-before i t tl = elim (nat_cases i r) [
    | inl q ↦ subst (λ u. entry factors u t ≡ entry old.factors u t) (sym q) (other_columns t (omega arith)
        ∙ others r t (omega arith))
    | inr ne ↦ other_rows i t ne ∙ others i t (omega arith)
  ]

  more-waits : (i j x : ℕ) → entry factors i old.count ≡ x → waiting more i j ≡ waiting old i j + x * entry old.stored
      r j
  more-waits i j x e =
      sum-next old.count (λ t. entry factors i t * entry pending t j)
      ∙ ap (λ s. s + entry factors i old.count * entry pending old.count j)
      (sum_on-ext everything old.count (λ t. entry factors i t * entry pending t j)
      (λ t. entry old.factors i t * entry old.pending t j)
      (λ t tl _. ap (λ y. y * entry pending t j) (factor-before i t tl)
      ∙ ap (λ y. entry old.factors i t * y) (stays t j (omega arith))))
      ∙ ap (λ y. waiting old i j + y * entry pending old.count j) e ∙ ap (λ y. waiting old i j + x * y) (copied j)

  pub change-here : (j : ℕ) → actual p more r j ≡ actual p old r j
  change-here j = ap (λ s. (entry old.stored r j + s) % p) (more-waits r j 0 (here ∙ zero)
      ∙ (let q : waiting old r j + 0 * entry old.stored r j ≡ waiting old r j = omega arith in q))

  pub change-others : (i j : ℕ) → i < old.rows → i ≢ r → actual p more i j
      ≡ (actual p old i j + f i * actual p old r j) % p
  change-others i j il ne =
      ap (λ s. (entry old.stored i j + s) % p) (more-waits i j (f i) (other_rows i old.count ne ∙ puts i il))
      ∙ ap (λ y. y % p) (let q : entry old.stored i j + (waiting old i j + f i * entry old.stored r j)
      ≡ entry old.stored i j + waiting old i j + f i * entry old.stored r j = omega arith in q)
      ∙ agree-add p (entry old.stored i j + waiting old i j) (actual p old i j) (f i * entry old.stored r j)
      (f i * actual p old r j) (sym (mod-mod (entry old.stored i j + waiting old i j) p))
      (agree-mul p (f i) (entry old.stored r j) (actual p old r j) (sym (mod-mod (entry old.stored r j) p)
      ∙ ap (λ y. y % p) (sym (settled-actual p old r j settled))))

-- ---- the exchange
pub exchange-reduced : (p m n : ℕ) (A B C D : ℕ → ℕ → ℕ) (r j w : ℕ) (k g : ℕ → ℕ) → r < m →
    ((i c : ℕ) → i < m → c < n → B i c ≡ with_unit A r j i c) → (k r * w) % p ≡ 1 → IsRowScaled p m n B C r w →
    ((i : ℕ) → i < m → (k i + g i) % p ≡ 0) → ((c : ℕ) → c < n → D r c ≡ C r c) →
    ((i c : ℕ) → i < m → c < n → i ≢ r → D i c ≡ (C i c + g i * C r c) % p) →
    IsReduced p m n (with_unit A r j) D r k
exchange-reduced p m n A B C D r j w k g rl unit one scaled opposite here others = record {
  here = λ c cl. ap (λ y. y % p) (sym (unit r c rl cl))
      ∙ ap (λ y. y % p) (let q : B r c ≡ B r c * 1 = omega arith in q)
      ∙ sym (agree-mul p (B r c) (k r * w) 1 (one ∙ sym one_is))
      ∙ ap (λ y. y % p) (let q : B r c * (k r * w) ≡ k r * (w * B r c) = omega arith in q)
      ∙ agree-mul p (k r) (w * B r c) (C r c) (sym (scaled.changed c cl))
      ∙ ap (λ y. k r * y % p) (sym (here c cl));
  others = λ i c il cl ne. ap (λ y. y % p) (sym (unit i c il cl))
      ∙ sym (scaled.others i c il cl ne)
      ∙ ap (λ y. y % p) (let q : C i c ≡ C i c + C r c * 0 = omega arith in q)
      ∙ agree-add p (C i c) (C i c) (C r c * 0) (C r c * (k i + g i)) refl
      (agree-mul p (C r c) 0 (k i + g i) (zero-mod p ∙ sym (opposite i il)))
      ∙ ap (λ y. y % p) (let q : C i c + C r c * (k i + g i) ≡ C i c + g i * C r c + k i * C r c = omega arith in q)
      ∙ agree-add p (C i c + g i * C r c) (D i c) (k i * C r c) (k i * D r c)
      (sym (ap (λ y. y % p) (others i c il cl ne) ∙ mod-mod (C i c + g i * C r c) p))
      (ap (λ y. k i * y % p) (sym (here c cl)));
}
  where
    one_is : 1 % p ≡ 1
    one_is = sym (ap (λ y. y % p) one) ∙ mod-mod (k r * w) p ∙ one

pub scaled_at : (p m n h w : ℕ) (a b : ℕ → ℕ → ℕ) (t k : ℕ) → h ≡ m → w ≡ n → IsRowScaled p h w a b t k →
    IsRowScaled p m n a b t k
scaled_at p m n h w a b t k e q scaled =
    subst (λ x. IsRowScaled p x n a b t k) e (subst (λ y. IsRowScaled p h y a b t k) q scaled)
