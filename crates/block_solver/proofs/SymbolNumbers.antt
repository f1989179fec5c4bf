-- T rows with the values of their symbols, and right sides, beside the words of the theory.
use Rattle.std.proofs.Common.{◌≡◌, ℕ, zero, suc, ◌+◌, ◌-◌, ◌*◌, ◌%◌, ◌<◌, ◌≤◌, ◌≢◌, Bool, true, false, cond, ltb, List, [], ◌∷◌, ◌++◌}
use Rattle.std.proofs.Common.{length, map, slice_index, slice_index_or, slice_set, inl, inr, refl, ap, sym, subst, ◌∙◌, arith}
use Rattle.std.proofs.lemmas.Bool.Decides.{nat_tests}
use Rattle.std.specs.List.Sorted.{IsStrictlyIncreasing}
use Rattle.std.proofs.Math.Nat.{mod_self}
use Rattle.std.proofs.lemmas.List.{ext_get_or, get_or-map, get_or-set_other, get_or-set_same, get_or_append_left, get_or_push}
use Rattle.std.proofs.lemmas.List.{length-append, length-map, length-set, map-set}
use Rattle.residue_theory.specs.Residues.{IsPrime}
use Rattle.residue_theory.specs.Sets.{everything, has}
use Rattle.residue_theory.specs.Sums.{size_on, sum_below}
use Rattle.residue_theory.proofs.CountLaws.{size-everything, size-zero}
use Rattle.residue_theory.proofs.ResidueLaws.{agree_of}
use Rattle.residue_theory.proofs.SetLaws.{differ}
use Rattle.residue_theory.proofs.SumLaws.{nat_cases, size_on-within, sum_on-ext, sum_on-same}
use Rattle.mixed_matrices.specs.LayeredMatrices.{LayeredMatrix}
use Rattle.mixed_matrices.specs.Layerings.{AreMembers, IsLayeredMatrixOf, Origins, gives_q, has_symbol}
use Rattle.mixed_matrices.specs.Models.{MixedMatrix, numbers}
use Rattle.mixed_layering_laws.proofs.Members.{member-at, member-index, size-later}
use Rattle.mixed_layering_laws.specs.LayeredValues.{AreValuesFor}
use Rattle.value_list_laws.specs.ListedValues.{symbol_count, symbols_before, values_of}
use Rattle.cert_text.specs.Readings.{entry_at, pattern_of}
use Rattle.part_arcs.proofs.FormLaws.{has-some, some-has}
use Rattle.block_laws.specs.NumbersInBlocks.{t_right}
use Rattle.block_solver.specs.Numbers.{AreSidesAt, AreSymbolItems, AreSymbolRows, LacksOrigins, symbols_above}
use Rattle.block_solver.specs.Outcomes.{AreUnknownsOf}
use Rattle.block_solver.specs.Rows.{AreKeysRising}
use Rattle.block_solver.proofs.Entries.{entry-here, entry-other}
use Rattle.block_solver.proofs.RisingLists.{less-order, members-before, rising-weakly}
use Rattle.block_solver.proofs.Splits.{rising-tail}

-- ---- a row of entries, by its places
entry-place : (row : List (ℕ × ℕ)) → AreKeysRising row → (h : ℕ) → h < length row →
    entry_at row (slice_index_or row h (0, 0)).0 ≡ (slice_index_or row h (0, 0)).1
entry-place [] rising h hl = absurd (omega (arith, hl))
entry-place (e ∷ es) rising zero hl = entry-here e es e.0 refl
entry-place (e ∷ es) rising (suc h) hl =
    entry-other e es (slice_index_or es h (0, 0)).0 (λ q. absurd (omega (arith, first, q)))
    ∙ entry-place es (rising-tail e es rising) h (omega (arith, hl))
  where
    keys : List ℕ
    keys = map (λ (x : ℕ × ℕ). x.0) (e ∷ es)

    first : e.0 < (slice_index_or es h (0, 0)).0
    first = omega (
      arith,
      less-order keys rising 0 (suc h) (omega arith) (omega (arith, hl, length-map es (λ (x : ℕ × ℕ). x.0))),
      get_or-map (λ (x : ℕ × ℕ). x.0) es h (0, 0) 0 (omega (arith, hl)),
    )

entry-absent : (row : List (ℕ × ℕ)) (j : ℕ) → ((h : ℕ) → h < length row → (slice_index_or row h (0, 0)).0 ≢ j) → entry_at row j ≡ 0
entry-absent [] j none = refl
entry-absent (e ∷ es) j none = entry-other e es j (none 0 (omega arith)) ∙ entry-absent es j (λ h hl. none (suc h) (omega (arith, hl)))

-- ---- the columns of a T row with their numbers
pub items-next : (p u first n : ℕ) (columns values : List ℕ) (row : List (ℕ × ℕ)) (item : ℕ × ℕ) → AreSymbolItems p u first n columns values row →
    item.0 ≡ slice_index columns n → item.1 % p ≡ cond (ltb (slice_index columns n) u) (slice_index values (first + n)) (p - 1) % p →
    AreSymbolItems p u first (n + 1) columns values (row ++ item ∷ [])
items-next p u first n columns values row item are at is = record {
  count = length-append row (item ∷ []) ∙ ap (λ k. k + 1) are.count;
  key = λ h hl. elim (nat_cases h n) [
    | inl q ↦ subst (λ k. (slice_index_or (row ++ item ∷ []) k (0, 0)).0 ≡ slice_index columns k) (sym q)
        (ap (λ (e : ℕ × ℕ). e.0) (get_or_push row item (0, 0) n are.count) ∙ at)
    | inr ne ↦
        let less : h < n = omega (arith, hl, ne) in
        ap (λ (e : ℕ × ℕ). e.0) (get_or_append_left row (item ∷ []) (0, 0) h (omega (arith, less, are.count))) ∙ are.key h less
  ];
  number = λ h hl. elim (nat_cases h n) [
    | inl q ↦ subst (λ k. (slice_index_or (row ++ item ∷ []) k (0, 0)).1 % p
        ≡ cond (ltb (slice_index columns k) u) (slice_index values (first + k)) (p - 1) % p) (sym q)
        (ap (λ (e : ℕ × ℕ). e.1 % p) (get_or_push row item (0, 0) n are.count) ∙ is)
    | inr ne ↦
        let less : h < n = omega (arith, hl, ne) in
        ap (λ (e : ℕ × ℕ). e.1 % p) (get_or_append_left row (item ∷ []) (0, 0) h (omega (arith, less, are.count))) ∙ are.number h less
  ];
}

-- -1 as a number below p
pub minus_one : (p : ℕ) → IsPrime p → (x : ℕ) → (1 + x) % p ≡ 0 → x % p ≡ (p - 1) % p
minus_one p prime x e = agree_of p x 1 (p - 1) (ap (λ s. s % p) (turned x) ∙ e)
    (ap (λ s. s % p) (let q : p - 1 + 1 ≡ p = omega (arith, prime.above_one) in q) ∙ mod_self p)
  where
    turned : (y : ℕ) → y + 1 ≡ 1 + y
    turned y = omega arith

-- a value is there for each unknown of a row
pub value-there : (columns : List ℕ) → IsStrictlyIncreasing columns → (u h : ℕ) → h < length columns → slice_index columns h < u →
    h < size_on (has columns) u
value-there columns rising u h hl less = omega (
  arith,
  members-before columns rising h (slice_index columns h) (omega (arith, hl)) (λ i il. less-order columns rising i h il hl)
      (λ i hi il. rising-weakly columns rising h i hi il),
  size-later (has columns) (slice_index columns h) u less (some-has columns h (slice_index columns h) hl refl),
)

sums-rise : (f : ℕ → ℕ) (a b : ℕ) → a ≤ b → sum_below a f ≤ sum_below b f
sums-rise f a zero le = subst (λ k. sum_below k f ≤ 0) (let q : 0 ≡ a = omega (arith, le) in q) (omega arith)
sums-rise f a (suc b) le = elim (nat_cases a (suc b)) [
  | inl q ↦ subst (λ k. sum_below k f ≤ sum_below (suc b) f) (sym q) (omega arith)
  | inr ne ↦ omega (arith, sums-rise f a b (omega (arith, le, ne)))
]

pub above-next : (t : List (List ℕ)) (u i : ℕ) → symbols_above t u (i + 1) ≡ symbols_above t u i + size_on (has (slice_index_or t i [])) u
above-next t u i = ap (symbols_above t u) (let q : i + 1 ≡ suc i = omega arith in q)

pub above-more : (t : List (List ℕ)) (u i n : ℕ) → i < n → symbols_above t u i + size_on (has (slice_index_or t i [])) u ≤ symbols_above t u n
above-more t u i n il = omega (arith, above-next t u i, sums-rise (λ r. size_on (has (slice_index_or t r [])) u) (i + 1) n (omega (arith, il)))

pub above-within : (t : List (List ℕ)) (u i h n : ℕ) → IsStrictlyIncreasing (slice_index_or t i []) → i < n → h < length (slice_index_or t i []) →
    slice_index (slice_index_or t i []) h < u → symbols_above t u i + h < symbols_above t u n
above-within t u i h n rising il hl less = omega (
  arith,
  above-next t u i,
  value-there (slice_index_or t i []) rising u h hl less,
  sums-rise (λ r. size_on (has (slice_index_or t r [])) u) (i + 1) n (omega (arith, il)),
)

pub symbol_rows-next : (p u n : ℕ) (t : List (List ℕ)) (values : List ℕ) (rows : List (List (ℕ × ℕ))) (row : List (ℕ × ℕ)) →
    AreSymbolRows p u n t values rows →
    AreSymbolItems p u (symbols_above t u n) (length (slice_index_or t n [])) (slice_index_or t n []) values row →
    AreSymbolRows p u (n + 1) t values (rows ++ row ∷ [])
symbol_rows-next p u n t values rows row are is = record {
  count = length-append rows (row ∷ []) ∙ ap (λ k. k + 1) are.count;
  row = λ i il. elim (nat_cases i n) [
    | inl q ↦ subst (λ k. AreSymbolItems p u (symbols_above t u k) (length (slice_index_or t k [])) (slice_index_or t k []) values
        (slice_index_or (rows ++ row ∷ []) k [])) (sym q)
        (subst (AreSymbolItems p u (symbols_above t u n) (length (slice_index_or t n [])) (slice_index_or t n []) values)
        (sym (get_or_push rows row [] n are.count)) is)
    | inr ne ↦
        let less : i < n = omega (arith, il, ne) in
        subst (AreSymbolItems p u (symbols_above t u i) (length (slice_index_or t i [])) (slice_index_or t i []) values)
        (sym (get_or_append_left rows (row ∷ []) [] i (omega (arith, less, are.count)))) (are.row i less)
  ];
}

-- ---- sums over all and over the members
one-more : (a c : ℕ) → c ≡ 1 → suc a ≡ a + c
one-more a c e = omega (arith, e)

no-more : (a c : ℕ) → c ≡ 0 → a ≡ a + c
no-more a c e = omega (arith, e)

module _ (A : ℕ → Bool) (n : ℕ) (at : ℕ → ℕ) (m : ℕ) (members : AreMembers A n at m) (f : ℕ → ℕ)
    (none : (e : ℕ) → e < n → A e ≡ false → f e ≡ 0) where
  sum-up_to : (e : ℕ) → e ≤ n → sum_below e f ≡ sum_below (size_on A e) (λ r. f (at r))
  sum-up_to zero le = refl
  sum-up_to (suc e) le = go (A e) refl (sum-up_to e (omega (arith, le)))
    where
      go : (b : Bool) → A e ≡ b → sum_below e f ≡ sum_below (size_on A e) (λ r. f (at r)) →
          sum_below (suc e) f ≡ sum_below (size_on A (suc e)) (λ r. f (at r))
      go true h so = ap (λ s. s + f e) so
          ∙ ap (λ k. sum_below (size_on A e) (λ r. f (at r)) + f k) (sym (member-at A n at m members e (omega (arith, le)) h))
          ∙ ap (λ k. sum_below k (λ r. f (at r))) (one-more (size_on A e) (cond (A e) 1 0) (ap (λ b. cond b 1 0) h))
      go false h so = ap (λ s. s + f e) so ∙ ap (λ k. sum_below (size_on A e) (λ r. f (at r)) + k) (none e (omega (arith, le)) h)
          ∙ plain (sum_below (size_on A e) (λ r. f (at r)))
          ∙ ap (λ k. sum_below k (λ r. f (at r))) (no-more (size_on A e) (cond (A e) 1 0) (ap (λ b. cond b 1 0) h))
        where
          plain : (a : ℕ) → a + 0 ≡ a
          plain a = omega arith

  sum-before : (i : ℕ) → i < m → sum_below (at i) f ≡ sum_below i (λ r. f (at r))
  sum-before i il = sum-up_to (at i) (omega (arith, members.below i il)) ∙ ap (λ k. sum_below k (λ r. f (at r))) (members.place i il)

  sum-all : sum_below n f ≡ sum_below m (λ r. f (at r))
  sum-all = sum-up_to n (omega arith) ∙ ap (λ k. sum_below k (λ r. f (at r))) members.count

-- ---- the T rows of a model
module _ (M : MixedMatrix) (L : LayeredMatrix) (O : Origins) (lay : IsLayeredMatrixOf M L O) (t : List (List ℕ))
    (pattern : (i j : ℕ) → i < L.t_rows → j < L.columns → pattern_of t i j ≡ L.t i j) where
  wide : (j : ℕ) → j < M.columns → j < L.columns
  wide j jl = omega (arith, jl, lay.columns)

  -- a row has the symbols of its equation
  row-symbols : (i j : ℕ) → i < L.t_rows → j < M.columns → has (slice_index_or t i []) j ≡ M.symbol (O.of_t i) j
  row-symbols i j il jl = pattern i j il (wide j jl) ∙ lay.t i j il jl

  in_row : ℕ → ℕ
  in_row e = size_on (M.symbol e) M.columns

  empty-row : (e : ℕ) → e < M.rows → has_symbol M e ≡ false → in_row e ≡ 0
  unfolding in_row
  empty-row e el h = size-zero (M.symbol e) M.columns (λ j jl. lay.symbols e j el jl h)

  row-size : (i : ℕ) → i < L.t_rows → size_on (has (slice_index_or t i [])) M.columns ≡ in_row (O.of_t i)
  unfolding in_row
  row-size i il = sum_on-same (has (slice_index_or t i [])) (M.symbol (O.of_t i)) M.columns (λ _. 1) (λ j jl. row-symbols i j il jl)

  above-before : (i : ℕ) → i < L.t_rows → symbols_above t M.columns i ≡ sum_below (O.of_t i) (λ e. size_on (M.symbol e) M.columns)
  unfolding in_row
  above-before i il = sum_on-ext everything i (λ r. size_on (has (slice_index_or t r [])) M.columns)
      (λ r. in_row (O.of_t r)) (λ r rl _. row-size r (omega (arith, rl, il)))
      ∙ sym (sum-before (has_symbol M) M.rows O.of_t L.t_rows lay.t_rows in_row empty-row i il)

  -- as many values as symbols
  pub above-all : symbols_above t M.columns L.t_rows ≡ symbol_count M
  unfolding in_row
  above-all = sum_on-ext everything L.t_rows (λ r. size_on (has (slice_index_or t r [])) M.columns)
      (λ r. in_row (O.of_t r)) (λ r rl _. row-size r rl)
      ∙ sym (sum-all (has_symbol M) M.rows O.of_t L.t_rows lay.t_rows in_row empty-row)

  module _ (p : ℕ) (values : List ℕ) (rows : List (List (ℕ × ℕ))) (are : AreSymbolRows p M.columns L.t_rows t values rows)
      (rising : (i : ℕ) → i < L.t_rows → IsStrictlyIncreasing (slice_index_or t i [])) where
    keys-are : (i : ℕ) → i < L.t_rows → map (λ (e : ℕ × ℕ). e.0) (slice_index_or rows i []) ≡ slice_index_or t i []
    keys-are i il =
        let row = slice_index_or rows i [] in
        let long : length (map (λ (e : ℕ × ℕ). e.0) row) ≡ length (slice_index_or t i []) = length-map row (λ (e : ℕ × ℕ). e.0) ∙ (are.row i il).count in
        ext_get_or 0 (map (λ (e : ℕ × ℕ). e.0) row) (slice_index_or t i []) long
        (λ h hl. get_or-map (λ (e : ℕ × ℕ). e.0) row h (0, 0) 0 (omega (arith, hl, length-map row (λ (e : ℕ × ℕ). e.0)))
        ∙ (are.row i il).key h (omega (arith, hl, long)))

    pub symbol_row-rising : (i : ℕ) → i < L.t_rows → AreKeysRising (slice_index_or rows i [])
    symbol_row-rising i il = subst IsStrictlyIncreasing (sym (keys-are i il)) (rising i il)

    -- no number where there is no symbol
    pub symbol_row-none : (i j : ℕ) → i < L.t_rows → has (slice_index_or t i []) j ≡ false → entry_at (slice_index_or rows i []) j ≡ 0
    symbol_row-none i j il h = entry-absent (slice_index_or rows i []) j (λ k kl q. differ h
        (some-has (slice_index_or t i []) k j (omega (arith, kl, (are.row i il).count))
        (sym ((are.row i il).key k (omega (arith, kl, (are.row i il).count))) ∙ q)))

    -- else the value of the symbol, or -1
    pub symbol_row-number : (i j : ℕ) → i < L.t_rows → j < L.columns →
        entry_at (slice_index_or rows i []) j % p ≡ numbers L.t (λ r c. cond (ltb c M.columns) (values_of M values (O.of_t r) c) (p - 1)) i j % p
    symbol_row-number i j il jl = go (has (slice_index_or t i []) j) refl
      where
        w : ℕ → ℕ
        w c = cond (ltb c M.columns) (values_of M values (O.of_t i) c) (p - 1)

        go : (b : Bool) → has (slice_index_or t i []) j ≡ b → entry_at (slice_index_or rows i []) j % p
            ≡ cond (L.t i j) (cond (ltb j M.columns) (values_of M values (O.of_t i) j) (p - 1)) 0 % p
        go false h = ap (λ x. x % p) (symbol_row-none i j il h)
            ∙ ap (λ b. cond b (cond (ltb j M.columns) (values_of M values (O.of_t i) j) (p - 1)) 0 % p) (sym (sym (pattern i j il jl) ∙ h))
        go true h = at (has-some (slice_index_or t i []) j h)
            ∙ ap (λ b. cond b (cond (ltb j M.columns) (values_of M values (O.of_t i) j) (p - 1)) 0 % p) (sym (sym (pattern i j il jl) ∙ h))
          where
            at : (k : ℕ) × (k < length (slice_index_or t i [])) × (slice_index (slice_index_or t i []) k ≡ j) →
                entry_at (slice_index_or rows i []) j % p ≡ cond (ltb j M.columns) (values_of M values (O.of_t i) j) (p - 1) % p
            at (k, kl, q) =
                ap (λ c. entry_at (slice_index_or rows i []) c % p) (sym ((are.row i il).key k kl ∙ q))
                ∙ ap (λ x. x % p) (entry-place (slice_index_or rows i []) (symbol_row-rising i il) k (omega (arith, kl, (are.row i il).count)))
                ∙ (are.row i il).number k kl
                ∙ ap (λ c. cond (ltb c M.columns) (slice_index values (symbols_above t M.columns i + k)) (p - 1) % p) q
                ∙ numbered (ltb j M.columns) refl
              where
                numbered : (b : Bool) → ltb j M.columns ≡ b → cond (ltb j M.columns) (slice_index values (symbols_above t M.columns i + k)) (p - 1) % p
                    ≡ cond (ltb j M.columns) (values_of M values (O.of_t i) j) (p - 1) % p
                numbered false e = ap (λ b. cond b (slice_index values (symbols_above t M.columns i + k)) (p - 1) % p) e
                    ∙ sym (ap (λ b. cond b (values_of M values (O.of_t i) j) (p - 1) % p) e)
                numbered true e = ap (λ s. cond (ltb j M.columns) (slice_index values s) (p - 1) % p) placed
                  where
                    less : j < M.columns
                    less = grind (arith, nat_tests)

                    placed : symbols_above t M.columns i + k ≡ symbols_before M (O.of_t i) j
                    placed = ap (λ s. s + k) (above-before i il)
                        ∙ ap (λ s. sum_below (O.of_t i) (λ e. size_on (M.symbol e) M.columns) + s)
                        (sym (members-before (slice_index_or t i []) (rising i il) k j (omega (arith, kl))
                        (λ l ll. omega (arith, less-order (slice_index_or t i []) (rising i il) l k ll kl, q))
                        (λ l kl2 ll. omega (arith, rising-weakly (slice_index_or t i []) (rising i il) k l kl2 ll, q)))
                        ∙ sum_on-same (has (slice_index_or t i [])) (M.symbol (O.of_t i)) j (λ _. 1)
                        (λ c cl. row-symbols i c il (omega (arith, cl, less))))

-- ---- the values stand for those of the model
pub values-stand : (p : ℕ) → IsPrime p → (M : MixedMatrix) (L : LayeredMatrix) (O : Origins) (v : ℕ → ℕ → ℕ) →
    AreValuesFor p M L O v (λ i j. cond (ltb j M.columns) (v (O.of_t i) j) (p - 1))
values-stand p prime M L O v = record {
  unknown = λ i j il jl. ap (λ b. cond b (v (O.of_t i) j) (p - 1) % p) (before j jl);
  auxiliary = λ i k il kl same. ap (λ b. (cond b (v (O.of_t i) (M.columns + k)) (p - 1) + 1) % p) (behind k)
      ∙ ap (λ s. s % p) (let q : p - 1 + 1 ≡ p = omega (arith, prime.above_one) in q) ∙ mod_self p;
}
  where
    before : (j : ℕ) → j < M.columns → ltb j M.columns ≡ true
    before j jl = grind (arith, nat_tests)

    behind : (k : ℕ) → ltb (M.columns + k) M.columns ≡ false
    behind k = let g : M.columns ≤ M.columns + k = omega arith in grind (arith, nat_tests)

-- ---- right sides
pub sides-next : (n : ℕ) (origins right sides : List ℕ) (x : ℕ) → AreSidesAt n origins right sides → x ≡ slice_index right (slice_index origins n) →
    AreSidesAt (n + 1) origins right (sides ++ x ∷ [])
sides-next n origins right sides x are is = record {
  count = length-append sides (x ∷ []) ∙ ap (λ k. k + 1) are.count;
  side = λ i il. elim (nat_cases i n) [
    | inl q ↦ subst (λ k. slice_index (sides ++ x ∷ []) k ≡ slice_index right (slice_index origins k)) (sym q)
        (get_or_push sides x 0 n are.count ∙ is)
    | inr ne ↦
        let less : i < n = omega (arith, il, ne) in
        get_or_append_left sides (x ∷ []) 0 i (omega (arith, less, are.count)) ∙ are.side i less
  ];
}

pub lacks-next : {T : Type 0} (number : T → ℕ) (n : ℕ) (origins right : List ℕ) (rest : List T) (e : ℕ) (x : T) →
    LacksOrigins n origins right (map number rest) → slice_index origins n ≡ e → e < length rest → number x ≡ 0 →
    LacksOrigins (n + 1) origins right (map number (slice_set rest e x))
lacks-next number n origins right rest e x lacks at low zero_is = record {
  count = length-map (slice_set rest e x) number ∙ length-set rest e x ∙ sym (length-map rest number) ∙ lacks.count;
  gone = λ i il. elim (nat_cases (slice_index origins i) e) [
    | inl q ↦ ap (slice_index (map number (slice_set rest e x))) q ∙ here
    | inr ne ↦ other (slice_index origins i) ne ∙ lacks.gone i (earlier i il ne)
  ];
  kept = λ f none. other f (λ q. none n (omega arith) (at ∙ sym q)) ∙ lacks.kept f (λ i il. none i (omega (arith, il)));
}
  where
    earlier : (i : ℕ) → i < n + 1 → slice_index origins i ≢ e → i < n
    earlier i il ne = elim (nat_cases i n) [
      | inl q ↦ absurd (ne (ap (slice_index origins) q ∙ at))
      | inr apart ↦ omega (arith, il, apart)
    ]

    here : slice_index (map number (slice_set rest e x)) e ≡ 0
    here = ap (λ ys. slice_index ys e) (map-set number rest e x)
        ∙ get_or-set_same (map number rest) e (number x) 0 (omega (arith, length-map rest number, low)) ∙ zero_is

    other : (k : ℕ) → k ≢ e → slice_index (map number (slice_set rest e x)) k ≡ slice_index (map number rest) k
    other k ne = ap (λ ys. slice_index ys k) (map-set number rest e x) ∙ get_or-set_other (map number rest) e k (number x) 0 ne

-- the right side of a T row: 0 where its equation has a Q row too
pub t-sides-are : (M : MixedMatrix) (L : LayeredMatrix) (O : Origins) → IsLayeredMatrixOf M L O → (q_origins t_origins right rest sides : List ℕ) →
    ((i : ℕ) → O.of_q i ≡ slice_index q_origins i) → ((i : ℕ) → O.of_t i ≡ slice_index t_origins i) →
    LacksOrigins L.q_rows q_origins right rest → AreSidesAt L.t_rows t_origins rest sides →
    (i : ℕ) → i < L.t_rows → slice_index sides i ≡ t_right (gives_q M) O (slice_index right) i
t-sides-are M L O lay q_origins t_origins right rest sides q_is t_is lacks are i il =
    are.side i il ∙ ap (slice_index rest) (sym (t_is i)) ∙ go (gives_q M (O.of_t i)) refl
  where
    go : (b : Bool) → gives_q M (O.of_t i) ≡ b → slice_index rest (O.of_t i) ≡ cond (gives_q M (O.of_t i)) 0 (slice_index right (O.of_t i))
    go true h =
        ap (slice_index rest) (sym (member-at (gives_q M) M.rows O.of_q L.q_rows lay.q_rows (O.of_t i) (lay.t_rows.below i il) h)
        ∙ q_is (size_on (gives_q M) (O.of_t i)))
        ∙ lacks.gone (size_on (gives_q M) (O.of_t i)) (member-index (gives_q M) M.rows O.of_q L.q_rows lay.q_rows (O.of_t i) (lay.t_rows.below i il) h)
        ∙ ap (λ b. cond b 0 (slice_index right (O.of_t i))) (sym h)
    go false h =
        lacks.kept (O.of_t i) (λ k kl q. differ h (subst (λ e. gives_q M e ≡ true) (q_is k ∙ q) (lay.q_rows.member k kl)))
        ∙ ap (λ b. cond b 0 (slice_index right (O.of_t i))) (sym h)

-- ---- the number at a place of a T row, as the code chooses it
pub number-then : (p column u value : ℕ) → column < u → value % p ≡ cond (ltb column u) value (p - 1) % p
number-then p column u value less = ap (λ b. cond b value (p - 1) % p) (let e : true ≡ ltb column u = sym (before column u less) in e)
  where
    before : (a b : ℕ) → a < b → ltb a b ≡ true
    before a b l = grind (arith, nat_tests)

pub number-else : (p column u value : ℕ) → u ≤ column → (p - 1) % p ≡ cond (ltb column u) value (p - 1) % p
number-else p column u value more = ap (λ b. cond b value (p - 1) % p) (let e : false ≡ ltb column u = sym (behind column u more) in e)
  where
    behind : (a b : ℕ) → b ≤ a → ltb a b ≡ false
    behind a b l = grind (arith, nat_tests)

-- ---- there are few symbols
few-in : (f : ℕ → ℕ) (n : ℕ) → ((k : ℕ) → k < n → f k ≤ 4096) → sum_below n f ≤ n * 4096
few-in f zero each = omega arith
few-in f (suc n) each = omega (arith, few-in f n (λ k kl. each k (omega (arith, kl))), each n (omega arith))

pub few-symbols : (M : MixedMatrix) → M.rows ≤ 4096 → M.columns ≤ 4096 → symbol_count M ≤ 16777216
few-symbols M rows columns = omega (
  arith,
  rows,
  few-in (λ k. size_on (M.symbol k) M.columns) M.rows
      (λ k kl. omega (arith, columns, size-everything M.columns, size_on-within everything (M.symbol k) M.columns (λ _ _ _. refl))),
)

-- ---- the numbers of the unknowns
pub unknowns-next : (n : ℕ) (x y : List ℕ) (v : ℕ) → AreUnknownsOf n x y → v ≡ slice_index x n → AreUnknownsOf (n + 1) x (y ++ v ∷ [])
unknowns-next n x y v are is = record {
  count = length-append y (v ∷ []) ∙ ap (λ k. k + 1) are.count;
  same = λ j jl. elim (nat_cases j n) [
    | inl q ↦ subst (λ k. slice_index (y ++ v ∷ []) k ≡ slice_index x k) (sym q) (get_or_push y v 0 n are.count ∙ is)
    | inr ne ↦
        let less : j < n = omega (arith, jl, ne) in
        get_or_append_left y (v ∷ []) 0 j (omega (arith, less, are.count)) ∙ are.same j less
  ];
}
