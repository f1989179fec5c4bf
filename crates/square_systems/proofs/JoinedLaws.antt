-- What an echelon tells of the rows that have joined it: their solutions, and whether the columns of a square matrix are
-- independent.
use Rattle.std.proofs.Common.{◌≡◌, ℕ, zero, suc, ◌+◌, ◌-◌, Bool, ◌*◌, ◌%◌, ◌<◌, ◌≤◌, ◌≢◌, true, eqb, List, [], ◌∷◌, ◌++◌, length, slice_index, slice_index_or}
use Rattle.std.proofs.Common.{inl, inr, refl, ap, sym, subst, ◌∙◌, arith}
use Rattle.std.proofs.lemmas.List.{get_or_append_left, length-append}
use Rattle.std.proofs.Math.Seq.{get_or-append_seam}
use Rattle.std.proofs.Math.Nat.{zero-mod}
use Rattle.residue_theory.specs.Residues.{IsPrime}
use Rattle.residue_theory.specs.Sets.{everything, some_below, without}
use Rattle.residue_theory.specs.Sums.{size_on, sum_below}
use Rattle.residue_theory.proofs.CountLaws.{size-injection}
use Rattle.residue_theory.proofs.ResidueLaws.{agree-add, agree-mul, agree-sum, agree_of, negated-sum}
use Rattle.residue_theory.proofs.ResidueLaws.{sum-one, vanishes-add, vanishes-mul, vanishes-rest, vanishes-sum, vanishes_factor}
use Rattle.residue_theory.proofs.SetLaws.{eqb_from, eqb_true, lt_cases, some_below-found, some_below-holds}
use Rattle.residue_theory.proofs.SumLaws.{member-without, nat_cases, sum_on-add, sum_on-ext, sum_on-mul, sum_on-swap, sum_on-without, without-member}
use Rattle.linear_algebra.specs.Columns.{IsIndependent}
use Rattle.linear_algebra_laws.proofs.Elimination.{NonZeroSolution, nonzero_solution}
use Rattle.block_laws.specs.Systems.{IsSystemSolution}
use Rattle.block_laws.proofs.BlockRanks.{no_larger}
use Rattle.row_echelon.specs.Echelons.{EchelonState, JoinsEchelon, IsRowCombined, IsEchelon, SolvesRows, PivotItems, pivot_number, pivot_row}
use Rattle.row_entries.specs.Rows.{number_at}
use Rattle.square_systems.specs.Joined.{AreJoined, HasDependentRow, row_times}

-- what is added on both sides may be left out
agree-rest : (p x y z w : ℕ) → 0 < p → (x + z) % p ≡ (y + w) % p → z % p ≡ w % p → x % p ≡ y % p
agree-rest p x y z w pos sums same = go ((p - z % p) % p) (ap (λ s. s % p) (turn z ((p - z % p) % p)) ∙ negated-sum p z pos)
  where
    turn : (b c : ℕ) → b + c ≡ c + b
    turn b c = omega arith

    put : (b c n : ℕ) → (c + n) % p ≡ 0 → b % p ≡ (b + c + n) % p
    put b c n none = ap (λ s. s % p) (let o : b ≡ b + 0 = omega arith in o) ∙ agree-add p b b 0 (c + n) refl (zero-mod p ∙ sym none)
        ∙ ap (λ s. s % p) (let o : b + (c + n) ≡ b + c + n = omega arith in o)

    go : (n : ℕ) → (z + n) % p ≡ 0 → x % p ≡ y % p
    go n none = put x z n none ∙ agree-add p (x + z) (y + w) n n sums refl ∙ sym (put y w n (agree-add p w z n n (sym same) refl ∙ none))

-- ---- sums over rows
-- a combination of rows, times x
row-combined : (n m : ℕ) (x row by : ℕ → ℕ) (e : ℕ → ℕ → ℕ) → row_times n x (λ j. row j + sum_below m (λ t. by t * e t j))
    ≡ row_times n x row + sum_below m (λ t. by t * row_times n x (e t))
row-combined n m x row by e =
    sum_on-ext everything n (λ j. x j * (row j + sum_below m (λ t. by t * e t j))) (λ j. x j * row j + sum_below m (λ t. by t * (x j * e t j)))
    (λ j _ _. spread (x j) (row j) (sum_below m (λ t. by t * e t j))
    ∙ ap (λ s. x j * row j + s) (sym (sum_on-mul everything m (x j) (λ t. by t * e t j))
    ∙ sum_on-ext everything m (λ t. x j * (by t * e t j)) (λ t. by t * (x j * e t j)) (λ t _ _. swap (x j) (by t) (e t j))))
    ∙ sum_on-add everything n (λ j. x j * row j) (λ j. sum_below m (λ t. by t * (x j * e t j)))
    ∙ ap (λ s. row_times n x row + s) (sum_on-swap everything everything n m (λ t j. by t * (x j * e t j))
    ∙ sum_on-ext everything m (λ t. sum_below n (λ j. by t * (x j * e t j))) (λ t. by t * row_times n x (e t))
    (λ t _ _. sum_on-mul everything n (by t) (λ j. x j * e t j)))
  where
    spread : (a b c : ℕ) → a * (b + c) ≡ a * b + a * c
    spread a b c = omega arith

    swap : (a b c : ℕ) → a * (b * c) ≡ b * (a * c)
    swap a b c = omega arith

-- a multiple of a row, times x
row-scaled : (n k : ℕ) (x row : ℕ → ℕ) → row_times n x (λ j. k * row j) ≡ k * row_times n x row
row-scaled n k x row = sum_on-ext everything n (λ j. x j * (k * row j)) (λ j. k * (x j * row j)) (λ j _ _. swap (x j) k (row j))
    ∙ sum_on-mul everything n k (λ j. x j * row j)
  where
    swap : (a b c : ℕ) → a * (b * c) ≡ b * (a * c)
    swap a b c = omega arith

row-agree : (p n : ℕ) (x row now : ℕ → ℕ) → ((j : ℕ) → j < n → row j % p ≡ now j % p) → row_times n x row % p ≡ row_times n x now % p
row-agree p n x row now same = agree-sum p everything n (λ j. x j * row j) (λ j. x j * now j) (λ j jl _. agree-mul p (x j) (row j) (now j) (same j jl))

-- ---- one row more
module _ (p : ℕ) (prime : IsPrime p) (n : ℕ) (a : ℕ → ℕ → ℕ) (b : ℕ → ℕ) (e : EchelonState) (m : ℕ) (so : AreJoined p n a b e m) where
  by-rows : (by x : ℕ → ℕ) (right : ℕ → ℕ) → ((t : ℕ) → t < m → row_times n x (pivot_number e t) % p ≡ right t % p) →
      sum_below m (λ t. by t * row_times n x (pivot_number e t)) % p ≡ sum_below m (λ t. by t * right t) % p
  by-rows by x right each = agree-sum p everything m (λ t. by t * row_times n x (pivot_number e t)) (λ t. by t * right t)
      (λ t tl _. agree-mul p (by t) (row_times n x (pivot_number e t)) (right t) (each t tl))

  -- a row that is a combination of those before it
  pub combined-vanishes : (row : List ℕ) → IsRowCombined p e row → ((j : ℕ) → j < n → slice_index row j % p ≡ a m j % p) →
      (x : ℕ → ℕ) → ((k : ℕ) → k < m → row_times n x (a k) % p ≡ 0) → row_times n x (a m) % p ≡ 0
  combined-vanishes row none same x zeros =
      sym (row-agree p n x (slice_index row) (a m) same)
      ∙ agree-rest p (row_times n x (slice_index row)) 0 (sum_below m (λ t. none.by t * row_times n x (pivot_number e t)))
      0 (omega (arith, prime.above_one)) (sym (ap (λ s. s % p) (row-combined n m x (slice_index row) none.by
      (pivot_number e))) ∙ whole ∙ sym (zero-mod p)) (others ∙ sym (zero-mod p))
      ∙ zero-mod p
    where
      others : sum_below m (λ t. none.by t * row_times n x (pivot_number e t)) % p ≡ 0
      others = vanishes-sum p everything m (λ t. none.by t * row_times n x (pivot_number e t))
          (λ t tl _. vanishes-mul p (none.by t) (row_times n x (pivot_number e t)) (so.kernel x zeros t tl))

      whole : row_times n x (λ j. slice_index row j + sum_below m (λ t. none.by t * pivot_number e t j)) % p ≡ 0
      whole = vanishes-sum p everything n (λ j. x j * (slice_index row j + sum_below m (λ t. none.by t * pivot_number e t j)))
          (λ j jl _. vanishes-mul p (x j) (slice_index row j + sum_below m (λ t. none.by t * pivot_number e t j))
          (subst (λ k. (slice_index row j + sum_below k (λ t. none.by t * pivot_number e t j)) % p ≡ 0) so.count
          (none.numbers j (subst (λ w. j < w) (sym so.width) jl))))

  module _ (new : EchelonState) (row : List ℕ) (right : ℕ) (made : JoinsEchelon p e new row right)
      (same : (j : ℕ) → j < n → slice_index row j % p ≡ a m j % p) (side : right ≡ b m) where
    old-row : (t : ℕ) → t < m → pivot_row new t ≡ pivot_row e t
    old-row t tl = ap (λ xs. slice_index_or xs t (record { lead = 0; right = 0; items = [] })) made.rows
        ∙ get_or_append_left e.rows (made.last ∷ []) (record { lead = 0; right = 0; items = [] }) t (omega (arith, tl, so.count))

    new-row : pivot_row new m ≡ made.last
    new-row = ap (λ xs. slice_index_or xs m (record { lead = 0; right = 0; items = [] })) made.rows
        ∙ ap (λ k. slice_index_or (e.rows ++ made.last ∷ []) k (record { lead = 0; right = 0; items = [] })) (sym so.count)
        ∙ get_or-append_seam e.rows made.last [] (record { lead = 0; right = 0; items = [] })

    -- the new row, times x
    times : (x : ℕ → ℕ) → (row_times n x (a m) + sum_below m (λ t. made.by t * row_times n x (pivot_number e t))) % p
        ≡ (made.scale * row_times n x (number_at made.last.items)) % p
    times x = agree-add p (row_times n x (a m)) (row_times n x (slice_index row)) (sum_below m (λ t. made.by t * row_times n x (pivot_number e t)))
        (sum_below m (λ t. made.by t * row_times n x (pivot_number e t))) (sym (row-agree p n x (slice_index row) (a m) same)) refl
        ∙ ap (λ s. s % p) (sym (row-combined n m x (slice_index row) made.by (pivot_number e)))
        ∙ row-agree p n x (λ j. slice_index row j + sum_below m (λ t. made.by t * pivot_number e t j)) (λ j. made.scale * number_at made.last.items j)
        (λ j jl. subst (λ k. (slice_index row j + sum_below k (λ t. made.by t * pivot_number e t j)) % p ≡
        (made.scale * number_at made.last.items j) % p) so.count
        (made.numbers j (subst (λ w. j < w) (sym so.width) jl)))
        ∙ ap (λ s. s % p) (row-scaled n made.scale x (number_at made.last.items))

    before : (x : ℕ → ℕ) (Q : ℕ → PivotItems → Type 0) → ((t : ℕ) → t < m + 1 → Q t (pivot_row new t)) → (t : ℕ) → t < m → Q t (pivot_row e t)
    before x Q each t tl = subst (Q t) (old-row t tl) (each t (omega (arith, tl)))

    pub one-more : AreJoined p n a b new (m + 1)
    one-more = record {
      width = made.width ∙ so.width;
      count = ap (λ (xs : List PivotItems). length xs) made.rows ∙ length-append e.rows (made.last ∷ []) ∙ ap (λ k. k + 1) so.count;
      held = λ d x each k kl. elim (nat_cases k m) [
        | inl q ↦ subst (λ i. row_times n x (a i) % p ≡ (d * b i) % p) (sym q) (held d x each)
        | inr ne ↦ so.held d x (before x (λ _ r. row_times n x (number_at r.items) % p ≡ (d * r.right) % p) each) k (omega (arith, kl, ne))
      ];
      kernel = λ x zeros t tl. elim (nat_cases t m) [
        | inl q ↦ subst (λ i. row_times n x (pivot_number new i) % p ≡ 0) (sym q) (kernel x zeros)
        | inr ne ↦
            let l : t < m = omega (arith, tl, ne) in
            subst (λ (r : PivotItems). row_times n x (number_at r.items) % p ≡ 0) (sym (old-row t l)) (so.kernel x (λ k kl. zeros k (omega (arith, kl))) t l)
      ];
    }
      where
        held : (d : ℕ) (x : ℕ → ℕ) → ((t : ℕ) → t < m + 1 → row_times n x (pivot_number new t) % p ≡ (d * (pivot_row new t).right) % p) →
            row_times n x (a m) % p ≡ (d * b m) % p
        held d x each = agree-rest p (row_times n x (a m)) (d * b m) (sum_below m (λ t. made.by t * row_times n x (pivot_number e t)))
            (d * sum_below m (λ t. made.by t * (pivot_row e t).right)) (omega (arith, prime.above_one))
            (times x ∙ agree-mul p made.scale (row_times n x (number_at made.last.items)) (d * made.last.right)
            (subst (λ (r : PivotItems). row_times n x (number_at r.items) % p ≡ (d * r.right) % p) new-row (each m (omega arith)))
            ∙ ap (λ s. s % p) (swap made.scale d made.last.right)
            ∙ agree-mul p d (made.scale * made.last.right) (b m + sum_below m (λ t. made.by t * (pivot_row e t).right))
            (sym (subst (λ r. (r + sum_below m (λ t. made.by t * (pivot_row e t).right)) % p ≡ (made.scale * made.last.right) % p) side
            (subst (λ k. (right + sum_below k (λ t. made.by t * (pivot_row e t).right)) % p ≡ (made.scale * made.last.right) % p) so.count made.right_side)))
            ∙ ap (λ s. s % p) (spread d (b m) (sum_below m (λ t. made.by t * (pivot_row e t).right))))
            (by-rows made.by x (λ t. d * (pivot_row e t).right) (before x (λ _ r. row_times n x (number_at r.items) % p ≡ (d * r.right) % p) each)
            ∙ ap (λ s. s % p) (sum_on-ext everything m (λ t. made.by t * (d * (pivot_row e t).right)) (λ t. d * (made.by t * (pivot_row e t).right))
            (λ t _ _. swap (made.by t) d (pivot_row e t).right) ∙ sum_on-mul everything m d (λ t. made.by t * (pivot_row e t).right)))
          where
            swap : (u v w : ℕ) → u * (v * w) ≡ v * (u * w)
            swap u v w = omega arith

            spread : (u v w : ℕ) → u * (v + w) ≡ u * v + u * w
            spread u v w = omega arith

        kernel : (x : ℕ → ℕ) → ((k : ℕ) → k < m + 1 → row_times n x (a k) % p ≡ 0) → row_times n x (pivot_number new m) % p ≡ 0
        kernel x zeros = subst (λ (r : PivotItems). row_times n x (number_at r.items) % p ≡ 0) (sym new-row)
            (vanishes_factor p prime made.scale (row_times n x (number_at made.last.items)) made.some
            (sym (times x) ∙ vanishes-add p (row_times n x (a m)) (sum_below m (λ t. made.by t * row_times n x (pivot_number e t))) (zeros m (omega arith))
            (vanishes-sum p everything m (λ t. made.by t * row_times n x (pivot_number e t)) (λ t tl _. vanishes-mul p
            (made.by t) (row_times n x (pivot_number e t))
            (so.kernel x (λ k kl. zeros k (omega (arith, kl))) t tl)))))

-- no row yet
pub none-joined : (p n : ℕ) (a : ℕ → ℕ → ℕ) (b : ℕ → ℕ) (e : EchelonState) → e.width ≡ n → e.rows ≡ [] → AreJoined p n a b e 0
none-joined p n a b e wide empty = record {
  width = wide;
  count = ap (λ (xs : List PivotItems). length xs) empty;
  held = λ d x each k kl. absurd (omega (arith, kl));
  kernel = λ x zeros t tl. absurd (omega (arith, tl));
}

-- ---- a square matrix
module _ (p : ℕ) (prime : IsPrime p) (n : ℕ) (a : ℕ → ℕ → ℕ) where
  -- with a dependent row its columns are dependent
  pub dependent-columns : HasDependentRow p n n a → IsIndependent p a n n everything → ⊥
  dependent-columns (i, il, dependent) ind = found.non_zero (ind found.at each found.place found.below refl)
    where
      found : NonZeroSolution p a (without everything i) n everything n
      found = nonzero_solution p prime a (without everything i) n everything n (omega (arith, sum_on-without everything n i (λ _. 1) il refl))

      other : (k : ℕ) → k < n → k ≢ i → row_times n found.at (a k) % p ≡ 0
      other k kl ne = found.solves k kl (member-without everything i k refl ne)

      each : (k : ℕ) → k < n → row_times n found.at (a k) % p ≡ 0
      each k kl = elim (nat_cases k i) [
        | inl q ↦ subst (λ r. row_times n found.at (a r) % p ≡ 0) (sym q)
            (dependent found.at (λ r rl. other r (omega (arith, rl, il)) (λ e. absurd (omega (arith, rl, e)))))
        | inr ne ↦ other k kl ne
      ]

  -- where all rows have joined they are independent
  module _ (b : ℕ → ℕ) (e : EchelonState) (is : IsEchelon p e) (so : AreJoined p n a b e n) where
    lead : ℕ → ℕ
    lead t = (pivot_row e t).lead

    lead-is : (t : ℕ) → lead t ≡ (pivot_row e t).lead
    unfolding lead
    lead-is t = refl

    row : (t : ℕ) → t < n → t < length e.rows
    row t tl = omega (arith, tl, so.count)

    below : (t : ℕ) → t < n → lead t < n
    below t tl = omega (arith, is.lead t (row t tl), lead-is t, so.width)

    apart : (s t : ℕ) → s < t → t < n → lead s ≢ lead t
    apart s t st tl q = absurd (omega (arith, is.one t (row t tl), is.zero s t st (row t tl), ap (pivot_number e t) (sym (lead-is s) ∙ q ∙ lead-is t)))

    one-lead : (s t : ℕ) → s < n → t < n → lead s ≡ lead t → s ≡ t
    one-lead s t sl tl q = elim (nat_cases s t) [
      | inl e ↦ e
      | inr ne ↦ elim (lt_cases s t) [
        | inl st ↦ absurd (apart s t st tl q)
        | inr ts ↦ absurd (apart t s (omega (arith, ts, ne)) sl (sym q))
      ]
    ]

    -- each column is a lead
    leads : ℕ → Bool
    leads j = some_below n (λ t. eqb (lead t) j)

    leads-is : (j : ℕ) → leads j ≡ some_below n (λ t. eqb (lead t) j)
    unfolding leads
    leads-is j = refl

    all-leads : (j : ℕ) → j < n → (t : ℕ) × (t < n) × (lead t ≡ j)
    all-leads j jl = go (some_below-found n (λ t. eqb (lead t) j) (sym (leads-is j) ∙ within j jl refl))
      where
        within : (k : ℕ) → k < n → everything k ≡ true → leads k ≡ true
        within = no_larger leads everything n (λ _ _ _. refl)
            (size-injection everything n lead n leads (λ t tl _. below t tl)
            (λ t tl _. leads-is (lead t) ∙ some_below-holds n (λ s. eqb (lead s) (lead t)) t tl (eqb_from (lead t) (lead t) refl))
            (λ s t sl tl _ _ q. one-lead s t sl tl q))

        go : (t : ℕ) × (t < n) × (eqb (lead t) j ≡ true) → (t : ℕ) × (t < n) × (lead t ≡ j)
        go (t, tl, h) = (t, tl, eqb_true (lead t) j h)

    pub joined-independent : IsIndependent p a n n everything
    joined-independent c zeros j jl _ = go (all-leads j jl)
      where
        rows : (t : ℕ) → t < n → row_times n c (pivot_number e t) % p ≡ 0
        rows = so.kernel c zeros

        from : (k t : ℕ) → t < n → n ≤ t + k → c (lead t) % p ≡ 0
        from zero t tl le = absurd (omega (arith, tl, le))
        from (suc k) t tl le = ap (λ s. s % p) (let o : c (lead t) ≡ c (lead t) * 1 = omega arith in o)
            ∙ ap (λ s. (c (lead t) * s) % p) (sym (ap (pivot_number e t) (lead-is t) ∙ is.one t (row t tl)))
            ∙ sym (sum-one p everything n (lead t) (λ i. c i * pivot_number e t i) (below t tl) refl
            (λ i il _ ne. rest (from k) i ne (all-leads i il)))
            ∙ rows t tl
          where
            nothing : (u : ℕ) → u * 0 ≡ 0
            nothing u = omega arith

            rest : ((s : ℕ) → s < n → n ≤ s + k → c (lead s) % p ≡ 0) → (i : ℕ) → i ≢ lead t → (s : ℕ) × (s < n) ×
                (lead s ≡ i) → (c i * pivot_number e t i) % p ≡ 0
            rest later i ne (s, sl, q) = elim (lt_cases s t) [
              | inl st ↦ ap (λ y. (c i * y) % p) (ap (pivot_number e t) (sym q ∙ lead-is s) ∙ is.zero s t st
                  (row t tl)) ∙ ap (λ y. y % p) (nothing (c i)) ∙ zero-mod p
              | inr ts ↦ ap (λ y. y % p) (turn (c i) (pivot_number e t i)) ∙ vanishes-mul p (pivot_number e t i) (c i)
                  (subst (λ r. c r % p ≡ 0) q (later s sl (let other : s ≢ t = λ w. ne (sym q ∙ ap lead w) in omega (arith, ts, other, le))))
            ]
              where
                turn : (u v : ℕ) → u * v ≡ v * u
                turn u v = omega arith

        go : (t : ℕ) × (t < n) × (lead t ≡ j) → c j % p ≡ 0
        go (t, tl, q) = subst (λ i. c i % p ≡ 0) q (from n t tl (omega arith))

-- ---- a row that is filled from 0
pub filled-number : (p x f y z : ℕ) → x ≡ 0 → f ≡ 1 → y ≡ z → (x + f * y) % p ≡ z % p
filled-number p x f y z none one same = ap (λ s. s % p) (ap (λ s. s + f * y) none ∙ ap (λ s. 0 + s * y) one ∙ plain y ∙ same)
  where
    plain : (u : ℕ) → 0 + 1 * u ≡ u
    plain u = omega arith

-- ---- the numbers that solve the rows of the echelon solve those that have joined
pub joined-solved : (p n : ℕ) (a : ℕ → ℕ → ℕ) (b : ℕ → ℕ) (e : EchelonState) → AreJoined p n a b e n → (x : List ℕ) → SolvesRows p e 0 x →
    IsSystemSolution p a n n (slice_index x) b
joined-solved p n a b e so x solved i il = so.held 1 (slice_index x) each i il ∙ ap (λ s. s % p) (plain (b i))
  where
    plain : (u : ℕ) → 1 * u ≡ u
    plain u = omega arith

    each : (t : ℕ) → t < n → row_times n (slice_index x) (pivot_number e t) % p ≡ (1 * (pivot_row e t).right) % p
    each t tl = subst (λ w. row_times w (slice_index x) (pivot_number e t) % p ≡ (1 * (pivot_row e t).right) % p) so.width
        (solved.rows t (omega arith) (omega (arith, tl, so.count)) ∙ ap (λ s. s % p) (sym (plain (pivot_row e t).right)))
