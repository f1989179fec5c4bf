-- Rows that are reduced by an echelon and join it, and the numbers that solve it.
use Rattle.std.proofs.Common.{◌≡◌, ℕ, suc, ◌+◌, ◌-◌, ◌*◌, ◌%◌, ◌<◌, ◌≤◌, ◌≢◌, Bool}
use Rattle.std.proofs.Common.{true, false, cond, eqb, List, [], ◌∷◌, ◌++◌, length, set, slice_index, slice_index_or}
use Rattle.std.proofs.Common.{inl, inr, refl, ap, sym, subst, ◌∙◌, arith}
use Rattle.std.proofs.lemmas.List.{get_or-set_same, get_or-set_other, get_or_append_left, length-append, length-set}
use Rattle.std.proofs.Math.Seq.{get_or-append_seam}
use Rattle.residue_theory.specs.Sets.{everything}
use Rattle.residue_theory.specs.Sums.{sum_below}
use Rattle.residue_theory.proofs.ResidueLaws.{agree-add, agree-mul, sum-one, vanishes-add, vanishes-mul}
use Rattle.residue_theory.proofs.SetLaws.{eqb_from}
use Rattle.residue_theory.proofs.SumLaws.{nat_cases, sum_on-add, sum_on-ext}
use Rattle.std.proofs.Math.Nat.{mod-mod, zero-mod}
use Rattle.limits.specs.Limits.{column_limit}
use Rattle.row_entries.specs.Rows.{EndsBefore, Item, number_at}
use Rattle.row_echelon.specs.Echelons.{EchelonState, JoinsEchelon, IsAddedTo, IsRowCombined, IsDivided, IsEchelon, IsRowReduced, SolvesRows}
use Rattle.row_echelon.specs.Echelons.{PivotItems, pivot_number, pivot_row}
use Rattle.row_echelon.proofs.EntrySums.{eqb_not}

-- ---- a row is reduced by one row after another
pub not-reduced : (p : ℕ) (e : EchelonState) (row : List ℕ) (right : ℕ) → IsRowReduced p e 0 row right row right
not-reduced p e row right = record {
  by = λ _. 0;
  count = refl;
  numbers = λ j _. ap (λ y. y % p) (plain (slice_index row j));
  right_side = ap (λ y. y % p) (plain right);
  zero = λ t l. absurd (omega (arith, l));
}
  where
    plain : (x : ℕ) → x ≡ x + 0
    plain x = omega arith

-- coefficients with one more
more_by : (ℕ → ℕ) → ℕ → ℕ → ℕ → ℕ
more_by by m f t = cond (eqb t m) f (by t)

more-sum : (by : ℕ → ℕ) (m f : ℕ) (x : ℕ → ℕ) → sum_below (m + 1) (λ t. more_by by m f t * x t) ≡ sum_below m (λ t. by t * x t) + f * x m
unfolding more_by
more-sum by m f x =
    ap (λ k. sum_below k (λ t. cond (eqb t m) f (by t) * x t)) (let e : m + 1 ≡ suc m = omega arith in e)
    ∙ ap (λ y. y + cond (eqb m m) f (by m) * x m)
    (sum_on-ext everything m (λ t. cond (eqb t m) f (by t) * x t) (λ t. by t * x t)
    (λ t l _. ap (λ b. cond b f (by t) * x t) (eqb_not t m (λ q. absurd (omega (arith, l, q))))))
    ∙ ap (λ b. sum_below m (λ t. by t * x t) + cond b f (by m) * x m) (eqb_from m m refl)

module _ (p : ℕ) (e : EchelonState) (is : IsEchelon p e) (m : ℕ) (ml : m < length e.rows) (row : List ℕ) (right : ℕ) (now : List ℕ) (left : ℕ)
    (so : IsRowReduced p e m row right now left) (wide : length row ≡ e.width) where
  pub reduced-step : (f : ℕ) (next : List ℕ) (last : ℕ) → (slice_index now (pivot_row e m).lead + f) % p ≡ 0 →
      IsAddedTo p f (pivot_row e m).items now next → last ≡ (left + f * (pivot_row e m).right) % p →
      IsRowReduced p e (m + 1) row right next last
  reduced-step f next last cancels added made = record {
    by = more_by so.by m f;
    count = added.count ∙ so.count;
    numbers = λ j jl. added.numbers j (low j jl)
        ∙ agree-add p (slice_index now j) (slice_index row j + sum_below m (λ t. so.by t * pivot_number e t j))
        (f * pivot_number e m j) (f * pivot_number e m j) (so.numbers j jl) refl
        ∙ ap (λ y. y % p) (regroup (slice_index row j) (sum_below m (λ t. so.by t * pivot_number e t j)) (f * pivot_number e m j)
        ∙ ap (λ y. slice_index row j + y) (sym (more-sum so.by m f (λ t. pivot_number e t j))));
    right_side = ap (λ y. y % p) made ∙ mod-mod (left + f * (pivot_row e m).right) p
        ∙ agree-add p left (right + sum_below m (λ t. so.by t * (pivot_row e t).right)) (f * (pivot_row e m).right)
        (f * (pivot_row e m).right) so.right_side refl
        ∙ ap (λ y. y % p) (regroup right (sum_below m (λ t. so.by t * (pivot_row e t).right)) (f * (pivot_row e m).right)
        ∙ ap (λ y. right + y) (sym (more-sum so.by m f (λ t. (pivot_row e t).right))));
    zero = λ t tl. elim (nat_cases t m) [
      | inl q ↦ subst (λ k. slice_index next (pivot_row e k).lead % p ≡ 0) (sym q) here
      | inr ne ↦ before t (omega (arith, tl, ne))
    ];
  }
    where
      low : (j : ℕ) → j < e.width → j < length now
      low j jl = omega (arith, jl, so.count, wide)

      regroup : (a b c : ℕ) → a + b + c ≡ a + (b + c)
      regroup a b c = omega arith

      here : slice_index next (pivot_row e m).lead % p ≡ 0
      here = added.numbers (pivot_row e m).lead (low (pivot_row e m).lead (is.lead m ml))
          ∙ ap (λ y. (slice_index now (pivot_row e m).lead + f * y) % p) (is.one m ml)
          ∙ ap (λ y. (slice_index now (pivot_row e m).lead + y) % p) (let o : f * 1 ≡ f = omega arith in o) ∙ cancels

      before : (t : ℕ) → t < m → slice_index next (pivot_row e t).lead % p ≡ 0
      before t tl = added.numbers (pivot_row e t).lead (low (pivot_row e t).lead (is.lead t (omega (arith, tl, ml))))
          ∙ ap (λ y. (slice_index now (pivot_row e t).lead + f * y) % p) (is.zero t m tl ml)
          ∙ ap (λ y. y % p) (let o : slice_index now (pivot_row e t).lead + f * 0 ≡ slice_index now (pivot_row e t).lead = omega arith in o)
          ∙ so.zero t tl

-- ---- a row joins
module _ (p : ℕ) (e : EchelonState) (is : IsEchelon p e) (row : List ℕ) (right : ℕ) (now : List ℕ) (left : ℕ)
    (so : IsRowReduced p e (length e.rows) row right now left) where
  module _ (lead : ℕ) (below : lead < e.width) (last : PivotItems) (n : ℕ) (wide : n ≡ e.width)
      (made : IsDivided p n now lead left last.lead last.right last.items) (new : EchelonState)
      (rows : new.rows ≡ e.rows ++ last ∷ []) (width : new.width ≡ e.width) where
    pub has-joined : JoinsEchelon p e new row right
    has-joined = record {
      last = last;
      rows = rows;
      width = width;
      by = so.by;
      scale = slice_index now lead;
      some = made.some;
      numbers = λ j jl. sym (so.numbers j jl) ∙ made.numbers j (omega (arith, jl, wide));
      right_side = sym so.right_side ∙ made.right_side;
    }

    old-row : (t : ℕ) → t < length e.rows → pivot_row new t ≡ pivot_row e t
    old-row t tl = ap (λ xs. slice_index_or xs t (record { lead = 0; right = 0; items = [] })) rows
        ∙ get_or_append_left e.rows (last ∷ []) (record { lead = 0; right = 0; items = [] }) t tl

    new-row : pivot_row new (length e.rows) ≡ last
    new-row = ap (λ xs. slice_index_or xs (length e.rows) (record { lead = 0; right = 0; items = [] })) rows
        ∙ get_or-append_seam e.rows last [] (record { lead = 0; right = 0; items = [] })

    count : length new.rows ≡ length e.rows + 1
    count = ap (λ (xs : List PivotItems). length xs) rows ∙ length-append e.rows (last ∷ [])

    each : (P : ℕ → PivotItems → Type 0) → ((t : ℕ) → t < length e.rows → P t (pivot_row e t)) → P (length e.rows) last →
        (t : ℕ) → t < length new.rows → P t (pivot_row new t)
    each P olds one t tl = elim (nat_cases t (length e.rows)) [
      | inl q ↦ subst (λ k. P k (pivot_row new k)) (sym q) (subst (P (length e.rows)) (sym new-row) one)
      | inr ne ↦ let l : t < length e.rows = omega (arith, tl, count, ne) in subst (P t) (sym (old-row t l)) (olds t l)
    ]

    pub echelon-joined : IsEchelon p new
    echelon-joined = record {
      narrow = subst (λ w. w ≤ column_limit) (sym width) is.narrow;
      lead = each (λ _ r. r.lead < new.width) (λ t l. subst (λ w. (pivot_row e t).lead < w) (sym width) (is.lead t l))
          (omega (arith, made.same, below, width));
      within = each (λ _ r. EndsBefore r.items new.width) (λ t l. subst (EndsBefore (pivot_row e t).items) (sym width) (is.within t l))
          (subst (EndsBefore last.items) (wide ∙ sym width) made.within);
      one = each (λ _ r. number_at r.items r.lead ≡ 1) is.one (ap (number_at last.items) made.same ∙ made.one);
      zero = λ s t st tl. each (λ k r. s < k → number_at r.items (pivot_row new s).lead ≡ 0)
          (λ k kl sk. ap (λ r. number_at (pivot_row e k).items r.lead) (old-row s (omega (arith, sk, kl))) ∙ is.zero s k sk kl)
          (λ sk. ap (λ r. number_at last.items r.lead) (old-row s sk)
          ∙ made.zero (pivot_row e s).lead (omega (arith, is.lead s sk, wide)) (so.zero s sk)) t tl st;
    }

  -- or nothing is left of it
  pub combined : ((j : ℕ) → j < e.width → slice_index now j ≡ 0) → IsRowCombined p e row
  combined none = record { by = so.by; numbers = λ j jl. sym (so.numbers j jl) ∙ ap (λ y. y % p) (none j jl) ∙ zero-mod p }

-- ---- the numbers that solve
module _ (p : ℕ) (e : EchelonState) (is : IsEchelon p e) where
  module _ (t : ℕ) (tl : t < length e.rows) (x : List ℕ) (v : ℕ) (so : SolvesRows p e (t + 1) x)
      (made : (v + sum_below e.width (λ j. slice_index x j * pivot_number e t j)) % p ≡ (pivot_row e t).right % p) where
    c : ℕ
    c = (pivot_row e t).lead

    c-is : c ≡ (pivot_row e t).lead
    unfolding c
    c-is = refl

    low : c < e.width
    low = subst (λ k. k < e.width) (sym c-is) (is.lead t tl)

    put-sum : (a : ℕ → ℕ) → sum_below e.width (λ j. slice_index (set x c v) j * a j) % p
        ≡ (sum_below e.width (λ j. slice_index x j * a j) + v * a c) % p
    put-sum a =
        ap (λ y. y % p) (sum_on-ext everything e.width (λ j. slice_index (set x c v) j * a j) (λ j. slice_index x j * a j + cond (eqb c j) (v * a j) 0)
        (λ j _ _. one j) ∙ sum_on-add everything e.width (λ j. slice_index x j * a j) (λ j. cond (eqb c j) (v * a j) 0))
        ∙ agree-add p (sum_below e.width (λ j. slice_index x j * a j)) (sum_below e.width (λ j. slice_index x j * a j))
        (sum_below e.width (λ j. cond (eqb c j) (v * a j) 0)) (v * a c) refl
        (sum-one p everything e.width c (λ j. cond (eqb c j) (v * a j) 0) low refl
        (λ j _ _ ne. ap (λ b. cond b (v * a j) 0 % p) (eqb_not c j (λ q. ne (sym q))) ∙ zero-mod p)
        ∙ ap (λ b. cond b (v * a c) 0 % p) (eqb_from c c refl))
      where
        one : (j : ℕ) → slice_index (set x c v) j * a j ≡ slice_index x j * a j + cond (eqb c j) (v * a j) 0
        one j = elim (nat_cases c j) [
          | inl q ↦ subst (λ k. slice_index (set x c v) k * a k ≡ slice_index x k * a k + cond (eqb c k) (v * a k) 0) q
              (ap (λ y. y * a c) (get_or-set_same x c v 0 (omega (arith, low, so.count)))
              ∙ (let o : v * a c ≡ 0 * a c + v * a c = omega arith in o)
              ∙ ap (λ y. y * a c + v * a c) (sym (ap (slice_index x) c-is ∙ so.rest t (omega arith) tl))
              ∙ ap (λ b. slice_index x c * a c + cond b (v * a c) 0) (sym (eqb_from c c refl)))
          | inr ne ↦ ap (λ y. y * a j) (get_or-set_other x c j v 0 (λ q. ne (sym q)))
              ∙ (let o : slice_index x j * a j ≡ slice_index x j * a j + 0 = omega arith in o)
              ∙ ap (λ b. slice_index x j * a j + cond b (v * a j) 0) (sym (eqb_not c j ne))
        ]

    solved-step : SolvesRows p e t (set x c v)
    solved-step = record {
      count = length-set x c v ∙ so.count;
      rows = λ s ts sl. elim (nat_cases s t) [
        | inl q ↦ subst (λ k. sum_below e.width (λ j. slice_index (set x c v) j * pivot_number e k j) % p ≡ (pivot_row e k).right % p) (sym q) here
        | inr ne ↦ other s (omega (arith, ts, ne)) sl
      ];
      rest = λ s st sl. get_or-set_other x c (pivot_row e s).lead v 0 (λ q. apart s st (q ∙ c-is)) ∙ so.rest s (omega (arith, st)) sl;
    }
      where
        here : sum_below e.width (λ j. slice_index (set x c v) j * pivot_number e t j) % p ≡ (pivot_row e t).right % p
        here = put-sum (pivot_number e t)
            ∙ ap (λ k. (sum_below e.width (λ j. slice_index x j * pivot_number e t j) + v * k) % p) (ap (pivot_number e t) c-is ∙ is.one t tl)
            ∙ ap (λ y. y % p) (swap (sum_below e.width (λ j. slice_index x j * pivot_number e t j))) ∙ made
          where
            swap : (y : ℕ) → y + v * 1 ≡ v + y
            swap y = omega arith

        other : (s : ℕ) → t < s → s < length e.rows →
            sum_below e.width (λ j. slice_index (set x c v) j * pivot_number e s j) % p ≡ (pivot_row e s).right % p
        other s ts sl = put-sum (pivot_number e s)
            ∙ ap (λ k. (sum_below e.width (λ j. slice_index x j * pivot_number e s j) + v * k) % p) (ap (pivot_number e s) c-is ∙ is.zero t s ts sl)
            ∙ ap (λ y. y % p) (plain (sum_below e.width (λ j. slice_index x j * pivot_number e s j))) ∙ so.rows s (omega (arith, ts)) sl
          where
            plain : (y : ℕ) → y + v * 0 ≡ y
            plain y = omega arith

        apart : (s : ℕ) → s < t → (pivot_row e s).lead ≡ (pivot_row e t).lead → ⊥
        apart s st q = absurd (omega (arith, is.one t tl, ap (pivot_number e t) q, is.zero s t st tl))

    pub solved-put : SolvesRows p e t (set x (pivot_row e t).lead v)
    solved-put = subst (λ n. SolvesRows p e t (set x n v)) c-is solved-step
