-- A row more that misses a closed set.
use Rattle.std.proofs.Common.{◌≡◌, ℕ, ◌+◌, ◌-◌, ◌%◌, ◌<◌, ◌≤◌, Bool, true, false, ◌⊎◌, inl, inr, ap, sym, ◌∙◌, arith}
use Rattle.residue_theory.proofs.SetLaws.{differ, not_true}
use Rattle.residue_theory.proofs.SumLaws.{nat_cases}
use Rattle.linear_algebra.specs.Parts.{skip}
use Rattle.linear_algebra_laws.proofs.SkipLaws.{skip-unskip, unskip, unskip-below}
use Rattle.mixed_matrices.specs.Arcs.{IsClosedIn, has_base, has_match}
use Rattle.mixed_matrices.specs.LayeredMatrices.{LayeredMatrix}
use Rattle.mixed_matrices.specs.Tableaus.{HasTableau, Tableau}
use Rattle.mixed_pair_laws.proofs.ArcFacts.{EndsInQ, EndsInT, LeadsInQ, LeadsInT, base_found, base_holds, end-q, end-t}
use Rattle.mixed_pair_laws.proofs.ArcFacts.{end-tells, follows-q, follows-t, free-holds, free-tells, leads-tells, match_found, match_holds}
use Rattle.mixed_edit_laws.specs.Removed.{IsQRowBeside, IsTRowBeside}

-- one of the rows but k, or k itself
rest_cases : (k i n : ℕ) → k ≤ n → i < n + 1 → (i ≡ k) ⊎ ((l : ℕ) × (l < n) × (skip k l ≡ i))
rest_cases k i n kl il = elim (nat_cases i k) [
  | inl q ↦ inl q
  | inr ne ↦ inr (unskip k i, below (unskip k i) (unskip-below k i (n + 1) (omega arith) il ne), skip-unskip k i ne)
]
  where
    below : (l : ℕ) → l < n + 1 - 1 → l < n
    below l ll = omega arith

module _ (p : ℕ) (L K : LayeredMatrix) (F G : Tableau) (k : ℕ) (X : ℕ → Bool) (tab : HasTableau p L F) (new : IsQRowBeside p L K F G k)
    (misses : (j : ℕ) → j < L.columns → X j ≡ true → G.P k j % p ≡ 0) (closed : IsClosedIn p L F X) where
  back : (x : ℕ) → x < K.columns → x < L.columns
  back x xl = omega (arith, xl, new.columns)

  -- a row without base column now had none before
  bare : (i : ℕ) → has_base K G (skip k i) ≡ false → has_base L F i ≡ false
  bare i h = not_true (has_base L F i) (λ t. let b : (b : ℕ) × (b < L.columns) × (F.base b ≡ true) × (F.row b ≡ i) = base_found L F i t in
      differ h (base_holds K G b.0 (skip k i) (omega (arith, b.1, new.columns)) (new.base b.0 b.1 ∙ b.2)
      (new.row b.0 b.1 b.2 ∙ ap (λ r. skip k r) b.3)))

  unmatched : (i : ℕ) → has_match K G i ≡ false → has_match L F i ≡ false
  unmatched i h = not_true (has_match L F i) (λ t. let b : (b : ℕ) × (b < L.columns) × (F.matched b ≡ true) × (F.mate b ≡ i) = match_found L F i t in
      differ h (match_holds K G b.0 i (omega (arith, b.1, new.columns)) (new.matched b.0 b.1 ∙ b.2) (new.mate b.0 b.1 b.2 ∙ b.3)))

  no-end : (x : ℕ) → x < L.columns → X x ≡ true → EndsInQ p K G x ⊎ EndsInT p K G x → ⊥
  no-end x xl xh (inl (i, il, ne, none)) = go (rest_cases k i L.q_rows new.below (omega (arith, il, new.q_rows)))
    where
      go : (i ≡ k) ⊎ ((l : ℕ) × (l < L.q_rows) × (skip k l ≡ i)) → ⊥
      go (inl q) = ne (ap (λ r. G.P r x % p) q ∙ misses x xl xh)
      go (inr (l, ll, q)) = closed.no_end x xl xh (end-q p L F x l ll
          (λ z. ne (ap (λ r. G.P r x % p) (sym q) ∙ new.others l x ll xl ∙ z)) (bare l (ap (λ r. has_base K G r) q ∙ none)))
  no-end x xl xh (inr (i, il, s, none)) = closed.no_end x xl xh (end-t p L F x i (omega (arith, il, new.t_rows))
      (sym (new.t i x (omega (arith, il, new.t_rows)) xl) ∙ s) (unmatched i none))

  led : (x y : ℕ) → x < L.columns → y < L.columns → X x ≡ true → LeadsInQ p K G x y ⊎ LeadsInT p K G x y → X y ≡ true
  led x y xl yl xh (inl (b, ne)) = follows-q p L F X closed.follows x y xl yl xh in_base
      (λ z. ne (ap (λ r. G.P r x % p) (new.row y yl in_base) ∙ new.others (F.row y) x (tab.base.row_below y yl in_base) xl ∙ z))
    where
      in_base : F.base y ≡ true
      in_base = sym (new.base y yl) ∙ b
  led x y xl yl xh (inr (m, s)) = follows-t p L F X closed.follows x y xl yl xh is_matched
      (sym (new.t (F.mate y) x (tab.matching.below y yl is_matched) xl) ∙ ap (λ r. K.t r x) (sym (new.mate y yl is_matched)) ∙ s)
    where
      is_matched : F.matched y ≡ true
      is_matched = sym (new.matched y yl) ∙ m

  pub q-closed : IsClosedIn p K G X
  q-closed = record {
    holds_starts = λ x xl h. closed.holds_starts x (back x xl) (free-holds F x
        (sym (new.base x (back x xl)) ∙ (free-tells G x h).0) (sym (new.matched x (back x xl)) ∙ (free-tells G x h).1));
    no_end = λ x xl xh h. no-end x (back x xl) xh (end-tells p K G x h);
    follows = λ x y xl yl xh h. led x y (back x xl) (back y yl) xh (leads-tells p K G x y h);
  }

module _ (p : ℕ) (L K : LayeredMatrix) (F G : Tableau) (e : ℕ) (X : ℕ → Bool) (tab : HasTableau p L F) (new : IsTRowBeside p L K F G e)
    (misses : (j : ℕ) → j < L.columns → X j ≡ true → K.t e j ≡ false) (closed : IsClosedIn p L F X) where
  t-back : (x : ℕ) → x < K.columns → x < L.columns
  t-back x xl = omega (arith, xl, new.columns)

  t-bare : (i : ℕ) → has_base K G i ≡ false → has_base L F i ≡ false
  t-bare i h = not_true (has_base L F i) (λ t. let b : (b : ℕ) × (b < L.columns) × (F.base b ≡ true) × (F.row b ≡ i) = base_found L F i t in
      differ h (base_holds K G b.0 i (omega (arith, b.1, new.columns)) (new.base b.0 b.1 ∙ b.2) (new.row b.0 b.1 b.2 ∙ b.3)))

  t-unmatched : (i : ℕ) → has_match K G (skip e i) ≡ false → has_match L F i ≡ false
  t-unmatched i h = not_true (has_match L F i) (λ t. let b : (b : ℕ) × (b < L.columns) × (F.matched b ≡ true) × (F.mate b ≡ i) = match_found L F i t in
      differ h (match_holds K G b.0 (skip e i) (omega (arith, b.1, new.columns)) (new.matched b.0 b.1 ∙ b.2)
      (new.mate b.0 b.1 b.2 ∙ ap (λ r. skip e r) b.3)))

  t-no-end : (x : ℕ) → x < L.columns → X x ≡ true → EndsInQ p K G x ⊎ EndsInT p K G x → ⊥
  t-no-end x xl xh (inl (i, il, ne, none)) = closed.no_end x xl xh (end-q p L F x i (omega (arith, il, new.q_rows))
      (λ z. ne (new.others i x (omega (arith, il, new.q_rows)) xl ∙ z)) (t-bare i none))
  t-no-end x xl xh (inr (i, il, s, none)) = go (rest_cases e i L.t_rows new.below (omega (arith, il, new.t_rows)))
    where
      go : (i ≡ e) ⊎ ((l : ℕ) × (l < L.t_rows) × (skip e l ≡ i)) → ⊥
      go (inl q) = differ (misses x xl xh) (ap (λ r. K.t r x) (sym q) ∙ s)
      go (inr (l, ll, q)) = closed.no_end x xl xh (end-t p L F x l ll (sym (new.t l x ll xl) ∙ ap (λ r. K.t r x) q ∙ s)
          (t-unmatched l (ap (λ r. has_match K G r) q ∙ none)))

  t-led : (x y : ℕ) → x < L.columns → y < L.columns → X x ≡ true → LeadsInQ p K G x y ⊎ LeadsInT p K G x y → X y ≡ true
  t-led x y xl yl xh (inl (b, ne)) = follows-q p L F X closed.follows x y xl yl xh in_base
      (λ z. ne (ap (λ r. G.P r x % p) (new.row y yl in_base) ∙ new.others (F.row y) x (tab.base.row_below y yl in_base) xl ∙ z))
    where
      in_base : F.base y ≡ true
      in_base = sym (new.base y yl) ∙ b
  t-led x y xl yl xh (inr (m, s)) = follows-t p L F X closed.follows x y xl yl xh is_matched
      (sym (new.t (F.mate y) x (tab.matching.below y yl is_matched) xl) ∙ ap (λ r. K.t r x) (sym (new.mate y yl is_matched)) ∙ s)
    where
      is_matched : F.matched y ≡ true
      is_matched = sym (new.matched y yl) ∙ m

  pub t-closed : IsClosedIn p K G X
  t-closed = record {
    holds_starts = λ x xl h. closed.holds_starts x (t-back x xl) (free-holds F x
        (sym (new.base x (t-back x xl)) ∙ (free-tells G x h).0) (sym (new.matched x (t-back x xl)) ∙ (free-tells G x h).1));
    no_end = λ x xl xh h. t-no-end x (t-back x xl) xh (end-tells p K G x h);
    follows = λ x y xl yl xh h. t-led x y (t-back x xl) (t-back y yl) xh (leads-tells p K G x y h);
  }
