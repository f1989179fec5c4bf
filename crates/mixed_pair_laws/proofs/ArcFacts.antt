-- What the tests on a tableau say: rows with base or match, free columns, ends, and what leads to what.
use Rattle.std.proofs.Common.{◌≡◌, ◌%◌, ◌<◌, ◌≢◌, ◌&&◌, ◌||◌, ◌⊎◌, ℕ, Bool, true, false, not, eqb, inl, inr, subst, arith}
use Rattle.std.proofs.lemmas.Bool.Decides.{nat_tests}
use Rattle.residue_theory.proofs.SetLaws.{both-first, both-second, both_true, differ, either-first, either-second}
use Rattle.residue_theory.proofs.SetLaws.{either_cases, eqb_from, eqb_true, some_below-found, some_below-holds}
use Rattle.residue_theory.proofs.SumLaws.{nat_cases}
use Rattle.residue_theory.specs.Sets.{some_below}
use Rattle.linear_algebra.specs.Bases.{HasNoBase}
use Rattle.closed_sets.proofs.SetLaws.{not-make, not-true}
use Rattle.closed_sets.specs.Closed.{Follows}
use Rattle.mixed_matrices.specs.Arcs.{has_base, has_match, is_end, is_free, leads_to}
use Rattle.mixed_matrices.specs.LayeredMatrices.{LayeredMatrix}
use Rattle.mixed_matrices.specs.Tableaus.{Tableau}

nonzero_test : (x : ℕ) → x ≢ 0 → not (eqb x 0) ≡ true
nonzero_test x ne = grind (arith, nat_tests)

nonzero_tells : (x : ℕ) → not (eqb x 0) ≡ true → x ≢ 0
nonzero_tells x h = grind (arith, nat_tests)

other_test : (x y : ℕ) → x ≢ y → not (eqb x y) ≡ true
other_test x y ne = grind (arith, nat_tests)

-- ---- rows with a base, and rows with a match
module _ (L : LayeredMatrix) (F : Tableau) where
  pub base_found : (i : ℕ) → has_base L F i ≡ true → (b : ℕ) × (b < L.columns) × (F.base b ≡ true) × (F.row b ≡ i)
  unfolding has_base
  base_found i h = go (some_below-found L.columns (λ b. F.base b && eqb (F.row b) i) h)
    where
      go : (b : ℕ) × (b < L.columns) × (F.base b && eqb (F.row b) i ≡ true) → (b : ℕ) × (b < L.columns) × (F.base b ≡ true) × (F.row b ≡ i)
      go (b, bl, bh) = (b, bl, both-first (F.base b) (eqb (F.row b) i) bh, eqb_true (F.row b) i (both-second (F.base b) (eqb (F.row b) i) bh))

  pub base_holds : (b i : ℕ) → b < L.columns → F.base b ≡ true → F.row b ≡ i → has_base L F i ≡ true
  unfolding has_base
  base_holds b i bl bh q = some_below-holds L.columns (λ y. F.base y && eqb (F.row y) i) b bl
      (both_true (F.base b) (eqb (F.row b) i) bh (eqb_from (F.row b) i q))

  pub no_base : (i : ℕ) → has_base L F i ≡ false → HasNoBase L.columns F.base F.row i
  no_base i e b bl bh q = differ e (base_holds b i bl bh q)

  pub match_found : (i : ℕ) → has_match L F i ≡ true → (j : ℕ) × (j < L.columns) × (F.matched j ≡ true) × (F.mate j ≡ i)
  unfolding has_match
  match_found i h = go (some_below-found L.columns (λ j. F.matched j && eqb (F.mate j) i) h)
    where
      go : (j : ℕ) × (j < L.columns) × (F.matched j && eqb (F.mate j) i ≡ true) → (j : ℕ) × (j < L.columns) × (F.matched j ≡ true) × (F.mate j ≡ i)
      go (j, jl, jh) = (j, jl, both-first (F.matched j) (eqb (F.mate j) i) jh, eqb_true (F.mate j) i (both-second (F.matched j) (eqb (F.mate j) i) jh))

  pub match_holds : (j i : ℕ) → j < L.columns → F.matched j ≡ true → F.mate j ≡ i → has_match L F i ≡ true
  unfolding has_match
  match_holds j i jl jh q = some_below-holds L.columns (λ y. F.matched y && eqb (F.mate y) i) j jl
      (both_true (F.matched j) (eqb (F.mate j) i) jh (eqb_from (F.mate j) i q))

  pub no_match : (i : ℕ) → has_match L F i ≡ false → (j : ℕ) → j < L.columns → F.matched j ≡ true → F.mate j ≢ i
  no_match i e j jl jh q = differ e (match_holds j i jl jh q)

-- ---- free columns
pub free-tells : (F : Tableau) (x : ℕ) → is_free F x ≡ true → (F.base x ≡ false) × (F.matched x ≡ false)
unfolding is_free
free-tells F x h = (
  not-true (F.base x) (both-first (not (F.base x)) (not (F.matched x)) h),
  not-true (F.matched x) (both-second (not (F.base x)) (not (F.matched x)) h),
)

pub free-holds : (F : Tableau) (x : ℕ) → F.base x ≡ false → F.matched x ≡ false → is_free F x ≡ true
unfolding is_free
free-holds F x a b = both_true (not (F.base x)) (not (F.matched x)) (not-make (F.base x) a) (not-make (F.matched x) b)

module _ (p : ℕ) (L : LayeredMatrix) (F : Tableau) where
  -- ---- ends
  abbrev pub EndsInQ : ℕ → Type 0
  EndsInQ x = (i : ℕ) × (i < L.q_rows) × (F.P i x % p ≢ 0) × (has_base L F i ≡ false)

  abbrev pub EndsInT : ℕ → Type 0
  EndsInT x = (i : ℕ) × (i < L.t_rows) × (L.t i x ≡ true) × (has_match L F i ≡ false)

  abbrev end_row : ℕ → ℕ → Bool
  end_row x i = not (eqb (F.P i x % p) 0) && not (has_base L F i)

  abbrev end_t_row : ℕ → ℕ → Bool
  end_t_row x i = L.t i x && not (has_match L F i)

  pub end-q : (x i : ℕ) → i < L.q_rows → F.P i x % p ≢ 0 → has_base L F i ≡ false → is_end p L F x ≡ true
  unfolding is_end
  end-q x i il ne none = either-first (some_below L.q_rows (end_row x)) (some_below L.t_rows (end_t_row x))
      (some_below-holds L.q_rows (end_row x) i il
      (both_true (not (eqb (F.P i x % p) 0)) (not (has_base L F i)) (nonzero_test (F.P i x % p) ne)
      (not-make (has_base L F i) none)))

  pub end-t : (x i : ℕ) → i < L.t_rows → L.t i x ≡ true → has_match L F i ≡ false → is_end p L F x ≡ true
  unfolding is_end
  end-t x i il s none = either-second (some_below L.q_rows (end_row x)) (some_below L.t_rows (end_t_row x))
      (some_below-holds L.t_rows (end_t_row x) i il (both_true (L.t i x) (not (has_match L F i)) s (not-make (has_match L F i) none)))

  pub end-tells : (x : ℕ) → is_end p L F x ≡ true → EndsInQ x ⊎ EndsInT x
  unfolding is_end
  end-tells x h = go (either_cases (some_below L.q_rows (end_row x)) (some_below L.t_rows (end_t_row x)) h)
    where
      in_q : (i : ℕ) × (i < L.q_rows) × (end_row x i ≡ true) → EndsInQ x
      in_q (i, il, e) = (
        i,
        il,
        nonzero_tells (F.P i x % p) (both-first (not (eqb (F.P i x % p) 0)) (not (has_base L F i)) e),
        not-true (has_base L F i) (both-second (not (eqb (F.P i x % p) 0)) (not (has_base L F i)) e),
      )

      in_t : (i : ℕ) × (i < L.t_rows) × (end_t_row x i ≡ true) → EndsInT x
      in_t (i, il, e) = (i, il, both-first (L.t i x) (not (has_match L F i)) e, not-true (has_match L F i) (both-second (L.t i x) (not (has_match L F i)) e))

      go : (some_below L.q_rows (end_row x) ≡ true) ⊎ (some_below L.t_rows (end_t_row x) ≡ true) → EndsInQ x ⊎ EndsInT x
      go (inl q) = inl (in_q (some_below-found L.q_rows (end_row x) q))
      go (inr t) = inr (in_t (some_below-found L.t_rows (end_t_row x) t))

  -- ---- what leads to what
  abbrev pub LeadsInQ : ℕ → ℕ → Type 0
  LeadsInQ x y = (F.base y ≡ true) × (F.P (F.row y) x % p ≢ 0)

  abbrev pub LeadsInT : ℕ → ℕ → Type 0
  LeadsInT x y = (F.matched y ≡ true) × (L.t (F.mate y) x ≡ true)

  abbrev q_arc : ℕ → ℕ → Bool
  q_arc x y = F.base y && not (eqb (F.P (F.row y) x % p) 0)

  abbrev t_arc : ℕ → ℕ → Bool
  t_arc x y = F.matched y && L.t (F.mate y) x

  pub leads-q : (x y : ℕ) → x ≢ y → F.base y ≡ true → F.P (F.row y) x % p ≢ 0 → leads_to p L F x y ≡ true
  unfolding leads_to
  leads-q x y other b ne = both_true (not (eqb x y)) (q_arc x y || t_arc x y) (other_test x y other)
      (either-first (q_arc x y) (t_arc x y) (both_true (F.base y) (not (eqb (F.P (F.row y) x % p) 0)) b (nonzero_test (F.P (F.row y) x % p) ne)))

  pub leads-t : (x y : ℕ) → x ≢ y → F.matched y ≡ true → L.t (F.mate y) x ≡ true → leads_to p L F x y ≡ true
  unfolding leads_to
  leads-t x y other m s = both_true (not (eqb x y)) (q_arc x y || t_arc x y) (other_test x y other)
      (either-second (q_arc x y) (t_arc x y) (both_true (F.matched y) (L.t (F.mate y) x) m s))

  pub leads-tells : (x y : ℕ) → leads_to p L F x y ≡ true → LeadsInQ x y ⊎ LeadsInT x y
  unfolding leads_to
  leads-tells x y h = go (either_cases (q_arc x y) (t_arc x y) (both-second (not (eqb x y)) (q_arc x y || t_arc x y) h))
    where
      go : (q_arc x y ≡ true) ⊎ (t_arc x y ≡ true) → LeadsInQ x y ⊎ LeadsInT x y
      go (inl q) = inl (
        both-first (F.base y) (not (eqb (F.P (F.row y) x % p) 0)) q,
        nonzero_tells (F.P (F.row y) x % p) (both-second (F.base y) (not (eqb (F.P (F.row y) x % p) 0)) q),
      )
      go (inr t) = inr (both-first (F.matched y) (L.t (F.mate y) x) t, both-second (F.matched y) (L.t (F.mate y) x) t)

  -- where x leads to y, a set that holds x and follows holds y; x may be y itself
  pub follows-q : (X : ℕ → Bool) → Follows (leads_to p L F) L.columns X → (x y : ℕ) → x < L.columns → y < L.columns →
      X x ≡ true → F.base y ≡ true → F.P (F.row y) x % p ≢ 0 → X y ≡ true
  follows-q X follows x y xl yl xh b ne = elim (nat_cases x y)
      [ inl q ↦ subst (λ k. X k ≡ true) q xh | inr other ↦ follows x y xl yl xh (leads-q x y other b ne) ]

  pub follows-t : (X : ℕ → Bool) → Follows (leads_to p L F) L.columns X → (x y : ℕ) → x < L.columns → y < L.columns →
      X x ≡ true → F.matched y ≡ true → L.t (F.mate y) x ≡ true → X y ≡ true
  follows-t X follows x y xl yl xh m s = elim (nat_cases x y)
      [ inl q ↦ subst (λ k. X k ≡ true) q xh | inr other ↦ follows x y xl yl xh (leads-t x y other m s) ]
