-- The bound |pair| ≤ p(X) + N is reached exactly at the closed column sets.
use Rattle.std.proofs.Common.{◌≡◌, ◌+◌, ◌%◌, ◌<◌, ◌≤◌, ◌≢◌, ◌&&◌, ◌⊎◌, ◌∙◌, ℕ, Bool, true, false, eqb, inl, inr, refl, sym, subst, arith}
use Rattle.residue_theory.proofs.CountLaws.{counts, counts-equal, counts-less, size-injection, size-surjection, sum-with_one}
use Rattle.residue_theory.proofs.SetLaws.{both-first, both-refused, both-second, both_true, eqb_false, eqb_true, first_on}
use Rattle.residue_theory.proofs.SetLaws.{some_below-found, some_below-holds, with_one-other}
use Rattle.residue_theory.proofs.SumLaws.{member-without, nat_cases, sum_on-without}
use Rattle.residue_theory.specs.Residues.{IsPrime}
use Rattle.residue_theory.specs.Sets.{IsWithin, both, with_one, without}
use Rattle.residue_theory.specs.Sums.{size_on}
use Rattle.linear_algebra.specs.Columns.{IsCombination}
use Rattle.linear_algebra_laws.proofs.Bases.{base-independent, base-no_row, rank_of-base}
use Rattle.linear_algebra_laws.proofs.Kernels.{independent_of-kernel, kernel-sym, rank_of-kernel}
use Rattle.linear_algebra_laws.proofs.Ranks.{with_one-independent}
use Rattle.mixed_matrices.specs.Arcs.{IsClosedIn, has_base, has_match}
use Rattle.mixed_matrices.specs.LayeredMatrices.{LayeredMatrix}
use Rattle.mixed_matrices.specs.Pairs.{pair_size}
use Rattle.mixed_matrices.specs.SetFunctions.{IsRho, gamma, touches_set}
use Rattle.mixed_matrices.specs.Tableaus.{HasTableau, Tableau}
use Rattle.mixed_pair_laws.proofs.ArcFacts.{EndsInQ, EndsInT, LeadsInQ, LeadsInT, base_found, end-q, end-t, end-tells}
use Rattle.mixed_pair_laws.proofs.ArcFacts.{follows-q, follows-t, free-holds, free-tells, leads-tells, match_found, no_base}
use Rattle.mixed_pair_laws.proofs.ArcFacts.{no_match}
use Rattle.mixed_pair_laws.proofs.PairBounds.{matched-count}

-- each entry of a column of X is in the row of a base column of X, each symbol in that of a matched one
pub record Fits (p : ℕ) (L : LayeredMatrix) (F : Tableau) (X : ℕ → Bool) : Type 0 where
  pub free : (x : ℕ) → x < L.columns → F.base x ≡ false → F.matched x ≡ false → X x ≡ true
  pub q : (x i : ℕ) → x < L.columns → X x ≡ true → i < L.q_rows → F.P i x % p ≢ 0 → (b : ℕ) × (b < L.columns) × (both F.base X b ≡ true) × (F.row b ≡ i)
  pub t : (x i : ℕ) → x < L.columns → X x ≡ true → i < L.t_rows → L.t i x ≡ true → (y : ℕ) × (y < L.columns) × (both F.matched X y ≡ true) × (F.mate y ≡ i)

module _ (p : ℕ) (prime : IsPrime p) (L : LayeredMatrix) (F : Tableau) (tab : HasTableau p L F) (X : ℕ → Bool) where
  pub closed-fits : IsClosedIn p L F X → Fits p L F X
  closed-fits C = record {
    free = λ x l a b. C.holds_starts x l (free-holds F x a b);
    q = λ x i xl xh il ne. q_row x i xl xh il ne (has_base L F i) refl;
    t = λ x i xl xh il s. t_row x i xl xh il s (has_match L F i) refl;
  }
    where
      q_row : (x i : ℕ) → x < L.columns → X x ≡ true → i < L.q_rows → F.P i x % p ≢ 0 → (v : Bool) → has_base L F i ≡ v → (b : ℕ) × (b < L.columns) ×
          (both F.base X b ≡ true) × (F.row b ≡ i)
      q_row x i xl xh il ne false e = absurd (C.no_end x xl xh (end-q p L F x i il ne e))
      q_row x i xl xh il ne true e = inside (base_found L F i e)
        where
          inside : (b : ℕ) × (b < L.columns) × (F.base b ≡ true) × (F.row b ≡ i) → (b : ℕ) × (b < L.columns) × (both F.base X b ≡ true) × (F.row b ≡ i)
          inside (b, bl, bh, q) = (
            b,
            bl,
            both_true (F.base b) (X b) bh
                (follows-q p L F X C.follows x b xl bl xh bh (subst (λ k. F.P k x % p ≢ 0) (sym q) ne)),
            q,
          )

      t_row : (x i : ℕ) → x < L.columns → X x ≡ true → i < L.t_rows → L.t i x ≡ true → (v : Bool) → has_match L F i ≡ v → (y : ℕ) × (y < L.columns) ×
          (both F.matched X y ≡ true) × (F.mate y ≡ i)
      t_row x i xl xh il s false e = absurd (C.no_end x xl xh (end-t p L F x i il s e))
      t_row x i xl xh il s true e = inside (match_found L F i e)
        where
          inside : (y : ℕ) × (y < L.columns) × (F.matched y ≡ true) × (F.mate y ≡ i) → (y : ℕ) × (y < L.columns) × (both F.matched X y ≡ true) × (F.mate y ≡ i)
          inside (y, yl, yh, q) = (
            y,
            yl,
            both_true (F.matched y) (X y) yh
                (follows-t p L F X C.follows x y xl yl xh yh (subst (λ k. L.t k x ≡ true) (sym q) s)),
            q,
          )

  pub fits-closed : Fits p L F X → IsClosedIn p L F X
  fits-closed fits = record {
    holds_starts = λ x l h. let f : (F.base x ≡ false) × (F.matched x ≡ false) = free-tells F x h in fits.free x l f.0 f.1;
    no_end = λ x xl xh h. no_end x xl xh (end-tells p L F x h);
    follows = λ x y xl yl xh h. follows x y xl yl xh (leads-tells p L F x y h);
  }
    where
      no_end : (x : ℕ) → x < L.columns → X x ≡ true → EndsInQ p L F x ⊎ EndsInT p L F x → ⊥
      no_end x xl xh (inl (i, il, ne, none)) =
          let f : (b : ℕ) × (b < L.columns) × (both F.base X b ≡ true) × (F.row b ≡ i) = fits.q x i xl xh il ne in
          no_base L F i none f.0 f.1 (both-first (F.base f.0) (X f.0) f.2) f.3
      no_end x xl xh (inr (i, il, s, none)) =
          let f : (y : ℕ) × (y < L.columns) × (both F.matched X y ≡ true) × (F.mate y ≡ i) = fits.t x i xl xh il s in
          no_match L F i none f.0 f.1 (both-first (F.matched f.0) (X f.0) f.2) f.3

      follows : (x y : ℕ) → x < L.columns → y < L.columns → X x ≡ true → LeadsInQ p L F x y ⊎ LeadsInT p L F x y → X y ≡ true
      follows x y xl yl xh (inl (b, ne)) = let f : (c : ℕ) × (c < L.columns) × (both F.base X c ≡ true)
          × (F.row c ≡ F.row y) = fits.q x (F.row y) xl xh (tab.base.row_below y yl b) ne in
          subst (λ k. X k ≡ true) (tab.base.distinct f.0 y f.1 yl (both-first (F.base f.0) (X f.0) f.2) b f.3) (both-second (F.base f.0) (X f.0) f.2)
      follows x y xl yl xh (inr (m, s)) = let f : (c : ℕ) × (c < L.columns) × (both F.matched X c ≡ true) × (F.mate c ≡ F.mate y) = fits.t x (F.mate y) xl xh
          (tab.matching.below y yl m) s in
          subst (λ k. X k ≡ true) (tab.matching.distinct f.0 y f.1 yl (both-first (F.matched f.0) (X f.0) f.2) m f.3) (both-second (F.matched f.0) (X f.0) f.2)

  -- the rank of a closed set, and its touched rows
  pub fits-rank : Fits p L F X → IsRho p L X (size_on (both F.base X) L.columns)
  fits-rank fits = rank_of-kernel p L.q_rows L.columns F.P L.q X (size_on (both F.base X) L.columns) (kernel-sym p L.q_rows L.columns L.q F.P tab.kernel)
      (rank_of-base p prime F.P L.q_rows L.columns F.base F.row tab.base X (λ j i l h il ne. fits.q j i l h il ne))

  pub fits-gamma : Fits p L F X → gamma L X ≤ size_on (both F.matched X) L.columns
  fits-gamma fits = size-surjection (both F.matched X) L.columns F.mate L.t_rows (touches_set L X)
      (λ i il h. let f : (j : ℕ) × (j < L.columns) × (both X (L.t i) j ≡ true) = some_below-found L.columns (both X (L.t i)) h in
      fits.t f.0 i f.1 (both-first (X f.0) (L.t i f.0) f.2) il (both-second (X f.0) (L.t i f.0) f.2))

  pub fits-equal : Fits p L F X → pair_size L F.base F.matched + size_on X L.columns ≡ size_on (both F.base X) L.columns + gamma L X + L.columns
  fits-equal fits = omega (
    arith,
    counts-equal F.base F.matched X L.columns tab.apart fits.free,
    fits-gamma fits,
    matched-count L F.matched F.mate X tab.matching,
  )

  -- where the bound is reached, X fits
  module _ (r : ℕ) (R : IsRho p L X r) (e : pair_size L F.base F.matched + size_on X L.columns ≡ r + gamma L X + L.columns) where
    within_base : IsWithin L.columns (both F.base X) F.base
    within_base j l h = both-first (F.base j) (X j) h

    base_count : size_on (both F.base X) L.columns ≤ r
    base_count = R.greatest (both F.base X) (λ j l h. both-second (F.base j) (X j) h)
        (independent_of-kernel p L.q_rows L.columns F.P L.q (both F.base X) (kernel-sym p L.q_rows L.columns L.q F.P tab.kernel)
        (base-independent p prime F.P L.q_rows L.columns F.base F.row tab.base (both F.base X) within_base))

    reached_free : (x : ℕ) → x < L.columns → F.base x ≡ false → F.matched x ≡ false → X x ≡ true
    reached_free x l a b = go (X x) refl
      where
        go : (v : Bool) → X x ≡ v → X x ≡ true
        go true q = q
        go false q = absurd (omega (
          arith,
          e,
          base_count,
          counts-less F.base F.matched X L.columns tab.apart x l a b q,
          matched-count L F.matched F.mate X tab.matching,
        ))

    module _ (x i : ℕ) (xl : x < L.columns) (xh : X x ≡ true) (il : i < L.q_rows) (ne : F.P i x % p ≢ 0)
        (none : (y : ℕ) → y < L.columns → both F.base X y && eqb (F.row y) i ≡ false) where
      no_row : (b : ℕ) → b < L.columns → both F.base X b ≡ true → i ≢ F.row b
      no_row b bl bh q = eqb_false (F.row b) i (both-refused (both F.base X b) (eqb (F.row b) i) (none b bl) bh) (sym q)

      never : IsCombination p F.P L.q_rows L.columns (both F.base X) x → ⊥
      never (c, s) = ne (sym (s i il) ∙ base-no_row p prime F.P L.q_rows L.columns F.base F.row tab.base (both F.base X) within_base c i il no_row)

      new : (v : Bool) → both F.base X x ≡ v → both F.base X x ≡ false
      new false q = q
      new true q = absurd (ne (tab.base.zero x i xl (both-first (F.base x) (X x) q) il (no_row x xl q)))

      one_more : size_on (with_one (both F.base X) x) L.columns ≤ r
      one_more = R.greatest (with_one (both F.base X) x)
          (λ j l h. elim (nat_cases j x) [
            | inl q ↦ subst (λ k. X k ≡ true) (sym q) xh
            | inr o ↦ both-second (F.base j) (X j) (with_one-other (both F.base X) x j h o)
          ])
          (independent_of-kernel p L.q_rows L.columns F.P L.q (with_one (both F.base X) x) (kernel-sym p L.q_rows L.columns L.q F.P tab.kernel)
          (with_one-independent p prime F.P L.q_rows L.columns (both F.base X) x xl
          (base-independent p prime F.P L.q_rows L.columns F.base F.row tab.base (both F.base X) within_base) never))

      larger : ⊥
      larger = omega (
        arith,
        e,
        one_more,
        sum-with_one (both F.base X) L.columns x (λ _. 1) xl (new (both F.base X x) refl),
        counts F.base F.matched X L.columns tab.apart,
        matched-count L F.matched F.mate X tab.matching,
      )

    reached_q : (x i : ℕ) → x < L.columns → X x ≡ true → i < L.q_rows → F.P i x % p ≢ 0 → (b : ℕ) × (b < L.columns) × (both F.base X b ≡ true) × (F.row b ≡ i)
    reached_q x i xl xh il ne = elim (first_on (λ y. both F.base X y && eqb (F.row y) i) L.columns) [
      | inl f ↦ (
        f.0,
        f.1,
        both-first (both F.base X f.0) (eqb (F.row f.0) i) f.2,
        eqb_true (F.row f.0) i (both-second (both F.base X f.0) (eqb (F.row f.0) i) f.2),
      )
      | inr none ↦ absurd (larger x i xl xh il ne none)
    ]

    reached_t : (x i : ℕ) → x < L.columns → X x ≡ true → i < L.t_rows → L.t i x ≡ true → (y : ℕ) × (y < L.columns)
        × (both F.matched X y ≡ true) × (F.mate y ≡ i)
    reached_t x i xl xh il s = elim (first_on (λ y. both F.matched X y && eqb (F.mate y) i) L.columns) [
      | inl f ↦ (
        f.0,
        f.1,
        both-first (both F.matched X f.0) (eqb (F.mate f.0) i) f.2,
        eqb_true (F.mate f.0) i (both-second (both F.matched X f.0) (eqb (F.mate f.0) i) f.2),
      )
      | inr none ↦ absurd (omega (
        arith,
        e,
        base_count,
        counts F.base F.matched X L.columns tab.apart,
        fewer none,
        sum_on-without (touches_set L X) L.t_rows i (λ _. 1) il touched,
      ))
    ]
      where
        touched : touches_set L X i ≡ true
        touched = some_below-holds L.columns (both X (L.t i)) x xl (both_true (X x) (L.t i x) xh s)

        fewer : ((y : ℕ) → y < L.columns → both F.matched X y && eqb (F.mate y) i ≡ false) →
            size_on (both F.matched X) L.columns ≤ size_on (without (touches_set L X) i) L.t_rows
        fewer none = size-injection (both F.matched X) L.columns F.mate L.t_rows (without (touches_set L X) i)
            (λ a l h. tab.matching.below a l (both-first (F.matched a) (X a) h))
            (λ a l h. member-without (touches_set L X) i (F.mate a)
            (some_below-holds L.columns (both X (L.t (F.mate a))) a l
            (both_true (X a) (L.t (F.mate a) a) (both-second (F.matched a) (X a) h) (tab.matching.symbol a l (both-first (F.matched a) (X a) h))))
            (eqb_false (F.mate a) i (both-refused (both F.matched X a) (eqb (F.mate a) i) (none a l) h)))
            (λ a b l k h g q. tab.matching.distinct a b l k (both-first (F.matched a) (X a) h) (both-first (F.matched b) (X b) g) q)

    pub reached-fits : Fits p L F X
    reached-fits = record { free = reached_free; q = reached_q; t = reached_t }
