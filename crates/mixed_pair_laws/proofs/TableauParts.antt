-- The tableau of a part of a layered matrix, and the structural ranks of two kinds of parts.
use Rattle.std.proofs.Common.{◌≡◌, ◌%◌, ◌<◌, ◌≢◌, ◌&&◌, ◌⊎◌, ◌∙◌, ℕ, Bool, true, false, cond, not, inl, inr, refl, ap, sym, arith}
use Rattle.std.proofs.Math.Nat.{zero-mod}
use Rattle.residue_theory.proofs.SetLaws.{both-first, both-second, differ}
use Rattle.residue_theory.specs.Residues.{IsPrime}
use Rattle.residue_theory.specs.Sets.{both, everything}
use Rattle.linear_algebra.specs.Products.{product}
use Rattle.linear_algebra_laws.proofs.Entries.{part-shown}
use Rattle.linear_algebra_laws.proofs.Kernels.{kernel_of-agree}
use Rattle.linear_algebra_laws.proofs.Products.{product-kernel}
use Rattle.mixed_matrices.specs.Forms.{transformed}
use Rattle.mixed_matrices.specs.LayeredMatrices.{LayeredMatrix, layered_part}
use Rattle.mixed_matrices.specs.Pairs.{pair_size}
use Rattle.mixed_matrices.specs.StructuralRanks.{IsLayeredRank}
use Rattle.mixed_matrices.specs.Tableaus.{HasTableau, IsTableau, Tableau, tableau_part}
use Rattle.mixed_pair_laws.proofs.ArcFacts.{EndsInQ, EndsInT, LeadsInQ, LeadsInT, end-tells, free-tells, leads-tells, no_base, no_match}
use Rattle.mixed_pair_laws.proofs.PairRank.{closed-rank}

-- a product with an invertible matrix keeps the kernel, so a tableau with S and U is one
pub tableau : (p : ℕ) → IsPrime p → (L : LayeredMatrix) (S U : ℕ → ℕ → ℕ) (F : Tableau) → IsTableau p L S U F → HasTableau p L F
tableau p prime L S U F t = record {
  kernel = product-kernel p prime L.q_rows L.columns S U L.q F.P t.inverse t.product;
  base = t.base;
  matching = t.matching;
  apart = t.apart;
}

module _ (p : ℕ) (prime : IsPrime p) (L : LayeredMatrix) (S U : ℕ → ℕ → ℕ) (F : Tableau) (tab : IsTableau p L S U F) (R D X : ℕ → Bool)
    (rows : (b : ℕ) → b < L.columns → F.base b ≡ true → X b ≡ true → R (F.row b) ≡ true)
    (mates : (j : ℕ) → j < L.columns → F.matched j ≡ true → X j ≡ true → D (F.mate j) ≡ true) where
  abbrev pub the_part : LayeredMatrix
  the_part = layered_part R D X (transformed S L)

  pub part-has_tableau : HasTableau p the_part (tableau_part R X F)
  part-has_tableau = record {
    kernel = kernel_of-agree p L.q_rows L.columns (λ i j. cond (R i && X j) (product L.q_rows S L.q i j) 0) (λ i j. cond (R i && X j) (F.P i j) 0)
        (λ i j il jl. masked (R i && X j) (product L.q_rows S L.q i j) (F.P i j) (sym (tab.product i j il jl)));
    base = record {
      row_below = λ b bl bh. tab.base.row_below b bl (both-first (F.base b) (X b) bh);
      one = λ b bl bh. ap (λ s. s % p) (part-shown R X F.P (F.row b) b (rows b bl (both-first (F.base b) (X b) bh) (both-second (F.base b) (X b) bh))
          (both-second (F.base b) (X b) bh)) ∙ tab.base.one b bl (both-first (F.base b) (X b) bh);
      zero = λ b i bl bh il ne. vanishing (R i && X b) (F.P i b) (tab.base.zero b i bl (both-first (F.base b) (X b) bh) il ne);
      distinct = λ b c bl cl bh ch. tab.base.distinct b c bl cl (both-first (F.base b) (X b) bh) (both-first (F.base c) (X c) ch);
    };
    matching = record {
      below = λ j jl jh. tab.matching.below j jl (both-first (F.matched j) (X j) jh);
      symbol = λ j jl jh. three (D (F.mate j)) (X j) (L.t (F.mate j) j) (mates j jl (both-first (F.matched j) (X j) jh) (both-second (F.matched j) (X j) jh))
          (both-second (F.matched j) (X j) jh) (tab.matching.symbol j jl (both-first (F.matched j) (X j) jh));
      distinct = λ j k jl kl jh kh. tab.matching.distinct j k jl kl (both-first (F.matched j) (X j) jh) (both-first (F.matched k) (X k) kh);
    };
    apart = λ j jl jh. no_second (F.matched j) (X j) (tab.apart j jl (both-first (F.base j) (X j) jh));
  }
    where
      masked : (b : Bool) (x y : ℕ) → x % p ≡ y % p → cond b x 0 % p ≡ cond b y 0 % p
      masked true x y e = e
      masked false x y e = refl

      vanishing : (b : Bool) (x : ℕ) → x % p ≡ 0 → cond b x 0 % p ≡ 0
      vanishing true x e = e
      vanishing false x e = zero-mod p

      three : (a b c : Bool) → a ≡ true → b ≡ true → c ≡ true → a && b && c ≡ true
      three a b c x y z = grind arith

      no_second : (a b : Bool) → a ≡ false → a && b ≡ false
      no_second a b h = grind arith

  -- an entry of the part stands in its rows and columns
  shown : (b : Bool) (x : ℕ) → cond b x 0 % p ≢ 0 → b ≡ true
  shown true x ne = refl
  shown false x ne = absurd (ne (zero-mod p))

  first_three : (a b c : Bool) → a && b && c ≡ true → a ≡ true
  first_three a b c h = grind arith

  second_three : (a b c : Bool) → a && b && c ≡ true → b ≡ true
  second_three a b c h = grind arith

  -- each of its rows has its base or matched column in it: the rank is the number of these columns
  pub full_rows-rank : ((i : ℕ) → i < L.q_rows → R i ≡ true → (b : ℕ) × (b < L.columns) × (both F.base X b ≡ true) × (F.row b ≡ i)) →
      ((i : ℕ) → i < L.t_rows → D i ≡ true → (j : ℕ) × (j < L.columns) × (both F.matched X j ≡ true) × (F.mate j ≡ i)) →
      IsLayeredRank p the_part (pair_size L (both F.base X) (both F.matched X))
  full_rows-rank each_q each_t = closed-rank p prime the_part (tableau_part R X F) part-has_tableau everything (record {
    holds_starts = λ x l e. refl;
    no_end = λ x xl xh e. no_end x (end-tells p the_part (tableau_part R X F) x e);
    follows = λ x y xl yl xh s. refl;
  })
    where
      no_end : (x : ℕ) → EndsInQ p the_part (tableau_part R X F) x ⊎ EndsInT p the_part (tableau_part R X F) x → ⊥
      no_end x (inl (i, il, ne, none)) = let f : (b : ℕ) × (b < L.columns) × (both F.base X b ≡ true) × (F.row b ≡ i) = each_q i il
          (both-first (R i) (X x) (shown (R i && X x) (F.P i x) ne)) in
          no_base the_part (tableau_part R X F) i none f.0 f.1 f.2 f.3
      no_end x (inr (i, il, s, none)) = let f : (j : ℕ) × (j < L.columns) × (both F.matched X j ≡ true)
          × (F.mate j ≡ i) = each_t i il (first_three (D i) (X x) (L.t i x) s) in
          no_match the_part (tableau_part R X F) i none f.0 f.1 f.2 f.3

  -- each of its columns is in the base or matched: the rank is their number
  pub full_columns-rank : ((j : ℕ) → j < L.columns → X j ≡ true → F.base j ≡ false → F.matched j ≡ false → ⊥) →
      IsLayeredRank p the_part (pair_size L (both F.base X) (both F.matched X))
  full_columns-rank each = closed-rank p prime the_part (tableau_part R X F) part-has_tableau (λ j. not (X j)) (record {
    holds_starts = λ x l e. let f : (both F.base X x ≡ false) × (both F.matched X x ≡ false) = free-tells (tableau_part R X F) x e in outside (X x) (F.base x)
        (F.matched x) f.0 f.1 (λ h a b. each x l h a b);
    no_end = λ x xl xh e. clash (X x) xh (ended x (end-tells p the_part (tableau_part R X F) x e));
    follows = λ x y xl yl xh s. absurd (clash (X x) xh (led x y (leads-tells p the_part (tableau_part R X F) x y s)));
  })
    where
      clash : (b : Bool) → not b ≡ true → b ≡ true → ⊥
      clash b h k = grind arith

      ended : (x : ℕ) → EndsInQ p the_part (tableau_part R X F) x ⊎ EndsInT p the_part (tableau_part R X F) x → X x ≡ true
      ended x (inl (i, il, ne, none)) = both-second (R i) (X x) (shown (R i && X x) (F.P i x) ne)
      ended x (inr (i, il, s, none)) = second_three (D i) (X x) (L.t i x) s

      led : (x y : ℕ) → LeadsInQ p the_part (tableau_part R X F) x y ⊎ LeadsInT p the_part (tableau_part R X F) x y → X x ≡ true
      led x y (inl (b, ne)) = both-second (R (F.row y)) (X x) (shown (R (F.row y) && X x) (F.P (F.row y) x) ne)
      led x y (inr (m, s)) = second_three (D (F.mate y)) (X x) (L.t (F.mate y) x) s

      outside : (x a b : Bool) → a && x ≡ false → b && x ≡ false → (x ≡ true → a ≡ false → b ≡ false → ⊥) → not x ≡ true
      outside false a b h k no_such = refl
      outside true true b h k no_such = absurd (differ h refl)
      outside true false true h k no_such = absurd (differ k refl)
      outside true false false h k no_such = absurd (no_such refl refl refl)
