-- Symbols fixed in order, and runs of places that are fixed at once.
use Rattle.std.proofs.Common.{◌≡◌, ℕ, ◌+◌, ◌%◌, ◌<◌, Bool, true, false, cond, not, ◌&&◌, ◌||◌, refl, ap, sym, subst}
use Rattle.std.proofs.Common.{◌∙◌, arith}
use Rattle.std.proofs.lemmas.Bool.Decides.{nat_tests}
use Rattle.residue_theory.proofs.SetLaws.{both-first, both-second, both_true, not_true}
use Rattle.residue_theory.specs.Residues.{IsPrime}
use Rattle.mixed_matrices.specs.Models.{AreSameModels, MixedMatrix}
use Rattle.value_list_laws.proofs.FixedRanks.{at-place, fixed-back, fixed-forth, fixed-with, keeps-with, merged}
use Rattle.value_list_laws.proofs.FixedRanks.{merged-has, one-more, with-fixed, with-keeps}
use Rattle.value_list_laws.proofs.Places.{before-not_self, none-before}
use Rattle.value_list_laws.proofs.Witnesses.{runs}
use Rattle.value_list_laws.specs.FixedSymbols.{HaveNumbersAt, IsRankWith, IsSymbolPlace, KeepsRank, PutsNumberAt}
use Rattle.value_list_laws.specs.FixedSymbols.{ReachesRank, fixed, fixed_at, place}
use Rattle.value_list_laws.specs.ValueLists.{IsFirstList, before, run, with_ones_next}

-- ---- the same sets of places
fixed-same : (p : ℕ) (M : MixedMatrix) (X Y : ℕ → ℕ → Bool) (v : ℕ → ℕ → ℕ) →
    ((i j : ℕ) → i < M.rows → j < M.columns → X i j ≡ Y i j) → AreSameModels p (fixed X v M) (fixed Y v M)
fixed-same p M X Y v same = record {
  rows = refl;
  columns = refl;
  constants = λ i j il jl. ap (λ b. (M.constant i j + cond (b && M.symbol i j) (v i j) 0) % p) (same i j il jl);
  symbols = λ i j il jl. ap (λ b. M.symbol i j && not b) (same i j il jl);
}

same-trans : (p : ℕ) (K L M : MixedMatrix) → AreSameModels p K L → AreSameModels p L M → AreSameModels p K M
same-trans p K L M a b = record {
  rows = a.rows ∙ b.rows;
  columns = a.columns ∙ b.columns;
  constants = λ i j il jl. a.constants i j il jl
      ∙ b.constants i j (subst (λ m. i < m) a.rows il) (subst (λ n. j < n) a.columns jl);
  symbols = λ i j il jl. a.symbols i j il jl
      ∙ b.symbols i j (subst (λ m. i < m) a.rows il) (subst (λ n. j < n) a.columns jl);
}

next-place : (i j k l : ℕ) → before i (j + 1) k l ≡ before i j k l || place i j k l
next-place i j k l = grind (arith, nat_tests)

next-row : (n i k l : ℕ) → l < n → before (i + 1) 0 k l ≡ before i n k l
next-row n i k l ll = grind (arith, nat_tests)

pub in-order_start : (p : ℕ) (M : MixedMatrix) (v : ℕ → ℕ → ℕ) → AreSameModels p M (fixed (before 0 0) v M)
in-order_start p M v = record {
  rows = refl;
  columns = refl;
  constants = λ i j _ _. ap (λ y. y % p) (constant (before 0 0 i j) (M.symbol i j) (M.constant i j) (v i j) (none i j));
  symbols = λ i j _ _. symbol (before 0 0 i j) (M.symbol i j) (none i j);
}
  where
    none : (i j : ℕ) → before 0 0 i j ≡ false
    none i j = not_true (before 0 0 i j) (none-before i j)

    constant : (b s : Bool) (k y : ℕ) → b ≡ false → k ≡ k + cond (b && s) y 0
    constant b s k y h = grind arith

    symbol : (b s : Bool) → b ≡ false → s ≡ s && not b
    symbol b true h = ap not (sym h)
    symbol b false h = refl

pub in-order_next : (p : ℕ) (M : MixedMatrix) (v : ℕ → ℕ → ℕ) (i j : ℕ) →
    AreSameModels p (fixed (before i (j + 1)) v M) (fixed_at i j (v i j) (fixed (before i j) v M))
in-order_next p M v i j = same-trans p (fixed (before i (j + 1)) v M) (fixed (λ k l. before i j k l || place i j k l) v M)
    (fixed_at i j (v i j) (fixed (before i j) v M))
    (fixed-same p M (before i (j + 1)) (λ k l. before i j k l || place i j k l) v (λ k l _ _. next-place i j k l))
    (one-more p M (before i j) v i j (before-not_self i j))

pub in-order_row : (p : ℕ) (M : MixedMatrix) (v : ℕ → ℕ → ℕ) (i : ℕ) → AreSameModels p (fixed (before (i + 1) 0) v M) (fixed (before i M.columns) v M)
in-order_row p M v i = fixed-same p M (before (i + 1) 0) (before i M.columns) v (λ k l _ ll. next-row M.columns i k l ll)

pub put-fixed : (p : ℕ) (M N : MixedMatrix) (i j c : ℕ) → IsSymbolPlace M i j → PutsNumberAt p M N i j c → AreSameModels p N (fixed_at i j c M)
put-fixed p M N i j c here P = record {
  rows = P.rows;
  columns = P.columns;
  constants = λ k l _ _. constant k l (place i j k l) refl;
  symbols = λ k l _ _. symbol k l (place i j k l) refl;
}
  where
    constant : (k l : ℕ) (b : Bool) → place i j k l ≡ b → N.constant k l % p ≡ (M.constant k l + cond (place i j k l && M.symbol k l) c 0) % p
    constant k l true e = at-place (λ x y. N.constant x y % p ≡ (M.constant x y + c) % p) i j k l e P.constant
        ∙ ap (λ b. (M.constant k l + cond b c 0) % p)
        (sym (both_true (place i j k l) (M.symbol k l) e (at-place (λ x y. M.symbol x y ≡ true) i j k l e here.2)))
    constant k l false e = P.other_constants k l e
        ∙ ap (λ y. y % p) (unchanged (place i j k l) (M.symbol k l) (M.constant k l) e)
      where
        unchanged : (b s : Bool) (y : ℕ) → b ≡ false → y ≡ y + cond (b && s) c 0
        unchanged b s y h = grind arith

    symbol : (k l : ℕ) (b : Bool) → place i j k l ≡ b → N.symbol k l ≡ M.symbol k l && not (place i j k l)
    symbol k l true e = at-place (λ x y. N.symbol x y ≡ false) i j k l e P.symbol ∙ sym (gone (M.symbol k l) (place i j k l) e)
      where
        gone : (s b : Bool) → b ≡ true → s && not b ≡ false
        gone true b h = ap not h
        gone false b h = refl
    symbol k l false e = P.other_symbols k l e ∙ kept (M.symbol k l) (place i j k l) e
      where
        kept : (s b : Bool) → b ≡ false → s ≡ s && not b
        kept true b h = ap not (sym h)
        kept false b h = refl

module _ (p : ℕ) (M : MixedMatrix) where
  pub fewer-keep : (X Y : ℕ → ℕ → Bool) (c : ℕ → ℕ → ℕ) → ((i j : ℕ) → IsSymbolPlace M i j → X i j ≡ true → Y i j ≡ true) →
      KeepsRank p M (fixed Y c M) → KeepsRank p M (fixed X c M)
  fewer-keep X Y c within keeps = go (with-keeps p M Y c keeps)
    where
      go : (w : ℕ → ℕ → ℕ) × HaveNumbersAt p M Y c w × ReachesRank p M w → KeepsRank p M (fixed X c M)
      go (w, has, reaches) = keeps-with p M X c w (λ i j at h. has i j at (within i j at h)) reaches

  pub steps-keep : (v : ℕ → ℕ → ℕ) → IsFirstList p M v → (i j : ℕ) → KeepsRank p M (fixed (before i j) v M)
  steps-keep v V i j = keeps-with p M (before i j) v v (λ _ _ _ _. refl) V.reaches

  -- ---- symbols Y fixed after others X
  pub later-to : (X Y : ℕ → ℕ → Bool) (v c : ℕ → ℕ → ℕ) → ((i j : ℕ) → Y i j ≡ true → X i j ≡ false) → KeepsRank p M (fixed Y c (fixed X v M)) →
      (w : ℕ → ℕ → ℕ) × HaveNumbersAt p M Y c w × HaveNumbersAt p M X v w × ReachesRank p M w
  later-to X Y v c apart (r, R, F) = go (fixed-with p (fixed X v M) Y c r F)
    where
      go : IsRankWith p (fixed X v M) Y c r → (w : ℕ → ℕ → ℕ) × HaveNumbersAt p M Y c w × HaveNumbersAt p M X v w × ReachesRank p M w
      go W = (
        merged X v W.reached.0,
        (λ i j at h. ap (λ b. cond b (v i j) (W.reached.0 i j) % p) (apart i j h)
            ∙ W.reached.1 i j (at.0, at.1, both_true (M.symbol i j) (not (X i j)) at.2 (ap not (apart i j h))) h),
        merged-has p M X v W.reached.0,
        (r, R, fixed-back p M X v W.reached.0 r W.reached.2),
      )

  pub later-from : (X Y : ℕ → ℕ → Bool) (v c w : ℕ → ℕ → ℕ) → HaveNumbersAt p M Y c w → HaveNumbersAt p M X v w → ReachesRank p M w →
      KeepsRank p M (fixed Y c (fixed X v M))
  later-from X Y v c w there has (r, R, K) = (
    r,
    R,
    with-fixed p (fixed X v M) Y c r (record {
      reached = (
        w,
        (λ i j at h. there i j (at.0, at.1, both-first (M.symbol i j) (not (X i j)) at.2) h),
        fixed-forth p M X v w r has K,
      );
      greatest = λ u s _ S. R.greatest (merged X v u) s (fixed-back p M X v u s S);
    }),
  )

pub not_false : (b : Bool) → not b ≡ true → b ≡ false
not_false true h = sym h
not_false false h = refl

module _ (p : ℕ) (prime : IsPrime p) (M : MixedMatrix) (v : ℕ → ℕ → ℕ) (V : IsFirstList p M v) (i j k l : ℕ) where
  pub run-to : KeepsRank p M (with_ones_next M v i j k l) → (a b : ℕ) → IsSymbolPlace M a b → run i j k l a b ≡ true → v a b ≡ 1
  run-to keeps a b at h = go (later-to p M (before i j) (run i j k l) v (λ _ _. 1)
      (λ x y in_run. not_false (before i j x y) (both-second (before k l x y) (not (before i j x y)) in_run)) keeps)
    where
      go : (w : ℕ → ℕ → ℕ) × HaveNumbersAt p M (run i j k l) (λ _ _. 1) w × HaveNumbersAt p M (before i j) v w × ReachesRank p M w → v a b ≡ 1
      go (w, ones, has, reaches) = runs p prime M v V i j k l w has reaches
          (λ x y there out within. ones x y there (both_true (before k l x y) (not (before i j x y)) within (ap not out)))
          a b at (not_false (before i j a b) (both-second (before k l a b) (not (before i j a b)) h)) (both-first (before k l a b) (not (before i j a b)) h)

  pub run-from : ((a b : ℕ) → IsSymbolPlace M a b → run i j k l a b ≡ true → v a b ≡ 1) → KeepsRank p M (with_ones_next M v i j k l)
  run-from ones = later-from p M (before i j) (run i j k l) v (λ _ _. 1) v (λ x y at h. ap (λ z. z % p) (ones x y at h)) (λ _ _ _ _. refl) V.reaches
