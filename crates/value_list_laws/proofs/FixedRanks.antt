-- The structural rank of a model with fixed symbols: its values are those values of the model that have these numbers.
use Rattle.std.proofs.Common.{◌≡◌, ℕ, ◌+◌, ◌-◌, ◌*◌, ◌%◌, ◌<◌, ◌≤◌, ◌≢◌, Bool, true, false, cond, eqb, not, ◌&&◌, ◌||◌}
use Rattle.std.proofs.Common.{◌⊎◌, inl, inr, refl, ap, sym, subst, ◌∙◌, arith}
use Rattle.std.proofs.Math.Nat.{zero-mod}
use Rattle.residue_theory.proofs.CountLaws.{size-without}
use Rattle.residue_theory.proofs.ResidueLaws.{agree-add, lacks}
use Rattle.residue_theory.proofs.SetLaws.{both-first, both-second, both_true, eqb_from, eqb_true}
use Rattle.residue_theory.proofs.SumLaws.{nat_cases, sum_on-ext, without-member}
use Rattle.residue_theory.specs.Residues.{IsPrime}
use Rattle.residue_theory.specs.Sets.{everything, without}
use Rattle.linear_algebra.specs.Columns.{IsIndependent, IsRank}
use Rattle.linear_algebra.specs.Parts.{with_entry}
use Rattle.linear_algebra_laws.proofs.Entries.{with_entry-column}
use Rattle.linear_algebra_laws.proofs.Kernels.{kernel_of-agree, rank_of-kernel}
use Rattle.linear_algebra_laws.proofs.Products.{independent-agree}
use Rattle.linear_algebra_laws.proofs.Ranks.{independent-within, rank_exists}
use Rattle.mixed_matrices.specs.Models.{AreSameModels, MixedMatrix, numbers, value}
use Rattle.mixed_matrices.specs.StructuralRanks.{IsStructuralRank}
use Rattle.mixed_pair_laws.proofs.GreatestRanks.{mixed-rank_exists}
use Rattle.mixed_pair_laws.proofs.PairRank.{greatest-unique}
use Rattle.mixed_layering_laws.proofs.ChangedValues.{kept-greatest, model-placed}
use Rattle.mixed_layering_laws.specs.LayeredValues.{IsOneOrTwo}
use Rattle.value_list_laws.proofs.TwoNumbers.{one_of_different}
use Rattle.value_list_laws.specs.FixedSymbols.{HaveNumbersAt, IsRankWith, IsSymbolPlace, KeepsRank, LowersRank}
use Rattle.value_list_laws.specs.FixedSymbols.{ReachesRank, fixed, fixed_at, place}

-- the numbers c at the places X, and w elsewhere
abbrev pub merged : (ℕ → ℕ → Bool) → (ℕ → ℕ → ℕ) → (ℕ → ℕ → ℕ) → ℕ → ℕ → ℕ
merged X c w i j = cond (X i j) (c i j) (w i j)

-- ---- one place
pub place-there : (i j : ℕ) → place i j i j ≡ true
place-there i j = both_true (eqb i i) (eqb j j) (eqb_from i i refl) (eqb_from j j refl)

pub place-row : (i j k l : ℕ) → place i j k l ≡ true → k ≡ i
place-row i j k l h = eqb_true k i (both-first (eqb k i) (eqb l j) h)

pub place-column : (i j k l : ℕ) → place i j k l ≡ true → l ≡ j
place-column i j k l h = eqb_true l j (both-second (eqb k i) (eqb l j) h)

-- what holds at (i, j) holds at the one place
pub at-place : (P : ℕ → ℕ → Type 0) (i j k l : ℕ) → place i j k l ≡ true → P i j → P k l
at-place P i j k l h one = subst (λ x. P x l) (sym (place-row i j k l h)) (subst (λ y. P i y) (sym (place-column i j k l h)) one)

pub with_entry-place : (w : ℕ → ℕ → ℕ) (i j x k l : ℕ) → place i j k l ≡ true → with_entry w i j x k l ≡ x
with_entry-place w i j x k l h = ap (λ b. cond b x (w k l)) h

pub with_entry-else : (w : ℕ → ℕ → ℕ) (i j x k l : ℕ) → place i j k l ≡ false → with_entry w i j x k l ≡ w k l
with_entry-else w i j x k l h = ap (λ b. cond b x (w k l)) h

module _ (p : ℕ) (M : MixedMatrix) where
  abbrev pub HasRank : (ℕ → ℕ → ℕ) → ℕ → Type 0
  HasRank a r = IsRank p a M.rows M.columns everything r

  agree-rank : (a b : ℕ → ℕ → ℕ) (r : ℕ) → ((i j : ℕ) → i < M.rows → j < M.columns → a i j % p ≡ b i j % p) → HasRank a r → HasRank b r
  agree-rank a b r same = rank_of-kernel p M.rows M.columns a b everything r (kernel_of-agree p M.rows M.columns a b same)

  -- values with the same numbers at the symbols have the same rank
  pub same-values : (v w : ℕ → ℕ → ℕ) (r : ℕ) → ((i j : ℕ) → IsSymbolPlace M i j → v i j % p ≡ w i j % p) → HasRank (value M v) r → HasRank (value M w) r
  same-values v w r same = agree-rank (value M v) (value M w) r (λ i j il jl. agree-add p (M.constant i j) (M.constant i j)
      (numbers M.symbol v i j) (numbers M.symbol w i j) refl (at i j il jl (M.symbol i j) refl))
    where
      at : (i j : ℕ) → i < M.rows → j < M.columns → (s : Bool) → M.symbol i j ≡ s → cond s (v i j) 0 % p ≡ cond s (w i j) 0 % p
      at i j il jl true e = same i j (il, jl, e)
      at i j il jl false e = refl

  pub same-reaches : (v w : ℕ → ℕ → ℕ) → ((i j : ℕ) → IsSymbolPlace M i j → v i j % p ≡ w i j % p) → ReachesRank p M v → ReachesRank p M w
  same-reaches v w same (r, R, K) = (r, R, same-values v w r same K)

  -- ---- fixed symbols
  value-fixed : (X : ℕ → ℕ → Bool) (c w : ℕ → ℕ → ℕ) (i j : ℕ) → value (fixed X c M) w i j ≡ value M (merged X c w) i j
  value-fixed X c w i j = at (X i j) (M.symbol i j) (M.constant i j) (c i j) (w i j)
    where
      at : (x s : Bool) (k y z : ℕ) → k + cond (x && s) y 0 + cond (s && not x) z 0 ≡ k + cond s (cond x y z) 0
      at true true k y z = omega arith
      at true false k y z = omega arith
      at false true k y z = omega arith
      at false false k y z = omega arith

  pub fixed-back : (X : ℕ → ℕ → Bool) (c w : ℕ → ℕ → ℕ) (r : ℕ) → HasRank (value (fixed X c M) w) r → HasRank (value M (merged X c w)) r
  fixed-back X c w r = agree-rank (value (fixed X c M) w) (value M (merged X c w)) r (λ i j _ _. ap (λ y. y % p) (value-fixed X c w i j))

  pub merged-has : (X : ℕ → ℕ → Bool) (c w : ℕ → ℕ → ℕ) → HaveNumbersAt p M X c (merged X c w)
  merged-has X c w i j _ h = ap (λ b. cond b (c i j) (w i j) % p) h

  pub fixed-forth : (X : ℕ → ℕ → Bool) (c v : ℕ → ℕ → ℕ) (r : ℕ) → HaveNumbersAt p M X c v → HasRank (value M v) r → HasRank (value (fixed X c M) v) r
  fixed-forth X c v r has K = agree-rank (value M (merged X c v)) (value (fixed X c M) v) r (λ i j _ _. ap (λ y. y % p) (sym (value-fixed X c v i j)))
      (same-values v (merged X c v) r (λ i j at. chosen i j at (X i j) refl) K)
    where
      chosen : (i j : ℕ) → IsSymbolPlace M i j → (b : Bool) → X i j ≡ b → v i j % p ≡ cond b (c i j) (v i j) % p
      chosen i j at true e = has i j at e
      chosen i j at false e = refl

  pub fixed-with : (X : ℕ → ℕ → Bool) (c : ℕ → ℕ → ℕ) (r : ℕ) → IsStructuralRank p (fixed X c M) r → IsRankWith p M X c r
  fixed-with X c r R = record {
    reached = (merged X c R.reached.0, merged-has X c R.reached.0, fixed-back X c R.reached.0 r R.reached.1);
    greatest = λ v s has K. R.greatest v s (fixed-forth X c v s has K);
  }

  pub with-fixed : (X : ℕ → ℕ → Bool) (c : ℕ → ℕ → ℕ) (r : ℕ) → IsRankWith p M X c r → IsStructuralRank p (fixed X c M) r
  with-fixed X c r W = record {
    reached = (W.reached.0, fixed-forth X c W.reached.0 r W.reached.1 W.reached.2);
    greatest = λ w s K. W.greatest (merged X c w) s (merged-has X c w) (fixed-back X c w s K);
  }

  -- the rank is kept exactly where values with these numbers reach it
  pub keeps-with : (X : ℕ → ℕ → Bool) (c w : ℕ → ℕ → ℕ) → HaveNumbersAt p M X c w → ReachesRank p M w → KeepsRank p M (fixed X c M)
  keeps-with X c w has (r, R, K) = (
    r,
    R,
    with-fixed X c r (record { reached = (w, has, K); greatest = λ v s _ S. R.greatest v s S }),
  )

  pub with-keeps : (X : ℕ → ℕ → Bool) (c : ℕ → ℕ → ℕ) → KeepsRank p M (fixed X c M) → (w : ℕ → ℕ → ℕ) × HaveNumbersAt p M X c w × ReachesRank p M w
  with-keeps X c (r, R, F) = go (fixed-with X c r F)
    where
      go : IsRankWith p M X c r → (w : ℕ → ℕ → ℕ) × HaveNumbersAt p M X c w × ReachesRank p M w
      go W = (W.reached.0, W.reached.1, (r, R, W.reached.2))

  -- ---- one more symbol fixed
  pub one-more : (X : ℕ → ℕ → Bool) (v : ℕ → ℕ → ℕ) (i j : ℕ) → X i j ≡ false →
      AreSameModels p (fixed (λ k l. X k l || place i j k l) v M) (fixed_at i j (v i j) (fixed X v M))
  one-more X v i j out = record {
    rows = refl;
    columns = refl;
    constants = λ k l _ _. ap (λ y. y % p) (at k l);
    symbols = λ k l _ _. split (X k l) (place i j k l) (M.symbol k l);
  }
    where
      split : (x q s : Bool) → s && not (x || q) ≡ (s && not x) && not q
      split true true true = refl
      split true true false = refl
      split true false true = refl
      split true false false = refl
      split false true true = refl
      split false true false = refl
      split false false true = refl
      split false false false = refl

      sums : (x q s : Bool) (k y z : ℕ) → (q ≡ true → x ≡ false) → (q ≡ true → y ≡ z) →
          k + cond ((x || q) && s) y 0 ≡ k + cond (x && s) y 0 + cond (q && (s && not x)) z 0
      sums x q s k y z e f = grind arith

      at : (k l : ℕ) → M.constant k l + cond ((X k l || place i j k l) && M.symbol k l) (v k l) 0 ≡
          M.constant k l + cond (X k l && M.symbol k l) (v k l) 0 + cond (place i j k l && (M.symbol k l && not (X k l))) (v i j) 0
      at k l = sums (X k l) (place i j k l) (M.symbol k l) (M.constant k l) (v k l) (v i j)
          (λ h. at-place (λ x y. X x y ≡ false) i j k l h out) (λ h. at-place (λ x y. v x y ≡ v i j) i j k l h refl)

  -- ---- one symbol
  module _ (prime : IsPrime p) (i j : ℕ) (here : IsSymbolPlace M i j) where
    changed : (w : ℕ → ℕ → ℕ) (x k l : ℕ) → with_entry (value M w) i j (M.constant i j + x) k l ≡ value M (with_entry w i j x) k l
    changed w x k l = both (place i j k l) (M.symbol k l) (M.constant k l) (M.constant i j) x (w k l)
        (λ h. at-place (λ y z. M.constant y z ≡ M.constant i j) i j k l h refl) (λ h. at-place (λ y z. M.symbol y z ≡ true) i j k l h here.2)
      where
        both : (q s : Bool) (k c x y : ℕ) → (q ≡ true → k ≡ c) → (q ≡ true → s ≡ true) →
            cond q (c + x) (k + cond s y 0) ≡ k + cond s (cond q x y) 0
        both q s k c x y e f = grind arith

    entry-has : (w : ℕ → ℕ → ℕ) (x : ℕ) → HaveNumbersAt p M (place i j) (λ _ _. x) (with_entry w i j x)
    entry-has w x k l _ h = ap (λ y. y % p) (with_entry-place w i j x k l h)

    -- numbers that keep the rank
    pub entry-keeps : (w : ℕ → ℕ → ℕ) (x : ℕ) → ReachesRank p M (with_entry w i j x) → KeepsRank p M (fixed_at i j x M)
    entry-keeps w x = keeps-with (place i j) (λ _ _. x) (with_entry w i j x) (entry-has w x)

    -- values that reach the rank reach it with 1 or with 2
    pub reaches-one_or_two : (w : ℕ → ℕ → ℕ) → ReachesRank p M w → (x : ℕ) × IsOneOrTwo x × ReachesRank p M (with_entry w i j x)
    reaches-one_or_two w (r, R, K) = go (model-placed p prime M K.reached.0 w K.reached.2 i j here.0)
      where
        go : (x : ℕ) × IsOneOrTwo x × IsIndependent p (value M (with_entry w i j x)) M.rows M.columns K.reached.0 →
            (x : ℕ) × IsOneOrTwo x × ReachesRank p M (with_entry w i j x)
        go (x, small, ind) = (
          x,
          small,
          (r, R, kept-greatest p prime M.rows M.columns (value M) r (record { reached = (w, K); greatest = R.greatest }) (with_entry w i j x) ind),
        )

    pub one_or_two-keeps : (c : ℕ) × IsOneOrTwo c × KeepsRank p M (fixed_at i j c M)
    one_or_two-keeps = start (mixed-rank_exists p prime M)
      where
        start : (r : ℕ) × IsStructuralRank p M r → (c : ℕ) × IsOneOrTwo c × KeepsRank p M (fixed_at i j c M)
        start (r, R) = go (reaches-one_or_two R.reached.0 (r, R, R.reached.1))
          where
            go : (x : ℕ) × IsOneOrTwo x × ReachesRank p M (with_entry R.reached.0 i j x) → (c : ℕ) × IsOneOrTwo c × KeepsRank p M (fixed_at i j c M)
            go (x, small, kept) = (x, small, entry-keeps R.reached.0 x kept)

    -- of two different numbers one keeps the rank
    different-keeps : (c d : ℕ) → c % p ≢ d % p → (r : ℕ) → IsStructuralRank p M r → KeepsRank p M (fixed_at i j c M) ⊎ KeepsRank p M (fixed_at i j d M)
    different-keeps c d ne r R = elim (one_of_different p prime M.rows M.columns (value M R.reached.0) i j R.reached.1.reached.0 here.0 R.reached.1.reached.2
        (M.constant i j + c) (M.constant i j + d) (λ e. ne (cancelled (M.constant i j) c d e))) [
          | inl one ↦ inl (shown c one)
          | inr two ↦ inr (shown d two)
        ]
      where
        cancelled : (k x y : ℕ) → (k + x) % p ≡ (k + y) % p → x % p ≡ y % p
        cancelled k x y e = sym (rest x) ∙ agree-add p (k + x) (k + y) ((p - 1) * k) ((p - 1) * k) e refl ∙ rest y
          where
            rest : (z : ℕ) → (k + z + (p - 1) * k) % p ≡ z % p
            rest z = ap (λ s. s % p) (let q : k + z + (p - 1) * k ≡ z + (k + (p - 1) * k) = omega arith in q)
                ∙ agree-add p z z (k + (p - 1) * k) 0 refl (lacks p prime k ∙ sym (zero-mod p))
                ∙ ap (λ s. s % p) (let q : z + 0 ≡ z = omega arith in q)

        shown : (x : ℕ) → IsIndependent p (with_entry (value M R.reached.0) i j (M.constant i j + x)) M.rows M.columns R.reached.1.reached.0 →
            KeepsRank p M (fixed_at i j x M)
        shown x ind = entry-keeps R.reached.0 x (
          r,
          R,
          kept-greatest p prime M.rows M.columns (value M) r R (with_entry R.reached.0 i j x)
              (independent-agree p M.rows M.columns (with_entry (value M R.reached.0) i j (M.constant i j + x)) (value M (with_entry R.reached.0 i j x))
              R.reached.1.reached.0 (λ k l _ _. ap (λ y. y % p) (changed R.reached.0 x k l)) ind),
        )

    unique : (N : MixedMatrix) (r s : ℕ) → IsStructuralRank p N r → IsStructuralRank p N s → r ≡ s
    unique N r s = greatest-unique p N.rows N.columns (value N) r s

    clash : (c : ℕ) → LowersRank p M (fixed_at i j c M) → KeepsRank p M (fixed_at i j c M) → ⊥
    clash c (r, s, R, S, less) (t, T, F) = omega (arith, less, unique M r t R T, unique (fixed_at i j c M) s t S F)

    pub at_most_one : (c d : ℕ) → LowersRank p M (fixed_at i j c M) → LowersRank p M (fixed_at i j d M) → c % p ≡ d % p
    at_most_one c d first second = elim (nat_cases (c % p) (d % p)) [
      | inl q ↦ q
      | inr ne ↦ absurd (never first ne)
    ]
      where
        never : LowersRank p M (fixed_at i j c M) → c % p ≢ d % p → ⊥
        never (r, s, R, S, less) ne = elim (different-keeps c d ne r R) [
          | inl kept ↦ clash c (r, s, R, S, less) kept
          | inr kept ↦ clash d second kept
        ]

    -- a number takes one at most: an independent set without the column of the place stays independent
    pub takes-one : (c r s : ℕ) → IsStructuralRank p M r → IsStructuralRank p (fixed_at i j c M) s → (s ≡ r) ⊎ (s + 1 ≡ r)
    takes-one c r s R S = at (rank_exists p prime (value M (with_entry R.reached.0 i j c)) M.rows M.columns everything)
      where
        left : IsIndependent p (value M (with_entry R.reached.0 i j c)) M.rows M.columns (without R.reached.1.reached.0 j)
        left = independent-agree p M.rows M.columns (with_entry (value M R.reached.0) i j (M.constant i j + c)) (value M (with_entry R.reached.0 i j c))
            (without R.reached.1.reached.0 j) (λ k l _ _. ap (λ y. y % p) (changed R.reached.0 c k l))
            (λ z combined. independent-within p (value M R.reached.0) M.rows M.columns (without R.reached.1.reached.0 j) R.reached.1.reached.0
            (λ l _ h. (without-member R.reached.1.reached.0 j l h).0) R.reached.1.reached.2 z
            (λ k kl. ap (λ y. y % p) (sym (sum_on-ext (without R.reached.1.reached.0 j) M.columns
            (λ l. z l * with_entry (value M R.reached.0) i j (M.constant i j + c) k l) (λ l. z l * value M R.reached.0 k l)
            (λ l _ h. ap (λ y. z l * y) (with_entry-column (value M R.reached.0) i j (M.constant i j + c) k l (without-member R.reached.1.reached.0 j l h).1))))
            ∙ combined k kl))

        at : (t : ℕ) × HasRank (value M (with_entry R.reached.0 i j c)) t → (s ≡ r) ⊎ (s + 1 ≡ r)
        at (t, T) = either_way (omega (
          arith,
          (fixed-with (place i j) (λ _ _. c) s S).greatest (with_entry R.reached.0 i j c) t (entry-has R.reached.0 c) T,
          T.greatest (without R.reached.1.reached.0 j) (λ _ _ _. refl) left,
          size-without R.reached.1.reached.0 M.columns j here.1,
          R.reached.1.reached.3,
        )) (back (fixed-with (place i j) (λ _ _. c) s S))
          where
            back : IsRankWith p M (place i j) (λ _ _. c) s → s ≤ r
            back W = R.greatest W.reached.0 s W.reached.2

            either_way : r ≤ s + 1 → s ≤ r → (s ≡ r) ⊎ (s + 1 ≡ r)
            either_way a b = elim (nat_cases s r) [ inl q ↦ inl q | inr ne ↦ inr (omega arith) ]
