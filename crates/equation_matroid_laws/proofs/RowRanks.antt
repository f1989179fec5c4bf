-- Rows as columns of the transpose: R of a set of equations, independent sets of them, and values that two sets share.
use Rattle.std.proofs.Common.{◌≡◌, ℕ, zero, suc, ◌+◌, ◌%◌, ◌<◌, ◌≤◌, Bool, true, false, cond, ◌&&◌, ◌⊎◌, inl, inr, refl}
use Rattle.std.proofs.Common.{ap, sym, subst, arith}
use Rattle.residue_theory.proofs.SetLaws.{differ}
use Rattle.residue_theory.proofs.SumLaws.{nat_cases, size_on-within}
use Rattle.residue_theory.specs.Residues.{IsPrime}
use Rattle.residue_theory.specs.Sets.{IsWithin, everything, with_one}
use Rattle.residue_theory.specs.Sums.{size_on}
use Rattle.linear_algebra.specs.Columns.{IsCombination, IsIndependent, IsRank}
use Rattle.linear_algebra.specs.Parts.{part}
use Rattle.linear_algebra.specs.Products.{transposed}
use Rattle.linear_algebra_laws.proofs.Kernels.{kernel_of-agree, rank_of-kernel}
use Rattle.linear_algebra_laws.proofs.PartLaws.{part_columns-rank}
use Rattle.linear_algebra_laws.proofs.Ranks.{combination-member, independent-within, join_or_combination}
use Rattle.linear_algebra_laws.proofs.Ranks.{none_independent, rank-unique, rank_exists, size_on-combinations}
use Rattle.linear_algebra_laws.proofs.Transposes.{rank-transposed}
use Rattle.mixed_matrices.specs.Models.{MixedMatrix, value}
use Rattle.mixed_matrices.specs.Removals.{mixed_part}
use Rattle.mixed_pair_laws.proofs.GreatestRanks.{mixed-rank_exists}
use Rattle.mixed_pair_laws.proofs.PairRank.{greatest-unique}
use Rattle.equation_matroid_laws.proofs.Matroids.{IsLargest, Matroid, full, largest-unique}
use Rattle.equation_matroid_laws.proofs.SharedValues.{shared_values}
use Rattle.equation_matroid_laws.specs.EquationRanks.{AreIndependent, IsOneToThree, IsRankAt, IsRankOf}

module _ (p : ℕ) (prime : IsPrime p) (M : MixedMatrix) where
  -- the rows of M(v), as columns
  abbrev pub rows_at : (ℕ → ℕ → ℕ) → ℕ → ℕ → ℕ
  rows_at v = transposed (value M v)

  -- ---- the rank of the equations X at v is that of the columns X of the transpose
  emptied : (X : ℕ → Bool) (v : ℕ → ℕ → ℕ) (j i : ℕ) → transposed (value (mixed_part X everything M) v) j i ≡ part everything X (rows_at v) j i
  emptied X v j i = at (X i) (M.constant i j) (M.symbol i j) (v i j)
    where
      at : (b : Bool) (x : ℕ) (s : Bool) (y : ℕ) → cond (b && true) x 0 + cond (b && true && s) y 0 ≡ cond (true && b) (x + cond s y 0) 0
      at true x s y = refl
      at false x s y = refl

  pub to_columns : (X : ℕ → Bool) (v : ℕ → ℕ → ℕ) (r : ℕ) → IsRankAt p M v X r → IsRank p (rows_at v) M.columns M.rows X r
  to_columns X v r R = go (rank_exists p prime (rows_at v) M.columns M.rows X)
    where
      emptied-rank : IsRank p (part everything X (rows_at v)) M.columns M.rows everything r
      emptied-rank = rank_of-kernel p M.columns M.rows (transposed (value (mixed_part X everything M) v)) (part everything X (rows_at v)) everything r
          (kernel_of-agree p M.columns M.rows (transposed (value (mixed_part X everything M) v)) (part everything X (rows_at v))
          (λ j i _ _. ap (λ y. y % p) (emptied X v j i)))
          (rank-transposed p prime M.rows M.columns (value (mixed_part X everything M) v) r R)

      go : (s : ℕ) × IsRank p (rows_at v) M.columns M.rows X s → IsRank p (rows_at v) M.columns M.rows X r
      go (s, S) = subst (λ k. IsRank p (rows_at v) M.columns M.rows X k)
          (rank-unique p (part everything X (rows_at v)) M.columns M.rows everything s r
          (part_columns-rank p prime M.columns M.rows (rows_at v) X everything s S) emptied-rank) S

  pub of_columns : (X : ℕ → Bool) (v : ℕ → ℕ → ℕ) (r : ℕ) → IsRank p (rows_at v) M.columns M.rows X r → IsRankAt p M v X r
  of_columns X v r R = go (rank_exists p prime (value (mixed_part X everything M) v) M.rows M.columns everything)
    where
      go : (s : ℕ) × IsRankAt p M v X s → IsRankAt p M v X r
      go (s, S) = subst (λ k. IsRankAt p M v X k)
          (rank-unique p (rows_at v) M.columns M.rows X s r (to_columns X v s S) R) S

  -- ---- independent sets
  abbrev pub Free : (ℕ → Bool) → Type 0
  Free X = (v : ℕ → ℕ → ℕ) × IsIndependent p (rows_at v) M.columns M.rows X

  pub free-within : (X Y : ℕ → Bool) → IsWithin M.rows X Y → Free Y → Free X
  free-within X Y within (v, ind) = (v, independent-within p (rows_at v) M.columns M.rows X Y within ind)

  -- R(X) is the size of a largest independent subset
  pub rank-largest : (X : ℕ → Bool) (r : ℕ) → IsRankOf p M X r → IsLargest M.rows Free X r
  rank-largest X r R = go (to_columns X R.reached.0 r R.reached.1)
    where
      go : IsRank p (rows_at R.reached.0) M.columns M.rows X r → IsLargest M.rows Free X r
      go K = record {
        reached = (K.reached.0, K.reached.1, (R.reached.0, K.reached.2), K.reached.3);
        greatest = λ Y within (v, ind). at v Y within ind (rank_exists p prime (rows_at v) M.columns M.rows X);
      }
        where
          at : (v : ℕ → ℕ → ℕ) (Y : ℕ → Bool) → IsWithin M.rows Y X → IsIndependent p (rows_at v) M.columns M.rows Y →
              (s : ℕ) × IsRank p (rows_at v) M.columns M.rows X s → size_on Y M.rows ≤ r
          at v Y within ind (s, S) = omega (arith, S.greatest Y within ind, R.greatest v s (of_columns X v s S))

  pub rank_exists-of : (X : ℕ → Bool) → (r : ℕ) × IsRankOf p M X r
  rank_exists-of X = mixed-rank_exists p prime (mixed_part X everything M)

  pub rank_unique-of : (X : ℕ → Bool) (r s : ℕ) → IsRankOf p M X r → IsRankOf p M X s → r ≡ s
  rank_unique-of X r s R S = greatest-unique p M.rows M.columns (value (mixed_part X everything M)) r s R S

  pub largest-rank : (X : ℕ → Bool) (r : ℕ) → IsLargest M.rows Free X r → IsRankOf p M X r
  largest-rank X r L = go (rank_exists-of X)
    where
      go : (s : ℕ) × IsRankOf p M X s → IsRankOf p M X r
      go (s, S) = subst (λ k. IsRankOf p M X k) (largest-unique M.rows Free X s r (rank-largest X s S) L) S

  pub free-independent : (X : ℕ → Bool) → Free X → AreIndependent p M X
  free-independent X free = largest-rank X (size_on X M.rows) (record {
    reached = (X, (λ j _ h. h), free, refl);
    greatest = λ Y within _. size_within Y within;
  })
    where
      size_within : (Y : ℕ → Bool) → IsWithin M.rows Y X → size_on Y M.rows ≤ size_on X M.rows
      size_within Y within = size_on-within X Y M.rows within

  pub independent-free : (X : ℕ → Bool) → AreIndependent p M X → Free X
  independent-free X R = go (rank-largest X (size_on X M.rows) R)
    where
      go : IsLargest M.rows Free X (size_on X M.rows) → Free X
      go L = free-within X L.reached.0 (full M.rows L.reached.0 X L.reached.1 L.reached.3) L.reached.2

  free_decided : (X : ℕ → Bool) → Free X ⊎ (Free X → ⊥)
  free_decided X = go (rank_exists-of X)
    where
      go : (r : ℕ) × IsRankOf p M X r → Free X ⊎ (Free X → ⊥)
      go (r, R) = elim (nat_cases r (size_on X M.rows)) [
        | inl q ↦ inl (independent-free X (subst (λ k. IsRankOf p M X k) q R))
        | inr ne ↦ inr (λ free. ne (rank_unique-of X r (size_on X M.rows) R (free-independent X free)))
      ]

  module _ (big : 2 < p) where
    -- the model with rows and columns exchanged
    turned : MixedMatrix
    turned = record { rows = M.columns; columns = M.rows; constant = λ j i. M.constant i j; symbol = λ j i. M.symbol i j }

    -- two independent sets have shared values
    pub shared : (X Y : ℕ → Bool) → Free X → Free Y →
        (u : ℕ → ℕ → ℕ) × IsIndependent p (rows_at u) M.columns M.rows X × IsIndependent p (rows_at u) M.columns M.rows Y
        × ((i j : ℕ) → i < M.rows → j < M.columns → IsOneToThree (u i j))
    unfolding turned
    shared X Y (v, x) (w, y) = go (shared_values p prime big turned X Y (λ j i. v i j) (λ j i. w i j) x y)
      where
        go : (u : ℕ → ℕ → ℕ) × IsIndependent p (value turned u) M.columns M.rows X × IsIndependent p (value turned u) M.columns M.rows Y
            × ((j i : ℕ) → j < M.columns → i < M.rows → IsOneToThree (u j i)) →
            (u : ℕ → ℕ → ℕ) × IsIndependent p (rows_at u) M.columns M.rows X × IsIndependent p (rows_at u) M.columns M.rows Y
            × ((i j : ℕ) → i < M.rows → j < M.columns → IsOneToThree (u i j))
        go (u, a, b, small) = ((λ i j. u j i), a, b, (λ i j il jl. small j i jl il))

    abbrev Joins : (ℕ → Bool) → (ℕ → Bool) → Type 0
    Joins X Y = (y : ℕ) × (y < M.rows) × (Y y ≡ true) × (X y ≡ false) × Free (with_one X y)

    -- at values where both are independent: the rows from k on are combinations of X where they are in Y
    module _ (X Y : ℕ → Bool) (less : size_on X M.rows < size_on Y M.rows) (u : ℕ → ℕ → ℕ)
        (x : IsIndependent p (rows_at u) M.columns M.rows X) (y : IsIndependent p (rows_at u) M.columns M.rows Y) where
      abbrev Combined : ℕ → Type 0
      Combined k = (j : ℕ) → j < M.rows → k ≤ j → Y j ≡ true → IsCombination p (rows_at u) M.columns M.rows X j

      joins_below : (k : ℕ) → k ≤ M.rows → Combined k → Joins X Y
      joins_below zero le combs = absurd (omega
          (arith, less, size_on-combinations p prime (rows_at u) M.columns M.rows X Y (λ j l h. combs j l (omega arith) h) y))
      joins_below (suc k) le combs = at (Y k) refl (X k) refl (λ more. joins_below k (omega arith) more)
        where
          further : (Combined k → Joins X Y) → (Y k ≡ true → IsCombination p (rows_at u) M.columns M.rows X k) → Joins X Y
          further ih comb = ih (λ j l g h. elim (nat_cases j k) [
            | inl q ↦ subst (λ i. IsCombination p (rows_at u) M.columns M.rows X i) (sym q) (comb (subst (λ i. Y i ≡ true) q h))
            | inr ne ↦ combs j l (omega arith) h
          ])

          at : (b : Bool) → Y k ≡ b → (c : Bool) → X k ≡ c → (Combined k → Joins X Y) → Joins X Y
          at false e c f ih = further ih (λ h. absurd (differ e h))
          at true e true f ih = further ih (λ _. combination-member p (rows_at u) M.columns M.rows X k (omega arith) f)
          at true e false f ih = elim (join_or_combination p prime (rows_at u) M.columns M.rows X k (omega arith) f x) [
            | inl ind ↦ (k, omega arith, e, f, (u, ind))
            | inr comb ↦ further ih (λ _. comb)
          ]

      joins : Joins X Y
      joins = joins_below M.rows (omega arith) (λ j l g. absurd (omega arith))

    pub free-exchange : (X Y : ℕ → Bool) → Free X → Free Y → size_on X M.rows < size_on Y M.rows →
        (y : ℕ) × (y < M.rows) × (Y y ≡ true) × (X y ≡ false) × Free (with_one X y)
    free-exchange X Y free other less = go (shared X Y free other)
      where
        go : (u : ℕ → ℕ → ℕ) × IsIndependent p (rows_at u) M.columns M.rows X × IsIndependent p (rows_at u) M.columns M.rows Y
            × ((i j : ℕ) → i < M.rows → j < M.columns → IsOneToThree (u i j)) →
            (y : ℕ) × (y < M.rows) × (Y y ≡ true) × (X y ≡ false) × Free (with_one X y)
        go (u, x, y, _) = joins X Y less u x y

    pub equations : Matroid M.rows Free
    equations = record {
      empty = ((λ _ _. 0), none_independent p (rows_at (λ _ _. 0)) M.columns M.rows);
      within = free-within;
      exchange = free-exchange;
      decided = free_decided;
    }

    -- the ranks of two sets at shared values
    pub shared_ranks : (X Y : ℕ → Bool) (r s : ℕ) → IsRankOf p M X r → IsRankOf p M Y s →
        (v : ℕ → ℕ → ℕ) × IsRankAt p M v X r × IsRankAt p M v Y s × ((i j : ℕ) → i < M.rows → j < M.columns → IsOneToThree (v i j))
    shared_ranks X Y r s R S = go (rank-largest X r R) (rank-largest Y s S)
      where
        -- values that keep a largest independent subset give R
        kept : (v : ℕ → ℕ → ℕ) (Z I : ℕ → Bool) (t : ℕ) → IsRankOf p M Z t → IsWithin M.rows I Z → IsIndependent p (rows_at v) M.columns M.rows I →
            size_on I M.rows ≡ t → IsRankAt p M v Z t
        kept v Z I t T within ind size = at (rank_exists p prime (rows_at v) M.columns M.rows Z)
          where
            at : (k : ℕ) × IsRank p (rows_at v) M.columns M.rows Z k → IsRankAt p M v Z t
            at (k, K) = subst (λ i. IsRankAt p M v Z i)
                (omega (arith, T.greatest v k (of_columns Z v k K), K.greatest I within ind, size)) (of_columns Z v k K)

        go : IsLargest M.rows Free X r → IsLargest M.rows Free Y s →
            (v : ℕ → ℕ → ℕ) × IsRankAt p M v X r × IsRankAt p M v Y s × ((i j : ℕ) → i < M.rows → j < M.columns → IsOneToThree (v i j))
        go A B = at (shared A.reached.0 B.reached.0 A.reached.2 B.reached.2)
          where
            at : (u : ℕ → ℕ → ℕ) × IsIndependent p (rows_at u) M.columns M.rows A.reached.0 × IsIndependent p (rows_at u) M.columns M.rows B.reached.0
                × ((i j : ℕ) → i < M.rows → j < M.columns → IsOneToThree (u i j)) →
                (v : ℕ → ℕ → ℕ) × IsRankAt p M v X r × IsRankAt p M v Y s × ((i j : ℕ) → i < M.rows → j < M.columns → IsOneToThree (v i j))
            at (u, a, b, small) = (
              u,
              kept u X A.reached.0 r R A.reached.1 a A.reached.3,
              kept u Y B.reached.0 s S B.reached.1 b B.reached.3,
              small,
            )
