-- Structural rank: 1 at the places of a matching and 0 elsewhere reach the size of a pair, and no values give more than p(X) + N.
use Rattle.std.proofs.Common.{◌≡◌, ◌+◌, ◌*◌, ◌%◌, ◌<◌, ◌≤◌, ◌≢◌, ◌&&◌, ◌||◌, ◌∙◌, ℕ, Bool, true, false, cond, eqb, inl, inr, refl, ap, sym, arith}
use Rattle.std.proofs.Math.Nat.{zero-mod}
use Rattle.residue_theory.proofs.CountLaws.{size-either, size-outside}
use Rattle.residue_theory.proofs.ResidueLaws.{agree-sum, sum-one, vanishes-mul, vanishes_by}
use Rattle.residue_theory.proofs.SetLaws.{both-first, both-second, both_true, differ, either-first, either-second}
use Rattle.residue_theory.proofs.SetLaws.{either_cases, eqb_from, eqb_true, some_below-holds}
use Rattle.residue_theory.proofs.SumLaws.{sum_on-within}
use Rattle.residue_theory.specs.Residues.{IsPrime}
use Rattle.residue_theory.specs.Sets.{both, either, everything}
use Rattle.residue_theory.specs.Sums.{size_on}
use Rattle.linear_algebra.specs.Columns.{CombinesToZero, IsIndependent, IsRank}
use Rattle.linear_algebra_laws.proofs.Ranks.{independent-within, rank_exists}
use Rattle.linear_algebra_laws.proofs.Stacked.{above-rows, low-zero, top-zero}
use Rattle.mixed_matrices.specs.Arcs.{IsClosedIn}
use Rattle.mixed_matrices.specs.LayeredMatrices.{LayeredMatrix, layered_value}
use Rattle.mixed_matrices.specs.Models.{numbers}
use Rattle.mixed_matrices.specs.Pairs.{IsPair, matching_values, pair_size}
use Rattle.mixed_matrices.specs.SetFunctions.{IsRho, gamma, touches_set}
use Rattle.mixed_matrices.specs.StructuralRanks.{IsGreatestRank, IsLayeredRank}
use Rattle.mixed_matrices.specs.Tableaus.{HasTableau, Tableau}
use Rattle.mixed_pair_laws.proofs.Minimisers.{closed-equal, tableau-pair}

abbrev pick : Bool → ℕ → ℕ
pick b x = cond b x 0

module _ (p : ℕ) (prime : IsPrime p) (L : LayeredMatrix) (I J : ℕ → Bool) (mate : ℕ → ℕ) (pair : IsPair p L I J mate) where
  matched-one : (j : ℕ) → j < L.columns → J j ≡ true → numbers L.t (matching_values J mate) (mate j) j ≡ 1
  matched-one j jl jh = one (L.t (mate j) j) (J j) (eqb (mate j) (mate j)) (pair.matching.symbol j jl jh) jh (eqb_from (mate j) (mate j) refl)
    where
      one : (a b d : Bool) → a ≡ true → b ≡ true → d ≡ true → pick a (pick (b && d) 1) ≡ 1
      one a b d x y z = grind arith

  others-zero : (j k : ℕ) → j < L.columns → k < L.columns → J j ≡ true → k ≢ j → numbers L.t (matching_values J mate) (mate j) k ≡ 0
  others-zero j k jl kl jh ne = none (L.t (mate j) k) (J k) (eqb (mate k) (mate j))
      (λ b e. ne (pair.matching.distinct k j kl jl b jh (eqb_true (mate k) (mate j) e)))
    where
      none : (a b d : Bool) → (b ≡ true → d ≡ true → ⊥) → pick a (pick (b && d) 1) ≡ 0
      none true true true h = absurd (h refl refl)
      none true true false h = refl
      none true false d h = refl
      none false b d h = refl

  -- the columns of the pair are independent at these values
  pub pair-independent : IsIndependent p (layered_value L (matching_values J mate)) (L.q_rows + L.t_rows) L.columns (either I J)
  pair-independent c z j jl jh = elim (either_cases (I j) (J j) jh) [ inl b ↦ pair.independent c in_q j jl b | inr m ↦ matched j jl m ]
    where
      matched : (k : ℕ) → k < L.columns → J k ≡ true → c k % p ≡ 0
      matched k kl kh =
          ap (λ s. s % p) (let e : c k ≡ c k * 1 = omega arith in e)
          ∙ ap (λ s. c k * s % p) (sym (matched-one k kl kh))
          ∙ sym (sum-one p (either I J) L.columns k (λ x. c x * numbers L.t (matching_values J mate) (mate k) x) kl (either-second (I k) (J k) kh)
          (λ x xl _ ne. vanishes-mul p (c x) (numbers L.t (matching_values J mate) (mate k) x) (ap (λ s. s % p) (others-zero k x kl xl kh ne) ∙ zero-mod p)))
          ∙ low-zero p L.q_rows L.t_rows L.columns L.q (numbers L.t (matching_values J mate)) (either I J) c z (mate k) (pair.matching.below k kl kh)

      in_q : CombinesToZero p L.q L.q_rows L.columns I c
      in_q i il = ap (λ s. s % p) (sym (sum_on-within (either I J) I L.columns (λ x. c x * L.q i x) (λ x _ h. either-first (I x) (J x) h)))
          ∙ sym (agree-sum p (either I J) L.columns (λ x. c x * L.q i x) (λ x. cond (I x) (c x * L.q i x) 0) (λ x xl xh. go x xl xh (I x) refl))
          ∙ top-zero p L.q_rows L.t_rows L.columns L.q (numbers L.t (matching_values J mate)) (either I J) c z i il
        where
          go : (x : ℕ) → x < L.columns → either I J x ≡ true → (b : Bool) → I x ≡ b → (c x * L.q i x) % p ≡ cond b (c x * L.q i x) 0 % p
          go x xl xh true e = refl
          go x xl xh false e = vanishes_by p _ (L.q i x * c x) (omega arith)
              (vanishes-mul p (L.q i x) (c x) (matched x xl (right (I x) (J x) xh e))) ∙ sym (zero-mod p)
            where
              right : (a b : Bool) → a || b ≡ true → a ≡ false → b ≡ true
              right a b h k = grind arith

  -- so their rank is at least the pair's size
  pub pair-reached : (s : ℕ) → IsRank p (layered_value L (matching_values J mate)) (L.q_rows + L.t_rows) L.columns everything s → pair_size L I J ≤ s
  pair-reached s R = omega (arith, size-either I J L.columns pair.apart, R.greatest (either I J) (λ _ _ _. refl) pair-independent)

-- columns that are independent at some values are at most p(X) + N
pub rank-bound : (p : ℕ) → IsPrime p → (L : LayeredMatrix) (X : ℕ → Bool) (r : ℕ) → IsRho p L X r → (w : ℕ → ℕ → ℕ) (C : ℕ → Bool) →
    IsIndependent p (layered_value L w) (L.q_rows + L.t_rows) L.columns C → size_on C L.columns + size_on X L.columns ≤ r + gamma L X + L.columns
rank-bound p prime L X r R w C ind = omega (
  arith,
  size-outside C X L.columns,
  above-rows p prime L.q_rows L.t_rows L.columns L.q (numbers L.t w) (touches_set L X) X (both C X) r zeros (λ j l h. both-second (C j) (X j) h)
      (independent-within p (layered_value L w) (L.q_rows + L.t_rows) L.columns (both C X) C (λ j l h. both-first (C j) (X j) h) ind) R,
)
  where
    zeros : (i j : ℕ) → i < L.t_rows → j < L.columns → touches_set L X i ≡ false → X j ≡ true → numbers L.t w i j % p ≡ 0
    zeros i j il jl e jh = at (L.t i j) refl
      where
        at : (b : Bool) → L.t i j ≡ b → cond b (w i j) 0 % p ≡ 0
        at false _ = zero-mod p
        at true s = absurd (differ e (some_below-holds L.columns (both X (L.t i)) j jl (both_true (X j) (L.t i j) jh s)))

-- where a pair reaches the bound at X, its size is the structural rank
pub reached-rank : (p : ℕ) → IsPrime p → (L : LayeredMatrix) (I J : ℕ → Bool) (mate : ℕ → ℕ) (X : ℕ → Bool) (r : ℕ) → IsPair p L I J mate → IsRho p L X r →
    pair_size L I J + size_on X L.columns ≡ r + gamma L X + L.columns → IsLayeredRank p L (pair_size L I J)
reached-rank p prime L I J mate X r pair R e = record {
  reached = (
    matching_values J mate,
    record {
      reached = (either I J, (λ _ _ _. refl), pair-independent p prime L I J mate pair, size-either I J L.columns pair.apart);
      greatest = λ Y _ ind. omega (arith, e, rank-bound p prime L X r R (matching_values J mate) Y ind);
    },
  );
  greatest = λ w s K. omega (arith, e, K.reached.3, rank-bound p prime L X r R w K.reached.0 K.reached.2);
}

-- there is only one
pub greatest-unique : (p m n : ℕ) (at : (ℕ → ℕ → ℕ) → ℕ → ℕ → ℕ) (r s : ℕ) → IsGreatestRank p m n at r → IsGreatestRank p m n at s → r ≡ s
greatest-unique p m n at r s R S = omega (arith, R.greatest S.reached.0 s S.reached.1, S.greatest R.reached.0 r R.reached.1)

-- with a tableau and a closed set
pub closed-rank : (p : ℕ) → IsPrime p → (L : LayeredMatrix) (F : Tableau) → HasTableau p L F → (X : ℕ → Bool) →
    IsClosedIn p L F X → IsLayeredRank p L (pair_size L F.base F.matched)
closed-rank p prime L F tab X C = go (rank_exists p prime L.q L.q_rows L.columns X)
  where
    go : (r : ℕ) × IsRho p L X r → IsLayeredRank p L (pair_size L F.base F.matched)
    go (r, R) = reached-rank p prime L F.base F.matched F.mate X r (tableau-pair p prime L F tab) R (closed-equal p prime L F tab X r R C)
