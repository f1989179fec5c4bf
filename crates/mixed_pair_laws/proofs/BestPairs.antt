-- Each layered matrix has a pair and a column set at which the bound is reached; so it has a structural rank, and p a minimum.
-- By Rado's way: of a row with two symbols one may go, by submodularity; with one symbol a row it is plain.
use Rattle.std.proofs.Common.{◌≡◌, ◌+◌, ◌-◌, ◌<◌, ◌≤◌, ◌≢◌, ◌&&◌, ◌⊎◌, ◌∙◌, ℕ, zero, suc, Bool, true, false, not, eqb, inl, inr, refl, sym, subst, arith}
use Rattle.std.proofs.lemmas.Bool.Decides.{nat_tests}
use Rattle.residue_theory.proofs.CountLaws.{size-zero}
use Rattle.residue_theory.proofs.SetLaws.{both-first, both-second, both_true, choice, differ, either-first, either-second}
use Rattle.residue_theory.proofs.SetLaws.{either_cases, first_on, some_below-found, some_below-holds}
use Rattle.residue_theory.proofs.SumLaws.{member-without, nat_cases, size_on-within, sum_on-without}
use Rattle.residue_theory.specs.Residues.{IsPrime}
use Rattle.residue_theory.specs.Sets.{both, either, some_below, without}
use Rattle.residue_theory.specs.Sums.{size_on}
use Rattle.linear_algebra_laws.proofs.RankLaws.{rank-submodular}
use Rattle.linear_algebra_laws.proofs.Ranks.{rank_exists}
use Rattle.mixed_matrices.specs.LayeredMatrices.{LayeredMatrix}
use Rattle.mixed_matrices.specs.Pairs.{IsPair, pair_size}
use Rattle.mixed_matrices.specs.SetFunctions.{IsRho, gamma, touches_set}
use Rattle.mixed_matrices.specs.StructuralRanks.{IsLayeredRank}
use Rattle.mixed_pair_laws.proofs.DroppedSymbols.{drop-fewer, drop-keeps, drop-pair, dropped, gamma-drop, gamma-same, size-complement, size-union, symbols}
use Rattle.mixed_pair_laws.proofs.PairBounds.{bound}
use Rattle.mixed_pair_laws.proofs.PairRank.{reached-rank}

-- a pair, and a column set at which it reaches the bound
pub record Optimal (p : ℕ) (L : LayeredMatrix) : Type 0 where
  pub I : ℕ → Bool
  pub J : ℕ → Bool
  pub mate : ℕ → ℕ
  pub X : ℕ → Bool
  pub r : ℕ
  pub pair : IsPair p L I J mate
  pub rank : IsRho p L X r
  pub equal : pair_size L I J + size_on X L.columns ≡ r + gamma L X + L.columns

one_meets : (u v s t : ℕ) → s ≤ u → t ≤ u → s ≤ v → t ≤ v → u + v ≤ s + t + 1 → (s ≡ u) ⊎ ((s ≡ v) ⊎ ((t ≡ u) ⊎ (t ≡ v)))
one_meets u v s t a b c d e = grind arith

module _ (p : ℕ) (prime : IsPrime p) (L : LayeredMatrix) where
  -- the same pair and set serve L
  kept : (i a : ℕ) → (O : Optimal p (dropped L i a)) → gamma L O.X ≡ gamma (dropped L i a) O.X → Optimal p L
  kept i a O e = record {
    I = O.I;
    J = O.J;
    mate = O.mate;
    X = O.X;
    r = O.r;
    pair =
        drop-pair L i a p O.I O.J O.mate O.pair;
    rank = O.rank;
    equal = omega (arith, O.equal, e);
  }

  -- both sets touch the row only by the symbol that was dropped
  combined : (i a b : ℕ) → i < L.t_rows → a ≢ b → (A : Optimal p (dropped L i a)) (B : Optimal p (dropped L i b)) →
      touches_set L A.X i ≡ true → touches_set (dropped L i a) A.X i ≡ false →
      touches_set L B.X i ≡ true → touches_set (dropped L i b) B.X i ≡ false → Optimal p L
  combined i a b il ne A B at an bt bn = go (rank_exists p prime L.q L.q_rows L.columns (either A.X B.X))
      (rank_exists p prime L.q L.q_rows L.columns (both A.X B.X))
    where
      only : (c : ℕ) (X : ℕ → Bool) → touches_set (dropped L i c) X i ≡ false → (j : ℕ) → j < L.columns → X j ≡ true → L.t i j ≡ true → j ≡ c
      only c X none j jl jh s = elim (nat_cases j c) [
        | inl q ↦ q
        | inr o ↦ absurd (differ none
            (some_below-holds L.columns (both X ((dropped L i c).t i)) j jl
            (both_true (X j) ((dropped L i c).t i j) jh (drop-keeps L i c i j s (inr o)))))
      ]

      common_free : touches_set L (both A.X B.X) i ≡ true → ⊥
      common_free h = let f : (j : ℕ) × (j < L.columns) × (both (both A.X B.X) (L.t i) j ≡ true) = some_below-found L.columns (both (both A.X B.X) (L.t i)) h in
          let inside : A.X f.0 && B.X f.0 ≡ true = both-first (both A.X B.X f.0) (L.t i f.0) f.2 in
          let s : L.t i f.0 ≡ true = both-second (both A.X B.X f.0) (L.t i f.0) f.2 in
          ne (sym (only a A.X an f.0 f.1 (both-first (A.X f.0) (B.X f.0) inside) s) ∙ only b B.X bn f.0 f.1 (both-second (A.X f.0) (B.X f.0) inside) s)

      union-count : gamma L (either A.X B.X) ≤ size_on (either (touches_set L A.X) (touches_set L B.X)) L.t_rows
      union-count = size_on-within (either (touches_set L A.X) (touches_set L B.X)) (touches_set L (either A.X B.X)) L.t_rows (λ k kl h.
          let f : (j : ℕ) × (j < L.columns) × (both (either A.X B.X) (L.t k) j ≡ true) = some_below-found L.columns (both (either A.X B.X) (L.t k)) h in
          elim (either_cases (A.X f.0) (B.X f.0) (both-first (either A.X B.X f.0) (L.t k f.0) f.2)) [
            | inl x ↦ either-first (touches_set L A.X k) (touches_set L B.X k)
                (some_below-holds L.columns (both A.X (L.t k)) f.0 f.1 (both_true (A.X f.0) (L.t k f.0) x (both-second (either A.X B.X f.0) (L.t k f.0) f.2)))
            | inr x ↦ either-second (touches_set L A.X k) (touches_set L B.X k)
                (some_below-holds L.columns (both B.X (L.t k)) f.0 f.1 (both_true (B.X f.0) (L.t k f.0) x (both-second (either A.X B.X f.0) (L.t k f.0) f.2)))
          ])

      common-count : gamma L (both A.X B.X) ≤ size_on (without (both (touches_set L A.X) (touches_set L B.X)) i) L.t_rows
      common-count = size_on-within (without (both (touches_set L A.X) (touches_set L B.X)) i) (touches_set L (both A.X B.X)) L.t_rows (λ k kl h.
          let f : (j : ℕ) × (j < L.columns) × (both (both A.X B.X) (L.t k) j ≡ true) = some_below-found L.columns (both (both A.X B.X) (L.t k)) h in
          let inside : A.X f.0 && B.X f.0 ≡ true = both-first (both A.X B.X f.0) (L.t k f.0) f.2 in
          let s : L.t k f.0 ≡ true = both-second (both A.X B.X f.0) (L.t k f.0) f.2 in
          member-without (both (touches_set L A.X) (touches_set L B.X)) i k
          (both_true (touches_set L A.X k) (touches_set L B.X k)
          (some_below-holds L.columns (both A.X (L.t k)) f.0 f.1 (both_true (A.X f.0) (L.t k f.0) (both-first (A.X f.0) (B.X f.0) inside) s))
          (some_below-holds L.columns (both B.X (L.t k)) f.0 f.1 (both_true (B.X f.0) (L.t k f.0) (both-second (A.X f.0) (B.X f.0) inside) s)))
          (λ q. common_free (subst (λ x. touches_set L (both A.X B.X) x ≡ true) q h)))

      PA : IsPair p L A.I A.J A.mate
      PA = drop-pair L i a p A.I A.J A.mate A.pair

      PB : IsPair p L B.I B.J B.mate
      PB = drop-pair L i b p B.I B.J B.mate B.pair

      go : (u : ℕ) × IsRho p L (either A.X B.X) u → (v : ℕ) × IsRho p L (both A.X B.X) v → Optimal p L
      go (u, RU) (v, RV) = elim (one_meets
          (u + gamma L (either A.X B.X) + L.columns - size_on (either A.X B.X) L.columns)
          (v + gamma L (both A.X B.X) + L.columns - size_on (both A.X B.X) L.columns)
          (pair_size L A.I A.J)
          (pair_size L B.I B.J)
          (omega (arith, ba1)) (omega (arith, bb1)) (omega (arith, ba2)) (omega (arith, bb2))
          (omega (
            arith,
            ba1,
            ba2,
            union-count,
            common-count,
            size-union (touches_set L A.X) (touches_set L B.X) L.t_rows,
            sum_on-without (both (touches_set L A.X) (touches_set L B.X)) L.t_rows i (λ _. 1) il (both_true (touches_set L A.X i) (touches_set L B.X i) at bt),
            rank-submodular p prime L.q L.q_rows L.columns A.X B.X A.r B.r u v A.rank B.rank RU RV,
            size-union A.X B.X L.columns,
            gamma-drop L i a A.X il,
            gamma-drop L i b B.X il,
            A.equal,
            B.equal,
          ))) [
            | inl e ↦ record { I = A.I; J = A.J; mate = A.mate; X = either A.X B.X; r = u; pair = PA; rank = RU; equal = omega (arith, e, ba1) }
            | inr o ↦ elim o [
              | inl e ↦ record { I = A.I; J = A.J; mate = A.mate; X = both A.X B.X; r = v; pair = PA; rank = RV; equal = omega (arith, e, ba2) }
              | inr w ↦ elim w [
                | inl e ↦ record { I = B.I; J = B.J; mate = B.mate; X = either A.X B.X; r = u; pair = PB; rank = RU; equal = omega (arith, e, bb1) }
                | inr e ↦ record { I = B.I; J = B.J; mate = B.mate; X = both A.X B.X; r = v; pair = PB; rank = RV; equal = omega (arith, e, bb2) }
              ]
            ]
          ]
        where
          ba1 : pair_size L A.I A.J + size_on (either A.X B.X) L.columns ≤ u + gamma L (either A.X B.X) + L.columns
          ba1 = bound p L A.I A.J A.mate (either A.X B.X) u PA RU

          ba2 : pair_size L A.I A.J + size_on (both A.X B.X) L.columns ≤ v + gamma L (both A.X B.X) + L.columns
          ba2 = bound p L A.I A.J A.mate (both A.X B.X) v PA RV

          bb1 : pair_size L B.I B.J + size_on (either A.X B.X) L.columns ≤ u + gamma L (either A.X B.X) + L.columns
          bb1 = bound p L B.I B.J B.mate (either A.X B.X) u PB RU

          bb2 : pair_size L B.I B.J + size_on (both A.X B.X) L.columns ≤ v + gamma L (both A.X B.X) + L.columns
          bb2 = bound p L B.I B.J B.mate (both A.X B.X) v PB RV

  -- a row with two symbols
  smaller : (i a b : ℕ) → i < L.t_rows → a ≢ b → Optimal p (dropped L i a) → Optimal p (dropped L i b) → Optimal p L
  smaller i a b il ne A B = go (touches_set L A.X i) refl (touches_set (dropped L i a) A.X i) refl (touches_set L B.X i) refl
      (touches_set (dropped L i b) B.X i) refl
    where
      go : (s : Bool) → touches_set L A.X i ≡ s → (t : Bool) → touches_set (dropped L i a) A.X i ≡ t →
          (u : Bool) → touches_set L B.X i ≡ u → (v : Bool) → touches_set (dropped L i b) B.X i ≡ v → Optimal p L
      go false e t f u g v h = kept i a A (gamma-same L i a A.X (λ x. absurd (differ e x)))
      go true e true f u g v h = kept i a A (gamma-same L i a A.X (λ _. f))
      go true e false f false g v h = kept i b B (gamma-same L i b B.X (λ x. absurd (differ g x)))
      go true e false f true g true h = kept i b B (gamma-same L i b B.X (λ _. h))
      go true e false f true g false h = combined i a b il ne A B e f g h

  -- at most one symbol in each row
  module _ (single : (i j k : ℕ) → i < L.t_rows → j < L.columns → k < L.columns → L.t i j ≡ true → L.t i k ≡ true → j ≡ k) where
    J : ℕ → Bool
    J j = some_below L.t_rows (λ i. L.t i j)

    plain : Optimal p L
    unfolding J
    plain = go (choice L.columns J (λ j c. (c 0 < L.t_rows) × (L.t (c 0) j ≡ true))
        (λ j jl jh. let f : (i : ℕ) × (i < L.t_rows) × (L.t i j ≡ true) = some_below-found L.t_rows (λ i. L.t i j) jh in ((λ _. f.0), (f.1, f.2))))
        (rank_exists p prime L.q L.q_rows L.columns (λ j. not (J j)))
      where
        no_both : (b : Bool) → not b ≡ true → b ≡ false
        no_both b h = grind arith

        go : (f : ℕ → ℕ → ℕ) × ((j : ℕ) → j < L.columns → J j ≡ true → (f j 0 < L.t_rows) × (L.t (f j 0) j ≡ true)) →
            (r : ℕ) × IsRho p L (λ j. not (J j)) r → Optimal p L
        go (f, ok) (r, R) = record {
          I = R.reached.0;
          J = J;
          mate = λ j. f j 0;
          X = λ j. not (J j);
          r = r;
          pair = record {
            independent = R.reached.2;
            matching = record {
              below = λ j jl jh. (ok j jl jh).0;
              symbol = λ j jl jh. (ok j jl jh).1;
              distinct = λ j k jl kl jh kh e. single (f j 0) j k (ok j jl jh).0 jl kl (ok j jl jh).1 (subst (λ i. L.t i k ≡ true) (sym e) (ok k kl kh).1);
            };
            apart = λ j jl jh. no_both (J j) (R.reached.1 j jl jh);
          };
          rank = R;
          equal = omega (arith, R.reached.3, size-complement J L.columns, untouched);
        }
          where
            untouched : gamma L (λ j. not (J j)) ≡ 0
            untouched = size-zero (touches_set L (λ j. not (J j))) L.t_rows (λ i il. none (touches_set L (λ j. not (J j)) i) (λ h.
                let w : (j : ℕ) × (j < L.columns) × (both (λ j. not (J j)) (L.t i) j ≡ true) = some_below-found L.columns (both (λ j. not (J j)) (L.t i)) h in
                differ (no_both (J w.0) (both-first (not (J w.0)) (L.t i w.0) w.2))
                (some_below-holds L.t_rows (λ k. L.t k w.0) i il (both-second (not (J w.0)) (L.t i w.0) w.2))))
              where
                none : (b : Bool) → (b ≡ true → ⊥) → b ≡ false
                none true h = absurd (h refl)
                none false h = refl

-- two symbols in one row, or none
two_symbols : (L : LayeredMatrix) →
    ((i : ℕ) × (i < L.t_rows)
    × ((a : ℕ) × (b : ℕ) × (a < L.columns) × (b < L.columns) × (L.t i a ≡ true) × (L.t i b ≡ true) × (a ≢ b))) ⊎
    ((i j k : ℕ) → i < L.t_rows → j < L.columns → k < L.columns → L.t i j ≡ true → L.t i k ≡ true → j ≡ k)
two_symbols L = elim (first_on (λ i. some_below L.columns (λ a. L.t i a && some_below L.columns (λ b. L.t i b && not (eqb a b)))) L.t_rows) [
  | inl f ↦ let g : (a : ℕ) × (a < L.columns) × (L.t f.0 a && some_below L.columns (λ b. L.t f.0 b && not (eqb a b)) ≡ true) = some_below-found L.columns
      (λ a. L.t f.0 a && some_below L.columns (λ b. L.t f.0 b && not (eqb a b))) f.2 in
      let h : (b : ℕ) × (b < L.columns) × (L.t f.0 b && not (eqb g.0 b) ≡ true) = some_below-found L.columns (λ b. L.t f.0 b && not (eqb g.0 b))
      (both-second (L.t f.0 g.0) (some_below L.columns (λ b. L.t f.0 b && not (eqb g.0 b))) g.2) in
      inl (
        f.0,
        f.1,
        (
          g.0,
          h.0,
          g.1,
          h.1,
          both-first (L.t f.0 g.0) (some_below L.columns (λ b. L.t f.0 b && not (eqb g.0 b))) g.2,
          both-first (L.t f.0 h.0)
              (not (eqb g.0 h.0)) h.2,
          unequal g.0 h.0 (both-second (L.t f.0 h.0) (not (eqb g.0 h.0)) h.2),
        ),
      )
  | inr none ↦ inr (λ i j k il jl kl s t. elim (nat_cases j k) [
    | inl q ↦ q
    | inr ne ↦ absurd (differ (none i il) (some_below-holds L.columns (λ a. L.t i a && some_below L.columns (λ b. L.t i b && not (eqb a b))) j jl
        (both_true (L.t i j) (some_below L.columns (λ b. L.t i b && not (eqb j b))) s
        (some_below-holds L.columns (λ b. L.t i b && not (eqb j b)) k kl (both_true (L.t i k) (not (eqb j k)) t (apart j k ne))))))
  ])
]
  where
    unequal : (a b : ℕ) → not (eqb a b) ≡ true → a ≢ b
    unequal a b h = grind (arith, nat_tests)

    apart : (a b : ℕ) → a ≢ b → not (eqb a b) ≡ true
    apart a b ne = grind (arith, nat_tests)

optimal_by : (p : ℕ) → IsPrime p → (fuel : ℕ) (L : LayeredMatrix) → symbols L ≤ fuel → Optimal p L
optimal_by p prime zero L le = elim (two_symbols L) [
  | inl f ↦ absurd (omega (arith, drop-fewer L f.0 f.2.0 f.1 f.2.2 f.2.4))
  | inr single ↦ plain p prime L single
]
optimal_by p prime (suc fuel) L le = elim (two_symbols L) [
  | inl f ↦ smaller p prime L f.0 f.2.0 f.2.1 f.1 f.2.6
      (optimal_by p prime fuel (dropped L f.0 f.2.0) (omega (arith, drop-fewer L f.0 f.2.0 f.1 f.2.2 f.2.4)))
      (optimal_by p prime fuel (dropped L f.0 f.2.1) (omega (arith, drop-fewer L f.0 f.2.1 f.1 f.2.3 f.2.5)))
  | inr single ↦ plain p prime L single
]

pub optimal : (p : ℕ) → IsPrime p → (L : LayeredMatrix) → Optimal p L
optimal p prime L = optimal_by p prime (symbols L) L (omega arith)

-- its size is the structural rank
pub optimal-rank : (p : ℕ) → IsPrime p → (L : LayeredMatrix) → (O : Optimal p L) → IsLayeredRank p L (pair_size L O.I O.J)
optimal-rank p prime L O = reached-rank p prime L O.I O.J O.mate O.X O.r O.pair O.rank O.equal

pub layered-rank_exists : (p : ℕ) → IsPrime p → (L : LayeredMatrix) → (r : ℕ) × IsLayeredRank p L r
layered-rank_exists p prime L = let O : Optimal p L = optimal p prime L in (pair_size L O.I O.J, optimal-rank p prime L O)
