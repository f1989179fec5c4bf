-- A layered matrix with one symbol of T dropped: its touched rows, its pairs, and that it has fewer symbols.
use Rattle.std.proofs.Common.{◌≡◌, ◌+◌, ◌<◌, ◌≤◌, ◌≢◌, ◌&&◌, ◌||◌, ◌⊎◌, ℕ, zero, suc, Bool, true, false, cond, not, eqb, inl, inr, refl, sym, subst, arith}
use Rattle.std.proofs.lemmas.Bool.Decides.{nat_tests}
use Rattle.residue_theory.proofs.SetLaws.{both-first, both-second, both_true, differ, some_below-found, some_below-holds}
use Rattle.residue_theory.proofs.SumLaws.{member-without, nat_cases, size_on-within, sum_on-ext, sum_on-same, sum_on-without, without-member}
use Rattle.residue_theory.specs.Sets.{both, either, everything, without}
use Rattle.residue_theory.specs.Sums.{size_on, sum_below}
use Rattle.mixed_matrices.specs.LayeredMatrices.{LayeredMatrix}
use Rattle.mixed_matrices.specs.Pairs.{IsPair}
use Rattle.mixed_matrices.specs.SetFunctions.{gamma, touches_set}

-- L without the symbol at row i and column a of T
abbrev pub dropped : LayeredMatrix → ℕ → ℕ → LayeredMatrix
dropped L i a = record {
  q_rows = L.q_rows;
  t_rows = L.t_rows;
  columns = L.columns;
  q = L.q;
  t = λ k j. L.t k j && not (eqb k i && eqb j a);
}

abbrev pub symbols : LayeredMatrix → ℕ
symbols L = sum_below L.t_rows (λ i. size_on (L.t i) L.columns)

-- ---- counting
pub size-union : (A B : ℕ → Bool) (n : ℕ) → size_on (either A B) n + size_on (both A B) n ≡ size_on A n + size_on B n
size-union A B zero = refl
size-union A B (suc n) = omega (arith, size-union A B n, one (A n) (B n) 1)
  where
    one : (a b : Bool) (x : ℕ) → cond (a || b) x 0 + cond (a && b) x 0 ≡ cond a x 0 + cond b x 0
    one true true x = refl
    one true false x = refl
    one false true x = omega arith
    one false false x = refl

pub size-complement : (A : ℕ → Bool) (n : ℕ) → size_on A n + size_on (λ j. not (A j)) n ≡ n
size-complement A zero = refl
size-complement A (suc n) = omega (arith, size-complement A n, one (A n))
  where
    one : (a : Bool) → cond a 1 0 + cond (not a) 1 0 ≡ suc zero
    one true = refl
    one false = refl

module _ (L : LayeredMatrix) (i a : ℕ) where
  pub drop-part : (k j : ℕ) → (dropped L i a).t k j ≡ true → L.t k j ≡ true
  drop-part k j h = both-first (L.t k j) (not (eqb k i && eqb j a)) h

  pub drop-keeps : (k j : ℕ) → L.t k j ≡ true → (k ≢ i) ⊎ (j ≢ a) → (dropped L i a).t k j ≡ true
  drop-keeps k j h (inl ne) = first (L.t k j) h
    where
      first : (s : Bool) → s ≡ true → s && not (eqb k i && eqb j a) ≡ true
      first s e = grind (arith, nat_tests)
  drop-keeps k j h (inr ne) = first (L.t k j) h
    where
      first : (s : Bool) → s ≡ true → s && not (eqb k i && eqb j a) ≡ true
      first s e = grind (arith, nat_tests)

  pub touches-part : (X : ℕ → Bool) (k : ℕ) → touches_set (dropped L i a) X k ≡ true → touches_set L X k ≡ true
  touches-part X k h = let f : (j : ℕ) × (j < L.columns) × (both X ((dropped L i a).t k) j ≡ true) =
      some_below-found L.columns (both X ((dropped L i a).t k)) h in
      some_below-holds L.columns (both X (L.t k)) f.0 f.1
      (both_true (X f.0) (L.t k f.0) (both-first (X f.0) ((dropped L i a).t k f.0) f.2) (drop-part k f.0 (both-second (X f.0) ((dropped L i a).t k f.0) f.2)))

  pub touches-other : (X : ℕ → Bool) (k : ℕ) → k ≢ i → touches_set L X k ≡ true → touches_set (dropped L i a) X k ≡ true
  touches-other X k ne h = let f : (j : ℕ) × (j < L.columns) × (both X (L.t k) j ≡ true) = some_below-found L.columns (both X (L.t k)) h in
      some_below-holds L.columns (both X ((dropped L i a).t k)) f.0 f.1
      (both_true (X f.0) ((dropped L i a).t k f.0) (both-first (X f.0) (L.t k f.0) f.2) (drop-keeps k f.0 (both-second (X f.0) (L.t k f.0) f.2) (inl ne)))

  -- at most the row i is touched no longer
  pub gamma-drop : (X : ℕ → Bool) → i < L.t_rows → gamma L X ≤ gamma (dropped L i a) X + 1
  gamma-drop X il = go (touches_set L X i) refl
    where
      others : size_on (without (touches_set L X) i) L.t_rows ≤ gamma (dropped L i a) X
      others = size_on-within (touches_set (dropped L i a) X) (without (touches_set L X) i) L.t_rows
          (λ k kl h. let w : (touches_set L X k ≡ true) × (k ≢ i) = without-member (touches_set L X) i k h in touches-other X k w.1 w.0)

      go : (b : Bool) → touches_set L X i ≡ b → gamma L X ≤ gamma (dropped L i a) X + 1
      go true e = omega (arith, sum_on-without (touches_set L X) L.t_rows i (λ _. 1) il e, others)
      go false e = omega (
        arith,
        size_on-within (touches_set (dropped L i a) X) (touches_set L X) L.t_rows
            (λ k kl h. touches-other X k (λ q. differ (subst (λ x. touches_set L X x ≡ false) (sym q) e) h) h),
      )

  -- where row i is touched with and without the symbol, or with neither, gamma is the same
  pub gamma-same : (X : ℕ → Bool) → (touches_set L X i ≡ true → touches_set (dropped L i a) X i ≡ true) → gamma L X ≡ gamma (dropped L i a) X
  gamma-same X keeps = omega (
    arith,
    size_on-within (touches_set L X) (touches_set (dropped L i a) X) L.t_rows (λ k _ h. touches-part X k h),
    size_on-within (touches_set (dropped L i a) X) (touches_set L X) L.t_rows (λ k _ h. elim (nat_cases k i) [
      | inl q ↦ subst (λ x. touches_set (dropped L i a) X x ≡ true) (sym q) (keeps (subst (λ x. touches_set L X x ≡ true) q h))
      | inr ne ↦ touches-other X k ne h
    ]),
  )

  -- a pair without the symbol is one with it
  pub drop-pair : (p : ℕ) (I J : ℕ → Bool) (mate : ℕ → ℕ) → IsPair p (dropped L i a) I J mate → IsPair p L I J mate
  drop-pair p I J mate pair = record {
    independent = pair.independent;
    matching = record {
      below = pair.matching.below;
      symbol =
          λ j jl jh. drop-part (mate j) j (pair.matching.symbol j jl jh);
      distinct = pair.matching.distinct;
    };
    apart = pair.apart;
  }

  pub drop-fewer : i < L.t_rows → a < L.columns → L.t i a ≡ true → symbols (dropped L i a) < symbols L
  drop-fewer il al s = omega (
    arith,
    sum_on-without everything L.t_rows i (λ k. size_on (L.t k) L.columns) il refl,
    sum_on-without everything L.t_rows i (λ k. size_on ((dropped L i a).t k) L.columns) il refl,
    sum_on-ext (without everything i) L.t_rows (λ k. size_on ((dropped L i a).t k) L.columns) (λ k. size_on (L.t k) L.columns)
        (λ k _ h. sum_on-same ((dropped L i a).t k) (L.t k) L.columns (λ _. 1) (λ j _. other k j (without-member everything i k h).1)),
    sum_on-without (L.t i) L.columns a (λ _. 1) al s,
    size_on-within (without (L.t i) a) ((dropped L i a).t i) L.columns (λ j _ h. member-without (L.t i) a j (drop-part i j h) (λ q. gone j h q)),
  )
    where
      other : (k j : ℕ) → k ≢ i → (dropped L i a).t k j ≡ L.t k j
      other k j ne = plain (L.t k j)
        where
          plain : (t : Bool) → t && not (eqb k i && eqb j a) ≡ t
          plain t = grind (arith, nat_tests)

      gone : (j : ℕ) → (dropped L i a).t i j ≡ true → j ≡ a → ⊥
      gone j h q = bad (L.t i j) h
        where
          bad : (t : Bool) → t && not (eqb i i && eqb j a) ≡ true → ⊥
          bad t h = grind (arith, nat_tests)
