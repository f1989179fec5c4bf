-- The equations that are kept by falling cost: they are one list, and all of them where none is surplus.
use Rattle.std.proofs.Common.{◌≡◌, ℕ, ◌<◌, ◌≤◌, Bool, true, false, ltb, length, get_or, refl, ap, sym, subst, ◌∙◌, arith}
use Rattle.residue_theory.specs.Residues.{IsPrime}
use Rattle.residue_theory.specs.Sets.{IsWithin, everything, has, with_one, without}
use Rattle.residue_theory.specs.Sums.{size_on}
use Rattle.residue_theory.proofs.CountLaws.{size-everything}
use Rattle.residue_theory.proofs.SetLaws.{differ}
use Rattle.residue_theory.proofs.SumLaws.{member-without, size_on-within, sum_on-same}
use Rattle.mixed_matrices.specs.Models.{MixedMatrix, value}
use Rattle.mixed_matrices.specs.Removals.{IsSurplus, mixed_part}
use Rattle.mixed_pair_laws.proofs.PairRank.{greatest-unique}
use Rattle.mixed_model.specs.Models.{mixed_matrix_of}
use Rattle.certificate_laws.proofs.RisingLists.{members-counted, same-lists}
use Rattle.equation_matroid_laws.specs.Conflicts.{IsSurplusAmong}
use Rattle.equation_matroid_laws.specs.EquationRanks.{AreIndependent, IsRankOf}
use Rattle.equation_matroid_laws.specs.GreedyChoices.{by_cost, earlier}
use Rattle.equation_matroid_laws.proofs.Matroids.{IsLargest, full, largest-unique, largest_of-free, size-shrunk}
use Rattle.equation_matroid_laws.proofs.Repairs.{kept-independent, kept-rank}
use Rattle.equation_matroid_laws.proofs.RowRanks.{Free, free-within, independent-free, largest-rank, rank-largest}
use Rattle.equation_matroid_laws.proofs.WholeModels.{among-surplus, surplus-among}
use Rattle.cheapest_repairs.specs.Laws.{AllAreKeptWhereNoneIsSurplus, KeptEquationsAreOne}

-- what a greedy choice says of an equation
abbrev Told : ℕ → MixedMatrix → (ℕ → ℕ → Bool) → ℕ → Bool → Type 0
Told p M before e b = (r s : ℕ) × IsRankOf p M (earlier before everything e) r × IsRankOf p M (with_one (earlier before everything e) e) s × (b ≡ ltb r s)

told-alike : (p : ℕ) (M : MixedMatrix) (before : ℕ → ℕ → Bool) (e : ℕ) (a b : Bool) → Told p M before e a → Told p M before e b → a ≡ b
told-alike p M before e a b (r, s, R, S, q) (t, u, V, W, k) = q ∙ ap (λ i. ltb i s) (one (earlier before everything e) r t R V)
    ∙ ap (λ i. ltb t i) (one (with_one (earlier before everything e) e) s u S W) ∙ sym k
  where
    one : (X : ℕ → Bool) (m n : ℕ) → IsRankOf p M X m → IsRankOf p M X n → m ≡ n
    one X m n R S = greatest-unique p M.rows M.columns (value (mixed_part X everything M)) m n R S

-- one list is kept, as the greedy choice is one
pub kept-one : KeptEquationsAreOne
kept-one p model costs kept other one two = same-lists (length model.equations) kept other one.rising two.rising
    (λ e el h. sym (each e el) ∙ h) (λ e el h. each e el ∙ h)
  where
    each : (e : ℕ) → e < length model.equations → has kept e ≡ has other e
    each e el = told-alike p (mixed_matrix_of model) (by_cost (λ i. get_or costs i 0)) e (has kept e) (has other e)
        (one.choice.kept e el refl) (two.choice.kept e el refl)

module _ (p : ℕ) (prime : IsPrime p) (M : MixedMatrix) where
  -- where all equations are independent, none is surplus: without it R is less
  none-surplus : Free p prime M everything → (e : ℕ) → e < M.rows → IsSurplusAmong p M everything e → ⊥
  none-surplus free e el (r, R, S) = omega (arith, all, fewer, size-shrunk M.rows everything e el refl)
    where
      all : r ≡ size_on everything M.rows
      all = largest-unique M.rows (Free p prime M) everything r (size_on everything M.rows) (rank-largest p prime M everything r R)
          (largest_of-free M.rows (Free p prime M) everything free)

      fewer : r ≤ size_on (without everything e) M.rows
      fewer = go (rank-largest p prime M (without everything e) r S)
        where
          go : IsLargest M.rows (Free p prime M) (without everything e) r → r ≤ size_on (without everything e) M.rows
          go L = omega (arith, L.reached.3, size_on-within (without everything e) L.reached.0 M.rows L.reached.1)

  -- an equation outside an independent set of the largest size is surplus
  outside-surplus : (K : ℕ → Bool) → AreIndependent p M K → (r : ℕ) → IsLargest M.rows (Free p prime M) everything r → size_on K M.rows ≡ r →
      (e : ℕ) → e < M.rows → K e ≡ false → IsSurplus p M e
  outside-surplus K independent r L size e el out = among-surplus p prime M e el (
    r,
    largest-rank p prime M everything r L,
    largest-rank p prime M (without everything e) r (record {
      reached = (K, within, independent-free p prime M K independent, size);
      greatest = λ Y inside free. L.greatest Y (λ _ _ _. refl) free;
    }),
  )
    where
      within : IsWithin M.rows K (without everything e)
      within j _ h = member-without everything e j refl (λ q. differ out (subst (λ i. K i ≡ true) q h))

-- so all are kept exactly where none is surplus
pub all-kept : AllAreKeptWhereNoneIsSurplus
all-kept p prime big model costs kept are = (from-all, to-all)
  where
    counted : size_on (has kept) (length model.equations) ≡ length kept
    counted = members-counted (length model.equations) kept are.rising

    independent : AreIndependent p (mixed_matrix_of model) (has kept)
    independent = kept-independent p prime (mixed_matrix_of model) big (λ e. get_or costs e 0) (has kept) are.choice

    from-all : length kept ≡ length model.equations → (e : ℕ) → e < length model.equations → IsSurplus p (mixed_matrix_of model) e → ⊥
    from-all all e el surplus = none-surplus p prime (mixed_matrix_of model) whole e el (surplus-among p prime (mixed_matrix_of model) e el surplus)
      where
        each : IsWithin (length model.equations) everything (has kept)
        each = full (length model.equations) (has kept) everything (λ _ _ _. refl)
            (omega (arith, counted, all, size-everything (length model.equations)))

        whole : Free p prime (mixed_matrix_of model) everything
        whole = free-within p prime (mixed_matrix_of model) everything (has kept) each (independent-free p prime (mixed_matrix_of model) (has kept) independent)

    to-all : ((e : ℕ) → e < length model.equations → IsSurplus p (mixed_matrix_of model) e → ⊥) → length kept ≡ length model.equations
    to-all none = omega (arith, counted, same, size-everything (length model.equations))
      where
        at : (e : ℕ) → e < length model.equations → (b : Bool) → has kept e ≡ b → has kept e ≡ true
        at e el true told = told
        at e el false told = absurd (none e el (outside-surplus p prime (mixed_matrix_of model) (has kept) independent
            (size_on (has kept) (length model.equations))
            (rank-largest p prime (mixed_matrix_of model) everything (size_on (has kept) (length model.equations))
            (kept-rank p prime (mixed_matrix_of model) big (λ e. get_or costs e 0) (has kept) are.choice)) refl e el told))

        same : size_on (has kept) (length model.equations) ≡ size_on everything (length model.equations)
        same = sum_on-same (has kept) everything (length model.equations) (λ _. 1) (λ e el. at e el (has kept e) refl)
