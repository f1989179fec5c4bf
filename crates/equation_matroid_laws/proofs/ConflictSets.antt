-- Conflict sets of a model, by the matroid of its equations.
use Rattle.std.proofs.Common.{◌≡◌, ℕ, ◌+◌, ◌<◌, ◌⊎◌, ◌↔◌, Bool, true, false, ◌&&◌, not, ltb, inl, inr, refl, sym, subst}
use Rattle.std.proofs.Common.{arith}
use Rattle.residue_theory.proofs.SetLaws.{both_true, both-first, both-second, differ, first_on, not_true}
use Rattle.residue_theory.proofs.SumLaws.{size_on-within, without-member}
use Rattle.residue_theory.specs.Residues.{IsPrime}
use Rattle.residue_theory.specs.Sets.{IsWithin, both, everything, with_one, without}
use Rattle.residue_theory.specs.Sums.{size_on}
use Rattle.mixed_matrices.specs.Models.{MixedMatrix}
use Rattle.equation_matroid_laws.proofs.Circuits.{Conflict, First, FirstCircuit, InCircuit, Surplus, circuit-conflict}
use Rattle.equation_matroid_laws.proofs.Circuits.{conflict-circuit, conflict-rank, conflict-tied, conflict_exists}
use Rattle.equation_matroid_laws.proofs.Circuits.{first-without, first_circuit, other-surplus, other-tied, parts-free}
use Rattle.equation_matroid_laws.proofs.Circuits.{replaced-first, replaced-tied, same-circuit}
use Rattle.equation_matroid_laws.proofs.Costs.{number-line}
use Rattle.equation_matroid_laws.proofs.Greedy.{choice-free, passed-over, prefix-reached, whole-prefix}
use Rattle.equation_matroid_laws.proofs.Matroids.{IsLargest, Matroid, grown-within, largest-unique, size-grown}
use Rattle.equation_matroid_laws.proofs.Repairs.{choice_exists, to_choice}
use Rattle.equation_matroid_laws.proofs.RowRanks.{Free, equations, free-independent, independent-free, largest-rank}
use Rattle.equation_matroid_laws.proofs.RowRanks.{rank-largest}
use Rattle.equation_matroid_laws.specs.Conflicts.{IsCircuitOf, IsConflictSet, IsInCircuit, IsSurplusAmong, tried}
use Rattle.equation_matroid_laws.specs.EquationRanks.{AreIndependent, IsRankOf}
use Rattle.equation_matroid_laws.specs.GreedyChoices.{IsGreedyChoice, IsRepair, by_number, earlier, outside}

module _ (p : ℕ) (prime : IsPrime p) (M : MixedMatrix) (big : 2 < p) where
  abbrev F : (ℕ → Bool) → Type 0
  F = Free p prime M

  T : Matroid M.rows (Free p prime M)
  T = equations p prime M big

  -- ---- the words of the matroid
  surplus-to : (X : ℕ → Bool) (e : ℕ) → IsSurplusAmong p M X e → Surplus M.rows F T X e
  surplus-to X e (r, R, S) = (r, rank-largest p prime M X r R, rank-largest p prime M (without X e) r S)

  surplus-from : (X : ℕ → Bool) (e : ℕ) → Surplus M.rows F T X e → IsSurplusAmong p M X e
  surplus-from X e (r, R, S) = (r, largest-rank p prime M X r R, largest-rank p prime M (without X e) r S)

  circuit-to : (B : ℕ → Bool) (e x : ℕ) → IsInCircuit p M B e x → InCircuit M.rows F T B e x
  circuit-to B e x (inl q) = inl q
  circuit-to B e x (inr m) = inr (m.0, independent-free p prime M (with_one (without B x) e) m.1)

  circuit-from : (B : ℕ → Bool) (e x : ℕ) → InCircuit M.rows F T B e x → IsInCircuit p M B e x
  circuit-from B e x (inl q) = inl q
  circuit-from B e x (inr m) = inr (m.0, free-independent p prime M (with_one (without B x) e) m.1)

  conflict-to : (e : ℕ) (C : ℕ → Bool) → IsConflictSet p M e C → Conflict M.rows F T e C
  conflict-to e C conflict = record {
    holds = conflict.holds;
    out = λ x xl ne h. surplus-to (tried C x) e ((conflict.left_out x xl ne).0 h);
    back = λ x xl ne h. (conflict.left_out x xl ne).1 (surplus-from (tried C x) e h);
  }

  conflict-from : (e : ℕ) (C : ℕ → Bool) → Conflict M.rows F T e C → IsConflictSet p M e C
  conflict-from e C conflict = record {
    holds = conflict.holds;
    left_out = λ x xl ne. ((λ h. surplus-from (tried C x) e (conflict.out x xl ne h)), λ h. conflict.back x xl ne (surplus-to (tried C x) e h));
  }

  -- a set is a conflict set exactly where it is the circuit of e in a first base of the others
  told : (e : ℕ) → e < M.rows → (B C : ℕ → Bool) → First M.rows F T (without everything e) B → (F (with_one B e) → ⊥) →
      IsConflictSet p M e C ↔ IsCircuitOf p M B e C
  told e el B C first never = (
    λ conflict x xl. there x (conflict-circuit M.rows F T e el B first never C (conflict-to e C conflict) x xl),
    λ same. conflict-from e C (circuit-conflict M.rows F T e el B first never C (λ x xl. back x (same x xl))),
  )
    where
      there : (x : ℕ) → (C x ≡ true → InCircuit M.rows F T B e x) × (InCircuit M.rows F T B e x → C x ≡ true) → (C x ≡ true) ↔ IsInCircuit p M B e x
      there x (to, fro) = ((λ h. circuit-from B e x (to h)), (λ m. fro (circuit-to B e x m)))

      back : (x : ℕ) → (C x ≡ true) ↔ IsInCircuit p M B e x → (C x ≡ true → InCircuit M.rows F T B e x) × (InCircuit M.rows F T B e x → C x ≡ true)
      back x (to, fro) = ((λ h. circuit-to B e x (to h)), (λ m. fro (circuit-from B e x m)))

  -- a greedy choice by rising number is a first base
  first_of : (X B : ℕ → Bool) → IsGreedyChoice p M by_number X B → First M.rows F T X B
  first_of X B choice = record {
    inside = choice.inside;
    free = choice-free (λ d e. ltb d e) number-line M.rows F T X B (to_choice p prime M by_number X B choice);
    spans = λ y yl xy out free. passed-over (λ d e. ltb d e) number-line M.rows F T X B (to_choice p prime M by_number X B choice) y yl xy out
        (T.within (with_one (both B (earlier by_number X y)) y) (with_one (λ j. B j && ltb j y) y)
        (grown-within M.rows (both B (earlier by_number X y)) (λ j. B j && ltb j y) y (λ j _ h. both_true (B j) (ltb j y)
        (both-first (B j) (earlier by_number X y j) h) (both-second (X j) (ltb j y) (both-second (B j) (earlier by_number X y j) h)))) free);
  }

  -- where e is surplus, it may not join a choice from the others
  tied : (e : ℕ) → e < M.rows → (B : ℕ → Bool) → IsGreedyChoice p M by_number (without everything e) B → Surplus M.rows F T everything e → F (with_one B e) → ⊥
  tied e el B choice (r, R, S) free = go (prefix-reached (λ d e. ltb d e) number-line M.rows F T (without everything e) B
      (to_choice p prime M by_number (without everything e) B choice) (without everything e)
      (whole-prefix (λ d e. ltb d e) number-line M.rows F T (without everything e) B (to_choice p prime M by_number (without everything e) B choice)))
    where
      out : B e ≡ false
      out = not_true (B e) (λ h. (without-member everything e e (choice.inside e el h)).1 refl)

      go : F (both B (without everything e)) × IsLargest M.rows F (without everything e) (size_on (both B (without everything e)) M.rows) → ⊥
      go (_, L) = omega (
        arith,
        largest-unique M.rows F (without everything e) r (size_on (both B (without everything e)) M.rows) S L,
        size_on-within B (both B (without everything e)) M.rows (λ j _ h. both-first (B j) (without everything e j) h),
        size-grown M.rows B e el out,
        R.greatest (with_one B e) (λ _ _ _. refl) free,
      )

  pub circuit : (e : ℕ) → e < M.rows → IsSurplusAmong p M everything e → (B C : ℕ → Bool) →
      IsGreedyChoice p M by_number (without everything e) B → IsConflictSet p M e C ↔ IsCircuitOf p M B e C
  circuit e el surplus B C choice = told e el B C (first_of (without everything e) B choice) (tied e el B choice (surplus-to everything e surplus))

  pub minimal : (e : ℕ) → e < M.rows → IsSurplusAmong p M everything e → (C : ℕ → Bool) → IsConflictSet p M e C →
      ((r : ℕ) → IsRankOf p M C r → r + 1 ≡ size_on C M.rows)
      × ((D : ℕ → Bool) (x : ℕ) → IsWithin M.rows D C → x < M.rows → C x ≡ true → D x ≡ false → AreIndependent p M D)
  minimal e el surplus C conflict = go (choice_exists p prime M by_number (without everything e))
    where
      go : (B : ℕ → Bool) × IsGreedyChoice p M by_number (without everything e) B →
          ((r : ℕ) → IsRankOf p M C r → r + 1 ≡ size_on C M.rows)
          × ((D : ℕ → Bool) (x : ℕ) → IsWithin M.rows D C → x < M.rows → C x ≡ true → D x ≡ false → AreIndependent p M D)
      go (B, choice) = (
        λ r R. conflict-rank M.rows F T e el B (first_of (without everything e) B choice) (tied e el B choice (surplus-to everything e surplus)) C
            (conflict-to e C conflict) r (rank-largest p prime M C r R),
        λ D x within xl xc xout. free-independent p prime M D (parts-free M.rows F T e el B (first_of (without everything e) B choice)
            (tied e el B choice (surplus-to everything e surplus)) C (conflict-to e C conflict) D x within xl xc xout),
      )

  pub one_conflict_set : (e : ℕ) → e < M.rows → IsSurplusAmong p M everything e →
      (C : ℕ → Bool) × IsConflictSet p M e C × ((D : ℕ → Bool) → IsConflictSet p M e D → (x : ℕ) → x < M.rows → D x ≡ C x)
  one_conflict_set e el surplus = go (choice_exists p prime M by_number (without everything e))
    where
      go : (B : ℕ → Bool) × IsGreedyChoice p M by_number (without everything e) B →
          (C : ℕ → Bool) × IsConflictSet p M e C × ((D : ℕ → Bool) → IsConflictSet p M e D → (x : ℕ) → x < M.rows → D x ≡ C x)
      go (B, choice) = found (conflict_exists M.rows F T e el B (first_of (without everything e) B choice)
          (tied e el B choice (surplus-to everything e surplus)))
        where
          found : (C : ℕ → Bool) × Conflict M.rows F T e C →
              (C : ℕ → Bool) × IsConflictSet p M e C × ((D : ℕ → Bool) → IsConflictSet p M e D → (x : ℕ) → x < M.rows → D x ≡ C x)
          found (C, conflict) = (
            C,
            conflict-from e C conflict,
            λ D other x xl. same (D x) (C x)
                (λ h. ((circuit e el surplus B C choice).0 (conflict-from e C conflict) x xl).1 (((circuit e el surplus B D choice).0 other x xl).0 h))
                (λ h. ((circuit e el surplus B D choice).0 other x xl).1 (((circuit e el surplus B C choice).0 (conflict-from e C conflict) x xl).0 h)),
          )
            where
              same : (a b : Bool) → (a ≡ true → b ≡ true) → (b ≡ true → a ≡ true) → a ≡ b
              same true b h k = sym (h refl)
              same false true h k = k refl
              same false false h k = refl

  -- a repair takes an equation of each conflict set
  pub repair-meets : (e : ℕ) → e < M.rows → IsSurplusAmong p M everything e → (C D : ℕ → Bool) → IsConflictSet p M e C → IsRepair p M D →
      (x : ℕ) × (x < M.rows) × (C x ≡ true) × (D x ≡ true)
  repair-meets e el surplus C D conflict repair = go (choice_exists p prime M by_number (without everything e)) (first_on (both C D) M.rows)
    where
      go : (B : ℕ → Bool) × IsGreedyChoice p M by_number (without everything e) B →
          ((x : ℕ) × (x < M.rows) × (both C D x ≡ true)) ⊎ ((x : ℕ) → x < M.rows → both C D x ≡ false) →
          (x : ℕ) × (x < M.rows) × (C x ≡ true) × (D x ≡ true)
      go (B, choice) (inl (x, xl, h)) = (x, xl, both-first (C x) (D x) h, both-second (C x) (D x) h)
      go (B, choice) (inr none) = absurd (conflict-tied M.rows F T e el B (first_of (without everything e) B choice)
          (tied e el B choice (surplus-to everything e surplus)) C (conflict-to e C conflict)
          (T.within C (outside D) (λ j jl h. negated (D j) (not_true (D j) (λ k. differ (none j jl) (both_true (C j) (D j) h k))))
          (independent-free p prime M (outside D) repair)))
        where
          negated : (b : Bool) → b ≡ false → not b ≡ true
          negated false h = refl
          negated true h = sym h

  -- ---- one choice from all
  module _ (B : ℕ → Bool) (choice : IsGreedyChoice p M by_number everything B) where
    pub others : (e : ℕ) → e < M.rows → B e ≡ false →
        IsSurplusAmong p M everything e × ((C : ℕ → Bool) → IsConflictSet p M e C ↔ IsCircuitOf p M B e C)
    others e el out = (
      surplus-from everything e (other-surplus M.rows F T B (first_of everything B choice) e el out),
      λ C. told e el B C (first-without M.rows F T B (first_of everything B choice) e out)
          (other-tied M.rows F T B (first_of everything B choice) e el out),
    )

    pub held_ones : (e : ℕ) → e < M.rows → B e ≡ true → IsSurplusAmong p M everything e →
        (f : ℕ) × (f < M.rows) × (B f ≡ false) × IsInCircuit p M B f e
        × ((g : ℕ) → g < f → B g ≡ false → IsInCircuit p M B g e → ⊥)
        × ((C : ℕ → Bool) → IsConflictSet p M e C ↔ IsCircuitOf p M B f C)
    held_ones e el held surplus = go (first_circuit M.rows F T B (first_of everything B choice) e el held (surplus-to everything e surplus))
      where
        go : (f : ℕ) × FirstCircuit M.rows F T B (first_of everything B choice) e el held f →
            (f : ℕ) × (f < M.rows) × (B f ≡ false) × IsInCircuit p M B f e
            × ((g : ℕ) → g < f → B g ≡ false → IsInCircuit p M B g e → ⊥)
            × ((C : ℕ → Bool) → IsConflictSet p M e C ↔ IsCircuitOf p M B f C)
        go (f, (fl, out, free, before)) = (
          f,
          fl,
          out,
          inr (held, free-independent p prime M (with_one (without B e) f) free),
          λ g gl gout m. elim (circuit-to B g e m) [
            | inl q ↦ differ gout (subst (λ i. B i ≡ true) q held)
            | inr k ↦ before g gl gout k.1
          ],
          λ C. shown C (told e el (with_one (without B e) f) C
              (replaced-first M.rows F T B (first_of everything B choice) e el held f fl out free before)
              (replaced-tied M.rows F T B (first_of everything B choice) e el held f fl out free before)),
        )
          where
            over : (x : ℕ) → x < M.rows → IsInCircuit p M (with_one (without B e) f) e x → IsInCircuit p M B f x
            over x xl m = circuit-from B f x ((same-circuit M.rows F T B (first_of everything B choice) e el held f fl out free before x xl).0
                (circuit-to (with_one (without B e) f) e x m))

            home : (x : ℕ) → x < M.rows → IsInCircuit p M B f x → IsInCircuit p M (with_one (without B e) f) e x
            home x xl m = circuit-from (with_one (without B e) f) e x
                ((same-circuit M.rows F T B (first_of everything B choice) e el held f fl out free before x xl).1 (circuit-to B f x m))

            shown : (C : ℕ → Bool) → IsConflictSet p M e C ↔ IsCircuitOf p M (with_one (without B e) f) e C → IsConflictSet p M e C ↔ IsCircuitOf p M B f C
            shown C (there, back) = (
              λ conflict x xl. let w : (C x ≡ true) ↔ IsInCircuit p M (with_one (without B e) f) e x = there conflict x xl in
                  ((λ h. over x xl (w.0 h)), (λ m. w.1 (home x xl m))),
              λ same. back (λ x xl. ((λ h. home x xl ((same x xl).0 h)), (λ m. (same x xl).1 (over x xl m)))),
            )
