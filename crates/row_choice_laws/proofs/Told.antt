-- The circuit of an equation that joins in vain, and its conflict set.
use Rattle.std.proofs.Common.{◌≡◌, ◌≢◌, ℕ, ◌+◌, ◌%◌, ◌<◌, Bool, true, false, ltb, ◌⊎◌, ◌↔◌, inl, inr, refl, sym, subst}
use Rattle.std.proofs.Common.{arith}
use Rattle.std.proofs.lemmas.Bool.Decides.{nat_tests}
use Rattle.residue_theory.proofs.SetLaws.{differ, with_one-member}
use Rattle.residue_theory.proofs.SumLaws.{nat_cases}
use Rattle.residue_theory.specs.Residues.{IsPrime}
use Rattle.residue_theory.specs.Sets.{everything, with_one}
use Rattle.residue_theory.specs.Sums.{size_on}
use Rattle.mixed_matrices.specs.LayeredMatrices.{LayeredMatrix}
use Rattle.mixed_matrices.specs.Layerings.{IsLayering, Origins}
use Rattle.mixed_matrices.specs.Models.{MixedMatrix}
use Rattle.mixed_matrices.specs.Tableaus.{IsTableau, Tableau}
use Rattle.mixed_layering_laws.proofs.Members.{member-at, member-index}
use Rattle.equation_matroid_laws.proofs.ConflictSets.{others}
use Rattle.equation_matroid_laws.proofs.Repairs.{choice-tells}
use Rattle.equation_matroid_laws.specs.Conflicts.{IsCircuitOf, IsConflictSet, IsInCircuit, IsSurplusAmong}
use Rattle.equation_matroid_laws.specs.EquationRanks.{AreIndependent}
use Rattle.equation_matroid_laws.specs.GreedyChoices.{IsGreedyChoice, IsLine, by_number}
use Rattle.row_choice_laws.proofs.Joining.{circuit-surplus, joined-surplus, surplus-circuit}
use Rattle.row_choice_laws.proofs.ReachedRows.{reached-surplus, surplus-reached, surplus-used, used-surplus}
use Rattle.row_choice_laws.specs.RowSearches.{HaveRows, IsJoining, AreRowsReachedInVain, TellsOf}

number-line : IsLine by_number
number-line = record { irreflexive = irreflexive; transitive = transitive; total = total }
  where
    irreflexive : (e : ℕ) → ltb e e ≡ false
    irreflexive e = grind (arith, nat_tests)

    transitive : (c d e : ℕ) → ltb c d ≡ true → ltb d e ≡ true → ltb c e ≡ true
    transitive c d e h k = grind (arith, nat_tests)

    total : (d e : ℕ) → d ≢ e → (ltb d e ≡ true) ⊎ (ltb e d ≡ true)
    total d e ne = grind (arith, nat_tests)

module _ (p : ℕ) (prime : IsPrime p) (big : 2 < p) (M : MixedMatrix) (A D : ℕ → Bool) (L : LayeredMatrix) (O : Origins) (lay : IsLayering M A D L O)
    (S U : ℕ → ℕ → ℕ) (F : Tableau) (tab : IsTableau p L S U F) (B : ℕ → Bool) (f : ℕ) (fl : f < M.rows) (row : (A f ≡ true) ⊎ (D f ≡ true))
    (new : B f ≡ false) (join : IsJoining p M A L O S F B f) (ind : AreIndependent p M B) (W : ℕ → Bool)
    (reach : AreRowsReachedInVain p L O F (with_one B f) W) where
  surplus : IsSurplusAmong p M (with_one B f) f
  surplus = joined-surplus p prime big M A D L O lay S U F tab B f fl row join W reach

  pub circuit-told : TellsOf p D L O S B W (IsInCircuit p M B f)
  circuit-told = record {
    by_t = λ d dl b. (
      (λ h. surplus-reached p prime M A D L O lay S U F tab (with_one B f) W join.on reach big d dl (with_one-member B f (O.of_t d) b)
          (circuit-surplus p prime M B f fl new ind surplus (O.of_t d) (lay.t_rows.below d dl) b h)),
      (λ w. surplus-circuit p prime M B f fl new ind surplus (O.of_t d) (lay.t_rows.below d dl) b
          (reached-surplus p prime M A D L O lay S U F tab (with_one B f) W join.on reach big d dl (with_one-member B f (O.of_t d) b) w)),
    );
    by_q = λ e el b no_t. (
      (λ h. surplus-used p prime M A D L O lay S U F tab (with_one B f) W join.on reach big e el (with_one-member B f (O.of_q e) b) no_t
          (circuit-surplus p prime M B f fl new ind surplus (O.of_q e) (lay.q_rows.below e el) b h)),
      (λ w. surplus-circuit p prime M B f fl new ind surplus (O.of_q e) (lay.q_rows.below e el) b
          (used-surplus p prime M A D L O lay S U F tab (with_one B f) W join.on reach big e el (with_one-member B f (O.of_q e) b) no_t w)),
    );
  }

module _ (p : ℕ) (prime : IsPrime p) (big : 2 < p) (M : MixedMatrix) (A D : ℕ → Bool) (L : LayeredMatrix) (O : Origins) (lay : IsLayering M A D L O)
    (B : ℕ → Bool) (choice : IsGreedyChoice p M by_number everything B) (rows : HaveRows M A D everything) (f : ℕ) (fl : f < M.rows) (new : B f ≡ false)
    (S U : ℕ → ℕ → ℕ) (F : Tableau) (tab : IsTableau p L S U F) (join : IsJoining p M A L O S F B f) (W : ℕ → Bool)
    (reach : AreRowsReachedInVain p L O F (with_one B f) W) (C : ℕ → Bool) (itself : C f ≡ true)
    (outside : (x : ℕ) → x < M.rows → B x ≡ false → x ≢ f → C x ≡ false) (told : TellsOf p D L O S B W (λ x. C x ≡ true)) where
  circuit : TellsOf p D L O S B W (IsInCircuit p M B f)
  circuit = circuit-told p prime big M A D L O lay S U F tab B f fl (rows f fl refl) new join
      (choice-tells p prime M big by_number number-line everything B (λ j jl h. refl) choice).independent W reach

  is-circuit : IsCircuitOf p M B f C
  is-circuit x xl = at (B x) refl (nat_cases x f) (D x) refl (rows x xl refl)
    where
      through : (X Y : Type 0) (Z : Type 0) → X ↔ Z → Y ↔ Z → X ↔ Y
      through X Y Z a b = ((λ x. b.1 (a.0 x)), (λ y. a.1 (b.0 y)))

      by_t : B x ≡ true → D x ≡ true → (C x ≡ true) ↔ IsInCircuit p M B f x
      by_t b d = subst (λ i. (C i ≡ true) ↔ IsInCircuit p M B f i) e (through (C (O.of_t (size_on D x)) ≡ true) (IsInCircuit p M B f (O.of_t (size_on D x)))
          (W (L.q_rows + size_on D x) ≡ true) (told.by_t (size_on D x) l held) (circuit.by_t (size_on D x) l held))
        where
          e : O.of_t (size_on D x) ≡ x
          e = member-at D M.rows O.of_t L.t_rows lay.t_rows x xl d

          l : size_on D x < L.t_rows
          l = member-index D M.rows O.of_t L.t_rows lay.t_rows x xl d

          held : B (O.of_t (size_on D x)) ≡ true
          held = subst (λ i. B i ≡ true) (sym e) b

      by_q : B x ≡ true → D x ≡ false → A x ≡ true → (C x ≡ true) ↔ IsInCircuit p M B f x
      by_q b d a = subst (λ i. (C i ≡ true) ↔ IsInCircuit p M B f i) e (through (C (O.of_q (size_on A x)) ≡ true) (IsInCircuit p M B f (O.of_q (size_on A x)))
          ((i : ℕ) × (i < L.q_rows) × (W i ≡ true) × (S i (size_on A x) % p ≢ 0)) (told.by_q (size_on A x) l held no_t)
          (circuit.by_q (size_on A x) l held no_t))
        where
          e : O.of_q (size_on A x) ≡ x
          e = member-at A M.rows O.of_q L.q_rows lay.q_rows x xl a

          l : size_on A x < L.q_rows
          l = member-index A M.rows O.of_q L.q_rows lay.q_rows x xl a

          held : B (O.of_q (size_on A x)) ≡ true
          held = subst (λ i. B i ≡ true) (sym e) b

          no_t : D (O.of_q (size_on A x)) ≡ false
          no_t = subst (λ i. D i ≡ false) (sym e) d

      at : (b : Bool) → B x ≡ b → (x ≡ f) ⊎ (x ≢ f) → (d : Bool) → D x ≡ d → (A x ≡ true) ⊎ (D x ≡ true) → (C x ≡ true) ↔ IsInCircuit p M B f x
      at false b (inl q) _ _ _ = ((λ _. inl q), (λ _. subst (λ i. C i ≡ true) (sym q) itself))
      at false b (inr ne) _ _ _ = ((λ h. absurd (differ (outside x xl b ne) h)), no_way)
        where
          no_way : IsInCircuit p M B f x → C x ≡ true
          no_way (inl q) = absurd (ne q)
          no_way (inr (h, _)) = absurd (differ b h)
      at true b _ true d _ = by_t b d
      at true b _ false d (inl a) = by_q b d a
      at true b _ false d (inr h) = absurd (differ d h)

  pub told-conflict : IsConflictSet p M f C
  told-conflict = ((others p prime M big B choice f fl new).1 C).1 is-circuit
