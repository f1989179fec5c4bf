-- A loop that goes along an order and lets each equation join where it may.
use Rattle.std.proofs.Common.{◌≡◌, ℕ, ◌+◌, ◌<◌, Bool, true, false, eqb, ◌&&◌, ◌||◌, inl, inr, List, length, slice_index, slice_set}
use Rattle.std.proofs.Common.{refl, ap, sym, subst, ◌∙◌, arith}
use Rattle.std.proofs.lemmas.List.{get_or-set_other, get_or-set_same}
use Rattle.residue_theory.proofs.SetLaws.{both-first, both_true, differ, eqb_true, not_true, with_one-member, with_one-new, with_one-other}
use Rattle.residue_theory.proofs.SumLaws.{nat_cases}
use Rattle.residue_theory.specs.Residues.{IsPrime}
use Rattle.residue_theory.specs.Sets.{IsWithin, both, everything, nothing, with_one}
use Rattle.mixed_matrices.specs.LayeredMatrices.{LayeredMatrix}
use Rattle.mixed_matrices.specs.Layerings.{Origins, gives_q, has_symbol}
use Rattle.mixed_matrices.specs.Models.{MixedMatrix}
use Rattle.mixed_matrices.specs.Tableaus.{IsTableau, Tableau}
use Rattle.mixed_model.specs.Layers.{Layers, layered_matrix_of}
use Rattle.mixed_model.specs.Models.{MixedModel, mixed_matrix_of}
use Rattle.mixed_layering.specs.Layers.{AreLayersOf, origins_of}
use Rattle.bipartite_matching.specs.Matchings.{Matching}
use Rattle.exchange_graph.specs.Marks.{members_of}
use Rattle.row_transform.specs.Tableaus.{TableauState}
use Rattle.independent_matching.specs.Sides.{tableau_of_pair}
use Rattle.equation_matroid_laws.specs.EquationRanks.{AreIndependent}
use Rattle.equation_matroid_laws.specs.GreedyChoices.{IsGreedyChoice, earlier}
use Rattle.equation_matroid_laws.proofs.Repairs.{tells-choice}
use Rattle.equation_matroid_laws.proofs.RowRanks.{free-independent, free-within, independent-free}
use Rattle.row_choice_laws.specs.States.{KeepsEquations}
use Rattle.row_choice_laws.proofs.Joining.{rows-independent}
use Rattle.equation_choice.specs.Choices.{IsAlong}
use Rattle.equation_choice.specs.Choosers.{HasJoined, HasBeenRefused, KeepsAmong}
use Rattle.equation_choice.specs.Pairs.{IsPairOver}
use Rattle.equation_choice.proofs.Joins.{gives-some}

-- of the first i equations of the order those that are marked are kept, and each other one depends on those before it
pub record HasChosen (p : ℕ) (model : MixedModel) (l : Layers) (split : List ℕ) (S : TableauState) (M : Matching) (before : ℕ → ℕ → Bool)
    (order : List ℕ) (i : ℕ) (marks : List Bool) : Type 0 where
  pub keeps : KeepsAmong p l split S M (members_of marks)
  pub within : (x : ℕ) → members_of marks x ≡ true → (j : ℕ) × (j < i) × (slice_index order j ≡ x)
  pub passed : (j : ℕ) → j < i → members_of marks (slice_index order j) ≡ false → AreIndependent p (mixed_matrix_of model)
      (with_one (both (members_of marks) (earlier before everything (slice_index order j))) (slice_index order j)) → ⊥

-- the same equations, told by another test
pub keeps-same : (p : ℕ) (L : LayeredMatrix) (O : Origins) (S : ℕ → ℕ → ℕ) (F : Tableau) (K J : ℕ → Bool) → ((x : ℕ) → K x ≡ J x) →
    KeepsEquations p L O S F K → KeepsEquations p L O S F J
keeps-same p L O S F K J same kept = record {
  on = record {
    base = λ b bl h. sym (same (O.of_q (F.row b))) ∙ kept.on.base b bl h;
    matched = λ j jl h. sym (same (O.of_t (F.mate j))) ∙ kept.on.matched j jl h;
    made = λ i k il kl h g. kept.on.made i k il kl (same (O.of_q i) ∙ h) (same (O.of_q k) ∙ g);
  };
  used = λ r rl h. kept.used r rl (same _ ∙ h);
  alone = λ i k il kl h ne. kept.alone i k il kl (same (O.of_q k) ∙ h) ne;
  own = λ k kl h. kept.own k kl (same (O.of_q k) ∙ h);
}

-- a mark more
pub marked-one : (marks : List Bool) (e : ℕ) → e < length marks → (x : ℕ) → with_one (members_of marks) e x ≡ members_of (slice_set marks e true) x
marked-one marks e l x = elim (nat_cases x e) [
  | inl q ↦ subst (λ y. with_one (members_of marks) e y ≡ members_of (slice_set marks e true) y) (sym q)
      (with_one-new (members_of marks) e ∙ sym (get_or-set_same marks e true false l))
  | inr ne ↦ unlike (members_of marks x) (eqb x e) (not_true (eqb x e) (λ h. ne (eqb_true x e h))) ∙ sym (get_or-set_other marks e x true false ne)
]
  where
    unlike : (a b : Bool) → b ≡ false → a || b ≡ a
    unlike a b h = grind arith

module _ (p : ℕ) (prime : IsPrime p) (N : MixedMatrix) where
  -- fewer equations are independent, too
  fewer : (X Y : ℕ → Bool) → IsWithin N.rows X Y → AreIndependent p N Y → AreIndependent p N X
  fewer X Y inside ind = free-independent p prime N X (free-within p prime N X Y inside (independent-free p prime N Y ind))

  fewer-both : (K J E : ℕ → Bool) (x : ℕ) → ((y : ℕ) → K y ≡ true → J y ≡ true) → AreIndependent p N (with_one (both J E) x) →
      AreIndependent p N (with_one (both K E) x)
  fewer-both K J E x more ind = fewer (with_one (both K E) x) (with_one (both J E) x) (λ y yl h. elim (nat_cases y x) [
    | inl q ↦ subst (λ z. with_one (both J E) x z ≡ true) (sym q) (with_one-new (both J E) x)
    | inr ne ↦ let b : both K E y ≡ true = with_one-other (both K E) x y h ne in
        with_one-member (both J E) x y (both_true (J y) (E y) (more y (both-first (K y) (E y) b)) (second (K y) (E y) b))
  ]) ind
    where
      second : (a b : Bool) → a && b ≡ true → b ≡ true
      second a b h = grind arith

module _ (p : ℕ) (prime : IsPrime p) (model : MixedModel) (l : Layers) (of : AreLayersOf model l) (before : ℕ → ℕ → Bool) (n : ℕ) (order : List ℕ)
    (along : IsAlong n before order) where
  pub chosen-none : (S : TableauState) (M : Matching) (marks : List Bool) → ((x : ℕ) → members_of marks x ≡ false) →
      KeepsAmong p l of.split S M nothing → HasChosen p model l of.split S M before order 0 marks
  chosen-none S M marks none kept = record {
    keeps = keeps-same p (layered_matrix_of l) (origins_of l of.split) S.s (tableau_of_pair S M) nothing (members_of marks) (λ x. sym (none x)) kept;
    within = λ x h. absurd (differ (none x) h);
    passed = λ j jl. absurd (omega (arith, jl));
  }

  module _ (i : ℕ) (il : i < length order) (S : TableauState) (M : Matching) (marks : List Bool)
      (C : HasChosen p model l of.split S M before order i marks) (e : ℕ) (is : slice_index order i ≡ e) (el : e < length model.equations)
      (ml : e < length marks) where
    abbrev N : MixedMatrix
    N = mixed_matrix_of model

    abbrev K : ℕ → Bool
    K = members_of marks

    -- what is kept comes before it
    comes-before : (x : ℕ) → K x ≡ true → before x e ≡ true
    comes-before x h = let (j, jl, q) = C.within x h in
        subst (λ y. before x y ≡ true) is (subst (λ y. before y (slice_index order i) ≡ true) q (along.rising j i jl il))

    pub unkept : members_of marks e ≡ false
    unkept = not_true (K e) (λ h. differ (along.line.irreflexive e) (comes-before e h))

    pub chosen-joined : (S' : TableauState) (M' : Matching) → HasJoined p l S S' M M' e →
        HasChosen p model l of.split S' M' before order (i + 1) (slice_set marks e true)
    chosen-joined S' M' joined = record {
      keeps = keeps-same p (layered_matrix_of l) (origins_of l of.split) S'.s (tableau_of_pair S' M') (with_one K e) J same
          (joined model of K C.keeps el unkept);
      within = λ x h. elim (nat_cases x e) [
        | inl q ↦ (i, omega arith, is ∙ sym q)
        | inr ne ↦ let (j, jl, q) = C.within x (sym (get_or-set_other marks e x true false ne) ∙ h) in (j, omega (arith, jl), q)
      ];
      passed = passed;
    }
      where
        J : ℕ → Bool
        J = members_of (slice_set marks e true)

        same : (x : ℕ) → with_one K e x ≡ members_of (slice_set marks e true) x
        same = marked-one marks e ml

        more : (x : ℕ) → K x ≡ true → members_of (slice_set marks e true) x ≡ true
        more x h = sym (same x) ∙ with_one-member K e x h

        passed : (j : ℕ) → j < i + 1 → members_of (slice_set marks e true) (slice_index order j) ≡ false → AreIndependent p N
            (with_one (both (members_of (slice_set marks e true)) (earlier before everything (slice_index order j))) (slice_index order j)) → ⊥
        passed j jl out ind = elim (nat_cases j i) [
          | inl q ↦ differ (subst (λ k. members_of (slice_set marks e true) (slice_index order k) ≡ false) q out)
              (subst (λ x. members_of (slice_set marks e true) x ≡ true) (sym is) (get_or-set_same marks e true false ml))
          | inr ne ↦ C.passed j (omega (arith, jl, ne)) (not_true (K (slice_index order j)) (λ h. differ out (more (slice_index order j) h)))
              (fewer-both p prime N K (members_of (slice_set marks e true)) (earlier before everything (slice_index order j)) (slice_index order j) more ind)
        ]

    pub chosen-refused : (S' : TableauState) (M' : Matching) → HasBeenRefused p l S S' M M' e → HasChosen p model l of.split S' M' before order (i + 1) marks
    chosen-refused S' M' refused = record {
      keeps = (refused model of K C.keeps el unkept).0;
      within = λ x h. let (j, jl, q) = C.within x h in (j, omega (arith, jl), q);
      passed = λ j jl out ind. elim (nat_cases j i) [
        | inl q ↦ (refused model of K C.keeps el unkept).1 (all (subst (λ x. AreIndependent p N (with_one (both K (earlier before everything x)) x))
            (ap (slice_index order) q ∙ is) ind))
        | inr ne ↦ C.passed j (omega (arith, jl, ne)) out ind
      ];
    }
      where
        all : AreIndependent p N (with_one (both K (earlier before everything e)) e) → AreIndependent p N (with_one K e)
        all ind = fewer p prime N (with_one K e) (with_one (both K (earlier before everything e)) e) (λ y yl h. elim (nat_cases y e) [
          | inl q ↦ subst (λ z. with_one (both K (earlier before everything e)) e z ≡ true) (sym q) (with_one-new (both K (earlier before everything e)) e)
          | inr ne ↦ let k : K y ≡ true = with_one-other K e y h ne in
              with_one-member (both K (earlier before everything e)) e y (both_true (K y) (earlier before everything e y) k (comes-before y k))
        ]) ind

  -- in the end the marked equations are the greedy choice
  pub chosen-greedy : 2 < p → (S : TableauState) (M : Matching) → IsPairOver p l S M → (marks : List Bool) (i : ℕ) → i ≡ length order →
      length model.equations ≡ n → HasChosen p model l of.split S M before order i marks →
      IsGreedyChoice p (mixed_matrix_of model) before everything (members_of marks)
  chosen-greedy big S M over marks i end count C = tells-choice p prime (mixed_matrix_of model) big before along.line everything (members_of marks)
      (λ j _ h. refl) (record {
        independent = rows-independent p prime big (mixed_matrix_of model) (gives_q (mixed_matrix_of model)) (has_symbol (mixed_matrix_of model))
            (layered_matrix_of l) (origins_of l of.split) of.layered S.s S.u
            (tableau_of_pair S M) (subst (λ L. IsTableau p L S.s S.u (tableau_of_pair S M)) over.same over.tableau) (members_of marks) C.keeps.on
            (λ x _ _. gives-some (mixed_matrix_of model) x) C.keeps.used;
        passed_over = λ e el _ out ind. let (j, jl, q) = along.each e (subst (λ m. e < m) count el) in
            C.passed j (omega (arith, jl, end)) (subst (λ x. members_of marks x ≡ false) (sym q) out)
            (subst (λ x. AreIndependent p (mixed_matrix_of model) (with_one (both (members_of marks) (earlier before everything x)) x)) (sym q) ind);
      })
