-- What is marked and listed of a form, and the report that it makes.
use Rattle.std.proofs.Common.{◌≡◌, ℕ, ◌<◌, ◌≤◌, ◌↔◌, Bool, true, false, List, length, replicate, slice_index, inl, inr, refl, sym, subst, ◌∙◌, arith}
use Rattle.std.proofs.lemmas.List.Elements.{All-from_get_or}
use Rattle.residue_theory.proofs.SetLaws.{differ, not_true}
use Rattle.residue_theory.specs.Residues.{IsPrime}
use Rattle.residue_theory.specs.Sets.{has}
use Rattle.dense_q.specs.Tables.{height}
use Rattle.mixed_matrices.specs.Layerings.{Origins}
use Rattle.mixed_matrices.specs.Models.{MixedMatrix}
use Rattle.mixed_matrices.specs.Removals.{IsSurplus, IsUndetermined}
use Rattle.mixed_matrices.specs.StructuralRanks.{IsStructuralRank}
use Rattle.mixed_layering.specs.Layers.{origins_of}
use Rattle.mixed_model.specs.Layers.{Layers, AreLayers, layered_matrix_of}
use Rattle.mixed_model.specs.Models.{mixed_matrix_of}
use Rattle.cert_text.specs.Contents.{Contents}
use Rattle.cert_text.specs.Ranges.{IsCcf}
use Rattle.part_arcs.proofs.FormLaws.{has-some, some-has}
use Rattle.part_rules.specs.Listed.{marked}
use Rattle.solve_plan.specs.Marks.{AreMarksOf, AreMembersOf, IsItem, Marks, OfSome}
use Rattle.solve_plan.specs.Reports.{IsRightFormOf, ReportsEach}
use Rattle.solve_plan.specs.Surplus.{FitsForm, IsMadeWith, IsOfLast, IsToldSurplus, IsUsedLast}
use Rattle.solve_plan.specs.declared.told.Report.{Report}
use Rattle.solve_plan.proofs.MarkSets.{mark-fresh}
use Rattle.solve_plan.proofs.SurplusLaws.{surplus-law, undetermined-law}

-- a list of members of A is one of members of B
pub members-as : (n m : ℕ) (A B : ℕ → Type 0) (list : List ℕ) → n ≡ m → ((i : ℕ) → i < m → A i ↔ B i) → AreMembersOf n A list → AreMembersOf m B list
members-as n m A B list size same are = record {
  rising = are.rising;
  exact = λ i. (
    λ h. let at = (are.exact i).0 h in let low : i < m = subst (λ l. i < l) size at.0 in (low, (same i low).0 at.1),
    λ at. (are.exact i).1 (subst (λ l. i < l) (sym size) at.0, (same i at.0).1 at.1),
  );
}

-- the marked columns are those of the list
pub columns-told : (n m : ℕ) (columns list : List ℕ) (none marks : List Bool) → none ≡ replicate m false → Marks (IsItem columns) none marks →
    AreMembersOf n (λ i. marked marks i ≡ true) list → AreMembersOf n (λ j. has columns j ≡ true) list
columns-told n m columns list none marks clear are = members-as n n (λ i. marked marks i ≡ true) (λ j. has columns j ≡ true) list refl (λ i low. (
  λ h. let at = ((mark-fresh m (IsItem columns) none marks clear are).tells i).0 h in some-has columns at.0 i at.1 at.2,
  λ h. ((mark-fresh m (IsItem columns) none marks clear are).tells i).1 (has-some columns i h),
))

-- the marked equations are those that the form tells
module _ (layers : Layers) (c : Contents) (n : ℕ) (symbols used none first marks : List Bool) (size : height layers.q ≡ c.shape.q_rows)
    (with_symbols : AreMarksOf n (IsItem layers.t_origins) symbols) (with_use : AreMarksOf c.shape.q_rows
    (IsUsedLast c) used) (clear : none ≡ replicate n false)
    (one : Marks (IsOfLast layers c) none first)
    (two : Marks (OfSome (length used) (λ e x. (slice_index layers.q_origins e ≡ x) × (marked used e ≡ true) × (marked symbols x ≡ false))) first marks) where
  abbrev MadeMarks : ℕ → Type 0
  MadeMarks x = OfSome (length used) (λ e y. (slice_index layers.q_origins e ≡ y) × (marked used e ≡ true) × (marked symbols y ≡ false)) x

  made : (x : ℕ) → MadeMarks x → IsMadeWith layers c x
  made x (e, el, (at, u, s)) = (e, omega (arith, el, with_use.count, size), (at, (with_use.tells e).0 u, λ item. differ s ((with_symbols.tells x).1 item)))

  made-back : (x : ℕ) → IsMadeWith layers c x → MadeMarks x
  made-back x (e, el, (at, u, none_of)) = (
    e,
    omega (arith, el, with_use.count, size),
    (at, (with_use.tells e).1 u, not_true (marked symbols x) (λ h. none_of ((with_symbols.tells x).0 h))),
  )

  marked-told : (x : ℕ) → (marked marks x ≡ true) ↔ IsToldSurplus layers c x
  marked-told x = (
    λ h. elim ((two.tells x).0 h) [
      | inl before ↦ inl (((mark-fresh n (IsOfLast layers c) none first clear one).tells x).0 before)
      | inr new ↦ inr (made x new)
    ],
    λ told. elim told [
      | inl last ↦ (two.tells x).1 (inl (((mark-fresh n (IsOfLast layers c) none first clear one).tells x).1 last))
      | inr with_row ↦ (two.tells x).1 (inr (made-back x with_row))
    ],
  )

  pub equations-told : (list : List ℕ) → AreMembersOf n (λ i. marked marks i ≡ true) list → AreMembersOf n (IsToldSurplus layers c) list
  equations-told list are = members-as n n (λ i. marked marks i ≡ true) (IsToldSurplus layers c) list refl (λ i low. marked-told i) are

-- a form that is right for some model fits the layers
module _ (p : ℕ) (layers : Layers) (c : Contents) (ok : AreLayers layers) (R : IsRightFormOf p layers c) where
  pub right-fits : FitsForm layers c
  right-fits = record {
    q_rows = sym R.right.shape.q_rows;
    t_rows = sym R.right.shape.t_rows;
    q_origins = All-from_get_or (λ x. x < c.shape.equations) layers.q_origins 0
        (λ k kl. subst (λ m. slice_index layers.q_origins k < m) (sym R.right.shape.equations)
        (R.are.layered.q_rows.below k (omega (arith, kl, ok.q_origins))));
    t_origins = All-from_get_or (λ x. x < c.shape.equations) layers.t_origins 0
        (λ k kl. subst (λ m. slice_index layers.t_origins k < m) (sym R.right.shape.equations)
        (R.are.layered.t_rows.below k (omega (arith, kl, ok.t_origins))));
  }

  pub right-columns : c.shape.unknowns ≤ c.shape.columns
  right-columns = omega (arith, R.right.shape.unknowns, R.right.shape.columns, R.are.layered.columns)

-- what is listed is the report
pub report-made : (p : ℕ) → IsPrime p → 2 < p → (layers : Layers) (c : Contents) → AreLayers layers → IsCcf p c → (told : Report) →
    told.equations ≡ c.shape.equations → told.unknowns ≡ c.shape.unknowns → told.rank ≡ c.rank →
    AreMembersOf c.shape.equations (IsToldSurplus layers c) told.surplus →
    AreMembersOf c.shape.unknowns (λ j. has c.first.columns j ≡ true) told.undetermined → ReportsEach p layers c told
report-made p prime big layers c ok is told equations unknowns rank surplus undetermined model is_model are right = record {
  equations = equations ∙ right.shape.equations;
  unknowns = unknowns ∙ right.shape.unknowns;
  rank = subst (λ r. IsStructuralRank p M r) (sym rank) right.pair_and_rank.rank;
  surplus = members-as c.shape.equations M.rows (IsToldSurplus layers c) (IsSurplus p M) told.surplus right.shape.equations
      (surplus-law p prime big M layers ok O (λ e. refl) (λ d. refl) are.layered c is right) surplus;
  undetermined = members-as c.shape.unknowns M.columns (λ j. has c.first.columns j ≡ true) (IsUndetermined p M) told.undetermined right.shape.unknowns
      (λ j jl. let law = undetermined-law p prime big M (layered_matrix_of layers) O are.layered c is right j jl in (law.1, law.0)) undetermined;
}
  where
    M : MixedMatrix
    M = mixed_matrix_of model

    O : Origins
    O = origins_of layers are.split
