-- What the tails of a right form tell of the equations and unknowns of a model.
use Rattle.std.proofs.Common.{◌≡◌, ◌≢◌, ℕ, ◌+◌, ◌<◌, ◌%◌, ◌↔◌, true, false, length, slice_index, inl, inr, refl, sym, subst, ◌∙◌, arith}
use Rattle.residue_theory.proofs.SetLaws.{differ}
use Rattle.residue_theory.specs.Residues.{IsPrime}
use Rattle.residue_theory.specs.Sets.{has}
use Rattle.mixed_matrices.specs.CheckerRules.{KeepsPartRules}
use Rattle.mixed_matrices.specs.LayeredMatrices.{LayeredMatrix}
use Rattle.mixed_matrices.specs.Layerings.{IsLayeredMatrixOf, Origins, gives_q, has_symbol}
use Rattle.mixed_matrices.specs.Models.{MixedMatrix}
use Rattle.mixed_matrices.specs.Removals.{IsSurplus, IsUndetermined}
use Rattle.mixed_matrices.specs.Tableaus.{IsTableau}
use Rattle.mixed_report_laws.proofs.Removals.{equation_rows}
use Rattle.mixed_report_laws.proofs.Tails.{last-untouched, untouched-last, stays-used, used-stays}
use Rattle.mixed_report_laws.proofs.Tests.{held-undetermined, undetermined-held, rho-surplus, surplus-rho, surplus-untouched, untouched-surplus}
use Rattle.mixed_model.specs.Layers.{Layers, AreLayers, layered_matrix_of}
use Rattle.cert_text.specs.Contents.{Contents}
use Rattle.cert_text.specs.Ranges.{IsCcf}
use Rattle.cert_text.specs.Readings.{StandsOnce, matrix_of, parts_of, lower_of, q_row_lists, tableau_of}
use Rattle.cert_text.specs.Right.{IsRightCcf}
use Rattle.cert_text.proofs.PrintedRules.{KeepsPrintedRules}
use Rattle.cert_text.proofs.RightFacts.{printed-tableau}
use Rattle.cert_text.proofs.RuleFacts.{right-rules}
use Rattle.part_arcs.proofs.FormLaws.{has-some, some-has}
use Rattle.solve_plan.specs.Marks.{IsItem}
use Rattle.solve_plan.specs.Surplus.{IsToldSurplus, IsUsedLast}
use Rattle.solve_plan.proofs.PartPlaces.{first-column, last-t, used-told}

-- ---- a layered matrix
module _ (p : ℕ) (prime : IsPrime p) (big : 2 < p) (M : MixedMatrix) (L : LayeredMatrix) (O : Origins) (lay : IsLayeredMatrixOf M L O)
    (c : Contents) (is : IsCcf p c) (R : IsRightCcf p M L O c) where
  kept : KeepsPrintedRules p M L c
  kept = right-rules p prime big M L O lay c is R

  tab : IsTableau p L (matrix_of c.s) (matrix_of c.u) (tableau_of c)
  tab = printed-tableau p M L c is kept

  rules : KeepsPartRules p L (tableau_of c) (parts_of c) kept.checked.below (lower_of c)
  rules = kept.checked.parts

  -- an unknown is undetermined where its column is listed in the first tail
  pub undetermined-law : (j : ℕ) → j < M.columns → IsUndetermined p M j ↔ (has c.first.columns j ≡ true)
  undetermined-law j jl =
      let low : j < L.columns = omega (arith, lay.columns, jl) in
      let place = first-column c L.columns j kept.columns low in
      let first = R.canonical_listing.parts.first j low in (
        λ h. place.0 (first.1 (undetermined-held p prime big M (gives_q M) (has_symbol M) L O lay j jl h)),
        λ h. held-undetermined p prime big M (gives_q M) (has_symbol M) L O lay j jl (first.0 (place.1 h)),
      )

  -- an equation with a T row is surplus where that row is listed in the last tail
  t-law : (d : ℕ) → d < L.t_rows → IsSurplus p M (O.of_t d) ↔ (has c.last.t_rows d ≡ true)
  t-law d dl =
      let place = last-t c L.t_rows d kept.checked.t_rows dl in (
        λ h. place.0 (untouched-last p prime L (matrix_of c.s) (matrix_of c.u) (tableau_of c) tab (parts_of c) kept.checked.below (lower_of c) rules d dl
            (surplus-untouched p prime big M (gives_q M) (has_symbol M) L O lay d dl h)),
        λ h. untouched-surplus p prime big M (gives_q M) (has_symbol M) L O lay d dl
            (last-untouched p prime L (matrix_of c.s) (matrix_of c.u) (tableau_of c) tab (parts_of c) kept.checked.below (lower_of c) rules d dl (place.1 h)),
      )

  -- an equation without one is surplus where its Q row is used in the last tail
  q-law : (e : ℕ) → e < L.q_rows → has_symbol M (O.of_q e) ≡ false → IsSurplus p M (O.of_q e) ↔ IsUsedLast c e
  q-law e el no_t =
      let rows : c.shape.q_rows ≡ L.q_rows = R.shape.q_rows in
      let once : StandsOnce c.shape.q_rows (q_row_lists c) = subst (λ n. StandsOnce n (q_row_lists c)) (sym rows) kept.checked.q_rows in
      let told : ((k : ℕ) × (k < L.q_rows) × ((parts_of c).q_row k ≡ length c.blocks + 1) × (matrix_of c.s k e % p ≢ 0)) ↔ IsUsedLast c e =
      subst (λ n. ((k : ℕ) × (k < n) × ((parts_of c).q_row k ≡ length c.blocks + 1)
      × (matrix_of c.s k e % p ≢ 0)) ↔ IsUsedLast c e) rows (used-told c p is e once) in (
        λ h. told.0 (stays-used p prime L (matrix_of c.s) (matrix_of c.u) (tableau_of c) tab (parts_of c) kept.checked.below (lower_of c) rules e el
            (surplus-rho p prime big M (gives_q M) (has_symbol M) L O lay e el no_t h)),
        λ used. rho-surplus p prime big M (gives_q M) (has_symbol M) L O lay e el no_t
            (used-stays p prime L (matrix_of c.s) (matrix_of c.u) (tableau_of c) tab (parts_of c) kept.checked.below (lower_of c) rules e el (told.1 used)),
      )

-- ---- its data
module _ (p : ℕ) (prime : IsPrime p) (big : 2 < p) (M : MixedMatrix) (layers : Layers) (ok : AreLayers layers) (O : Origins)
    (of_q : (e : ℕ) → O.of_q e ≡ slice_index layers.q_origins e) (of_t : (d : ℕ) → O.of_t d ≡ slice_index layers.t_origins d)
    (lay : IsLayeredMatrixOf M (layered_matrix_of layers) O)
    (c : Contents) (is : IsCcf p c) (R : IsRightCcf p M (layered_matrix_of layers) O c) where
  -- an item of the origins of T rows has a symbol
  item-symbol : (x : ℕ) → IsItem layers.t_origins x → has_symbol M x ≡ true
  item-symbol x (d, dl, at) = subst (λ y. has_symbol M y ≡ true) (of_t d ∙ at) (lay.t_rows.member d (omega (arith, dl, ok.t_origins)))

  no_item-symbol : (x : ℕ) → x < M.rows → (IsItem layers.t_origins x → ⊥) → has_symbol M x ≡ false
  no_item-symbol x xl none = elim (equation_rows M (layered_matrix_of layers) O lay x xl) [
    | inl (d, dl, at) ↦ absurd (none (d, omega (arith, dl, ok.t_origins), sym (of_t d) ∙ at))
    | inr (e, el, at, no_t) ↦ no_t
  ]

  told-surplus : (x : ℕ) → x < M.rows → IsToldSurplus layers c x → IsSurplus p M x
  told-surplus x xl (inl (k, kl, at)) =
      let d : ℕ = slice_index c.last.t_rows k in
      let dl : d < length layers.t.rows = subst (λ n. d < n) R.shape.t_rows (is.last.t_rows.below k 0 kl) in
      subst (λ y. IsSurplus p M y) (of_t d ∙ at) ((t-law p prime big M (layered_matrix_of layers) O lay c is R d dl).1 (some-has c.last.t_rows k d kl refl))
  told-surplus x xl (inr (e, el, (at, used, none))) =
      let row : O.of_q e ≡ x = of_q e ∙ at in
      subst (λ y. IsSurplus p M y) row ((q-law p prime big M (layered_matrix_of layers) O lay c is R e el
      (subst (λ y. has_symbol M y ≡ false) (sym row) (no_item-symbol x xl none))).1 used)

  surplus-told : (x : ℕ) → x < M.rows → IsSurplus p M x → IsToldSurplus layers c x
  surplus-told x xl h = elim (equation_rows M (layered_matrix_of layers) O lay x xl) [
    | inl (d, dl, at) ↦
        let item = has-some c.last.t_rows d ((t-law p prime big M (layered_matrix_of layers) O lay c is R d dl).0 (subst (λ y. IsSurplus p M y) (sym at) h)) in
        inl (item.0, item.1, subst (λ i. slice_index layers.t_origins i ≡ x) (sym item.2) (sym (of_t d) ∙ at))
    | inr (e, el, at, no_t) ↦
        let used : IsUsedLast c e = (q-law p prime big M (layered_matrix_of layers) O lay c is R e el
        (subst (λ y. has_symbol M y ≡ false) (sym at) no_t)).0 (subst (λ y. IsSurplus p M y) (sym at) h) in
        inr (e, el, (sym (of_q e) ∙ at, used, λ item. differ no_t (item-symbol x item)))
  ]

  -- the form tells that an equation is surplus exactly where it is
  pub surplus-law : (x : ℕ) → x < M.rows → IsToldSurplus layers c x ↔ IsSurplus p M x
  surplus-law x xl = (told-surplus x xl, surplus-told x xl)
