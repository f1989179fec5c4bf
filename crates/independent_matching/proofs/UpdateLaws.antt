-- An engine that goes on from an edit: its layered matrix, and how far its pair is from the best one.
use Rattle.std.proofs.Common.{◌≡◌, ℕ, ◌+◌, ◌-◌, ◌*◌, ◌<◌, ◌≤◌, ◌⊎◌, Bool, false, [], inl, inr, refl, ap, sym, subst, ◌∙◌, arith}
use Rattle.std.proofs.Math.Path.{fun_ext}
use Rattle.std.proofs.lemmas.List.{get_or_past}
use Rattle.residue_theory.specs.Residues.{IsPrime}
use Rattle.residue_theory.specs.Sets.{IsApart, either, everything, has}
use Rattle.residue_theory.specs.Sums.{size_on}
use Rattle.residue_theory.proofs.CountLaws.{size-either, size-everything}
use Rattle.residue_theory.proofs.SumLaws.{size_on-within}
use Rattle.residue_theory.proofs.SetLaws.{lt_cases}
use Rattle.dense_q.specs.Tables.{entry}
use Rattle.sparse_t.specs.Incidences.{Incidence, IsIncidence, columns_at, incidence_rows, touches}
use Rattle.sparse_t.proofs.ListLaws.{has-none}
use Rattle.bipartite_matching.specs.Matchings.{Matching}
use Rattle.row_transform.specs.Tableaus.{TableauState}
use Rattle.mixed_matrices.specs.LayeredMatrices.{LayeredMatrix}
use Rattle.mixed_matrices.specs.Pairs.{IsBest, IsPair, pair_size}
use Rattle.mixed_matrices.specs.StructuralRanks.{IsLayeredRank}
use Rattle.mixed_matrices.specs.Tableaus.{HasTableau}
use Rattle.mixed_model.specs.Layers.{Layers, layered_matrix_of}
use Rattle.mixed_pair_laws.proofs.BestPairs.{Optimal, optimal, optimal-rank}
use Rattle.mixed_pair_laws.proofs.Minimisers.{tableau-pair}
use Rattle.mixed_edit_laws.proofs.FewSteps.{few-steps}
use Rattle.mixed_edit_laws.proofs.Wider.{added, changed, removed}
use Rattle.independent_matching.specs.declared.change.Change.{Change}
use Rattle.independent_matching.specs.declared.change.Change.TheVariants.{Added, Removed, Changed}
use Rattle.independent_matching.specs.Changes.{IsEdit, told_origins}
use Rattle.independent_matching.specs.Edits.{IsEdited}
use Rattle.independent_matching.specs.Engines.{AreFewSteps, AreOpenedEntries, HasRun, IsSolved, IsUpdated, Standing, layers}
use Rattle.independent_matching.specs.Sides.{is_matched, layers_of, mate_of, size_of, tableau_of_pair}
use Rattle.independent_matching.proofs.EditLaws.{same-edited}
use Rattle.independent_matching.proofs.EngineLaws.{entries-tableau}
use Rattle.exchange_graph.specs.Results.{vain_of}

-- ---- the layered matrix
-- outside its rows and columns a pattern touches nothing
outside-row : (p : Incidence) (i j : ℕ) → incidence_rows p ≤ i → touches p i j ≡ false
outside-row p i j le = ap (λ xs. has xs j) (get_or_past p.rows i [] le)

outside-column : (p : Incidence) → IsIncidence p → (i j : ℕ) → i < incidence_rows p → p.width ≤ j → touches p i j ≡ false
outside-column p P i j il le = has-none (columns_at p i) j (λ k kl q. omega (arith, P.below i il k kl, q, le))

same-pattern : (p q : Incidence) → IsIncidence p → IsIncidence q → incidence_rows p ≡ incidence_rows q → p.width ≡ q.width →
    ((i j : ℕ) → i < incidence_rows p → j < p.width → touches p i j ≡ touches q i j) → (i j : ℕ) → touches p i j ≡ touches q i j
same-pattern p q P Q rows width same i j = go (lt_cases i (incidence_rows p)) (lt_cases j p.width)
  where
    go : (i < incidence_rows p) ⊎ (incidence_rows p ≤ i) → (j < p.width) ⊎ (p.width ≤ j) → touches p i j ≡ touches q i j
    go (inl il) (inl jl) = same i j il jl
    go (inr ig) _ = outside-row p i j ig ∙ sym (outside-row q i j (subst (λ n. n ≤ i) rows ig))
    go (inl il) (inr jg) = outside-column p P i j il jg
        ∙ sym (outside-column q Q i j (subst (λ n. i < n) rows il) (subst (λ n. n ≤ j) width jg))

module _ (p : ℕ) (S : TableauState) (M : Matching) (new : Layers) (least : ℕ) (E : IsEdited p (layered_matrix_of new) least S M)
    (width : new.t.width ≡ new.q.width) (P : IsIncidence M.pattern) (Q : IsIncidence new.t) where
  same-t : (λ (i j : ℕ). touches M.pattern i j) ≡ touches new.t
  same-t = fun_ext (λ i. fun_ext (λ j. same-pattern M.pattern new.t P Q E.same.t_rows (E.width ∙ (E.same.columns ∙ sym width))
      (λ i j il jl. E.same.t i j il (subst (λ n. j < n) E.width jl)) i j))

  pub edited-layers : layers (entry new.q) S M ≡ layered_matrix_of new
  edited-layers = rw (E.same.q_rows, E.same.t_rows, E.same.columns, same-t) refl

  pub edited-entries : AreOpenedEntries p S (entry new.q)
  edited-entries = E.same.q

-- ---- the bound
-- no pair is larger than one that is best, so the structural rank is at most its size
pub best-rank : (p : ℕ) → IsPrime p → (L : LayeredMatrix) (I J : ℕ → Bool) → IsBest p L I J → (r : ℕ) × IsLayeredRank p L r × (r ≤ pair_size L I J)
best-rank p prime L I J best =
    let O : Optimal p L = optimal p prime L in
    (pair_size L O.I O.J, optimal-rank p prime L O, best O.I O.J O.mate O.pair)

pub edit-raises : (p : ℕ) → IsPrime p → (change : Change) (L : LayeredMatrix) (new : Layers) → IsEdit change L new → (r s : ℕ) → IsLayeredRank p L r →
    IsLayeredRank p (layered_matrix_of new) s → s ≤ r + 2
edit-raises p prime Added L new edit r s R S =
    added p prime edit.before edit.after L (layered_matrix_of new) edit.origins (told_origins new edit.split) r s edit.change_is edit.layered
    edit.layered_after R S
edit-raises p prime (Removed e) L new edit r s R S = omega (
  arith,
  removed p prime edit.before edit.after e L (layered_matrix_of new) edit.origins (told_origins new edit.split) r s edit.change_is edit.layered
      edit.layered_after R S,
)
edit-raises p prime (Changed e) L new edit r s R S =
    changed p prime edit.before edit.after e L (layered_matrix_of new) edit.origins (told_origins new edit.split) r s edit.change_is edit.layered
    edit.layered_after R S

-- a pair is no larger than a best one
pub pair-within : (p : ℕ) → IsPrime p → (q : ℕ → ℕ → ℕ) (S S' : TableauState) (M M' : Matching) → layers q S' M' ≡ layers q S M →
    HasTableau p (layers q S M) (tableau_of_pair S M) → IsBest p (layers q S' M') S'.base (is_matched M') → size_of S M ≤ size_of S' M'
pair-within p prime q S S' M M' same tableau best =
    let columns : S'.columns ≡ S.columns = ap (λ (L : LayeredMatrix). L.columns) same in
    let pair : IsPair p (layers q S' M') S.base (is_matched M) (mate_of M) =
    subst (λ K. IsPair p K S.base (is_matched M) (mate_of M)) (sym same) (tableau-pair p prime (layers q S M) (tableau_of_pair S M) tableau) in
    omega (
      arith,
      best S.base (is_matched M) (mate_of M) pair,
      ap (λ n. size_on S.base n) columns,
      ap (λ n. size_on (is_matched M) n) columns,
    )

within-columns : (X Y : ℕ → Bool) (n : ℕ) → IsApart n X Y → size_on X n + size_on Y n ≤ n
within-columns X Y n apart = omega (arith, size-either X Y n apart, size_on-within everything (either X Y) n (λ j l h. refl), size-everything n)

-- from a pair that lacks at most four columns of the best one
pub update-steps : (n big s m r before after searches : ℕ) → s ≤ m → m ≤ r + 2 → r ≤ s + 2 → m ≤ n → n ≤ big →
    AreFewSteps n s m before after → searches + s ≡ m + 1 →
    (after ≤ before + 14 * big) × (searches ≤ 5)
update-steps n big s m r before after searches sm mr rs mn nb steps made =
    let few = few-steps n s m before after searches sm (omega (arith, mr, rs)) mn steps made in
    (omega (arith, few.0, nb), few.1)

module _ (A : Type 0) (state : A → TableauState) (count : A → ℕ) (p : ℕ) (prime : IsPrime p) (change : Change) (new : Layers)
    (width : new.t.width ≡ new.q.width) (mid now : Standing A) (before after : ℕ) (run : HasRun A state count p mid now before after)
    (L : LayeredMatrix) (I J : ℕ → Bool) (best : IsBest p L I J) (edit : IsEdit change L new)
    (E : IsEdited p (layered_matrix_of new) (pair_size L I J - 2) (state mid.tableau) mid.matching)
    (P : IsIncidence mid.matching.pattern) (Q : IsIncidence new.t)
    (tableau : HasTableau p (layers_of (state mid.tableau) mid.matching) (tableau_of_pair (state mid.tableau) mid.matching)) where
  opened : AreOpenedEntries p (state mid.tableau) (entry new.q)
  opened = edited-entries p (state mid.tableau) mid.matching new (pair_size L I J - 2) E width P Q

  layered : layers (entry new.q) (state now.tableau) now.matching ≡ layered_matrix_of new
  layered = run.same (entry new.q) ∙ edited-layers p (state mid.tableau) mid.matching new (pair_size L I J - 2) E width P Q

  solved : IsSolved p (layers (entry new.q) (state now.tableau) now.matching) (tableau_of_pair (state now.tableau) now.matching) (vain_of now.found)
  solved = run.solved (entry new.q) (run.entries (entry new.q) opened)

  pub updated : IsUpdated A state p new now
  updated = record {
    layers_are = layered;
    entries = run.entries (entry new.q) opened;
    solved = subst (λ K. IsSolved p K (tableau_of_pair (state now.tableau) now.matching) (vain_of now.found)) layered solved;
  }

  pub update-bound : (big : ℕ) → new.q.width ≤ big → (after ≤ before + 14 * big) × (now.searches ≤ 5)
  update-bound big wide =
      let R = best-rank p prime L I J best in
      let S = state mid.tableau in
      let S' = state now.tableau in
      let m = size_of S' now.matching in
      let rank : IsLayeredRank p (layered_matrix_of new) m = subst (λ K. IsLayeredRank p K m) layered solved.rank in
      let columns : S'.columns ≡ S.columns = ap (λ (K : LayeredMatrix). K.columns) (run.same (entry new.q)) in
      update-steps S.columns big (size_of S mid.matching) m R.0 before after now.searches
      (pair-within p prime (entry new.q) S S' mid.matching now.matching (run.same (entry new.q))
      (entries-tableau p (entry new.q) S mid.matching opened tableau) solved.best)
      (edit-raises p prime change L new edit R.0 m R.1 rank)
      (omega (arith, R.2, E.size))
      (omega (arith, within-columns S'.base (is_matched now.matching) S'.columns solved.tableau.apart, columns))
      (omega (arith, wide, E.same.columns))
      run.steps run.searches

-- before the edit
pub started-edited : (p : ℕ) (q : ℕ → ℕ → ℕ) (S : TableauState) (M : Matching) → AreOpenedEntries p S q →
    IsEdited p (layers_of S M) (size_of S M) S M → IsEdited p (layers q S M) (size_of S M) S M
started-edited p q S M opened E = same-edited p (layers_of S M) (layers q S M) (size_of S M) S M
    (record { q_rows = refl; t_rows = refl; columns = refl; q = opened; t = λ i j _ _. refl }) E
