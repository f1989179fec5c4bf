-- A row that has an entry at a free column: the walk back of no arcs is a shortest one.
use Rattle.std.proofs.Common.{◌≡◌, ℕ, ◌+◌, ◌<◌, Bool, true, false, inl, inr, refl, ap, ◌∙◌, unwrap_or, arith}
use Rattle.residue_theory.proofs.SetLaws.{differ, lt_cases}
use Rattle.residue_theory.proofs.SumLaws.{nat_cases}
use Rattle.residue_theory.specs.Ranges.{HasNone, IsLeast}
use Rattle.search_laws.specs.Searches.{IsShortest}
use Rattle.mixed_matrices.specs.Arcs.{is_free}
use Rattle.mixed_matrices.specs.Tableaus.{HasTableau}
use Rattle.bipartite_matching.specs.Matchings.{Matching}
use Rattle.row_transform.specs.Tableaus.{TableauState}
use Rattle.independent_matching.specs.Engines.{layers}
use Rattle.independent_matching.specs.Sides.{layers_of, tableau_of_pair}
use Rattle.row_choice_laws.specs.ColumnSearches.{leads_back}
use Rattle.row_choice_laws.specs.RowSearches.{has_row_entry, is_bare_row, places}
use Rattle.equation_choice.specs.Pairs.{CanTakePlace, HasGrownBack, HasNoFree, HasTakenPlace, place_held}
use Rattle.equation_choice.proofs.Growing.{IsGrowing, growing-can, growing-next, growing-start, grown-back, grown-tableau}

-- ---- of the columns with an entry none before a place is free
module _ (has free : ℕ → Bool) (n at : ℕ) (before : HasNoFree at has free) where
  pub none-free-next : (x : ℕ) → IsLeast has at n x → free x ≡ false → HasNoFree (x + 1) has free
  none-free-next x least taken y yl h f = elim (nat_cases y x) [
    | inl q ↦ differ (ap free q ∙ taken) f
    | inr ne ↦ elim (lt_cases y at) [
      | inl l ↦ before y l h f
      | inr g ↦ differ (least.none_before y g (omega (arith, yl, ne))) h
    ]
  ]

  pub none-free-all : HasNone has at n → HasNoFree n has free
  none-free-all rest y yl h f = elim (lt_cases y at) [
    | inl l ↦ before y l h f
    | inr g ↦ differ (rest y g yl) h
  ]

walk-of-none : (arc : ℕ → ℕ → Bool) (n : ℕ) (starts ends : ℕ → Bool) (x : ℕ) → x < n → starts x ≡ true → ends x ≡ true →
    IsShortest arc n starts ends (λ _. x) 0
walk-of-none arc n starts ends x l begin end = record {
  fewer = omega (arith, l);
  begins = begin;
  stops = end;
  below = λ i le. l;
  follows = λ i less. absurd (let no : ⊥ = omega (arith, less) in no);
  least = λ s e m sl el hs he w. omega arith;
}

module _ (p : ℕ) (q : ℕ → ℕ → ℕ) (S : TableauState) (M : Matching) (T : HasTableau p (layers q S M) (tableau_of_pair S M)) (s : ℕ)
    (sl : s < places (layers_of S M)) (bare : is_bare_row (layers_of S M) (tableau_of_pair S M) s ≡ true) (x : ℕ) (xl : x < S.columns)
    (has : has_row_entry p (layers_of S M) (tableau_of_pair S M) s x ≡ true) (free : is_free (tableau_of_pair S M) x ≡ true) where
  pub direct-walk : IsShortest (leads_back p (layers q S M) (tableau_of_pair S M)) S.columns
      (has_row_entry p (layers q S M) (tableau_of_pair S M) s) (is_free (tableau_of_pair S M)) (λ _. x) 0
  direct-walk = walk-of-none (leads_back p (layers q S M) (tableau_of_pair S M)) S.columns (has_row_entry p (layers q S M) (tableau_of_pair S M) s)
      (is_free (tableau_of_pair S M)) x xl has free

  start : IsGrowing p q S M s (λ _. x) 0 0 s S M
  start = growing-start p q S M T s sl bare (λ _. x) 0 direct-walk

  pub direct-can : CanTakePlace p (layers_of S M) (tableau_of_pair S M) s x
  direct-can = growing-can p q S M T s sl bare (λ _. x) 0 direct-walk 0 s S M start (omega arith)

  module _ (S' : TableauState) (M' : Matching) (taken : HasTakenPlace p S S' M M' s x) where
    next : IsGrowing p q S M s (λ _. x) 0 1 (unwrap_or (place_held (layers_of S M) (tableau_of_pair S M) x) s) S' M'
    next = growing-next p q S M T s sl bare (λ _. x) 0 direct-walk 0 s S M start (omega arith) S' M' taken
        (place_held (layers_of S M) (tableau_of_pair S M) x) refl

    pub direct-tableau : HasTableau p (layers q S M) (tableau_of_pair S' M')
    direct-tableau = grown-tableau p q S M T s sl bare (λ _. x) 0 direct-walk 1 (unwrap_or (place_held (layers_of S M) (tableau_of_pair S M) x) s)
        S' M' next refl

    pub direct-grown : HasGrownBack p (layers q S M) S.s S'.s (tableau_of_pair S M) (tableau_of_pair S' M') s (λ _. x) 0
    direct-grown = grown-back p q S M T s sl bare (λ _. x) 0 direct-walk 1 (unwrap_or (place_held (layers_of S M) (tableau_of_pair S M) x) s)
        S' M' next refl
