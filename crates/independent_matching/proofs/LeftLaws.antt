-- Which T rows have a mate while the columns of a walk move, and after it.
use Rattle.std.proofs.Common.{◌≡◌, ◌≢◌, ◌<◌, ◌∙◌, ◌↔◌, ℕ, true, false, Option, Some, None, inl, inr, refl, sym, ap, subst, arith}
use Rattle.residue_theory.proofs.SetLaws.{differ}
use Rattle.residue_theory.proofs.SumLaws.{nat_cases}
use Rattle.bipartite_matching.specs.Matchings.{Matching}
use Rattle.row_transform.specs.Tableaus.{TableauState}
use Rattle.mixed_augmentation_laws.proofs.Moves.{test_cases}
use Rattle.mixed_matrices.specs.Tableaus.{Tableau}
use Rattle.independent_matching.specs.declared.row.Row.{Row}
use Rattle.independent_matching.specs.declared.row.Row.TheVariants.{Q, T}
use Rattle.independent_matching.specs.Sides.{AreRowsLeft, AreRowsMoving, HasNoMate, Takes, in_q, is_matched, layers_of}
use Rattle.independent_matching.specs.Sides.{mate_of, number, row_had, tableau_of_pair}
use Rattle.independent_matching.proofs.MoveLaws.{had-base, had-mate, had-none}

some_is_no_none : {A : Type 0} (a : A) → None ≡ Some a → ⊥
some_is_no_none a e = cc

q_is_no_t : (i j : ℕ) → Some (Q i) ≡ Some (T j) → ⊥
q_is_no_t i j e = cc

same_t : (i j : ℕ) → Some (T i) ≡ Some (T j) → i ≡ j
same_t i j e = cc

same_some : (a b : Row) → Some a ≡ Some b → a ≡ b
same_some a b e = cc

-- which column has the T row
had-t : (F : Tableau) (x row : ℕ) → row_had F x ≡ Some (T row) → (F.matched x ≡ true) × (F.mate x ≡ row)
had-t F x row h = elim (test_cases (F.base x)) [
  | inl b ↦ absurd (q_is_no_t (F.row x) row (sym (had-base F x b) ∙ h))
  | inr n ↦ elim (test_cases (F.matched x)) [
    | inl m ↦ (m, same_t (F.mate x) row (sym (had-mate F x n m) ∙ h))
    | inr o ↦ absurd (some_is_no_none (T row) (sym (had-none F x n o) ∙ h))
  ]
]

-- before the first move
pub moving-rows : (M : Matching) (end : Row) → AreRowsMoving M end M (Some end)
moving-rows M end row = (λ h. (h.0, λ e. h.1 (ap Some e)), λ h. (h.0, λ e. h.1 (same_some end (T row) e)))

-- after the last one
pub moved-rows : (M₀ M : Matching) (end : Row) (next : Option Row) → next ≡ None → AreRowsMoving M₀ end M next → AreRowsLeft M₀ M end
moved-rows M₀ M end next done rows row = (λ h. (rows row).0 (h, λ e. some_is_no_none (T row) (sym done ∙ e)), λ h. ((rows row).1 h).0)

-- column v moves
module _ (p : ℕ) (S S' : TableauState) (M M' : Matching) (width : M.pattern.width ≡ S.columns)
    (same_width : M'.pattern.width ≡ M.pattern.width) (v : ℕ) (below : v < S.columns)
    (apart : S.base v ≡ true → is_matched M v ≡ true → ⊥) (taken : Row) (takes : Takes p (layers_of S M) (tableau_of_pair S M) (tableau_of_pair S' M') taken
    v) where
  abbrev next : Option Row
  next = row_had (tableau_of_pair S M) v

  now : (y : ℕ) → y < M.pattern.width → y < M'.pattern.width
  now y l = omega (arith, l, same_width)

  was : (y : ℕ) → y < M'.pattern.width → y < M.pattern.width
  was y l = omega (arith, l, same_width)

  column : (y : ℕ) → y < M.pattern.width → y < S.columns
  column y l = omega (arith, l, width)

  v_here : v < M.pattern.width
  v_here = omega (arith, below, width)

  -- the row that v leaves is the one that comes next
  next-row : (row : ℕ) → is_matched M v ≡ true → mate_of M v ≡ row → next ≡ Some (T row)
  next-row row m e = had-mate (tableau_of_pair S M) v no_base m ∙ ap (λ r. Some (T r)) e
    where
      no_base : S.base v ≡ false
      no_base = elim (test_cases (S.base v)) [ inl b ↦ absurd (apart b m) | inr n ↦ n ]

  not-next : (row : ℕ) → HasNoMate M row → next ≢ Some (T row)
  not-next row loose e = let h = had-t (tableau_of_pair S M) v row e in loose v v_here h.0 h.1

  -- where the others keep their rows
  module _ (tests : (y : ℕ) → y < S.columns → y ≢ v → is_matched M' y ≡ is_matched M y) (mates : (y : ℕ) →
      y < S.columns → y ≢ v → mate_of M' y ≡ mate_of M y) (row : ℕ) where
    loose-was : HasNoMate M' row → next ≢ Some (T row) → HasNoMate M row
    loose-was loose ne y l m e = elim (nat_cases y v) [
      | inl q ↦ ne (next-row row (subst (λ k. is_matched M k ≡ true) q m) (subst (λ k. mate_of M k ≡ row) q e))
      | inr o ↦ loose y (now y l) (tests y (column y l) o ∙ m) (mates y (column y l) o ∙ e)
    ]

    loose-now : HasNoMate M row → (is_matched M' v ≡ true → mate_of M' v ≢ row) → HasNoMate M' row
    loose-now loose here y l m e = elim (nat_cases y v) [
      | inl q ↦ here (subst (λ k. is_matched M' k ≡ true) q m) (subst (λ k. mate_of M' k ≡ row) q e)
      | inr o ↦ loose y (was y l) (sym (tests y (column y (was y l)) o) ∙ m) (sym (mates y (column y (was y l)) o) ∙ e)
    ]

  move : (r : Row) → taken ≡ r → (row : ℕ) → (HasNoMate M' row × (next ≢ Some (T row))) ↔ (HasNoMate M row × (Some taken ≢ Some (T row)))
  move (Q i) is row =
      let U = (takes.of_q (ap in_q is)).unlinked in (
        λ h. (loose-was U.tests U.mates row h.0 h.1, λ e. q_is_no_t i row (sym (ap Some is) ∙ e)),
        λ h. (loose-now U.tests U.mates row h.0 (λ m. absurd (differ U.gone m)), not-next row h.0),
      )
  move (T i) is row =
      let N = (takes.of_t (ap in_q is)).linked in
      let partner : mate_of M' v ≡ i = N.partner ∙ ap number is in (
        λ h. (loose-was N.tests N.mates row h.0 h.1, λ e. h.0 v (now v v_here) N.member (partner ∙ same_t i row (sym (ap Some is) ∙ e))),
        λ h. (loose-now N.tests N.mates row h.0 (λ _ e. h.1 (ap Some is ∙ ap (λ r. Some (T r)) (sym partner ∙ e))), not-next row h.0),
      )

  pub move-rows : (M₀ : Matching) (end : Row) → AreRowsMoving M₀ end M (Some taken) → AreRowsMoving M₀ end M' next
  move-rows M₀ end rows row = let step = move taken refl row in (λ h. (rows row).0 (step.0 h), λ h. step.1 ((rows row).1 h))
