-- What stands in the tails, by lists and by parts.
use Rattle.std.proofs.Common.{◌≡◌, ◌≢◌, ℕ, suc, ◌+◌, ◌<◌, ◌%◌, ◌↔◌, true, eqb, List, [], ◌∷◌, ◌++◌, length, map}
use Rattle.std.proofs.Common.{slice_index, slice_index_or, refl, ap, sym, subst, ◌∙◌, arith}
use Rattle.std.proofs.lemmas.List.{get_or_push, get_or-map, length_push, length-map}
use Rattle.residue_theory.proofs.SetLaws.{not_true, eqb_true, eqb_false}
use Rattle.residue_theory.specs.Sets.{has}
use Rattle.closed_sets.proofs.SetLaws.{not-true, not-make}
use Rattle.cert_text.specs.Contents.{Contents}
use Rattle.cert_text.specs.Ranges.{IsCcf}
use Rattle.cert_text.specs.Readings.{StandsOnce, column_lists, matrix_of, parts_of, place_of, q_row_lists, t_row_lists}
use Rattle.cert_text.specs.declared.part.CcfBlock.{CcfBlock}
use Rattle.cert_text.proofs.PrintedRules.{place-is}
use Rattle.part_arcs.specs.Marking.{first_numbers, row_of_lists}
use Rattle.part_arcs.proofs.FormLaws.{entries-test, has-some, some-has}
use Rattle.solve_plan.specs.Surplus.{IsUsedLast}

module _ (n : ℕ) (one : List ℕ) (middle : List (List ℕ)) (last : List ℕ) (once : StandsOnce n (one ∷ (middle ++ last ∷ []))) (x : ℕ) (low : x < n) where
  abbrev lists : List (List ℕ)
  lists = one ∷ (middle ++ last ∷ [])

  place-held : has (slice_index_or lists (place_of lists x) []) x ≡ true
  place-held =
      let at = once.some x low in
      subst (λ k. has (slice_index_or lists k []) x ≡ true) (sym (place-is n lists once x at.0 low at.1 at.2)) at.2

  last-at : slice_index_or lists (suc (length middle)) [] ≡ last
  last-at = get_or_push middle last [] (length middle) refl

  next : (m : ℕ) → suc m ≡ m + 1
  next m = omega arith

  pub first-place : (place_of lists x ≡ 0) ↔ (has one x ≡ true)
  first-place = (
    λ q. subst (λ k. has (slice_index_or lists k []) x ≡ true) q place-held,
    λ h. place-is n lists once x 0 low (omega arith) h,
  )

  pub last-place : (place_of lists x ≡ length middle + 1) ↔ (has last x ≡ true)
  last-place = (
    λ q. subst (λ list. has list x ≡ true) last-at (subst (λ k. has (slice_index_or lists k []) x ≡ true) (q ∙ sym (next (length middle))) place-held),
    λ h. place-is n lists once x (suc (length middle)) low (within (length middle) (length (middle ++ last ∷ []))
        (length_push middle last)) (subst (λ list. has list x ≡ true) (sym last-at) h) ∙ next (length middle),
  )
    where
      within : (m l : ℕ) → l ≡ m + 1 → suc m < suc l
      within m l long = omega (arith, long)

module _ (c : Contents) where
  blocks-count : (f : CcfBlock → List ℕ) → length (map f c.blocks) + 1 ≡ length c.blocks + 1
  blocks-count f = ap (λ m. m + 1) (length-map c.blocks f)

  pub first-column : (n x : ℕ) → StandsOnce n (column_lists c) → x < n → ((parts_of c).column x ≡ 0) ↔ (has c.first.columns x ≡ true)
  first-column n x once low = first-place n c.first.columns (map (λ (block : CcfBlock). block.part.columns) c.blocks) c.last.columns once x low

  pub last-t : (n x : ℕ) → StandsOnce n (t_row_lists c) → x < n → ((parts_of c).t_row x ≡ length c.blocks + 1) ↔ (has c.last.t_rows x ≡ true)
  last-t n x once low = subst (λ m. ((parts_of c).t_row x ≡ m) ↔ (has c.last.t_rows x ≡ true)) (blocks-count (λ (block : CcfBlock). block.part.t_rows))
      (last-place n c.first.t_rows (map (λ (block : CcfBlock). block.part.t_rows) c.blocks) c.last.t_rows once x low)

  pub last-q : (n x : ℕ) → StandsOnce n (q_row_lists c) → x < n → ((parts_of c).q_row x ≡ length c.blocks + 1) ↔ (has c.last.q_rows x ≡ true)
  last-q n x once low = subst (λ m. ((parts_of c).q_row x ≡ m) ↔ (has c.last.q_rows x ≡ true)) (blocks-count (λ (block : CcfBlock). block.part.q_rows))
      (last-place n c.first.q_rows (map (λ (block : CcfBlock). block.part.q_rows) c.blocks) c.last.q_rows once x low)

  -- S has an entry exactly where its number is not 0
  module _ (p : ℕ) (is : IsCcf p c) where
    entry-test : (k e : ℕ) → k < c.shape.q_rows → (matrix_of c.s k e % p ≢ 0) ↔ (has (row_of_lists (map first_numbers c.s) k) e ≡ true)
    entry-test k e kl =
        let low : k < length c.s = subst (λ m. k < m) (sym is.s.count) kl in
        let test = entries-test p c.shape.q_rows (slice_index_or c.s k []) e (is.s.entries k [] low) in
        let row : row_of_lists (map first_numbers c.s) k ≡ first_numbers (slice_index_or c.s k []) = get_or-map first_numbers c.s k [] [] low in (
          λ ne. subst (λ list. has list e ≡ true) (sym row)
              (test.0 (not-make (eqb (matrix_of c.s k e % p) 0) (not_true (eqb (matrix_of c.s k e % p) 0)
              (λ h. ne (eqb_true (matrix_of c.s k e % p) 0 h))))),
          λ h. eqb_false (matrix_of c.s k e % p) 0 (not-true (eqb (matrix_of c.s k e % p) 0) (test.1 (subst (λ list. has list e ≡ true) row h))),
        )

    pub used-told : (e : ℕ) → StandsOnce c.shape.q_rows (q_row_lists c) →
        ((k : ℕ) × (k < c.shape.q_rows) × ((parts_of c).q_row k ≡ length c.blocks + 1) × (matrix_of c.s k e % p ≢ 0)) ↔ IsUsedLast c e
    used-told e once = (told, back)
      where
        told : (k : ℕ) × (k < c.shape.q_rows) × ((parts_of c).q_row k ≡ length c.blocks + 1) × (matrix_of c.s k e % p ≢ 0) → IsUsedLast c e
        told (k, kl, place, ne) =
            let at = has-some c.last.q_rows k ((last-q c.shape.q_rows k once kl).0 place) in
            let item = has-some (row_of_lists (map first_numbers c.s) k) e ((entry-test k e kl).0 ne) in (
              at.0,
              at.1,
              subst (λ i. (j : ℕ) × (j < length (row_of_lists (map first_numbers c.s) i)) ×
                  (slice_index (row_of_lists (map first_numbers c.s) i) j ≡ e)) (sym at.2) item,
            )

        back : IsUsedLast c e → (k : ℕ) × (k < c.shape.q_rows) × ((parts_of c).q_row k ≡ length c.blocks + 1) × (matrix_of c.s k e % p ≢ 0)
        back (i, il, (j, jl, at)) =
            let k : ℕ = slice_index c.last.q_rows i in
            let kl : k < c.shape.q_rows = is.last.q_rows.below i 0 il in (
              k,
              kl,
              (last-q c.shape.q_rows k once kl).1 (some-has c.last.q_rows i k il refl),
              (entry-test k e kl).1 (some-has (row_of_lists (map first_numbers c.s) k) j e jl at),
            )
