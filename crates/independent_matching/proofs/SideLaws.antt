-- A tableau and a matching, and the tableau of the layered matrix that they make.
use Rattle.std.proofs.Common.{◌≡◌, ◌<◌, ◌∙◌, ◌||◌, ℕ, Bool, true, false, List, length, Option, Some, None, is_some, slice_index, refl, sym, subst, arith}
use Rattle.linear_algebra.specs.Bases.{HasNoBase}
use Rattle.sparse_t.specs.Incidences.{AreRowsAt}
use Rattle.sparse_t.proofs.ListLaws.{has-member}
use Rattle.bipartite_matching.specs.Matchings.{Matching, HasPair, IsMatching, IsRowFree}
use Rattle.mixed_matrices.specs.Arcs.{is_end}
use Rattle.mixed_augmentation_laws.specs.Moves.{IsFreeRow}
use Rattle.mixed_augmentation_laws.proofs.Routes.{end-free_row, free_row-end}
use Rattle.residue_theory.proofs.SetLaws.{differ, not_true}
use Rattle.row_transform.specs.Tableaus.{TableauState}
use Rattle.exchange_graph.specs.Marks.{members_of}
use Rattle.independent_matching.specs.declared.marks.Marks.{Marks}
use Rattle.independent_matching.specs.declared.resting.Resting.{Resting}
use Rattle.independent_matching.specs.Marks.{IsEndMark, IsQMark, IsTMark, marked_row}
use Rattle.independent_matching.specs.Sides.{HasNoMate, IsFreeQRow, IsFreeTRow, layers_of, tableau_of_pair}
use Rattle.bipartite_matching.proofs.MateLaws.{pair-matched}

-- a row that no column had is free after a parting
pub unlinked-free : (M K : Matching) (row : ℕ) → IsMatching M → ((r c : ℕ) → HasPair K r c → HasPair M r c) →
    (n : ℕ) → M.pattern.width ≡ n → (J : ℕ → Bool) (mate : ℕ → ℕ) → ((c : ℕ) → HasPair M row c → (J c ≡ true)
    × (mate c ≡ row)) → HasNoBase n J mate row → IsRowFree K row
unlinked-free M K row matching kept n same J mate reads none col h =
    let old = kept row col h in
    none col (omega (arith, same, matching.column row col old)) (reads col old).0 (reads col old).1

-- a row that no column is matched with is free
mate-free : (M : Matching) → IsMatching M → (row : ℕ) → HasNoMate M row → IsRowFree M row
mate-free M matching row none col h = let (m, e) = pair-matched M row col h in none col (matching.column row col h) m e

-- the rows in a column's list are those that touch it
module _ (M : Matching) (matching : IsMatching M) (x : ℕ) (list : List ℕ) (rows : AreRowsAt M.pattern x list) where
  -- where none of them is free, no row that touches the column is
  pub no_free_row : ((k : ℕ) → k < length list → IsRowFree M (slice_index list k) → ⊥) → (row : ℕ) → IsFreeTRow M x row → ⊥
  no_free_row taken row E =
      let (k, kl, q) = has-member list row (rows.exact row E.below ∙ E.touching) in
      taken k kl (subst (λ r. IsRowFree M r) (sym q) (mate-free M matching row E.loose))

-- ---- ends
module _ (p : ℕ) (S : TableauState) (M : Matching) (x : ℕ) where
  pub free-end : (in_q : Bool) (row : ℕ) → IsFreeRow p (layers_of S M) (tableau_of_pair S M) x in_q row → true ≡ is_end p (layers_of S M)
      (tableau_of_pair S M) x
  free-end in_q row E = sym (free_row-end p (layers_of S M) (tableau_of_pair S M) x in_q row E)

  pub free_q-row : (row : ℕ) → IsFreeQRow p S x row → IsFreeRow p (layers_of S M) (tableau_of_pair S M) x true row
  free_q-row row E = record { of_q = λ _. (E.below, E.entry, E.bare); of_t = λ e. absurd (differ e refl) }

  module _ (width : M.pattern.width ≡ S.columns) where
    pub free_t-row : (row : ℕ) → IsFreeTRow M x row → IsFreeRow p (layers_of S M) (tableau_of_pair S M) x false row
    free_t-row row E = record { of_q = λ e. absurd (differ refl e); of_t = λ _. (E.below, E.touching, λ y l. E.loose y (omega (arith, l, width))) }

    pub none-end : ((row : ℕ) → IsFreeTRow M x row → ⊥) → ((row : ℕ) → IsFreeQRow p S x row → ⊥) → false ≡ is_end p (layers_of S M) (tableau_of_pair S M) x
    none-end t_rows q_rows = sym (not_true (is_end p (layers_of S M) (tableau_of_pair S M) x) (λ h. let (in_q, row, E) =
        end-free_row p (layers_of S M) (tableau_of_pair S M) x h in refuted in_q row E))
      where
        refuted : (in_q : Bool) (row : ℕ) → IsFreeRow p (layers_of S M) (tableau_of_pair S M) x in_q row → ⊥
        refuted true row E = let (l, ne, bare) = E.of_q refl in q_rows row (record { below = l; entry = ne; bare = bare })
        refuted false row E = let (l, t, none) = E.of_t refl in
            t_rows row (record { below = l; touching = t; loose = λ c cl. none c (omega (arith, cl, width)) })

    -- the marks tell the ends
    pub mark-end : (r : Resting) (m : Marks) → IsEndMark r m x → IsTMark M r.by_t.items x → IsQMark p S m.by_q.items x →
        members_of m.ends.items x ≡ is_end p (layers_of S M) (tableau_of_pair S M) x
    mark-end r m end t q = end ∙ go (members_of r.by_t.items x) (marked_row m.by_q.items x) t.some t.none q.some q.none
      where
        go : (by_t : Bool) (by_q : Option ℕ) → (by_t ≡ true → (row : ℕ) × IsFreeTRow M x row) → (by_t ≡ false → (row : ℕ) → IsFreeTRow M x row → ⊥) →
            ((row : ℕ) → by_q ≡ Some row → IsFreeQRow p S x row) → (by_q ≡ None → (row : ℕ) → IsFreeQRow p S x row →
            ⊥) → (by_t || is_some by_q) ≡ is_end p (layers_of S M) (tableau_of_pair S M) x
        go true by_q some none q_some q_none = let (row, E) = some refl in free-end false row (free_t-row row E)
        go false (Some row) some none q_some q_none = free-end true row (free_q-row row (q_some row refl))
        go false None some none q_some q_none = none-end (none refl) (q_none refl)
