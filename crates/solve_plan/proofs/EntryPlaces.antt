-- The columns at which the rows of a part have entries.
use Rattle.std.proofs.Common.{◌≡◌, ◌≢◌, ℕ, ◌<◌, ◌≤◌, ◌%◌, ◌⊎◌, ◌↔◌, Bool, true, false, eqb, cond, List, [], ◌∷◌}
use Rattle.std.proofs.Common.{length, map, replicate, slice_index, slice_index_or, inl, inr, refl, sym, subst, arith}
use Rattle.std.proofs.Math.Nat.{mod-le}
use Rattle.std.proofs.lemmas.List.{get_or-map}
use Rattle.residue_theory.proofs.SetLaws.{differ, not_true, either-first, either-second, eqb_false}
use Rattle.residue_theory.specs.Sets.{has}
use Rattle.closed_sets.proofs.SetLaws.{not-true}
use Rattle.cert_text.specs.Contents.{Contents}
use Rattle.cert_text.specs.Ranges.{AreEntries, IsCcf, IsPart}
use Rattle.cert_text.specs.Readings.{entry_at, matrix_of}
use Rattle.cert_text.specs.declared.part.CcfPart.{CcfPart}
use Rattle.cert_text.proofs.PrintedRules.{has-below}
use Rattle.part_arcs.specs.Marking.{first_numbers, row_of_lists}
use Rattle.part_arcs.proofs.FormLaws.{entries-test, has-some, some-has}
use Rattle.part_rules.specs.Listed.{marked}
use Rattle.solve_plan.specs.Marks.{AreMembersOf, IsItem, Marks, OfSome, Unmarks}
use Rattle.solve_plan.specs.PlanSteps.{HasEntryAt}
use Rattle.solve_plan.proofs.MarkSets.{mark-fresh}
use Rattle.solve_plan.proofs.ReportLaws.{members-as}

-- where the number is not 0 an entry stands
entry-key : (entries : List (ℕ × ℕ)) (x : ℕ) → entry_at entries x ≢ 0 → has (first_numbers entries) x ≡ true
entry-key [] x apart = absurd (apart refl)
entry-key (entry ∷ entries) x apart = go (eqb entry.0 x) refl (entry-key entries x)
  where
    go : (b : Bool) → eqb entry.0 x ≡ b → (entry_at entries x ≢ 0 → has (first_numbers entries) x ≡ true) → has (first_numbers (entry ∷ entries)) x ≡ true
    go true e rest = either-first (eqb entry.0 x) (has (first_numbers entries) x) e
    go false e rest = either-second (eqb entry.0 x) (has (first_numbers entries) x) (rest (subst (λ b. cond b entry.1 (entry_at entries x) ≢ 0) e apart))

module _ (p n : ℕ) (entries : List (ℕ × ℕ)) (are : AreEntries p n entries) (x : ℕ) where
  key-nonzero : has (first_numbers entries) x ≡ true → entry_at entries x % p ≢ 0
  key-nonzero h = eqb_false (entry_at entries x % p) 0 (not-true (eqb (entry_at entries x % p) 0) ((entries-test p n entries x are).1 h))

  key-entry : has (first_numbers entries) x ≡ true → entry_at entries x ≢ 0
  key-entry h zero = key-nonzero h (let less : entry_at entries x % p ≤ entry_at entries x = mod-le (entry_at entries x) p in omega (arith, less, zero))

-- what a list holds is an item
item-has : (list : List ℕ) (x : ℕ) → IsItem list x → has list x ≡ true
item-has list x (k, kl, is) = some-has list k x kl is

-- ---- the rows of a form
module _ (p : ℕ) (c : Contents) (is : IsCcf p c) where
  module _ (i x : ℕ) (il : i < c.shape.q_rows) where
    low : i < length c.p
    low = subst (λ m. i < m) (sym is.p.count) il

    row : row_of_lists (map first_numbers c.p) i ≡ first_numbers (slice_index_or c.p i [])
    row = get_or-map first_numbers c.p i [] [] low

    -- an entry of P is not 0 modulo p
    pub entry-nonzero : matrix_of c.p i x ≢ 0 → matrix_of c.p i x % p ≢ 0
    entry-nonzero apart = key-nonzero p c.shape.columns (slice_index_or c.p i []) (is.p.entries i [] low) x (entry-key (slice_index_or c.p i []) x apart)

    entry-listed : matrix_of c.p i x ≢ 0 → has (row_of_lists (map first_numbers c.p) i) x ≡ true
    entry-listed apart = subst (λ keys. has keys x ≡ true) (sym row) (entry-key (slice_index_or c.p i []) x apart)

    listed-entry : has (row_of_lists (map first_numbers c.p) i) x ≡ true → matrix_of c.p i x ≢ 0
    listed-entry h = key-entry p c.shape.columns (slice_index_or c.p i []) (is.p.entries i [] low) x (subst (λ keys. has keys x ≡ true) row h)

  -- ---- a part
  module _ (part : CcfPart) (ok : IsPart c.shape part) where
    abbrev EntryListed : ℕ → Type 0
    EntryListed = OfSome (length part.q_rows) (λ k. IsItem (row_of_lists (map first_numbers c.p) (slice_index part.q_rows k)))

    abbrev SymbolListed : ℕ → Type 0
    SymbolListed = OfSome (length part.t_rows) (λ k. IsItem (row_of_lists c.t (slice_index part.t_rows k)))

    told : (x : ℕ) → EntryListed x ⊎ SymbolListed x → HasEntryAt c part x
    told x (inl (k, kl, item)) =
        let i : ℕ = slice_index part.q_rows k in
        inl (i, some-has part.q_rows k i kl refl, listed-entry i x (ok.q_rows.below k 0 kl) (item-has (row_of_lists (map first_numbers c.p) i) x item))
    told x (inr (k, kl, item)) =
        let i : ℕ = slice_index part.t_rows k in
        inr (i, some-has part.t_rows k i kl refl, item-has (row_of_lists c.t i) x item)

    back : (x : ℕ) → HasEntryAt c part x → EntryListed x ⊎ SymbolListed x
    back x (inl (i, h, apart)) =
        let at = has-some part.q_rows i h in
        let low : i < c.shape.q_rows = has-below c.shape.q_rows part.q_rows i ok.q_rows.below h in
        inl (
          at.0,
          at.1,
          subst (λ l. IsItem (row_of_lists (map first_numbers c.p) l) x) (sym at.2)
              (has-some (row_of_lists (map first_numbers c.p) i) x (entry-listed i x low apart)),
        )
    back x (inr (i, h, symbol)) =
        let at = has-some part.t_rows i h in
        inr (at.0, at.1, subst (λ l. IsItem (row_of_lists c.t l) x) (sym at.2) (has-some (row_of_lists c.t i) x symbol))

    -- what is marked of the rows and not of the columns is used
    module _ (none first more marks : List Bool) (clear : none ≡ replicate c.shape.columns false) (one : Marks EntryListed none first)
        (two : Marks SymbolListed first more) (three : Unmarks (IsItem part.columns) more marks) where
      marked-told : (x : ℕ) → (marked marks x ≡ true) ↔ ((has part.columns x ≡ false) × HasEntryAt c part x)
      marked-told x = (
        λ h. let at = (three.tells x).0 h in (
          not_true (has part.columns x) (λ own. at.1 (has-some part.columns x own)),
          told x (elim ((two.tells x).0 at.0) [
            | inl before ↦ inl (((mark-fresh c.shape.columns EntryListed none first clear one).tells x).0 before)
            | inr new ↦ inr new
          ]),
        ),
        λ at. (three.tells x).1 (
          elim (back x at.1) [
            | inl entry ↦ (two.tells x).1 (inl (((mark-fresh c.shape.columns EntryListed none first clear one).tells x).1 entry))
            | inr symbol ↦ (two.tells x).1 (inr symbol)
          ],
          λ own. differ at.0 (item-has part.columns x own),
        ),
      )

      pub uses-told : (list : List ℕ) → AreMembersOf c.shape.columns (λ i. marked marks i ≡ true) list →
          AreMembersOf c.shape.columns (λ x. (has part.columns x ≡ false) × HasEntryAt c part x) list
      uses-told list are = members-as c.shape.columns c.shape.columns (λ i. marked marks i ≡ true) (λ x.
          (has part.columns x ≡ false) × HasEntryAt c part x) list refl
          (λ i low. marked-told i) are
