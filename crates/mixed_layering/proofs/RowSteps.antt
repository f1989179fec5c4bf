-- What one entry more tells of the places of a row.
use Rattle.std.proofs.Common.{◌≡◌, ℕ, ◌<◌, ◌≤◌, Bool, true, false, cond, ◌||◌, eqb, eqb-true, List, [], ◌∷◌, ◌++◌}
use Rattle.std.proofs.Common.{length, get_or, Some, None, nat_eq, refl, sym, ap, subst, ◌∙◌, arith, ⊎_elim}
use Rattle.std.proofs.Common.{length-append}
use Rattle.std.specs.Option.{unwrap_or}
use Rattle.std.proofs.lemmas.Bool.{cases_lt}
use Rattle.std.proofs.Math.Seq.{get_or-append_seam}
use Rattle.residue_theory.specs.Sets.{has}
use Rattle.sparse_t.specs.Lists.{AreAllBelow}
use Rattle.sparse_t.proofs.ListLaws.{has-at, has-append}
use Rattle.mixed_model.specs.Entries.{RowEntry}
use Rattle.mixed_model.specs.Rows.{entry_in, constant_at_place, symbol_at_place, constant_in, symbol_in, IsRow, AreColumnsBelow}
use Rattle.mixed_model.proofs.RowLaws.{entry_in-next, entry_in-lower}

module _ (p : ℕ) (row : List RowEntry) (seen : List RowEntry) (entry : RowEntry) (rest : List RowEntry)
    (is_row : IsRow p row) (split : row ≡ seen ++ entry ∷ rest) where
  rises : IsRow p (seen ++ entry ∷ rest)
  rises = subst (IsRow p) split is_row

  -- the entry is one of the row
  pub entry_within : (columns : ℕ) → AreColumnsBelow columns row → entry.column < columns
  entry_within columns within =
      let at = subst (AreColumnsBelow columns) split within (length seen) entry (omega (arith, length-append seen (entry ∷ rest))) in
      subst (λ (x : RowEntry). x.column < columns) (get_or-append_seam seen entry rest entry) at

  next_place : (b : ℕ) → entry_in (seen ++ entry ∷ []) b ≡ cond (eqb entry.column b) (Some entry) (entry_in seen b)
  next_place b = entry_in-next p 0 seen entry rest b rises

  not_yet : (b : ℕ) → entry.column ≤ b → entry_in seen b ≡ None
  not_yet b at = entry_in-lower p 0 seen entry rest rises b at

  -- no constant was seen from its column on
  pub constant-not_yet : (b : ℕ) → entry.column ≤ b → unwrap_or (constant_in seen b) 0 ≡ 0
  constant-not_yet b at = ap (λ x. unwrap_or (constant_at_place x) 0) (not_yet b at)

  pub constant-next : (c : ℕ) → entry.constant ≡ Some c → (b : ℕ) →
      unwrap_or (constant_in (seen ++ entry ∷ []) b) 0 ≡ cond (eqb entry.column b) c
      (unwrap_or (constant_in seen b) 0)
  constant-next c is b = ap (λ x. unwrap_or (constant_at_place x) 0) (next_place b) ∙ by (eqb entry.column b)
    where
      by : (t : Bool) → unwrap_or (constant_at_place (cond t (Some entry) (entry_in seen b))) 0 ≡ cond t c (unwrap_or (constant_in seen b) 0)
      by true = ap (λ x. unwrap_or x 0) is
      by false = refl

  pub constant-none : entry.constant ≡ None → (b : ℕ) → unwrap_or (constant_in seen b) 0 ≡ unwrap_or (constant_in (seen ++ entry ∷ []) b) 0
  constant-none is b = by (eqb entry.column b) refl ∙ sym (ap (λ x. unwrap_or (constant_at_place x) 0) (next_place b))
    where
      by : (t : Bool) → eqb entry.column b ≡ t → unwrap_or (constant_in seen b) 0 ≡ unwrap_or (constant_at_place (cond t (Some entry) (entry_in seen b))) 0
      by true e = ap (λ x. unwrap_or (constant_at_place x) 0) (not_yet b (omega (arith, eqb-true entry.column b e))) ∙ sym (ap (λ x. unwrap_or x 0) is)
      by false e = refl

  symbol-next : (b : ℕ) → symbol_in (seen ++ entry ∷ []) b ≡ cond (eqb entry.column b) entry.symbol (symbol_in seen b)
  symbol-next b = ap symbol_at_place (next_place b) ∙ by (eqb entry.column b)
    where
      by : (t : Bool) → symbol_at_place (cond t (Some entry) (entry_in seen b)) ≡ cond t entry.symbol (symbol_in seen b)
      by true = refl
      by false = refl

  symbol-not_yet : (b : ℕ) → entry.column ≤ b → symbol_in seen b ≡ false
  symbol-not_yet b at = ap symbol_at_place (not_yet b at)

  pub symbol-none : entry.symbol ≡ false → (b : ℕ) → symbol_in seen b ≡ symbol_in (seen ++ entry ∷ []) b
  symbol-none is b = by (eqb entry.column b) refl ∙ sym (symbol-next b)
    where
      by : (t : Bool) → eqb entry.column b ≡ t → symbol_in seen b ≡ cond t entry.symbol (symbol_in seen b)
      by true e = symbol-not_yet b (omega (arith, eqb-true entry.column b e)) ∙ sym is
      by false e = refl

  -- the columns of the symbols seen, and then this one
  module _ (columns : ℕ) (within : AreColumnsBelow columns row) (list : List ℕ) (exact : (j : ℕ) → has list j ≡ symbol_in seen j) where
    pub list-lower : AreAllBelow entry.column list
    list-lower k at = ⊎_elim
        (λ low. low)
        (λ high.
        let there : has list (get_or list k 0) ≡ true = has-at list k (get_or list k 0) at refl in
        let nowhere = symbol-not_yet (get_or list k 0) high in
        let f : true ≡ false = sym there ∙ exact (get_or list k 0) ∙ nowhere in
        let g : ⊥ = cc in absurd g)
        (cases_lt (get_or list k 0) entry.column)

    pub exact-next : entry.symbol ≡ true → (j : ℕ) → has (list ++ entry.column ∷ []) j ≡ symbol_in (seen ++ entry ∷ []) j
    exact-next is j = has-append list entry.column j ∙ ap (λ b. b || nat_eq entry.column j) (exact j) ∙ by (eqb entry.column j) refl ∙ sym (symbol-next j)
      where
        by : (t : Bool) → eqb entry.column j ≡ t → (symbol_in seen j || nat_eq entry.column j) ≡ cond t entry.symbol (symbol_in seen j)
        by true e = rw (symbol-not_yet j (omega (arith, eqb-true entry.column j e))) (e ∙ sym is)
        by false e = rw e (or_false (symbol_in seen j))
          where
            or_false : (b : Bool) → (b || false) ≡ b
            or_false true = refl
            or_false false = refl
