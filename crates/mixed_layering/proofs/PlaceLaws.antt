-- What stands in the rows of a layered matrix, and how it comes there.
use Rattle.std.proofs.Common.{◌≡◌, ℕ, ◌+◌, ◌<◌, ◌≤◌, Bool, true, false, cond, ◌||◌, eqb, eqb-true, ne_eqb, eq-eqb}
use Rattle.std.proofs.Common.{List, [], ◌∷◌, ◌++◌, length, get_or, slice_index, replicate, refl, sym, ap, subst, ◌∙◌}
use Rattle.std.proofs.Common.{arith, ⊎_elim, length-append}
use Rattle.std.specs.Option.{unwrap_or}
use Rattle.std.specs.List.Sorted.{IsStrictlyIncreasing}
use Rattle.std.proofs.lemmas.Bool.{cases_lt, eqb-false}
use Rattle.std.proofs.lemmas.List.{get_or-replicate, get_or_append_left}
use Rattle.std.proofs.Math.Seq.{get_or-append_seam}
use Rattle.dense_q.specs.Tables.{entry, zero_table}
use Rattle.residue_theory.specs.Sets.{has}
use Rattle.sparse_t.specs.Incidences.{Incidence, incidence_with_row}
use Rattle.sparse_t.proofs.ListLaws.{has-append, has-none, rising-append, below-append}
use Rattle.mixed_matrices.specs.Models.{MixedMatrix}
use Rattle.mixed_model.specs.Models.{MixedModel, IsModel, row_of, constant_at, mixed_matrix_of}
use Rattle.mixed_model.proofs.ModelLaws.{beyond_unknowns}
use Rattle.mixed_layering.specs.Columns.{StandsIn, IsAbsent}
use Rattle.mixed_layering.specs.Places.{constant_place, symbol_place, AreTouched, AreRowsOfSymbols}
use Rattle.mixed_layering.proofs.SplitLaws.{own_place, no_place, by_column}

-- a table of zeros
pub zero_entry : (h w i j : ℕ) → i < h → j < w → entry (zero_table h w) i j ≡ 0
zero_entry h w i j tall wide = ap (λ row. get_or row j 0) (get_or-replicate h i (replicate w 0) [] tall) ∙ get_or-replicate w j 0 0 wide

-- numbers compare alike behind the same number
eqb-behind : (u a b : ℕ) → eqb (u + a) (u + b) ≡ eqb a b
eqb-behind u a b = by (eqb a b) refl
  where
    by : (t : Bool) → eqb a b ≡ t → eqb (u + a) (u + b) ≡ eqb a b
    by true e = eq-eqb (u + a) (u + b) (ap (λ x. u + x) (eqb-true a b e)) ∙ sym e
    by false e = ne_eqb (u + a) (u + b) (λ same. eqb-false a b e (omega (arith, same))) ∙ sym e

module _ (p : ℕ) (model : MixedModel) (is : IsModel p model) (equation : ℕ) (at : equation < length model.equations) (split : List ℕ) where
  -- no constant stands past the unknowns
  pub past_constant : (k : ℕ) → constant_at model equation (length model.unknowns + k) ≡ 0
  past_constant k =
      ap (λ x. unwrap_or x 0) (beyond_unknowns (length model.unknowns) (row_of model equation)
      (length model.unknowns + k) (is.rows equation [] (omega (arith, is.one_row_each, at))).1 (omega arith)).0

  pub constant_place-some : (place : ℕ) → IsStrictlyIncreasing split → StandsIn split equation place → (b : ℕ) →
      b < length model.unknowns + length split → constant_place (mixed_matrix_of model) split equation b ≡ cond
      (eqb (length model.unknowns + place) b) 1 (constant_at model equation b)
  constant_place-some place rising stands =
      by_column (length model.unknowns) (constant_at model equation) (λ k. cond (eqb equation (slice_index split k)) 1 0) (length split)
      (λ b x. x ≡ cond (eqb (length model.unknowns + place) b) 1 (constant_at model equation b))
      (λ b low. rw (ne_eqb (length model.unknowns + place) b (λ e. omega (arith, low, e))) refl)
      (λ k low. rw (own_place split equation place rising stands k low, eqb-behind (length model.unknowns) place k, past_constant k) refl)

  pub constant_place-none : IsAbsent split equation → (b : ℕ) → b < length model.unknowns + length split →
      constant_at model equation b ≡ constant_place (mixed_matrix_of model) split equation b
  constant_place-none absent =
      by_column (length model.unknowns) (constant_at model equation) (λ k. cond (eqb equation (slice_index split k)) 1 0) (length split)
      (λ b x. constant_at model equation b ≡ x)
      (λ b low. refl)
      (λ k low. rw (no_place split equation absent k low) (past_constant k))

module _ (M : MixedMatrix) (equation : ℕ) (split list : List ℕ) (touched : AreTouched M.columns (M.symbol equation) list) where
  -- the list has nothing past the unknowns
  past_symbol : (b : ℕ) → M.columns ≤ b → has list b ≡ false
  past_symbol b high = has-none list b (λ k at e. omega (arith, touched.below k at, e, high))

  pub touched-split : (place : ℕ) → IsStrictlyIncreasing split → StandsIn split equation place →
      AreTouched (M.columns + length split) (symbol_place M split equation) (list ++ (M.columns + place) ∷ [])
  touched-split place rising stands = record {
    rising = rising-append list (M.columns + place) touched.rising (λ k at. omega (arith, touched.below k at));
    below = below-append M.columns (M.columns + length split) list (M.columns + place) touched.below (omega arith) (omega (arith, stands.within));
    exact = by_column M.columns (M.symbol equation) (λ k. eqb equation (slice_index split k)) (length split)
        (λ b x. has (list ++ (M.columns + place) ∷ []) b ≡ x)
        (λ b low. has-append list (M.columns + place) b
        ∙ rw (touched.exact b low, ne_eqb (M.columns + place) b (λ e. omega (arith, low, e)))
        (or_false (M.symbol equation b)))
        (λ k low. has-append list (M.columns + place) (M.columns + k)
        ∙ rw (past_symbol (M.columns + k) (omega arith), eqb-behind M.columns place k)
        (sym (own_place split equation place rising stands k low)));
  }
    where
      or_false : (b : Bool) → (b || false) ≡ b
      or_false true = refl
      or_false false = refl

  pub touched-whole : IsAbsent split equation → AreTouched (M.columns + length split) (symbol_place M split equation) list
  touched-whole absent = record {
    rising = touched.rising;
    below = λ k at. omega (arith, touched.below k at);
    exact = by_column M.columns (M.symbol equation) (λ k. eqb equation (slice_index split k)) (length split)
        (λ b x. has list b ≡ x)
        touched.exact
        (λ k low. past_symbol (M.columns + k) (omega arith) ∙ sym (no_place split equation absent k low));
  }

-- one row more
pub rows-next : (M : MixedMatrix) (split equations : List ℕ) (n : ℕ) (t : Incidence) (list : List ℕ) →
    AreRowsOfSymbols M split equations n t → AreTouched (M.columns + length split)
    (symbol_place M split (slice_index equations n)) list → AreRowsOfSymbols M split equations (n + 1)
    (incidence_with_row t list)
rows-next M split equations n t list are touched = record {
  width = are.width;
  count = length-append t.rows (list ∷ []) ∙ omega (arith, are.count);
  touched = λ i j tall wide. ⊎_elim
      (λ before. ap (λ row. has row j) (get_or_append_left t.rows (list ∷ []) [] i (omega (arith, before, are.count))) ∙ are.touched i j before wide)
      (λ last.
      let same : length t.rows ≡ i = omega (arith, last, are.count) in
      let row_is : get_or (t.rows ++ list ∷ []) i [] ≡ list =
      subst (λ k. get_or (t.rows ++ list ∷ []) k [] ≡ list) same (get_or-append_seam t.rows list [] []) in
      let at : n ≡ i = omega (arith, same, are.count) in
      ap (λ row. has row j) row_is ∙ touched.exact j (omega (arith, wide, are.width)) ∙ ap (λ k. symbol_place M split (slice_index equations k) j) at)
      (cases_lt i n);
}
