-- A row of symbols, one after another: what is fixed and listed up to each of its columns.
use Rattle.std.proofs.Common.{◌≡◌, ℕ, suc, ◌+◌, ◌<◌, ◌≤◌, List, [], ◌∷◌, ◌++◌, length, get_or, refl, ap, sym, subst, ◌∙◌, arith, add-one}
use Rattle.std.proofs.lemmas.List.{get_or_default}
use Rattle.mixed_matrices.specs.Models.{MixedMatrix}
use Rattle.mixed_matrices.specs.StructuralRanks.{IsStructuralRank}
use Rattle.mixed_model.specs.Models.{MixedModel, mixed_matrix_of}
use Rattle.model_edit_laws.proofs.Edits.{edited_again, unedited}
use Rattle.value_list_laws.specs.FixedSymbols.{IsSymbolPlace, PutsNumberAt}
use Rattle.value_lists.specs.Fixing.{AreSymbolColumns, FixesAt, FixesOnes, IsFixedTo, IsOneIn, IsSameBut}
use Rattle.value_lists.specs.Listing.{GoesOn, IsListedTo, IsListedAndFixed, ListsOnes}
use Rattle.value_lists.proofs.Columns.{behind, behind-low, column, column-at, column-end, gap, symbol-at}
use Rattle.value_lists.proofs.FixedSets.{fixed-move, fixed-place}
use Rattle.value_lists.proofs.Steps.{gap-before, gap-count, listed-move, listed-place, row-before, row-count}

-- ---- the same model but for one equation
pub same-self : (model : MixedModel) (i : ℕ) → IsSameBut model model i
same-self model i = record { equations = refl; unknowns = refl; edited = unedited model i }

pub same-then : (a b c : MixedModel) (i : ℕ) → IsSameBut a b i → IsSameBut b c i → IsSameBut a c i
same-then a b c i first then = record {
  equations = then.equations ∙ first.equations;
  unknowns = then.unknowns ∙ first.unknowns;
  edited = edited_again a b c i first.edited then.edited;
}

pub same-back : (a b : MixedModel) (i : ℕ) → IsSameBut a b i → IsSameBut b a i
same-back a b i same = record {
  equations = sym same.equations;
  unknowns = sym same.unknowns;
  edited = record {
    equations = sym same.edited.equations;
    unknowns = let long = ap (λ (names : List (List ℕ)). length names) same.unknowns in omega (arith, long);
    constants = λ k l other. sym (same.edited.constants k l other);
    symbols = λ k l other. sym (same.edited.symbols k l other);
  };
}

-- ---- moves of both
module _ (p : ℕ) (M : MixedMatrix) (v : ℕ → ℕ → ℕ) (i : ℕ) (il : i < M.rows) (columns : List ℕ) (are : AreSymbolColumns M i columns) where
  abbrev at : ℕ → ℕ
  at k = column M i il columns are k

  -- from behind the first k columns to the next one
  pub fixed-gap : (k : ℕ) → k ≤ length columns → (N : MixedMatrix) → IsFixedTo p M v i (behind columns k) N → IsFixedTo p M v i (at k) N
  fixed-gap k kl N fixed = fixed-move p M v i (behind columns k) i (at k) N
      (gap-before M i (behind columns k) (at k) (behind-low M i il columns are k kl) (gap M i il columns are k kl)) fixed

  pub listed-gap : (k : ℕ) → k ≤ length columns → (values : List ℕ) → IsListedTo M v i (behind columns k) values → IsListedTo M v i (at k) values
  listed-gap k kl values listed = listed-move M v i (behind columns k) i (at k) values
      (gap-count M i (behind columns k) (at k) (behind-low M i il columns are k kl) (gap M i il columns are k kl))
      (gap-before M i (behind columns k) (at k) (behind-low M i il columns are k kl) (gap M i il columns are k kl)) listed

  -- behind one column is where the next gap begins
  next : (k : ℕ) → k < length columns → at k + 1 ≡ behind columns (suc k)
  next k kl = ap (λ n. n + 1) (column-at M i il columns are k kl)

  pub fixed-next : (k : ℕ) → k < length columns → (N : MixedMatrix) → IsFixedTo p M v i (at k + 1) N → IsFixedTo p M v i (at (k + 1)) N
  fixed-next k kl N fixed = subst (λ n. IsFixedTo p M v i (at n) N) (sym (add-one k))
      (fixed-gap (suc k) (omega (arith, kl)) N (subst (λ n. IsFixedTo p M v i n N) (next k kl) fixed))

  pub listed-next : (k : ℕ) → k < length columns → (values : List ℕ) → IsListedTo M v i (at k + 1) values → IsListedTo M v i (at (k + 1)) values
  listed-next k kl values listed = subst (λ n. IsListedTo M v i (at n) values) (sym (add-one k))
      (listed-gap (suc k) (omega (arith, kl)) values (subst (λ n. IsListedTo M v i n values) (next k kl) listed))

  -- and past the last one is the next row
  pub fixed-end : (k : ℕ) → length columns ≤ k → (N : MixedMatrix) → IsFixedTo p M v i (at k) N → IsFixedTo p M v (i + 1) 0 N
  fixed-end k far N fixed = fixed-move p M v i M.columns (i + 1) 0 N (row-before M i)
      (subst (λ n. IsFixedTo p M v i n N) (column-end M i il columns are k far) fixed)

  pub listed-end : (k : ℕ) → length columns ≤ k → (values : List ℕ) → IsListedTo M v i (at k) values → IsListedTo M v (i + 1) 0 values
  listed-end k far values listed = listed-move M v i M.columns (i + 1) 0 values (row-count M i) (row-before M i)
      (subst (λ n. IsListedTo M v i n values) (column-end M i il columns are k far) listed)

-- ---- ones in all places of a row
-- the first k of them are put
pub record FixesSome (p : ℕ) (old now : MixedModel) (i : ℕ) (columns : List ℕ) (k : ℕ) : Type 0 where
  pub same : IsSameBut old now i
  pub fixes : (M : MixedMatrix) (v : ℕ → ℕ → ℕ) → i < M.rows → AreSymbolColumns M i columns → IsOneIn M i v →
      IsFixedTo p M v i 0 (mixed_matrix_of old) → IsFixedTo p M v i (get_or columns k M.columns) (mixed_matrix_of now)

pub fixes-begin : (p : ℕ) (old : MixedModel) (i : ℕ) (columns : List ℕ) → FixesSome p old old i columns 0
fixes-begin p old i columns = record {
  same = same-self old i;
  fixes = λ M v il are one fixed. fixed-gap p M v i il columns are 0 (omega arith) (mixed_matrix_of old) fixed;
}

pub fixes-step : (p : ℕ) (old now new : MixedModel) (i : ℕ) (columns : List ℕ) (k d : ℕ) → k < length columns → FixesSome p old now i columns k →
    FixesAt p now new i (get_or columns k d) 1 → FixesSome p old new i columns (k + 1)
fixes-step p old now new i columns k d kl some one_more = record {
  same = same-then old now new i some.same one_more.same;
  fixes = λ M v il are one fixed.
      let here = symbol-at M i il columns are k kl in
      let place : get_or columns k d ≡ column M i il columns are k = get_or_default columns k d M.columns kl in
      fixed-next p M v i il columns are k kl (mixed_matrix_of new)
      (fixed-place p M v i (column M i il columns are k) here (mixed_matrix_of now) (some.fixes M v il are one fixed) (mixed_matrix_of new)
      (subst (λ c. PutsNumberAt p (mixed_matrix_of now) (mixed_matrix_of new) i (column M i il columns are k) c)
      (sym (one (column M i il columns are k) here))
      (subst (λ j. PutsNumberAt p (mixed_matrix_of now) (mixed_matrix_of new) i j 1) place one_more.puts)));
}

pub fixes-end : (p : ℕ) (old now : MixedModel) (i : ℕ) (columns : List ℕ) (k : ℕ) → length columns ≤ k → FixesSome p old now i columns k →
    FixesOnes p old now i columns
fixes-end p old now i columns k far some = record {
  same = some.same;
  fixes = λ M v il are one fixed. fixed-end p M v i il columns are k far (mixed_matrix_of now) (some.fixes M v il are one fixed);
}

-- the first k of them are listed
abbrev pub ListsSome : List ℕ → ℕ → List ℕ → List ℕ → Type 0
ListsSome columns k values now =
    (M : MixedMatrix) (v : ℕ → ℕ → ℕ) (i : ℕ) → i < M.rows → AreSymbolColumns M i columns → IsOneIn M i v →
    IsListedTo M v i 0 values → IsListedTo M v i (get_or columns k M.columns) now

pub lists-begin : (columns values : List ℕ) → ListsSome columns 0 values values
lists-begin columns values M v i il are one listed = listed-gap 0 M v i il columns are 0 (omega arith) values listed

pub lists-step : (columns values now : List ℕ) (k : ℕ) → k < length columns → ListsSome columns k values now →
    ListsSome columns (k + 1) values (now ++ 1 ∷ [])
lists-step columns values now k kl some M v i il are one listed =
    let here = symbol-at M i il columns are k kl in
    listed-next 0 M v i il columns are k kl (now ++ 1 ∷ [])
    (listed-place M v i (column M i il columns are k) here now 1 (one (column M i il columns are k) here) (some M v i il are one listed))

pub lists-end : (columns values now : List ℕ) (k : ℕ) → length columns ≤ k → ListsSome columns k values now → ListsOnes columns values now
lists-end columns values now k far some M v i il are one listed = listed-end 0 M v i il columns are k far now (some M v i il are one listed)

-- ---- the values of a row, one after another
-- the first k of them go on
pub record GoesOnSome (p rank : ℕ) (old now : MixedModel) (i : ℕ) (columns : List ℕ) (k : ℕ) (values listed : List ℕ) : Type 0 where
  pub same : IsSameBut old now i
  pub goes : (M : MixedMatrix) → IsStructuralRank p M rank → i < M.rows → AreSymbolColumns M i columns →
      GoesOn p M i 0 i (get_or columns k M.columns) old now values listed

pub goes-begin : (p rank : ℕ) (old : MixedModel) (i : ℕ) (columns values : List ℕ) → GoesOnSome p rank old old i columns 0 values values
goes-begin p rank old i columns values = record {
  same = same-self old i;
  goes = λ M R il are v V listing. record {
    fixed = fixed-gap p M v i il columns are 0 (omega arith) (mixed_matrix_of old) listing.fixed;
    listed = listed-gap p M v i il columns are 0 (omega arith) values listing.listed;
  };
}

pub goes-step : (p rank : ℕ) (old now new : MixedModel) (i : ℕ) (columns : List ℕ) (k d : ℕ) (values listed more : List ℕ) → k < length columns →
    GoesOnSome p rank old now i columns k values listed → IsSameBut now new i →
    ((M : MixedMatrix) → IsStructuralRank p M rank → IsSymbolPlace M i (get_or columns k d) →
    GoesOn p M i (get_or columns k d) i (get_or columns k d + 1) now new listed more) →
    GoesOnSome p rank old new i columns (k + 1) values more
goes-step p rank old now new i columns k d values listed more kl some same next = record {
  same = same-then old now new i some.same same;
  goes = λ M R il are v V listing.
      let here = symbol-at M i il columns are k kl in
      let place : column M i il columns are k ≡ get_or columns k d = get_or_default columns k M.columns d kl in
      let now_at = some.goes M R il are v V listing in
      let there = subst (λ j. IsListedAndFixed p M v i (j + 1) new more) (sym place)
      (next M R (subst (IsSymbolPlace M i) place here) v V (subst (λ j. IsListedAndFixed p M v i j now listed) place now_at)) in
      record {
        fixed = fixed-next p M v i il columns are k kl (mixed_matrix_of new) there.fixed;
        listed = listed-next p M v i il columns are k kl more there.listed;
      };
}

pub goes-end : (p rank : ℕ) (old now : MixedModel) (i : ℕ) (columns : List ℕ) (k : ℕ) (values listed : List ℕ) → length columns ≤ k →
    GoesOnSome p rank old now i columns k values listed → (M : MixedMatrix) → IsStructuralRank p M rank → i < M.rows → AreSymbolColumns M i columns →
    GoesOn p M i 0 (i + 1) 0 old now values listed
goes-end p rank old now i columns k values listed far some M R il are v V listing = let at_end = some.goes M R il are v V listing in record {
  fixed = fixed-end p M v i il columns are k far (mixed_matrix_of now) at_end.fixed;
  listed = listed-end p M v i il columns are k far listed at_end.listed;
}
