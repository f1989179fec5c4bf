-- The layers that are made of a layered matrix of a model.
use Rattle.std.proofs.Common.{◌≡◌, ℕ, zero, suc, ◌+◌, ◌<◌, ◌≤◌, Bool, true, cond, eqb, List, [], ◌∷◌, ◌++◌, length}
use Rattle.std.proofs.Common.{map, get_or, slice_get, Some, refl, ap, sym, subst, ◌∙◌, arith}
use Rattle.std.specs.List.{All, count_by}
use Rattle.std.proofs.lemmas.List.{get_or-append-add, get_or-map, get_or_append_left, length-append, length-map}
use Rattle.std.proofs.lemmas.List.Sums.{sum_by-append}
use Rattle.std.proofs.lemmas.Option.{slice_get-get_or}
use Rattle.dense_q.specs.Tables.{Table, entry, height}
use Rattle.sparse_t.specs.Incidences.{Incidence, touches}
use Rattle.residue_theory.specs.Sums.{size_on}
use Rattle.mixed_matrices.specs.LayeredMatrices.{LayeredMatrix}
use Rattle.mixed_matrices.specs.Layerings.{AreMembers, IsLayeredMatrixOf, Origins}
use Rattle.mixed_matrices.specs.Models.{MixedMatrix}
use Rattle.mixed_layering_laws.proofs.LayeringExists.{layered_matrix_exists}
use Rattle.mixed_model.specs.Layers.{Layers, is_split, layered_matrix_of}
use Rattle.mixed_model.specs.Models.{mixed_matrix_of}
use Rattle.mixed_model.specs.declared.origin.Origin.{Origin}
use Rattle.mixed_model.specs.declared.origin.Origin.TheVariants.{Split, Unknown}
use Rattle.mixed_layering.specs.Layers.{origins_of}
use Rattle.answer_texts.specs.WholeLayers.{AreWholeLayers}
use Rattle.ccf_builder.proofs.Counts.{few-q_rows, few-split, few-t_rows}
use Rattle.existence_laws.specs.Layerings.{EachModelHasLayers, HasLayers}
use Rattle.existence_laws.proofs.Lists.{pattern-prints, pattern_rows, values-at, values-long, values-more, values-none, values_of}

-- members that are listed
members-listed : (A : ℕ → Bool) (n : ℕ) (at : ℕ → ℕ) (m count : ℕ) → count ≡ m → AreMembers A n at m →
    AreMembers A n (λ k. get_or (values_of at m) k 0) count
members-listed A n at m count same are = record {
  count = are.count ∙ sym same;
  below = λ k kl. let low : k < m = omega (arith, kl, same) in subst (λ x. x < n) (sym (values-at at m k 0 low)) (are.below k low);
  member = λ k kl. let low : k < m = omega (arith, kl, same) in subst (λ x. A x ≡ true) (sym (values-at at m k 0 low)) (are.member k low);
  place = λ k kl.
      let low : k < m = omega (arith, kl, same) in
      subst (λ x. size_on A x ≡ k) (sym (values-at at m k 0 low)) (are.place k low);
}

-- what holds of each value holds of each item of their list
all-values : {A : Type 0} (P : A → Type 0) (f : ℕ → A) (n : ℕ) → ((k : ℕ) → k < n → P (f k)) → All P (values_of f n)
all-values P f n each k d kl = let low : k < n = omega (arith, kl, values-long f n) in subst P (sym (values-at f n k d low)) (each k low)

-- columns of unknowns are not split, and the others are
counted-append : (xs ys : List Origin) → count_by is_split (xs ++ ys) ≡ count_by is_split xs + count_by is_split ys
counted-append xs ys = sum_by-append (λ x. cond (is_split x) 1 0) xs ys

counted-push : (xs : List Origin) (x : Origin) → count_by is_split (xs ++ x ∷ []) ≡ count_by is_split xs + count_by is_split (x ∷ [])
counted-push xs x = counted-append xs (x ∷ [])

unknowns-counted : (u : ℕ) → count_by is_split (values_of Unknown u) ≡ 0
unknowns-counted zero = ap (count_by is_split) (values-none Unknown)
unknowns-counted (suc u) = ap (count_by is_split) (values-more Unknown u) ∙ counted-push (values_of Unknown u) (Unknown u)
    ∙ ap (λ n. n + (0 + 0)) (unknowns-counted u)

splits-counted : (xs : List ℕ) → count_by is_split (map Split xs) ≡ length xs
splits-counted [] = refl
splits-counted (x ∷ xs) = counted-append (Split x ∷ []) (map Split xs) ∙ ap (λ n. 1 + n) (splits-counted xs)
    ∙ (let e : 1 + length xs ≡ suc (length xs) = omega arith in e)

module _ (M : MixedMatrix) (L : LayeredMatrix) (O : Origins) (lay : IsLayeredMatrixOf M L O) where
  abbrev table : Table
  table = record { width = L.columns; rows = values_of (λ i. values_of (L.q i) L.columns) L.q_rows }

  abbrev incidence : Incidence
  incidence = record { width = L.columns; rows = pattern_rows L.t L.t_rows L.columns }

  abbrev splits : List ℕ
  splits = values_of O.of_z O.split

  abbrev origins : List Origin
  origins = values_of Unknown M.columns ++ map Split splits

  abbrev made : Layers
  made = record {
    q = table;
    t = incidence;
    q_origins = values_of O.of_q L.q_rows;
    t_origins = values_of O.of_t L.t_rows;
    column_origins = origins;
  }

  entry-at : (i j : ℕ) → i < L.q_rows → j < L.columns → entry table i j ≡ L.q i j
  entry-at i j il jl = ap (λ row. get_or row j 0) (values-at (λ r. values_of (L.q r) L.columns) L.q_rows i [] il) ∙ values-at (L.q i) L.columns j 0 jl

  touch-at : (i j : ℕ) → i < L.t_rows → j < L.columns → touches incidence i j ≡ L.t i j
  touch-at = (pattern-prints L.t L.columns L.t_rows).same

  high : height table ≡ L.q_rows
  high = values-long (λ i. values_of (L.q i) L.columns) L.q_rows

  deep : length incidence.rows ≡ L.t_rows
  deep = (pattern-prints L.t L.columns L.t_rows).is.count

  q-origin : (i : ℕ) → i < L.q_rows → get_or (values_of O.of_q L.q_rows) i 0 ≡ O.of_q i
  q-origin i il = values-at O.of_q L.q_rows i 0 il

  t-origin : (i : ℕ) → i < L.t_rows → get_or (values_of O.of_t L.t_rows) i 0 ≡ O.of_t i
  t-origin i il = values-at O.of_t L.t_rows i 0 il

  split-long : length splits ≡ O.split
  split-long = values-long O.of_z O.split

  split-origin : (k : ℕ) → k < O.split → get_or splits k 0 ≡ O.of_z k
  split-origin k kl = values-at O.of_z O.split k 0 kl

  low-q : (i : ℕ) → i < height table → i < L.q_rows
  low-q i il = omega (arith, il, high)

  low-t : (i : ℕ) → i < length incidence.rows → i < L.t_rows
  low-t i il = omega (arith, il, deep)

  low-z : (k : ℕ) → k < length splits → k < O.split
  low-z k kl = omega (arith, kl, split-long)

  layered : IsLayeredMatrixOf M (layered_matrix_of made) (origins_of made splits)
  layered = record {
    constants = lay.constants;
    symbols = lay.symbols;
    q_rows = members-listed _ M.rows O.of_q L.q_rows (height table) high lay.q_rows;
    t_rows = members-listed _ M.rows O.of_t L.t_rows (length incidence.rows) deep lay.t_rows;
    auxiliary = members-listed _ M.rows O.of_z O.split (length splits) split-long lay.auxiliary;
    columns = lay.columns ∙ ap (λ s. M.columns + s) (sym split-long);
    q = λ i j il jl.
        let low = low-q i il in
        entry-at i j low (omega (arith, jl, lay.columns)) ∙ lay.q i j low jl ∙ ap (λ r. M.constant r j) (sym (q-origin i low));
    q_auxiliary = λ i k il kl.
        let low = low-q i il in
        let few = low-z k kl in
        entry-at i (M.columns + k) low (omega (arith, few, lay.columns)) ∙ lay.q_auxiliary i k low few
        ∙ ap (λ r. cond (eqb r (O.of_z k)) 1 0) (sym (q-origin i low))
        ∙ ap (λ z. cond (eqb (get_or (values_of O.of_q L.q_rows) i 0) z) 1 0) (sym (split-origin k few));
    t = λ i j il jl.
        let low = low-t i il in
        touch-at i j low (omega (arith, jl, lay.columns)) ∙ lay.t i j low jl ∙ ap (λ r. M.symbol r j) (sym (t-origin i low));
    t_auxiliary = λ i k il kl.
        let low = low-t i il in
        let few = low-z k kl in
        touch-at i (M.columns + k) low (omega (arith, few, lay.columns)) ∙ lay.t_auxiliary i k low few
        ∙ ap (λ r. eqb r (O.of_z k)) (sym (t-origin i low)) ∙ ap (λ z. eqb (get_or (values_of O.of_t L.t_rows) i 0) z) (sym (split-origin k few));
  }

  origins-long : length origins ≡ M.columns + O.split
  origins-long = omega (
    arith,
    length-append (values_of Unknown M.columns) (map Split splits),
    values-long Unknown M.columns,
    length-map splits Split,
    split-long,
  )

  origin-unknown : (j : ℕ) → j < M.columns → slice_get origins j ≡ Some (Unknown j)
  origin-unknown j jl = slice_get-get_or origins j (Unknown 0) (omega (arith, jl, origins-long))
      ∙ ap Some (get_or_append_left (values_of Unknown M.columns) (map Split splits) (Unknown 0) j (omega (arith, jl, values-long Unknown M.columns))
      ∙ values-at Unknown M.columns j (Unknown 0) jl)

  origin-split : (k : ℕ) → k < length splits → slice_get origins (M.columns + k) ≡ Some (Split (get_or splits k 0))
  origin-split k kl = slice_get-get_or origins (M.columns + k) (Unknown 0) (omega (arith, kl, origins-long, split-long))
      ∙ ap Some (ap (λ u. get_or origins (u + k) (Unknown 0)) (sym (values-long Unknown M.columns))
      ∙ get_or-append-add (values_of Unknown M.columns) (map Split splits) k (Unknown 0)
      ∙ get_or-map Split splits k 0 (Unknown 0) kl)

  whole : M.rows ≤ 4096 → M.columns ≤ 4096 → AreWholeLayers made
  whole rows columns = record {
    origins = record {
      same_columns = refl;
      q_origins = values-long O.of_q L.q_rows ∙ sym high;
      t_origins = values-long O.of_t L.t_rows ∙ sym deep;
      column_origins = origins-long ∙ sym lay.columns;
    };
    q = record {
      full = all-values (λ row. length row ≡ L.columns) (λ i. values_of (L.q i) L.columns) L.q_rows (λ k kl. values-long (L.q k) L.columns);
      few = omega (arith, high, few-q_rows M L O lay, rows);
      narrow = omega (arith, lay.columns, few-split M L O lay, rows, columns);
    };
    t = record {
      rising = λ i il. ((pattern-prints L.t L.columns L.t_rows).is.columns i [] il).rising;
      below = λ i il k kl. ((pattern-prints L.t L.columns L.t_rows).is.columns i [] il).below k 0 kl;
      few = omega (arith, deep, few-t_rows M L O lay, rows);
    };
  }

pub has-layers : EachModelHasLayers
has-layers p model is = go (layered_matrix_exists (mixed_matrix_of model))
  where
    go : (L : LayeredMatrix) × (O : Origins) × IsLayeredMatrixOf (mixed_matrix_of model) L O → HasLayers model
    go (L, O, lay) =
        let M = mixed_matrix_of model in
        record {
          layers = made M L O lay;
          are = record {
            split = splits M L O lay;
            layered = layered M L O lay;
            count = counted-append (values_of Unknown M.columns) (map Split (splits M L O lay))
                ∙ ap (λ c. c + count_by is_split (map Split (splits M L O lay))) (unknowns-counted M.columns)
                ∙ ap (λ c. 0 + c) (splits-counted (splits M L O lay)) ∙ (let z : 0 + length (splits M L O lay) ≡ length (splits M L O lay) = omega arith in z);
            unknowns = origin-unknown M L O lay;
            auxiliary = origin-split M L O lay;
          };
          whole = whole M L O lay is.equations.few is.unknowns.few;
        }
