-- The length of a layer text.
use Rattle.std.proofs.Common.{◌≡◌, ◌≢◌, ℕ, ◌+◌, ◌-◌, ◌*◌, ◌^◌, ◌<◌, ◌≤◌, ◌==◌, Bool, true, false, cond, eqb, List, [], ◌∷◌}
use Rattle.std.proofs.Common.{◌++◌, length, get_or, codes, Option, Some, None, unwrap_or, nat_eq, if◌then◌else◌, refl}
use Rattle.std.proofs.Common.{sym, ap, subst, arith, mul_comm, mul-le-mul_right, suc-mul, ⊎_elim, slice_index}
use Rattle.std.specs.List.{All}
use Rattle.std.proofs.Math.ListN.{get_or-eq_default}
use Rattle.std.proofs.Math.Nat.{pow-le-pow_right}
use Rattle.std.proofs.lemmas.Bool.{cases_lt, eqb-false, leb-true}
use Rattle.std.proofs.lemmas.List.{length-append, get_or_default}
use Rattle.std.proofs.lemmas.List.Elements.{All-head, All-tail}
use Rattle.residue_theory.proofs.SetLaws.{both-first, both-second}
use Rattle.dense_q.specs.Tables.{height, row_at, entry}
use Rattle.mixed_model.specs.Models.{MixedModel, IsModel, constant_at}
use Rattle.mixed_model.specs.Names.{IsNameList, is_label, name_at}
use Rattle.mixed_model.specs.Rows.{RisesFrom, entry_in, constant_in, constant_at_place}
use Rattle.mixed_model.specs.Layers.{Layers}
use Rattle.mixed_model.specs.Entries.{RowEntry}
use Rattle.mixed_model.specs.declared.origin.Origin.{Origin}
use Rattle.mixed_model.specs.declared.origin.Origin.TheVariants.{Unknown, Split}
use Rattle.mixed_layering.specs.Layers.{AreLayersOf}
use Rattle.cert_text.specs.Texts.{with_mark, spaced, item, numbers_text}
use Rattle.text_lengths.proofs.Lengths.{marked-short, item-short, numbers-short, rising-few}
use Rattle.text_lengths.proofs.TextLengths.{at_most}
use Rattle.answer_texts.specs.LayerTexts.{line_head, column_name, column_line, column_lines, q_entry_text}
use Rattle.answer_texts.specs.LayerTexts.{row_entries_text, q_line, t_line, named_row_lines, columns_text, layer_text}
use Rattle.answer_texts.specs.Rooms.{layer_room}
use Rattle.answer_texts.specs.WholeLayers.{AreWholeLayers}
use Rattle.mixed_layering.proofs.EntryLaws.{row_long}

-- a name has at most 96 bytes
label-short : (name : List ℕ) → is_label name ≡ true → length name ≤ 96
label-short name is = leb-true (length name) 96 (both-second _ _ (both-first _ _ is))

pub name-short : (names : List (List ℕ)) → IsNameList names → (k : ℕ) → length (name_at names k) ≤ 96
name-short names are k = ⊎_elim
    (λ within. label-short (name_at names k) (are.labels k [] within))
    (λ out. let nothing : name_at names k ≡ [] = get_or-eq_default names [] out in omega (arith, ap length nothing))
    (cases_lt k (length names))

head-short : (letter number : ℕ) → number < 10000 → length (line_head letter number) ≤ 7
head-short letter number few = omega (arith, length-append (with_mark letter number) (codes " "), marked-short letter number few)

-- the lines of columns
pub column-name-short : (p : ℕ) (model : MixedModel) → IsModel p model → (origin : Origin) → length (column_name model origin) ≤ 97
column-name-short p model is (Unknown unknown) = omega (arith, name-short model.unknowns is.unknowns unknown)
column-name-short p model is (Split equation) = omega (
  arith,
  name-short model.equations is.equations equation,
  length-append (codes "*")
      (name_at model.equations equation),
)

columns-short : (p : ℕ) (model : MixedModel) → IsModel p model → (number : ℕ) (origins : List Origin) →
    number + length origins ≤ 8193 → length (column_lines model number origins) ≤ length origins * 105
columns-short p model is number [] few = omega arith
columns-short p model is number (origin ∷ origins) few =
    let head : List ℕ = line_head 99 number in
    let name : List ℕ = column_name model origin in
    let line : length (column_line model number origin) ≤ 105 = omega (
      arith,
      head-short 99 number (omega (arith, few)),
      column-name-short p model is origin,
      length-append head name,
      length-append (head ++ name) (codes "\n"),
    ) in
    rw (suc-mul (length origins) 105) (omega (
      arith,
      line,
      columns-short p model is (number + 1) origins
          (omega (arith, few)),
      length-append (column_line model number origin)
          (column_lines model (number + 1) origins),
    ))

-- the lines of rows, each of at most w bytes
rows-short : (line : ℕ → List ℕ → List ℕ → List ℕ) (names : List (List ℕ)) (origins : List ℕ) (w : ℕ) (P : List ℕ → Type 0) →
    ((number : ℕ) (name row : List ℕ) → number < 10000 → length name ≤ 96 → P row → length (line number name row) ≤ w) → IsNameList names →
    (k : ℕ) (rows : List (List ℕ)) → k + length rows ≤ 8192 → All P rows → length (named_row_lines line names origins k rows) ≤ length rows * w
rows-short line names origins w P each are k [] few all = omega arith
rows-short line names origins w P each are k (row ∷ rows) few all =
    let here = each (k + 1) (name_at names (slice_index origins k)) row (omega (arith, few))
    (name-short names are (slice_index origins k)) (All-head P row rows all) in
    let rest = rows-short line names origins w P each are (k + 1) rows (omega (arith, few)) (All-tail P row rows all) in
    rw (suc-mul (length rows) w) (omega (
      arith,
      here,
      rest,
      length-append
          (line (k + 1) (name_at names (slice_index origins k)) row) (named_row_lines line names origins (k + 1) rows),
    ))

-- the entries of a row of numbers of so many digits
entry-short : (digits column number : ℕ) → column < 10000 → number < 10 ^ digits → length (q_entry_text column number) ≤ 7 + digits
entry-short digits column number few small = go (number == 0) refl
  where
    go : (b : Bool) → number == 0 ≡ b → length (if b then [] else item column number) ≤ 7 + digits
    go true is = omega arith
    go false is = omega (arith, item-short digits column number few (let other : number ≢ 0 = eqb-false number 0 is in omega (arith, other)) small)

entries-short : (digits column : ℕ) (row : List ℕ) → column + length row ≤ 8193 → All (λ number. number < 10 ^ digits) row →
    length (row_entries_text column row) ≤ length row * (7 + digits)
entries-short digits column [] few small = omega arith
entries-short digits column (number ∷ row) few small =
    let here : number < 10 ^ digits = All-head (λ number. number < 10 ^ digits) number row small in
    let rest = entries-short digits (column + 1) row (omega (arith, few)) (All-tail (λ number. number < 10 ^ digits) number row small) in
    rw (suc-mul (length row) (7 + digits)) (omega (
      arith,
      rest,
      length-append (q_entry_text column number) (row_entries_text (column + 1) row),
      entry-short digits column number (omega (arith, few)) here,
    ))

-- the constants of a model are residues, and where there is none stands 0
module _ (p n : ℕ) (some : 0 < n) (short : p ≤ n) where
  filled-small : (constant : Option ℕ) → ((c : ℕ) → constant ≡ Some c → c < p) → unwrap_or constant 0 < n
  filled-small None residue = some
  filled-small (Some c) residue = omega (arith, residue c refl, short)

  constants-small : (first : ℕ) (row : List RowEntry) → RisesFrom p first row → (j : ℕ) → unwrap_or (constant_in row j) 0 < n
  constants-small first [] rises j = some
  constants-small first (item ∷ row) rises j = go (constants-small (item.column + 1) row rises.2 j) (nat_eq item.column j)
    where
      go : unwrap_or (constant_in row j) 0 < n → (b : Bool) → unwrap_or (constant_at_place (if b then Some item else entry_in row j)) 0 < n
      go rest true = filled-small item.constant (rises.1).residue
      go rest false = rest

  constant-small : (model : MixedModel) → IsModel p model → (i j : ℕ) → i < length model.equations → constant_at model i j < n
  constant-small model is i j within = constants-small 0 (get_or model.rows i []) (is.rows i [] (omega (arith, within, is.one_row_each))).0 j

module _ (p digits : ℕ) (some : 0 < digits) (short : p ≤ 10 ^ digits) (model : MixedModel) (is : IsModel p model)
    (layers : Layers) (are : AreLayersOf model layers) (whole : AreWholeLayers layers) (k : ℕ) (few : k ≤ 8192)
    (low_q : height layers.q ≤ k) (low_t : length layers.t.rows ≤ k) (low : layers.q.width ≤ k) where
  ten : 10 ≤ 10 ^ digits
  ten = pow-le-pow_right (omega arith) {i = 1} some

  entry-small : (i j : ℕ) → i < height layers.q → j < layers.q.width → entry layers.q i j < 10 ^ digits
  entry-small i j il jl = ⊎_elim
      (λ unknown. let e : entry layers.q i j ≡ constant_at model (slice_index layers.q_origins i) j = (are.layered).q i j il unknown in
      let origin : slice_index layers.q_origins i < length model.equations = ((are.layered).q_rows).below i il in
      omega (arith, e, constant-small p (10 ^ digits) (omega (arith, ten)) short model is (slice_index layers.q_origins i) j origin))
      (λ auxiliary.
      let n : ℕ = j - length model.unknowns in
      let within : n < length are.split = omega (arith, (are.layered).columns, auxiliary, jl) in
      let place : length model.unknowns + n ≡ j = omega (arith, auxiliary) in
      let e : entry layers.q i (length model.unknowns + n) ≡ cond (eqb (slice_index layers.q_origins i)
      (slice_index are.split n)) 1 0 = (are.layered).q_auxiliary i n il within in
      let unit : cond (eqb (slice_index layers.q_origins i) (slice_index are.split n)) 1 0 ≤ 1 =
      one (eqb (slice_index layers.q_origins i) (slice_index are.split n)) in
      subst (λ c. entry layers.q i c < 10 ^ digits) place (omega (arith, e, unit, ten)))
      (cases_lt j (length model.unknowns))
    where
      one : (b : Bool) → cond b 1 0 ≤ 1
      one true = omega arith
      one false = omega arith

  -- at most k numbers of so many digits
  abbrev IsSmallRow : List ℕ → Type 0
  IsSmallRow row = All (λ number. number < 10 ^ digits) row × (length row ≤ k)

  row-small : (i : ℕ) (d : List ℕ) → i < height layers.q → IsSmallRow (get_or layers.q.rows i d)
  row-small i d il =
      let same : get_or layers.q.rows i d ≡ row_at layers.q i = get_or_default layers.q.rows i d [] il in
      let long : length (row_at layers.q i) ≡ layers.q.width = row_long layers.q i il whole.q in
      let small : All (λ number. number < 10 ^ digits) (row_at layers.q i) =
      λ j e jl. subst (λ number. number < 10 ^ digits) (get_or_default (row_at layers.q i) j 0 e jl) (entry-small i j il (omega (arith, jl, long))) in
      subst IsSmallRow (sym same) (small, omega (arith, long, low))

  q-line-short : (number : ℕ) (name row : List ℕ) → number < 10000 → length name ≤ 96 →
      IsSmallRow row → length (q_line number name row) ≤ 104 + (7 + digits) * k
  q-line-short number name row small brief row_is =
      let head : List ℕ = line_head 113 number in
      omega (
        arith,
        head-short 113 number small,
        brief,
        mul-le-mul_right (7 + digits) row_is.1,
        mul_comm k (7 + digits),
        entries-short digits 1 row (omega (arith, row_is.1, few)) row_is.0,
        length-append head name,
        length-append (head ++ name) (row_entries_text 1 row),
        length-append (head ++ name ++ row_entries_text 1 row) (codes "\n"),
      )

  t-line-short : (number : ℕ) (name row : List ℕ) → number < 10000 → length name ≤ 96 →
      All (λ column. column < 8192) row × (length row ≤ k) → length (t_line number name row) ≤ 104 + 6 * k
  t-line-short number name row small brief row_is =
      let head : List ℕ = line_head 116 number in
      omega (
        arith,
        head-short 116 number small,
        brief,
        row_is.1,
        numbers-short row row_is.0,
        length-append head name,
        length-append (head ++ name) (numbers_text row),
        length-append (head ++ name ++ numbers_text row) (codes "\n"),
      )

  columns-text-short : length (columns_text model layers) ≤ 14 + 105 * k
  columns-text-short =
      let count : length layers.column_origins ≡ layers.q.width = (whole.origins).column_origins in
      let lines = columns-short p model is 1 layers.column_origins (omega (arith, count, low, few)) in
      let one : List ℕ = codes "columns" ++ spaced layers.q.width in
      omega (
        arith,
        count,
        low,
        few,
        lines,
        marked-short 32 layers.q.width (omega (arith, low, few)),
        length-append (codes "columns") (spaced layers.q.width),
        length-append one (codes "\n"),
        length-append (one ++ codes "\n") (column_lines model 1 layers.column_origins),
      )

  q-lines-short : length (named_row_lines q_line model.equations layers.q_origins 0 layers.q.rows) ≤ 104 * k + (7 + digits) * (k * k)
  q-lines-short = omega (
    arith,
    at_most (height layers.q) k 104 (7 + digits) low_q,
    rows-short q_line model.equations layers.q_origins (104 + (7 + digits) * k) IsSmallRow q-line-short is.equations 0 layers.q.rows
        (omega (arith, low_q, few)) row-small,
  )

  t-row-small : (i : ℕ) (d : List ℕ) → i < length layers.t.rows → All (λ column. column < 8192)
      (get_or layers.t.rows i d) × (length (get_or layers.t.rows i d) ≤ k)
  t-row-small i d il =
      let same : get_or layers.t.rows i d ≡ get_or layers.t.rows i [] = get_or_default layers.t.rows i d [] il in
      let width : layers.t.width ≤ k = omega (arith, (whole.origins).same_columns, low) in
      let row : List ℕ = get_or layers.t.rows i [] in
      let below : All (λ column. column < layers.t.width) row = λ j e jl. subst (λ column. column < layers.t.width)
      (get_or_default row j 0 e jl) ((whole.t).below i il j jl) in
      let small : All (λ column. column < 8192) row = λ j e jl. let b : get_or row j e < layers.t.width = below j e jl in omega (arith, b, width, few) in
      let count : length row ≤ layers.t.width = rising-few layers.t.width row ((whole.t).rising i il) below in
      subst (λ r. All (λ column. column < 8192) r × (length r ≤ k)) (sym same) (small, omega (arith, count, width))

  t-lines-short : length (named_row_lines t_line model.equations layers.t_origins 0 layers.t.rows) ≤ 104 * k + 6 * (k * k)
  t-lines-short = omega (
    arith,
    at_most (length layers.t.rows) k 104 6 low_t,
    rows-short t_line model.equations layers.t_origins (104 + 6 * k) (λ row. All (λ column. column < 8192) row
        × (length row ≤ k)) t-line-short is.equations 0 layers.t.rows
        (omega (arith, low_t, few)) (λ i d il. t-row-small i d il),
  )

  pub layer-text-short : length (layer_text model layers) ≤ layer_room digits k
  layer-text-short =
      let one : List ℕ = columns_text model layers in
      let two : List ℕ = named_row_lines q_line model.equations layers.q_origins 0 layers.q.rows in
      let three : List ℕ = named_row_lines t_line model.equations layers.t_origins 0 layers.t.rows in
      omega (arith, columns-text-short, q-lines-short, t-lines-short, length-append one two, length-append (one ++ two) three)
