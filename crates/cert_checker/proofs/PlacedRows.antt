-- Rows that stand in the parts of their columns, item by item.
use Rattle.std.proofs.Common.{◌≡◌, ℕ, ◌+◌, ◌<◌, ◌↔◌, Bool, true, false, ◌&&◌, eqb, List, length, replicate}
use Rattle.std.proofs.Common.{slice_index, slice_set, inl, inr, refl, ap, sym, ◌∙◌, subst, arith}
use Rattle.std.proofs.lemmas.Grind.{same_number_lists}
use Rattle.std.proofs.lemmas.List.{get_or-replicate, get_or-set_other, get_or-set_same, length-replicate, length-set}
use Rattle.residue_theory.specs.Sets.{some_below}
use Rattle.residue_theory.proofs.SetLaws.{both_true, both-first, both-second, differ, eqb_true, eqb_from, not_true}
use Rattle.residue_theory.proofs.SetLaws.{search_below, some_below-found, some_below-holds}
use Rattle.residue_theory.proofs.SumLaws.{nat_cases}
use Rattle.mixed_matrices.specs.Arcs.{has_base, has_match}
use Rattle.mixed_matrices.specs.LayeredMatrices.{LayeredMatrix}
use Rattle.cert_text.specs.Contents.{Contents}
use Rattle.cert_text.specs.Ranges.{ArePairs}
use Rattle.cert_text.specs.Readings.{pair_at, has_column, row_with, place_of, column_lists, q_row_lists, t_row_lists, ColumnsDiffer, StandsOnce}
use Rattle.cert_text.specs.Rules.{HasPlacedRows}
use Rattle.cert_text.proofs.PairLists.{found, has-found, rows_differ}
use Rattle.cert_text.proofs.PrintedRules.{place-is}
use Rattle.cert_checker.specs.Placing.{ArePlacedRows, StandWithColumns}
use Rattle.cert_checker.specs.Standing.{TellsPlaces}

pub placed-none : (m : ℕ) (pairs : List (ℕ × ℕ)) (columns : List ℕ) (last : ℕ) → ArePlacedRows m pairs columns last 0 (replicate m last)
placed-none m pairs columns last = record {
  count = length-replicate m last;
  item = λ k low. absurd (omega (arith, low));
  other = λ i low _. get_or-replicate m i last 0 low;
}

module _ (m n : ℕ) (pairs : List (ℕ × ℕ)) (columns : List ℕ) (last : ℕ) (are : ArePairs m n pairs) where
  -- the row of one item more has the part of its column
  pub placed-more : (k : ℕ) (places : List ℕ) (part : ℕ) → ArePlacedRows m pairs columns last k places → k < length pairs →
      part ≡ slice_index columns (pair_at pairs k).1 →
      ArePlacedRows m pairs columns last (k + 1) (slice_set places (pair_at pairs k).0 part)
  placed-more k places part placed low is = record {
    count = length-set places (pair_at pairs k).0 part ∙ placed.count;
    item = λ l ll. elim (nat_cases l k) [
      | inl same ↦ subst (λ i. slice_index (slice_set places (pair_at pairs k).0 part)
          (pair_at pairs i).0 ≡ slice_index columns (pair_at pairs i).1) (sym same) here
      | inr other ↦
          let before : l < k = omega (arith, ll, other) in
          get_or-set_other places (pair_at pairs k).0 (pair_at pairs l).0 part 0
          (λ e. other (rows_differ m n pairs are l k (omega (arith, before, low)) low e)) ∙ placed.item l before
    ];
    other = λ i il none.
        get_or-set_other places (pair_at pairs k).0 i part 0 (λ e. none k (omega arith) (sym e)) ∙ placed.other i il (λ l ll e. none l (omega (arith, ll)) e);
  }
    where
      here : slice_index (slice_set places (pair_at pairs k).0 part) (pair_at pairs k).0 ≡ slice_index columns (pair_at pairs k).1
      here = get_or-set_same places (pair_at pairs k).0 part 0 (subst (λ c. (pair_at pairs k).0 < c) (sym placed.count) (are.within k (0, 0) low).0) ∙ is

  -- where two tables are made so, they are the same
  placed-same : (wanted places : List ℕ) → ArePlacedRows m pairs columns last (length pairs) wanted → length places ≡ m →
      StandWithColumns m pairs columns last places → (i : ℕ) → i < m → slice_index wanted i ≡ slice_index places i
  placed-same wanted places placed long stand i il =
      elim (search_below (length pairs) (λ k. (pair_at pairs k).0 ≡ i) (λ k kl. nat_cases (pair_at pairs k).0 i)) [
        | inl at ↦ subst (λ r. slice_index wanted r ≡ slice_index places r) at.2 (placed.item at.0 at.1 ∙ sym (stand.item at.0 at.1))
        | inr none ↦ placed.other i il none ∙ sym (stand.other i il none)
      ]

  pub wanted-stand : (wanted places : List ℕ) → ArePlacedRows m pairs columns last (length pairs) wanted →
      length places ≡ m → (wanted ≡ places) ↔ StandWithColumns m pairs columns last places
  wanted-stand wanted places placed long = (
    λ same. record {
      item = λ k kl. subst (λ xs. slice_index xs (pair_at pairs k).0 ≡ slice_index columns (pair_at pairs k).1) same (placed.item k kl);
      other = λ i il none. subst (λ xs. slice_index xs i ≡ last) same (placed.other i il none);
    },
    λ stand. same_number_lists wanted places (placed.count ∙ sym long)
        (λ i il. placed-same wanted places placed long stand i (omega (arith, il, placed.count))),
  )

-- ---- the parts that a tableau asks for
-- row i is that of a column of an item
abbrev IsOfItem : ℕ → List (ℕ × ℕ) → ℕ → Bool
IsOfItem n pairs i = some_below n (λ y. has_column pairs y && eqb (row_with pairs y) i)

module _ (m n blocks : ℕ) (pairs : List (ℕ × ℕ)) (are : ArePairs m n pairs) (apart : (k l : ℕ) → k < length pairs →
    l < length pairs → (pair_at pairs k).1 ≡ (pair_at pairs l).1 → k ≡ l)
    (row_lists column_lists : List (List ℕ)) (rows columns : List ℕ) (told : TellsPlaces m row_lists rows)
    (columns_told : TellsPlaces n column_lists columns) where
  row-of-item : (k : ℕ) → k < length pairs → row_with pairs (pair_at pairs k).1 ≡ (pair_at pairs k).0
  row-of-item k kl = let at = found pairs (pair_at pairs k).1 k kl refl in sym at.3 ∙ ap (λ i. (pair_at pairs i).0) (apart at.0 k at.1 kl at.2)

  column-of-item : (k : ℕ) → k < length pairs → has_column pairs (pair_at pairs k).1 ≡ true
  column-of-item k kl = some_below-holds (length pairs) (λ i. eqb (pair_at pairs i).1 (pair_at pairs k).1) k kl
      (eqb_from (pair_at pairs k).1 (pair_at pairs k).1 refl)

  item-held : (k : ℕ) → k < length pairs → IsOfItem n pairs (pair_at pairs k).0 ≡ true
  item-held k kl =
      let y = (pair_at pairs k).1 in
      let i = (pair_at pairs k).0 in
      some_below-holds n (λ z. has_column pairs z && eqb (row_with pairs z) i) y (are.within k (0, 0) kl).1
      (both_true (has_column pairs y) (eqb (row_with pairs y) i) (column-of-item k kl) (eqb_from (row_with pairs y) i (row-of-item k kl)))

  held-item : (i : ℕ) → IsOfItem n pairs i ≡ true → (k : ℕ) × (k < length pairs) × ((pair_at pairs k).0 ≡ i)
  held-item i h =
      let at = some_below-found n (λ z. has_column pairs z && eqb (row_with pairs z) i) h in
      let it = has-found pairs at.0 (both-first (has_column pairs at.0) (eqb (row_with pairs at.0) i) at.2) in
      (it.0, it.1, it.3 ∙ eqb_true (row_with pairs at.0) i (both-second (has_column pairs at.0) (eqb (row_with pairs at.0) i) at.2))

  pub stand-item : StandWithColumns m pairs columns (blocks + 2) rows → (b : ℕ) → b < n → has_column pairs b ≡ true →
      place_of row_lists (row_with pairs b) ≡ place_of column_lists b
  stand-item stand b bl h =
      let it = has-found pairs b h in
      let within = are.within it.0 (0, 0) it.1 in
      let here : slice_index rows (pair_at pairs it.0).0 ≡ place_of row_lists (pair_at pairs it.0).0 + 1 = told.place (pair_at pairs it.0).0 within.0 in
      let there : slice_index columns (pair_at pairs it.0).1 ≡ place_of column_lists (pair_at pairs it.0).1 + 1 =
      columns_told.place (pair_at pairs it.0).1 within.1 in
      let same : place_of row_lists (pair_at pairs it.0).0 ≡ place_of column_lists (pair_at pairs it.0).1 = omega (arith, here, there, stand.item it.0 it.1) in
      ap (place_of row_lists) (sym it.3) ∙ same ∙ ap (place_of column_lists) it.2

  pub stand-other : StandWithColumns m pairs columns (blocks + 2) rows → (i : ℕ) → i < m → IsOfItem n pairs i ≡ false → place_of row_lists i ≡ blocks + 1
  stand-other stand i il none =
      let last : slice_index rows i ≡ blocks + 2 = stand.other i il (λ k kl same. differ none (subst (λ r. IsOfItem n pairs r ≡ true) same (item-held k kl))) in
      omega (arith, last, told.place i il)

  pub placed-stand : ((b : ℕ) → b < n → has_column pairs b ≡ true → place_of row_lists (row_with pairs b) ≡ place_of column_lists b) →
      ((i : ℕ) → i < m → IsOfItem n pairs i ≡ false → place_of row_lists i ≡ blocks + 1) → StandWithColumns m pairs columns (blocks + 2) rows
  placed-stand base other = record {
    item = λ k kl.
        let within = are.within k (0, 0) kl in
        let same : place_of row_lists (pair_at pairs k).0 ≡ place_of column_lists (pair_at pairs k).1 =
        ap (place_of row_lists) (sym (row-of-item k kl)) ∙ base (pair_at pairs k).1 within.1 (column-of-item k kl) in
        omega (arith, told.place (pair_at pairs k).0 within.0, columns_told.place (pair_at pairs k).1 within.1, same);
    other = λ i il none.
        let last : place_of row_lists i ≡ blocks + 1 = other i il (not_true (IsOfItem n pairs i) (λ h. let it = held-item i h in none it.0 it.1 it.2)) in
        omega (arith, told.place i il, last);
  }

place-low : (n : ℕ) (lists : List (List ℕ)) → StandsOnce n lists → (x : ℕ) → x < n → place_of lists x < length lists
place-low n lists once x xl =
    let at = once.some x xl in
    let same : place_of lists x ≡ at.0 = place-is n lists once x at.0 xl at.1 at.2 in
    subst (λ k. k < length lists) (sym same) at.1

-- both kinds of rows
module _ (L : LayeredMatrix) (c : Contents) (base : ArePairs L.q_rows L.columns c.base)
    (mates : ArePairs L.t_rows L.columns c.mates) (apart : ColumnsDiffer c.base c.mates)
    (long : length (column_lists c) ≡ length c.blocks + 2) (columns : List ℕ) (told : TellsPlaces L.columns (column_lists c) columns)
    (q_rows t_rows : List ℕ) (q_told : TellsPlaces L.q_rows (q_row_lists c) q_rows) (t_told : TellsPlaces L.t_rows (t_row_lists c) t_rows) where
  pub rows-placed : StandWithColumns L.q_rows c.base columns (length c.blocks + 2) q_rows →
      StandWithColumns L.t_rows c.mates columns (length c.blocks + 2) t_rows → HasPlacedRows L c
  unfolding has_base has_match
  rows-placed q t = record {
    q_rows = q_told.once;
    t_rows = t_told.once;
    rows = record {
      columns = λ x xl. let low : place_of (column_lists c) x < length (column_lists c) = place-low L.columns
          (column_lists c) told.once x xl in omega (arith, low, long);
      base = stand-item L.q_rows L.columns (length c.blocks) c.base base apart.in_base (q_row_lists c) (column_lists c) q_rows columns q_told told q;
      matched = stand-item L.t_rows L.columns (length c.blocks) c.mates mates apart.in_mates (t_row_lists c) (column_lists c) t_rows columns t_told told t;
      other_q = stand-other L.q_rows L.columns (length c.blocks) c.base base apart.in_base (q_row_lists c) (column_lists c) q_rows columns q_told told q;
      other_t = stand-other L.t_rows L.columns (length c.blocks) c.mates mates apart.in_mates (t_row_lists c) (column_lists c) t_rows columns t_told told t;
    };
  }

  pub placed-q : HasPlacedRows L c → StandWithColumns L.q_rows c.base columns (length c.blocks + 2) q_rows
  unfolding has_base
  placed-q placed = placed-stand L.q_rows L.columns (length c.blocks) c.base base apart.in_base (q_row_lists c)
      (column_lists c) q_rows columns q_told told placed.rows.base placed.rows.other_q

  pub placed-t : HasPlacedRows L c → StandWithColumns L.t_rows c.mates columns (length c.blocks + 2) t_rows
  unfolding has_match
  placed-t placed = placed-stand L.t_rows L.columns (length c.blocks) c.mates mates apart.in_mates (t_row_lists c)
      (column_lists c) t_rows columns t_told told placed.rows.matched placed.rows.other_t
