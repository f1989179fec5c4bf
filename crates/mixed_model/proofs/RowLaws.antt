-- Rows: what stands at a column, and what an entry put at one leaves.
use Rattle.std.proofs.Common.{◌≡◌, ◌≢◌, ℕ, zero, suc, ◌+◌, ◌-◌, ◌<◌, ◌≤◌, Bool, true, false, cond, ◌||◌, List, []}
use Rattle.std.proofs.Common.{◌∷◌, ◌++◌, length, get_or, set, length-append, Option, Some, None, is_some, Result, Ok}
use Rattle.std.proofs.Common.{Err, refl, sym, ap, subst, ◌∙◌, arith, eqb, ne_eqb, eq-eqb, eqb-true, ⊎_elim}
use Rattle.std.specs.Prelude.{MatchResult}
use Rattle.std.specs.Cmp.{ranks}
use Rattle.std.specs.List.{AllWithin, insert}
use Rattle.std.specs.List.Sorted.{IsNonDecreasingBy, IsSearchInRange, IsBinarySearchResult}
use Rattle.std.specs.Ordering.{nat_cmp, ordering_index, MatchOrdering}
use Rattle.std.proofs.lemmas.Bool.{cases_lt}
use Rattle.std.proofs.lemmas.Bool.Decides.{nat_tests}
use Rattle.std.proofs.lemmas.List.Elements.{All-set}
use Rattle.std.proofs.Math.Seq.{get_or-append_seam}
use Rattle.mixed_model.specs.Entries.{RowEntry}
use Rattle.mixed_model.specs.Rows.{entry_in, constant_at_place, symbol_at_place, constant_in, symbol_in, IsNotEmpty}
use Rattle.mixed_model.specs.Rows.{RisesFrom, IsRow, AreColumnsBelow, FitsBetween, StandsAt, PutsEntry, PutsConstant}
use Rattle.mixed_model.specs.Rows.{PutsSymbol, putting, putting_symbol}
use Rattle.mixed_model.specs.declared.errors.AddError.TheVariants.{Twice}

-- a column that no entry has
pub entry_in-None : (row : List RowEntry) (column : ℕ) → ((i : ℕ) (d : RowEntry) → i < length row →
    (get_or row i d).column ≢ column) → entry_in row column ≡ None
entry_in-None [] column absent = refl
entry_in-None (entry ∷ row) column absent =
    rw (ne_eqb entry.column column (absent 0 entry (omega arith)))
    (entry_in-None row column (λ i d at. absent (suc i) d (omega arith)))

-- an entry before the changed place hides nothing of it
pub past_first : (first : RowEntry) (found : Option RowEntry) (at column : ℕ) (new old : List RowEntry) → first.column < at →
    entry_in new column ≡ cond (eqb at column) found (entry_in old column) →
    entry_in (first ∷ new) column ≡ cond (eqb at column) found (entry_in (first ∷ old) column)
past_first first found at column new old lower rest = by (eqb first.column column) refl (eqb at column) refl
  where
    by : (a : Bool) → eqb first.column column ≡ a → (b : Bool) → eqb at column ≡ b →
        entry_in (first ∷ new) column ≡ cond (eqb at column) found (entry_in (first ∷ old) column)
    by true p true q = absurd (omega (arith, lower, eqb-true first.column column p, eqb-true at column q))
    by true p false q = rw (p, q) refl
    by false p b q = rw p rest

-- an entry put after lower columns
entry_in-insert : (row : List RowEntry) (place : ℕ) (entry : RowEntry) (column : ℕ) → place ≤ length row →
    AllWithin (λ other. other.column < entry.column) row 0 place → entry_in (insert row place entry) column ≡ cond
    (eqb entry.column column) (Some entry) (entry_in row column)
entry_in-insert row zero entry column within before = refl
entry_in-insert [] (suc place) entry column within before = absurd (omega arith)
entry_in-insert (first ∷ row) (suc place) entry column within before =
    past_first first (Some entry) entry.column column (insert row place entry) row (before 0 first (omega arith) (omega arith))
    (entry_in-insert row place entry column (omega arith) (λ k d low high. before (suc k) d (omega arith) (omega arith)))

IsWithin-insert : (columns : ℕ) (row : List RowEntry) (place : ℕ) (entry : RowEntry) → AreColumnsBelow columns row →
    entry.column < columns → AreColumnsBelow columns (insert row place entry)
IsWithin-insert columns row zero entry within at = λ k d short. by k d short
  where
    by : (k : ℕ) (d : RowEntry) → k < length (entry ∷ row) → (get_or (entry ∷ row) k d).column < columns
    by zero d short = at
    by (suc k) d short = within k d (omega arith)
IsWithin-insert columns [] (suc place) entry within at = λ k d short. by k d short
  where
    by : (k : ℕ) (d : RowEntry) → k < length (entry ∷ []) → (get_or (entry ∷ []) k d).column < columns
    by zero d short = at
    by (suc k) d short = absurd (omega arith)
IsWithin-insert columns (next ∷ row) (suc place) entry within at = λ k d short. by k d short
    (IsWithin-insert columns row place entry (λ k d short. within (suc k) d (omega arith)) at)
  where
    by : (k : ℕ) (d : RowEntry) → k < length (next ∷ insert row place entry) →
        AreColumnsBelow columns (insert row place entry) → (get_or (next ∷ insert row place entry) k d).column < columns
    by zero d short rest = within 0 d (omega arith)
    by (suc k) d short rest = rest k d (omega arith)

-- where a column belongs that no entry has
absent_between : (row : List RowEntry) (place column : ℕ) → FitsBetween row place column → entry_in row column ≡ None
absent_between row place column fits =
    entry_in-None row column (λ i d at same. ⊎_elim
    (λ low. let lower = fits.before i d (omega arith) low in omega (arith, lower, same))
    (λ high. let higher = fits.after i d high at in omega (arith, higher, same))
    (cases_lt i place))

-- columns that don't fall compare with a column so too
index_rises : (a b c : ℕ) → a ≤ b → ordering_index (nat_cmp a c) ≤ ordering_index (nat_cmp b c)
index_rises a b c le = grind (arith, nat_tests)

-- the column of an entry that stands in a row
entry_in-column : (row : List RowEntry) (column : ℕ) (entry : RowEntry) → entry_in row column ≡ Some entry → entry.column ≡ column
entry_in-column [] column entry at = let f : ⊥ = cc in absurd f
entry_in-column (next ∷ row) column entry at = by (eqb next.column column) refl at (λ rest. entry_in-column row column entry rest)
  where
    by : (b : Bool) → eqb next.column column ≡ b → cond b (Some next) (entry_in row column) ≡ Some entry →
        (entry_in row column ≡ Some entry → entry.column ≡ column) → entry.column ≡ column
    by true e here rest = let same : next ≡ entry = cc in ap (λ (x : RowEntry). x.column) (sym same) ∙ eqb-true next.column column e
    by false e there rest = rest there

-- what putting a constant answers
pub putting-Twice : (row : List RowEntry) (column : ℕ) → is_some (constant_in row column) ≡ true → putting row column ≡ Err Twice
putting-Twice row column there = rw there refl

pub putting-Ok : (row : List RowEntry) (column : ℕ) → is_some (constant_in row column) ≡ false → putting row column ≡ Ok tt
putting-Ok row column absent = rw absent refl

-- and a symbol
pub putting_symbol-Twice : (row : List RowEntry) (column : ℕ) → symbol_in row column ≡ true → putting_symbol row column ≡ Err Twice
putting_symbol-Twice row column there = rw there refl

pub putting_symbol-Ok : (row : List RowEntry) (column : ℕ) → symbol_in row column ≡ false → putting_symbol row column ≡ Ok tt
putting_symbol-Ok row column absent = rw absent refl

module _ (p : ℕ) where
  -- columns that rise from a later one on do so from an earlier one on
  pub rises_earlier : (first later : ℕ) (row : List RowEntry) → first ≤ later → RisesFrom p later row → RisesFrom p first row
  rises_earlier first later [] early rises = tt
  rises_earlier first later (entry ∷ row) early rises = (omega (arith, rises.0), rises.1, rises.2)

  -- a place in a row is at least the first column
  pub rises_from : (first : ℕ) (row : List RowEntry) → RisesFrom p first row → (i : ℕ) (d : RowEntry) → i < length row → first ≤ (get_or row i d).column
  rises_from first [] rises i d at = absurd (omega arith)
  rises_from first (entry ∷ row) rises zero d at = rises.0
  rises_from first (entry ∷ row) rises (suc i) d at =
      let later = rises_from (entry.column + 1) row rises.2 i d (omega arith) in
      omega (arith, rises.0, later)

  -- columns rise
  rises_between : (first : ℕ) (row : List RowEntry) → RisesFrom p first row → (i k : ℕ) (d : RowEntry) → i < k →
      k < length row → (get_or row i d).column < (get_or row k d).column
  rises_between first [] rises i k d less at = absurd (omega arith)
  rises_between first (entry ∷ row) rises i zero d less at = absurd (omega arith)
  rises_between first (entry ∷ row) rises zero (suc k) d less at =
      let later = rises_from (entry.column + 1) row rises.2 k d (omega arith) in
      omega (arith, later)
  rises_between first (entry ∷ row) rises (suc i) (suc k) d less at = rises_between (entry.column + 1) row rises.2 i k d (omega arith) (omega arith)

  -- a column is lower than those behind it
  before_seam : (lower : ℕ) (xs : List RowEntry) (entry : RowEntry) (rest : List RowEntry) → RisesFrom p (lower + 1) (xs ++ entry ∷ rest) → lower < entry.column
  before_seam lower xs entry rest rises =
      let at = rises_from (lower + 1) (xs ++ entry ∷ rest) rises (length xs) entry (omega (arith, length-append xs (entry ∷ rest))) in
      let is : (get_or (xs ++ entry ∷ rest) (length xs) entry).column ≡ entry.column =
      ap (λ (x : RowEntry). x.column) (get_or-append_seam xs entry rest entry) in
      omega (arith, at, is)

  -- what stands at a place is the entry at its column
  pub entry_in-place : (first : ℕ) (row : List RowEntry) → RisesFrom p first row → (column place : ℕ) (d : RowEntry) →
      place < length row → (get_or row place d).column ≡ column → entry_in row column ≡ Some (get_or row place d)
  entry_in-place first [] rises column place d at same = absurd (omega arith)
  entry_in-place first (entry ∷ row) rises column zero d at same = rw (eq-eqb entry.column column same) refl
  entry_in-place first (entry ∷ row) rises column (suc place) d at same =
      let later = rises_from (entry.column + 1) row rises.2 place d (omega arith) in
      let differs : entry.column ≢ column = λ e. omega (arith, later) in
      rw (ne_eqb entry.column column differs) (entry_in-place (entry.column + 1) row rises.2 column place d (omega arith) same)

  -- the part of a row before an entry has nothing from its column on
  pub entry_in-lower : (first : ℕ) (xs : List RowEntry) (entry : RowEntry) (rest : List RowEntry) →
      RisesFrom p first (xs ++ entry ∷ rest) → (column : ℕ) → entry.column ≤ column → entry_in xs column ≡ None
  entry_in-lower first [] entry rest rises column at = refl
  entry_in-lower first (x ∷ xs) entry rest rises column at =
      let lower = before_seam x.column xs entry rest rises.2 in
      rw (ne_eqb x.column column (λ e. omega (arith, lower, e, at))) (entry_in-lower (x.column + 1) xs entry rest rises.2 column at)

  -- an entry behind lower ones
  pub entry_in-next : (first : ℕ) (xs : List RowEntry) (entry : RowEntry) (rest : List RowEntry) (column : ℕ) →
      RisesFrom p first (xs ++ entry ∷ rest) → entry_in (xs ++ entry ∷ []) column ≡ cond (eqb entry.column column)
      (Some entry) (entry_in xs column)
  entry_in-next first [] entry rest column rises = refl
  entry_in-next first (x ∷ xs) entry rest column rises =
      past_first x (Some entry) entry.column column (xs ++ entry ∷ []) xs (before_seam x.column xs entry rest rises.2)
      (entry_in-next (x.column + 1) xs entry rest column rises.2)

  -- an entry put in the place of another
  entry_in-set : (first : ℕ) (row : List RowEntry) → RisesFrom p first row → (place : ℕ) (entry : RowEntry)
      (column : ℕ) → place < length row → (get_or row place entry).column ≡ entry.column →
      entry_in (set row place entry) column ≡ cond (eqb entry.column column) (Some entry) (entry_in row column)
  entry_in-set first [] rises place entry column within same = absurd (omega arith)
  entry_in-set first (next ∷ row) rises zero entry column within same = by (eqb entry.column column) refl
    where
      by : (b : Bool) → eqb entry.column column ≡ b → cond (eqb entry.column column) (Some entry)
          (entry_in row column) ≡ cond (eqb entry.column column) (Some entry)
          (cond (eqb next.column column) (Some next) (entry_in row column))
      by true p = rw p refl
      by false p = rw (p, ap (λ c. eqb c column) same ∙ p) refl
  entry_in-set first (next ∷ row) rises (suc place) entry column within same =
      let later = rises_from (next.column + 1) row rises.2 place entry (omega arith) in
      past_first next (Some entry) entry.column column (set row place entry) row (omega (arith, later, same))
      (entry_in-set (next.column + 1) row rises.2 place entry column (omega arith) same)

  -- and before higher ones
  RisesFrom-insert : (first : ℕ) (row : List RowEntry) (place : ℕ) (entry : RowEntry) → RisesFrom p first row →
      first ≤ entry.column → IsNotEmpty p entry → place ≤ length row →
      AllWithin (λ other. other.column < entry.column) row 0 place →
      AllWithin (λ other. entry.column < other.column) row place (length row) →
      RisesFrom p first (insert row place entry)
  RisesFrom-insert first [] zero entry rises above filled within before after = (above, filled, tt)
  RisesFrom-insert first (next ∷ row) zero entry rises above filled within before after =
      let higher = after 0 next (omega arith) (omega arith) in
      (above, filled, (omega (arith, higher), rises.1, rises.2))
  RisesFrom-insert first [] (suc place) entry rises above filled within before after = absurd (omega arith)
  RisesFrom-insert first (next ∷ row) (suc place) entry rises above filled within before after =
      let lower = before 0 next (omega arith) (omega arith) in (
        rises.0,
        rises.1,
        RisesFrom-insert (next.column + 1) row place entry rises.2 (omega (arith, lower)) filled (omega arith)
            (λ k d low high. before (suc k) d (omega arith) (omega arith))
            (λ k d low high. after (suc k) d (omega arith) (omega arith)),
      )

  RisesFrom-set : (first : ℕ) (row : List RowEntry) (place : ℕ) (entry : RowEntry) → RisesFrom p first row →
      IsNotEmpty p entry → place < length row → (get_or row place entry).column ≡ entry.column →
      RisesFrom p first (set row place entry)
  RisesFrom-set first [] place entry rises filled within same = absurd (omega arith)
  RisesFrom-set first (next ∷ row) zero entry rises filled within same =
      (subst (λ c. first ≤ c) same rises.0, filled, subst (λ c. RisesFrom p (c + 1) row) same rises.2)
  RisesFrom-set first (next ∷ row) (suc place) entry rises filled within same =
      (rises.0, rises.1, RisesFrom-set (next.column + 1) row place entry rises.2 filled (omega arith) same)

  -- an entry put where it belongs
  pub PutsEntry-insert : (row : List RowEntry) (place : ℕ) (entry : RowEntry) → IsRow p row → IsNotEmpty p entry →
      FitsBetween row place entry.column → PutsEntry p row (insert row place entry) entry
  PutsEntry-insert row place entry rises filled fits = record {
    entries = λ column. entry_in-insert row place entry column fits.within fits.before;
    row = RisesFrom-insert 0 row place entry rises (omega arith) filled fits.within fits.before fits.after;
    within = λ columns at within. IsWithin-insert columns row place entry within at;
  }

  -- an entry put where one stands
  pub PutsEntry-set : (row : List RowEntry) (place : ℕ) (entry : RowEntry) → IsRow p row → IsNotEmpty p entry →
      StandsAt row place entry.column → PutsEntry p row (set row place entry) entry
  PutsEntry-set row place entry rises filled stands = record {
    entries = λ column. entry_in-set 0 row rises place entry column stands.within (stands.column_is entry);
    row = RisesFrom-set 0 row place entry rises filled stands.within (stands.column_is entry);
    within = λ columns at within. All-set (λ other. other.column < columns) row place entry at within;
  }

  -- an entry that has the constant, and the symbol that was there
  puts_constant : (old new : List RowEntry) (entry : RowEntry) (constant : ℕ) → entry.constant ≡ Some constant →
      entry.symbol ≡ symbol_in old entry.column → PutsEntry p old new entry →
      PutsConstant p entry.column constant old new
  puts_constant old new entry constant is same puts = record {
    constants = λ other. ap constant_at_place (puts.entries other) ∙ constant_there other (eqb entry.column other);
    symbols = λ other. ap symbol_at_place (puts.entries other) ∙ symbol_there other (eqb entry.column other) refl;
    row = puts.row;
    within = puts.within;
  }
    where
      constant_there : (other : ℕ) (b : Bool) → constant_at_place (cond b (Some entry) (entry_in old other)) ≡ cond b (Some constant) (constant_in old other)
      constant_there other true = is
      constant_there other false = refl

      symbol_there : (other : ℕ) (b : Bool) → eqb entry.column other ≡ b → symbol_at_place (cond b (Some entry) (entry_in old other)) ≡ symbol_in old other
      symbol_there other true e = same ∙ ap (symbol_in old) (eqb-true entry.column other e)
      symbol_there other false e = refl

  -- an entry that has a symbol, and the constant that was there
  puts_symbol : (old new : List RowEntry) (entry : RowEntry) → entry.symbol ≡ true →
      entry.constant ≡ constant_in old entry.column → PutsEntry p old new entry → PutsSymbol p entry.column old new
  puts_symbol old new entry is same puts = record {
    constants = λ other. ap constant_at_place (puts.entries other) ∙ constant_there other (eqb entry.column other) refl;
    symbols = λ other. ap symbol_at_place (puts.entries other) ∙ symbol_there other (eqb entry.column other);
    row = puts.row;
    within = puts.within;
  }
    where
      constant_there : (other : ℕ) (b : Bool) → eqb entry.column other ≡ b →
          constant_at_place (cond b (Some entry) (entry_in old other)) ≡ constant_in old other
      constant_there other true e = same ∙ ap (constant_in old) (eqb-true entry.column other e)
      constant_there other false e = refl

      symbol_there : (other : ℕ) (b : Bool) → symbol_at_place (cond b (Some entry) (entry_in old other)) ≡ (b || symbol_in old other)
      symbol_there other true = is
      symbol_there other false = refl

  -- a row whose last column is lower
  pub fits_at_end : (row : List RowEntry) (column : ℕ) → IsRow p row →
      ((d : RowEntry) → 0 < length row → (get_or row (length row - 1) d).column < column) →
      (entry_in row column ≡ None) × FitsBetween row (length row) column
  fits_at_end row column rises last = (absent_between row (length row) column fits, fits)
    where
      fits : FitsBetween row (length row) column
      fits = record {
        within = omega arith;
        before = λ k d low high. ⊎_elim
            (λ less. let rise = rises_between 0 row rises k (length row - 1) d less (omega arith) in let end = last d (omega arith) in omega (arith, rise, end))
            (λ same. let at : k ≡ length row - 1 = omega arith in subst (λ i. (get_or row i d).column < column) (sym at) (last d (omega arith)))
            (cases_lt k (length row - 1));
        after = λ k d low high. absurd (omega arith);
      }

  -- what a binary search found
  pub found_place : (row : List RowEntry) (column : ℕ) (found : Result ℕ ℕ) → IsRow p row →
      IsSearchInRange found (length row) → IsBinarySearchResult (λ entry. nat_cmp entry.column column) row found →
      MatchResult found (λ place. StandsAt row place column) (λ place. (entry_in row column ≡ None)
      × FitsBetween row place column)
  found_place row column (Ok place) rises within at = record {
    within = within;
    column_is = column_is;
    found = λ d. entry_in-place 0 row rises column place d within (column_is d);
  }
    where
      column_is : (d : RowEntry) → (get_or row place d).column ≡ column
      column_is d = subst (λ o. MatchOrdering o ((get_or row place d).column < column)
          ((get_or row place d).column ≡ column) (column < (get_or row place d).column)) (at d)
          (ranks (get_or row place d).column column)
  found_place row column (Err place) rises within at = (absent_between row place column fits, fits)
    where
      ordered : IsNonDecreasingBy (λ entry. ordering_index (nat_cmp entry.column column)) row
      ordered i j d le short = ⊎_elim
          (λ less. let rise = rises_between 0 row rises i j d less short in index_rises (get_or row i d).column
          (get_or row j d).column column (omega (arith, rise)))
          (λ same. let e : i ≡ j = omega arith in index_rises (get_or row i d).column (get_or row j d).column column
          (subst (λ k. (get_or row i d).column ≤ (get_or row k d).column) e (omega arith)))
          (cases_lt i j)

      fits : FitsBetween row place column
      fits = record {
        within = within;
        before = λ k d low high. subst (λ o. MatchOrdering o ((get_or row k d).column < column)
            ((get_or row k d).column ≡ column) (column < (get_or row k d).column)) ((at ordered).0 k d low high)
            (ranks (get_or row k d).column column);
        after = λ k d low high. subst (λ o. MatchOrdering o ((get_or row k d).column < column)
            ((get_or row k d).column ≡ column) (column < (get_or row k d).column)) ((at ordered).1 k d low high)
            (ranks (get_or row k d).column column);
      }

  -- what stands in a row is filled
  pub entry_in-filled : (first : ℕ) (row : List RowEntry) → RisesFrom p first row → (column : ℕ) (entry : RowEntry) →
      entry_in row column ≡ Some entry → IsNotEmpty p entry
  entry_in-filled first [] rises column entry at = let f : ⊥ = cc in absurd f
  entry_in-filled first (next ∷ row) rises column entry at =
      by (eqb next.column column) at (λ rest. entry_in-filled (next.column + 1) row rises.2 column entry rest)
    where
      by : (b : Bool) → cond b (Some next) (entry_in row column) ≡ Some entry → (entry_in row column ≡ Some entry → IsNotEmpty p entry) → IsNotEmpty p entry
      by true here rest = let same : next ≡ entry = cc in subst (IsNotEmpty p) same rises.1
      by false there rest = rest there

  -- a constant in a row is a residue other than 0
  constant_in-residue : (row : List RowEntry) → IsRow p row → (column constant : ℕ) → constant_in row column ≡ Some constant → (0 < constant) × (constant < p)
  constant_in-residue row rises column constant at = by (entry_in row column) refl at
    where
      by : (found : Option RowEntry) → entry_in row column ≡ found → constant_at_place found ≡ Some constant → (0 < constant) × (constant < p)
      by None e here = let f : ⊥ = cc in absurd f
      by (Some entry) e here =
          let filled = entry_in-filled 0 row rises column entry e in
          (filled.positive constant here, filled.residue constant here)

  -- nothing stands before the first column
  pub entry_in-before : (first : ℕ) (row : List RowEntry) → RisesFrom p first row → (column : ℕ) → column < first → entry_in row column ≡ None
  entry_in-before first row rises column before =
      entry_in-None row column (λ i d at same. let from = rises_from first row rises i d at in omega (arith, from, same))

  -- rows with the same entries are the same
  same_entries : (first second : ℕ) (a b : List RowEntry) → RisesFrom p first a → RisesFrom p second b →
      ((column : ℕ) → entry_in a column ≡ entry_in b column) → a ≡ b
  same_entries first second [] [] up vp same = refl
  same_entries first second [] (e ∷ b) up vp same =
      let there : None ≡ Some e = same e.column ∙ rw (eq-eqb e.column e.column refl) refl in
      let f : ⊥ = cc in absurd f
  same_entries first second (d ∷ a) [] up vp same =
      let there : Some d ≡ None = sym (rw (eq-eqb d.column d.column refl) refl) ∙ same d.column in
      let f : ⊥ = cc in absurd f
  same_entries first second (d ∷ a) (e ∷ b) up vp same = ⊎_elim
      (λ less.
      let none = entry_in-before e.column (e ∷ b) (omega arith, vp.1, vp.2) d.column less in
      let some : entry_in (d ∷ a) d.column ≡ Some d = rw (eq-eqb d.column d.column refl) refl in
      let there = same d.column in
      let f : ⊥ = cc in absurd f)
      (λ not_less. ⊎_elim
      (λ more.
      let none = entry_in-before d.column (d ∷ a) (omega arith, up.1, up.2) e.column more in
      let some : entry_in (e ∷ b) e.column ≡ Some e = rw (eq-eqb e.column e.column refl) refl in
      let there = same e.column in
      let f : ⊥ = cc in absurd f)
      (λ not_more. at_one (λ rest. same_entries (d.column + 1) (e.column + 1) a b up.2 vp.2 rest) (omega arith))
      (cases_lt e.column d.column))
      (cases_lt d.column e.column)
    where
      at_one : (((c : ℕ) → entry_in a c ≡ entry_in b c) → a ≡ b) → d.column ≡ e.column → d ∷ a ≡ e ∷ b
      at_one rest column =
          let here : Some d ≡ Some e =
          sym (rw (eq-eqb d.column d.column refl) refl) ∙ same d.column ∙ rw (eq-eqb e.column d.column (sym column)) refl in
          let entry : d ≡ e = cc in
          let others : a ≡ b = rest (λ c. ⊎_elim
          (λ later.
          let differs : eqb d.column c ≡ false = ne_eqb d.column c (λ p. omega (arith, p)) in
          let differs_too : eqb e.column c ≡ false = ne_eqb e.column c (λ p. omega (arith, p)) in
          sym (rw differs refl) ∙ same c ∙ rw differs_too refl)
          (λ not_later. entry_in-before (d.column + 1) a up.2 c (omega arith) ∙ sym (entry_in-before (e.column + 1) b vp.2 c (omega arith)))
          (cases_lt d.column c)) in
          (λ i. entry i ∷ others i)

  -- an entry that is filled does not look like none
  unlike_none : (entry : RowEntry) → IsNotEmpty p entry → None ≡ entry.constant → false ≡ entry.symbol → ⊥
  unlike_none entry filled constant symbol =
      let there : false ≡ true = symbol ∙ ap (λ c. is_some c || entry.symbol) constant ∙ filled.some in
      cc

  -- rows with the same constants and symbols are the same
  pub same_rows : (a b : List RowEntry) → IsRow p a → IsRow p b →
      ((column : ℕ) → constant_in a column ≡ constant_in b column) →
      ((column : ℕ) → symbol_in a column ≡ symbol_in b column) → a ≡ b
  same_rows a b up vp constants symbols =
      same_entries 0 0 a b up vp (λ column. by column (entry_in a column) refl (entry_in b column) refl (constants column) (symbols column))
    where
      by : (column : ℕ) (x : Option RowEntry) → entry_in a column ≡ x → (y : Option RowEntry) → entry_in b column ≡ y →
          constant_at_place x ≡ constant_at_place y → symbol_at_place x ≡ symbol_at_place y →
          entry_in a column ≡ entry_in b column
      by column None p None q constant symbol = p ∙ sym q
      by column None p (Some e) q constant symbol = absurd (unlike_none e (entry_in-filled 0 b vp column e q) constant symbol)
      by column (Some d) p None q constant symbol = absurd (unlike_none d (entry_in-filled 0 a up column d p) (sym constant) (sym symbol))
      by column (Some d) p (Some e) q constant symbol =
          let same = entry_in-column a column d p ∙ sym (entry_in-column b column e q) in
          p ∙ (λ i. Some (record { column = same i; constant = constant i; symbol = symbol i })) ∙ sym q

  -- an entry with a residue other than 0, and one with a symbol
  filled_by_constant : (column constant : ℕ) (symbol : Bool) → 0 < constant → constant < p →
      IsNotEmpty p (record { column = column; constant = Some constant; symbol = symbol })
  filled_by_constant column constant symbol some small = record {
    some = refl;
    positive = λ c e. let same : constant ≡ c = cc in subst (λ x. 0 < x) same some;
    residue = λ c e. let same : constant ≡ c = cc in subst (λ x. x < p) same small;
  }

  filled_by_symbol : (column : ℕ) (constant : Option ℕ) → ((c : ℕ) → constant ≡ Some c → (0 < c) × (c < p)) →
      IsNotEmpty p (record { column = column; constant = constant; symbol = true })
  filled_by_symbol column constant residue = record {
    some = by constant;
    positive = λ c e. (residue c e).0;
    residue = λ c e. (residue c e).1;
  }
    where
      by : (c : Option ℕ) → (is_some c || true) ≡ true
      by None = refl
      by (Some c) = refl

  -- a constant put beside what stands at the column, and one put where nothing stands
  pub place_takes_constant : (row : List RowEntry) (place column constant : ℕ) (entry : RowEntry) → IsRow p row →
      0 < constant → constant < p → StandsAt row place column → entry ≡ get_or row place entry →
      PutsConstant p column constant row (set row place
      (record { column = entry.column; constant = Some constant; symbol = entry.symbol }))
  place_takes_constant row place column constant entry rises some small stands is =
      subst (λ c. PutsConstant p c constant row (set row place new)) at
      (puts_constant row (set row place new) new constant refl symbol
      (PutsEntry-set row place new rises (filled_by_constant entry.column constant entry.symbol some small) (subst (StandsAt row place) (sym at) stands)))
    where
      new : RowEntry
      new = record { column = entry.column; constant = Some constant; symbol = entry.symbol }

      at : entry.column ≡ column
      at = ap (λ (x : RowEntry). x.column) is ∙ stands.column_is entry

      symbol : entry.symbol ≡ symbol_in row entry.column
      symbol = ap (λ (x : RowEntry). x.symbol) is ∙ sym (ap symbol_at_place (stands.found entry)) ∙ ap (symbol_in row) (sym at)

  pub gap_takes_constant : (row : List RowEntry) (place column constant : ℕ) → IsRow p row → 0 < constant →
      constant < p → entry_in row column ≡ None → FitsBetween row place column → PutsConstant p column constant row
      (insert row place (record { column = column; constant = Some constant; symbol = false }))
  gap_takes_constant row place column constant rises some small absent fits =
      puts_constant row (insert row place new) new constant refl (sym (ap symbol_at_place absent))
      (PutsEntry-insert row place new rises (filled_by_constant column constant false some small) fits)
    where
      new : RowEntry
      new = record { column = column; constant = Some constant; symbol = false }

  -- a symbol put beside what stands at the column, and one put where nothing stands
  pub place_takes_symbol : (row : List RowEntry) (place column : ℕ) (entry : RowEntry) → IsRow p row →
      StandsAt row place column → entry ≡ get_or row place entry →
      PutsSymbol p column row (set row place (record {
        column = entry.column;
        constant = entry.constant;
        symbol =
            true;
      }))
  place_takes_symbol row place column entry rises stands is =
      subst (λ c. PutsSymbol p c row (set row place new)) at
      (puts_symbol row (set row place new) new refl constant
      (PutsEntry-set row place new rises
      (filled_by_symbol entry.column entry.constant (λ c e. constant_in-residue row rises entry.column c (sym constant ∙ e)))
      (subst (StandsAt row place) (sym at) stands)))
    where
      new : RowEntry
      new = record { column = entry.column; constant = entry.constant; symbol = true }

      at : entry.column ≡ column
      at = ap (λ (x : RowEntry). x.column) is ∙ stands.column_is entry

      constant : entry.constant ≡ constant_in row entry.column
      constant = ap (λ (x : RowEntry). x.constant) is ∙ sym (ap constant_at_place (stands.found entry)) ∙ ap (constant_in row) (sym at)

  pub gap_takes_symbol : (row : List RowEntry) (place column : ℕ) → IsRow p row → entry_in row column ≡ None →
      FitsBetween row place column → PutsSymbol p column row
      (insert row place (record { column = column; constant = None; symbol = true }))
  gap_takes_symbol row place column rises absent fits =
      puts_symbol row (insert row place new) new refl (sym (ap constant_at_place absent))
      (PutsEntry-insert row place new rises (filled_by_symbol column None (λ c e. absurd cc)) fits)
    where
      new : RowEntry
      new = record { column = column; constant = None; symbol = true }
