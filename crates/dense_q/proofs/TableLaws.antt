-- Tables of numbers: what a change of one row does to the entries.
use Rattle.std.proofs.Common.{◌≡◌, ℕ, ◌+◌, ◌*◌, ◌%◌, ◌<◌, ◌≤◌, ◌≢◌, List, [], ◌∷◌, map, length, slice_index, slice_index_or}
use Rattle.std.proofs.Common.{slice_set, refl, sym, subst, ap, ◌∙◌, Vec, vec_len, arith}
use Rattle.std.specs.List.{All, AllWithin, swap}
use Rattle.std.specs.Vec.{with_item, with_items}
use Rattle.std.proofs.lemmas.List.{map-set, get_or-map, get_or-set_same, get_or-set_other, length-map, length-set, set-set, with_items_is}
use Rattle.std.proofs.lemmas.List.Edits.{length-swap}
use Rattle.std.proofs.lemmas.List.Elements.{All-map, All-set, All-from_all_within, AllWithin-upto}
use Rattle.std.proofs.Math.Nat.{mod-mod}
use Rattle.linear_algebra.specs.RowOperations.{IsRowAdded, IsRowScaled}
use Rattle.residue_field.specs.Rows.{plus_multiple}
use Rattle.residue_field.proofs.RowLaws.{plus_multiple-at}
use Rattle.dense_q.specs.Rows.{multiple}
use Rattle.dense_q.specs.Storage.{IsStored}
use Rattle.dense_q.specs.Tables.{Table, IsMatrix, AreResidues, HasSameSize, height, row_at, entry, with_row}
use Rattle.dense_q.proofs.RowLaws.{multiple-at}

module _ {A Z : Type 0} (number : A → ℕ) where
  -- the rows of numbers
  abbrev pub numbers : List (Vec A Z) → List (List ℕ)
  numbers rows = map (λ row. map number row.items) rows

  pub numbers-row : (rows : List (Vec A Z)) (i : ℕ) (row : Vec A Z) → i < length rows →
      row ≡ slice_index_or rows i row → slice_index_or (numbers rows) i [] ≡ map number row.items
  numbers-row rows i row l e = get_or-map (λ r. map number r.items) rows i row [] l ∙ ap (λ r. map number r.items) (sym e)

  pub numbers-set : (rows : List (Vec A Z)) (i j : ℕ) (row : Vec A Z) (x : A) → i < length rows → row ≡ slice_index_or rows i row →
      numbers (slice_set rows i (with_item row j x)) ≡ slice_set (numbers rows) i (slice_set (slice_index_or (numbers rows) i []) j (number x))
  numbers-set rows i j row x l e =
      map-set (λ r. map number r.items) rows i (with_item row j x)
      ∙ ap (λ r. slice_set (numbers rows) i r) (map-set number row.items j x ∙ ap (λ r. slice_set r j (number x)) (sym (numbers-row rows i row l e)))

  pub numbers-matrix : (w : ℕ) (rows : List (Vec A Z)) → IsStored w rows → IsMatrix (record { width = w; rows = numbers rows })
  numbers-matrix w rows stored = record {
    full = All-map (λ r. length r ≡ w) (λ row. map number row.items) rows
        (λ k d l. grind (
          arith,
          length-map (slice_index_or rows k d).items number,
          (slice_index_or rows k d).ok.0,
          stored.full k d l,
        ));
    few = omega (arith, length-map rows (λ (row : Vec A Z). map number row.items), stored.few);
    narrow = stored.narrow;
  }

  -- the rows once row i holds other values
  pub numbers-with_items : (rows : List (Vec A Z)) (i : ℕ) (row : Vec A Z) (old new : List A) (xs : List ℕ) →
      old ≡ row.items → length new ≡ length old → map number new ≡ xs →
      numbers (slice_set rows i (with_items row new)) ≡ slice_set (numbers rows) i xs
  numbers-with_items rows i row old new xs same len e =
      map-set (λ r. map number r.items) rows i (with_items row new)
      ∙ ap (λ r. slice_set (numbers rows) i r) (ap (λ vs. map number vs) (with_items_is row new (len ∙ ap length same ∙ sym row.ok.0)) ∙ e)

  pub numbers-multiple : (p k : ℕ) (rows : List (Vec A Z)) (i : ℕ) (row : Vec A Z) (old new : List A) →
      i < length rows → row ≡ slice_index_or rows i row → old ≡ row.items → length new ≡ length old →
      map number new ≡ multiple p k (map number old) →
      numbers (slice_set rows i (with_items row new)) ≡ slice_set (numbers rows) i (multiple p k (slice_index_or (numbers rows) i []))
  numbers-multiple p k rows i row old new l e same len done =
      numbers-with_items rows i row old new _ same len (done ∙ ap (λ xs. multiple p k xs) (ap (λ xs. map number xs) same ∙ sym (numbers-row rows i row l e)))

  -- row i was taken out meanwhile
  pub numbers-plus_multiple : (p k : ℕ) (rows : List (Vec A Z)) (i j : ℕ) (row taken source hole : Vec A Z)
      (old new others : List A) → i < length rows → j < length rows → i ≢ j →
      row ≡ slice_index_or rows i row → taken ≡ row → source ≡ slice_index_or (slice_set rows i hole) j source →
      old ≡ taken.items → others ≡ source.items → length new ≡ length old →
      map number new ≡ plus_multiple p k (map number old) (map number others) →
      numbers (slice_set (slice_set rows i hole) i (with_items taken new)) ≡ slice_set (numbers rows) i
      (plus_multiple p k (slice_index_or (numbers rows) i []) (slice_index_or (numbers rows) j []))
  numbers-plus_multiple p k rows i j row taken source hole old new others il jl apart e te se same other_same len done =
      ap (λ rs. numbers rs) (set-set rows i hole (with_items taken new))
      ∙ numbers-with_items rows i taken old new _ same len (done
      ∙ ap (λ xs. plus_multiple p k xs (map number others)) (ap (λ xs. map number xs) (same ∙ ap (λ v. v.items) te) ∙ sym (numbers-row rows i row il e))
      ∙ ap (λ xs. plus_multiple p k (slice_index_or (numbers rows) i []) xs)
      (ap (λ xs. map number xs) other_same ∙ sym
      (numbers-row rows j source jl (se ∙ get_or-set_other rows i j hole source (λ q. apart (sym q))))))

  -- row j of other rows is added to row i
  pub numbers-plus_row : (p k : ℕ) (rows others : List (Vec A Z)) (i j : ℕ) (row source : Vec A Z)
      (old new terms : List A) → i < length rows → j < length others →
      row ≡ slice_index_or rows i row → source ≡ slice_index_or others j source → old ≡ row.items →
      terms ≡ source.items → length new ≡ length old →
      map number new ≡ plus_multiple p k (map number old) (map number terms) →
      numbers (slice_set rows i (with_items row new))
      ≡ slice_set (numbers rows) i
      (plus_multiple p k (slice_index_or (numbers rows) i []) (slice_index_or (numbers others) j []))
  numbers-plus_row p k rows others i j row source old new terms il jl e se same other_same len done =
      numbers-with_items rows i row old new _ same len (done
      ∙ ap (λ xs. plus_multiple p k xs (map number terms))
      (ap (λ xs. map number xs) same ∙ sym (numbers-row rows i row il e))
      ∙ ap (λ xs. plus_multiple p k (slice_index_or (numbers rows) i []) xs)
      (ap (λ xs. map number xs) other_same ∙ sym (numbers-row others j source jl se)))

  -- and copied to row i
  pub numbers-copied : (rows others : List (Vec A Z)) (i j : ℕ) (now source : Vec A Z) (terms : List A) →
      j < length others → source ≡ slice_index_or others j source → terms ≡ source.items → now.items ≡ terms →
      numbers (slice_set rows i now) ≡ slice_set (numbers rows) i (slice_index_or (numbers others) j [])
  numbers-copied rows others i j now source terms jl se other_same done =
      map-set (λ r. map number r.items) rows i now
      ∙ ap (λ r. slice_set (numbers rows) i r)
      (ap (λ xs. map number xs) (done ∙ other_same) ∙ sym (numbers-row others j source jl se))

-- ---- rows in each other's place
pub map-swap : {A B : Type 0} (f : A → B) (xs : List A) (i j : ℕ) → i < length xs → j < length xs → map f (swap xs i j) ≡ swap (map f xs) i j
map-swap f [] i j il jl = refl
map-swap f (d ∷ ys) i j il jl =
    map-set f (slice_set (d ∷ ys) i (slice_index_or (d ∷ ys) j d)) j (slice_index_or (d ∷ ys) i d)
    ∙ ap (λ zs. slice_set zs j (f (slice_index_or (d ∷ ys) i d)))
    (map-set f (d ∷ ys) i (slice_index_or (d ∷ ys) j d)
    ∙ ap (λ z. slice_set (map f (d ∷ ys)) i z) (sym (get_or-map f (d ∷ ys) j d (f d) jl)))
    ∙ ap (λ z. slice_set (slice_set (map f (d ∷ ys)) i (slice_index_or (map f (d ∷ ys)) j (f d))) j z) (sym (get_or-map f (d ∷ ys) i d (f d) il))

All-swap : {X : Type 0} (P : X → Type 0) (xs : List X) (i j : ℕ) → i < length xs → j < length xs → All P xs → All P (swap xs i j)
All-swap P [] i j il jl h = h
All-swap P (d ∷ ys) i j il jl h = All-set P (slice_set (d ∷ ys) i (slice_index_or (d ∷ ys) j d)) j
    (slice_index_or (d ∷ ys) i d) (h i d il) (All-set P (d ∷ ys) i (slice_index_or (d ∷ ys) j d) (h j d jl) h)

pub stored-swap : {A Z : Type 0} (w : ℕ) (rows : List (Vec A Z)) (i j : ℕ) → i < length rows → j < length rows → IsStored w rows → IsStored w (swap rows i j)
stored-swap w rows i j il jl stored = record {
  full = All-swap (λ row. vec_len row ≡ w) rows i j il jl stored.full;
  few = omega (arith, length-swap rows i j, stored.few);
  narrow = stored.narrow;
}

-- ---- the entries, read modulo p
-- another row in the place of one keeps the size
pub with_row-size : (old now : Table) (t : ℕ) (r : List ℕ) → now ≡ with_row old t r → HasSameSize now old
with_row-size old now t r e = record { height_same = ap height e ∙ length-set old.rows t r; width_same = ap (λ (m : Table). m.width) e }

module _ (p k : ℕ) (old : Table) (t s : ℕ) (good : IsMatrix old) (tl : t < height old) (sl : s < height old) where
  same_lengths : length (row_at old t) ≡ length (row_at old s)
  same_lengths = good.full t [] tl ∙ sym (good.full s [] sl)

  -- what adding the row does to the entries
  pub row_added : (now : Table) → now ≡ with_row old t (plus_multiple p k (row_at old t) (row_at old s)) →
      IsRowAdded p (height old) old.width (entry old) (entry now) t s k
  row_added now e = subst (λ (m : Table). IsRowAdded p (height old) old.width (entry old) (entry m) t s k) (sym e)
      (record { changed = changed; others = others })
    where
      comb : List ℕ
      comb = plus_multiple p k (row_at old t) (row_at old s)

      changed : (j : ℕ) → j < old.width → entry (with_row old t comb) t j % p ≡ (entry old t j + k * entry old s j) % p
      changed j jl = ap (λ r. slice_index r j % p) (get_or-set_same old.rows t comb [] tl)
          ∙ ap (λ w. w % p) (plus_multiple-at p k (row_at old t) (row_at old s) j same_lengths
          (omega (arith, good.full t [] tl))) ∙ mod-mod (entry old t j + k * entry old s j) p

      others : (i j : ℕ) → i < height old → j < old.width → i ≢ t → entry (with_row old t comb) i j % p ≡ entry old i j % p
      others i j il jl ne = ap (λ r. slice_index r j % p) (get_or-set_other old.rows t i comb [] ne)

module _ (p k : ℕ) (old : Table) (t : ℕ) (good : IsMatrix old) (tl : t < height old) where
  pub row_scaled : (now : Table) → now ≡ with_row old t (multiple p k (row_at old t)) → IsRowScaled p (height old) old.width (entry old) (entry now) t k
  row_scaled now e = subst (λ (m : Table). IsRowScaled p (height old) old.width (entry old) (entry m) t k) (sym e)
      (record { changed = changed; others = others })
    where
      changed : (j : ℕ) → j < old.width → entry (with_row old t (multiple p k (row_at old t))) t j % p ≡ k * entry old t j % p
      changed j jl = ap (λ r. slice_index r j % p) (get_or-set_same old.rows t (multiple p k (row_at old t)) [] tl)
          ∙ ap (λ w. w % p) (multiple-at p k (row_at old t) j (omega (arith, good.full t [] tl)))
          ∙ mod-mod (k * entry old t j) p

      others : (i j : ℕ) → i < height old → j < old.width → i ≢ t → entry (with_row old t (multiple p k (row_at old t))) i j % p ≡ entry old i j % p
      others i j il jl ne = ap (λ r. slice_index r j % p) (get_or-set_other old.rows t i (multiple p k (row_at old t)) [] ne)

-- ---- a row in the place of another
pub with_row-other : (old now : Table) (t : ℕ) (r : List ℕ) → now ≡ with_row old t r →
    (i j : ℕ) → i ≢ t → entry now i j ≡ entry old i j
with_row-other old now t r e i j ne =
    ap (λ (m : Table). entry m i j) e ∙ ap (λ xs. slice_index xs j) (get_or-set_other old.rows t i r [] ne)

pub with_row-same : (old now : Table) (t : ℕ) (r : List ℕ) → t < height old → now ≡ with_row old t r →
    (j : ℕ) → entry now t j ≡ slice_index r j
with_row-same old now t r tl e j =
    ap (λ (m : Table). entry m t j) e ∙ ap (λ xs. slice_index xs j) (get_or-set_same old.rows t r [] tl)

pub plus_row-same : (p k : ℕ) (old other now : Table) (t s : ℕ) → IsMatrix old → IsMatrix other →
    t < height old → s < height other → other.width ≡ old.width →
    now ≡ with_row old t (plus_multiple p k (row_at old t) (row_at other s)) →
    (j : ℕ) → j < old.width → entry now t j ≡ (entry old t j + k * entry other s j) % p
plus_row-same p k old other now t s good whole tl sl width e j jl =
    with_row-same old now t _ tl e j
    ∙ plus_multiple-at p k (row_at old t) (row_at other s) j
    (good.full t [] tl ∙ sym width ∙ sym (whole.full s [] sl)) (omega (arith, good.full t [] tl))

-- rows have residues, if the numbers of the values of each row seen are below p, and all rows are seen
pub residues-told : {R X : Type 0} (items : R → List X) (number : X → ℕ) (p : ℕ) (rows seen : List R) (n : ℕ) →
    seen ≡ rows → length seen ≤ n → AllWithin (λ row. All (λ value. number value < p) (items row)) seen 0 n →
    AreResidues p (map (λ row. map number (items row)) rows)
residues-told {R} items number p rows seen n same whole told =
    All-map (λ row. All (λ x. x < p) row) (λ row. map number (items row)) rows
    (λ k d less. All-map (λ x. x < p) number (items (slice_index_or rows k d)) (all k d less))
  where
    P : R → Type 0
    P row = All (λ value. number value < p) (items row)

    all : All P rows
    all = subst (λ rs. All P rs) same (All-from_all_within P seen (AllWithin-upto P seen 0 n (length seen) whole told))
