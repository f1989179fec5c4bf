-- What a write to a shelf's lists leaves.
use Rattle.std.proofs.Common.{◌≡◌, ◌≢◌, ℕ, suc, ◌+◌, ◌<◌, ◌≤◌, true, false, List, [], ◌∷◌, ◌++◌, length, map, take, drop, get_or, slice_set}
use Rattle.std.proofs.Common.{sym, ◌∙◌, ap, subst, ◌⊎◌, inl, inr, Result, Ok, Err, is_ok, arith, length-append}
use Rattle.std.proofs.lemmas.List.{get_or-map, map-append, map-set, length-set, length-map, take-map, drop-map, take-append-le, take_all, ext_get_or}
use Rattle.std.proofs.Math.Seq.{get_or-append_seam}
use Rattle.std.proofs.Math.ListN.{get_or-append}
use Rattle.std.proofs.lemmas.List.Edits.{map_over_more, length-insert, get_or-insert_at, length-remove}
use Rattle.std.proofs.lemmas.List.Sorted.{searched}
use Rattle.std.specs.List.{insert, remove}
use Rattle.std.specs.List.Sorted.{IsStrictlyIncreasing, IsBinarySearchResult}
use Rattle.std.specs.Ordering.{nat_cmp}
use Rattle.std.specs.Result.{MatchResult}
use Rattle.smallvec.specs.SmallVec.{SmallVec}
use Rattle.residue_theory.specs.Sets.{has}
use Rattle.sparse_t.specs.Columns.{list_items_at, capacity_at, HasSameItems}
use Rattle.sparse_t.specs.Shelves.{ShelfLists, shelf_list, AreWide, IsShelf, IsNumberPut, IsNumberTaken, AreListsChanged}
use Rattle.linear_algebra.specs.Parts.{skip, unskip}
use Rattle.number_pairs.proofs.MoveLaws.{inserted_other, removed_other, skip_back, within_skip, skip_within}
use Rattle.sparse_t.proofs.ListLaws.{nat_cases, lt_cases, has-at, has-member, has-searched, rises}
use Rattle.sparse_t.proofs.ColumnLaws.{items-read, items-same, items-other, capacity-read, capacity-same, capacity-other}

abbrev all_items : List (SmallVec ℕ) → List (List ℕ)
all_items lists = map (λ list. list.items) lists

-- each list is changed in its turn
pub lists-step : (f : List ℕ → List ℕ) (first lists : List (SmallVec ℕ)) (i : ℕ) (v w : SmallVec ℕ) → i < length lists →
    length lists ≡ length first → all_items lists ≡ map f (take i (all_items first)) ++ drop i (all_items first) →
    v ≡ get_or lists i v → w.items ≡ f v.items →
    all_items (slice_set lists i w) ≡ map f (take (i + 1) (all_items first)) ++ drop (i + 1) (all_items first)
lists-step f first lists i v w l count told read e =
    map-set (λ (list : SmallVec ℕ). list.items) lists i w ∙ (ap (slice_set (all_items lists) i) e
    ∙ map_over_more f (all_items first) (all_items lists) i v.items
    (omega (arith, count, length-map first (λ (list : SmallVec ℕ). list.items))) told
    (ap (λ (list : SmallVec ℕ). list.items) read ∙ sym (get_or-map (λ (list : SmallVec ℕ). list.items) lists i v v.items l)))

pub rest-step : (lists first : List (SmallVec ℕ)) (i : ℕ) (w : SmallVec ℕ) →
    ((j : ℕ) → i ≤ j → list_items_at lists j ≡ list_items_at first j) → (j : ℕ) → i + 1 ≤ j →
    list_items_at (slice_set lists i w) j ≡ list_items_at first j
rest-step lists first i w rest j le = items-other lists i j w (λ q. omega (arith, q)) ∙ rest j (omega arith)

-- lists that become wide
module _ (lists : List (SmallVec ℕ)) (i : ℕ) (v w : SmallVec ℕ) (l : i < length lists) (read : v ≡ get_or lists i v) where
  pub wide-step : (width : ℕ) → v.capacity ≤ w.capacity → AreWide width lists → AreWide width (slice_set lists i w)
  wide-step width more W j jl = elim (nat_cases j i) [
    | inl q ↦ subst (λ y. width ≤ capacity_at (slice_set lists i w) y) (sym q)
        (omega (arith, capacity-same lists i w l, more, capacity-read lists i v l read, W i l))
    | inr ne ↦ omega (arith, capacity-other lists i j w ne, W j (omega (arith, length-set lists i w)))
  ]

  pub widened-step : (width : ℕ) → width ≤ w.capacity → ((j : ℕ) → j < i → width ≤ capacity_at lists j) →
      (j : ℕ) → j < i + 1 → width ≤ capacity_at (slice_set lists i w) j
  widened-step width wide W j jl = elim (nat_cases j i) [
    | inl q ↦ subst (λ y. width ≤ capacity_at (slice_set lists i w) y) (sym q) (omega (arith, capacity-same lists i w l, wide))
    | inr ne ↦ omega (arith, capacity-other lists i j w ne, W j (omega arith))
  ]

  -- the lists of columns, changed one after another
  module _ (Changes : List ℕ → List ℕ → Type 0) (first : List (SmallVec ℕ)) (columns : List ℕ) (k : ℕ)
      (up : IsStrictlyIncreasing columns) (kl : k < length columns) (at : get_or columns k 0 ≡ i)
      (others : (j : ℕ) → ((m : ℕ) → m < k → get_or columns m 0 ≢ j) → list_items_at lists j ≡ list_items_at first j) where
    apart : (m : ℕ) → m < k → get_or columns m 0 ≢ i
    apart m ml q = omega (arith, rises columns up m k ml kl)

    pub untouched : list_items_at first i ≡ v.items
    untouched = sym (others i apart) ∙ items-read lists i v l read

    pub changed-step : Changes v.items w.items →
        ((m : ℕ) → m < k → Changes (list_items_at first (get_or columns m 0)) (list_items_at lists (get_or columns m 0))) →
        (m : ℕ) → m < k + 1 → Changes (list_items_at first (get_or columns m 0)) (list_items_at (slice_set lists i w) (get_or columns m 0))
    changed-step more changed m ml = go (lt_cases m k)
      where
        go : (m < k) ⊎ (k ≤ m) → Changes (list_items_at first (get_or columns m 0)) (list_items_at (slice_set lists i w) (get_or columns m 0))
        go (inl less) = subst (Changes (list_items_at first (get_or columns m 0))) (sym (items-other lists i (get_or columns m 0) w
            (apart m less))) (changed m less)
        go (inr ge) = let here : m ≡ k = omega arith in
            subst (λ y. Changes (list_items_at first y) (list_items_at (slice_set lists i w) y)) (sym (ap (λ y. get_or columns y 0) here ∙ at))
            (subst (λ xs. Changes xs (list_items_at (slice_set lists i w) i)) (sym untouched)
            (subst (Changes v.items) (sym (items-same lists i w l)) more))

    pub unchanged-step : (j : ℕ) → ((m : ℕ) → m < k + 1 → get_or columns m 0 ≢ j) → list_items_at (slice_set lists i w) j ≡ list_items_at first j
    unchanged-step j none = items-other lists i j w (λ q. none k (omega arith) (at ∙ sym q)) ∙ others j (λ m ml. none m (omega arith))

pub changed-all : (Changes : List ℕ → List ℕ → Type 0) (first lists : List (SmallVec ℕ)) (columns : List ℕ) (k : ℕ) →
    length lists ≡ length first → length columns ≤ k → k ≤ length columns →
    ((m : ℕ) → m < k → Changes (list_items_at first (get_or columns m 0)) (list_items_at lists (get_or columns m 0))) →
    ((j : ℕ) → ((m : ℕ) → m < k → get_or columns m 0 ≢ j) → list_items_at lists j ≡ list_items_at first j) →
    AreListsChanged Changes (all_items first) (all_items lists) columns
changed-all Changes first lists columns k count all within changed others = record {
  count = length-map lists (λ (list : SmallVec ℕ). list.items) ∙ (count ∙ sym (length-map first (λ (list : SmallVec ℕ). list.items)));
  changed = λ j jl h. let m = has-member columns j h in subst (λ y. Changes (list_items_at first y) (list_items_at lists y)) m.2
      (changed m.0 (omega (arith, m.1)));
  others = λ j jl h. others j (λ m ml q. differ (sym h ∙ has-at columns m j (omega arith) q));
}
  where
    differ : false ≡ true → ⊥
    differ e = cc

-- one list: what a binary search tells of a number's place
module _ (list : List ℕ) (number : ℕ) (r : Result ℕ ℕ) (up : IsStrictlyIncreasing list)
    (found : IsBinarySearchResult (λ y. nat_cmp y number) list r) where
  pub not_there : (i : ℕ) → r ≡ Ok i → has list number ≡ false → ⊥
  not_there i e h = differ (sym (ap is_ok e) ∙ (has-searched list number r up found ∙ h))
    where
      differ : true ≡ false → ⊥
      differ e = cc

  pub there : (i : ℕ) → r ≡ Err i → has list number ≡ true → ⊥
  there i e h = differ (sym (ap is_ok e) ∙ (has-searched list number r up found ∙ h))
    where
      differ : false ≡ true → ⊥
      differ e = cc

  rising : (i j : ℕ) → i ≤ j → j < length list → get_or list i 0 ≤ get_or list j 0
  rising i j le l = elim (lt_cases i j) [
    | inl less ↦ omega (arith, rises list up i j less l)
    | inr ge ↦ let same : i ≡ j = omega arith in subst (λ v. get_or list v 0 ≤ get_or list j 0) (sym same) (omega arith)
  ]

  pub put-by_search : (place : ℕ) (now : List ℕ) → r ≡ Err place → now ≡ insert list place number → IsNumberPut number list now
  put-by_search place now e told =
      let F = subst (λ (r : Result ℕ ℕ). MatchResult r (λ i. (i < length list) × (get_or list i 0 ≡ number))
      (λ i. (i ≤ length list) × ((k : ℕ) → k < i → get_or list k 0 < number)
      × ((k : ℕ) → i ≤ k → k < length list → number < get_or list k 0))) e (searched list number r found rising) in
      record { place = place; within = F.0; now_is = told; less = F.1; greater = F.2 }

  pub taken-by_search : (place : ℕ) (now : List ℕ) → r ≡ Ok place → now ≡ remove list place → IsNumberTaken number list now
  taken-by_search place now e told =
      let F = subst (λ (r : Result ℕ ℕ). MatchResult r (λ i. (i < length list) × (get_or list i 0 ≡ number))
      (λ i. (i ≤ length list) × ((k : ℕ) → k < i → get_or list k 0 < number)
      × ((k : ℕ) → i ≤ k → k < length list → number < get_or list k 0))) e (searched list number r found rising) in
      record { place = place; within = F.0; number_is = F.1; now_is = told }

-- a wide list comes last
pub wide-push : (lists now : List (SmallVec ℕ)) (v : SmallVec ℕ) (width : ℕ) → now ≡ lists ++ v ∷ [] → width ≤ v.capacity →
    AreWide width lists → AreWide width now
wide-push lists now v width told wide W = subst (AreWide width) (sym told) (λ i l. elim (lt_cases i (length lists)) [
  | inl less ↦ omega (
    arith,
    at i,
    get_or-append (map (λ (list : SmallVec ℕ). list.capacity) lists) (v.capacity ∷ []) 0 i
        (omega (arith, length-map lists (λ (list : SmallVec ℕ). list.capacity))),
    W i less,
  )
  | inr ge ↦ let last : i ≡ length (map (λ (list : SmallVec ℕ). list.capacity) lists) =
      omega (arith, length-map lists (λ (list : SmallVec ℕ). list.capacity), length-append lists (v ∷ []), l) in
      omega (
        arith,
        at i,
        ap (λ k. get_or (map (λ (list : SmallVec ℕ). list.capacity) lists ++ v.capacity ∷ []) k 0) last,
        get_or-append_seam (map (λ (list : SmallVec ℕ). list.capacity) lists) v.capacity [] 0,
        wide,
      )
])
  where
    at : (i : ℕ) → capacity_at (lists ++ v ∷ []) i ≡ get_or (map (λ (list : SmallVec ℕ). list.capacity) lists ++ v.capacity ∷ []) i 0
    at i = ap (λ xs. get_or xs i 0) (map-append (λ (list : SmallVec ℕ). list.capacity) lists (v ∷ []))

-- a list of any items with one more, and with one less
module _ {X : Type 0} (none : X) (P : X → Type 0) (xs : List X) (v : ℕ) (old : (i : ℕ) → i < length xs → P (get_or xs i none)) where
  pub all-insert : (x : X) → v ≤ length xs → P x → (i : ℕ) → i < length (insert xs v x) → P (get_or (insert xs v x) i none)
  all-insert x le new i il = elim (nat_cases i v) [
    | inl q ↦ subst (λ k. P (get_or (insert xs v x) k none)) (sym q) (subst P (sym (get_or-insert_at xs v x none le)) new)
    | inr ne ↦ subst (λ k. P (get_or (insert xs v x) k none)) (skip_back v i ne)
        (subst P (sym (inserted_other none xs v (unskip v i) x le))
        (old (unskip v i) (within_skip v (unskip v i) (length xs) le (subst (λ k. k < length xs + 1) (sym (skip_back v i ne))
        (omega (arith, length-insert xs v x le))))))
  ]

  pub all-remove : v < length xs → (i : ℕ) → i < length (remove xs v) → P (get_or (remove xs v) i none)
  all-remove l i il = subst P (sym (removed_other none xs v i l))
      (old (skip v i) (subst (λ n. skip v i < n) (length-remove xs v l) (skip_within v i (length (remove xs v)) il)))

module _ {X Y : Type 0} (f : X → Y) (xs : List X) (v : ℕ) where
  pub map-insert : (x : X) → map f (insert xs v x) ≡ insert (map f xs) v (f x)
  map-insert x = map-append f (take v xs) (x ∷ drop v xs)
      ∙ (ap (λ ys. ys ++ f x ∷ map f (drop v xs)) (sym (take-map f v xs)) ∙ ap (λ ys. take v (map f xs) ++ f x ∷ ys) (sym (drop-map f v xs)))

  pub map-remove : map f (remove xs v) ≡ remove (map f xs) v
  map-remove = map-append f (take v xs) (drop (suc v) xs)
      ∙ (ap (λ ys. ys ++ map f (drop (suc v) xs)) (sym (take-map f v xs)) ∙ ap (λ ys. take v (map f xs) ++ ys) (sym (drop-map f (suc v) xs)))

pub written_whole : {X : Type 0} (n : ℕ) (xs now : List X) → n ≡ length xs → length now ≡ length xs → take n (now ++ drop (length now) xs) ≡ now
written_whole n xs now count same = take-append-le n now (drop (length now) xs) (omega arith) ∙ take_all n now (omega arith)

abbrev capacity_of : SmallVec ℕ → ℕ
capacity_of list = list.capacity

-- wide lists, with one more and with one less
module _ (width : ℕ) (lists : List (SmallVec ℕ)) (v : ℕ) (W : AreWide width lists) where
  wide : (i : ℕ) → i < length (map capacity_of lists) → width ≤ get_or (map capacity_of lists) i 0
  wide i l = W i (omega (arith, length-map lists capacity_of))

  pub wide-insert : (list : SmallVec ℕ) → v ≤ length lists → width ≤ list.capacity → AreWide width (insert lists v list)
  wide-insert list le new i l = subst (λ xs. width ≤ get_or xs i 0) (sym (map-insert capacity_of lists v list))
      (all-insert 0 (λ c. width ≤ c) (map capacity_of lists) v wide list.capacity (omega (arith, length-map lists capacity_of)) new i
      (omega (
        arith,
        length-insert lists v list le,
        length-insert (map capacity_of lists) v list.capacity (omega
            (arith, length-map lists capacity_of)),
        length-map lists capacity_of,
      )))

  pub wide-remove : v < length lists → AreWide width (remove lists v)
  wide-remove l i il = subst (λ xs. width ≤ get_or xs i 0) (sym (map-remove capacity_of lists v))
      (all-remove 0 (λ c. width ≤ c) (map capacity_of lists) v wide (omega (arith, length-map lists capacity_of)) i
      (omega (
        arith,
        length-remove lists v l,
        length-remove (map capacity_of lists) v (omega
            (arith, length-map lists capacity_of)),
        length-map lists capacity_of,
      )))

pub wide-pop : (width : ℕ) (lists rest : List (SmallVec ℕ)) (v : SmallVec ℕ) → lists ≡ rest ++ v ∷ [] → AreWide width lists →
    AreWide width rest × (width ≤ v.capacity)
wide-pop width lists rest v e W = (
  λ i l. omega (
    arith,
    at i,
    get_or-append (map capacity_of rest) (v.capacity ∷ []) 0 i (omega (arith, length-map rest capacity_of)),
    W i (omega (arith, count)),
  ),
  omega (
    arith,
    at (length (map capacity_of rest)),
    get_or-append_seam (map capacity_of rest) v.capacity [] 0,
    W (length (map capacity_of rest)) (omega (arith, count, length-map rest capacity_of)),
  ),
)
  where
    count : length lists ≡ length rest + 1
    count = ap length e ∙ length-append rest (v ∷ [])

    at : (i : ℕ) → capacity_at lists i ≡ get_or (map capacity_of rest ++ v.capacity ∷ []) i 0
    at i = ap (λ (xs : List (SmallVec ℕ)). capacity_at xs i) e ∙ ap (λ xs. get_or xs i 0) (map-append capacity_of rest (v ∷ []))

-- the shelf after each change
module _ (count width capacity spare_capacity : ℕ) (lists spare : List (SmallVec ℕ)) (S : IsShelf count width lists spare capacity spare_capacity) where
  pub shelf-same : (now : List (SmallVec ℕ)) → length now ≡ length lists → ((j : ℕ) → capacity_at now j ≡ capacity_at lists j) →
      IsShelf count width now spare capacity spare_capacity
  shelf-same now same capacities = record {
    enough = omega (arith, S.enough, same);
    room = S.room;
    spare_room = S.spare_room;
    wide = λ i l. omega (arith, capacities i, S.wide i (omega (arith, same, l)));
    spare_wide = S.spare_wide;
  }

  pub shelf-put : (now rest : List (SmallVec ℕ)) (v list : SmallVec ℕ) (at room spare_room : ℕ) → at ≤ length lists →
      now ≡ insert lists at list → spare ≡ rest ++ v ∷ [] → v.capacity ≤ list.capacity → capacity ≤ room → spare_capacity ≤ spare_room →
      IsShelf count width now rest room spare_room
  shelf-put now rest v list at room spare_room le told popped more wider spare_wider =
      let P = wide-pop width spare rest v popped S.spare_wide in record {
        enough = omega (arith, S.enough, ap length told, length-insert lists at list le, ap length popped, length-append rest (v ∷ []));
        room = omega (arith, S.room, wider);
        spare_room = omega (arith, S.spare_room, spare_wider);
        wide = subst (AreWide width) (sym told) (wide-insert width lists at S.wide list le (omega (arith, P.1, more)));
        spare_wide = P.0;
      }

  pub shelf-taken : (now kept : List (SmallVec ℕ)) (list : SmallVec ℕ) (at room spare_room : ℕ) → at < length lists →
      now ≡ remove lists at → list ≡ get_or lists at list →
      (spare_capacity ≤ length spare → kept ≡ spare) → (length spare < spare_capacity → kept ≡ spare ++ list ∷ []) →
      capacity ≤ room → spare_capacity ≤ spare_room → IsShelf count width now kept room spare_room
  shelf-taken now kept list at room spare_room l told read full more wider spare_wider = go (lt_cases (length spare) spare_capacity)
    where
      wide_now : AreWide width now
      wide_now = subst (AreWide width) (sym told) (wide-remove width lists at S.wide l)

      wide_list : width ≤ list.capacity
      wide_list = omega (arith, S.wide at l, capacity-read lists at list l read)

      go : (length spare < spare_capacity) ⊎ (spare_capacity ≤ length spare) → IsShelf count width now kept room spare_room
      go (inl less) = record {
        enough = omega (arith, S.enough, ap length told, length-remove lists at l, ap length (more less), length-append spare (list ∷ []));
        room = omega (arith, S.room, wider);
        spare_room = omega (arith, S.spare_room, spare_wider);
        wide = wide_now;
        spare_wide = wide-push spare kept list width (more less) wide_list S.spare_wide;
      }
      go (inr ge) = record {
        enough = omega (arith, S.spare_room, ap length (full ge), ge);
        room = omega (arith, S.room, wider);
        spare_room = omega (arith, S.spare_room, spare_wider);
        wide = wide_now;
        spare_wide = subst (AreWide width) (sym (full ge)) S.spare_wide;
      }

-- a shelf's lists, as they are seen and as they lie
module _ (xs lists : List (SmallVec ℕ)) (s : ShelfLists) (count width : ℕ)
    (view : record { lists = all_items lists; count = count; width = width } ≡ s) (value : xs ≡ lists) where
  pub seen-list : (j : ℕ) → shelf_list s j ≡ list_items_at xs j
  seen-list j = ap (λ (t : ShelfLists). shelf_list t j) (sym view) ∙ ap (λ (ys : List (SmallVec ℕ)). list_items_at ys j) (sym value)

  pub seen-count : length s.lists ≡ length xs
  seen-count = ap (λ (t : ShelfLists). length t.lists) (sym view) ∙ (length-map lists (λ (list : SmallVec ℕ). list.items) ∙ ap length (sym value))

  pub seen-lists : s.lists ≡ all_items xs
  seen-lists = ap (λ (t : ShelfLists). t.lists) (sym view) ∙ ap all_items (sym value)

pub same-items : (lists now : List (SmallVec ℕ)) → HasSameItems lists now → all_items now ≡ all_items lists
same-items lists now H =
    let count = length-map now (λ (list : SmallVec ℕ). list.items) in
    ext_get_or [] (all_items now) (all_items lists)
    (omega (arith, count, length-map lists (λ (list : SmallVec ℕ). list.items), H.count))
    (λ i l. H.items i (omega (arith, count, H.count, l)))
