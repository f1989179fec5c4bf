-- What is gathered of a form, list by list.
use Rattle.std.proofs.Common.{◌≡◌, ◌≢◌, ℕ, ◌<◌, ◌≤◌, ◌⊎◌, Bool, true, false, List, [], ◌∷◌, ◌++◌, length, map}
use Rattle.std.proofs.Common.{replicate, take, slice_index, slice_index_or, inl, inr, refl, ap, sym, subst, ◌∙◌}
use Rattle.std.proofs.Math.Seq.{take-append_seam}
use Rattle.std.proofs.lemmas.List.{get_or-map, get_or-replicate, get_or_past, length-map, length-replicate}
use Rattle.residue_theory.proofs.SetLaws.{differ, not_true, lt_cases}
use Rattle.cert_text.specs.Contents.{Contents, numbered, numbered_rows}
use Rattle.std.specs.List.{All}
use Rattle.cert_text.specs.Ranges.{AreEntries, AreRising, IsPrintedMatrix, IsPattern}
use Rattle.cert_text.specs.Readings.{pair_at}
use Rattle.part_rules.specs.Listed.{arc_in, marked}
use Rattle.part_arcs.specs.Forms.{AreArcsFrom, AreEndsFrom, AreFreeFrom, Ends, Leads}
use Rattle.part_arcs.specs.Leading.{AreLed}
use Rattle.part_arcs.specs.Marking.{AreMarked, AreOthers, IsMarked, columns_of, first_numbers, row_of_lists}
use Rattle.part_arcs.proofs.MarkLaws.{column-at, key-at}

pub written-back : {X : Type 0} (m : ℕ) (now rest : List X) → m ≡ length now → take m (now ++ rest) ≡ now
written-back m now rest same = subst (λ i. take i (now ++ rest) ≡ now) (sym same) (take-append_seam now rest)

module _ {T : Type 0} (number : T → ℕ) where
  -- numbers of entries leave their columns
  pub numbered-keys : (row : List (ℕ × T)) → first_numbers (numbered number row) ≡ first_numbers row
  numbered-keys [] = refl
  numbered-keys (entry ∷ row) = ap (λ keys. entry.0 ∷ keys) (numbered-keys row)

  pub numbered-rows : (rows : List (List (ℕ × T))) → map first_numbers (numbered_rows number rows) ≡ map first_numbers rows
  numbered-rows [] = refl
  numbered-rows (row ∷ rows) = ap (λ keys. keys ∷ map first_numbers (numbered_rows number rows)) (numbered-keys row)
      ∙ ap (λ rest. first_numbers row ∷ rest) (numbered-rows rows)

  -- the rows of keys of a slice that prints a matrix
  pub keys-as : (slice rows : List (List (ℕ × T))) (printed : List (List (ℕ × ℕ))) → slice ≡ rows →
      numbered_rows number rows ≡ printed → map first_numbers slice ≡ map first_numbers printed
  keys-as slice rows printed same is = ap (map first_numbers) same ∙ sym (numbered-rows rows) ∙ ap (map first_numbers) is

pub led-as : (rows keys : List (List ℕ)) (pairs items old none now : List (ℕ × ℕ)) → rows ≡ keys → pairs ≡ items →
    old ≡ none → AreLed rows pairs (length pairs) old now → AreLed keys items (length items) none now
led-as rows keys pairs items old none now same listed before led =
    subst (λ r. AreLed r items (length items) none now) same (subst (λ l. AreLed rows l (length l) none now) listed
    (subst (λ o. AreLed rows pairs (length pairs) o now) before led))

pub led-form : (c : Contents) (first arcs : List (ℕ × ℕ)) → AreLed (map first_numbers c.p) c.base (length c.base) [] first →
    AreLed c.t c.mates (length c.mates) first arcs → AreArcsFrom c arcs
led-form c first arcs one two = record {
  base = λ a b other leads. two.kept a b (base a b other leads);
  mates = mates;
  only = λ a b h. told a b (two.only a b h);
}
  where
    base : (a b : ℕ) → a ≢ b → Leads (map first_numbers c.p) c.base a b → arc_in first a b ≡ true
    base a b other (j, k, jl, kl, column, is) = subst (λ v. arc_in first v b ≡ true) is
        (subst (λ v. arc_in first (slice_index (row_of_lists (map first_numbers c.p) (pair_at c.base j).0) k) v ≡ true) column
        (one.new j k jl kl (λ same. other (sym is ∙ same ∙ column))))

    mates : (a b : ℕ) → a ≢ b → Leads c.t c.mates a b → arc_in arcs a b ≡ true
    mates a b other (j, k, jl, kl, column, is) = subst (λ v. arc_in arcs v b ≡ true) is
        (subst (λ v. arc_in arcs (slice_index (row_of_lists c.t (pair_at c.mates j).0) k) v ≡ true) column
        (two.new j k jl kl (λ same. other (sym is ∙ same ∙ column))))

    told : (a b : ℕ) → ((arc_in first a b ≡ true) ⊎ ((j k : ℕ) × (j < length c.mates)
        × (k < length (row_of_lists c.t (pair_at c.mates j).0)) × ((pair_at c.mates j).1 ≡ b) × (a ≢ b)
        × (slice_index (row_of_lists c.t (pair_at c.mates j).0) k ≡ a))) →
        (a ≢ b) × (Leads (map first_numbers c.p) c.base a b ⊎ Leads c.t c.mates a b)
    told a b (inr (j, k, jl, kl, column, other, is)) = (other, inr (j, k, jl, kl, column, is))
    told a b (inl h) = go (one.only a b h)
      where
        go : ((arc_in [] a b ≡ true) ⊎ ((j k : ℕ) × (j < length c.base)
            × (k < length (row_of_lists (map first_numbers c.p) (pair_at c.base j).0)) × ((pair_at c.base j).1 ≡ b) × (a ≢ b)
            × (slice_index (row_of_lists (map first_numbers c.p) (pair_at c.base j).0) k ≡ a))) →
            (a ≢ b) × (Leads (map first_numbers c.p) c.base a b ⊎ Leads c.t c.mates a b)
        go (inl none) = absurd (differ refl none)
        go (inr (j, k, jl, kl, column, other, is)) = (other, inl (j, k, jl, kl, column, is))

-- marks that are not set
pub none-marked : (n x : ℕ) → marked (replicate n false) x ≡ true → ⊥
none-marked n x h = elim (lt_cases x n) [
  | inl low ↦ differ (get_or-replicate n x false false low) h
  | inr high ↦ differ (get_or_past (replicate n false) x false (subst (λ l. l ≤ x) (sym (length-replicate n false)) high)) h
]

-- the first numbers of a list are marked alone
pub marked-alone : (list : List ℕ) (m n : ℕ) (now : List Bool) (x : ℕ) → IsMarked list n (replicate m false) now →
    marked now x ≡ true → (k : ℕ) × (k < n) × (slice_index list k ≡ x)
marked-alone list m n now x are h = elim (are.only x h) [ inl none ↦ absurd (none-marked m x none) | inr item ↦ item ]

pub free-form : (c : Contents) (first taken free : List Bool) → IsMarked (columns_of c.base) (length c.base)
    (replicate c.shape.columns false) first → IsMarked (columns_of c.mates) (length c.mates) first taken →
    AreOthers taken (length taken) free → AreFreeFrom c free
free-form c first taken free one two others = record {
  count = others.count ∙ count;
  set = λ x xl h. let clear : marked taken x ≡ false = others.set x (subst (λ n. x < n) (sym count) xl) h in (
    λ j jl at. differ clear (two.kept x (subst (λ v. marked first v ≡ true) (column-at c.base j (0, 0) jl ∙ at) (one.new j jl))),
    λ j jl at. differ clear (subst (λ v. marked taken v ≡ true) (column-at c.mates j (0, 0) jl ∙ at) (two.new j jl)),
  );
  all = λ x xl base mates. others.clear x (subst (λ n. x < n) (sym count) xl) (not_true (marked taken x) (λ h. absurd (never x base mates (two.only x h))));
}
  where
    count : length taken ≡ c.shape.columns
    count = two.count ∙ one.count ∙ length-replicate c.shape.columns false

    never : (x : ℕ) → ((j : ℕ) → j < length c.base → (pair_at c.base j).1 ≡ x → ⊥) → ((j : ℕ) → j < length c.mates → (pair_at c.mates j).1 ≡ x → ⊥) →
        (marked first x ≡ true) ⊎ ((k : ℕ) × (k < length c.mates) × (slice_index (columns_of c.mates) k ≡ x)) → ⊥
    never x base mates (inl h) = let item = marked-alone (columns_of c.base) c.shape.columns
        (length c.base) first x one h in base item.0 item.1 (sym (column-at c.base item.0 (0, 0) item.1) ∙ item.2)
    never x base mates (inr (k, kl, at)) = mates k kl (sym (column-at c.mates k (0, 0) kl) ∙ at)

-- what rows without an item hold is marked
module _ (rows : List (List ℕ)) (pairs : List (ℕ × ℕ)) (owned : List Bool)
    (O : IsMarked (first_numbers pairs) (length pairs) (replicate (length rows) false) owned) where
  none-owned : (i : ℕ) → ((j : ℕ) → j < length pairs → (pair_at pairs j).0 ≡ i → ⊥) → marked owned i ≡ false
  none-owned i none = not_true (marked owned i) (λ h. let item = marked-alone (first_numbers pairs) (length rows)
      (length pairs) owned i O h in absurd (none item.0 item.1 (sym (key-at pairs item.0 (0, 0) item.1) ∙ item.2)))

  owned-none : (i : ℕ) → marked owned i ≡ false → (j : ℕ) → j < length pairs → (pair_at pairs j).0 ≡ i → ⊥
  owned-none i clear j jl at = differ clear (subst (λ v. marked owned v ≡ true) (key-at pairs j (0, 0) jl ∙ at) (O.new j jl))

  pub ends-marked : (old now : List Bool) (x : ℕ) → AreMarked owned rows (length rows) old now → Ends rows pairs x → marked now x ≡ true
  ends-marked old now x are (i, k, il, none, kl, is) = subst (λ v. marked now v ≡ true) is (are.new i k il (none-owned i none) kl)

  pub marked-ends : (old now : List Bool) (x : ℕ) → AreMarked owned rows (length rows) old now → marked now x ≡ true → (marked old x ≡ true) ⊎ Ends rows pairs x
  marked-ends old now x are h = elim (are.only x h) [
    | inl before ↦ inl before
    | inr (i, k, il, clear, kl, is) ↦ inr (i, k, il, owned-none i clear, kl, is)
  ]

pub ends-form : (c : Contents) (q t first ends : List Bool) → IsMarked (first_numbers c.base) (length c.base)
    (replicate (length (map first_numbers c.p)) false) q → IsMarked (first_numbers c.mates) (length c.mates)
    (replicate (length c.t) false) t →
    AreMarked q (map first_numbers c.p) (length (map first_numbers c.p)) (replicate c.shape.columns false) first →
    AreMarked t c.t (length c.t) first ends → AreEndsFrom c ends
ends-form c q t first ends Q T one two = record {
  count = two.count ∙ one.count ∙ length-replicate c.shape.columns false;
  base = λ x h. two.kept x (ends-marked (map first_numbers c.p) c.base q Q (replicate c.shape.columns false) first x one h);
  mates = λ x h. ends-marked c.t c.mates t T first ends x two h;
  only = λ x h. elim (marked-ends c.t c.mates t T first ends x two h) [
    | inr mates ↦ inr mates
    | inl before ↦ elim (marked-ends (map first_numbers c.p) c.base q Q (replicate c.shape.columns false) first x one before) [
      | inl none ↦ absurd (none-marked c.shape.columns x none)
      | inr base ↦ inl base
    ]
  ];
}

pub marked-as : (list keys : List ℕ) (n m : ℕ) (old none now : List Bool) → list ≡ keys → n ≡ m → old ≡ none →
    IsMarked list n old now → IsMarked keys m none now
marked-as list keys n m old none now same count before are =
    subst (λ k. IsMarked k m none now) same (subst (λ l. IsMarked list l none now) count (subst (λ o. IsMarked list n o now) before are))

-- marks that are written back are the marks
pub back : (len : ℕ) (now old rest : List Bool) → len ≡ length old → length now ≡ length old → take len (now ++ rest) ≡ now
back len now old rest long count = written-back len now rest (long ∙ sym count)

pub rows-as : (taken q : List Bool) (rows keys : List (List ℕ)) (n m : ℕ) (old none now : List Bool) → taken ≡ q →
    rows ≡ keys → n ≡ m → old ≡ none → AreMarked taken rows n old now → AreMarked q keys m none now
rows-as taken q rows keys n m old none now owned same count before are =
    subst (λ t. AreMarked t keys m none now) owned (subst (λ k. AreMarked taken k m none now) same
    (subst (λ l. AreMarked taken rows l none now) count (subst (λ o. AreMarked taken rows n o now) before are)))

-- the columns of entries of a matrix, and of symbols of a pattern
pub keys-low : {T : Type 0} (number : T → ℕ) (p m n l : ℕ) (slice rows : List (List (ℕ × T)))
    (printed : List (List (ℕ × ℕ))) → IsPrintedMatrix p m n printed → slice ≡ rows → numbered_rows number rows ≡ printed →
    n ≡ l →
    (k : ℕ) (d : List (ℕ × T)) → k < length slice → (i : ℕ) (e : ℕ × T) → i < length (slice_index_or slice k d) →
    (slice_index_or (slice_index_or slice k d) i e).0 < l
keys-low {T} number p m n l slice rows printed matrix same is size k d kl i e il =
    let is' : numbered_rows number slice ≡ printed = ap (numbered_rows number) same ∙ is in
    let row : List (ℕ × T) = slice_index_or slice k d in
    let low : k < length printed = subst (λ h. k < h) (sym (length-map slice (numbered number)) ∙ ap length is') kl in
    let row-is : slice_index_or printed k [] ≡ numbered number row = sym (ap (λ r. slice_index_or r k []) is') ∙ get_or-map (numbered number) slice k d [] kl in
    let entries : AreEntries p n (numbered number row) = subst (AreEntries p n) row-is (matrix.entries k [] low) in
    let il' : i < length (numbered number row) = subst (λ h. i < h) (sym (length-map row (λ (item : ℕ × T). (item.0, number item.1)))) il in
    let key : slice_index_or (numbered number row) i (0, 0) ≡
    ((slice_index_or row i e).0, number (slice_index_or row i e).1) =
    get_or-map (λ (item : ℕ × T). (item.0, number item.1)) row i e (0, 0) il in
    subst (λ v. (slice_index_or row i e).0 < v) size (subst (λ (v : ℕ × ℕ). v.0 < n) key (entries.within i (0, 0) il').0)

pub symbols-low : (m n l : ℕ) (slice rows : List (List ℕ)) → IsPattern m n rows → slice ≡ rows → n ≡ l →
    (k : ℕ) (d : List ℕ) → k < length slice → (i e : ℕ) → i < length (slice_index_or slice k d) → slice_index_or (slice_index_or slice k d) i e < l
symbols-low m n l slice rows pattern same size k d kl i e il =
    subst (λ v. slice_index_or (slice_index_or slice k d) i e < v) size
    ((subst (λ (r : List (List ℕ)). All (AreRising n) r) (sym same) pattern.columns k d kl).below i e il)
