-- Numbers that stand in lists.
use Rattle.std.proofs.Common.{◌≡◌, ℕ, zero, suc, ◌+◌, ◌<◌, ◌≢◌, ◌⊎◌, Bool, true, false, ◌||◌, cond, eqb, List, []}
use Rattle.std.proofs.Common.{◌∷◌, ◌++◌, length, map, take, get_or, slice_index, slice_index_or, inl, inr, refl, ap}
use Rattle.std.proofs.Common.{sym, subst, ◌∙◌, arith}
use Rattle.std.specs.List.{All}
use Rattle.std.specs.List.Sorted.{IsStrictlyIncreasing}
use Rattle.std.proofs.lemmas.List.Elements.{All-append, All-from_get_or, All-map}
use Rattle.std.proofs.lemmas.List.{length_push, length-map, get_or-map}
use Rattle.residue_theory.proofs.SetLaws.{differ, eqb_true, eqb_from, not_true, zero_cases, either-second}
use Rattle.residue_theory.proofs.SumLaws.{nat_cases}
use Rattle.residue_theory.specs.Sets.{has}
use Rattle.cert_text.specs.Readings.{place_of, column_lists, q_row_lists, t_row_lists, StandsOnce}
use Rattle.cert_text.proofs.PrintedRules.{place-is}
use Rattle.cert_checker.specs.declared.standing.Member.{Member}
use Rattle.cert_checker.specs.declared.standing.Member.TheVariants.{Column, QRow, TRow}
use Rattle.cert_text.specs.Contents.{Contents}
use Rattle.cert_text.specs.Ranges.{AreRising, IsCcf, IsPart}
use Rattle.cert_text.specs.declared.shape.Shape.{Shape}
use Rattle.cert_text.specs.declared.part.CcfPart.{CcfPart}
use Rattle.cert_text.specs.declared.part.CcfBlock.{CcfBlock}
use Rattle.cert_checker.specs.Standing.{IsUnplaced, IsPlacedList, AreSet, TellsPlaces, part_list, list_in, lists_in, count_in}

-- places tells of each number below n in which of the first m lists it stands, counted from 1, and 0 where it stands
-- in none of them;
-- none stands in two
pub record AreStanding (n : ℕ) (lists : List (List ℕ)) (m : ℕ) (places : List ℕ) : Type 0 where
  pub count : length places ≡ n
  pub none : (x k : ℕ) → x < n → slice_index places x ≡ 0 → k < m → has (slice_index_or lists k []) x ≡ false
  pub some : (x : ℕ) → x < n → slice_index places x ≢ 0 → (k : ℕ) × (k < m) × (slice_index places x ≡ k + 1) × (has (slice_index_or lists k []) x ≡ true)
  pub one : (x k l : ℕ) → x < n → k < m → l < m → has (slice_index_or lists k []) x ≡ true → has (slice_index_or lists l []) x ≡ true → k ≡ l

pub rising-rest : (y : ℕ) (ys : List ℕ) → IsStrictlyIncreasing (y ∷ ys) → IsStrictlyIncreasing ys
rising-rest y ys rising k kl = subst (λ i. slice_index ys k < slice_index (y ∷ ys) i) next (rising (suc k) (omega (arith, kl)))
  where
    next : suc k + 1 ≡ suc (k + 1)
    next = omega arith

head-lower : (y : ℕ) (ys : List ℕ) (i : ℕ) → IsStrictlyIncreasing (y ∷ ys) → i < length ys → y < get_or ys i 0
head-lower y [] i rising low = absurd (omega arith)
head-lower y (z ∷ ys) zero rising low = rising 0 (omega arith)
head-lower y (z ∷ ys) (suc i) rising low =
    let first : y < z = rising 0 (omega arith) in
    let later : z < get_or ys i 0 = head-lower z ys i (rising-rest y (z ∷ ys) rising) (omega (arith, low)) in
    omega (arith, first, later)

pub or-false : (a b : Bool) → a ≡ false → b ≡ false → (a || b) ≡ false
or-false true b one two = absurd (cc)
or-false false b one two = two

-- a number of a rising list is none of those before it
pub absent-before : (list : List ℕ) (k : ℕ) → IsStrictlyIncreasing list → k < length list → has (take k list) (get_or list k 0) ≡ false
absent-before [] k rising low = absurd (omega arith)
absent-before (y ∷ ys) zero rising low = refl
absent-before (y ∷ ys) (suc k) rising low =
    let less : y < get_or ys k 0 = head-lower y ys k rising (omega (arith, low)) in
    or-false (eqb y (get_or ys k 0)) (has (take k ys) (get_or ys k 0))
    (not_true (eqb y (get_or ys k 0)) (λ h. absurd (omega (arith, less, eqb_true y (get_or ys k 0) h))))
    (absent-before ys k (rising-rest y ys rising) (omega (arith, low)))

pub has-at : (list : List ℕ) (k : ℕ) → k < length list → has list (get_or list k 0) ≡ true
has-at [] k low = absurd (omega arith)
has-at (y ∷ ys) zero low = ap (λ b. b || has ys y) (eqb_from y y refl)
has-at (y ∷ ys) (suc k) low = either-second (eqb y (get_or ys k 0)) (has ys (get_or ys k 0)) (has-at ys k (omega (arith, low)))

pub put-refused : (places now list : List ℕ) (k x part : ℕ) → IsStrictlyIncreasing list → k < length list →
    x ≡ get_or list k 0 → x < length places → IsPlacedList places (take k list) part now → slice_index now x ≢ 0 →
    IsUnplaced places list → (b : Bool) → b ≡ true
put-refused places now list k x part rising low is within placed some unplaced b =
    let absent : has (take k list) x ≡ false = subst (λ y. has (take k list) y ≡ false) (sym is) (absent-before list k rising low) in
    let member : has list x ≡ true = subst (λ y. has list y ≡ true) (sym is) (has-at list k low) in
    absurd (some (placed x within ∙ ap (λ c. cond c part (slice_index places x)) absent ∙ unplaced x within member))

pub standing-none : (n : ℕ) (lists : List (List ℕ)) (places : List ℕ) → length places ≡ n →
    ((x : ℕ) → x < n → slice_index places x ≡ 0) → AreStanding n lists 0 places
standing-none n lists places count zero_is = record {
  count = count;
  none = λ x k xl is kl. absurd (omega (arith, kl));
  some = λ x xl is. absurd (is (zero_is x xl));
  one = λ x k l xl kl ll h i. absurd (omega (arith, kl));
}

module _ (n m : ℕ) (lists : List (List ℕ)) (places : List ℕ) (old : AreStanding n lists m places) (list : List ℕ) (is : list ≡ slice_index_or lists m []) where
  here-is : (k x : ℕ) (b : Bool) → k ≡ m → has list x ≡ b → has (slice_index_or lists k []) x ≡ b
  here-is k x b same h = subst (λ i. has (slice_index_or lists i []) x ≡ b) (sym same) (subst (λ l. has l x ≡ b) is h)

  is-here : (k x : ℕ) (b : Bool) → k ≡ m → has (slice_index_or lists k []) x ≡ b → has list x ≡ b
  is-here k x b same h = subst (λ l. has l x ≡ b) (sym is) (subst (λ i. has (slice_index_or lists i []) x ≡ b) same h)

  module _ (now : List ℕ) (long : length now ≡ n) (unplaced : IsUnplaced places list) (placed : IsPlacedList places list (m + 1) now) where
    now-in : (x : ℕ) → x < n → has list x ≡ true → slice_index now x ≡ m + 1
    now-in x xl h = placed x (omega (arith, xl, old.count)) ∙ ap (λ b. cond b (m + 1) (slice_index places x)) h

    now-out : (x : ℕ) → x < n → has list x ≡ false → slice_index now x ≡ slice_index places x
    now-out x xl h = placed x (omega (arith, xl, old.count)) ∙ ap (λ b. cond b (m + 1) (slice_index places x)) h

    none-step : (x k : ℕ) → x < n → slice_index now x ≡ 0 → k < m + 1 → (b : Bool) → has list x ≡ b → has (slice_index_or lists k []) x ≡ false
    none-step x k xl zero_is kl true h = absurd (omega (arith, zero_is, now-in x xl h))
    none-step x k xl zero_is kl false h = elim (nat_cases k m) [
      | inl same ↦ here-is k x false same h
      | inr other ↦ old.none x k xl (sym (now-out x xl h) ∙ zero_is) (omega (arith, kl, other))
    ]

    some-found : (x : ℕ) → x < n → slice_index now x ≢ 0 → (b : Bool) → has list x ≡ b → (k : ℕ) × (k < m + 1)
        × (slice_index now x ≡ k + 1) × (has (slice_index_or lists k []) x ≡ true)
    some-found x xl some true h = (m, omega arith, now-in x xl h, here-is m x true refl h)
    some-found x xl some false h =
        let at = old.some x xl (λ e. some (now-out x xl h ∙ e)) in
        (at.0, omega (arith, at.1), now-out x xl h ∙ at.2, at.3)

    never : (x k : ℕ) → x < n → k < m → has list x ≡ true → has (slice_index_or lists k []) x ≡ true → (l : ℕ) → k ≡ l
    never x k xl kl h i l = absurd (differ (old.none x k xl (unplaced x (omega (arith, xl, old.count)) h) kl) i)

    one-step : (x k l : ℕ) → x < n → k < m + 1 → l < m + 1 → has (slice_index_or lists k []) x ≡ true →
        has (slice_index_or lists l []) x ≡ true → (k ≡ m) ⊎ (k ≢ m) → (l ≡ m) ⊎ (l ≢ m) → k ≡ l
    one-step x k l xl kl ll h i (inl a) (inl b) = a ∙ sym b
    one-step x k l xl kl ll h i (inl a) (inr b) = sym (never x l xl (omega (arith, ll, b)) (is-here k x true a h) i k)
    one-step x k l xl kl ll h i (inr a) (inl b) = never x k xl (omega (arith, kl, a)) (is-here l x true b i) h l
    one-step x k l xl kl ll h i (inr a) (inr b) = old.one x k l xl (omega (arith, kl, a)) (omega (arith, ll, b)) h i

    pub standing-put : AreStanding n lists (m + 1) now
    standing-put = record {
      count = long;
      none = λ x k xl zero_is kl. none-step x k xl zero_is kl (has list x) refl;
      some = λ x xl some. some-found x xl some (has list x) refl;
      one = λ x k l xl kl ll h i. one-step x k l xl kl ll h i (nat_cases k m) (nat_cases l m);
    }

  -- where each number stands once, no number of the next list has a part
  pub once-unplaced : m < length lists → StandsOnce n lists → IsUnplaced places list
  once-unplaced within once x xl h = elim (zero_cases (slice_index places x)) [
    | inl none ↦ none
    | inr some ↦
        let low : x < n = omega (arith, xl, old.count) in
        let at = old.some x low some in
        let same : at.0 ≡ m = once.one x at.0 m low (omega (arith, at.1, within)) within at.3 (here-is m x true refl h) in
        absurd (omega (arith, at.1, same))
  ]

pub standing-once : (n : ℕ) (lists : List (List ℕ)) (places : List ℕ) → AreStanding n lists (length lists) places → AreSet places → StandsOnce n lists
standing-once n lists places are set = record {
  some = λ x xl. let at = are.some x xl (set x (omega (arith, xl, are.count))) in (at.0, at.1, at.3);
  one = are.one;
}

pub once-set : (n : ℕ) (lists : List (List ℕ)) (places : List ℕ) → AreStanding n lists (length lists) places → StandsOnce n lists → AreSet places
once-set n lists places are once x xl zero_is =
    let low : x < n = omega (arith, xl, are.count) in
    let at = once.some x low in
    absurd (differ (are.none x at.0 low zero_is at.1) at.2)

pub part-count : (c : Contents) → length (part_list c) ≡ length c.blocks + 2
part-count c = omega (arith, length_push (map (λ (block : CcfBlock). block.part) c.blocks) c.last, length-map c.blocks (λ (block : CcfBlock). block.part))

pub list-count : (member : Member) (c : Contents) → length (lists_in member c) ≡ length c.blocks + 2
list-count member c = length-map (part_list c) (list_in member) ∙ part-count c

pub list-at : (member : Member) (c : Contents) (k : ℕ) (part : CcfPart) (list : List ℕ) → k < length c.blocks + 2 →
    list ≡ list_in member part → ((d : CcfPart) → part ≡ slice_index_or (part_list c) k d) →
    list ≡ slice_index_or (lists_in member c) k []
list-at member c k part list low is at = is ∙ ap (list_in member) (at part)
    ∙ sym (get_or-map (list_in member) (part_list c) k part [] (omega (arith, low, part-count c)))

tail-map : (f : CcfPart → List ℕ) (blocks : List CcfBlock) (last : CcfPart) →
    map f (map (λ (block : CcfBlock). block.part) blocks ++ last ∷ []) ≡ map (λ (block : CcfBlock). f block.part) blocks ++ f last ∷ []
tail-map f [] last = refl
tail-map f (block ∷ blocks) last = ap (λ lists. f block.part ∷ lists) (tail-map f blocks last)

-- the lists of one kind are those of the certificate
pub columns-are : (c : Contents) → lists_in Column c ≡ column_lists c
columns-are c = ap (λ lists. (c.first).columns ∷ lists) (tail-map (list_in Column) c.blocks c.last)

pub q_rows-are : (c : Contents) → lists_in QRow c ≡ q_row_lists c
q_rows-are c = ap (λ lists. (c.first).q_rows ∷ lists) (tail-map (list_in QRow) c.blocks c.last)

pub t_rows-are : (c : Contents) → lists_in TRow c ≡ t_row_lists c
t_rows-are c = ap (λ lists. (c.first).t_rows ∷ lists) (tail-map (list_in TRow) c.blocks c.last)

-- the number in places is that of the part, counted from 1
pub place-told : (n : ℕ) (lists : List (List ℕ)) (places : List ℕ) → AreStanding n lists (length lists) places →
    StandsOnce n lists → (x : ℕ) → x < n → slice_index places x ≡ place_of lists x + 1
place-told n lists places are once x xl =
    let at = are.some x xl (once-set n lists places are once x (omega (arith, xl, are.count))) in
    at.2 ∙ ap (λ k. k + 1) (sym (place-is n lists once x at.0 xl at.1 at.3))

pub places-told : (n : ℕ) (lists : List (List ℕ)) (places : List ℕ) → AreStanding n lists (length lists) places → AreSet places → TellsPlaces n lists places
places-told n lists places are set = let once : StandsOnce n lists = standing-once n lists places are set in record {
  once = once;
  count = are.count;
  place = place-told n lists places are once;
}

-- ---- the lists of a form rise
all-last : {X : Type 0} (P : X → Type 0) (x : X) → P x → All P (x ∷ [])
all-last P x is = All-from_get_or P (x ∷ []) x (λ k kl. let zero_is : k ≡ 0 = omega (arith, kl) in subst (λ i. P (get_or (x ∷ []) i x)) (sym zero_is) is)

part-rising : (member : Member) (shape : Shape) (part : CcfPart) → IsPart shape part → AreRising (count_in member shape) (list_in member part)
part-rising Column shape part is = is.columns
part-rising QRow shape part is = is.q_rows
part-rising TRow shape part is = is.t_rows

-- the list of this kind rises in a part
abbrev IsRisingIn : Member → Shape → CcfPart → Type 0
IsRisingIn member shape part = AreRising (count_in member shape) (list_in member part)

pub lists-rising : (member : Member) (p : ℕ) (c : Contents) → IsCcf p c → All (AreRising (count_in member c.shape)) (lists_in member c)
lists-rising member p c is = All-map (AreRising (count_in member c.shape)) (list_in member) (part_list c)
    (All-append (IsRisingIn member c.shape) (c.first ∷ []) (map (λ (block : CcfBlock). block.part) c.blocks ++ c.last ∷ [])
    (all-last (IsRisingIn member c.shape) c.first (part-rising member c.shape c.first is.first))
    (All-append (IsRisingIn member c.shape) (map (λ (block : CcfBlock). block.part) c.blocks) (c.last ∷ [])
    (All-map (IsRisingIn member c.shape) (λ (block : CcfBlock). block.part) c.blocks
    (λ k d kl. part-rising member c.shape (slice_index_or c.blocks k d).part (is.blocks k d kl).part))
    (all-last (IsRisingIn member c.shape) c.last (part-rising member c.shape c.last is.last))))
