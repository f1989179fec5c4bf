-- Arcs, free columns and ends of a form, as its rows tell them and as a tableau does.
use Rattle.std.proofs.Common.{◌≡◌, ◌≢◌, ℕ, zero, suc, ◌<◌, ◌≤◌, ◌%◌, ◌↔◌, Bool, true, false, ◌&&◌, ◌||◌, not, eqb}
use Rattle.std.proofs.Common.{cond, List, [], ◌∷◌, length, map, slice_index, slice_index_or, inl, inr, refl, ap, sym}
use Rattle.std.proofs.Common.{subst, ◌∙◌, arith}
use Rattle.std.specs.List.{All}
use Rattle.residue_theory.proofs.SetLaws.{differ, not_true, both_true, both-first, both-second, either_cases}
use Rattle.residue_theory.proofs.SetLaws.{either-first, either-second, eqb_true, eqb_false, eqb_from}
use Rattle.residue_theory.proofs.SetLaws.{some_below-found, some_below-holds}
use Rattle.std.proofs.Math.Nat.{mod-eq_of_lt, mod-le}
use Rattle.std.proofs.lemmas.List.{get_or-map, length-map}
use Rattle.std.proofs.lemmas.List.Elements.{All-head, All-tail}
use Rattle.residue_theory.specs.Sets.{has, some_below}
use Rattle.closed_sets.proofs.SetLaws.{not-true, not-make}
use Rattle.mixed_matrices.specs.Arcs.{has_base, has_match, is_end, is_free, leads_to}
use Rattle.cert_text.specs.Contents.{Contents}
use Rattle.cert_text.specs.Ranges.{AreEntries, ArePairs, IsCcf}
use Rattle.cert_text.specs.Readings.{ColumnsDiffer, entry_at, has_column, matrix_of, pair_at, pattern_of, row_with, tableau_of}
use Rattle.cert_text.proofs.PairLists.{found, has-found}
use Rattle.part_rules.specs.Listed.{AreArcs, arc_in, marked}
use Rattle.part_arcs.specs.FormArcs.{AreArcsOf, printed_rows}
use Rattle.part_arcs.specs.Forms.{AreArcsFrom, AreEndsFrom, AreFreeFrom, Ends, Leads}
use Rattle.part_arcs.specs.Marking.{first_numbers, row_of_lists}
use Rattle.part_arcs.proofs.ArcLists.{arcs-within}

-- a number is in a list where some item is it
pub has-some : (list : List ℕ) (x : ℕ) → has list x ≡ true → (k : ℕ) × (k < length list) × (slice_index list k ≡ x)
has-some [] x h = absurd (differ refl h)
has-some (y ∷ ys) x h = elim (either_cases (eqb y x) (has ys x) h) [
  | inl here ↦ (0, omega arith, eqb_true y x here)
  | inr later ↦ let at = has-some ys x later in (suc at.0, omega (arith, at.1), at.2)
]

pub some-has : (list : List ℕ) (k x : ℕ) → k < length list → slice_index list k ≡ x → has list x ≡ true
some-has [] k x low is = absurd (omega (arith, low))
some-has (y ∷ ys) zero x low is = either-first (eqb y x) (has ys x) (eqb_from y x is)
some-has (y ∷ ys) (suc k) x low is = either-second (eqb y x) (has ys x) (some-has ys k x (omega (arith, low)) is)

-- an entry stands at a column where the number there is not 0
entry-has : (entries : List (ℕ × ℕ)) (x : ℕ) → entry_at entries x ≢ 0 → has (first_numbers entries) x ≡ true
entry-has [] x apart = absurd (apart refl)
entry-has (entry ∷ entries) x apart = go (eqb entry.0 x) refl (entry-has entries x)
  where
    go : (b : Bool) → eqb entry.0 x ≡ b → (entry_at entries x ≢ 0 → has (first_numbers entries) x ≡ true) → has (first_numbers (entry ∷ entries)) x ≡ true
    go true e rest = either-first (eqb entry.0 x) (has (first_numbers entries) x) e
    go false e rest = either-second (eqb entry.0 x) (has (first_numbers entries) x) (rest (subst (λ b. cond b entry.1 (entry_at entries x) ≢ 0) e apart))

has-entry : (entries : List (ℕ × ℕ)) (x : ℕ) → All (λ entry. 0 < entry.1) entries → has (first_numbers entries) x ≡ true → entry_at entries x ≢ 0
has-entry [] x all h = absurd (differ refl h)
has-entry (entry ∷ entries) x all h = go (eqb entry.0 x) refl (has-entry entries x (All-tail (λ (e : ℕ × ℕ). 0 < e.1) entry entries all))
  where
    go : (b : Bool) → eqb entry.0 x ≡ b → (has (first_numbers entries) x ≡ true → entry_at entries x ≢ 0) → cond (eqb entry.0 x) entry.1 (entry_at entries x)
        ≢ 0
    go true e rest = subst (λ b. cond b entry.1 (entry_at entries x) ≢ 0) (sym e) (λ zero. let more : 0 < entry.1 =
        All-head (λ (e : ℕ × ℕ). 0 < e.1) entry entries all in omega (arith, more, zero))
    go false e rest = subst (λ b. cond b entry.1 (entry_at entries x) ≢ 0) (sym e) (rest
        (elim (either_cases (eqb entry.0 x) (has (first_numbers entries) x) h) [
          | inl here ↦ absurd (differ e here)
          | inr later ↦ later
        ]))

-- an entry that is not 0 is below what the numbers are below
entry-below : (p : ℕ) (entries : List (ℕ × ℕ)) (x : ℕ) → All (λ entry. entry.1 < p) entries → entry_at entries x ≢ 0 → entry_at entries x < p
entry-below p [] x all apart = absurd (apart refl)
entry-below p (entry ∷ entries) x all apart = go (eqb entry.0 x) refl (entry-below p entries x (All-tail (λ (e : ℕ × ℕ). e.1 < p) entry entries all))
  where
    go : (b : Bool) → eqb entry.0 x ≡ b → (entry_at entries x ≢ 0 → entry_at entries x < p) → cond (eqb entry.0 x) entry.1 (entry_at entries x) < p
    go true e rest = subst (λ b. cond b entry.1 (entry_at entries x) < p) (sym e) (All-head (λ (e : ℕ × ℕ). e.1 < p) entry entries all)
    go false e rest = subst (λ b. cond b entry.1 (entry_at entries x) < p) (sym e) (rest (subst (λ b. cond b entry.1 (entry_at entries x) ≢ 0) e apart))

-- the test of a number that is below p where it is not 0
nonzero-both : (p v : ℕ) → (v ≢ 0 → v < p) → (not (eqb (v % p) 0) ≡ true) ↔ (v ≢ 0)
nonzero-both p v low = (
  λ h zero. differ (not-true (eqb (v % p) 0) h) (eqb_from (v % p) 0 (let less : v % p ≤ v = mod-le v p in omega (arith, less, zero))),
  λ apart. not-make (eqb (v % p) 0) (not_true (eqb (v % p) 0) (λ h. apart (sym (mod-eq_of_lt (low apart)) ∙ eqb_true (v % p) 0 h))),
)

-- where a row of entries has a number that is not 0
pub entries-test : (p n : ℕ) (entries : List (ℕ × ℕ)) (x : ℕ) → AreEntries p n entries →
    (not (eqb (entry_at entries x % p) 0) ≡ true) ↔ (has (first_numbers entries) x ≡ true)
entries-test p n entries x are =
    let test = nonzero-both p (entry_at entries x) (entry-below p entries x (λ k d kl. (are.within k d kl).2)) in (
      λ h. entry-has entries x (test.0 h),
      λ h. test.1 (has-entry entries x (λ k d kl. (are.within k d kl).1) h),
    )

module _ (rows : List (List ℕ)) (pairs : List (ℕ × ℕ)) (m n : ℕ) (are : ArePairs m n pairs) (at : ℕ → ℕ → Bool)
    (same : (i x : ℕ) → i < m → (at i x ≡ true) ↔ (has (row_of_lists rows i) x ≡ true))
    (once : (k l : ℕ) → k < length pairs → l < length pairs → (pair_at pairs k).1 ≡ (pair_at pairs l).1 → k ≡ l) where
  row-below : (j : ℕ) → j < length pairs → (pair_at pairs j).0 < m
  row-below j jl = (are.within j (0, 0) jl).0

  pub column-below : (j : ℕ) → j < length pairs → (pair_at pairs j).1 < n
  column-below j jl = (are.within j (0, 0) jl).1

  pub column-has : (j : ℕ) → j < length pairs → has_column pairs (pair_at pairs j).1 ≡ true
  column-has j jl = some_below-holds (length pairs) (λ k. eqb (pair_at pairs k).1 (pair_at pairs j).1) j jl
      (eqb_from (pair_at pairs j).1 (pair_at pairs j).1 refl)

  row-is : (j : ℕ) → j < length pairs → row_with pairs (pair_at pairs j).1 ≡ (pair_at pairs j).0
  row-is j jl = go (found pairs (pair_at pairs j).1 j jl refl)
    where
      go : ((l : ℕ) × (l < length pairs) × ((pair_at pairs l).1 ≡ (pair_at pairs j).1)
          × ((pair_at pairs l).0 ≡ row_with pairs (pair_at pairs j).1)) → row_with pairs (pair_at pairs j).1 ≡
          (pair_at pairs j).0
      go (l, ll, column, row) = sym row ∙ ap (λ k. (pair_at pairs k).0) (once l j ll jl column)

  pub leads-told : (a b : ℕ) → (has_column pairs b && at (row_with pairs b) a) ≡ true → Leads rows pairs a b
  leads-told a b h = go (has-found pairs b (both-first (has_column pairs b) (at (row_with pairs b) a) h))
    where
      go : ((l : ℕ) × (l < length pairs) × ((pair_at pairs l).1 ≡ b) × ((pair_at pairs l).0 ≡ row_with pairs b)) → Leads rows pairs a b
      go (l, ll, column, row) =
          let there : at (pair_at pairs l).0 a ≡ true = subst (λ i. at i a ≡ true) (sym row) (both-second (has_column pairs b) (at (row_with pairs b) a) h) in
          let place = has-some (row_of_lists rows (pair_at pairs l).0) a ((same (pair_at pairs l).0 a (row-below l ll)).0 there) in
          (l, place.0, ll, place.1, column, place.2)

  pub told-leads : (a b : ℕ) → Leads rows pairs a b → (has_column pairs b && at (row_with pairs b) a) ≡ true
  told-leads a b (j, k, jl, kl, column, is) =
      let there : at (pair_at pairs j).0 a ≡ true = (same (pair_at pairs j).0 a (row-below j jl)).1
      (some-has (row_of_lists rows (pair_at pairs j).0) k a kl is) in
      let here : (has_column pairs (pair_at pairs j).1 && at (row_with pairs (pair_at pairs j).1) a) ≡ true =
      both_true (has_column pairs (pair_at pairs j).1) (at (row_with pairs (pair_at pairs j).1) a)
      (column-has j jl) (subst (λ i. at i a ≡ true) (sym (row-is j jl)) there) in
      subst (λ y. (has_column pairs y && at (row_with pairs y) a) ≡ true) column here

  owned : ℕ → Bool
  owned i = some_below n (λ y. has_column pairs y && eqb (row_with pairs y) i)

  owned-item : (i : ℕ) → some_below n (λ y. has_column pairs y && eqb (row_with pairs y) i) ≡ true → (j : ℕ) × (j < length pairs) × ((pair_at pairs j).0 ≡ i)
  owned-item i h =
      let y = some_below-found n (λ y. has_column pairs y && eqb (row_with pairs y) i) h in
      let item = has-found pairs y.0 (both-first (has_column pairs y.0) (eqb (row_with pairs y.0) i) y.2) in
      (item.0, item.1, item.3 ∙ eqb_true (row_with pairs y.0) i (both-second (has_column pairs y.0) (eqb (row_with pairs y.0) i) y.2))

  item-owned : (i j : ℕ) → j < length pairs → (pair_at pairs j).0 ≡ i → some_below n (λ y. has_column pairs y && eqb (row_with pairs y) i) ≡ true
  item-owned i j jl is =
      let y = (pair_at pairs j).1 in
      some_below-holds n (λ y. has_column pairs y && eqb (row_with pairs y) i) y (column-below j jl)
      (both_true (has_column pairs y) (eqb (row_with pairs y) i) (column-has j jl)
      (eqb_from (row_with pairs y) i (row-is j jl ∙ is)))

  pub ends-told : (x : ℕ) → m ≡ length rows → some_below m
      (λ i. at i x && not (some_below n (λ y. has_column pairs y && eqb (row_with pairs y) i))) ≡ true →
      Ends rows pairs x
  ends-told x size h =
      let i = some_below-found m (λ i. at i x && not (some_below n (λ y. has_column pairs y && eqb (row_with pairs y) i))) h in
      let there : at i.0 x ≡ true = both-first (at i.0 x) (not (some_below n (λ y. has_column pairs y && eqb (row_with pairs y) i.0))) i.2 in
      let apart : some_below n (λ y. has_column pairs y && eqb (row_with pairs y) i.0) ≡ false =
      not-true (some_below n (λ y. has_column pairs y && eqb (row_with pairs y) i.0))
      (both-second (at i.0 x) (not (some_below n (λ y. has_column pairs y && eqb (row_with pairs y) i.0))) i.2) in
      let place = has-some (row_of_lists rows i.0) x ((same i.0 x i.1).0 there) in
      (i.0, place.0, subst (λ k. i.0 < k) size i.1, (λ j jl is. differ apart (item-owned i.0 j jl is)), place.1, place.2)

  pub told-ends : (x : ℕ) → m ≡ length rows → Ends rows pairs x →
      some_below m (λ i. at i x && not (some_below n (λ y. has_column pairs y && eqb (row_with pairs y) i))) ≡ true
  told-ends x size (i, k, il, none, kl, is) =
      let low : i < m = subst (λ l. i < l) (sym size) il in
      let there : at i x ≡ true = (same i x low).1 (some-has (row_of_lists rows i) k x kl is) in
      let free : not (some_below n (λ y. has_column pairs y && eqb (row_with pairs y) i)) ≡ true =
      not-make (some_below n (λ y. has_column pairs y && eqb (row_with pairs y) i))
      (not_true (some_below n (λ y. has_column pairs y && eqb (row_with pairs y) i))
      (λ h. let item = owned-item i h in none item.0 item.1 item.2)) in
      some_below-holds m (λ i. at i x && not (some_below n
      (λ y. has_column pairs y && eqb (row_with pairs y) i))) i low
      (both_true (at i x) (not (some_below n (λ y. has_column pairs y && eqb (row_with pairs y) i))) there free)

pub column-item : (pairs : List (ℕ × ℕ)) (x : ℕ) → has_column pairs x ≡ true → (j : ℕ) × (j < length pairs) × ((pair_at pairs j).1 ≡ x)
column-item pairs x h = let item = has-found pairs x h in (item.0, item.1, item.2)

pub item-column : (pairs : List (ℕ × ℕ)) (x j : ℕ) → j < length pairs → (pair_at pairs j).1 ≡ x → has_column pairs x ≡ true
item-column pairs x j jl is = some_below-holds (length pairs) (λ k. eqb (pair_at pairs k).1 x) j jl (eqb_from (pair_at pairs j).1 x is)

module _ (p : ℕ) (c : Contents) (is : IsCcf p c) (apart : ColumnsDiffer c.base c.mates) where
  abbrev q_at : ℕ → ℕ → Bool
  q_at i x = not (eqb (matrix_of c.p i x % p) 0)

  q-same : (i x : ℕ) → i < c.shape.q_rows → (not (eqb (matrix_of c.p i x % p) 0) ≡ true) ↔ (has (row_of_lists (map first_numbers c.p) i) x ≡ true)
  q-same i x il =
      let low : i < length c.p = subst (λ k. i < k) (sym is.p.count) il in
      let row : row_of_lists (map first_numbers c.p) i ≡ first_numbers (slice_index_or c.p i []) = get_or-map first_numbers c.p i [] [] low in
      let test = entries-test p c.shape.columns (slice_index_or c.p i []) x (is.p.entries i [] low) in (
        λ h. subst (λ keys. has keys x ≡ true) (sym row) (test.0 h),
        λ h. test.1 (subst (λ keys. has keys x ≡ true) row h),
      )

  t-same : (i x : ℕ) → i < c.shape.t_rows → (pattern_of c.t i x ≡ true) ↔ (has (row_of_lists c.t i) x ≡ true)
  t-same i x il = (λ h. h, λ h. h)

  -- what stands in a row of P or T is a column
  q-below : (i k x : ℕ) → i < c.shape.q_rows → k < length (row_of_lists (map first_numbers c.p) i) → slice_index (row_of_lists (map first_numbers c.p) i) k ≡
      x → x < c.shape.columns
  q-below i k x il kl at =
      let low : i < length c.p = subst (λ k. i < k) (sym is.p.count) il in
      let row : row_of_lists (map first_numbers c.p) i ≡ first_numbers (slice_index_or c.p i []) = get_or-map first_numbers c.p i [] [] low in
      let entries = slice_index_or c.p i [] in
      let kl' : k < length entries = subst (λ l. k < l) (ap length row ∙ length-map entries (λ (e : ℕ × ℕ). e.0)) kl in
      let key : slice_index (first_numbers entries) k ≡ (slice_index_or entries k (0, 0)).0 = get_or-map (λ (e : ℕ × ℕ). e.0) entries k (0, 0) 0 kl' in
      subst (λ v. v < c.shape.columns) (sym key ∙ ap (λ keys. slice_index keys k) (sym row) ∙ at) ((is.p.entries i [] low).within k (0, 0) kl').0

  t-below : (i k x : ℕ) → i < c.shape.t_rows → k < length (row_of_lists c.t i) → slice_index (row_of_lists c.t i) k ≡ x → x < c.shape.columns
  t-below i k x il kl at = subst (λ v. v < c.shape.columns) at ((is.t.columns i [] (subst (λ k. i < k) (sym is.t.count) il)).below k 0 kl)

  module _ (arcs : List (ℕ × ℕ)) (A : AreArcsFrom c arcs) where
    arcs-leads : (x y : ℕ) → arc_in arcs x y ≡ true → leads_to p (printed_rows c) (tableau_of c) x y ≡ true
    unfolding leads_to
    arcs-leads x y h =
        let other : x ≢ y = (A.only x y h).0 in
        both_true (not (eqb x y)) ((has_column c.base y && not (eqb (matrix_of c.p (row_with c.base y) x % p) 0)) ||
        (has_column c.mates y && pattern_of c.t (row_with c.mates y) x))
        (not-make (eqb x y) (not_true (eqb x y) (λ e. other (eqb_true x y e))))
        (elim ((A.only x y h).1) [
          | inl base ↦ either-first (has_column c.base y && not (eqb (matrix_of c.p (row_with c.base y) x % p) 0))
              (has_column c.mates y && pattern_of c.t (row_with c.mates y) x)
              (told-leads (map first_numbers c.p) c.base c.shape.q_rows c.shape.columns is.base
              (λ i x. not (eqb (matrix_of c.p i x % p) 0)) q-same apart.in_base x y base)
          | inr mates ↦ either-second (has_column c.base y && not (eqb (matrix_of c.p (row_with c.base y) x % p) 0))
              (has_column c.mates y && pattern_of c.t (row_with c.mates y) x)
              (told-leads c.t c.mates c.shape.t_rows c.shape.columns is.mates (pattern_of c.t) t-same apart.in_mates x y mates)
        ])

    leads-arcs : (x y : ℕ) → leads_to p (printed_rows c) (tableau_of c) x y ≡ true → arc_in arcs x y ≡ true
    unfolding leads_to
    leads-arcs x y h =
        let rest : ((has_column c.base y && not (eqb (matrix_of c.p (row_with c.base y) x % p) 0)) ||
        (has_column c.mates y && pattern_of c.t (row_with c.mates y) x)) ≡ true =
        both-second (not (eqb x y)) ((has_column c.base y && not
        (eqb (matrix_of c.p (row_with c.base y) x % p) 0)) || (has_column c.mates y && pattern_of c.t
        (row_with c.mates y) x)) h in
        let other : x ≢ y = eqb_false x y (not-true (eqb x y)
        (both-first (not (eqb x y)) ((has_column c.base y && not
        (eqb (matrix_of c.p (row_with c.base y) x % p) 0)) || (has_column c.mates y && pattern_of c.t
        (row_with c.mates y) x)) h)) in
        elim (either_cases (has_column c.base y && not (eqb (matrix_of c.p (row_with c.base y) x % p) 0))
        (has_column c.mates y && pattern_of c.t (row_with c.mates y) x) rest) [
          | inl base ↦ A.base x y other (leads-told (map first_numbers c.p) c.base c.shape.q_rows c.shape.columns is.base
              (λ i x. not (eqb (matrix_of c.p i x % p) 0)) q-same apart.in_base x y base)
          | inr mates ↦ A.mates x y other (leads-told c.t c.mates c.shape.t_rows c.shape.columns is.mates (pattern_of c.t) t-same apart.in_mates x y mates)
        ]

    pub arcs-columns : AreArcs c.shape.columns arcs
    arcs-columns = arcs-within c.shape.columns arcs (λ a b h. elim ((A.only a b h).1) [ inl base ↦ q base | inr mates ↦ t mates ])
      where
        q : {a b : ℕ} → Leads (map first_numbers c.p) c.base a b → (a < c.shape.columns) × (b < c.shape.columns)
        q {a} {b} (j, k, jl, kl, column, at) = (
          q-below (pair_at c.base j).0 k a
              (is.base.within j (0, 0) jl).0 kl at,
          subst (λ v. v < c.shape.columns) column
              (is.base.within j (0, 0) jl).1,
        )

        t : {a b : ℕ} → Leads c.t c.mates a b → (a < c.shape.columns) × (b < c.shape.columns)
        t {a} {b} (j, k, jl, kl, column, at) = (
          t-below (pair_at c.mates j).0 k a
              (is.mates.within j (0, 0) jl).0 kl at,
          subst (λ v. v < c.shape.columns) column
              (is.mates.within j (0, 0) jl).1,
        )

    module _ (free ends : List Bool) (R : AreFreeFrom c free) (E : AreEndsFrom c ends) where
      free-told : (x : ℕ) → x < c.shape.columns → marked free x ≡ true → is_free (tableau_of c) x ≡ true
      unfolding is_free
      free-told x xl h = both_true (not (has_column c.base x)) (not (has_column c.mates x))
          (not-make (has_column c.base x) (not_true (has_column c.base x) (λ e. let item = column-item c.base x e in (R.set x xl h).0 item.0 item.1 item.2)))
          (not-make (has_column c.mates x) (not_true (has_column c.mates x) (λ e. let item = column-item c.mates x e in (R.set x xl h).1 item.0 item.1 item.2)))

      told-free : (x : ℕ) → x < c.shape.columns → is_free (tableau_of c) x ≡ true → marked free x ≡ true
      unfolding is_free
      told-free x xl h = R.all x xl
          (λ j jl at. differ (not-true (has_column c.base x) (both-first (not (has_column c.base x))
          (not (has_column c.mates x)) h)) (item-column c.base x j jl at))
          (λ j jl at. differ (not-true (has_column c.mates x) (both-second (not (has_column c.base x))
          (not (has_column c.mates x)) h)) (item-column c.mates x j jl at))

      abbrev q_ends : ℕ → Bool
      q_ends x = some_below c.shape.q_rows (λ i. not (eqb (matrix_of c.p i x % p) 0) && not
          (some_below c.shape.columns (λ y. has_column c.base y && eqb (row_with c.base y) i)))

      abbrev t_ends : ℕ → Bool
      t_ends x = some_below c.shape.t_rows (λ i. pattern_of c.t i x && not
          (some_below c.shape.columns (λ y. has_column c.mates y && eqb (row_with c.mates y) i)))

      q-size : c.shape.q_rows ≡ length (map first_numbers c.p)
      q-size = sym (length-map c.p first_numbers ∙ is.p.count)

      ends-are : (x : ℕ) → marked ends x ≡ true → is_end p (printed_rows c) (tableau_of c) x ≡ true
      unfolding is_end has_base has_match
      ends-are x h = elim (E.only x h) [
        | inl base ↦ either-first (q_ends x) (t_ends x)
            (told-ends (map first_numbers c.p) c.base c.shape.q_rows c.shape.columns is.base
            (λ i x. not (eqb (matrix_of c.p i x % p) 0)) q-same apart.in_base x q-size base)
        | inr mates ↦ either-second (q_ends x) (t_ends x)
            (told-ends c.t c.mates c.shape.t_rows c.shape.columns is.mates (pattern_of c.t) t-same apart.in_mates x
            (sym is.t.count) mates)
      ]

      are-ends : (x : ℕ) → is_end p (printed_rows c) (tableau_of c) x ≡ true → marked ends x ≡ true
      unfolding is_end has_base has_match
      are-ends x h = elim (either_cases (q_ends x) (t_ends x) h) [
        | inl base ↦ E.base x (ends-told (map first_numbers c.p) c.base c.shape.q_rows c.shape.columns is.base
            (λ i x. not (eqb (matrix_of c.p i x % p) 0)) q-same apart.in_base x q-size base)
        | inr mates ↦ E.mates x (ends-told c.t c.mates c.shape.t_rows c.shape.columns is.mates (pattern_of c.t) t-same apart.in_mates x (sym is.t.count) mates)
      ]

      pub form-arcs : AreArcsOf p c arcs free ends
      form-arcs = record {
        within = arcs-columns;
        lead = λ x y xl yl. (arcs-leads x y, leads-arcs x y);
        free_count = R.count;
        starts = λ x xl. (free-told x xl, told-free x xl);
        end_count = E.count;
        stops = λ x xl. (ends-are x, are-ends x);
      }
