-- Entries that are added to a row one after another, and summed, each times the number of its column.
use Rattle.std.proofs.Common.{◌≡◌, ℕ, ◌+◌, ◌*◌, ◌%◌, ◌<◌, ◌≢◌, Bool, true, false, cond, eqb, List, [], length, map, take, slice_index, slice_index_or, set}
use Rattle.std.proofs.Common.{inl, inr, refl, ap, sym, subst, ◌∙◌, arith}
use Rattle.std.proofs.lemmas.List.{get_or-map, get_or-set_same, get_or-set_other, length-set, length-map}
use Rattle.residue_theory.specs.Sets.{everything}
use Rattle.residue_theory.specs.Sums.{sum_below}
use Rattle.residue_theory.proofs.ResidueLaws.{agree-add, sum-one}
use Rattle.residue_theory.proofs.SetLaws.{eqb_from, eqb_true}
use Rattle.residue_theory.proofs.SumLaws.{nat_cases, sum_on-add, sum_on-ext, sum_on-none}
use Rattle.std.proofs.Math.Nat.{mod-mod, zero-mod}
use Rattle.row_entries.specs.Rows.{Item, item_or, items, number_at}
use Rattle.row_entries.specs.declared.entry.Entry.{Entry}
use Rattle.row_entries.proofs.RowLaws.{item, number-taken}
use Rattle.row_echelon.specs.Echelons.{IsAddedTo}

pub eqb_not : (a b : ℕ) → a ≢ b → eqb a b ≡ false
eqb_not a b ne = go (eqb a b) refl
  where
    go : (t : Bool) → eqb a b ≡ t → eqb a b ≡ false
    go true e = absurd (ne (eqb_true a b e))
    go false e = e

pub item_count : {T : Type 0} (number : T → ℕ) (entries : List (Entry T)) → length (items number entries) ≡ length entries
item_count number entries = length-map entries (λ x. item x.column (number x.value))

-- one entry more
module _ {T : Type 0} (number : T → ℕ) (entries : List (Entry T)) (k : ℕ) (e : Entry T) (l : k < length entries)
    (is : e ≡ slice_index_or entries k e) where
  pub entry-is : item_or 0 (items number entries) k ≡ item e.column (number e.value)
  entry-is = get_or-map (λ x. item x.column (number x.value)) entries k e (item 0 0) l
      ∙ ap (λ x. item x.column (number x.value)) (sym is)

  pub entry-taken : (j : ℕ) → number_at (take (k + 1) (items number entries)) j ≡ number_at (take k (items number entries)) j
      + cond (eqb e.column j) (number e.value) 0
  entry-taken j = number-taken 0 (items number entries) k j (omega (arith, l, length-map entries (λ x. item x.column (number x.value))))
      ∙ ap (λ (x : Item). number_at (take k (items number entries)) j + cond (eqb x.column j) x.number 0) entry-is

-- the lists before and after one entry more at column c
module _ (p : ℕ) (xs ys : List Item) (c v : ℕ) (more : (j : ℕ) → number_at ys j ≡ number_at xs j + cond (eqb c j) v 0) where
  more-here : number_at ys c ≡ number_at xs c + v
  more-here = more c ∙ ap (λ b. number_at xs c + cond b v 0) (eqb_from c c refl)

  more-other : (j : ℕ) → c ≢ j → number_at ys j ≡ number_at xs j
  more-other j ne = more j ∙ ap (λ b. number_at xs j + cond b v 0) (eqb_not c j ne) ∙ omega arith

  pub add-step : (factor : ℕ) (row now : List ℕ) (x : ℕ) → IsAddedTo p factor xs row now → c < length row →
      x % p ≡ (slice_index now c + factor * v) % p → IsAddedTo p factor ys row (set now c x)
  add-step factor row now x so cl made = record {
    count = length-set now c x ∙ so.count;
    numbers = λ j jl. elim (nat_cases c j) [
      | inl q ↦ subst (λ k. slice_index (set now c x) k % p
          ≡ (slice_index row k + factor * number_at ys k) % p) q here
      | inr ne ↦ other j jl ne
    ];
  }
    where
      here : slice_index (set now c x) c % p ≡ (slice_index row c + factor * number_at ys c) % p
      here = ap (λ y. y % p) (get_or-set_same now c x 0 (omega (arith, cl, so.count))) ∙ made
          ∙ agree-add p (slice_index now c) (slice_index row c + factor * number_at xs c) (factor * v) (factor * v) (so.numbers c cl) refl
          ∙ ap (λ y. y % p) (let e : number_at ys c ≡ number_at xs c + v = more-here in joined (number_at ys c) (number_at xs c) e)
        where
          joined : (y z : ℕ) → y ≡ z + v → slice_index row c + factor * z + factor * v ≡ slice_index row c + factor * y
          joined y z e = subst (λ w. slice_index row c + factor * z + factor * v ≡ slice_index row c + factor * w) (sym e) (omega arith)

      other : (j : ℕ) → j < length row → c ≢ j → slice_index (set now c x) j % p ≡ (slice_index row j + factor * number_at ys j) % p
      other j jl ne = ap (λ y. y % p) (get_or-set_other now c j x 0 (λ q. ne (sym q))) ∙ so.numbers j jl
          ∙ ap (λ y. (slice_index row j + factor * y) % p) (sym (more-other j ne))

  -- the same for the sum of the entries, each times the number of its column
  pub sum-step : (n : ℕ) (x : ℕ → ℕ) (sum now : ℕ) → c < n → sum % p ≡ sum_below n (λ j. x j * number_at xs j) % p →
      now % p ≡ (sum + x c * v) % p → now % p ≡ sum_below n (λ j. x j * number_at ys j) % p
  sum-step n x sum now cl so made =
      made ∙ agree-add p sum (sum_below n (λ j. x j * number_at xs j)) (x c * v) (sum_below n (λ j. x j * cond (eqb c j) v 0)) so (sym single)
      ∙ ap (λ y. y % p) (sym (sum_on-ext everything n (λ j. x j * number_at ys j) (λ j. x j * number_at xs j + x j * cond (eqb c j) v 0)
      (λ j _ _. ap (λ y. x j * y) (more j) ∙ spread (x j) (number_at xs j) (cond (eqb c j) v 0))
      ∙ sum_on-add everything n (λ j. x j * number_at xs j) (λ j. x j * cond (eqb c j) v 0)))
    where
      spread : (a b d : ℕ) → a * (b + d) ≡ a * b + a * d
      spread a b d = omega arith

      nothing : (a : ℕ) → a * 0 % p ≡ 0
      nothing a = vanish (a * 0) (omega arith)
        where
          vanish : (z : ℕ) → z ≡ 0 → z % p ≡ 0
          vanish z q = ap (λ y. y % p) q ∙ zero-mod p

      single : sum_below n (λ j. x j * cond (eqb c j) v 0) % p ≡ (x c * v) % p
      single = sum-one p everything n c (λ j. x j * cond (eqb c j) v 0) cl refl
          (λ j _ _ ne. ap (λ b. x j * cond b v 0 % p) (eqb_not c j (λ q. ne (sym q))) ∙ nothing (x j))
          ∙ ap (λ b. x c * cond b v 0 % p) (eqb_from c c refl)

-- no entry yet
pub none-added : (p factor : ℕ) (row : List ℕ) → IsAddedTo p factor [] row row
none-added p factor row = record {
  count = refl;
  numbers = λ j _. ap (λ y. y % p)
      (let e : slice_index row j + factor * 0 ≡ slice_index row j = omega arith in sym e);
}

pub none-summed : (p n : ℕ) (x : ℕ → ℕ) (sum : ℕ) → sum ≡ 0 → sum % p ≡ sum_below n (λ j. x j * number_at [] j) % p
none-summed p n x sum z = ap (λ y. y % p) (z ∙ sym (sum_on-ext everything n (λ j. x j * 0) (λ _. 0) (λ j _ _.
    (let e : x j * 0 ≡ 0 = omega arith in e)) ∙ sum_on-none everything n))

pub same-made : (p now sum y z v : ℕ) → now ≡ (sum + y * v) % p → y ≡ z → now % p ≡ (sum + z * v) % p
same-made p now sum y z v is same = ap (λ w. w % p) is ∙ mod-mod (sum + y * v) p ∙ ap (λ w. (sum + w * v) % p) same
