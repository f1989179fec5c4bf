-- A row that joins, less the rows of the base columns.
use Rattle.std.proofs.Common.{◌≡◌, ℕ, ◌+◌, ◌-◌, ◌*◌, ◌%◌, ◌<◌, ◌≤◌, ◌≢◌, List, length, map, slice_index, slice_index_or}
use Rattle.std.proofs.Common.{true, false, zero, suc, inl, inr, refl, sym, subst, ap, ◌∙◌, arith}
use Rattle.std.proofs.Math.Nat.{mod-mod}
use Rattle.std.proofs.lemmas.List.{get_or-map}
use Rattle.residue_theory.specs.Residues.{IsPrime}
use Rattle.residue_theory.specs.Sets.{everything, without}
use Rattle.residue_theory.specs.Sums.{sum_below, sum_on}
use Rattle.residue_theory.proofs.SumLaws.{nat_cases, sum_on-ext, sum_on-without, without-member}
use Rattle.residue_theory.proofs.SetLaws.{differ}
use Rattle.residue_theory.proofs.ResidueLaws.{agree-add, agree-mul, agree_of, lacks}
use Rattle.bit_table.specs.Bits.{Bits, bit_in}
use Rattle.sparse_q.specs.Tables.{SparseTable, number_in, IsRowSet}
use Rattle.row_transform.specs.Bases.{BaseLists, is_base, base_row}
use Rattle.row_transform.proofs.EntryEdits.{same_size, sizes-joined}
use Rattle.sparse_tableau.specs.Joins.{HasRowsApart, IsLastCombined, IsJoinedTo, IsLess, IsFactorTold}
use Rattle.sparse_tableau.proofs.RoomLaws.{same-room}

-- an item at its place
pub item-is : {T : Type 0} (number : T → ℕ) (items : List T) (k : ℕ) (x : T) → x ≡ slice_index_or items k x → k < length items →
    number x ≡ slice_index (map number items) k
item-is number items k x e l = ap number e ∙ sym (get_or-map number items k x 0 l)

-- ---- one row
-- adding the opposite of x takes x away
pub less-of : (p : ℕ) → IsPrime p → (m r x f : ℕ) (a b : SparseTable) → (x + f) % p ≡ 0 →
    IsRowSet a b m (λ j. (number_in a m j + f * number_in a r j) % p) → IsLess p m r x a b
less-of p prime m r x f a b gone put = record {
  size = put.size;
  room = record { row_room = put.row_room; column_room = put.column_room };
  row = λ j. ap (λ y. y % p) (put.changed j) ∙ mod-mod (number_in a m j + f * number_in a r j) p
      ∙ agree-add p (number_in a m j) (number_in a m j) (f * number_in a r j) ((p - 1) * x * number_in a r j) refl
      (turned f (number_in a r j) ∙ agree-mul p (number_in a r j) f ((p - 1) * x) opposite ∙ sym (turned ((p - 1) * x) (number_in a r j)));
  others = λ i j ne. put.others i j ne;
}
  where
    turned : (y z : ℕ) → (y * z) % p ≡ (z * y) % p
    turned y z = ap (λ s. s % p) (let q : y * z ≡ z * y = omega arith in q)

    opposite : f % p ≡ ((p - 1) * x) % p
    opposite = agree_of p f x ((p - 1) * x) (ap (λ s. s % p) (let q : f + x ≡ x + f = omega arith in q) ∙ gone)
        (ap (λ s. s % p) (let q : (p - 1) * x + x ≡ x + (p - 1) * x = omega arith in q) ∙ lacks p prime x)

-- ---- row after row
-- a sum of which one summand was 0
sum-more : (m r k x : ℕ) (c d f : ℕ → ℕ) → r < m → c r ≡ 0 → d r ≡ x → ((i : ℕ) → i < m → i ≢ r → d i ≡ c i) →
    sum_below m (λ i. k * d i * f i) ≡ sum_below m (λ i. k * c i * f i) + k * x * f r
sum-more m r k x c d f rl none here others =
    sum_on-without everything m r (λ i. k * d i * f i) rl refl
    ∙ ap (λ s. s + k * d r * f r) (sum_on-ext (without everything r) m (λ i. k * d i * f i) (λ i. k * c i * f i)
    (λ i il h. ap (λ y. k * y * f i) (others i il (without-member everything r i h).1)))
    ∙ ap (λ y. sum_on (without everything r) m (λ i. k * c i * f i) + k * y * f r) here
    ∙ ap (λ s. s + k * x * f r) (sym (sum_on-without everything m r (λ i. k * c i * f i) rl refl
    ∙ ap (λ y. sum_on (without everything r) m (λ i. k * c i * f i) + k * y * f r) none
    ∙ nothing (sum_on (without everything r) m (λ i. k * c i * f i)) k (f r)))
  where
    nothing : (s k y : ℕ) → s + k * 0 * y ≡ s
    nothing s k y = ap (λ z. s + z * y) (let q : k * 0 ≡ 0 = omega arith in q) ∙ omega arith

pub sum-none : (m k : ℕ) (c f : ℕ → ℕ) → ((i : ℕ) → i < m → c i ≡ 0) → sum_below m (λ i. k * c i * f i) ≡ 0
sum-none m k c f none = sum_on-ext everything m (λ i. k * c i * f i) (λ i. 0) (λ i il _. ap (λ y. k * y * f i) (none i il)
    ∙ ap (λ z. z * f i) (let q : k * 0 ≡ 0 = omega arith in q) ∙ (let q : 0 * f i ≡ 0 = omega arith in q)) ∙ zeros m
  where
    zeros : (n : ℕ) → sum_below n (λ i. 0) ≡ 0
    zeros zero = refl
    zeros (suc n) = let q : sum_below n (λ i. 0) ≡ 0 = zeros n in omega (arith, q)

pub combined-none : (p m : ℕ) (c : ℕ → ℕ) (a : SparseTable) → ((i : ℕ) → i < m → c i ≡ 0) → IsLastCombined p m c a a
combined-none p m c a none = record {
  size = record { rows_are = refl; width_is = refl };
  room = same-room a;
  row = λ j. ap (λ y. y % p) (sym (ap (λ s. number_in a m j + s) (sum-none m (p - 1) c (λ i. number_in a i j) none)
      ∙ (let q : number_in a m j + 0 ≡ number_in a m j = omega arith in q)));
  others = λ i j ne. refl;
}

pub combined-next : (p m r x : ℕ) (c d : ℕ → ℕ) (a b t : SparseTable) → r < m → c r ≡ 0 → d r ≡ x →
    ((i : ℕ) → i < m → i ≢ r → d i ≡ c i) → IsLastCombined p m c a b → IsLess p m r x b t → IsLastCombined p m d a t
combined-next p m r x c d a b t rl none here others so_far less = record {
  size = record { rows_are = less.size.rows_are ∙ so_far.size.rows_are; width_is = less.size.width_is ∙ so_far.size.width_is };
  room = record { row_room = less.room.row_room ∙ so_far.room.row_room; column_room = less.room.column_room ∙ so_far.room.column_room };
  row = λ j. less.row j
      ∙ ap (λ y. (number_in b m j + (p - 1) * x * y) % p) (so_far.others r j (λ q. omega arith))
      ∙ agree-add p (number_in b m j) (number_in a m j + sum_below m (λ i. (p - 1) * c i * number_in a i j))
      ((p - 1) * x * number_in a r j) ((p - 1) * x * number_in a r j) (so_far.row j) refl
      ∙ ap (λ y. y % p) (regroup (number_in a m j) (sum_below m (λ i. (p - 1) * c i * number_in a i j)) ((p - 1) * x * number_in a r j)
      ∙ ap (λ s. number_in a m j + s) (sym (sum-more m r (p - 1) x c d (λ i. number_in a i j) rl none here others)));
  others = λ i j ne. less.others i j ne ∙ so_far.others i j ne;
}
  where
    regroup : (y s z : ℕ) → y + s + z ≡ y + (s + z)
    regroup y s z = omega arith

-- ---- the loop over the base columns
pub joined-none : (p m e : ℕ) (x : ℕ → ℕ) (base : BaseLists) (S P v : SparseTable) (b : Bits) →
    ((i : ℕ) → i < m → number_in v i e ≡ 0) → IsJoinedTo p m e 0 x base S S P P v v b b
joined-none p m e x base S P v b none = record {
  on_s = combined-none p m (λ i. number_in v i e) S none;
  on_p = combined-none p m (λ i. number_in v i e) P none;
  size = record { rows_are = refl; width_is = refl };
  room = same-room v;
  done = λ y l h. absurd (omega arith);
  bare = λ i il h. none i il;
  others = λ i j ne. refl;
  last = λ j. refl;
  bits = same_size b;
  listed = λ i il ne. absurd (ne (none i il));
  kept = λ i j il h. h;
}

module _ (p m e k : ℕ) (x : ℕ → ℕ) (base : BaseLists) (S T P R v w : SparseTable) (b c : Bits)
    (so_far : IsJoinedTo p m e k x base S T P R v w b c) where
  pub joined-skip : is_base base k ≡ false → IsJoinedTo p m e (k + 1) x base S T P R v w b c
  joined-skip none = record {
    on_s = so_far.on_s;
    on_p = so_far.on_p;
    size = so_far.size;
    room = so_far.room;
    done = λ y l h. elim (nat_cases y k) [
      | inl q ↦ absurd (differ none (subst (λ t. is_base base t ≡ true) q h))
      | inr ne ↦ so_far.done y (omega arith) h
    ];
    bare = λ i il h. so_far.bare i il (λ y l. h y (omega arith));
    others = so_far.others;
    last = so_far.last;
    bits = so_far.bits;
    listed = so_far.listed;
    kept = so_far.kept;
  }

  pub joined-next : (n r : ℕ) (T' R' w' : SparseTable) (c' : Bits) → HasRowsApart m n base → k < n → is_base base k ≡ true →
      base_row base k ≡ r → m ≤ b.size → IsLess p m r (x k) T T' → IsLess p m r (x k) R R' → IsFactorTold r e (x k) w w' c c' →
      IsJoinedTo p m e (k + 1) x base S T' P R' v w' b c'
  joined-next n r T' R' w' c' apart kn in_base at_row fits on_s on_p put = record {
    on_s = combined-next p m r (x k) (λ i. number_in w i e) (λ i. number_in w' i e) S T T' rl free put.here stays so_far.on_s on_s;
    on_p = combined-next p m r (x k) (λ i. number_in w i e) (λ i. number_in w' i e) P R R' rl free put.here stays so_far.on_p on_p;
    size = record { rows_are = put.size.rows_are ∙ so_far.size.rows_are; width_is = put.size.width_is ∙ so_far.size.width_is };
    room = record { row_room = put.room.row_room ∙ so_far.room.row_room; column_room = put.room.column_room ∙ so_far.room.column_room };
    done = λ y l h. elim (nat_cases y k) [
      | inl q ↦ subst (λ t. number_in w' (base_row base t) e ≡ x t) (sym q) (ap (λ i. number_in w' i e) at_row ∙ put.here)
      | inr ne ↦ put.others (base_row base y) e (inl (other y (omega arith) h)) ∙ so_far.done y (omega arith) h
    ];
    bare = λ i il h. put.others i e (inl (λ q. h k (omega arith) in_base (at_row ∙ sym q)))
        ∙ so_far.bare i il (λ y l. h y (omega arith));
    others = λ i j ne. put.others i j (inr ne) ∙ so_far.others i j ne;
    last = λ j. put.others m j (inl (λ q. omega arith)) ∙ so_far.last j;
    bits = sizes-joined b c c' so_far.bits put.bits;
    listed = λ i il ne. elim (nat_cases i r) [
      | inl q ↦ subst (λ t. bit_in c' e t ≡ true) (sym q)
          (put.listed (λ z. ne (ap (λ t. number_in w' t e) q ∙ put.here ∙ z)))
      | inr apart_too ↦ put.kept i e (omega (arith, fits, so_far.bits.size_same))
          (so_far.listed i il (λ z. ne (put.others i e (inl apart_too) ∙ z)))
    ];
    kept = λ i j il h. put.kept i j (omega (arith, il, so_far.bits.size_same)) (so_far.kept i j il h);
  }
    where
      rl : r < m
      rl = subst (λ t. t < m) at_row (apart.below k kn in_base)

      other : (y : ℕ) → y < k → is_base base y ≡ true → base_row base y ≢ r
      other y l h q = let same : y ≡ k = apart.distinct y k (omega arith) kn h in_base (q ∙ sym at_row) in omega arith

      free : number_in w r e ≡ 0
      free = so_far.bare r rl other

      stays : (i : ℕ) → i < m → i ≢ r → number_in w' i e ≡ number_in w i e
      stays i il ne = put.others i e (inl ne)
