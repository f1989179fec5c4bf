-- The components that wait, taken apart.
use Rattle.std.proofs.Common.{◌≡◌, ◌≢◌, ℕ, zero, suc, ◌+◌, ◌<◌, ◌≤◌, ◌⊎◌, [], ◌∷◌, Bool, true, false, List, All}
use Rattle.std.proofs.Common.{get_or, inl, inr, refl, ap, sym, subst, ◌∙◌, arith}
use Rattle.std.specs.List.{Contains}
use Rattle.std.specs.List.Sorted.{IsPermutation}
use Rattle.std.specs.Result.{IsOk, OnOk}
use Rattle.std.specs.declared.result.Result.{Result}
use Rattle.std.specs.declared.result.Result.TheVariants.{Ok, Err}
use Rattle.std.specs.BinaryHeap.{heap_items, heap_len}
use Rattle.std.proofs.lemmas.List.Elements.{All-cons, All-tail}
use Rattle.std.proofs.lemmas.List.Sorted.{All-permutation, Contains-permutation}
use Rattle.residue_theory.specs.Sums.{size_on}
use Rattle.residue_theory.proofs.SumLaws.{nat_cases}
use Rattle.residue_theory.proofs.SetLaws.{differ}
use Rattle.closed_sets.proofs.SetLaws.{test_cases, size_on-bound, size_on-less}
use Rattle.exchange_graph.specs.Marks.{members_of}
use Rattle.bit_table.specs.Bits.{bit_in}
use Rattle.minimiser_lattice.specs.Standings.{IsFreeToStand, IsWaiting, NoneWaitsBelow, is_listed}
use Rattle.minimiser_lattice.specs.Ready.{AreApart, HasRoomFor, IsKey, IsLeastPlace, IsMadeReady, IsMadeWait}
use Rattle.minimiser_lattice.specs.Ready.{AreSettledStandings, held_of, least_of, place_by_key}
use Rattle.minimiser_lattice.specs.declared.ready.Ready.{Ready}
use Rattle.minimiser_lattice.specs.declared.standing.Standing.{Standing}
use Rattle.minimiser_lattice.specs.declared.standing.Standing.TheVariants.{Listed}

pub least-place : (n : ℕ) (number least : ℕ → ℕ) (k : ℕ) → ((x : ℕ) × (x < n) × (number x ≡ k)) →
    ((x : ℕ) → x < n → least (number x) ≤ x) → ((x : ℕ) → x < n → number (least (number x)) ≡ number x) →
    IsLeastPlace number n k (least k)
least-place n number least k (x, xl, q) le has = record {
  below = omega (arith, ap least q, le x xl, xl);
  has = ap number (ap least (sym q)) ∙ (has x xl ∙ q);
  least = λ y yl e. omega (arith, le y yl, ap least e);
}

contains-tail : (y x : ℕ) (ys : List ℕ) → Contains (y ∷ ys) x → x ≢ y → Contains ys x
contains-tail y x ys (zero, l, q) ne = absurd (ne (sym q))
contains-tail y x ys (suc k, l, q) ne = (k, omega arith, q)

contains-head : (y : ℕ) (ys : List ℕ) → Contains (y ∷ ys) y
contains-head y ys = (0, omega arith, refl)

contains-more : (y x : ℕ) (ys : List ℕ) → Contains ys x → Contains (y ∷ ys) x
contains-more y x ys (k, l, q) = (suc k, omega arith, q)

all-at : (P : ℕ → Type 0) (xs : List ℕ) (x : ℕ) → All P xs → Contains xs x → P x
all-at P xs x all (k, l, q) = subst P q (all k x l)

pub on-ok : {T E : Type 0} (r : Result T E) (P : Type 0) → IsOk r → OnOk r P → P
on-ok (Ok x) P h p = p
on-ok (Err e) P h p = absurd (differ refl h)

-- where one is held back the heap has room
pub room-left : (held : ℕ → Bool) (few count k : ℕ) → few + size_on held count ≤ count → k < count → held k ≡ true → few < count
room-left held few count k le l h =
    omega (arith, le, size_on-less held (λ _. false) count k (λ j jl e. absurd (differ refl e)) l h refl)

pub order_cases : (j i : ℕ) → j ≢ i → (j < i) ⊎ (i < j)
order_cases j i ne = grind (arith, ne)

place_twice : (n x : ℕ) → x < n → place_by_key n (place_by_key n x) ≡ x
place_twice n x l = omega arith

module _ (number : ℕ → ℕ) (strict : ℕ → ℕ → Bool) (standing : ℕ → Standing) (n count : ℕ) where
  pub apart-clear : (r : Ready) → HasRoomFor r n → heap_len r.keys ≡ 0 → heap_items r.keys ≡ [] →
      ((k : ℕ) → k < count → IsLeastPlace number n k (least_of r k)) → ((k : ℕ) → k < count → held_of r k ≡ true) →
      ((x y : ℕ) → bit_in r.waits x y ≡ false) → AreApart number strict standing n count (λ k. 0 ≤ k) r
  apart-clear r room none empty least held bare = record {
    room = room;
    few = omega (arith, none, size_on-bound (held_of r) count);
    least = least;
    held = λ k l w h. inl (omega arith);
    free = λ k l w f. absurd (differ f (held k l));
    ready = subst (All (IsKey number strict standing n)) (sym empty) (λ i d l. absurd (omega arith));
    watched = λ l k ll kl b. absurd (differ (bare l k) b);
  }

  -- who is excused for a reason is so for another one
  pub apart-excuse : (Excused Still : ℕ → Type 0) (r : Ready) → AreApart number strict standing n count Excused r →
      ((k : ℕ) → k < count → IsWaiting standing k → held_of r k ≡ true → Excused k → Still k) →
      AreApart number strict standing n count Still r
  apart-excuse Excused Still r A still = record {
    room = A.room;
    few = A.few;
    least = A.least;
    held = λ k l w h. elim (A.held k l w h) [ inl e ↦ inl (still k l w h e) | inr b ↦ inr b ];
    free = A.free;
    ready = A.ready;
    watched = A.watched;
  }

  module _ (Excused Still : ℕ → Type 0) (r now : Ready) (A : AreApart number strict standing n count Excused r)
      (k from : ℕ) (kl : k < count) (fits : count ≤ n) (was : held_of r k ≡ true) (room : HasRoomFor now n)
      (least : now.least ≡ r.least) (still : (j : ℕ) → j ≢ k → Excused j → Still j) where
    leasts : (j : ℕ) → j < count → IsLeastPlace number n j (least_of now j)
    leasts j l = subst (λ v. IsLeastPlace number n j (get_or v.items j 0)) (sym least) (A.least j l)

    waited : IsMadeWait strict standing n k from r now → AreApart number strict standing n count Still now
    waited W = record {
      room = room;
      few = subst (λ v. heap_len v + size_on (held_of now) count ≤ count) (sym W.keys)
          (subst (λ v. heap_len r.keys + size_on (members_of v.items) count ≤ count) (sym W.held) A.few);
      least = leasts;
      held = λ j l w h. elim (nat_cases j k) [
        | inl q ↦ inr (
          W.holder,
          omega (arith, W.below),
          subst (λ v. strict v W.holder ≡ true) (sym q) W.leads,
          subst (λ v. bit_in now.waits W.holder v ≡ true) (sym q) W.set.here,
          W.waiting,
        )
        | inr ne ↦ elim (A.held j l w (subst (λ v. members_of v.items j ≡ true) W.held h)) [
          | inl e ↦ inl (still j ne e)
          | inr b ↦ inr (b.0, b.1, b.2, bits b.0 j (omega arith) ne ∙ b.3, b.4)
        ]
      ];
      free = λ j l w f. subst (λ v. Contains (heap_items v) (place_by_key n (least_of now j))) (sym W.keys)
          (subst (λ v. Contains (heap_items r.keys) (place_by_key n (get_or v.items j 0))) (sym least)
          (A.free j l w (subst (λ v. members_of v.items j ≡ false) W.held f)));
      ready = subst (λ v. All (IsKey number strict standing n) (heap_items v)) (sym W.keys) A.ready;
      watched = λ l j ll jl b. elim (nat_cases j k) [
        | inl q ↦ elim (nat_cases l W.holder) [
          | inl e ↦ subst (λ v. NoneWaitsBelow strict standing v l) (sym q)
              (subst (λ v. NoneWaitsBelow strict standing k v) (sym e) W.none_before)
          | inr ne ↦ A.watched l j ll jl (sym (W.set.others l j (omega arith) ne) ∙ b)
        ]
        | inr ne ↦ A.watched l j ll jl (sym (bits l j (omega arith) ne) ∙ b)
      ];
    }
      where
        bits : (l j : ℕ) → j < n → j ≢ k → bit_in now.waits l j ≡ bit_in r.waits l j
        bits l j jl ne = elim (nat_cases l W.holder) [
          | inl q ↦ subst (λ v. bit_in now.waits v j ≡ bit_in r.waits v j) (sym q) (W.set.row j jl ne)
          | inr other ↦ W.set.others l j jl other
        ]

    made : IsMadeReady strict standing n k r now → AreApart number strict standing n count Still now
    made M = record {
      room = room;
      few = omega (
        arith,
        A.few,
        M.put.more,
        size_on-less (held_of r) (held_of now) count k within kl was M.put.free,
      );
      least = leasts;
      held = λ j l w h. elim (nat_cases j k) [
        | inl q ↦ absurd (differ M.put.free (subst (λ v. held_of now v ≡ true) q h))
        | inr ne ↦ elim (A.held j l w (sym (M.put.others j ne) ∙ h)) [
          | inl e ↦ inl (still j ne e)
          | inr b ↦ inr (b.0, b.1, b.2, subst (λ v. bit_in v b.0 j ≡ true) (sym M.put.waits) b.3, b.4)
        ]
      ];
      free = λ j l w f. subst (λ v. Contains (heap_items now.keys) (place_by_key n (get_or v.items j 0))) (sym least)
          (Contains-permutation (key ∷ heap_items r.keys) (heap_items now.keys) (place_by_key n (least_of r j)) M.put.pushed
          (elim (nat_cases j k) [
            | inl q ↦ subst (λ v. Contains (key ∷ heap_items r.keys) (place_by_key n (least_of r v))) (sym q)
                (contains-head key (heap_items r.keys))
            | inr ne ↦ contains-more key (place_by_key n (least_of r j)) (heap_items r.keys)
                (A.free j l w (sym (M.put.others j ne) ∙ f))
          ]));
      ready = All-permutation (IsKey number strict standing n) (key ∷ heap_items r.keys) (heap_items now.keys) M.put.pushed
          (All-cons (IsKey number strict standing n) key (heap_items r.keys) is_key A.ready);
      watched = λ l j ll jl b. A.watched l j ll jl (subst (λ v. bit_in v l j ≡ true) M.put.waits b);
    }
      where
        key : ℕ
        key = place_by_key n (least_of r k)

        within : (j : ℕ) → j < count → held_of now j ≡ true → held_of r j ≡ true
        within j l h = elim (nat_cases j k) [
          | inl q ↦ absurd (differ M.put.free (subst (λ v. held_of now v ≡ true) q h))
          | inr ne ↦ sym (M.put.others j ne) ∙ h
        ]

        is : number (place_by_key n key) ≡ k
        is = ap number (place_twice n (least_of r k) (A.least k kl).below) ∙ (A.least k kl).has

        is_key : IsKey number strict standing n key
        is_key = (
          omega (arith, (A.least k kl).below),
          subst (λ v. NoneWaitsBelow strict standing v v) (sym is) M.none_waits,
        )

    pub apart-settled : AreSettledStandings strict standing n k from r now → AreApart number strict standing n count Still now
    apart-settled (inl W) = waited W
    apart-settled (inr M) = made M

  module _ (r now : Ready) (A : AreApart number strict standing n count (λ _. ⊥) r) (y : ℕ)
      (popped : IsPermutation (heap_items r.keys) (y ∷ heap_items now.keys))
      (greatest : All (λ z. z ≤ y) (heap_items r.keys))
      (fewer : heap_len now.keys + 1 ≡ heap_len r.keys) (room : HasRoomFor now n)
      (least : now.least ≡ r.least) (held : now.held ≡ r.held) (waits : now.waits ≡ r.waits)
      (numbers : (x : ℕ) → x < n → number x < count) where
    abbrev x : ℕ
    x = place_by_key n y

    all-keys : All (IsKey number strict standing n) (y ∷ heap_items now.keys)
    all-keys = All-permutation (IsKey number strict standing n) (heap_items r.keys) (y ∷ heap_items now.keys) popped A.ready

    pub is-key : IsKey number strict standing n y
    is-key = all-at (IsKey number strict standing n) (y ∷ heap_items now.keys) y all-keys (contains-head y (heap_items now.keys))

    pub place-small : x < n
    place-small = omega (arith, is-key.0)

    left-few : heap_len now.keys + size_on (held_of now) count ≤ count
    left-few = omega (
      arith,
      fewer,
      subst (λ v. heap_len r.keys + size_on (members_of v.items) count ≤ count) (sym held) A.few,
    )

    leasts-left : (j : ℕ) → j < count → IsLeastPlace number n j (least_of now j)
    leasts-left j l = subst (λ v. IsLeastPlace number n j (get_or v.items j 0)) (sym least) (A.least j l)

    -- another component that is free keeps its key
    free-left : (k : ℕ) → k < count → IsWaiting standing k → number x ≢ k → held_of now k ≡ false →
        Contains (heap_items now.keys) (place_by_key n (least_of now k))
    free-left k l w ne f = subst (λ v. Contains (heap_items now.keys) (place_by_key n (get_or v.items k 0))) (sym least)
        (contains-tail y (place_by_key n (least_of r k)) (heap_items now.keys)
        (Contains-permutation (heap_items r.keys) (y ∷ heap_items now.keys) (place_by_key n (least_of r k)) popped
        (A.free k l w (subst (λ v. members_of v.items k ≡ false) held f)))
        (λ q. ne (ap (λ v. number (place_by_key n v)) (sym q)
        ∙ (ap number (place_twice n (least_of r k) (A.least k l).below) ∙ (A.least k l).has))))

    -- a place whose component waits no more is passed over
    pub popped-past : (IsWaiting standing (number x) → ⊥) → AreApart number strict standing n count (λ _. ⊥) now
    popped-past never = record {
      room = room;
      few = left-few;
      least = leasts-left;
      held = λ k l w h. elim (A.held k l w (subst (λ v. members_of v.items k ≡ true) held h)) [
        | inl e ↦ absurd e
        | inr b ↦ inr (b.0, b.1, b.2, subst (λ v. bit_in v b.0 k ≡ true) (sym waits) b.3, b.4)
      ];
      free = λ k l w f. free-left k l w (λ q. never (subst (λ v. IsWaiting standing v) (sym q) w)) f;
      ready = All-tail (IsKey number strict standing n) y (heap_items now.keys) all-keys;
      watched = λ l k ll kl b. A.watched l k ll kl (subst (λ v. bit_in v l k ≡ true) waits b);
    }

    pub popped-ready : IsWaiting standing (number x) → IsFreeToStand strict standing (number x)
    popped-ready w = (w, is-key.1)

    pub popped-least : (j : ℕ) → j < x → IsFreeToStand strict standing (number j) → ⊥
    popped-least j less R = elim (test_cases (held_of r (number j))) [
      | inl h ↦ elim (A.held (number j) (numbers j (omega (arith, place-small))) R.0 h) [
        | inl e ↦ e
        | inr b ↦ R.1 b.0 b.1 b.2 b.4
      ]
      | inr f ↦
          let l = numbers j (omega (arith, place-small)) in
          omega (
            arith,
            is-key.0,
            all-at (λ z. z ≤ y) (heap_items r.keys) (place_by_key n (least_of r (number j))) greatest (A.free (number j) l R.0 f),
            (A.least (number j) l).least j (omega (arith, place-small)) refl,
            (A.least (number j) l).below,
          )
    ]

    -- once its component is listed, those that wait for it are excused
    pub popped-listed : (more : ℕ → Standing) → more (number x) ≡ Listed →
        ((l : ℕ) → l ≢ number x → more l ≡ standing l) →
        AreApart number strict more n count (λ k. bit_in now.waits (number x) k ≡ true) now
    popped-listed more put others = record {
      room = room;
      few = left-few;
      least = leasts-left;
      held = λ k l w h. elim (A.held k l (waited-before k w) (subst (λ v. members_of v.items k ≡ true) held h)) [
        | inl e ↦ absurd e
        | inr b ↦ elim (nat_cases b.0 (number x)) [
          | inl q ↦ inl (subst (λ v. bit_in v (number x) k ≡ true) (sym waits) (subst (λ v. bit_in r.waits v k ≡ true) q b.3))
          | inr ne ↦ inr (
            b.0,
            b.1,
            b.2,
            subst (λ v. bit_in v b.0 k ≡ true) (sym waits) b.3,
            others b.0 ne ∙ b.4,
          )
        ]
      ];
      free = λ k l w f. free-left k l (waited-before k w) (λ q. apart-from k w (sym q)) f;
      ready = λ i d l.
          let K = All-tail (IsKey number strict standing n) y (heap_items now.keys) all-keys i d l in
          (K.0, λ m less s w. K.1 m less s (waited-before m w));
      watched = λ l k ll kl b m less s w. A.watched l k ll kl (subst (λ v. bit_in v l k ≡ true) waits b) m less s
          (waited-before m w);
    }
      where
        apart-from : (k : ℕ) → IsWaiting more k → k ≢ number x
        apart-from k w q = differ (ap is_listed w)
            (ap is_listed (ap more q ∙ put))

        waited-before : (k : ℕ) → IsWaiting more k → IsWaiting standing k
        waited-before k w = sym (others k (apart-from k w)) ∙ w

  pub none-ready : (r : Ready) → AreApart number strict standing n count (λ _. ⊥) r →
      ((x : ℕ) → Contains (heap_items r.keys) x → ⊥) → ((x : ℕ) → x < n → number x < count) →
      (j : ℕ) → j < n → IsFreeToStand strict standing (number j) → ⊥
  none-ready r A empty numbers j jl R = elim (test_cases (held_of r (number j))) [
    | inl h ↦ elim (A.held (number j) (numbers j jl) R.0 h) [ inl e ↦ e | inr b ↦ R.1 b.0 b.1 b.2 b.4 ]
    | inr f ↦ empty (place_by_key n (least_of r (number j))) (A.free (number j) (numbers j jl) R.0 f)
  ]

pub settled-others : (strict : ℕ → ℕ → Bool) (standing : ℕ → Standing) (n k from : ℕ) (r now : Ready) →
    AreSettledStandings strict standing n k from r now → (j : ℕ) → j ≢ k → held_of now j ≡ held_of r j
settled-others strict standing n k from r now (inl W) j ne = ap (λ v. members_of v.items j) W.held
settled-others strict standing n k from r now (inr M) j ne = M.put.others j ne

-- the rows of components before `from` stay
pub settled-row : (strict : ℕ → ℕ → Bool) (standing : ℕ → Standing) (n k from : ℕ) (r now : Ready) →
    AreSettledStandings strict standing n k from r now → (l j : ℕ) → l < from → j < n → bit_in now.waits l j ≡ bit_in r.waits l j
settled-row strict standing n k from r now (inl W) l j ll jl = W.set.others l j jl (λ q. omega (arith, W.from_on))
settled-row strict standing n k from r now (inr M) l j ll jl = ap (λ v. bit_in v l j) M.put.waits
