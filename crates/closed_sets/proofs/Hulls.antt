-- What is reached from a set is a set: a test, found by adding one place at a time.
use Rattle.std.proofs.Common.{◌≡◌, ℕ, zero, suc, ◌+◌, ◌<◌, ◌≤◌, Bool, true, false, ◌⊎◌, inl, inr, refl, sym, subst, ◌&&◌, not, eqb, arith}
use Rattle.residue_theory.specs.Sets.{with_one, IsWithin}
use Rattle.residue_theory.specs.Sums.{size_on}
use Rattle.closed_sets.specs.Walks.{Reaches, FromSome, ToSome}
use Rattle.closed_sets.specs.Closed.{Follows, IsReachedSet, IsMiddle}
use Rattle.residue_theory.proofs.SumLaws.{nat_cases}
use Rattle.residue_theory.proofs.SetLaws.{both-refused, differ, eqb_from, eqb_true, first_on, with_one-member, with_one-new}
use Rattle.closed_sets.proofs.SetLaws.{test_cases, size_on-bound, size_on-less, with_one-split, and-both, not-true, not-false}
use Rattle.closed_sets.proofs.WalkLaws.{reaches-self, follows-reaches, from-arc}

-- a set that holds S, of places that are reached from S
pub record Part (arc : ℕ → ℕ → Bool) (n : ℕ) (S X : ℕ → Bool) : Type 0 where
  pub holds : (y : ℕ) → y < n → S y ≡ true → X y ≡ true
  pub from : (y : ℕ) → y < n → X y ≡ true → FromSome arc n S y

pub record Hull (arc : ℕ → ℕ → Bool) (n : ℕ) (S : ℕ → Bool) : Type 0 where
  pub set : ℕ → Bool
  pub part : Part arc n S set
  pub follows : Follows arc n set

-- an arc leads from a member of X out of X
pub record LeadsOut (arc : ℕ → ℕ → Bool) (n : ℕ) (X : ℕ → Bool) : Type 0 where
  pub from : ℕ
  pub to : ℕ
  pub from_below : from < n
  pub to_below : to < n
  pub inside : X from ≡ true
  pub along : arc from to ≡ true
  pub outside : X to ≡ false

pub out_or_follows : (arc : ℕ → ℕ → Bool) (n : ℕ) (X : ℕ → Bool) (k : ℕ) → k ≤ n →
    LeadsOut arc n X ⊎ ((x y : ℕ) → x < k → y < n → X x ≡ true → arc x y ≡ true → X y ≡ true)
out_or_follows arc n X zero le = inr (λ x y l. absurd (omega arith))
out_or_follows arc n X (suc k) le = go (first_on (λ y. X k && (arc k y && not (X y))) n) (out_or_follows arc n X k (omega arith))
  where
    go : ((y : ℕ) × (y < n) × ((X k && (arc k y && not (X y))) ≡ true)) ⊎ ((y : ℕ) → y < n → (X k && (arc k y && not (X y))) ≡ false) →
        LeadsOut arc n X ⊎ ((x y : ℕ) → x < k → y < n → X x ≡ true → arc x y ≡ true → X y ≡ true) →
        LeadsOut arc n X ⊎ ((x y : ℕ) → x < suc k → y < n → X x ≡ true → arc x y ≡ true → X y ≡ true)
    go (inl (y, l, h)) _ =
        let outer = and-both (X k) (arc k y && not (X y)) h in
        let inner = and-both (arc k y) (not (X y)) outer.1 in
        inl (record { from = k; to = y; from_below = omega arith; to_below = l; inside = outer.0; along = inner.0; outside = not-true (X y) inner.1 })
    go (inr none) (inl out) = inl out
    go (inr none) (inr before) = inr (λ x y xl yl xh ah. elim (nat_cases x k) [
      | inl q ↦ not-false (X y)
          (both-refused (arc k y) (not (X y))
          (both-refused (X k) (arc k y && not (X y)) (none y yl) (subst (λ w. X w ≡ true) q xh))
          (subst (λ w. arc w y ≡ true) q ah))
      | inr ne ↦ before x y (omega arith) yl xh ah
    ])

-- X with the place that an arc leads to
pub part-grows : (arc : ℕ → ℕ → Bool) (n : ℕ) (S X : ℕ → Bool) → Part arc n S X → (o : LeadsOut arc n X) → Part arc n S (with_one X o.to)
part-grows arc n S X part o = record {
  holds = λ y l h. with_one-member X o.to y (part.holds y l h);
  from = λ y l h. elim (with_one-split X o.to y h) [
    | inl q ↦ subst (λ w. FromSome arc n S w) (sym q) (from-arc arc n S o.from o.to (part.from o.from o.from_below o.inside) o.from_below o.along)
    | inr old ↦ part.from y l old
  ];
}

pub grow : (arc : ℕ → ℕ → Bool) (n : ℕ) (S X : ℕ → Bool) (fuel : ℕ) → Part arc n S X → n < size_on X n + fuel → Hull arc n S
grow arc n S X zero part less = absurd (omega (arith, size_on-bound X n))
grow arc n S X (suc fuel) part less = go (out_or_follows arc n X n (omega arith)) (λ Y. grow arc n S Y fuel)
  where
    go : LeadsOut arc n X ⊎ Follows arc n X → ((Y : ℕ → Bool) → Part arc n S Y → n < size_on Y n + fuel → Hull arc n S) → Hull arc n S
    go (inl o) more = more (with_one X o.to) (part-grows arc n S X part o)
        (omega (arith, size_on-less (with_one X o.to) X n o.to (λ j _ h. with_one-member X o.to j h) o.to_below (with_one-new X o.to) o.outside))
    go (inr f) _ = record { set = X; part = part; follows = f }

pub hull : (arc : ℕ → ℕ → Bool) (n : ℕ) (S : ℕ → Bool) → Hull arc n S
hull arc n S = grow arc n S S (suc n) (record { holds = λ y l h. h; from = λ y l h. (y, l, h, reaches-self arc n y) }) (omega arith)

-- the test 'is reached from S', equal to the relation
pub reached : (ℕ → ℕ → Bool) → ℕ → (ℕ → Bool) → ℕ → Bool
reached arc n S = (hull arc n S).set

-- a set that holds S and follows arcs holds what S reaches
pub follows-from : (arc : ℕ → ℕ → Bool) (n : ℕ) (S X : ℕ → Bool) → IsWithin n S X → Follows arc n X → (y : ℕ) → y < n → FromSome arc n S y → X y ≡ true
follows-from arc n S X within f y l (s, sl, sh, r) = follows-reaches arc n X f s y sl l (within s sl sh) r

pub reached-set : (arc : ℕ → ℕ → Bool) (n : ℕ) (S : ℕ → Bool) → IsReachedSet arc n S (reached arc n S)
unfolding reached
reached-set arc n S y l = let H = hull arc n S in (H.part.from y l, follows-from arc n S H.set H.part.holds H.follows y l)

pub reached-follows : (arc : ℕ → ℕ → Bool) (n : ℕ) (S : ℕ → Bool) → Follows arc n (reached arc n S)
unfolding reached
reached-follows arc n S = (hull arc n S).follows

pub reached-holds : (arc : ℕ → ℕ → Bool) (n : ℕ) (S : ℕ → Bool) → IsWithin n S (reached arc n S)
unfolding reached
reached-holds arc n S = (hull arc n S).part.holds

pub from_or_not : (arc : ℕ → ℕ → Bool) (n : ℕ) (S : ℕ → Bool) (y : ℕ) → y < n → FromSome arc n S y ⊎ (FromSome arc n S y → ⊥)
from_or_not arc n S y l = elim (test_cases (reached arc n S y)) [
  | inl t ↦ inl ((reached-set arc n S y l).0 t)
  | inr f ↦ inr (λ r. differ f ((reached-set arc n S y l).1 r))
]

-- the test 'y is x or is reached from it'
pub reaches : (ℕ → ℕ → Bool) → ℕ → ℕ → ℕ → Bool
reaches arc n x y = reached arc n (eqb x) y

pub reaches-tells : (arc : ℕ → ℕ → Bool) (n x y : ℕ) → y < n → reaches arc n x y ≡ true → Reaches arc n x y
unfolding reaches
reaches-tells arc n x y l h = go ((reached-set arc n (eqb x) y l).0 h)
  where
    go : FromSome arc n (eqb x) y → Reaches arc n x y
    go (s, sl, e, r) = subst (λ w. Reaches arc n w y) (sym (eqb_true x s e)) r

pub reaches-make : (arc : ℕ → ℕ → Bool) (n x y : ℕ) → x < n → y < n → Reaches arc n x y → reaches arc n x y ≡ true
unfolding reaches
reaches-make arc n x y xl yl r = (reached-set arc n (eqb x) y yl).1 (x, xl, eqb_from x x refl, r)

pub reaches_or_not : (arc : ℕ → ℕ → Bool) (n x y : ℕ) → x < n → y < n → Reaches arc n x y ⊎ (Reaches arc n x y → ⊥)
reaches_or_not arc n x y xl yl = elim (test_cases (reaches arc n x y)) [
  | inl t ↦ inl (reaches-tells arc n x y yl t)
  | inr f ↦ inr (λ r. differ f (reaches-make arc n x y xl yl r))
]

pub to_or_not : (arc : ℕ → ℕ → Bool) (n : ℕ) (E : ℕ → Bool) (x : ℕ) → x < n → ToSome arc n E x ⊎ (ToSome arc n E x → ⊥)
to_or_not arc n E x xl = go (first_on (λ e. E e && reaches arc n x e) n)
  where
    go : ((e : ℕ) × (e < n) × ((E e && reaches arc n x e) ≡ true))
        ⊎ ((e : ℕ) → e < n → (E e && reaches arc n x e) ≡ false) → ToSome arc n E x ⊎ (ToSome arc n E x → ⊥)
    go (inl (e, l, h)) = let b = and-both (E e) (reaches arc n x e) h in inl (e, l, b.0, reaches-tells arc n x e l b.1)
    go (inr none) = inr (λ (e, l, h, r). differ (both-refused (E e) (reaches arc n x e) (none e l) h) (reaches-make arc n x e xl l r))

pub middle_or_not : (arc : ℕ → ℕ → Bool) (n : ℕ) (starts ends : ℕ → Bool) (x : ℕ) → x < n → IsMiddle arc n starts ends x ⊎ (IsMiddle arc n starts ends x → ⊥)
middle_or_not arc n starts ends x l = go (from_or_not arc n starts x l) (to_or_not arc n ends x l)
  where
    go : FromSome arc n starts x ⊎ (FromSome arc n starts x → ⊥) → ToSome arc n ends x ⊎ (ToSome arc n ends x → ⊥) →
        IsMiddle arc n starts ends x ⊎ (IsMiddle arc n starts ends x → ⊥)
    go (inl f) _ = inr (λ m. m.1 f)
    go (inr f) (inl t) = inr (λ m. m.2 t)
    go (inr f) (inr t) = inl (l, f, t)
