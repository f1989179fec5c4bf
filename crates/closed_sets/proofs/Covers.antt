-- The covers of an order generate it by chains.
use Rattle.std.proofs.Common.{◌≡◌, ℕ, zero, suc, ◌<◌, Bool, true, false, ◌⊎◌, inl, inr, refl, sym, subst, ◌&&◌, arith}
use Rattle.residue_theory.specs.Sums.{size_on}
use Rattle.closed_sets.specs.Walks.{Walk, Reaches, ReachesOn}
use Rattle.closed_sets.specs.Orders.{IsOrder, IsCover}
use Rattle.residue_theory.proofs.SetLaws.{both-refused, both_true, differ, first_on}
use Rattle.closed_sets.proofs.SetLaws.{size_on-less, and-both}
use Rattle.closed_sets.proofs.WalkLaws.{walk-join}

module _ (below : ℕ → ℕ → Bool) (b : ℕ) (O : IsOrder below b) (covers : ℕ → ℕ → Bool) (C : IsCover below b covers) where
  between : ℕ → ℕ → ℕ → Bool
  between k l m = below k m && below m l

  join_on : (x y z : ℕ) → ReachesOn covers b x y → ReachesOn covers b y z → ReachesOn covers b x z
  join_on x y z (k, w) (m, (v, l, u, h)) = go (walk-join covers b x y v (suc k) m w u)
    where
      go : Reaches covers b x v → ReachesOn covers b x z
      go (j, t) = (j, (v, l, t, h))

  -- what lies between k and m, or m and l, lies between k and l, and is not m
  low_between : (k m l : ℕ) → k < b → m < b → l < b → below k m ≡ true → below m l ≡ true → size_on (between k m) b < size_on (between k l) b
  unfolding between
  low_between k m l kb mb lb km ml = size_on-less (λ v. below k v && below v l) (λ v. below k v && below v m) b m
      (λ v vb h. let p = and-both (below k v) (below v m) h in both_true (below k v) (below v l) p.0 (O.transitive v m l vb mb lb p.1 ml))
      mb (both_true (below k m) (below m l) km ml) (never (below k m && below m m) refl)
    where
      never : (v : Bool) → (below k m && below m m) ≡ v → (below k m && below m m) ≡ false
      never true e = absurd (O.irreflexive m mb (and-both (below k m) (below m m) e).1)
      never false e = e

  high_between : (k m l : ℕ) → k < b → m < b → l < b → below k m ≡ true → below m l ≡ true → size_on (between m l) b < size_on (between k l) b
  unfolding between
  high_between k m l kb mb lb km ml = size_on-less (λ v. below k v && below v l) (λ v. below m v && below v l) b m
      (λ v vb h. let p = and-both (below m v) (below v l) h in both_true (below k v) (below v l) (O.transitive k m v kb mb vb km p.0) p.1)
      mb (both_true (below k m) (below m l) km ml) (never (below m m && below m l) refl)
    where
      never : (v : Bool) → (below m m && below m l) ≡ v → (below m m && below m l) ≡ false
      never true e = absurd (O.irreflexive m mb (and-both (below m m) (below m l) e).0)
      never false e = e

  -- a number between k and l, or none
  some_between : (k l : ℕ) → ((m : ℕ) × (m < b) × (below k m ≡ true) × (below m l ≡ true)) ⊎ ((m : ℕ) → m < b → below k m ≡ true → below m l ≡ true → ⊥)
  some_between k l = go (first_on (λ m. below k m && below m l) b)
    where
      go : ((m : ℕ) × (m < b) × ((below k m && below m l) ≡ true)) ⊎ ((m : ℕ) → m < b → (below k m && below m l) ≡ false) →
          ((m : ℕ) × (m < b) × (below k m ≡ true) × (below m l ≡ true)) ⊎ ((m : ℕ) → m < b → below k m ≡ true → below m l ≡ true → ⊥)
      go (inl (m, l', h)) = let p = and-both (below k m) (below m l) h in inl (m, l', p.0, p.1)
      go (inr none) = inr (λ m mb km ml. differ (both-refused (below k m) (below m l) (none m mb) km) ml)

  chain : (fuel k l : ℕ) → k < b → l < b → below k l ≡ true → size_on (between k l) b < fuel → ReachesOn covers b l k
  chain zero k l kb lb h less = absurd (omega arith)
  chain (suc fuel) k l kb lb h less = go (some_between k l) (λ x y. chain fuel x y)
    where
      go : ((m : ℕ) × (m < b) × (below k m ≡ true) × (below m l ≡ true)) ⊎ ((m : ℕ) → m < b → below k m ≡ true → below m l ≡ true → ⊥) →
          ((x y : ℕ) → x < b → y < b → below x y ≡ true → size_on (between x y) b < fuel → ReachesOn covers b y x) → ReachesOn covers b l k
      go (inl (m, mb, km, ml)) again = join_on l m k
          (again m l mb lb ml (omega (arith, high_between k m l kb mb lb km ml)))
          (again k m kb mb km (omega (arith, low_between k m l kb mb lb km ml)))
      go (inr none) _ = (0, (l, lb, refl, C.all k l kb lb h none))

  -- what is below is reached by a chain of covers, and nothing else
  pub below-chain : (k l : ℕ) → k < b → l < b → below k l ≡ true → ReachesOn covers b l k
  below-chain k l kb lb h = chain (suc (size_on (between k l) b)) k l kb lb h (omega arith)

  walk-below : (j k l : ℕ) → k < b → l < b → Walk covers b l k (suc j) → below k l ≡ true
  walk-below zero k l kb lb (z, zb, e, h) = subst (λ v. below k v ≡ true) (sym e) (C.is_below k z kb zb h)
  walk-below (suc j) k l kb lb (z, zb, w, h) = O.transitive k z l kb zb lb (C.is_below k z kb zb h) (walk-below j z l zb lb w)

  pub chain-below : (k l : ℕ) → k < b → l < b → ReachesOn covers b l k → below k l ≡ true
  chain-below k l kb lb (j, w) = walk-below j k l kb lb w
