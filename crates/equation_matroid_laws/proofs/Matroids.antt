-- Independence of sets of the numbers below n, as a matroid: largest independent sets, and how one grows or is exchanged.
use Rattle.std.proofs.Common.{◌≡◌, ℕ, zero, suc, ◌+◌, ◌<◌, ◌≤◌, ◌≢◌, Bool, true, false, ◌&&◌, not, ◌⊎◌, inl, inr, refl}
use Rattle.std.proofs.Common.{sym, subst, arith}
use Rattle.residue_theory.proofs.CountLaws.{size-without, sum-with_one}
use Rattle.residue_theory.proofs.SetLaws.{both-first, differ, either-first, either-second, either_cases, first_on}
use Rattle.residue_theory.proofs.SetLaws.{lt_cases, not_true, with_one-member, with_one-new, with_one-other}
use Rattle.residue_theory.proofs.SumLaws.{member-without, nat_cases, size_on-within, sum_on-without, without-member}
use Rattle.residue_theory.specs.Sets.{IsWithin, either, with_one, without}
use Rattle.residue_theory.specs.Sums.{size_on}

pub record Matroid (n : ℕ) (Free : (ℕ → Bool) → Type 0) : Type 0 where
  pub empty : Free (λ _. false)
  pub within : (X Y : ℕ → Bool) → IsWithin n X Y → Free Y → Free X
  pub exchange : (X Y : ℕ → Bool) → Free X → Free Y → size_on X n < size_on Y n →
      (y : ℕ) × (y < n) × (Y y ≡ true) × (X y ≡ false) × Free (with_one X y)
  pub decided : (X : ℕ → Bool) → Free X ⊎ (Free X → ⊥)

-- r is the size of a largest independent subset of X
pub record IsLargest (n : ℕ) (Free : (ℕ → Bool) → Type 0) (X : ℕ → Bool) (r : ℕ) : Type 0 where
  pub reached : (Y : ℕ → Bool) × IsWithin n Y X × Free Y × (size_on Y n ≡ r)
  pub greatest : (Y : ℕ → Bool) → IsWithin n Y X → Free Y → size_on Y n ≤ r

-- ---- sizes
pub size-grown : (n : ℕ) (X : ℕ → Bool) (v : ℕ) → v < n → X v ≡ false → size_on (with_one X v) n ≡ size_on X n + 1
size-grown n X v l e = sum-with_one X n v (λ _. 1) l e

pub size-shrunk : (n : ℕ) (X : ℕ → Bool) (v : ℕ) → v < n → X v ≡ true → size_on X n ≡ size_on (without X v) n + 1
size-shrunk n X v l e = sum_on-without X n v (λ _. 1) l e

-- a subset of the size of the whole is the whole
pub full : (n : ℕ) (A X : ℕ → Bool) → IsWithin n A X → size_on A n ≡ size_on X n → IsWithin n X A
full n A X within size j l h = go (A j) refl
  where
    go : (b : Bool) → A j ≡ b → A j ≡ true
    go true e = e
    go false e = absurd (omega (
      arith,
      size,
      size-shrunk n X j l h,
      size_on-within (without X j) A n
          (λ k kl kh. member-without X j k (within k kl kh) (λ q. differ e (subst (λ i. A i ≡ true) q kh))),
    ))

-- with a member more, or less
pub within-grown : (n : ℕ) (X Y : ℕ → Bool) (v : ℕ) → IsWithin n X Y → Y v ≡ true → IsWithin n (with_one X v) Y
within-grown n X Y v within h j l k = elim (nat_cases j v) [
  | inl q ↦ subst (λ i. Y i ≡ true) (sym q) h
  | inr ne ↦ within j l (with_one-other X v j k ne)
]

pub grown-within : (n : ℕ) (X Y : ℕ → Bool) (v : ℕ) → IsWithin n X Y → IsWithin n (with_one X v) (with_one Y v)
grown-within n X Y v within = within-grown n X (with_one Y v) v (λ j l h. with_one-member Y v j (within j l h)) (with_one-new Y v)

module _ (n : ℕ) (Free : (ℕ → Bool) → Type 0) where
  pub largest-unique : (X : ℕ → Bool) (r s : ℕ) → IsLargest n Free X r → IsLargest n Free X s → r ≡ s
  largest-unique X r s R S = omega (
    arith,
    R.reached.3,
    S.reached.3,
    R.greatest S.reached.0 S.reached.1 S.reached.2,
    S.greatest R.reached.0 R.reached.1 R.reached.2,
  )

  -- sets with the same members have the same
  pub largest-same : (X Y : ℕ → Bool) (r : ℕ) → IsWithin n X Y → IsWithin n Y X → IsLargest n Free X r → IsLargest n Free Y r
  largest-same X Y r there back L = record {
    reached = (L.reached.0, (λ j l h. there j l (L.reached.1 j l h)), L.reached.2, L.reached.3);
    greatest = λ Z within free. L.greatest Z (λ j l h. back j l (within j l h)) free;
  }

  pub largest-monotone : (X Y : ℕ → Bool) (r s : ℕ) → IsWithin n X Y → IsLargest n Free X r → IsLargest n Free Y s → r ≤ s
  largest-monotone X Y r s within R S = omega (arith, R.reached.3, S.greatest R.reached.0 (λ j l h. within j l (R.reached.1 j l h)) R.reached.2)

  pub largest_of-free : (X : ℕ → Bool) → Free X → IsLargest n Free X (size_on X n)
  largest_of-free X free = record { reached = (X, (λ j _ h. h), free, refl); greatest = λ Y within _. size_on-within X Y n within }

  -- one more member keeps the size, or adds one
  pub largest-one_more : ((X Y : ℕ → Bool) → IsWithin n X Y → Free Y → Free X) → (X : ℕ → Bool) (e r s : ℕ) → e < n → IsLargest n Free X r →
      IsLargest n Free (with_one X e) s → (r ≤ s) × (s ≤ r + 1)
  largest-one_more within X e r s el R S = (
    largest-monotone X (with_one X e) r s (λ j _ h. with_one-member X e j h) R S,
    omega (
      arith,
      S.reached.3,
      size-without S.reached.0 n e el,
      R.greatest (without S.reached.0 e)
          (λ j jl jh. let w : (S.reached.0 j ≡ true) × (j ≢ e) = without-member S.reached.0 e j jh in with_one-other X e j (S.reached.1 j jl w.0) w.1)
          (within (without S.reached.0 e) S.reached.0 (λ j _ jh. (without-member S.reached.0 e j jh).0) S.reached.2),
    ),
  )

  module _ (T : Matroid n Free) where
    -- an independent set that no other member may join is largest
    pub spanning-largest : (X I : ℕ → Bool) → IsWithin n I X → Free I →
        ((y : ℕ) → y < n → X y ≡ true → I y ≡ false → Free (with_one I y) → ⊥) → IsLargest n Free X (size_on I n)
    spanning-largest X I inside free none = record {
      reached = (I, inside, free, refl);
      greatest = λ Y within other. elim (lt_cases (size_on I n) (size_on Y n)) [
        | inr le ↦ le
        | inl less ↦ absurd (clash Y within (T.exchange I Y free other less))
      ];
    }
      where
        clash : (Y : ℕ → Bool) → IsWithin n Y X → (y : ℕ) × (y < n) × (Y y ≡ true) × (I y ≡ false) × Free (with_one I y) → ⊥
        clash Y within (y, l, h, e, grown) = none y l (within y l h) e grown

    abbrev Grown : (ℕ → Bool) → (ℕ → Bool) → Type 0
    Grown I Y = (J : ℕ → Bool) × IsWithin n I J × IsWithin n J (either I Y) × Free J × (size_on J n ≡ size_on Y n)

    -- an independent set grows with members of a larger one, up to its size
    pub grow : (fuel : ℕ) (I Y : ℕ → Bool) → Free I → Free Y → size_on I n ≤ size_on Y n → size_on Y n ≤ size_on I n + fuel →
        Grown I Y
    grow zero I Y free other le top = (I, (λ j _ h. h), (λ j _ h. either-first (I j) (Y j) h), free, omega arith)
    grow (suc fuel) I Y free other le top = elim (lt_cases (size_on I n) (size_on Y n)) [
      | inr ge ↦ (I, (λ j _ h. h), (λ j _ h. either-first (I j) (Y j) h), free, omega arith)
      | inl less ↦ step (T.exchange I Y free other less) (λ y l e grown. grow fuel (with_one I y) Y grown other
          (omega (arith, size-grown n I y l e)) (omega (arith, size-grown n I y l e)))
    ]
      where
        step : (y : ℕ) × (y < n) × (Y y ≡ true) × (I y ≡ false) × Free (with_one I y) →
            ((y : ℕ) → y < n → I y ≡ false → Free (with_one I y) → Grown (with_one I y) Y) → Grown I Y
        step (y, l, h, e, grown) further = go (further y l e grown)
          where
            go : Grown (with_one I y) Y → Grown I Y
            go (J, keeps, inside, large, size) = (
              J,
              λ j jl jh. keeps j jl (with_one-member I y j jh),
              λ j jl jh. elim (either_cases (with_one I y j) (Y j) (inside j jl jh)) [
                | inr k ↦ either-second (I j) (Y j) k
                | inl k ↦ elim (nat_cases j y) [
                  | inl q ↦ either-second (I j) (Y j) (subst (λ i. Y i ≡ true) (sym q) h)
                  | inr ne ↦ either-first (I j) (Y j) (with_one-other I y j k ne)
                ]
              ],
              large,
              size,
            )

    abbrev pub Swaps : (ℕ → Bool) → (ℕ → Bool) → ℕ → Type 0
    Swaps B H e = (z : ℕ) × (z < n) × (B z ≡ true) × (H z ≡ false) × Free (with_one (without B z) e)

    -- where e may not join B, and an independent set of e and members of B lacks some of them, e may take the place of one
    pub swap : (B H : ℕ → Bool) (e : ℕ) → e < n → B e ≡ false → Free B → (Free (with_one B e) → ⊥) → IsWithin n H (with_one B e) → H e ≡ true → Free H →
        (z : ℕ) × (z < n) × (B z ≡ true) × (H z ≡ false) × Free (with_one (without B z) e)
    swap B H e el out base never inside he free = go (lt_cases (size_on B n) (size_on H n))
      where
        larger : (y : ℕ) × (y < n) × (H y ≡ true) × (B y ≡ false) × Free (with_one B y) → ⊥
        larger (y, yl, yh, ye, joined) = elim (nat_cases y e) [
          | inl q ↦ never (subst (λ i. Free (with_one B i)) q joined)
          | inr ne ↦ differ ye (with_one-other B e y (inside y yl yh) ne)
        ]

        found : (J : ℕ → Bool) × IsWithin n H J × IsWithin n J (either H B) × Free J × (size_on J n ≡ size_on B n) → Swaps B H e
        found (J, keeps, either_one, large, size) = at (first_on (λ z. B z && not (J z)) n)
          where
            joined : J e ≡ true
            joined = keeps e el he

            within_joined : IsWithin n J (with_one B e)
            within_joined j jl jh = elim (either_cases (H j) (B j) (either_one j jl jh)) [ inl k ↦ inside j jl k | inr k ↦ with_one-member B e j k ]

            negated : (b c : Bool) → b && not c ≡ true → c ≡ false
            negated b true h = grind arith
            negated b false h = refl

            kept : (b c : Bool) → b && not c ≡ false → b ≡ true → c ≡ true
            kept b c h k = grind arith

            -- what the set lacks of B is out of H too
            lacks : (z : ℕ) → z < n → J z ≡ false → H z ≡ false
            lacks z zl zj = not_true (H z) (λ h. differ zj (keeps z zl h))

            at : ((z : ℕ) × (z < n) × (B z && not (J z) ≡ true)) ⊎ ((z : ℕ) → z < n → B z && not (J z) ≡ false) → Swaps B H e
            at (inr none) = absurd (never (T.within (with_one B e) J (within-grown n B J e (λ j jl jh. kept (B j) (J j) (none j jl) jh) joined) large))
            at (inl (z, zl, zh)) = (
              z,
              zl,
              zb,
              lacks z zl zj,
              T.within (with_one (without B z) e) J
                  (full n J (with_one (without B z) e) covered same_size) large,
            )
              where
                zb : B z ≡ true
                zb = both-first (B z) (not (J z)) zh

                zj : J z ≡ false
                zj = negated (B z) (J z) zh

                covered : IsWithin n J (with_one (without B z) e)
                covered j jl jh = elim (nat_cases j e) [
                  | inl q ↦ subst (λ i. with_one (without B z) e i ≡ true) (sym q) (with_one-new (without B z) e)
                  | inr ne ↦ with_one-member (without B z) e j (member-without B z j (with_one-other B e j (within_joined j jl jh) ne)
                      (λ q. differ zj (subst (λ i. J i ≡ true) q jh)))
                ]

                e_out : without B z e ≡ false
                e_out = not_true (without B z e) (λ h. differ out (without-member B z e h).0)

                same_size : size_on J n ≡ size_on (with_one (without B z) e) n
                same_size = omega (arith, size, size-grown n (without B z) e el e_out, size-shrunk n B z zl zb)

        go : (size_on B n < size_on H n) ⊎ (size_on H n ≤ size_on B n) → Swaps B H e
        go (inl less) = absurd (larger (T.exchange B H base free less))
        go (inr le) = found (grow (size_on B n) H B free base le (omega arith))
