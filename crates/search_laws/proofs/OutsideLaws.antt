-- Searches that leave out what was reached in vain.
use Rattle.std.proofs.Common.{◌≡◌, ℕ, zero, suc, ◌+◌, ◌<◌, Bool, true, false, not, inl, inr, refl, subst}
use Rattle.residue_theory.specs.Sets.{IsApart, IsWithin, both, either, nothing}
use Rattle.residue_theory.specs.Sums.{size_on}
use Rattle.residue_theory.proofs.CountLaws.{size-either}
use Rattle.residue_theory.proofs.SetLaws.{both-first, both-second, both_true, differ, either-first, either-second, either_cases, not_true}
use Rattle.closed_sets.specs.Closed.{IsClosed, IsReachedSet}
use Rattle.closed_sets.specs.Walks.{Walk, FromSome}
use Rattle.closed_sets.proofs.SetLaws.{not-make, not-true, test_cases}
use Rattle.search_laws.specs.Searches.{IsShortest}
use Rattle.search_laws.specs.Outside.{IsReachedInVain, leads_outside}

module _ (arc : ℕ → ℕ → Bool) (n : ℕ) (left : ℕ → Bool) where
  abbrev inner : ℕ → ℕ → Bool
  inner = leads_outside arc left

  along : (x y : ℕ) → inner x y ≡ true → arc x y ≡ true
  along x y a = both-first (arc x y) (not (left y)) a

  outside : (x y : ℕ) → arc x y ≡ true → left y ≡ false → inner x y ≡ true
  outside x y a none = both_true (arc x y) (not (left y)) a (not-make (left y) none)

  walk-along : (k s y : ℕ) → Walk inner n s y k → Walk arc n s y k
  walk-along zero s y e = e
  walk-along (suc k) s y (z, zl, w, a) = (z, zl, walk-along k s z w, along z y a)

  -- a walk outside never enters what is left out
  pub walk-stays : (k s y : ℕ) → Walk inner n s y k → left s ≡ false → left y ≡ false
  walk-stays zero s y e none = subst (λ v. left v ≡ false) e none
  walk-stays (suc k) s y (z, zl, w, a) none = not-true (left y) (both-second (arc z y) (not (left y)) a)

  pub from-outside : (some : ℕ → Bool) (y : ℕ) → FromSome inner n some y → FromSome arc n some y
  from-outside some y (s, sl, m, (k, w)) = (s, sl, m, (k, walk-along k s y w))

  module _ (ends : ℕ → Bool) (C : IsClosed arc n nothing ends left) where
    -- and a walk that ends outside was outside from its start
    walk-outside : (k s y : ℕ) → y < n → left y ≡ false → Walk arc n s y k → Walk inner n s y k
    walk-outside zero s y yl none e = e
    walk-outside (suc k) s y yl none (z, zl, w, a) = (
      z,
      zl,
      walk-outside k s z zl (not_true (left z) (λ h. differ none (C.follows z y zl yl h a))) w,
      outside z y a none,
    )

    pub shortest-outside : (some : ℕ → Bool) (at : ℕ → ℕ) (k : ℕ) → IsShortest inner n some ends at k → IsShortest arc n some ends at k
    shortest-outside some at k W = record {
      fewer = W.fewer;
      begins = W.begins;
      stops = W.stops;
      below = W.below;
      follows = λ i l. along (at i) (at (i + 1)) (W.follows i l);
      least = λ s e m sl el st en w.
          W.least s e m sl el st en (walk-outside m s e el (not_true (left e) (λ h. C.no_end e el h en)) w);
    }

    module _ (starts : ℕ → Bool) (rooted : (x : ℕ) → x < n → left x ≡ true → FromSome arc n (both starts left) x) (some X : ℕ → Bool)
        (within : IsWithin n some starts) (apart : IsApart n left some) (D : IsClosed inner n some ends X)
        (R : IsReachedSet inner n some X) where
      pub vain-grown : IsReachedInVain arc n starts ends (either left X)
      vain-grown = record {
        closed = record {
          holds_starts = λ x l h. absurd (differ refl h);
          no_end = λ x l h e. elim (either_cases (left x) (X x) h) [ inl c ↦ C.no_end x l c e | inr m ↦ D.no_end x l m e ];
          follows = λ x y xl yl h a. elim (either_cases (left x) (X x) h) [
            | inl c ↦ either-first (left y) (X y) (C.follows x y xl yl c a)
            | inr m ↦ elim (test_cases (left y)) [
              | inl c ↦ either-first (left y) (X y) c
              | inr none ↦ either-second (left y) (X y) (D.follows x y xl yl m (outside x y a none))
            ]
          ];
        };
        rooted = λ x l h. elim (either_cases (left x) (X x) h) [
          | inl c ↦ let (s, sl, h, w) = rooted x l c in (
            s,
            sl,
            both_true (starts s) (either left X s) (both-first (starts s) (left s) h)
                (either-first (left s) (X s) (both-second (starts s) (left s) h)),
            w,
          )
          | inr m ↦ let (s, sl, st, w) = from-outside some x ((R x l).0 m) in (
            s,
            sl,
            both_true (starts s) (either left X s) (within s sl st) (either-second (left s) (X s) (D.holds_starts s sl st)),
            w,
          )
        ];
      }

      vain-apart : IsApart n left X
      vain-apart x l h = not_true (X x) (λ m. let (s, sl, st, (k, w)) = (R x l).0 m in
          differ (walk-stays k s x w (not_true (left s) (λ c. differ (apart s sl c) st))) h)

      pub vain-size : size_on (either left X) n ≡ size_on left n + size_on X n
      vain-size = size-either left X n vain-apart
