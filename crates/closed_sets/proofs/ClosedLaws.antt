-- What closed sets hold.
use Rattle.std.proofs.Common.{◌≡◌, ℕ, ◌<◌, Bool, true, false, ◌⊎◌, inl, inr, refl, sym, subst}
use Rattle.residue_theory.specs.Sets.{with_one}
use Rattle.closed_sets.specs.Walks.{Reaches, FromSome, ToSome, Mutual}
use Rattle.closed_sets.specs.Closed.{IsClosed, NoEndReached, IsReachedSet, IsMiddle}
use Rattle.residue_theory.proofs.SetLaws.{with_one-member, with_one-new}
use Rattle.closed_sets.proofs.SetLaws.{with_one-split}
use Rattle.closed_sets.proofs.WalkLaws.{follows-reaches, reaches-self, from-arc}
use Rattle.closed_sets.proofs.Hulls.{reached, reached-set, reached-follows, reached-holds, follows-from, to_or_not}

module _ (arc : ℕ → ℕ → Bool) (n : ℕ) (starts ends : ℕ → Bool) where
  -- a closed set holds what is reached from a start, and all that a member reaches, and nothing that reaches an end
  pub closed-from : (X : ℕ → Bool) → IsClosed arc n starts ends X → (y : ℕ) → y < n → FromSome arc n starts y → X y ≡ true
  closed-from X c = follows-from arc n starts X c.holds_starts c.follows

  pub closed-reaches : (X : ℕ → Bool) → IsClosed arc n starts ends X → (x y : ℕ) → x < n → y < n → X x ≡ true → Reaches arc n x y → X y ≡ true
  closed-reaches X c = follows-reaches arc n X c.follows

  pub closed-to : (X : ℕ → Bool) → IsClosed arc n starts ends X → (x : ℕ) → x < n → ToSome arc n ends x → X x ≡ true → ⊥
  closed-to X c x l (e, el, eh, r) h = c.no_end e el (closed-reaches X c x e l el h r) eh

  module _ (clear : NoEndReached arc n starts ends) where
    pub reached-closed : (X : ℕ → Bool) → IsReachedSet arc n starts X → IsClosed arc n starts ends X
    reached-closed X R = record {
      holds_starts = λ x l h. (R x l).1 (x, l, h, reaches-self arc n x);
      no_end = λ x l h e. clear x l e ((R x l).0 h);
      follows = λ x y xl yl h a. (R y yl).1 (from-arc arc n starts x y ((R x xl).0 h) xl a);
    }

    -- the least closed set
    pub least-closed : IsClosed arc n starts ends (reached arc n starts)
    least-closed = reached-closed (reached arc n starts) (reached-set arc n starts)

    pub in_every : (y : ℕ) → y < n → (((X : ℕ → Bool) → IsClosed arc n starts ends X → X y ≡ true) → FromSome arc n starts y)
    in_every y l all = (reached-set arc n starts y l).0 (all (reached arc n starts) least-closed)

    -- what is reached from a start or from y
    pub reached_with : ℕ → ℕ → Bool
    reached_with y = reached arc n (with_one starts y)

    pub from_with : (y x : ℕ) → FromSome arc n (with_one starts y) x → Reaches arc n y x ⊎ FromSome arc n starts x
    from_with y x (s, l, h, r) = elim (with_one-split starts y s h) [ inl q ↦ inl (subst (λ w. Reaches arc n w x) q r) | inr old ↦ inr (s, l, old, r) ]

    pub closed_with : (y : ℕ) → (ToSome arc n ends y → ⊥) → IsClosed arc n starts ends (reached_with y)
    unfolding reached_with
    closed_with y none = record {
      holds_starts = λ x l h. reached-holds arc n (with_one starts y) x l (with_one-member starts y x h);
      no_end = λ x l h e. elim (from_with y x ((reached-set arc n (with_one starts y) x l).0 h)) [ inl r ↦ none (x, l, e, r) | inr f ↦ clear x l e f ];
      follows = reached-follows arc n (with_one starts y);
    }

    pub held_with : (y : ℕ) → y < n → reached_with y y ≡ true
    unfolding reached_with
    held_with y l = reached-holds arc n (with_one starts y) y l (with_one-new starts y)

    pub held_with-tells : (y x : ℕ) → x < n → reached_with y x ≡ true → Reaches arc n y x ⊎ FromSome arc n starts x
    unfolding reached_with
    held_with-tells y x l h = from_with y x ((reached-set arc n (with_one starts y) x l).0 h)

    pub in_none : (y : ℕ) → y < n → ((X : ℕ → Bool) → IsClosed arc n starts ends X → X y ≡ true → ⊥) → ToSome arc n ends y
    in_none y l never = elim (to_or_not arc n ends y l) [ inl t ↦ t | inr no_end ↦ absurd (never (reached_with y) (closed_with y no_end) (held_with y l)) ]

    -- each closed set that holds y holds x
    pub holds_with : (y x : ℕ) → y < n → x < n → (ToSome arc n ends y → ⊥) →
        ((X : ℕ → Bool) → IsClosed arc n starts ends X → X y ≡ true → X x ≡ true) → Reaches arc n y x ⊎ FromSome arc n starts x
    holds_with y x yl xl none all = held_with-tells y x xl (all (reached_with y) (closed_with y none) (held_with y yl))

    pub with_holds : (y x : ℕ) → y < n → x < n → Reaches arc n y x ⊎ FromSome arc n starts x → (X : ℕ → Bool) →
        IsClosed arc n starts ends X → X y ≡ true → X x ≡ true
    with_holds y x yl xl (inl r) X c h = closed-reaches X c y x yl xl h r
    with_holds y x yl xl (inr f) X c h = closed-from X c x xl f

    -- every closed set holds both of two middle places or neither, exactly where each reaches the other
    pub together-mutual : (x y : ℕ) → IsMiddle arc n starts ends x → IsMiddle arc n starts ends y →
        ((X : ℕ → Bool) → IsClosed arc n starts ends X → X x ≡ X y) → Mutual arc n x y
    together-mutual x y mx my same = (half x y mx my same, half y x my mx (λ X c. sym (same X c)))
      where
        half : (x y : ℕ) → IsMiddle arc n starts ends x → IsMiddle arc n starts ends y →
            ((X : ℕ → Bool) → IsClosed arc n starts ends X → X x ≡ X y) → Reaches arc n x y
        half x y mx my same = elim (holds_with x y mx.0 my.0 mx.2 (λ X c h. subst (λ v. v ≡ true) (same X c) h)) [ inl r ↦ r | inr f ↦ absurd (my.1 f) ]

    pub mutual-together : (x y : ℕ) → x < n → y < n → Mutual arc n x y → (X : ℕ → Bool) → IsClosed arc n starts ends X → X x ≡ X y
    mutual-together x y xl yl m X c = go (X x) (X y) refl refl
      where
        go : (a b : Bool) → X x ≡ a → X y ≡ b → X x ≡ X y
        go true b p q = let h = closed-reaches X c x y xl yl p m.0 in cc
        go false true p q = let h = closed-reaches X c y x yl xl q m.1 in cc
        go false false p q = cc
