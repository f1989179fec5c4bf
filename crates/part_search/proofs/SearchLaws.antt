-- The steps of a search.
use Rattle.std.proofs.Common.{◌≡◌, ℕ, ◌+◌, ◌<◌, ◌≤◌, Bool, true, List, length, get_or, refl, sym, ◌∙◌, subst, inl, inr, arith}
use Rattle.residue_theory.specs.Sets.{everything}
use Rattle.residue_theory.proofs.SumLaws.{nat_cases, size_on-within}
use Rattle.residue_theory.proofs.CountLaws.{size-everything}
use Rattle.residue_theory.proofs.SetLaws.{either_cases, either-first, either-second}
use Rattle.closed_sets.specs.Walks.{FromSome}
use Rattle.closed_sets.proofs.WalkLaws.{from-arc, follows-reaches}
use Rattle.part_rules.specs.Listed.{marked, AreReached}
use Rattle.part_search.specs.Markings.{IsQueue, AreMarkedToo, IsMarking}

-- the queue is no longer than there are places
pub queue-within : (marks : List Bool) (queue : List ℕ) → IsQueue marks queue → length queue ≤ length marks
queue-within marks queue Q = omega (arith, Q.size, size_on-within everything (marked marks) (length marks) (λ j _ _. refl), size-everything (length marks))

pub search-first : (arc : ℕ → ℕ → Bool) (n : ℕ) (marks : List Bool) (queue : List ℕ) → length marks ≡ n →
    IsQueue marks queue → IsMarking arc n (marked marks) marks queue 0
search-first arc n marks queue count Q = record {
  queued = Q;
  count = count;
  within = omega arith;
  sound = λ y l h. (y, l, h, (0, refl));
  from = λ y l h. h;
  looked = λ i y l. absurd (omega arith);
}

pub search-next : (arc : ℕ → ℕ → Bool) (n : ℕ) (starts : ℕ → Bool) (marks now : List Bool) (queue later : List ℕ)
    (head place : ℕ) → IsMarking arc n starts marks queue head → head < length queue →
    get_or queue head 0 ≡ place → AreMarkedToo (arc place) marks queue now later → IsMarking arc n starts now later (head + 1)
search-next arc n starts marks now queue later head place S more at G = record {
  queued = G.queued;
  count = G.count ∙ S.count;
  within = omega (arith, G.longer);
  sound = λ y l h. elim (either_cases (marked marks y) (arc place y) (sym (G.marks_too y) ∙ h)) [
    | inl old ↦ S.sound y l old
    | inr led ↦ from-arc arc n starts place y (S.sound place below (subst (λ x. marked marks x ≡ true) at (S.queued.marks_all head more))) below led
  ];
  from = λ y l h. still y (S.from y l h);
  looked = λ i y il l a. elim (nat_cases i head) [
    | inl q ↦ G.marks_too y ∙ either-second (marked marks y) (arc place y)
        (subst (λ x. arc x y ≡ true) (G.same i (omega arith) ∙ (subst (λ j. get_or queue j 0 ≡ place) (sym q) at)) a)
    | inr ne ↦ still y (S.looked i y (omega arith) l (subst (λ x. arc x y ≡ true) (G.same i (omega arith)) a))
  ];
}
  where
    below : place < n
    below = subst (λ x. x < n) at (omega (arith, S.queued.below head more, S.count))

    still : (y : ℕ) → marked marks y ≡ true → marked now y ≡ true
    still y h = G.marks_too y ∙ either-first (marked marks y) (arc place y) h

pub search-last : (arc : ℕ → ℕ → Bool) (n : ℕ) (starts : ℕ → Bool) (marks : List Bool) (queue : List ℕ) (head : ℕ) →
    IsMarking arc n starts marks queue head → length queue ≤ head → AreReached arc n starts marks
search-last arc n starts marks queue head S all = record {
  count = S.count;
  tells = λ y l. (S.sound y l, λ r. reached y l r);
}
  where
    follows : (x y : ℕ) → x < n → y < n → marked marks x ≡ true → arc x y ≡ true → marked marks y ≡ true
    follows x y xl yl h a = let found : (i : ℕ) × (i < length queue) × (get_or queue i 0 ≡ x) = S.queued.holds_all x h in
        S.looked found.0 y (omega (arith, found.1)) yl (subst (λ z. arc z y ≡ true) (sym found.2) a)

    reached : (y : ℕ) → y < n → FromSome arc n starts y → marked marks y ≡ true
    reached y l (s, sl, h, r) = follows-reaches arc n (marked marks) follows s y sl l (S.from s sl h) r
