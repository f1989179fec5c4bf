-- What is there of the arcs, and what is still to come.
use Rattle.std.proofs.Common.{◌≡◌, ℕ, suc, ◌+◌, ◌<◌, ◌≤◌, Bool, true, false, ◌&&◌, ◌||◌, eqb, List, [], ◌∷◌, length, get_or}
use Rattle.std.proofs.Common.{drop, refl, sym, ◌∙◌, ap, subst, inl, inr, arith}
use Rattle.std.proofs.lemmas.List.{drop_more, drop_all}
use Rattle.residue_theory.proofs.SetLaws.{differ, both-first, both-second, either_cases, eqb_true, eqb_from, not_true}
use Rattle.part_rules.specs.Listed.{arc_in, AreArcs, inner}

taken : (d e r p : Bool) → (e ≡ true → p ≡ true) → (d || e) || (r && p) ≡ d || ((e || r) && p)
taken true e r p h = refl
taken false true r p h = sym (h refl)
taken false false r p h = refl

passed : (d e r p : Bool) → (e ≡ true → p ≡ false) → d || (r && p) ≡ d || ((e || r) && p)
passed true e r p h = refl
passed false false r p h = refl
passed false true r true h = absurd (differ (h refl) refl)
passed false true true false h = refl
passed false true false false h = refl

-- told x y says whether the pair of x and y is there
module _ (arcs : List (ℕ × ℕ)) (part : ℕ → ℕ) (told : ℕ → ℕ → Bool) (k from to : ℕ) (l : k < length arcs) (at : get_or arcs k (0, 0) ≡ (from, to))
    (sum : (x y : ℕ) → told x y || inner (arc_in (drop k arcs)) part x y ≡ inner (arc_in arcs) part x y) where
  ahead : (x y : ℕ) → told x y || (((eqb from x && eqb to y) || arc_in (drop (k + 1) arcs) x y) && eqb (part x) (part y)) ≡ inner (arc_in arcs) part x y
  ahead x y = subst (λ rest. told x y || inner (arc_in rest) part x y ≡ inner (arc_in arcs) part x y)
      (drop_more arcs k (0, 0) l ∙ ap (λ arc. arc ∷ drop (k + 1) arcs) at) (sum x y)

  parts-at : (x y : ℕ) → eqb from x && eqb to y ≡ true → eqb (part from) (part to) ≡ eqb (part x) (part y)
  parts-at x y h = ap (λ z. eqb (part z) (part to)) (eqb_true from x (both-first (eqb from x) (eqb to y) h))
      ∙ ap (λ z. eqb (part x) (part z)) (eqb_true to y (both-second (eqb from x) (eqb to y) h))

  pub sum-taken : (now : ℕ → ℕ → Bool) → ((x y : ℕ) → now x y ≡ told x y || (eqb from x && eqb to y)) → part from ≡ part to →
      (x y : ℕ) → now x y || inner (arc_in (drop (k + 1) arcs)) part x y ≡ inner (arc_in arcs) part x y
  sum-taken now more same x y = ap (λ b. b || inner (arc_in (drop (k + 1) arcs)) part x y) (more x y)
      ∙ (taken (told x y) (eqb from x && eqb to y) (arc_in (drop (k + 1) arcs) x y) (eqb (part x) (part y))
      (λ h. sym (parts-at x y h) ∙ eqb_from (part from) (part to) same) ∙ ahead x y)

  pub sum-passed : (part from ≡ part to → ⊥) →
      (x y : ℕ) → told x y || inner (arc_in (drop (k + 1) arcs)) part x y ≡ inner (arc_in arcs) part x y
  sum-passed apart x y =
      passed (told x y) (eqb from x && eqb to y) (arc_in (drop (k + 1) arcs) x y) (eqb (part x) (part y))
      (λ h. sym (parts-at x y h) ∙ not_true (eqb (part from) (part to))
      (λ t. apart (eqb_true (part from) (part to) t))) ∙ ahead x y

-- at first nothing is there
pub sum-first : (arcs : List (ℕ × ℕ)) (part : ℕ → ℕ) (told : ℕ → ℕ → Bool) → ((x y : ℕ) → told x y ≡ false) →
    (x y : ℕ) → told x y || inner (arc_in (drop 0 arcs)) part x y ≡ inner (arc_in arcs) part x y
sum-first arcs part told none x y = ap (λ b. b || inner (arc_in arcs) part x y) (none x y)

-- and at last all is
pub sum-last : (arcs : List (ℕ × ℕ)) (part : ℕ → ℕ) (told : ℕ → ℕ → Bool) (k : ℕ) → length arcs ≤ k →
    ((x y : ℕ) → told x y || inner (arc_in (drop k arcs)) part x y ≡ inner (arc_in arcs) part x y) → (x y : ℕ) → told x y ≡ inner (arc_in arcs) part x y
sum-last arcs part told k l sum x y = sym (or-false (told x y))
    ∙ subst (λ rest. told x y
    || inner (arc_in rest) part x y ≡ inner (arc_in arcs) part x y) (drop_all k arcs l) (sum x y)
  where
    or-false : (b : Bool) → b || false ≡ b
    or-false true = refl
    or-false false = refl

-- arcs of a list lead from and to places
pub arc-below : (n : ℕ) (arcs : List (ℕ × ℕ)) → AreArcs n arcs → (x y : ℕ) → arc_in arcs x y ≡ true → (x < n) × (y < n)
arc-below n [] all x y h = absurd (differ refl h)
arc-below n (arc ∷ arcs) all x y h = elim (either_cases (eqb arc.0 x && eqb arc.1 y) (arc_in arcs x y) h) [
  | inl here ↦ let first : (arc.0 < n) × (arc.1 < n) = all 0 arc (omega arith) in (
    subst (λ z. z < n) (eqb_true arc.0 x (both-first (eqb arc.0 x) (eqb arc.1 y) here)) first.0,
    subst (λ z. z < n) (eqb_true arc.1 y (both-second (eqb arc.0 x) (eqb arc.1 y) here)) first.1,
  )
  | inr later ↦ arc-below n arcs (λ k d l. all (suc k) d (omega arith)) x y later
]

pub inner-below : (n : ℕ) (arcs : List (ℕ × ℕ)) (part : ℕ → ℕ) → AreArcs n arcs → (x y : ℕ) → inner (arc_in arcs) part x y ≡ true → (x < n) × (y < n)
inner-below n arcs part all x y h = arc-below n arcs all x y (both-first (arc_in arcs x y) (eqb (part x) (part y)) h)

-- turned, one pair more
pub told-turned : (a b c : Bool) (d : Bool) → d ≡ a || (b && c) → d ≡ a || (c && b)
told-turned a true true d h = h
told-turned a true false d h = h
told-turned a false true d h = h
told-turned a false false d h = h
