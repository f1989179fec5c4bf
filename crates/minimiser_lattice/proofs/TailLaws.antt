-- Marks of the tails: what a start leads to, and what leads to an end.
use Rattle.std.proofs.Common.{◌≡◌, ℕ, ◌+◌, ◌<◌, Bool, true, false, ◌||◌, ◌⊎◌, inl, inr, ap, sym, subst, ◌∙◌, arith}
use Rattle.residue_theory.proofs.SumLaws.{nat_cases}
use Rattle.residue_theory.proofs.SetLaws.{differ, not_true, either_cases}
use Rattle.minimiser_lattice.specs.Paths.{IsNumbering}
use Rattle.minimiser_lattice.specs.Components.{leads_in}
use Rattle.minimiser_lattice.specs.Listings.{IsFirstTail, IsLastTail, IsTail}
use Rattle.minimiser_lattice.proofs.ListingLaws.{leads-cases, leads-same, leads-strict}

neither-first : (a b : Bool) → (a || b) ≡ false → a ≡ false
neither-first a b h = grind arith

neither-second : (a b : Bool) → (a || b) ≡ false → b ≡ false
neither-second a b h = grind arith

module _ (n : ℕ) (set : ℕ → Bool) (relates : ℕ → ℕ → Bool) (count : ℕ) (marks : ℕ → Bool) where
  pub tail-none : ((k : ℕ) → k < count → marks k ≡ false) → IsTail 0 set relates count marks
  tail-none h = record {
    some = λ k l m. absurd (differ (h k l) m);
    none = λ k x l m less s. absurd (omega arith);
  }

  -- what the next place is related to is marked
  pub tail-more : (now : ℕ → Bool) → set n ≡ true → ((k : ℕ) → k < count → now k ≡ (marks k || relates n k)) →
      IsTail n set relates count marks → IsTail (n + 1) set relates count now
  tail-more now member J T = record {
    some = λ k l h. elim (either_cases (marks k) (relates n k) (sym (J k l) ∙ h)) [
      | inl m ↦ let t = T.some k l m in (t.0, omega arith, t.2, t.3)
      | inr r ↦ (n, omega arith, member, r)
    ];
    none = λ k x l h less s. elim (nat_cases x n) [
      | inl q ↦ subst (λ v. relates v k ≡ false) (sym q) (neither-second (marks k) (relates n k) (sym (J k l) ∙ h))
      | inr ne ↦ T.none k x l (neither-first (marks k) (relates n k) (sym (J k l) ∙ h)) (omega arith) s
    ];
  }

  -- what the next place is related to, if it is of the set, has been marked
  pub tail-held : ((k : ℕ) → k < count → set n ≡ true → marks k ≡ false → relates n k ≡ false) →
      IsTail n set relates count marks → IsTail (n + 1) set relates count marks
  tail-held held T = record {
    some = λ k l h. let t = T.some k l h in (t.0, omega arith, t.2, t.3);
    none = λ k x l h less s. elim (nat_cases x n) [
      | inl q ↦ subst (λ v. relates v k ≡ false) (sym q) (held k l (subst (λ v. set v ≡ true) q s) h)
      | inr ne ↦ T.none k x l h (omega arith) s
    ];
  }

  pub tail-other : set n ≡ false → IsTail n set relates count marks → IsTail (n + 1) set relates count marks
  tail-other other = tail-held (λ k l s. absurd (differ other s))

module _ (n : ℕ) (number : ℕ → ℕ) (count : ℕ) (strict : ℕ → ℕ → Bool) (N : IsNumbering n number count strict) where
  leads-through : (k l m : ℕ) → k < count → l < count → m < count → leads_in strict k l ≡ true →
      leads_in strict l m ≡ true → leads_in strict k m ≡ true
  leads-through k l m kc lc mc h e = go (leads-cases strict k l h) (leads-cases strict l m e)
    where
      go : (k ≡ l) ⊎ (strict k l ≡ true) → (l ≡ m) ⊎ (strict l m ≡ true) → leads_in strict k m ≡ true
      go (inl q) _ = subst (λ v. leads_in strict v m ≡ true) (sym q) e
      go (inr s) (inl q) = subst (λ v. leads_in strict k v ≡ true) q h
      go (inr s) (inr t) = leads-strict strict k m
          (N.lower k l m kc (omega (arith, N.fits)) (omega (arith, N.fits)) s t)

  -- a start whose component is marked leads to nothing that is not marked
  pub first-held : (starts first : ℕ → Bool) (x : ℕ) → x < n → first (number x) ≡ true →
      IsFirstTail x number count strict starts first → IsFirstTail (x + 1) number count strict starts first
  first-held starts first x xl m T = tail-held x starts (λ s k. leads_in strict (number s) k) count first (λ k l s f.
      let t = T.some (number x) (N.below x xl) m in
      not_true (leads_in strict (number x) k) (λ h. differ (T.none k t.0 l f t.1 t.2)
      (leads-through (number t.0) (number x) k (N.below t.0 (omega (arith, t.1))) (N.below x xl) l t.3 h))) T

  module _ (ends : ℕ → Bool) where
    -- an end that component k leads to
    abbrev pub EndOf : ℕ → Type 0
    EndOf k = (x : ℕ) × (x < n) × (ends x ≡ true) × (leads_in strict k (number x) ≡ true)

    pub end-of-own : (k : ℕ) → (x : ℕ) × (x < n) × (ends x ≡ true) × (number x ≡ k) → EndOf k
    end-of-own k (x, xl, e, q) = (x, xl, e, leads-same strict k (number x) (sym q))

    pub end-through : (k l : ℕ) → k < count → l < k → strict k l ≡ true → EndOf l → EndOf k
    end-through k l kc less s (x, xl, e, h) =
        (x, xl, e, leads-through k l (number x) kc (omega (arith, less, kc)) (N.below x xl) (leads-strict strict k l s) h)

    -- where what k leads to is not marked, k leads to no end, unless it is the component of one
    pub end-none : (marks : ℕ → Bool) (k x : ℕ) → k < count → x < n → ends x ≡ true →
        ((y : ℕ) → y < n → ends y ≡ true → marks (number y) ≡ true) →
        ((l : ℕ) → l < k → strict k l ≡ true → marks l ≡ false) → leads_in strict k (number x) ≡ true → marks k ≡ true
    end-none marks k x kc xl e own none h = elim (leads-cases strict k (number x) h) [
      | inl q ↦ ap marks q ∙ own x xl e
      | inr s ↦ absurd (differ (none (number x) (N.falls k (number x) kc (omega (arith, N.fits, N.below x xl)) s) s) (own x xl e))
    ]

    pub last-tail : (marks : ℕ → Bool) → ((k : ℕ) → k < count → marks k ≡ true → EndOf k) →
        ((k x : ℕ) → k < count → x < n → ends x ≡ true → leads_in strict k (number x) ≡ true → marks k ≡ true) →
        IsLastTail n number count strict ends marks
    last-tail marks some made = record {
      some = some;
      none = λ k x kc f xl e. not_true (leads_in strict k (number x)) (λ h. differ f (made k x kc xl e h));
    }
