-- The searches of a sweep, one after another.
use Rattle.std.proofs.Common.{◌≡◌, ℕ, ◌+◌, ◌<◌, ◌≤◌, Bool, true, false, not, inl, inr, refl, sym, subst, ◌∙◌, arith}
use Rattle.residue_theory.specs.Sets.{IsApart, IsWithin, both, either, only}
use Rattle.residue_theory.specs.Sums.{size_on}
use Rattle.residue_theory.proofs.CountLaws.{size-either}
use Rattle.residue_theory.proofs.SetLaws.{both-first, both-second, both_true, differ, either-first, either-second, either_cases, eqb_from, eqb_true, not_true}
use Rattle.residue_theory.proofs.SumLaws.{sum_on-same}
use Rattle.closed_sets.specs.Closed.{IsClosed, IsReachedSet}
use Rattle.closed_sets.specs.Walks.{FromSome}
use Rattle.closed_sets.proofs.SetLaws.{not-make, not-true, size_on-bound, test_cases}
use Rattle.closed_sets.proofs.WalkLaws.{follows-reaches}
use Rattle.search_laws.specs.Outside.{IsReachedInVain, leads_outside}
use Rattle.search_laws.specs.Searches.{IsShortest}
use Rattle.search_laws.proofs.OutsideLaws.{from-outside, shortest-outside, vain-grown, vain-size, walk-stays}
use Rattle.exchange_graph.specs.Counts.{AreLookedAt}
use Rattle.exchange_graph.specs.Sweeps.{AreLookedAtInVain, IsLeftOut, IsShortestFromOne}

-- what is left out was reached from a start
pub vain-rooted : (arc : ℕ → ℕ → Bool) (n : ℕ) (starts ends left : ℕ → Bool) → IsReachedInVain arc n starts ends left →
    (y : ℕ) → y < n → left y ≡ true → FromSome arc n starts y
vain-rooted arc n starts ends left V y l h =
    let (s, sl, st, w) = V.rooted y l h in (s, sl, both-first (starts s) (left s) st, w)

-- ---- what has been left out since
module _ (n : ℕ) (before left : ℕ → Bool) (kept : IsWithin n before left) where
  abbrev since : ℕ → Bool
  since = both left (λ y. not (before y))

  since-apart : IsApart n before since
  since-apart y l h = not_true (since y) (λ m. differ (not-true (before y) (both-second (left y) (not (before y)) m)) h)

  since-same : (y : ℕ) → y < n → left y ≡ either before since y
  since-same y l = elim (test_cases (left y)) [
    | inl h ↦ h ∙ sym (elim (test_cases (before y)) [
      | inl b ↦ either-first (before y) (since y) b
      | inr none ↦ either-second (before y) (since y) (both_true (left y) (not (before y)) h (not-make (before y) none))
    ])
    | inr none ↦ none ∙ sym (not_true (either before since y) (λ h. elim (either_cases (before y) (since y) h) [
      | inl b ↦ differ none (kept y l b)
      | inr m ↦ differ none (both-first (left y) (not (before y)) m)
    ]))
  ]

  since-size : size_on left n ≡ size_on before n + size_on since n
  since-size = sum_on-same left (either before since) n (λ _. 1) since-same ∙ size-either before since n since-apart

  -- it is what was looked at
  pub looked-vain : (arc : ℕ → ℕ → Bool) (starts ends : ℕ → Bool) (looks : ℕ) → IsReachedInVain arc n starts ends left →
      size_on left n ≡ size_on before n + looks → AreLookedAtInVain arc n starts ends before looks
  looked-vain arc starts ends looks V size = record {
    places = since;
    size = omega (arith, size, since-size);
    rooted = λ y l h. vain-rooted arc n starts ends left V y l (both-first (left y) (not (before y)) h);
    no_end = λ y l h. V.closed.no_end y l (both-first (left y) (not (before y)) h);
    fresh = λ y l h. not-true (before y) (both-second (left y) (not (before y)) h);
  }

pub looked-few : (arc : ℕ → ℕ → Bool) (n : ℕ) (starts ends before : ℕ → Bool) (looks : ℕ) →
    AreLookedAtInVain arc n starts ends before looks → looks ≤ n
looked-few arc n starts ends before looks L = omega (arith, L.size, size_on-bound L.places n)

module _ (arc : ℕ → ℕ → Bool) (n : ℕ) (starts ends left : ℕ → Bool) (V : IsReachedInVain arc n starts ends left)
    (start : ℕ) (is_start : starts start ≡ true) (fresh : left start ≡ false) where
  one-within : IsWithin n (only start) starts
  one-within y l h = subst (λ v. starts v ≡ true) (sym (eqb_true y start h)) is_start

  one-apart : IsApart n left (only start)
  one-apart y l h = not_true (only start y) (λ e. differ fresh (subst (λ v. left v ≡ true) (eqb_true y start e) h))

  -- a walk is found outside what is left out
  pub found-outside : (at : ℕ → ℕ) (k : ℕ) → IsShortest (leads_outside arc left) n (only start) ends at k →
      IsShortestFromOne arc n starts ends at k
  found-outside at k W =
      let here : at 0 ≡ start = eqb_true (at 0) start W.begins in
      record {
        start = subst (λ v. starts v ≡ true) (sym here) is_start;
        shortest = subst (λ v. IsShortest arc n (only v) ends at k) (sym here)
            (shortest-outside arc n left ends V.closed (only start) at k W);
      }

  module _ (k looks : ℕ) (L : AreLookedAt (leads_outside arc left) n (only start) ends k looks) where
    look-apart : IsApart n left L.places
    look-apart y l h = not_true (L.places y) (λ m. let (s, j, sl, st, jk, w) = L.near y l m in
        differ (walk-stays arc n left j s y w (not_true (left s) (λ c. differ (one-apart s sl c) st))) h)

    -- the places that were looked at, and what is left out, are no more than all
    pub found-few : looks + size_on left n ≤ n
    found-few = omega (arith, size-either left L.places n look-apart, L.size, size_on-bound (either left L.places) n)

    pub found-looks : (before : ℕ → Bool) (count : ℕ) → IsWithin n before left →
        size_on left n ≡ size_on before n + count → AreLookedAtInVain arc n starts ends before (looks + count)
    found-looks before count kept size =
        let new = since n before left kept in
        let old : (y : ℕ) → new y ≡ true → left y ≡ true = λ y h. both-first (left y) (not (before y)) h in
        record {
          places = either new L.places;
          size = omega (
            arith,
            size-either new L.places n (λ y l h. look-apart y l (old y h)),
            since-size n before left kept,
            size,
            L.size,
          );
          rooted = λ y l h. elim (either_cases (new y) (L.places y) h) [
            | inl c ↦ vain-rooted arc n starts ends left V y l (old y c)
            | inr m ↦ let (s, j, sl, st, jk, w) = L.near y l m in
                let (v, vl, vm, r) = from-outside arc n left (only start) y (s, sl, st, (j, w)) in
                (v, vl, one-within v vl vm, r)
          ];
          no_end = λ y l h e. elim (either_cases (new y) (L.places y) h) [
            | inl c ↦ V.closed.no_end y l (old y c) e
            | inr m ↦ L.no_end y l m e
          ];
          fresh = λ y l h. elim (either_cases (new y) (L.places y) h) [
            | inl c ↦ not-true (before y) (both-second (left y) (not (before y)) c)
            | inr m ↦ not_true (before y) (λ b. differ (look-apart y l (kept y l b)) m)
          ];
        }

  -- none is found, and what was reached is left out too
  module _ (X now : ℕ → Bool) (same : (y : ℕ) → y < n → now y ≡ either left X y)
      (D : IsClosed (leads_outside arc left) n (only start) ends X)
      (R : IsReachedSet (leads_outside arc left) n (only start) X) where
    abbrev grown : IsReachedInVain arc n starts ends (either left X)
    grown = vain-grown arc n left ends V.closed starts V.rooted (only start) X one-within one-apart D R

    pub left-vain : IsReachedInVain arc n starts ends now
    left-vain = record {
      closed = record {
        holds_starts = λ y l h. absurd (differ refl h);
        no_end = λ y l h. grown.closed.no_end y l (sym (same y l) ∙ h);
        follows = λ x y xl yl h a. same y yl ∙ grown.closed.follows x y xl yl (sym (same x xl) ∙ h) a;
      };
      rooted = λ y l h. let (s, sl, st, w) = grown.rooted y l (sym (same y l) ∙ h) in (
        s,
        sl,
        both_true (starts s) (now s) (both-first (starts s) (either left X s) st)
            (same s sl ∙ both-second (starts s) (either left X s) st),
        w,
      );
    }

    pub left-size : (looks : ℕ) → size_on X n ≡ looks → size_on now n ≡ size_on left n + looks
    left-size looks e = omega (
      arith,
      sum_on-same now (either left X) n (λ _. 1) same,
      vain-size arc n left ends V.closed starts V.rooted (only start) X one-within one-apart D R,
      e,
    )

    pub left-few : (looks : ℕ) → size_on X n ≡ looks → looks + size_on left n ≤ n
    left-few looks e = omega (arith, left-size looks e, size_on-bound now n)

    pub left-held : start < n → now start ≡ true
    left-held l = same start l ∙ either-second (left start) (X start)
        (D.holds_starts start l (eqb_from start start refl))

    pub left-grown : IsWithin n left now
    left-grown y l h = same y l ∙ either-first (left y) (X y) h

    pub left-looked : (before : ℕ → Bool) (count looks : ℕ) → IsWithin n before left →
        size_on left n ≡ size_on before n + count → size_on X n ≡ looks →
        AreLookedAtInVain arc n starts ends before (looks + count)
    left-looked before count looks kept size e =
        looked-vain n before now (λ y l h. left-grown y l (kept y l h)) arc starts ends (looks + count) left-vain
        (omega (arith, left-size looks e, size))

-- after the last start
module _ (arc : ℕ → ℕ → Bool) (n : ℕ) (starts ends left : ℕ → Bool) (V : IsReachedInVain arc n starts ends left)
    (held : (x : ℕ) → x < n → starts x ≡ true → left x ≡ true) where
  pub swept-closed : IsClosed arc n starts ends left
  swept-closed = record { holds_starts = held; no_end = V.closed.no_end; follows = V.closed.follows }

  pub swept-reached : IsReachedSet arc n starts left
  swept-reached y l = (
    vain-rooted arc n starts ends left V y l,
    λ (s, sl, st, r). follows-reaches arc n left V.closed.follows s y sl l (held s sl st) r,
  )

-- before the first one
pub nothing-left : (arc : ℕ → ℕ → Bool) (n : ℕ) (starts ends left : ℕ → Bool) →
    ((y : ℕ) → left y ≡ false) → IsLeftOut arc n starts ends left 0
nothing-left arc n starts ends left none = record {
  vain = record {
    closed = record {
      holds_starts = λ y l h. absurd (differ refl h);
      no_end = λ y l h e. differ (none y) h;
      follows = λ x y xl yl h a. absurd (differ (none x) h);
    };
    rooted = λ y l h. absurd (differ (none y) h);
  };
  passed = λ x l less h. absurd (omega (arith, less));
}
