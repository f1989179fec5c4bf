-- The places that a search looked at before it came to an end.
use Rattle.std.proofs.Common.{◌≡◌, ℕ, zero, suc, ◌+◌, ◌<◌, ◌≤◌, Bool, true, false, not, inl, inr, refl, ap, sym, subst, ◌∙◌, arith}
use Rattle.residue_theory.specs.Sets.{nothing, with_one}
use Rattle.residue_theory.specs.Sums.{size_on}
use Rattle.residue_theory.proofs.CountLaws.{size-zero, sum-with_one}
use Rattle.residue_theory.proofs.SetLaws.{differ, not_true, with_one-member, with_one-new, with_one-other}
use Rattle.residue_theory.proofs.SumLaws.{nat_cases}
use Rattle.closed_sets.specs.Walks.{Walk}
use Rattle.search_laws.specs.Searches.{SearchState, IsSearch, HasStarts, NoEndBefore}
use Rattle.search_laws.proofs.SearchLaws.{search-least}
use Rattle.exchange_graph.specs.Counts.{AreLookedAt, IsWithinReach, counted_on}

-- the first h places of the order
abbrev first_places : (ℕ → ℕ) → ℕ → ℕ → Bool
first_places order zero = nothing
first_places order (suc h) = with_one (first_places order h) (order h)

first-from : (order : ℕ → ℕ) (h y : ℕ) → first_places order h y ≡ true → (j : ℕ) × (j < h) × (order j ≡ y)
first-from order zero y e = absurd (differ refl e)
first-from order (suc h) y e = elim (nat_cases y (order h)) [
  | inl q ↦ (h, omega arith, sym q)
  | inr ne ↦ let f = first-from order h y (with_one-other (first_places order h) (order h) y e ne) in (f.0, omega (arith, f.1), f.2)
]

first-holds : (order : ℕ → ℕ) (h j : ℕ) → j < h → first_places order h (order j) ≡ true
first-holds order zero j l = absurd (omega arith)
first-holds order (suc h) j l = elim (nat_cases j h) [
  | inl q ↦ subst (λ v. first_places order (suc h) (order v) ≡ true) (sym q) (with_one-new (first_places order h) (order h))
  | inr ne ↦ with_one-member (first_places order h) (order h) (order j) (first-holds order h j (omega arith))
]

first-size : (order : ℕ → ℕ) (n h : ℕ) → h ≤ n → ((i : ℕ) → i < n → order i < n) →
    ((i j : ℕ) → i < n → j < n → order i ≡ order j → i ≡ j) → size_on (first_places order h) n ≡ h
first-size order n zero le below distinct = size-zero nothing n (λ _ _. refl)
first-size order n (suc h) le below distinct =
    let waits : first_places order h (order h) ≡ false = not_true (first_places order h (order h)) (λ e. let f = first-from order h (order h) e in
    let same : f.0 ≡ h = distinct f.0 h (omega (arith, f.1)) (omega arith) f.2 in omega (arith, f.1, same)) in
    let more : size_on (first_places order (suc h)) n ≡ size_on (first_places order h) n + 1 =
    sum-with_one (first_places order h) n (order h) (λ _. 1) (below h (omega arith)) waits in
    omega (arith, more, first-size order n h (omega arith) below distinct)

module _ (arc : ℕ → ℕ → Bool) (n : ℕ) (starts ends : ℕ → Bool) (s : SearchState) (head filled : ℕ)
    (S : IsSearch arc n s head filled) (F : HasStarts n starts s) (N : NoEndBefore ends s head) where
  -- a reached place is as many arcs away as it is deep
  deep : (d y : ℕ) → y < n → s.reached y ≡ true → s.depth y ≡ d → (v : ℕ) × (v < n) × (starts v ≡ true) × Walk arc n v y d
  deep zero y yl h e = elim (S.origin y yl h) [ inl z ↦ (y, yl, F.only y yl h z, refl) | inr led ↦ absurd (omega (arith, led.deeper)) ]
  deep (suc d) y yl h e = elim (S.origin y yl h) [
    | inl z ↦ absurd (omega arith)
    | inr led ↦ let w = deep d (s.before y) led.below led.reached (omega (arith, led.deeper)) in (w.0, w.1, w.2, (s.before y, led.below, w.3, led.along))
  ]

  near : head < filled → (y : ℕ) → first_places s.order head y ≡ true → y < n → IsWithinReach arc n starts (s.depth (s.order head)) y
  near more y h yl =
      let f = first-from s.order head y h in
      let w = deep (s.depth y) y yl (subst (λ v. s.reached v ≡ true) f.2 (S.done f.0 (omega (arith, f.1)))) refl in
      (w.0, s.depth y, w.1, w.2, subst (λ v. s.depth v ≤ s.depth (s.order head)) f.2 (S.rising f.0 head (omega (arith, f.1)) more), w.3)

  -- what is not looked at would be an end as near as the next place
  nearer : head < filled → (v m y : ℕ) → v < n → starts v ≡ true → m < s.depth (s.order head) → y < n → Walk arc n v y m → first_places s.order head y ≡ true
  nearer more v m y vl vs less yl w = go (first_places s.order head y) refl
    where
      go : (b : Bool) → first_places s.order head y ≡ b → first_places s.order head y ≡ true
      go true e = e
      go false e = absurd (omega (
        arith,
        less,
        search-least arc n starts (λ z. not (first_places s.order head z)) s head filled S F
            (λ j l out. differ (ap not (first-holds s.order head j l)) out) more v y m vl yl vs (ap not e) w,
      ))

  pub looked-at : (place d : ℕ) → head < filled → s.order head ≡ place → s.depth place ≡ d → AreLookedAt arc n starts ends d head
  looked-at place d more q e = subst (λ k. AreLookedAt arc n starts ends k head) (ap s.depth q ∙ e) (record {
    places = first_places s.order head;
    size = first-size s.order n head (omega (arith, S.head_le, S.filled_le)) S.below S.distinct;
    near = λ y yl h. near more y h yl;
    no_end = λ y yl h out. let f = first-from s.order head y h in N f.0 f.1 (subst (λ v. ends v ≡ true) (sym f.2) out);
    nearer = nearer more;
  })

-- one more look
pub counted-more : (first count now h : ℕ) → count ≡ counted_on first h → now ≡ counted_on count 1 → now ≡ counted_on first (h + 1)
counted-more first count now h e q = omega arith
