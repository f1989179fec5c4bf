-- The steps of the loops of a search, over plain variables.
use Rattle.std.proofs.Common.{◌≡◌, ℕ, ◌+◌, ◌<◌, ◌≤◌, ◌≢◌, Bool, true, false, ◌⊎◌, inl, inr, refl, ap, sym, subst, ◌∙◌, arith}
use Rattle.residue_theory.proofs.SumLaws.{nat_cases}
use Rattle.residue_theory.proofs.SetLaws.{differ, eqb_from, eqb_true, lt_cases, not_true}
use Rattle.residue_theory.specs.Sets.{only}
use Rattle.search_laws.specs.Searches.{SearchState, IsSearch, IsPut, IsGrown, HasStarts, NoEndBefore, IsShortest}
use Rattle.search_laws.proofs.SearchLaws.{search-put, search-next, grown-put, grown-same, grown-join, grown-starts}
use Rattle.search_laws.proofs.SearchLaws.{grown-ends, ends-next, starts-put, trace-all}
use Rattle.exchange_graph.specs.Looks.{IsLookingFrom, IsStartingFrom}
use Rattle.exchange_graph.specs.Turns.{HasNextTurn, HaveHadTurns}

-- a place that waits stands behind the reached ones
pub waits-late : (arc : ℕ → ℕ → Bool) (n : ℕ) (s : SearchState) (head filled i y : ℕ) → IsSearch arc n s head filled →
    s.order i ≡ y → s.reached y ≡ false → filled ≤ i
waits-late arc n s head filled i y S q w = elim (lt_cases i filled) [
  | inl less ↦ absurd (differ (subst (λ v. s.reached v ≡ false) (sym q) w) (S.done i less))
  | inr ge ↦ ge
]

-- what was reached stays so
put-still : (s t : SearchState) (i filled x d y : ℕ) → IsPut s t i filled x d → s.reached y ≡ true → t.reached y ≡ true
put-still s t i filled x d y P h = elim (nat_cases y (s.order i)) [
  | inl q ↦ subst (λ v. t.reached v ≡ true) (sym q) P.reached_new
  | inr ne ↦ P.reached_same y ne ∙ h
]

pub looking-first : (arc : ℕ → ℕ → Bool) (turn : ℕ → ℕ → ℕ) (n : ℕ) (s : SearchState) (head filled place d : ℕ) →
    IsSearch arc n s head filled → head < filled → s.order head ≡ place → s.depth place ≡ d →
    IsLookingFrom arc turn n s s filled head filled 0 place (d + 1)
looking-first arc turn n s head filled place d S ahead q e = record {
  search = S;
  grown = grown-same arc n s filled;
  looks_at = q;
  deeper = ap (λ v. v + 1) e;
  more = ahead;
  first = omega arith;
  scanned = λ y yl l h. absurd (omega arith);
}

-- what has had its turn before the next one is reached
scanned-next : (test : ℕ → Bool) (turn : ℕ → ℕ) (n from to next : ℕ) (reached : ℕ → Bool) →
    HasNextTurn test turn n from to next → ((y : ℕ) → y < n → turn y < from → test y ≡ true → reached y ≡ true) →
    reached to ≡ true → (y : ℕ) → y < n → turn y < next → test y ≡ true → reached y ≡ true
scanned-next test turn n from to next reached N old here y yl l h = elim (N.others y yl h l) [
  | inl less ↦ old y yl less h
  | inr q ↦ subst (λ v. reached v ≡ true) (sym q) here
]

pub looking-skip : (arc : ℕ → ℕ → Bool) (turn : ℕ → ℕ → ℕ) (n : ℕ) (s₀ s : SearchState)
    (f₀ head filled from to next place depth : ℕ) → IsLookingFrom arc turn n s₀ s f₀ head filled from place depth →
    HasNextTurn (arc place) (turn place) n from to next → s.reached to ≡ true →
    IsLookingFrom arc turn n s₀ s f₀ head filled next place depth
looking-skip arc turn n s₀ s f₀ head filled from to next place depth L N here = record {
  search = L.search;
  grown = L.grown;
  looks_at = L.looks_at;
  deeper = L.deeper;
  more = L.more;
  first = L.first;
  scanned = scanned-next (arc place) (turn place) n from to next s.reached N L.scanned here;
}

pub looking-put : (arc : ℕ → ℕ → Bool) (turn : ℕ → ℕ → ℕ) (n : ℕ) (s₀ s t : SearchState)
    (f₀ head filled more i from to next place depth : ℕ) →
    IsLookingFrom arc turn n s₀ s f₀ head filled from place depth →
    HasNextTurn (arc place) (turn place) n from to next → i < n → s.order i ≡ to → s.reached to ≡ false →
    IsPut s t i filled place depth → more ≡ filled + 1 → IsLookingFrom arc turn n s₀ t f₀ head more next place depth
looking-put arc turn n s₀ s t f₀ head filled more i from to next place depth L N il q w P as_many =
    subst (λ m. IsLookingFrom arc turn n s₀ t f₀ head m next place depth) (sym as_many) (record {
      search = search-put arc n s t head filled i place depth S P late il above near small why;
      grown = grown-join arc n s₀ s t f₀ filled L.first L.grown
          (grown-put arc n s t head filled i place depth S P late il above near small why (omega (arith, L.deeper)));
      looks_at = P.order_same head (λ z. omega (arith, late, L.more)) (λ z. omega (arith, L.more)) ∙ L.looks_at;
      deeper = ap (λ v. v + 1) (P.depth_same place other) ∙ L.deeper;
      more = omega (arith, L.more);
      first = omega (arith, L.first);
      scanned = scanned-next (arc place) (turn place) n from to next t.reached N
          (λ y yl l h. put-still s t i filled place depth y P (L.scanned y yl l h))
          (subst (λ v. t.reached v ≡ true) q P.reached_new);
    })
  where
    S : IsSearch arc n s head filled
    S = L.search

    late : filled ≤ i
    late = waits-late arc n s head filled i to S q w

    at_head : s.depth (s.order head) + 1 ≡ depth
    at_head = ap (λ v. s.depth v + 1) L.looks_at ∙ L.deeper

    above : (j : ℕ) → j < filled → s.depth (s.order j) ≤ depth
    above j l = omega (arith, S.near j l L.more, at_head)

    near : head < filled → depth ≤ s.depth (s.order head) + 1
    near _ = omega (arith, at_head)

    small : depth ≤ filled
    small = omega (arith, at_head, S.shallow head L.more, L.more)

    known : s.reached place ≡ true
    known = subst (λ v. s.reached v ≡ true) L.looks_at (S.done head L.more)

    other : place ≢ s.order i
    other z = differ (subst (λ v. s.reached v ≡ false) (sym (z ∙ q)) w) known

    why : (depth ≡ 0) ⊎ ((place < n) × (s.reached place ≡ true) × (arc place (s.order i) ≡ true) × (depth ≡ s.depth place + 1))
    why = inr (
      subst (λ v. v < n) L.looks_at (S.below head (omega (arith, L.more, S.filled_le))),
      known,
      subst (λ v. arc place v ≡ true) (sym q) N.holds,
      sym L.deeper,
    )

pub looking-done : (arc : ℕ → ℕ → Bool) (turn : ℕ → ℕ → ℕ) (n : ℕ) (s₀ s : SearchState)
    (f₀ head filled from place depth : ℕ) → IsLookingFrom arc turn n s₀ s f₀ head filled from place depth →
    HaveHadTurns (arc place) (turn place) n from → IsSearch arc n s (head + 1) filled
looking-done arc turn n s₀ s f₀ head filled from place depth L all =
    search-next arc n s head filled L.search L.more
    (λ i g l. subst (λ v. arc v (s.order i) ≡ false) (sym L.looks_at) (not_true (arc place (s.order i)) (misses i g l)))
  where
    misses : (i : ℕ) → filled ≤ i → i < n → arc place (s.order i) ≡ true → ⊥
    misses i g l a = let below = L.search.below i l in
        differ (L.search.waiting i g l) (L.scanned (s.order i) below (all (s.order i) below a) a)

pub starting-first : (arc : ℕ → ℕ → Bool) (n : ℕ) (starts : ℕ → Bool) (s : SearchState) (filled : ℕ) → filled ≡ 0 →
    IsSearch arc n s 0 0 → ((y : ℕ) → y < n → s.reached y ≡ false) →
    IsStartingFrom arc n starts s filled 0
starting-first arc n starts s filled e S none = subst (λ m. IsStartingFrom arc n starts s m 0) (sym e) (record {
  search = S;
  from = λ y l h. absurd (differ (none y l) h);
  scanned = λ y l. absurd (omega arith);
  waiting = λ y _ l. none y l;
})

pub starting-put : (arc : ℕ → ℕ → Bool) (n : ℕ) (starts : ℕ → Bool) (s t : SearchState) (filled more k i x : ℕ) →
    IsStartingFrom arc n starts s filled i → i < n → k < n →
    s.order k ≡ i → starts i ≡ true → IsPut s t k filled x 0 → more ≡ filled + 1 → IsStartingFrom arc n starts t more (i + 1)
starting-put arc n starts s t filled more k i x B il kl q a P e = subst (λ m. IsStartingFrom arc n starts t m (i + 1)) (sym e) (record {
  search = search-put arc n s t 0 filled k x 0 B.search P late kl above (λ _. omega arith) (omega arith) (inl refl);
  from = starts-put arc n s t 0 filled k x 0 B.search P late kl above (λ _. omega arith) (omega arith) (inl refl) starts
      (subst (λ v. starts v ≡ true) (sym q) a) refl B.from;
  scanned = λ y l h. elim (nat_cases y i) [
    | inl here ↦ subst (λ v. t.reached v ≡ true) (q ∙ sym here) P.reached_new
    | inr ne ↦ put-still s t k filled x 0 y P (B.scanned y (omega arith) h)
  ];
  waiting = λ y g l. P.reached_same y (λ z. omega (arith, z, q)) ∙ B.waiting y (omega arith) l;
})
  where
    late : filled ≤ k
    late = waits-late arc n s 0 filled k i B.search q (B.waiting i (omega arith) il)

    above : (j : ℕ) → j < filled → s.depth (s.order j) ≤ 0
    above j l = omega (arith, (B.from (s.order j) (B.search.below j (omega (arith, B.search.filled_le))) (B.search.done j l)).0)

pub starting-skip : (arc : ℕ → ℕ → Bool) (n : ℕ) (starts : ℕ → Bool) (s : SearchState) (filled i : ℕ) →
    IsStartingFrom arc n starts s filled i → starts i ≡ false → IsStartingFrom arc n starts s filled (i + 1)
starting-skip arc n starts s filled i B misses = record {
  search = B.search;
  from = B.from;
  scanned = λ y l h. elim (nat_cases y i) [ inl q ↦ absurd (differ misses (subst (λ v. starts v ≡ true) q h)) | inr ne ↦ B.scanned y (omega arith) h ];
  waiting = λ y g l. B.waiting y (omega arith) l;
}

pub starting-done : (arc : ℕ → ℕ → Bool) (n : ℕ) (starts : ℕ → Bool) (s : SearchState) (filled i : ℕ) →
    IsStartingFrom arc n starts s filled i → n ≤ i → HasStarts n starts s
starting-done arc n starts s filled i B all = record {
  reached = λ y l h. B.scanned y (omega arith) h;
  depth = λ y l h. (B.from y l (B.scanned y (omega arith) h)).0;
  only = λ y l h z. (B.from y l h).1;
}

-- one place alone is reached
pub started-at : (arc : ℕ → ℕ → Bool) (n : ℕ) (s t : SearchState) (filled more i x : ℕ) → IsSearch arc n s 0 0 →
    filled ≡ 0 → more ≡ filled + 1 → i < n → IsPut s t i filled x 0 → IsSearch arc n t 0 more
started-at arc n s t filled more i x S none e il P =
    subst (λ m. IsSearch arc n t 0 m) (sym (e ∙ ap (λ m. m + 1) none))
    (search-put arc n s t 0 0 i x 0 S (subst (λ m. IsPut s t i m x 0) none P) (omega arith) il
    (λ j l. absurd (omega arith)) (λ l. omega arith) (omega arith) (inl refl))

pub started-starts : (n : ℕ) (s t : SearchState) (filled i x : ℕ) → s.order i ≡ x →
    ((y : ℕ) → y < n → s.reached y ≡ false) → IsPut s t i filled x 0 → HasStarts n (only x) t
started-starts n s t filled i x q none P = record {
  reached = λ y l h. subst (λ v. t.reached v ≡ true) (q ∙ sym (eqb_true y x h)) P.reached_new;
  depth = λ y l h. subst (λ v. t.depth v ≡ 0) (q ∙ sym (eqb_true y x h)) P.depth_new;
  only = λ y l h _. elim (nat_cases y (s.order i)) [
    | inl e ↦ eqb_from y x (e ∙ q)
    | inr ne ↦ absurd (differ (none y l) (sym (P.reached_same y ne) ∙ h))
  ];
}

-- a look keeps what was known of the starts
pub looked-starts : (n : ℕ) (starts : ℕ → Bool) (s t : SearchState) (filled : ℕ) → IsGrown n s t filled → HasStarts n starts s → HasStarts n starts t
looked-starts n starts s t filled G H = grown-starts (λ _ _. false) n s t filled starts G H

-- a look at a place that is no end
pub looked-ends : (arc : ℕ → ℕ → Bool) (n : ℕ) (ends : ℕ → Bool) (s t : SearchState) (head filled place : ℕ) →
    IsSearch arc n s head filled → head < filled → IsGrown n s t filled → NoEndBefore ends s head →
    s.order head ≡ place → ends place ≡ false → NoEndBefore ends t (head + 1)
looked-ends arc n ends s t head filled place S more G N q misses =
    grown-ends arc n s t filled (head + 1) ends (omega arith) G
    (ends-next arc n s head ends N (subst (λ v. ends v ≡ false) (sym q) misses))

-- the next place is less deep than there are places
pub depth-below : (arc : ℕ → ℕ → Bool) (n : ℕ) (s : SearchState) (head filled place d : ℕ) → IsSearch arc n s head filled →
    head < filled → s.order head ≡ place → s.depth place ≡ d → d < n
depth-below arc n s head filled place d S more q e = omega (arith, S.filled_le, S.shallow head more, ap s.depth q)

-- the walk that was written down is a shortest one
pub found-shortest : (arc : ℕ → ℕ → Bool) (n : ℕ) (starts ends : ℕ → Bool) (s : SearchState) (head filled place d : ℕ)
    (at : ℕ → ℕ) → IsSearch arc n s head filled → HasStarts n starts s → NoEndBefore ends s head →
    head < filled → s.order head ≡ place → s.depth place ≡ d → ends place ≡ true → at d ≡ place →
    ((i : ℕ) → i < d → at i ≡ s.before (at (i + 1))) → IsShortest arc n starts ends at d
found-shortest arc n starts ends s head filled place d at S F N more q e h last back =
    trace-all arc n starts ends s head filled S F N more (subst (λ v. ends v ≡ true) (sym q) h) at d (ap s.depth q ∙ e) (last ∙ sym q) back
