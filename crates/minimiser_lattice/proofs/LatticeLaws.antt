-- What components, their marks, their listing and their covers tell are the parts of the arcs.
use Rattle.std.proofs.Common.{◌≡◌, ℕ, ◌<◌, Bool, true, false, ◌&&◌, not, nat_lt, ◌⊎◌, inl, inr, ap, sym, subst, ◌∙◌, arith}
use Rattle.std.specs.Prelude.{◌↔◌}
use Rattle.std.proofs.lemmas.Bool.Decides.{nat_tests}
use Rattle.residue_theory.proofs.SetLaws.{differ, both_true, both-first, both-second, not_true}
use Rattle.closed_sets.specs.Walks.{Reaches, FromSome, ToSome}
use Rattle.closed_sets.specs.Closed.{IsMiddle, IsReachedSet, NoEndReached}
use Rattle.closed_sets.specs.Tables.{Tells}
use Rattle.closed_sets.specs.Blocks.{IsListing, IsBelow}
use Rattle.closed_sets.specs.Orders.{IsCover}
use Rattle.closed_sets.specs.Rules.{KeepsPlaceRules}
use Rattle.closed_sets.proofs.SetLaws.{test_cases, not-true, not-make}
use Rattle.closed_sets.proofs.WalkLaws.{from-reaches, reaches-to}
use Rattle.closed_sets.proofs.BlockOrder.{parts-keep}
use Rattle.minimiser_lattice.specs.Paths.{IsQuotient}
use Rattle.minimiser_lattice.specs.Listings.{HasPlaces, AreMarkedTails, of_neither, reached_table}
use Rattle.minimiser_lattice.specs.Covers.{AreListedCovers}
use Rattle.minimiser_lattice.specs.Parts.{PlaceParts, IsLattice}
use Rattle.minimiser_lattice.specs.Views.{parts_from}
use Rattle.minimiser_lattice.proofs.ListingLaws.{leads-same, leads-strict, leads-cases, leads-both}

module _ (arc : ℕ → ℕ → Bool) (n : ℕ) (starts ends : ℕ → Bool) (number : ℕ → ℕ) (count : ℕ) (strict : ℕ → ℕ → Bool)
    (Q : IsQuotient arc n number count strict) (first last : ℕ → Bool)
    (K : AreMarkedTails n number count strict starts ends first last) where
  leads-reaches : (x y : ℕ) → x < n → y < n → reached_table strict number x y ≡ true → Reaches arc n x y
  leads-reaches x y xl yl h = elim (leads-cases strict (number x) (number y) h) [ inl q ↦ Q.same x y xl yl q | inr s ↦ Q.tells x y xl yl s ]

  reaches-leads : (x y : ℕ) → x < n → y < n → Reaches arc n x y → reached_table strict number x y ≡ true
  reaches-leads x y xl yl r =
      elim (Q.made x y xl yl r)
      [ inl q ↦ leads-same strict (number x) (number y) (sym q) | inr s ↦ leads-strict strict (number x) (number y) s ]

  below : (x : ℕ) → x < n → number x < count
  below = Q.numbering.below

  pub first-set : IsReachedSet arc n starts (λ x. first (number x))
  first-set y yl = (to, from)
    where
      to : first (number y) ≡ true → FromSome arc n starts y
      to h = let s = K.first_tail.some (number y) (below y yl) h in (s.0, s.1, s.2, leads-reaches s.0 y s.1 yl s.3)

      from : FromSome arc n starts y → first (number y) ≡ true
      from (s, sl, sh, r) = go (test_cases (first (number y)))
        where
          go : (first (number y) ≡ true) ⊎ (first (number y) ≡ false) → first (number y) ≡ true
          go (inl t) = t
          go (inr f) = absurd (differ (K.first_tail.none (number y) s (below y yl) f sl sh) (reaches-leads s y sl yl r))

  pub last-set : (x : ℕ) → x < n → (last (number x) ≡ true ↔ ToSome arc n ends x)
  last-set x xl = (to, from)
    where
      to : last (number x) ≡ true → ToSome arc n ends x
      to h = let e = K.last_tail.some (number x) (below x xl) h in (e.0, e.1, e.2, leads-reaches x e.0 xl e.1 e.3)

      from : ToSome arc n ends x → last (number x) ≡ true
      from (e, el, eh, r) = go (test_cases (last (number x)))
        where
          go : (last (number x) ≡ true) ⊎ (last (number x) ≡ false) → last (number x) ≡ true
          go (inl t) = t
          go (inr f) = absurd (differ (K.last_tail.none (number x) e (below x xl) f el eh) (reaches-leads x e xl el r))

  pub middle-tells : Tells arc n starts ends (reached_table strict number) (λ x. of_neither first last (number x))
  middle-tells = record {
    reaches = leads-reaches;
    reached = reaches-leads;
    middle = λ x l h. (
      l,
      (λ f. differ (not-true (first (number x)) (both-first (not (first (number x))) (not (last (number x))) h))
          ((first-set x l).1 f)),
      λ t. differ (not-true (last (number x)) (both-second (not (first (number x))) (not (last (number x))) h))
          ((last-set x l).1 t),
    );
    in_middle = λ x m. both_true (not (first (number x))) (not (last (number x)))
        (not-make (first (number x)) (not_true (first (number x)) (λ h. m.1 ((first-set x m.0).0 h))))
        (not-make (last (number x)) (not_true (last (number x)) (λ h. m.2 ((last-set x m.0).0 h))));
  }

  module _ (rank listed : ℕ → ℕ) (b : ℕ) (S : IsListing arc n starts ends (λ x. rank (number x)) b)
      (H : HasPlaces count (of_neither first last) rank listed b) (table : ℕ → ℕ → Bool)
      (C : AreListedCovers n strict listed b table) where
    abbrev lower : ℕ → ℕ → Bool
    lower k l = strict (listed l) (listed k)

    listed_small : (j : ℕ) → j < b → listed j < n
    listed_small j l = omega (arith, H.below j l, Q.numbering.fits)

    -- a place of each block
    of_block : (j : ℕ) → j < b → (z : ℕ) × IsMiddle arc n starts ends z × (number z ≡ listed j)
    of_block j l =
        let m = Q.numbering.member (listed j) (H.below j l) in
        (m.0, middle-tells.middle m.0 m.1 (ap (of_neither first last) m.2 ∙ H.of_middle j l), m.2)

    listed_is : (x : ℕ) → IsMiddle arc n starts ends x → listed (rank (number x)) ≡ number x
    listed_is x m =
        let j = S.below_b x m in
        let z = of_block (rank (number x)) j in
        let u = S.shared z.0 x z.1 m (ap rank z.2 ∙ H.ranks (rank (number x)) j) in
        sym z.2 ∙ leads-both n number count strict Q.numbering z.0 x z.1.0 m.0
        (reaches-leads z.0 x z.1.0 m.0 u.0) (reaches-leads x z.0 m.0 z.1.0 u.1)

    pub blocks-below : IsBelow arc n starts ends (λ x. rank (number x)) b lower
    blocks-below = record {
      apart = λ k l kb lb h q. omega (arith, ap listed q, Q.numbering.falls (listed l) (listed k) (H.below l lb) (listed_small k kb) h);
      tells = λ x y mx my h. Q.tells x y mx.0 my.0
          (subst (λ v. strict v (number y) ≡ true) (listed_is x mx)
          (subst (λ v. strict (listed (rank (number x))) v ≡ true) (listed_is y my) h));
      made = λ x y mx my r ne. elim (Q.made x y mx.0 my.0 r) [
        | inl q ↦ absurd (ne (ap rank q))
        | inr s ↦ subst (λ v. strict v (listed (rank (number y))) ≡ true) (sym (listed_is x mx))
            (subst (λ v. strict (number x) v ≡ true) (sym (listed_is y my)) s)
      ];
    }

    abbrev covers : ℕ → ℕ → Bool
    covers l k = (nat_lt k b && nat_lt l b) && table l k

    lt_test : (k m : ℕ) → k < m → nat_lt k m ≡ true
    lt_test k m l = grind (arith, nat_tests)

    test_lt : (k m : ℕ) → nat_lt k m ≡ true → k < m
    test_lt k m h = grind (arith, nat_tests)

    set : (l k : ℕ) → covers l k ≡ true → table l k ≡ true
    set l k h = both-second (nat_lt k b && nat_lt l b) (table l k) h

    pub covers-within : (k l : ℕ) → covers l k ≡ true → (k < b) × (l < b)
    covers-within k l h =
        let e = both-first (nat_lt k b && nat_lt l b) (table l k) h in
        (test_lt k b (both-first (nat_lt k b) (nat_lt l b) e), test_lt l b (both-second (nat_lt k b) (nat_lt l b) e))

    -- a component between two of the middle is of the middle, so a block stands between
    block_between : (k l m : ℕ) → k < b → l < b → m < n → m < count → strict (listed l) m ≡ true →
        strict m (listed k) ≡ true → (j : ℕ) × (j < b) × (listed j ≡ m)
    block_between k l m kb lb mn mc s t =
        let x = of_block l lb in
        let y = of_block k kb in
        let z = Q.numbering.member m mc in
        let xz : Reaches arc n x.0 z.0 =
        Q.tells x.0 z.0 x.1.0 z.1
        (subst (λ v. strict v (number z.0) ≡ true) (sym x.2)
        (subst (λ v. strict (listed l) v ≡ true) (sym z.2) s)) in
        let zy : Reaches arc n z.0 y.0 =
        Q.tells z.0 y.0 z.1 y.1.0
        (subst (λ v. strict v (number y.0) ≡ true) (sym z.2) (subst (λ v. strict m v ≡ true) (sym y.2) t)) in
        let mz : IsMiddle arc n starts ends z.0 = (
          z.1,
          (λ f. y.1.1 (from-reaches arc n starts z.0 y.0 f zy)),
          λ e. x.1.2 (reaches-to arc n ends x.0 z.0 xz e),
        ) in
        (rank (number z.0), S.below_b z.0 mz, listed_is z.0 mz ∙ z.2)

    pub blocks-cover : IsCover lower b covers
    blocks-cover = record {
      is_below = λ k l kb lb h. (C l lb).leads k kb (set l k h);
      none_between = λ k m l kb mb lb h km ml. (C l lb).none k kb (set l k h) (listed m) (listed_small m mb) ml km;
      all = λ k l kb lb h none. both_true (nat_lt k b && nat_lt l b) (table l k)
          (both_true (nat_lt k b) (nat_lt l b) (lt_test k b kb) (lt_test l b lb))
          ((C l lb).all k kb h (λ m mn s t.
          let less = Q.numbering.falls (listed l) m (H.below l lb) mn s in
          let j = block_between k l m kb lb mn (omega (arith, less, H.below l lb)) s t in
          none j.0 j.1 (subst (λ v. strict v (listed k) ≡ true) (sym j.2) t)
          (subst (λ v. strict (listed l) v ≡ true) (sym j.2) s)));
    }

    pub lattice-is : IsLattice arc n starts ends (parts_from n number first last rank listed b strict table)
    lattice-is = record {
      parts = record { first = first-set; last = last-set; listing = S };
      order = blocks-below;
      covers = blocks-cover;
      within = covers-within;
    }

-- the parts, with the covers of their order, keep the rules of printed parts
pub lattice-keeps : (arc : ℕ → ℕ → Bool) (n : ℕ) (starts ends : ℕ → Bool) (v : PlaceParts) →
    NoEndReached arc n starts ends → IsLattice arc n starts ends v →
    KeepsPlaceRules arc n starts ends v.first v.last v.block v.blocks v.covers
lattice-keeps arc n starts ends v clear L =
    parts-keep arc n starts ends v.block v.blocks L.parts.listing v.below L.order v.first v.last clear L.parts.first
    (λ x l. (L.parts.last x l).0) (λ x l. (L.parts.last x l).1) v.covers L.covers L.within

-- how the code reads a cover
pub cover_read : (k l b : ℕ) → k < b → l < b → (t r : Bool) → r ≡ t → r ≡ ((nat_lt k b && nat_lt l b) && t)
cover_read k l b kb lb t r q = grind (arith, nat_tests)
