-- The steps of a loop that keeps the equations which may join.
use Rattle.std.proofs.Common.{◌≡◌, ◌≢◌, ℕ, suc, ◌+◌, ◌-◌, ◌%◌, ◌<◌, ◌≤◌, Bool, true, false, ◌&&◌, ◌||◌, not, eqb, ltb}
use Rattle.std.proofs.Common.{◌⊎◌, inl, inr, refl, ap, sym, subst, ◌∙◌, arith}
use Rattle.std.proofs.Math.Nat.{zero-mod}
use Rattle.residue_theory.proofs.ResidueLaws.{one_non_zero}
use Rattle.residue_theory.proofs.SetLaws.{both-first, both-second, both_true, differ, eqb_from, eqb_true, not_true}
use Rattle.residue_theory.proofs.SetLaws.{with_one-member, with_one-new}
use Rattle.residue_theory.proofs.SumLaws.{nat_cases}
use Rattle.residue_theory.specs.Residues.{IsPrime}
use Rattle.residue_theory.specs.Sets.{both, nothing, only, with_one}
use Rattle.residue_theory.specs.Sums.{size_on}
use Rattle.linear_algebra.specs.Bases.{IsBase}
use Rattle.linear_algebra.specs.Products.{Agree, identity, product}
use Rattle.linear_algebra_laws.proofs.Entries.{identity-other, identity-same}
use Rattle.closed_sets.specs.Closed.{IsReachedSet, NoEndReached}
use Rattle.closed_sets.specs.Walks.{FromSome}
use Rattle.search_laws.specs.Searches.{IsShortest}
use Rattle.mixed_matrices.specs.LayeredMatrices.{LayeredMatrix}
use Rattle.mixed_matrices.specs.Layerings.{IsLayering, Origins}
use Rattle.mixed_matrices.specs.Models.{MixedMatrix}
use Rattle.mixed_matrices.specs.Tableaus.{HasTableau, IsTableau, Tableau}
use Rattle.mixed_layering_laws.proofs.Members.{member-at, member-index, members-distinct}
use Rattle.mixed_augmentation_laws.proofs.Moves.{matching-linked, matching-unlinked}
use Rattle.mixed_augmentation_laws.specs.Moves.{IsRoute, IsUnlinked, Route, TakesMate}
use Rattle.row_choice_laws.proofs.OwnTableaus.{more-test, outer, outer-no_base, outer-no_match, same-test}
use Rattle.row_choice_laws.proofs.RowPlaces.{bare-or_column, bare-tells, column-not_bare, column-q, column-t, q-column}
use Rattle.row_choice_laws.proofs.RowPlaces.{q-equation, row-cases, row-q, row-t, t-column, t-equation}
use Rattle.row_choice_laws.proofs.WalksBack.{begins-at, first-has_column, first-row, first-t_row, others-same}
use Rattle.row_choice_laws.specs.Growth.{AreColumnsAlong, HasQRow, HasTRow, IsRowStage, route_back}
use Rattle.row_choice_laws.specs.RowSearches.{IsJoining, IsOnRowsOf, AreRowsReachedInVain, bare_of, origin_of_row}
use Rattle.row_choice_laws.specs.RowSearches.{is_column_of}
use Rattle.row_choice_laws.specs.RowSearches.{is_bare_row, is_open, is_row_of, places, row_leads}
use Rattle.row_choice_laws.specs.States.{KeepsEquations, IsSameOutside, LeavesZeroColumns}

pub nothing-kept : (p : ℕ) → IsPrime p → (L : LayeredMatrix) (O : Origins) (S : ℕ → ℕ → ℕ) (F : Tableau) →
    Agree p L.q_rows L.q_rows S identity → ((y : ℕ) → y < L.columns → F.base y ≡ false) →
    ((y : ℕ) → y < L.columns → F.matched y ≡ false) → KeepsEquations p L O S F nothing
nothing-kept p prime L O S F same no_base no_match = record {
  on = record {
    base = λ b bl h. absurd (differ (no_base b bl) h);
    matched = λ j jl h. absurd (differ (no_match j jl) h);
    made = λ i k il kl h. absurd (differ refl h);
  };
  used = λ r rl h. absurd (differ refl h);
  alone = λ i k il kl _ ne. same i k il kl ∙ ap (λ x. x % p) (identity-other i k ne) ∙ zero-mod p;
  own = λ k kl _ z. one_non_zero p prime (identity k k) (identity-same k) (sym (same k k kl kl) ∙ z);
}

older : (a b : Bool) → a || b ≡ true → b ≡ false → a ≡ true
older a b h k = grind arith

-- what is outside K with f is outside K
outside-old : (K : ℕ → Bool) (f e : ℕ) → with_one K f e ≡ false → K e ≡ false
outside-old K f e h = at (K e) (eqb e f) h
  where
    at : (a b : Bool) → a || b ≡ false → a ≡ false
    at a b h = grind arith

module _ (p : ℕ) (M : MixedMatrix) (A D : ℕ → Bool) (L : LayeredMatrix) (O : Origins) (lay : IsLayering M A D L O)
    (S : ℕ → ℕ → ℕ) (F : Tableau) (K : ℕ → Bool) (f : ℕ) (kept : KeepsEquations p L O S F K) (new : K f ≡ false) where
  made-joined : (i k : ℕ) → i < L.q_rows → k < L.q_rows → with_one K f (O.of_q i) ≡ true → with_one K f (O.of_q k) ≡ false → S i k % p ≡ 0
  made-joined i k il kl h g = kept.alone i k il kl (outside-old K f (O.of_q k) g) (λ q. differ (subst (λ x. with_one K f (O.of_q x) ≡ false) (sym q) g) h)

  pub own-bare : (i : ℕ) → i < L.q_rows → O.of_q i ≡ f → is_bare_row L F i ≡ true
  own-bare i il q = elim (bare-or_column p L F i) [
    | inl b ↦ b
    | inr (y, yl, c) ↦ let (b, e) = column-q p L F i y il c in
        absurd (differ new (subst (λ x. K x ≡ true) q (subst (λ x. K (O.of_q x) ≡ true) e (kept.on.base y yl b))))
  ]

  pub t-bare : (t : ℕ) → O.of_t t ≡ f → is_bare_row L F (L.q_rows + t) ≡ true
  t-bare t q = elim (bare-or_column p L F (L.q_rows + t)) [
    | inl b ↦ b
    | inr (y, yl, c) ↦ let (m, e) = column-t p L F t y c in
        absurd (differ new (subst (λ x. K x ≡ true) q (subst (λ x. K (O.of_t x) ≡ true) e (kept.on.matched y yl m))))
  ]

  own-entry : (i : ℕ) → i < L.q_rows → O.of_q i ≡ f → S i i % p ≢ 0
  own-entry i il q = kept.own i il (subst (λ x. K x ≡ false) (sym q) new)

  pub one-row-joins : both A D f ≡ false → IsJoining p M A L O S F K f
  one-row-joins single = record {
    on = record {
      base = λ b bl h. with_one-member K f (O.of_q (F.row b)) (kept.on.base b bl h);
      matched = λ j jl h. with_one-member K f (O.of_t (F.mate j)) (kept.on.matched j jl h);
      made = made-joined;
    };
    used = kept.used;
    own = λ i il q. (own-bare i il q, own-entry i il q);
    single = λ t tl q _. t-bare t q;
    split = λ t k tl kl _ q. absurd (differ single (subst (λ x. both A D x ≡ true) q (lay.auxiliary.member k kl)));
  }

  -- ---- a split equation
  module _ (U : ℕ → ℕ → ℕ) (G : Tableau) (tab : IsTableau p L S U F) (t k : ℕ) (tl : t < L.t_rows) (kl : k < O.split)
      (of_t : O.of_t t ≡ f) (of_z : O.of_z k ≡ f) (move : TakesMate L F G t (M.columns + k)) where
    is-outer : outer p M A D L O lay S U F tab K kept.on (M.columns + k) ≡ true
    is-outer = two (ltb (M.columns + k) M.columns) (K (O.of_z (M.columns + k - M.columns))) (more-test (M.columns + k) M.columns (omega arith))
        (subst (λ x. K (O.of_z x) ≡ false) (let e : k ≡ M.columns + k - M.columns = omega arith in e) (subst (λ x. K x ≡ false) (sym of_z) new))
      where
        two : (a b : Bool) → a ≡ false → b ≡ false → not a && not b ≡ true
        two a b h g = grind arith

    c-below : M.columns + k < L.columns
    c-below = omega (arith, lay.columns, kl)

    pub not-base : F.base (M.columns + k) ≡ true → ⊥
    not-base = outer-no_base p M A D L O lay S U F tab K kept.on (M.columns + k) c-below is-outer

    pub not-matched : F.matched (M.columns + k) ≡ true → ⊥
    not-matched = outer-no_match p M A D L O lay S U F tab K kept.on (M.columns + k) c-below is-outer

    base_is : (y : ℕ) → G.base y ≡ F.base y
    base_is y = ap (λ b. b y) move.same_base

    row_is : (y : ℕ) → G.row y ≡ F.row y
    row_is y = ap (λ b. b y) move.same_rows

    pub joined-tableau : IsTableau p L S U G
    joined-tableau = record {
      inverse = tab.inverse;
      product = subst (λ a. Agree p L.q_rows L.columns a (product L.q_rows S L.q)) (sym move.entries) tab.product;
      base = subst (λ a. IsBase p a L.q_rows L.columns G.base G.row) (sym move.entries)
          (subst (λ b. IsBase p F.P L.q_rows L.columns b G.row) (sym move.same_base)
          (subst (λ r. IsBase p F.P L.q_rows L.columns F.base r) (sym move.same_rows) tab.base));
      matching = matching-linked L F G t (M.columns + k) tab.matching move.linked tl
          (lay.t_auxiliary t k tl kl ∙ same-test (O.of_t t) (O.of_z k) (of_t ∙ sym of_z))
          (λ y yl m e. differ new (subst (λ x. K x ≡ true) of_t (subst (λ x. K (O.of_t x) ≡ true) e (kept.on.matched y yl m))));
      apart = λ y yl h. apart y yl (sym (base_is y) ∙ h) (nat_cases y (M.columns + k));
    }
      where
        apart : (y : ℕ) → y < L.columns → F.base y ≡ true → (y ≡ M.columns + k) ⊎ (y ≢ M.columns + k) → G.matched y ≡ false
        apart y yl h (inl q) = absurd (not-base (subst (λ x. F.base x ≡ true) q h))
        apart y yl h (inr ne) = move.linked.tests y yl ne ∙ tab.apart y yl h

    -- a row that had a column has it
    column-stays : (r y : ℕ) → r < places L → y < L.columns → is_column_of L F r y ≡ true → is_column_of L G r y ≡ true
    column-stays r y rl yl h = at (row-cases L r rl)
      where
        at : (r < L.q_rows) ⊎ ((t : ℕ) × (t < L.t_rows) × (r ≡ L.q_rows + t)) → is_column_of L G r y ≡ true
        at (inl ql) = let (b, e) = column-q p L F r y ql h in q-column p L G r y ql (base_is y ∙ b) (row_is y ∙ e)
        at (inr (u, ul, q)) = let (m, e) = column-t p L F u y (subst (λ x. is_column_of L F x y ≡ true) q h) in
            let ne : y ≢ M.columns + k = (λ g. not-matched (subst (λ x. F.matched x ≡ true) g m)) in
            subst (λ x. is_column_of L G x y ≡ true) (sym q) (t-column p L G u y (move.linked.tests y yl ne ∙ m) (move.linked.mates y yl ne ∙ e))

    pub split-joins : IsJoining p M A L O S G K f
    split-joins = record {
      on = record {
        base = λ b bl h. with_one-member K f (O.of_q (G.row b)) (subst (λ x. K (O.of_q x) ≡ true) (sym (row_is b)) (kept.on.base b bl (sym (base_is b) ∙ h)));
        matched = λ j jl h. matched j jl h (nat_cases j (M.columns + k));
        made = made-joined;
      };
      used = λ r rl h. elim (bare-or_column p L F r) [
        | inl b ↦ absurd (differ (kept.used r rl h) b)
        | inr (y, yl, g) ↦ column-not_bare p L G r y yl (column-stays r y rl yl g)
      ];
      own = λ i il q. (bare i il q, own-entry i il q);
      single = λ u ul q a. absurd (differ a (both-first (A f) (D f) (subst (λ x. both A D x ≡ true) of_z (lay.auxiliary.member k kl))));
      split = λ u l ul ll q g. let e : t ≡ u = members-distinct D M.rows O.of_t L.t_rows lay.t_rows t u tl ul (of_t ∙ sym q) in
          let h : k ≡ l = members-distinct (both A D) M.rows O.of_z O.split lay.auxiliary k l kl ll (of_z ∙ sym g) in
          (subst (λ x. G.matched (M.columns + x) ≡ true) h move.linked.member, subst (λ x. G.mate (M.columns + x) ≡ u) h (move.linked.partner ∙ e));
    }
      where
        matched : (j : ℕ) → j < L.columns → G.matched j ≡ true → (j ≡ M.columns + k) ⊎ (j ≢ M.columns + k) → with_one K f (O.of_t (G.mate j)) ≡ true
        matched j jl h (inl q) = subst (λ x. with_one K f x ≡ true) (sym (ap (λ x. O.of_t (G.mate x)) q ∙ ap O.of_t move.linked.partner ∙ of_t))
            (with_one-new K f)
        matched j jl h (inr ne) = with_one-member K f (O.of_t (G.mate j)) (subst (λ x. K (O.of_t x) ≡ true) (sym (move.linked.mates j jl ne))
            (kept.on.matched j jl (sym (move.linked.tests j jl ne) ∙ h)))

        bare : (i : ℕ) → i < L.q_rows → O.of_q i ≡ f → is_bare_row L G i ≡ true
        bare i il q = elim (bare-or_column p L G i) [
          | inl b ↦ b
          | inr (y, yl, g) ↦ let (b, e) = column-q p L G i y il g in
              absurd (bare-tells p L F i y (own-bare i il q) yl (q-column p L F i y il (sym (base_is y) ∙ b) (sym (row_is y) ∙ e)))
        ]

    -- ---- the match is given up
    module _ (H : Tableau) (entries : H.P ≡ F.P) (same_base : H.base ≡ F.base) (same_rows : H.row ≡ F.row)
        (gone : IsUnlinked L.columns G.matched G.mate H.matched H.mate (M.columns + k)) where
      other : (y : ℕ) → H.matched y ≡ true → y ≢ M.columns + k
      other y h q = differ gone.gone (subst (λ x. H.matched x ≡ true) q h)

      was : (y : ℕ) → y < L.columns → H.matched y ≡ true → F.matched y ≡ true
      was y yl h = sym (move.linked.tests y yl (other y h)) ∙ sym (gone.tests y yl (other y h)) ∙ h

      mate_was : (y : ℕ) → y < L.columns → y ≢ M.columns + k → H.mate y ≡ F.mate y
      mate_was y yl ne = gone.mates y yl ne ∙ move.linked.mates y yl ne

      back_base : (y : ℕ) → H.base y ≡ F.base y
      back_base y = ap (λ b. b y) same_base

      back_row : (y : ℕ) → H.row y ≡ F.row y
      back_row y = ap (λ b. b y) same_rows

      pub given-tableau : IsTableau p L S U H
      given-tableau = record {
        inverse = tab.inverse;
        product = subst (λ a. Agree p L.q_rows L.columns a (product L.q_rows S L.q)) (sym entries) tab.product;
        base = subst (λ a. IsBase p a L.q_rows L.columns H.base H.row) (sym entries)
            (subst (λ b. IsBase p F.P L.q_rows L.columns b H.row) (sym same_base)
            (subst (λ r. IsBase p F.P L.q_rows L.columns F.base r) (sym same_rows) tab.base));
        matching = matching-unlinked L G H (M.columns + k) joined-tableau.matching gone;
        apart = λ y yl h. not_true (H.matched y) (λ g. differ (tab.apart y yl (sym (back_base y) ∙ h)) (was y yl g));
      }

      column-back : (r y : ℕ) → r < places L → y < L.columns → is_column_of L F r y ≡ true → is_column_of L H r y ≡ true
      column-back r y rl yl h = at (row-cases L r rl)
        where
          at : (r < L.q_rows) ⊎ ((t : ℕ) × (t < L.t_rows) × (r ≡ L.q_rows + t)) → is_column_of L H r y ≡ true
          at (inl ql) = let (b, e) = column-q p L F r y ql h in q-column p L H r y ql (back_base y ∙ b) (back_row y ∙ e)
          at (inr (u, ul, q)) = let (m, e) = column-t p L F u y (subst (λ x. is_column_of L F x y ≡ true) q h) in
              let ne : y ≢ M.columns + k = (λ g. not-matched (subst (λ x. F.matched x ≡ true) g m)) in
              subst (λ x. is_column_of L H x y ≡ true) (sym q)
              (t-column p L H u y (gone.tests y yl ne ∙ move.linked.tests y yl ne ∙ m) (mate_was y yl ne ∙ e))

      pub given-kept : KeepsEquations p L O S H K
      given-kept = record {
        on = record {
          base = λ b bl h. subst (λ x. K (O.of_q x) ≡ true) (sym (back_row b)) (kept.on.base b bl (sym (back_base b) ∙ h));
          matched = λ j jl h. subst (λ x. K (O.of_t x) ≡ true) (sym (mate_was j jl (other j h))) (kept.on.matched j jl (was j jl h));
          made = kept.on.made;
        };
        used = λ r rl h. elim (bare-or_column p L F r) [
          | inl b ↦ absurd (differ (kept.used r rl h) b)
          | inr (y, yl, g) ↦ column-not_bare p L H r y yl (column-back r y rl yl g)
        ];
        alone = kept.alone;
        own = kept.own;
      }

-- ---- the pivots of a route
module _ (p : ℕ) (M : MixedMatrix) (A : ℕ → Bool) (L : LayeredMatrix) (O : Origins) (S : ℕ → ℕ → ℕ) (G : Tableau) (K : ℕ → Bool) (f : ℕ)
    (join : IsJoining p M A L O S G K f) (R : Route) (W : IsRoute p L G R) (last : R.in_q R.last ≡ true → O.of_q (R.row R.last) ≡ f) where
  route-own : (i : ℕ) → i ≤ R.last → R.in_q i ≡ true → with_one K f (O.of_q (R.row i)) ≡ true
  route-own i le q = at (nat_cases i R.last)
    where
      at : (i ≡ R.last) ⊎ (i ≢ R.last) → with_one K f (O.of_q (R.row i)) ≡ true
      at (inl e) = subst (λ x. with_one K f x ≡ true) (sym (ap (λ x. O.of_q (R.row x)) e ∙ last (subst (λ x. R.in_q x ≡ true) e q))) (with_one-new K f)
      at (inr ne) = let (b, e) = W.row_left i (omega (arith, le, ne)) q in
          subst (λ x. with_one K f (O.of_q x) ≡ true) e (join.on.base (R.at (suc i)) (W.below (suc i) (omega (arith, le, ne))) b)

  pub pivot-keeps : (i : ℕ) (T V : ℕ → ℕ → ℕ) → i ≤ R.last → R.in_q i ≡ true → IsSameOutside p L O (with_one K f) S T →
      LeavesZeroColumns p L.q_rows T V (R.row i) → IsSameOutside p L O (with_one K f) S V
  pivot-keeps i T V le q same keeps j k jl kl out = keeps k kl
      (same (R.row i) k (W.row_below i le q) kl out ∙ join.on.made (R.row i) k (W.row_below i le q) kl (route-own i le q) out) j jl ∙ same j k jl kl out

-- ---- the one bare row of an equation that joins
module _ (p : ℕ) (M : MixedMatrix) (A D : ℕ → Bool) (L : LayeredMatrix) (O : Origins) (lay : IsLayering M A D L O)
    (S : ℕ → ℕ → ℕ) (G : Tableau) (K : ℕ → Bool) (f : ℕ) (join : IsJoining p M A L O S G K f)
    (s : ℕ) (sl : s < places L) (of_s : origin_of_row L O s ≡ f) (which : (s < L.q_rows) ⊎ (A f ≡ false)) where
  pub start-bare : is_bare_row L G s ≡ true
  start-bare = go (row-cases L s sl) which
    where
      go : (s < L.q_rows) ⊎ ((t : ℕ) × (t < L.t_rows) × (s ≡ L.q_rows + t)) → (s < L.q_rows) ⊎ (A f ≡ false) → is_bare_row L G s ≡ true
      go (inl ql) _ = (join.own s ql (sym (q-equation L O s ql) ∙ of_s)).0
      go (inr (t, tl, q)) (inl ql) = absurd (omega (arith, q, ql))
      go (inr (t, tl, q)) (inr a) = subst (λ x. is_bare_row L G x ≡ true) (sym q)
          (join.single t tl (sym (t-equation L O t) ∙ subst (λ x. origin_of_row L O x ≡ f) q of_s) a)

  -- a row of f other than the first: its T row, where it is split
  of_f : (r : ℕ) → r < places L → origin_of_row L O r ≡ f → r ≢ s → is_bare_row L G r ≡ false
  of_f r rl q ne = rows_from (row-cases L r rl) (row-cases L s sl) which
    where
      rows_from : (r < L.q_rows) ⊎ ((t : ℕ) × (t < L.t_rows) × (r ≡ L.q_rows + t)) → (s < L.q_rows) ⊎ ((t : ℕ) × (t < L.t_rows) × (s ≡ L.q_rows + t)) →
          (s < L.q_rows) ⊎ (A f ≡ false) → is_bare_row L G r ≡ false
      rows_from (inl rq) (inl sq) _ = absurd (ne (members-distinct A M.rows O.of_q L.q_rows lay.q_rows r s rq sq
          (sym (q-equation L O r rq) ∙ q ∙ sym of_s ∙ q-equation L O s sq)))
      rows_from (inl rq) (inr (t, tl, g)) (inl sq) = absurd (omega (arith, g, sq))
      rows_from (inl rq) (inr (t, tl, g)) (inr a) = absurd (differ a (subst (λ x. A x ≡ true) (sym (q-equation L O r rq) ∙ q) (lay.q_rows.member r rq)))
      rows_from (inr (u, ul, e)) (inr (t, tl, g)) _ = absurd (ne (e ∙ ap (λ x. L.q_rows + x) (members-distinct D M.rows O.of_t L.t_rows lay.t_rows u t ul tl
          (sym (t-equation L O u) ∙ subst (λ x. origin_of_row L O x ≡ f) e q ∙ sym of_s ∙ ap (origin_of_row L O) g ∙ t-equation L O t)) ∙ sym g))
      rows_from (inr (u, ul, e)) (inl sq) _ = column-not_bare p L G r (M.columns + z) (omega (arith, lay.columns, z-index))
          (subst (λ x. is_column_of L G x (M.columns + z) ≡ true) (sym e) (t-column p L G u (M.columns + z) paired.0 paired.1))
        where
          of_u : O.of_t u ≡ f
          of_u = sym (t-equation L O u) ∙ subst (λ x. origin_of_row L O x ≡ f) e q

          split : both A D f ≡ true
          split = both_true (A f) (D f) (subst (λ x. A x ≡ true) (sym (q-equation L O s sq) ∙ of_s) (lay.q_rows.member s sq))
              (subst (λ x. D x ≡ true) of_u (lay.t_rows.member u ul))

          fl : f < M.rows
          fl = subst (λ x. x < M.rows) of_u (lay.t_rows.below u ul)

          z : ℕ
          z = size_on (both A D) f

          z-index : size_on (both A D) f < O.split
          z-index = member-index (both A D) M.rows O.of_z O.split lay.auxiliary f fl split

          paired : (G.matched (M.columns + size_on (both A D) f) ≡ true) × (G.mate (M.columns + size_on (both A D) f) ≡ u)
          paired = join.split u (size_on (both A D) f) ul z-index of_u (member-at (both A D) M.rows O.of_z O.split lay.auxiliary f fl split)

  -- all other rows of what is kept with f have columns
  pub others-used : (r : ℕ) → r < places L → is_row_of L O (with_one K f) r ≡ true → r ≢ s → is_bare_row L G r ≡ false
  others-used r rl h ne = before (nat_cases (origin_of_row L O r) f)
    where
      before : (origin_of_row L O r ≡ f) ⊎ (origin_of_row L O r ≢ f) → is_bare_row L G r ≡ false
      before (inl q) = of_f r rl q ne
      before (inr no_f) = join.used r rl (older (K (origin_of_row L O r)) (eqb (origin_of_row L O r) f) h (unlike (origin_of_row L O r) f no_f))
        where
          unlike : (x y : ℕ) → x ≢ y → eqb x y ≡ false
          unlike x y ne = not_true (eqb x y) (λ e. ne (eqb_true x y e))

  pub one-bare : (r : ℕ) → r < places L → bare_of L O G (with_one K f) r ≡ only s r
  one-bare r rl = go (nat_cases r s)
    where
      go : (r ≡ s) ⊎ (r ≢ s) → bare_of L O G (with_one K f) r ≡ only s r
      go (inl q) = both_true (is_row_of L O (with_one K f) r) (is_bare_row L G r)
          (subst (λ x. with_one K f x ≡ true) (sym (ap (origin_of_row L O) q ∙ of_s)) (with_one-new K f))
          (subst (λ x. is_bare_row L G x ≡ true) (sym q) start-bare) ∙ sym (eqb_from r s q)
      go (inr ne) = not_true (bare_of L O G (with_one K f) r) (λ h. differ
          (others-used r rl (both-first (is_row_of L O (with_one K f) r) (is_bare_row L G r) h) ne)
          (both-second (is_row_of L O (with_one K f) r) (is_bare_row L G r) h))
          ∙ sym (not_true (eqb r s) (λ e. ne (eqb_true r s e)))

  pub one-vain : (W : ℕ → Bool) → IsReachedSet (row_leads p L G) (places L) (only s) W →
      NoEndReached (row_leads p L G) (places L) (only s) (is_open p L G) → AreRowsReachedInVain p L O G (with_one K f) W
  one-vain W reached vain = record {
    reached = λ y yl. ((λ h. there y ((reached y yl).0 h)), (λ u. (reached y yl).1 (back y u)));
    vain = λ e el o u. vain e el o (back e u);
  }
    where
      there : (y : ℕ) → FromSome (row_leads p L G) (places L) (only s) y → FromSome (row_leads p L G) (places L) (bare_of L O G (with_one K f)) y
      there y (a, al, ah, w) = (a, al, one-bare a al ∙ ah, w)

      back : (y : ℕ) → FromSome (row_leads p L G) (places L) (bare_of L O G (with_one K f)) y → FromSome (row_leads p L G) (places L) (only s) y
      back y (a, al, ah, w) = (a, al, sym (one-bare a al) ∙ ah, w)

-- ---- after the growth
module _ (p : ℕ) (M : MixedMatrix) (A D : ℕ → Bool) (L : LayeredMatrix) (O : Origins) (lay : IsLayering M A D L O)
    (S V : ℕ → ℕ → ℕ) (F G H : Tableau) (K : ℕ → Bool) (f : ℕ) (kept : KeepsEquations p L O S F K) (join : IsJoining p M A L O S G K f) (T : HasTableau p L G)
    (s : ℕ) (sl : s < places L) (of_s : origin_of_row L O s ≡ f) (which : (s < L.q_rows) ⊎ (A f ≡ false))
    (at col : ℕ → ℕ) (k : ℕ) (W : IsShortest (row_leads p L G) (places L) (only s) (is_open p L G) at k) (C : AreColumnsAlong p L G at col k)
    (rows : IsRowStage L G (route_back L at col k) 0 H) (same : IsSameOutside p L O (with_one K f) S V) where
  bare : is_bare_row L G s ≡ true
  bare = start-bare p M A D L O lay S G K f join s sl of_s which

  of_first : (r : ℕ) → r ≡ s → with_one K f (origin_of_row L O r) ≡ true
  of_first r q = subst (λ x. with_one K f x ≡ true) (sym (ap (origin_of_row L O) q ∙ of_s)) (with_one-new K f)

  on-rows : IsOnRowsOf p L O V H (with_one K f)
  on-rows = record { base = base; matched = matched; made = made }
    where
      base : (b : ℕ) → b < L.columns → H.base b ≡ true → with_one K f (O.of_q (H.row b)) ≡ true
      base b bl h = go (rows.only_q b bl h)
        where
          go : HasQRow L G (H.row b) ⊎ (((route_back L at col k).in_q k ≡ true) × (H.row b ≡ (route_back L at col k).row k)) →
              with_one K f (O.of_q (H.row b)) ≡ true
          go (inl (y, yl, g, e)) = subst (λ x. with_one K f (O.of_q x) ≡ true) e (join.on.base y yl g)
          go (inr (q, e)) = let first : H.row b ≡ s = first-row p L G s at k W T bare col C (H.row b) q (sym e) in
              row-q L O (with_one K f) (H.row b) (q-below first q) (of_first (H.row b) first)
            where
              q-below : H.row b ≡ s → (route_back L at col k).in_q k ≡ true → H.row b < L.q_rows
              q-below first q = below (row-cases L s sl)
                where
                  below : (s < L.q_rows) ⊎ ((t : ℕ) × (t < L.t_rows) × (s ≡ L.q_rows + t)) → H.row b < L.q_rows
                  below (inl ql) = subst (λ x. x < L.q_rows) (sym first) ql
                  below (inr (t, tl, g)) = absurd (differ (more-test (at (k - k)) L.q_rows
                      (let z : k - k ≡ 0 = omega arith in subst (λ x. L.q_rows ≤ at x) (sym z)
                      (subst (λ x. L.q_rows ≤ x) (sym (begins-at p L G s at k W)) (omega (arith, g))))) q)

      matched : (j : ℕ) → j < L.columns → H.matched j ≡ true → with_one K f (O.of_t (H.mate j)) ≡ true
      matched j jl h = go (rows.only_t j jl h)
        where
          go : HasTRow L G (H.mate j) ⊎ (((route_back L at col k).in_q k ≡ false) × (H.mate j ≡ (route_back L at col k).row k)) →
              with_one K f (O.of_t (H.mate j)) ≡ true
          go (inl (y, yl, g, e)) = subst (λ x. with_one K f (O.of_t x) ≡ true) e (join.on.matched y yl g)
          go (inr (q, e)) = row-t L O (with_one K f) (H.mate j)
              (of_first (L.q_rows + H.mate j) (first-t_row p L G s at k W T bare col C (H.mate j) q (sym e)))

      made : (i j : ℕ) → i < L.q_rows → j < L.q_rows → with_one K f (O.of_q i) ≡ true → with_one K f (O.of_q j) ≡ false → V i j % p ≡ 0
      made i j il jl h g = same i j il jl g ∙ join.on.made i j il jl h g

  used-rows : (r : ℕ) → r < places L → is_row_of L O (with_one K f) r ≡ true → is_bare_row L H r ≡ false
  used-rows r rl h = go (nat_cases r s)
    where
      go : (r ≡ s) ⊎ (r ≢ s) → is_bare_row L H r ≡ false
      go (inl q) = subst (λ x. is_bare_row L H x ≡ false) (sym q) (first-has_column p L G s at k W T bare col C H rows)
      go (inr ne) = others-same p L G s at k W T bare col C H rows r rl ne ∙ others-used p M A D L O lay S G K f join s sl of_s which r rl h ne

  pub growth-keeps : KeepsEquations p L O V H (with_one K f)
  growth-keeps = record {
    on = on-rows;
    used = used-rows;
    alone = λ i j il jl out ne. same i j il jl out ∙ kept.alone i j il jl (outside-old K f (O.of_q j) out) ne;
    own = λ j jl out z. kept.own j jl (outside-old K f (O.of_q j) out) (sym (same j j jl jl out) ∙ z);
  }
