-- A shortest walk from a free column to an end gives a route.
use Rattle.std.proofs.Common.{◌≡◌, ℕ, suc, ◌%◌, ◌<◌, ◌≤◌, ◌≢◌, Bool, true, false, cond, ltb, ◌⊎◌, inl, inr, refl, ap, sym, subst, ◌∙◌, arith}
use Rattle.std.proofs.lemmas.Bool.Decides.{nat_tests}
use Rattle.residue_theory.proofs.SumLaws.{nat_cases}
use Rattle.mixed_matrices.specs.LayeredMatrices.{LayeredMatrix}
use Rattle.mixed_matrices.specs.Arcs.{has_base, has_match, is_end, is_free, leads_to}
use Rattle.mixed_matrices.specs.Tableaus.{Tableau, HasTableau}
use Rattle.linear_algebra.specs.Bases.{HasNoBase}
use Rattle.mixed_pair_laws.proofs.ArcFacts.{LeadsInQ, LeadsInT, base_found, end-q, end-t, end-tells, free-tells, leads-q}
use Rattle.mixed_pair_laws.proofs.ArcFacts.{leads-tells, match_found, no_base, no_match}
use Rattle.residue_theory.proofs.SetLaws.{differ, not_true}
use Rattle.search_laws.specs.Searches.{IsShortest}
use Rattle.search_laws.proofs.ShortestWalks.{no_shortcut, places_differ, one_end}
use Rattle.mixed_augmentation_laws.specs.Moves.{Route, IsRoute, route, IsFreeRow}

pick : {A : Type 0} (b : Bool) (x y : A) → b ≡ true → cond b x y ≡ x
pick true x y e = refl
pick false x y e = absurd (differ refl e)

pass : {A : Type 0} (b : Bool) (x y : A) → b ≡ false → cond b x y ≡ y
pass true x y e = absurd (differ e refl)
pass false x y e = refl

less_test : (j k : ℕ) → j < k → ltb j k ≡ true
less_test j k l = grind (arith, nat_tests)

last_test : (k : ℕ) → ltb k k ≡ false
last_test k = grind (arith, nat_tests)

-- ---- ends and free rows
module _ (p : ℕ) (L : LayeredMatrix) (F : Tableau) where
  bare-row : (i : ℕ) → HasNoBase L.columns F.base F.row i → has_base L F i ≡ false
  bare-row i none = not_true (has_base L F i) (λ h. let (y, yl, b, e) = base_found L F i h in none y yl b e)

  bare-mate : (i : ℕ) → HasNoBase L.columns F.matched F.mate i → has_match L F i ≡ false
  bare-mate i none = not_true (has_match L F i) (λ h. let (y, yl, m, e) = match_found L F i h in none y yl m e)

  pub free_row-end : (x : ℕ) (in_q : Bool) (row : ℕ) → IsFreeRow p L F x in_q row → is_end p L F x ≡ true
  free_row-end x true row E = let (rl, ne, none) = E.of_q refl in end-q p L F x row rl ne (bare-row row none)
  free_row-end x false row E = let (rl, s, none) = E.of_t refl in end-t p L F x row rl s (bare-mate row none)

  pub end-free_row : (x : ℕ) → is_end p L F x ≡ true → (in_q : Bool) × (row : ℕ) × IsFreeRow p L F x in_q row
  end-free_row x h = elim (end-tells p L F x h) [
    | inl (i, il, ne, none) ↦ (
      true,
      i,
      record {
        of_q = λ _. (il, ne, no_base L F i none);
        of_t = λ e. absurd
            (differ e refl);
      },
    )
    | inr (i, il, s, none) ↦ (
      false,
      i,
      record {
        of_q = λ e. absurd (differ refl e);
        of_t = λ _.
            (il, s, no_match L F i none);
      },
    )
  ]

module _ (p : ℕ) (L : LayeredMatrix) (F : Tableau) (T : HasTableau p L F)
    (starts : ℕ → Bool) (at : ℕ → ℕ) (k : ℕ)
    (W : IsShortest (leads_to p L F) L.columns starts (is_end p L F) at k) (free : is_free F (at 0) ≡ true)
    (by : Bool)
    (place : ℕ) (E : IsFreeRow p L F (at k) by place) where
  abbrev R : Route
  R = route F at k by place

  by_inside : (j : ℕ) → j < k → R.in_q j ≡ F.base (at (suc j))
  by_inside j l = pick (ltb j k) (F.base (at (suc j))) by (less_test j k l)

  to_inside : (j : ℕ) → j < k → R.row j ≡ cond (F.base (at (suc j))) (F.row (at (suc j))) (F.mate (at (suc j)))
  to_inside j l = pick (ltb j k) (cond (F.base (at (suc j))) (F.row (at (suc j))) (F.mate (at (suc j)))) place
      (less_test j k l)

  by_last : R.in_q k ≡ by
  by_last = pass (ltb k k) (F.base (at (suc k))) by (last_test k)

  to_last : R.row k ≡ place
  to_last = pass (ltb k k) (cond (F.base (at (suc k))) (F.row (at (suc k))) (F.mate (at (suc k)))) place (last_test k)

  to_row : (j : ℕ) → j < k → F.base (at (suc j)) ≡ true → R.row j ≡ F.row (at (suc j))
  to_row j l b = to_inside j l ∙ pick (F.base (at (suc j))) (F.row (at (suc j))) (F.mate (at (suc j))) b

  to_mate : (j : ℕ) → j < k → F.base (at (suc j)) ≡ false → R.row j ≡ F.mate (at (suc j))
  to_mate j l b = to_inside j l ∙ pass (F.base (at (suc j))) (F.row (at (suc j))) (F.mate (at (suc j))) b

  inside : (j : ℕ) → j ≤ k → j ≢ k → j < k
  inside j le ne = omega arith

  next_below : (j : ℕ) → j < k → at (suc j) < L.columns
  next_below j l = W.below (suc j) (omega arith)

  leads : (j : ℕ) → j < k → LeadsInQ p L F (at j) (at (suc j)) ⊎ LeadsInT p L F (at j) (at (suc j))
  leads j l = leads-tells p L F (at j) (at (suc j)) (subst (λ x. leads_to p L F (at j) (at x) ≡ true) (omega arith)
      (W.follows j l))

  -- the arc to a base column is by its row, and that to another one by its mate
  leads_row : (j : ℕ) → j < k → F.base (at (suc j)) ≡ true → F.P (F.row (at (suc j))) (at j) % p ≢ 0
  leads_row j l b = go (leads j l)
    where
      go : LeadsInQ p L F (at j) (at (suc j)) ⊎ LeadsInT p L F (at j) (at (suc j)) →
          F.P (F.row (at (suc j))) (at j) % p ≢ 0
      go (inl q) = q.1
      go (inr t) = absurd (differ (T.apart (at (suc j)) (next_below j l) b) t.0)

  leads_mate : (j : ℕ) → j < k → F.base (at (suc j)) ≡ false → (F.matched (at (suc j)) ≡ true)
      × (L.t (F.mate (at (suc j))) (at j) ≡ true)
  leads_mate j l b = go (leads j l)
    where
      go : LeadsInQ p L F (at j) (at (suc j)) ⊎ LeadsInT p L F (at j) (at (suc j)) → (F.matched (at (suc j)) ≡ true)
          × (L.t (F.mate (at (suc j))) (at j) ≡ true)
      go (inl q) = absurd (differ b q.0)
      go (inr t) = t

  shortcut : (i j : ℕ) → i < j → j < k → F.base (at (suc j)) ≡ true → F.P (F.row (at (suc j))) (at i) % p ≢ 0 → ⊥
  shortcut i j less l b nz = no_shortcut (leads_to p L F) L.columns starts (is_end p L F) at k W i (suc j)
      (omega arith) (omega arith)
      (leads-q p L F (at i) (at (suc j)) apart b nz)
    where
      apart : at i ≢ at (suc j)
      apart e = omega (
        arith,
        places_differ (leads_to p L F) L.columns starts (is_end p L F) at k W i (suc j)
            (omega arith) (omega arith) e,
      )

  early_end : (i : ℕ) → i < k → by ≡ true → F.P place (at i) % p ≢ 0 → ⊥
  early_end i less q nz = omega (
    arith,
    one_end (leads_to p L F) L.columns starts (is_end p L F) at k W i (omega arith)
        (let (rl, _, none) = E.of_q q in end-q p L F (at i) place rl nz (bare-row p L F place none)),
  )

  pub shortest_from-route : IsRoute p L F (route F at k by place)
  shortest_from-route = record {
    below = W.below;
    differ = places_differ (leads_to p L F) L.columns starts (is_end p L F) at k W;
    first = free-tells F (at 0) free;
    row_left = λ j l q. (sym (by_inside j l) ∙ q, sym (to_row j l (sym (by_inside j l) ∙ q)));
    mate_left = λ j l t. ((leads_mate j l (sym (by_inside j l) ∙ t)).0, sym (to_mate j l (sym (by_inside j l) ∙ t)));
    row_end = λ q y yl b e. (E.of_q (sym by_last ∙ q)).2 y yl b (e ∙ to_last);
    mate_end = λ t y yl m e. (E.of_t (sym by_last ∙ t)).2 y yl m (e ∙ to_last);
    row_below = row_below;
    entry = entry;
    mate_below = mate_below;
    symbol = symbol;
    far = far;
  }
    where
      row_below : (j : ℕ) → j ≤ k → R.in_q j ≡ true → R.row j < L.q_rows
      row_below j le q = elim (nat_cases j k) [
        | inl e ↦ subst (λ x. R.row x < L.q_rows) (sym e) (subst (λ x. x < L.q_rows) (sym to_last) (E.of_q
            (sym by_last ∙ subst (λ x. R.in_q x ≡ true) e q)).0)
        | inr ne ↦ let l = inside j le ne in let b = sym (by_inside j l) ∙ q in
            subst (λ x. x < L.q_rows) (sym (to_row j l b)) (T.base.row_below (at (suc j)) (next_below j l) b)
      ]

      entry : (j : ℕ) → j ≤ k → R.in_q j ≡ true → F.P (R.row j) (at j) % p ≢ 0
      entry j le q = elim (nat_cases j k) [
        | inl e ↦ subst (λ x. F.P (R.row x) (at x) % p ≢ 0) (sym e) (subst (λ x. F.P x (at k) % p ≢ 0) (sym to_last)
            (E.of_q (sym by_last ∙ subst (λ x. R.in_q x ≡ true) e q)).1)
        | inr ne ↦ let l = inside j le ne in let b = sym (by_inside j l) ∙ q in
            subst (λ x. F.P x (at j) % p ≢ 0) (sym (to_row j l b)) (leads_row j l b)
      ]

      mate_below : (j : ℕ) → j ≤ k → R.in_q j ≡ false → R.row j < L.t_rows
      mate_below j le t = elim (nat_cases j k) [
        | inl e ↦ subst (λ x. R.row x < L.t_rows) (sym e) (subst (λ x. x < L.t_rows) (sym to_last) (E.of_t
            (sym by_last ∙ subst (λ x. R.in_q x ≡ false) e t)).0)
        | inr ne ↦ let l = inside j le ne in let b = sym (by_inside j l) ∙ t in
            subst (λ x. x < L.t_rows) (sym (to_mate j l b)) (T.matching.below (at (suc j)) (next_below j l)
            (leads_mate j l b).0)
      ]

      symbol : (j : ℕ) → j ≤ k → R.in_q j ≡ false → L.t (R.row j) (at j) ≡ true
      symbol j le t = elim (nat_cases j k) [
        | inl e ↦ subst (λ x. L.t (R.row x) (at x) ≡ true) (sym e) (ap (λ x. L.t x (at k)) to_last ∙ (E.of_t
            (sym by_last ∙ subst (λ x. R.in_q x ≡ false) e t)).1)
        | inr ne ↦ let l = inside j le ne in let b = sym (by_inside j l) ∙ t in
            ap (λ x. L.t x (at j)) (to_mate j l b) ∙ (leads_mate j l b).1
      ]

      far : (i j : ℕ) → i < j → j ≤ k → R.in_q j ≡ true → F.P (R.row j) (at i) % p ≡ 0
      far i j less le q = elim (nat_cases (F.P (R.row j) (at i) % p) 0) [
        | inl z ↦ z
        | inr nz ↦ absurd (go nz
            (nat_cases j k))
      ]
        where
          go : F.P (R.row j) (at i) % p ≢ 0 → (j ≡ k) ⊎ (j ≢ k) → ⊥
          go nz (inl e) = early_end i (omega arith) (sym by_last ∙ subst (λ x. R.in_q x ≡ true) e q)
              (subst (λ x. F.P x (at i) % p ≢ 0) (ap (λ x. R.row x) e ∙ to_last) nz)
          go nz (inr ne) = let l = inside j le ne in let b = sym (by_inside j l) ∙ q in
              shortcut i j less l b (subst (λ x. F.P x (at i) % p ≢ 0) (to_row j l b) nz)

pub shortest-route : (p : ℕ) (L : LayeredMatrix) (F : Tableau) (T : HasTableau p L F) (at : ℕ →
    ℕ) (k : ℕ) (W : IsShortest (leads_to p L F) L.columns (is_free F) (is_end p L F) at k) (by : Bool) (place : ℕ)
    (E : IsFreeRow p L F (at k) by place) → IsRoute p L F (route F at k by place)
shortest-route p L F T at k W by place E = shortest_from-route p L F T (is_free F) at k W W.begins by place E

pub route-last_row : (F : Tableau) (at : ℕ → ℕ) (k : ℕ) (by : Bool) (place : ℕ) → (route F at k by place).in_q k ≡ by
route-last_row F at k by place = pass (ltb k k) (F.base (at (suc k))) by (last_test k)

pub route-last_to : (F : Tableau) (at : ℕ → ℕ) (k : ℕ) (by : Bool) (place : ℕ) → (route F at k by place).row k ≡ place
route-last_to F at k by place = pass (ltb k k) (cond (F.base (at (suc k))) (F.row (at (suc k))) (F.mate (at
    (suc k)))) place (last_test k)
