-- The arcs backwards, by the row of a column.
use Rattle.std.proofs.Common.{◌≡◌, ◌≢◌, ℕ, ◌+◌, ◌-◌, ◌%◌, ◌<◌, ◌≤◌, Bool, true, false, cond, not, eqb, ltb, ◌&&◌, ◌||◌}
use Rattle.std.proofs.Common.{◌⊎◌, inl, inr, Option, Some, None, is_some, refl, ap, sym, ◌∙◌, arith}
use Rattle.std.proofs.lemmas.Bool.Decides.{nat_tests}
use Rattle.residue_theory.proofs.SetLaws.{both-first, both-second, both_true, differ, eqb_from, eqb_true, lt_cases, not_true}
use Rattle.residue_theory.proofs.SetLaws.{some_below-found, some_below-holds}
use Rattle.residue_theory.specs.Ranges.{HasNone, IsLeast}
use Rattle.residue_theory.specs.Sets.{IsApart, some_below}
use Rattle.exchange_graph.specs.Turns.{HasNextTurn, HaveHadTurns}
use Rattle.bipartite_matching.specs.Matchings.{Matching}
use Rattle.row_transform.specs.Tableaus.{TableauState}
use Rattle.mixed_matrices.specs.Arcs.{is_free, leads_to}
use Rattle.mixed_matrices.specs.LayeredMatrices.{LayeredMatrix}
use Rattle.mixed_matrices.specs.Tableaus.{Tableau}
use Rattle.independent_matching.specs.Sides.{is_matched, layers_of, tableau_of_pair}
use Rattle.row_choice_laws.specs.ColumnSearches.{leads_back}
use Rattle.row_choice_laws.specs.RowSearches.{has_row_entry}
use Rattle.row_choice_laws.proofs.OwnTableaus.{less-test, more-test, pass, pick}
use Rattle.equation_choice.specs.Pairs.{apart_columns, place_held}

pub same_some : (a b : ℕ) → Some a ≡ Some b → a ≡ b
same_some a b e = cc

some_is_no_none : (a : ℕ) → Some a ≡ None → ⊥
some_is_no_none a e = cc

in-q : (e f b m A B : Bool) → e ≡ f → b ≡ true → m ≡ false → (not e && ((b && A) || (m && B))) ≡ (not f && A)
in-q e f b m A B h i j = grind arith

in-t : (e f b m A B : Bool) → e ≡ f → b ≡ false → m ≡ true → (not e && ((b && A) || (m && B))) ≡ (not f && B)
in-t e f b m A B h i j = grind arith

in-none : (e b m A B : Bool) → b ≡ false → m ≡ false → (not e && ((b && A) || (m && B))) ≡ false
in-none e b m A B h i = grind arith

turned : (x y : ℕ) → eqb y x ≡ eqb x y
turned x y = grind (arith, nat_tests)

-- what a test of two numbers leaves of a conjunction
pub not-same : (x y : ℕ) (b : Bool) → x ≢ y → b ≡ (not (eqb x y) && b)
not-same x y b ne = at (eqb x y) b (not_true (eqb x y) (λ h. ne (eqb_true x y h)))
  where
    at : (e b : Bool) → e ≡ false → b ≡ (not e && b)
    at e b h = grind arith

pub same-first : (x y : ℕ) (b : Bool) → x ≡ y → not (eqb x y) ≡ (not (eqb x y) && b)
same-first x y b q = at (eqb x y) b (eqb_from x y q)
  where
    at : (e b : Bool) → e ≡ true → not e ≡ (not e && b)
    at e b h = grind arith

-- ---- the row that a column has
module _ (L : LayeredMatrix) (F : Tableau) (x : ℕ) where
  pub held-base : F.base x ≡ true → place_held L F x ≡ Some (F.row x)
  held-base b = pick (F.base x) (Some (F.row x)) (cond (F.matched x) (Some (L.q_rows + F.mate x)) None) b

  pub held-mate : F.base x ≡ false → F.matched x ≡ true → place_held L F x ≡ Some (L.q_rows + F.mate x)
  held-mate b m = pass (F.base x) (Some (F.row x)) (cond (F.matched x) (Some (L.q_rows + F.mate x)) None) b
      ∙ pick (F.matched x) (Some (L.q_rows + F.mate x)) None m

  pub held-none : F.base x ≡ false → F.matched x ≡ false → place_held L F x ≡ None
  held-none b m = pass (F.base x) (Some (F.row x)) (cond (F.matched x) (Some (L.q_rows + F.mate x)) None) b
      ∙ pass (F.matched x) (Some (L.q_rows + F.mate x)) None m

  pub none-held : place_held L F x ≡ None → (F.base x ≡ false) × (F.matched x ≡ false)
  none-held e = go (F.base x) refl (F.matched x) refl
    where
      go : (b : Bool) → F.base x ≡ b → (m : Bool) → F.matched x ≡ m → (F.base x ≡ false) × (F.matched x ≡ false)
      go true b m n = absurd (some_is_no_none (F.row x) (sym (held-base b) ∙ e))
      go false b true m = absurd (some_is_no_none (L.q_rows + F.mate x) (sym (held-mate b m) ∙ e))
      go false b false m = (b, m)

  -- a base column with this row, or a matched one
  pub some-held : (row : ℕ) → place_held L F x ≡ Some row → ((F.base x ≡ true) × (F.row x ≡ row))
      ⊎ ((F.base x ≡ false) × (F.matched x ≡ true) × (L.q_rows + F.mate x ≡ row))
  some-held row e = go (F.base x) refl (F.matched x) refl
    where
      go : (b : Bool) → F.base x ≡ b → (m : Bool) → F.matched x ≡ m → ((F.base x ≡ true) × (F.row x ≡ row))
          ⊎ ((F.base x ≡ false) × (F.matched x ≡ true) × (L.q_rows + F.mate x ≡ row))
      go true b m n = inl (b, same_some (F.row x) row (sym (held-base b) ∙ e))
      go false b true m = inr (b, m, same_some (L.q_rows + F.mate x) row (sym (held-mate b m) ∙ e))
      go false b false m = absurd (some_is_no_none row (sym e ∙ held-none b m))

  pub held-free : (row : ℕ) → place_held L F x ≡ Some row → false ≡ is_free F x
  unfolding is_free
  held-free row e = elim (some-held row e) [
    | inl (b, _) ↦ used (F.base x) (F.matched x) (inl b)
    | inr (_, m, _) ↦ used (F.base x) (F.matched x) (inr m)
  ]
    where
      used : (b m : Bool) → (b ≡ true) ⊎ (m ≡ true) → false ≡ (not b && not m)
      used true m h = refl
      used false true h = refl
      used false false (inl e) = absurd (differ refl e)
      used false false (inr e) = absurd (differ refl e)

  pub free-held : not (is_some (place_held L F x)) ≡ is_free F x
  unfolding is_free
  free-held = go (F.base x) (F.matched x)
    where
      go : (a b : Bool) → not (is_some (cond a (Some (F.row x)) (cond b (Some (L.q_rows + F.mate x)) None))) ≡ (not a && not b)
      go true b = refl
      go false true = refl
      go false false = refl

  -- what a test for a row tells
  pub told-free : (o : Option ℕ) → o ≡ place_held L F x → (r : Bool) → r ≡ not (is_some o) → r ≡ is_free F x
  told-free o is r told = told ∙ ap (λ (o : Option ℕ). not (is_some o)) is ∙ free-held

  pub none-free : place_held L F x ≡ None → true ≡ is_free F x
  unfolding is_free
  none-free e = let (b, m) = none-held e in free (F.base x) (F.matched x) b m
    where
      free : (b m : Bool) → b ≡ false → m ≡ false → true ≡ (not b && not m)
      free b m h k = grind arith

-- ---- the arcs
module _ (p : ℕ) (S : TableauState) (M : Matching) (x : ℕ) where
  abbrev L : LayeredMatrix
  L = layers_of S M

  abbrev F : Tableau
  F = tableau_of_pair S M

  pub back-none : (y : ℕ) → place_held L F x ≡ None → leads_back p L F x y ≡ false
  unfolding leads_to
  back-none y e = let (b, m) = none-held L F x e in
      in-none (eqb y x) (F.base x) (F.matched x) (not (eqb (F.P (F.row x) y % p) 0)) (L.t (F.mate x) y) b m

  module _ (row : ℕ) (held : place_held L F x ≡ Some row) (q_below : S.base x ≡ true → S.row x < S.rows)
      (apart : S.base x ≡ true → is_matched M x ≡ true → ⊥) where
    pub back-is : (y : ℕ) → leads_back p L F x y ≡ (not (eqb x y) && has_row_entry p L F row y)
    unfolding leads_to
    back-is y = go (some-held L F x row held)
      where
        go : ((F.base x ≡ true) × (F.row x ≡ row)) ⊎ ((F.base x ≡ false) × (F.matched x ≡ true) × (L.q_rows + F.mate x ≡ row)) →
            (not (eqb y x) && ((F.base x && not (eqb (F.P (F.row x) y % p) 0)) || (F.matched x && L.t (F.mate x) y)))
            ≡ (not (eqb x y) && has_row_entry p L F row y)
        go (inl (b, e)) =
            in-q (eqb y x) (eqb x y) (F.base x) (F.matched x) (not (eqb (F.P (F.row x) y % p) 0)) (L.t (F.mate x) y) (turned x y) b
            (not_true (F.matched x) (apart b))
            ∙ ap (λ c. not (eqb x y) && c) (sym (pick (ltb (F.row x) L.q_rows) (not (eqb (F.P (F.row x) y % p) 0)) (L.t (F.row x - L.q_rows) y)
            (less-test (F.row x) L.q_rows (q_below b))) ∙ ap (λ r. has_row_entry p L F r y) e)
        go (inr (b, m, e)) =
            let place : L.q_rows + F.mate x - L.q_rows ≡ F.mate x = omega arith in
            in-t (eqb y x) (eqb x y) (F.base x) (F.matched x) (not (eqb (F.P (F.row x) y % p) 0)) (L.t (F.mate x) y) (turned x y) b m
            ∙ ap (λ c. not (eqb x y) && c) (sym (ap (λ i. L.t i y) place)
            ∙ sym (pass (ltb (L.q_rows + F.mate x) L.q_rows) (not (eqb (F.P (L.q_rows + F.mate x) y % p) 0)) (L.t (L.q_rows + F.mate x - L.q_rows) y)
            (more-test (L.q_rows + F.mate x) L.q_rows (omega arith))) ∙ ap (λ r. has_row_entry p L F r y) e)

    -- ---- in their turns
    abbrev Others : ℕ → Bool
    Others y = not (eqb x y) && has_row_entry p L F row y

    abbrev Arcs : ℕ → Bool
    Arcs = leads_back p L F x

    pub turns-none : (n from : ℕ) → n ≤ S.columns → HasNone Others from S.columns → HaveHadTurns Arcs (λ y. y) n from
    turns-none n from le none y l h = elim (lt_cases y from) [
      | inl less ↦ less
      | inr ge ↦ absurd (differ (none y ge (omega (arith, l, le))) (sym (back-is y) ∙ h))
    ]

    pub turns-next : (n from y : ℕ) → n ≡ S.columns → S.columns ≤ 8192 → IsLeast Others from S.columns y →
        HasNextTurn Arcs (λ z. z) n from y (y + 1)
    turns-next n from y all few least = record {
      below = omega (arith, least.before_end, all);
      holds = back-is y ∙ least.holds;
      onward = omega (arith, least.from_on);
      fits = omega (arith, least.before_end, few);
      others = λ z zl h less. elim (lt_cases z from) [
        | inl early ↦ inl early
        | inr late ↦ elim (lt_cases z y) [
          | inl before ↦ absurd (differ (least.none_before z late before) (sym (back-is z) ∙ h))
          | inr after ↦ inr (omega (arith, after, less))
        ]
      ];
    }

  pub turns-bare : (n from : ℕ) → place_held L F x ≡ None → HaveHadTurns (leads_back p L F x) (λ y. y) n from
  turns-bare n from e y l h = absurd (differ (back-none y e) h)

-- ---- the columns that are common to Q and T
module _ (S : TableauState) (M : Matching) where
  clash : ℕ → Bool
  clash x = S.base x && is_matched M x

  pub apart-tells : (x : ℕ) → x < apart_columns S M → (apart_columns S M ≡ S.columns) × (S.columns ≡ M.pattern.width)
      × ((y : ℕ) → y < S.columns → S.base y ≡ true → is_matched M y ≡ true → ⊥)
  apart-tells x l = go (eqb S.columns M.pattern.width) refl (some_below S.columns (λ x. S.base x && is_matched M x)) refl
    where
      go : (w : Bool) → eqb S.columns M.pattern.width ≡ w → (c : Bool) → some_below S.columns (λ x. S.base x && is_matched M x) ≡ c →
          (apart_columns S M ≡ S.columns) × (S.columns ≡ M.pattern.width)
          × ((y : ℕ) → y < S.columns → S.base y ≡ true → is_matched M y ≡ true → ⊥)
      go true w false c = (
        pick (eqb S.columns M.pattern.width && not (some_below S.columns (λ x. S.base x && is_matched M x))) S.columns 0
            (both_true (eqb S.columns M.pattern.width) (not (some_below S.columns (λ x. S.base x && is_matched M x))) w (ap not c)),
        eqb_true S.columns M.pattern.width w,
        λ y yl b m. differ c (some_below-holds S.columns (λ x. S.base x && is_matched M x) y yl (both_true (S.base y) (is_matched M y) b m)),
      )
      go true w true c = absurd (let none : apart_columns S M ≡ 0 = pass (eqb S.columns M.pattern.width && not (some_below S.columns (λ x.
          S.base x && is_matched M x))) S.columns 0 (off (eqb S.columns M.pattern.width) _ c) in omega (arith, none, l))
        where
          off : (a b : Bool) → b ≡ true → a && not b ≡ false
          off a b h = grind arith
      go false w c d = absurd (let none : apart_columns S M ≡ 0 = pass (eqb S.columns M.pattern.width && not (some_below S.columns (λ x.
          S.base x && is_matched M x))) S.columns 0 (off (eqb S.columns M.pattern.width) _ w) in omega (arith, none, l))
        where
          off : (a b : Bool) → a ≡ false → a && not b ≡ false
          off a b h = grind arith

  pub apart-all : M.pattern.width ≡ S.columns → IsApart S.columns S.base (is_matched M) → apart_columns S M ≡ S.columns
  apart-all width apart = pick (eqb S.columns M.pattern.width && not (some_below S.columns (λ x. S.base x && is_matched M x))) S.columns 0
      (both_true (eqb S.columns M.pattern.width) (not (some_below S.columns (λ x. S.base x && is_matched M x))) (eqb_from S.columns M.pattern.width (sym width))
      (ap not (not_true (some_below S.columns (λ x. S.base x && is_matched M x)) (λ h. let (y, yl, c) =
      some_below-found S.columns (λ x. S.base x && is_matched M x) h in
      differ (apart y yl (both-first (S.base y) (is_matched M y) c)) (both-second (S.base y) (is_matched M y) c)))))
