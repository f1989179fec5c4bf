-- What can reach no end is left for good by every augmentation.
use Rattle.std.proofs.Common.{◌≡◌, ℕ, zero, suc, ◌+◌, ◌-◌, ◌%◌, ◌<◌, ◌≤◌, ◌≢◌, Bool, true, false, ◌&&◌, ◌||◌, not}
use Rattle.std.proofs.Common.{eqb, ◌⊎◌, inl, inr, refl, ap, sym, subst, ◌∙◌, arith}
use Rattle.std.proofs.lemmas.Bool.Decides.{nat_tests}
use Rattle.residue_theory.proofs.SetLaws.{both-first, differ, not_true}
use Rattle.residue_theory.proofs.SumLaws.{nat_cases}
use Rattle.linear_algebra.specs.Bases.{IsBase}
use Rattle.closed_sets.specs.Walks.{Walk}
use Rattle.closed_sets.proofs.WalkLaws.{follows-walk}
use Rattle.mixed_matrices.specs.Arcs.{has_base, has_match, is_end, is_free, leads_to}
use Rattle.mixed_matrices.specs.LayeredMatrices.{LayeredMatrix}
use Rattle.mixed_matrices.specs.Pairs.{IsMatching}
use Rattle.mixed_matrices.specs.Tableaus.{Tableau, HasTableau}
use Rattle.mixed_pair_laws.proofs.ArcFacts.{base_found, end-q, end-t, end-tells, follows-q, follows-t, leads-q, leads-t}
use Rattle.mixed_pair_laws.proofs.ArcFacts.{leads-tells, match_found, no_base, no_match}
use Rattle.mixed_augmentation_laws.specs.Moves.{TakesRow, TakesMate, Route, IsRoute}
use Rattle.mixed_augmentation_laws.specs.Sealed.{IsSealed, HoldsRows, IsRooted, HaveStayed, KeepsSealed}
use Rattle.mixed_augmentation_laws.proofs.Moves.{test_cases}
use Rattle.mixed_augmentation_laws.proofs.Routes.{free_row-end}

-- ---- sealed sets hold their rows
module _ (p : ℕ) (L : LayeredMatrix) (F : Tableau) (C : ℕ → Bool) where
  pub sealed-rows : IsSealed p L F C → HoldsRows p L F C
  sealed-rows S = record {
    of_q = λ x i xl xh il ne. elim (test_cases (has_base L F i)) [
      | inl h ↦ let (y, yl, b, e) = base_found L F i h in (
        y,
        yl,
        follows-q p L F C S.follows x y xl yl xh b (λ z. ne
            (ap (λ k. F.P k x % p) (sym e) ∙ z)),
        b,
        e,
      )
      | inr none ↦ absurd (S.no_end x xl xh (end-q p L F x i il ne none))
    ];
    of_t = λ x i xl xh il s. elim (test_cases (has_match L F i)) [
      | inl h ↦ let (y, yl, m, e) = match_found L F i h in (
        y,
        yl,
        follows-t p L F C S.follows x y xl yl xh m (ap
            (λ k. L.t k x) e ∙ s),
        m,
        e,
      )
      | inr none ↦ absurd (S.no_end x xl xh (end-t p L F x i il s none))
    ];
  }

  pub rows-sealed : IsBase p F.P L.q_rows L.columns F.base F.row → IsMatching L F.matched F.mate → HoldsRows p L F C →
      IsSealed p L F C
  rows-sealed B M H = record {
    holds_starts = λ x l h. absurd (differ refl h);
    no_end = λ x l h e. elim (end-tells p L F x e) [
      | inl (i, il, ne, none) ↦ let (y, yl, c, b, at_row) = H.of_q x i l h il ne in no_base L F i none y yl b at_row
      | inr (i, il, s, none) ↦ let (y, yl, c, m, at_row) = H.of_t x i l h il s in no_match L F i none y yl m at_row
    ];
    follows = λ x y xl yl h a. elim (leads-tells p L F x y a) [
      | inl (b, ne) ↦ let (z, zl, c, zb, e) = H.of_q x (F.row y) xl h (B.row_below y yl b) ne in subst
          (λ k. C k ≡ true) (B.distinct z y zl yl zb b e) c
      | inr (m, s) ↦ let (z, zl, c, zm, e) = H.of_t x (F.mate y) xl h (M.below y yl m) s in subst (λ k. C k ≡ true)
          (M.distinct z y zl yl zm m e) c
    ];
  }

-- ---- one move
module _ (p : ℕ) (L : LayeredMatrix) (F G : Tableau) (C : ℕ → Bool) where
  pub stayed-rows : HaveStayed p L F G C → HoldsRows p L F C → HoldsRows p L G C
  stayed-rows K H = record {
    of_q = λ x i xl h il ne. let (y, yl, c, b, e) = H.of_q x i xl h il (λ z. ne (K.entries i x il xl h ∙ z)) in
        (y, yl, c, K.tests y yl c ∙ b, K.rows y yl c b ∙ e);
    of_t = λ x i xl h il s. let (y, yl, c, m, e) = H.of_t x i xl h il s in (
      y,
      yl,
      c,
      K.matches y yl c
          ∙ m,
      K.mates y yl c ∙ e,
    );
  }

  module _ (H : HoldsRows p L F C) (v : ℕ) (out : C v ≡ false) where
    apart : (x : ℕ) → C x ≡ true → x ≢ v
    apart x h e = differ out (subst (λ k. C k ≡ true) e h)

    pub mate-stays : (t : ℕ) → TakesMate L F G t v → HaveStayed p L F G C
    mate-stays t K = record {
      tests = λ x l h. ap (λ B. B x) K.same_base;
      rows = λ x l h b. ap (λ R. R x) K.same_rows;
      matches = λ x l h. K.linked.tests x l (apart x h);
      mates = λ x l h. K.linked.mates x l (apart x h);
      entries = λ i x il l h. ap (λ a. a i x % p) K.entries;
    }

    module _ (r : ℕ) (rl : r < L.q_rows) (away : (y : ℕ) → y < L.columns → F.base y ≡ true → F.row y ≡ r →
        C y ≡ false) where
      zero_there : (x : ℕ) → x < L.columns → C x ≡ true → F.P r x % p ≡ 0
      zero_there x l h = elim (nat_cases (F.P r x % p) 0) [
        | inl z ↦ z
        | inr ne ↦ let (y, yl, c, b, e) = H.of_q x r l h rl ne in absurd (differ (away y yl b e) c)
      ]

      pub row-stays : TakesRow p L F G r v → HaveStayed p L F G C
      row-stays K = record {
        tests = λ x l h. tests x l h (test_cases (G.base x)) (test_cases (F.base x));
        rows = λ x l h b. (K.taken.only x l (apart x h) (kept x l h b)).2;
        matches = λ x l h. K.unlinked.tests x l (apart x h);
        mates = λ x l h. K.unlinked.mates x l (apart x h);
        entries = λ i x il l h. K.pivoted.keeps x l (zero_there x l h) i il;
      }
        where
          kept : (x : ℕ) → x < L.columns → C x ≡ true → F.base x ≡ true → G.base x ≡ true
          kept x l h b = K.taken.kept x l (apart x h) b (λ e. differ (away x l b e) h)

          tests : (x : ℕ) → x < L.columns → C x ≡ true → (G.base x ≡ true) ⊎ (G.base x ≡ false) →
              (F.base x ≡ true) ⊎ (F.base x ≡ false) → G.base x ≡ F.base x
          tests x l h (inl g) (inl f) = g ∙ sym f
          tests x l h (inr g) (inr f) = g ∙ sym f
          tests x l h (inl g) (inr f) = absurd (differ f (K.taken.only x l (apart x h) g).0)
          tests x l h (inr g) (inl f) = absurd (differ g (kept x l h f))

-- ---- a route
module _ (p : ℕ) (L : LayeredMatrix) (F : Tableau) (R : Route) (W : IsRoute p L F R) where
  last-end : is_end p L F (R.at R.last) ≡ true
  last-end = free_row-end p L F (R.at R.last) (R.in_q R.last) (R.row R.last) (record {
    of_q = λ q. (W.row_below R.last (omega arith) q, W.entry R.last (omega arith) q, W.row_end q);
    of_t = λ t. (W.mate_below R.last (omega arith) t, W.symbol R.last (omega arith) t, W.mate_end t);
  })

  module _ (C : ℕ → Bool) (S : IsSealed p L F C) where
    next_in : (j : ℕ) → j < R.last → C (R.at j) ≡ true → C (R.at (suc j)) ≡ true
    next_in j l h = elim (test_cases (R.in_q j)) [
      | inl q ↦ let left = W.row_left j l q in
          follows-q p L F C S.follows (R.at j) (R.at (suc j)) (W.below j (omega arith)) (W.below (suc j)
          (omega arith)) h left.0
          (λ z. W.entry j (omega arith) q (ap (λ k. F.P k (R.at j) % p) (sym left.1) ∙ z))
      | inr t ↦ let left = W.mate_left j l t in
          follows-t p L F C S.follows (R.at j) (R.at (suc j)) (W.below j (omega arith)) (W.below (suc j)
          (omega arith)) h left.0
          (ap (λ k. L.t k (R.at j)) left.1 ∙ W.symbol j (omega arith) t)
    ]

    none_in : (d j : ℕ) → j + d ≡ R.last → C (R.at j) ≡ true → ⊥
    none_in zero j e h =
        let here : j ≡ R.last = omega arith in
        S.no_end (R.at R.last) (W.below R.last (omega arith)) (subst (λ k. C (R.at k) ≡ true) here h) last-end
    none_in (suc d) j e h = none_in d (suc j) (omega arith) (next_in j (omega arith) h)

    pub route-misses : (j : ℕ) → j ≤ R.last → C (R.at j) ≡ false
    route-misses j le = not_true (C (R.at j)) (go (le_split j le))
      where
        le_split : (j : ℕ) → j ≤ R.last → (d : ℕ) × (j + d ≡ R.last)
        le_split j le = (R.last - j, omega arith)

        go : (d : ℕ) × (j + d ≡ R.last) → C (R.at j) ≡ true → ⊥
        go (d, e) = none_in d j e

  -- no column of the set has a Q row that is taken
  module _ (T : HasTableau p L F) (C : ℕ → Bool) (S : IsSealed p L F C) where
    no_taken : (i : ℕ) → i ≤ R.last → R.in_q i ≡ true → (y : ℕ) → y < L.columns → C y ≡ true → F.base y ≡ true →
        F.row y ≡ R.row i → ⊥
    no_taken i le q y yl h b e = go (nat_cases i R.last)
      where
        go : (i ≡ R.last) ⊎ (i ≢ R.last) → ⊥
        go (inl end) = W.row_end (subst (λ x. R.in_q x ≡ true) end q) y yl b (e ∙ ap (λ x. R.row x) end)
        go (inr ne) =
            let left = W.row_left i (omega arith) q in
            let same : y ≡ R.at (suc i) = T.base.distinct y (R.at (suc i)) yl (W.below (suc i)
            (omega arith)) b left.0 (e ∙ sym left.1) in
            differ (route-misses C S (suc i) (omega arith)) (subst (λ x. C x ≡ true) same h)

    other_q : (j : ℕ) → j ≤ R.last → R.in_q j ≡ true → (x : ℕ) → x < L.columns → C x ≡ true → F.P (R.row j) x % p ≡ 0
    other_q j le q x xl h = elim (nat_cases (F.P (R.row j) x % p) 0) [
      | inl z ↦ z
      | inr ne ↦ let (y, yl, c, b, e) = (sealed-rows p L F C S).of_q x (R.row j) xl h
          (W.row_below j le q) ne in absurd (no_taken j le q y yl c b e)
    ]

    no_mate : (i : ℕ) → i ≤ R.last → R.in_q i ≡ false → (y : ℕ) → y < L.columns → C y ≡ true → F.matched y ≡ true →
        F.mate y ≡ R.row i → ⊥
    no_mate i le t y yl h m e = go (nat_cases i R.last)
      where
        go : (i ≡ R.last) ⊎ (i ≢ R.last) → ⊥
        go (inl end) = W.mate_end (subst (λ x. R.in_q x ≡ false) end t) y yl m (e ∙ ap (λ x. R.row x) end)
        go (inr ne) =
            let left = W.mate_left i (omega arith) t in
            let same : y ≡ R.at (suc i) = T.matching.distinct y (R.at (suc i)) yl (W.below (suc i)
            (omega arith)) m left.0 (e ∙ sym left.1) in
            differ (route-misses C S (suc i) (omega arith)) (subst (λ x. C x ≡ true) same h)

    other_t : (j : ℕ) → j ≤ R.last → R.in_q j ≡ false → (x : ℕ) → x < L.columns → C x ≡ true → L.t (R.row j) x ≡ false
    other_t j le t x xl h = not_true (L.t (R.row j) x) (λ s.
        let (y, yl, c, m, e) = (sealed-rows p L F C S).of_t x (R.row j) xl h
        (W.mate_below j le t) s in no_mate j le t y yl c m e)

    pub route-other : (j : ℕ) → j ≤ R.last → (x : ℕ) → x < L.columns → C x ≡ true →
        (R.in_q j ≡ true → F.P (R.row j) x % p ≡ 0) × (R.in_q j ≡ false → L.t (R.row j) x ≡ false)
    route-other j le x xl h = ((λ q. other_q j le q x xl h), λ t. other_t j le t x xl h)

pub self-keeps : (p : ℕ) (L : LayeredMatrix) (F : Tableau) → KeepsSealed p L F F
self-keeps p L F C S = record {
  tests = λ x l h. refl;
  rows = λ x l h b. refl;
  matches = λ x l h. refl;
  mates = λ x l h. refl;
  entries = λ i x il l h. refl;
}

pub stayed-join : (p : ℕ) (L : LayeredMatrix) (F G H : Tableau) (C : ℕ → Bool) → HaveStayed p L F G C →
    HaveStayed p L G H C → HaveStayed p L F H C
stayed-join p L F G H C A B = record {
  tests = λ x l h. B.tests x l h ∙ A.tests x l h;
  rows = λ x l h b. B.rows x l h (A.tests x l h ∙ b) ∙ A.rows x l h b;
  matches = λ x l h. B.matches x l h ∙ A.matches x l h;
  mates = λ x l h. B.mates x l h ∙ A.mates x l h;
  entries = λ i x il l h. B.entries i x il l h ∙ A.entries i x il l h;
}

-- ---- the moves of a route
module _ (p : ℕ) (L : LayeredMatrix) (F : Tableau) (R : Route) (T : HasTableau p L F) (W : IsRoute p L F R) (i : ℕ)
    (le : i ≤ R.last) (G H : Tableau) (K : KeepsSealed p L F G) where
  pub row-keeps : R.in_q i ≡ true → TakesRow p L G H (R.row i) (R.at i) → KeepsSealed p L F H
  row-keeps q M C S = stayed-join p L F G H C (K C S)
      (row-stays p L G H C (stayed-rows p L F G C (K C S) (sealed-rows p L F C S)) (R.at i)
      (route-misses p L F R W C S i le) (R.row i) (W.row_below i le q) away M)
    where
      away : (y : ℕ) → y < L.columns → G.base y ≡ true → G.row y ≡ R.row i → C y ≡ false
      away y yl b e = not_true (C y) (λ h. let A = K C S in let was : F.base y ≡ true = sym (A.tests y yl h) ∙ b in
          no_taken p L F R W T C S i le q y yl h was (sym (A.rows y yl h was) ∙ e))

  pub mate-keeps : R.in_q i ≡ false → TakesMate L G H (R.row i) (R.at i) → KeepsSealed p L F H
  mate-keeps t M C S = stayed-join p L F G H C (K C S)
      (mate-stays p L G H C (stayed-rows p L F G C (K C S) (sealed-rows p L F C S)) (R.at i)
      (route-misses p L F R W C S i le) (R.row i) M)

-- ---- what has stayed is sealed again
module _ (p : ℕ) (L : LayeredMatrix) (F G : Tableau) (C : ℕ → Bool) (K : HaveStayed p L F G C) where
  pub stayed-free : (x : ℕ) → x < L.columns → C x ≡ true → is_free G x ≡ is_free F x
  unfolding is_free
  stayed-free x l h = ap (λ b. not b && not (G.matched x)) (K.tests x l h) ∙ ap (λ m. not (F.base x) && not m)
      (K.matches x l h)

  module _ (T : HasTableau p L F) (S : IsSealed p L F C) where
    pub stayed-sealed : HasTableau p L G → IsSealed p L G C
    stayed-sealed U = rows-sealed p L G C U.base U.matching (stayed-rows p L F G C K (sealed-rows p L F C S))

    other : (x y : ℕ) → leads_to p L F x y ≡ true → x ≢ y
    unfolding leads_to
    other x y a = tells (both-first (not (eqb x y)) ((F.base y && not (eqb (F.P (F.row y) x % p) 0)) ||
        (F.matched y && L.t (F.mate y) x)) a)
      where
        tells : not (eqb x y) ≡ true → x ≢ y
        tells h = grind (arith, nat_tests)

    stayed-arc : (x y : ℕ) → x < L.columns → y < L.columns → C x ≡ true → C y ≡ true → leads_to p L F x y ≡ true →
        leads_to p L G x y ≡ true
    stayed-arc x y xl yl xh yh a = elim (leads-tells p L F x y a) [
      | inl (b, ne) ↦ leads-q p L G x y (other x y a) (K.tests y yl yh ∙ b)
          (λ z. ne (sym (K.entries (F.row y) x (T.base.row_below y yl b) xl xh) ∙ ap (λ k. G.P k x % p) (sym
          (K.rows y yl yh b)) ∙ z))
      | inr (m, s) ↦ leads-t p L G x y (other x y a) (K.matches y yl yh ∙ m) (ap (λ k. L.t k x) (K.mates y yl yh) ∙ s)
    ]

    stayed-walk : (k s y : ℕ) → s < L.columns → y < L.columns → C s ≡ true → Walk (leads_to p L F) L.columns s y k →
        Walk (leads_to p L G) L.columns s y k
    stayed-walk zero s y sl yl h e = e
    stayed-walk (suc k) s y sl yl h (z, zl, w, a) =
        let zh : C z ≡ true = follows-walk (leads_to p L F) L.columns C S.follows k s z sl zl h w in
        (z, zl, stayed-walk k s z sl zl h w, stayed-arc z y zl yl zh (S.follows z y zl yl zh a) a)

    pub stayed-rooted : IsRooted p L F C → IsRooted p L G C
    stayed-rooted Q x xl h =
        let (s, sl, c, f, (k, w)) = Q x xl h in
        (s, sl, c, stayed-free s sl c ∙ f, (k, stayed-walk k s x sl xl c w))
