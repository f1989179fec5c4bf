-- The chain of moves along a walk keeps its stage, and ends in a pair with one column more.
use Rattle.std.proofs.Common.{◌≡◌, ℕ, zero, suc, ◌+◌, ◌%◌, ◌<◌, ◌≤◌, ◌≢◌, Bool, true, false, ◌||◌, ◌⊎◌, inl, inr, refl, ap, sym, subst, ◌∙◌, arith}
use Rattle.std.proofs.lemmas.Bool.Decides.{nat_tests}
use Rattle.residue_theory.specs.Sets.{with_one, either}
use Rattle.linear_algebra.specs.Bases.{IsBaseTaken, IsBase}
use Rattle.linear_algebra.specs.RowOperations.{IsPivoted}
use Rattle.linear_algebra.specs.Kernels.{SameKernel}
use Rattle.linear_algebra_laws.proofs.Kernels.{kernel-trans}
use Rattle.residue_theory.proofs.SumLaws.{nat_cases, sum_on-same}
use Rattle.residue_theory.proofs.CountLaws.{sum-with_one}
use Rattle.mixed_matrices.specs.LayeredMatrices.{LayeredMatrix}
use Rattle.mixed_matrices.specs.Pairs.{IsMatching, pair_size}
use Rattle.mixed_matrices.specs.Tableaus.{Tableau, HasTableau}
use Rattle.residue_theory.proofs.SetLaws.{differ, either-first, either-second, with_one-new}
use Rattle.residue_theory.proofs.CountLaws.{size-either}
use Rattle.mixed_augmentation_laws.specs.Moves.{IsUnlinked, IsLinked, TakesRow, TakesMate, Route, IsRoute, IsStage}

pub test_cases : (b : Bool) → (b ≡ true) ⊎ (b ≡ false)
test_cases true = inl refl
test_cases false = inr refl

or-neither : (a b : Bool) → a ≡ false → b ≡ false → (a || b) ≡ false
or-neither a b h k = grind arith

-- a pivot keeps the base columns unit columns
pub base-taken : (p m n : ℕ) (F G : Tableau) (r v : ℕ) → r < m → IsBase p F.P m n F.base F.row →
    IsPivoted p m n F.P G.P r v → IsBaseTaken n F.base F.row G.base G.row r v → IsBase p G.P m n G.base G.row
base-taken p m n F G r v rl base pivoted taken = record { row_below = row_below; one = one; zero = zero_at; distinct = distinct }
  where
    stays : (c i : ℕ) → c < n → F.base c ≡ true → F.row c ≢ r → i < m → G.P i c % p ≡ F.P i c % p
    stays c i cl ch ne il = pivoted.keeps c cl (base.zero c r cl ch rl (λ e. ne (sym e))) i il

    row_below : (c : ℕ) → c < n → G.base c ≡ true → G.row c < m
    row_below c cl ch = elim (nat_cases c v) [
      | inl q ↦ subst (λ x. G.row x < m) (sym q) (subst (λ x. x < m) (sym taken.at_row) rl)
      | inr ne ↦ let old = taken.only c cl ne ch in subst (λ x. x < m) (sym old.2) (base.row_below c cl old.0)
    ]

    one : (c : ℕ) → c < n → G.base c ≡ true → G.P (G.row c) c % p ≡ 1
    one c cl ch = elim (nat_cases c v) [
      | inl q ↦ subst (λ x. G.P (G.row x) x % p ≡ 1) (sym q) (ap (λ x. G.P x v % p) taken.at_row ∙ pivoted.one)
      | inr ne ↦ let old = taken.only c cl ne ch in ap (λ x. G.P x c % p) old.2 ∙ stays c (F.row c) cl old.0 old.1
          (base.row_below c cl old.0) ∙ base.one c cl old.0
    ]

    zero_at : (c i : ℕ) → c < n → G.base c ≡ true → i < m → i ≢ G.row c → G.P i c % p ≡ 0
    zero_at c i cl ch il apart = elim (nat_cases c v) [
      | inl q ↦ subst (λ x. G.P i x % p ≡ 0) (sym q) (pivoted.zero i il (λ e. apart (e ∙ sym taken.at_row ∙ ap
          (λ x. G.row x) (sym q))))
      | inr ne ↦ let old = taken.only c cl ne ch in stays c i cl old.0 old.1 il ∙ base.zero c i cl old.0 il
          (λ e. apart (e ∙ sym old.2))
    ]

    distinct : (c d : ℕ) → c < n → d < n → G.base c ≡ true → G.base d ≡ true → G.row c ≡ G.row d → c ≡ d
    distinct c d cl dl ch dh e = both_cases (nat_cases c v) (nat_cases d v)
      where
        both_cases : (c ≡ v) ⊎ (c ≢ v) → (d ≡ v) ⊎ (d ≢ v) → c ≡ d
        both_cases (inl q) (inl s) = q ∙ sym s
        both_cases (inl q) (inr ne) = let old = taken.only d dl ne dh in absurd (old.1 (sym old.2 ∙ sym e ∙ ap
            (λ x. G.row x) q ∙ taken.at_row))
        both_cases (inr ne) (inl s) = let old = taken.only c cl ne ch in absurd (old.1 (sym old.2 ∙ e ∙ ap
            (λ x. G.row x) s ∙ taken.at_row))
        both_cases (inr ne) (inr other) = let oc = taken.only c cl ne ch in let od = taken.only d dl other dh in
            base.distinct c d cl dl oc.0 od.0 (sym oc.2 ∙ e ∙ od.2)

pub matching-unlinked : (L : LayeredMatrix) (F G : Tableau) (v : ℕ) → IsMatching L F.matched F.mate →
    IsUnlinked L.columns F.matched F.mate G.matched G.mate v → IsMatching L G.matched G.mate
matching-unlinked L F G v M U = record {
  below = λ j jl jh. subst (λ x. x < L.t_rows) (sym (U.mates j jl (other j jh))) (M.below j jl (old j jl jh));
  symbol = λ j jl jh. ap (λ x. L.t x j) (U.mates j jl (other j jh)) ∙ M.symbol j jl (old j jl jh);
  distinct = λ j k jl kl jh kh e. M.distinct j k jl kl (old j jl jh) (old k kl kh) (sym (U.mates j jl (other j jh))
      ∙ e ∙ U.mates k kl (other k kh));
}
  where
    other : (j : ℕ) → G.matched j ≡ true → j ≢ v
    other j jh q = differ U.gone (ap (λ x. G.matched x) (sym q) ∙ jh)

    old : (j : ℕ) → j < L.columns → G.matched j ≡ true → F.matched j ≡ true
    old j jl jh = sym (U.tests j jl (other j jh)) ∙ jh

pub matching-linked : (L : LayeredMatrix) (F G : Tableau) (t v : ℕ) → IsMatching L F.matched F.mate →
    IsLinked L.columns F.matched F.mate G.matched G.mate t v → t < L.t_rows → L.t t v ≡ true →
    ((y : ℕ) → y < L.columns → F.matched y ≡ true → F.mate y ≢ t) → IsMatching L G.matched G.mate
matching-linked L F G t v M K tl touches free = record { below = below; symbol = symbol; distinct = distinct }
  where
    old : (j : ℕ) → j < L.columns → j ≢ v → G.matched j ≡ true → F.matched j ≡ true
    old j jl ne jh = sym (K.tests j jl ne) ∙ jh

    below : (j : ℕ) → j < L.columns → G.matched j ≡ true → G.mate j < L.t_rows
    below j jl jh = elim (nat_cases j v) [
      | inl q ↦ subst (λ x. G.mate x < L.t_rows) (sym q) (subst (λ x. x < L.t_rows) (sym K.partner) tl)
      | inr ne ↦ subst (λ x. x < L.t_rows) (sym (K.mates j jl ne)) (M.below j jl (old j jl ne jh))
    ]

    symbol : (j : ℕ) → j < L.columns → G.matched j ≡ true → L.t (G.mate j) j ≡ true
    symbol j jl jh = elim (nat_cases j v) [
      | inl q ↦ subst (λ x. L.t (G.mate x) x ≡ true) (sym q) (ap (λ x. L.t x v) K.partner ∙ touches)
      | inr ne ↦ ap (λ x. L.t x j) (K.mates j jl ne) ∙ M.symbol j jl (old j jl ne jh)
    ]

    distinct : (c d : ℕ) → c < L.columns → d < L.columns → G.matched c ≡ true → G.matched d ≡ true →
        G.mate c ≡ G.mate d → c ≡ d
    distinct c d cl dl ch dh e = both_cases (nat_cases c v) (nat_cases d v)
      where
        both_cases : (c ≡ v) ⊎ (c ≢ v) → (d ≡ v) ⊎ (d ≢ v) → c ≡ d
        both_cases (inl q) (inl s) = q ∙ sym s
        both_cases (inl q) (inr ne) = absurd (free d dl (old d dl ne dh) (sym (K.mates d dl ne) ∙ sym e ∙ ap
            (λ x. G.mate x) q ∙ K.partner))
        both_cases (inr ne) (inl s) = absurd (free c cl (old c cl ne ch) (sym (K.mates c cl ne) ∙ e ∙ ap
            (λ x. G.mate x) s ∙ K.partner))
        both_cases (inr ne) (inr other) = M.distinct c d cl dl (old c cl ne ch) (old d dl other dh) (sym
            (K.mates c cl ne) ∙ e ∙ K.mates d dl other)

module _ (p : ℕ) (L : LayeredMatrix) (F : Tableau) (R : Route) (T : HasTableau p L F) (W : IsRoute p L F R) where
  apart_at : (y : ℕ) → y < L.columns → F.base y ≡ true → F.matched y ≡ true → ⊥
  apart_at y yl b j = differ (T.apart y yl b) j

  -- a base column that is to move later has another row
  keeps_row : (i j : ℕ) → i < j → j ≤ R.last → R.in_q j ≡ true → F.base (R.at i) ≡ true → F.row (R.at i) ≡ R.row j → ⊥
  keeps_row i j less le q b e =
      omega (
        arith,
        sym (W.far i j less le q) ∙ ap (λ x. F.P x (R.at i) % p) (sym e) ∙ T.base.one (R.at i) (W.below i
            (omega arith)) b,
      )

  -- a column that takes a Q row is no base column
  pub row_taker : (j : ℕ) → j ≤ R.last → R.in_q j ≡ true → F.base (R.at j) ≡ false
  row_taker j le q = elim (test_cases (F.base (R.at j))) [
    | inl b ↦ absurd (go b (nat_cases (R.row j) (F.row
        (R.at j))))
    | inr n ↦ n
  ]
    where
      at_own : F.base (R.at j) ≡ true → F.row (R.at j) ≡ R.row j → (j ≡ R.last) ⊎ (j ≢ R.last) → ⊥
      at_own b e (inl end) = W.row_end (subst (λ x. R.in_q x ≡ true) end q) (R.at j) (W.below j le) b (e ∙ ap
          (λ x. R.row x) end)
      at_own b e (inr ne) =
          let next = W.row_left j (omega arith) q in
          let same = W.differ (suc j) j (omega arith) le (T.base.distinct (R.at (suc j)) (R.at j) (W.below (suc j)
          (omega arith)) (W.below j le) next.0 b (next.1 ∙ sym e)) in
          omega arith

      go : F.base (R.at j) ≡ true → (R.row j ≡ F.row (R.at j)) ⊎ (R.row j ≢ F.row (R.at j)) → ⊥
      go b (inl e) = at_own b (sym e) (nat_cases j R.last)
      go b (inr ne) = W.entry j le q (T.base.zero (R.at j) (R.row j) (W.below j le) b (W.row_below j le q) ne)

  -- each column but the first is used
  used_at : (j : ℕ) → j < R.last → (F.base (R.at (suc j)) || F.matched (R.at (suc j))) ≡ true
  used_at j less = elim (test_cases (R.in_q j)) [
    | inl q ↦ either-first (F.base (R.at (suc j))) (F.matched (R.at (suc j))) (W.row_left j less q).0
    | inr t ↦ either-second (F.base (R.at (suc j))) (F.matched (R.at (suc j))) (W.mate_left j less t).0
  ]

  -- before the first move
  pub stage-start : IsStage p L F R (suc R.last) F
  stage-start = record {
    le = omega arith;
    kernel = T.kernel;
    unit_columns = T.base;
    matching = T.matching;
    entries = λ j r less rl. refl;
    same_base = λ j less. refl;
    same_match = λ j less. refl;
    same_row = λ j less h. refl;
    same_mate = λ j less h. refl;
    row_place = λ j e q y yl b at_place. absurd (W.row_end (subst (λ x. R.in_q x ≡ true) (last_of j e) q) y yl b
        (at_place ∙ ap (λ x. R.row x) (last_of j e)));
    mate_place = λ j e t y yl m at_place. W.mate_end (subst (λ x. R.in_q x ≡ false) (last_of j e) t) y yl m (at_place
        ∙ ap (λ x. R.row x) (last_of j e));
    both_have = λ y yl b j. absurd (apart_at y yl b j);
    used = λ y yl h. refl;
    used_first = λ e. absurd (omega arith);
  }
    where
      last_of : (j : ℕ) → suc j ≡ suc R.last → j ≡ R.last
      last_of j e = omega arith

  module _ (i : ℕ) (G H : Tableau) (stage : IsStage p L F R (suc i) G) where
    i_le : i ≤ R.last
    i_le = omega (arith, stage.le)

    x_below : R.at i < L.columns
    x_below = W.below i i_le

    earlier : (j : ℕ) → j < i → R.at j ≢ R.at i
    earlier j less e = omega (arith, W.differ j i (omega (arith, i_le)) i_le e)

    earlier_below : (j : ℕ) → j < i → R.at j < L.columns
    earlier_below j less = W.below j (omega (arith, i_le))

    -- what the pivot and the link need
    pub row-entry : R.in_q i ≡ true → G.P (R.row i) (R.at i) % p ≢ 0
    row-entry q z = W.entry i i_le q (sym (stage.entries i (R.row i) (omega arith) (W.row_below i i_le q)) ∙ z)

    pub row-no_base : R.in_q i ≡ true → G.base (R.at i) ≡ false
    row-no_base q = stage.same_base i (omega arith) ∙ row_taker i i_le q

    -- x is used after its move, as it was before unless it is the first
    used_now : (b : Bool) → b ≡ true → (0 < i) ⊎ (R.at i ≢ R.at 0) → b ≡ (F.base (R.at i) || F.matched (R.at i))
    used_now b h c = h ∙ sym (go i refl c)
      where
        go : (w : ℕ) → i ≡ w → (0 < i) ⊎ (R.at i ≢ R.at 0) → (F.base (R.at i) || F.matched (R.at i)) ≡ true
        go zero e (inl pos) = absurd (omega arith)
        go zero e (inr ne) = absurd (ne (ap (λ x. R.at x) e))
        go (suc j) e _ = subst (λ x. (F.base (R.at x) || F.matched (R.at x)) ≡ true) (sym e) (used_at j (omega
            (arith, i_le)))

    pub stage-row : R.in_q i ≡ true → TakesRow p L G H (R.row i) (R.at i) → IsStage p L F R i H
    stage-row q move = record {
      le = omega (arith, i_le);
      kernel = kernel-trans p L.q_rows L.columns L.q G.P H.P stage.kernel move.pivoted.kernel;
      unit_columns = base-taken p L.q_rows L.columns G H (R.row i) (R.at i)
          (W.row_below i i_le q) stage.unit_columns move.pivoted move.taken;
      matching = matching-unlinked L G H (R.at i) stage.matching move.unlinked;
      entries = λ j r less rl. move.pivoted.keeps (R.at j) (earlier_below j less) (zero_before j less) r rl
          ∙ stage.entries j r (omega arith) rl;
      same_base = same_base;
      same_match = λ j less. move.unlinked.tests (R.at j) (earlier_below j less) (earlier j less)
          ∙ stage.same_match j (omega arith);
      same_row = λ j less b. (move.taken.only (R.at j) (earlier_below j less) (earlier j less) (same_base j less
          ∙ b)).2 ∙ stage.same_row j (omega arith) b;
      same_mate = λ j less m. move.unlinked.mates (R.at j) (earlier_below j less) (earlier j less)
          ∙ stage.same_mate j (omega arith) m;
      row_place = λ j e qj. absurd (differ (row_taker i i_le q) (subst (λ x. F.base (R.at x) ≡ true) e (W.row_left j
          (omega (arith, i_le)) qj).0));
      mate_place = mate_place;
      both_have = λ y yl b m. absurd (no_both y yl b m);
      used = used;
      used_first = λ e. either-first (H.base (R.at 0)) (H.matched (R.at 0)) (subst (λ x. H.base
          (R.at x) ≡ true) e move.taken.member);
    }
      where
        zero_before : (j : ℕ) → j < i → G.P (R.row i) (R.at j) % p ≡ 0
        zero_before j less = stage.entries j (R.row i) (omega arith) (W.row_below i i_le q) ∙ W.far j i less i_le q

        same_base : (j : ℕ) → j < i → H.base (R.at j) ≡ F.base (R.at j)
        same_base j less = go (test_cases (H.base (R.at j))) (test_cases (F.base (R.at j)))
          where
            go : (H.base (R.at j) ≡ true) ⊎ (H.base (R.at j) ≡ false) →
                (F.base (R.at j) ≡ true) ⊎ (F.base (R.at j) ≡ false) → H.base (R.at j) ≡ F.base (R.at j)
            go (inl h) (inl f) = h ∙ sym f
            go (inr h) (inr f) = h ∙ sym f
            go (inl h) (inr f) = absurd (differ (stage.same_base j (omega arith) ∙ f) (move.taken.only (R.at j)
                (earlier_below j less) (earlier j less) h).0)
            go (inr h) (inl f) = absurd (differ h (move.taken.kept (R.at j) (earlier_below j less) (earlier j less)
                (stage.same_base j (omega arith) ∙ f)
                (λ e. keeps_row j i less i_le q f (sym (stage.same_row j (omega arith) f) ∙ e))))

        mate_place : (j : ℕ) → suc j ≡ i → R.in_q j ≡ false → (y : ℕ) → y < L.columns → H.matched y ≡ true →
            H.mate y ≢ R.row j
        mate_place j e t y yl m at_place = apart (stage.matching.distinct y (R.at i) yl x_below (sym
            (move.unlinked.tests y yl apart) ∙ m) (stage.same_match i (omega arith) ∙ left.0)
            (sym (move.unlinked.mates y yl apart) ∙ at_place ∙ sym left.1 ∙ sym (stage.same_mate i
            (omega arith) left.0)))
          where
            left : (F.matched (R.at i) ≡ true) × (F.mate (R.at i) ≡ R.row j)
            left = subst (λ x. (F.matched (R.at x) ≡ true) × (F.mate (R.at x) ≡ R.row j)) e (W.mate_left j (omega
                (arith, i_le)) t)

            apart : y ≢ R.at i
            apart same = differ move.unlinked.gone (ap (λ x. H.matched x) (sym same) ∙ m)

        no_both : (y : ℕ) → y < L.columns → H.base y ≡ true → H.matched y ≡ true → ⊥
        no_both y yl b m =
            let old = move.taken.only y yl apart b in
            let held = stage.both_have y yl old.0 (sym (move.unlinked.tests y yl apart) ∙ m) in
            old.1 (held.3 ∙ ap (λ x. R.row x) (pred held.0 held.1))
          where
            apart : y ≢ R.at i
            apart same = differ move.unlinked.gone (ap (λ x. H.matched x) (sym same) ∙ m)

            pred : (j : ℕ) → suc j ≡ suc i → j ≡ i
            pred j e = omega arith

        used : (y : ℕ) → y < L.columns → (0 < i) ⊎ (y ≢ R.at 0) → (H.base y || H.matched y) ≡
            (F.base y || F.matched y)
        used y yl c = go (nat_cases y (R.at i))
          where
            other : y ≢ R.at i → (H.base y || H.matched y) ≡ (G.base y || G.matched y)
            other ne = cases (test_cases (H.base y)) (test_cases (G.base y)) (nat_cases (G.row y) (R.row i))
              where
                cases : (H.base y ≡ true) ⊎ (H.base y ≡ false) → (G.base y ≡ true) ⊎ (G.base y ≡ false) →
                    (G.row y ≡ R.row i) ⊎ (G.row y ≢ R.row i) → (H.base y || H.matched y) ≡ (G.base y || G.matched y)
                cases (inl h) _ _ = either-first (H.base y) (H.matched y) h ∙ sym (either-first (G.base y)
                    (G.matched y) (move.taken.only y yl ne h).0)
                cases (inr h) (inr g) _ = ap (λ b. b || H.matched y) (h ∙ sym g) ∙ ap (λ b. G.base y || b)
                    (move.unlinked.tests y yl ne)
                cases (inr h) (inl g) (inl e) =
                    let m = stage.row_place i refl q y yl g e in
                    either-second (H.base y) (H.matched y) (move.unlinked.tests y yl ne ∙ m) ∙ sym (either-first
                    (G.base y) (G.matched y) g)
                cases (inr h) (inl g) (inr away) = absurd (differ h (move.taken.kept y yl ne g away))

            go : (y ≡ R.at i) ⊎ (y ≢ R.at i) → (H.base y || H.matched y) ≡ (F.base y || F.matched y)
            go (inl e) = subst (λ x. (H.base x || H.matched x) ≡ (F.base x || F.matched x)) (sym e)
                (used_now (H.base (R.at i) || H.matched (R.at i)) (either-first (H.base (R.at i)) (H.matched
                (R.at i)) move.taken.member) (subst (λ x. (0 < i) ⊎ (x ≢ R.at 0)) e c))
            go (inr ne) = other ne ∙ stage.used y yl (inl (omega arith))

    pub stage-mate : R.in_q i ≡ false → TakesMate L G H (R.row i) (R.at i) → IsStage p L F R i H
    stage-mate t move = record {
      le = omega (arith, i_le);
      kernel = subst (λ a. SameKernel p L.q_rows L.columns L.q a) (sym move.entries) stage.kernel;
      unit_columns = base_now;
      matching = matching-linked L G H (R.row i) (R.at i) stage.matching move.linked (W.mate_below i i_le t)
          (W.symbol i i_le t) (stage.mate_place i refl t);
      entries = λ j r less rl. ap (λ a. a r (R.at j) % p) move.entries ∙ stage.entries j r (omega arith) rl;
      same_base = λ j less. base_is (R.at j) ∙ stage.same_base j (omega arith);
      same_match = λ j less. move.linked.tests (R.at j) (earlier_below j less) (earlier j less) ∙ stage.same_match j
          (omega arith);
      same_row = λ j less b. row_is (R.at j) ∙ stage.same_row j (omega arith) b;
      same_mate = λ j less m. move.linked.mates (R.at j) (earlier_below j less) (earlier j less) ∙ stage.same_mate j
          (omega arith) m;
      row_place = row_place;
      mate_place = mate_place;
      both_have = both;
      used = used;
      used_first = λ e. either-second (H.base (R.at 0)) (H.matched (R.at 0)) (subst (λ x. H.matched
          (R.at x) ≡ true) e move.linked.member);
    }
      where
        base_is : (y : ℕ) → H.base y ≡ G.base y
        base_is y = ap (λ b. b y) move.same_base

        row_is : (y : ℕ) → H.row y ≡ G.row y
        row_is y = ap (λ b. b y) move.same_rows

        base_now : IsBase p H.P L.q_rows L.columns H.base H.row
        base_now = subst (λ a. IsBase p a L.q_rows L.columns H.base H.row) (sym move.entries)
            (subst (λ b. IsBase p G.P L.q_rows L.columns b H.row) (sym move.same_base) (subst
            (λ r. IsBase p G.P L.q_rows L.columns G.base r) (sym move.same_rows) stage.unit_columns))

        row_place : (j : ℕ) → suc j ≡ i → R.in_q j ≡ true → (y : ℕ) → y < L.columns → H.base y ≡ true →
            H.row y ≡ R.row j → H.matched y ≡ true
        row_place j e q y yl b at_place = subst (λ x. H.matched x ≡ true) (sym same) move.linked.member
          where
            left : (F.base (R.at i) ≡ true) × (F.row (R.at i) ≡ R.row j)
            left = subst (λ x. (F.base (R.at x) ≡ true) × (F.row (R.at x) ≡ R.row j)) e (W.row_left j (omega
                (arith, i_le)) q)

            same : y ≡ R.at i
            same = stage.unit_columns.distinct y (R.at i) yl x_below (sym (base_is y) ∙ b) (stage.same_base i
                (omega arith) ∙ left.0)
                (sym (row_is y) ∙ at_place ∙ sym left.1 ∙ sym (stage.same_row i (omega arith) left.0))

        mate_place : (j : ℕ) → suc j ≡ i → R.in_q j ≡ false → (y : ℕ) → y < L.columns → H.matched y ≡ true →
            H.mate y ≢ R.row j
        mate_place j e tj y yl m at_place = go (nat_cases y (R.at i))
          where
            left : (F.matched (R.at i) ≡ true) × (F.mate (R.at i) ≡ R.row j)
            left = subst (λ x. (F.matched (R.at x) ≡ true) × (F.mate (R.at x) ≡ R.row j)) e (W.mate_left j (omega
                (arith, i_le)) tj)

            held : G.matched (R.at i) ≡ true
            held = stage.same_match i (omega arith) ∙ left.0

            held_at : G.mate (R.at i) ≡ R.row j
            held_at = stage.same_mate i (omega arith) left.0 ∙ left.1

            go : (y ≡ R.at i) ⊎ (y ≢ R.at i) → ⊥
            go (inl same) = stage.mate_place i refl t (R.at i) x_below held (held_at ∙ sym at_place ∙ ap
                (λ x. H.mate x) same ∙ move.linked.partner)
            go (inr ne) = ne (stage.matching.distinct y (R.at i) yl x_below (sym (move.linked.tests y yl ne)
                ∙ m) held (sym (move.linked.mates y yl ne) ∙ at_place ∙ sym held_at))

        both : (y : ℕ) → y < L.columns → H.base y ≡ true → H.matched y ≡ true → (j : ℕ) × (suc j ≡ i)
            × (R.in_q j ≡ true) × (H.row y ≡ R.row j)
        both y yl b m = go (nat_cases y (R.at i))
          where
            Held : Type 0
            Held = (j : ℕ) × (suc j ≡ i) × (R.in_q j ≡ true) × (H.row y ≡ R.row j)

            pred : (j : ℕ) → suc j ≡ suc i → j ≡ i
            pred j e = omega arith

            mine : y ≡ R.at i → (w : ℕ) → i ≡ w → Held
            mine same zero e = absurd (differ W.first.0 (subst (λ x. F.base (R.at x) ≡ true) e (sym
                (stage.same_base i (omega arith)) ∙ sym (base_is (R.at i)) ∙ ap (λ x. H.base x) (sym same) ∙ b)))
            mine same (suc j) e = elim (test_cases (R.in_q j)) [
              | inl q ↦ let left = W.row_left j (omega (arith, i_le)) q in (
                j,
                sym e,
                q,
                row_is y ∙ ap (λ x. G.row x) same ∙ stage.same_row i (omega arith) (subst
                    (λ x. F.base (R.at x) ≡ true) (sym e) left.0) ∙ ap (λ x. F.row (R.at x)) e ∙ left.1,
              )
              | inr tj ↦ let left = W.mate_left j (omega (arith, i_le)) tj in
                  absurd (apart_at (R.at i) x_below (sym (stage.same_base i (omega arith)) ∙ sym (base_is (R.at i))
                  ∙ ap (λ x. H.base x) (sym same) ∙ b) (ap (λ x. F.matched (R.at x)) e ∙ left.0))
            ]

            go : (y ≡ R.at i) ⊎ (y ≢ R.at i) → Held
            go (inl same) = mine same i refl
            go (inr ne) =
                let held = stage.both_have y yl (sym (base_is y) ∙ b) (sym (move.linked.tests y yl ne) ∙ m) in
                absurd (differ t (subst (λ x. R.in_q x ≡ true) (pred held.0 held.1) held.2))

        used : (y : ℕ) → y < L.columns → (0 < i) ⊎ (y ≢ R.at 0) → (H.base y || H.matched y) ≡
            (F.base y || F.matched y)
        used y yl c = elim (nat_cases y (R.at i)) [
          | inl e ↦ subst (λ x. (H.base x || H.matched x) ≡ (F.base x || F.matched x)) (sym e)
              (used_now (H.base (R.at i) || H.matched (R.at i)) (either-second (H.base (R.at i)) (H.matched
              (R.at i)) move.linked.member) (subst (λ x. (0 < i) ⊎ (x ≢ R.at 0)) e c))
          | inr ne ↦ ap (λ b. b || H.matched y) (base_is y) ∙ ap (λ b. G.base y || b) (move.linked.tests y yl ne)
              ∙ stage.used y yl (inl (omega arith))
        ]

  -- after the last move
  module _ (G : Tableau) (stage : IsStage p L F R 0 G) where
    pub end-tableau : HasTableau p L G
    end-tableau = record {
      kernel = stage.kernel;
      base = stage.unit_columns;
      matching = stage.matching;
      apart = λ y yl b. elim (test_cases (G.matched y)) [
        | inl m ↦ absurd (none
            (stage.both_have y yl b m))
        | inr n ↦ n
      ];
    }
      where
        none : {y : ℕ} → (j : ℕ) × (suc j ≡ 0) × (R.in_q j ≡ true) × (G.row y ≡ R.row j) → ⊥
        none held = omega (arith, held.1)

    pub end-size : pair_size L G.base G.matched ≡ pair_size L F.base F.matched + 1
    end-size = sym (size-either G.base G.matched L.columns end-tableau.apart)
        ∙ sum_on-same (either G.base G.matched) (with_one (either F.base F.matched) (R.at 0)) L.columns (λ _. 1) same
        ∙ sum-with_one (either F.base F.matched) L.columns (R.at 0) (λ _. 1) (W.below 0 (omega arith)) (or-neither
        (F.base (R.at 0)) (F.matched (R.at 0)) W.first.0 W.first.1)
        ∙ ap (λ s. s + 1) (size-either F.base F.matched L.columns T.apart)
      where
        same : (y : ℕ) → y < L.columns → either G.base G.matched y ≡ with_one (either F.base F.matched) (R.at 0) y
        same y yl = elim (nat_cases y (R.at 0)) [
          | inl e ↦ subst (λ x. either G.base G.matched x ≡ with_one (either F.base F.matched) (R.at 0) x) (sym e)
              (stage.used_first refl ∙ sym (with_one-new (either F.base F.matched) (R.at 0)))
          | inr ne ↦ stage.used y yl (inr ne) ∙ sym (other (either F.base F.matched) (R.at 0) y ne)
        ]
          where
            other : (X : ℕ → Bool) (v j : ℕ) → j ≢ v → with_one X v j ≡ X j
            other X v j ne = grind (arith, nat_tests)
