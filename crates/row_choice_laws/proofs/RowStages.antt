-- Along a route each row that has a column keeps one, and the last row gets one.
use Rattle.std.proofs.Common.{◌≡◌, ◌≢◌, ℕ, zero, suc, ◌<◌, ◌≤◌, Bool, true, false, ◌⊎◌, inl, inr, refl, ap, sym, subst}
use Rattle.std.proofs.Common.{◌∙◌, arith}
use Rattle.residue_theory.proofs.SetLaws.{differ}
use Rattle.residue_theory.proofs.SumLaws.{nat_cases}
use Rattle.mixed_matrices.specs.LayeredMatrices.{LayeredMatrix}
use Rattle.mixed_matrices.specs.Tableaus.{HasTableau, Tableau}
use Rattle.mixed_augmentation_laws.proofs.Moves.{row-no_base}
use Rattle.mixed_augmentation_laws.specs.Moves.{IsRoute, IsStage, Route, TakesMate, TakesRow}
use Rattle.row_choice_laws.specs.Growth.{HasQRow, HasTRow, IsRowStage}

module _ (p : ℕ) (L : LayeredMatrix) (F : Tableau) (R : Route) (T : HasTableau p L F) (W : IsRoute p L F R) where
  pub rows-begin : IsRowStage L F R (suc R.last) F
  rows-begin = record {
    kept_q = λ b bl bh _. (b, bl, bh, refl);
    kept_t = λ b bl bh _. (b, bl, bh, refl);
    gained_q = λ le. absurd (omega (arith, le));
    gained_t = λ le. absurd (omega (arith, le));
    only_q = λ y yl b. inl (y, yl, b, refl);
    only_t = λ y yl m. inl (y, yl, m, refl);
  }

  module _ (i : ℕ) (G H : Tableau) (stage : IsStage p L F R (suc i) G) (rows : IsRowStage L F R (suc i) G) where
    i_le : i ≤ R.last
    i_le = omega (arith, stage.le)

    -- a T row that the moving column has is the one that is taken next
    next-mate : G.matched (R.at i) ≡ true → (j : ℕ) × (suc j ≡ i) × (R.in_q j ≡ false) × (R.row j ≡ G.mate (R.at i))
    next-mate m = go i refl
      where
        was : F.matched (R.at i) ≡ true
        was = sym (stage.same_match i (omega arith)) ∙ m

        go : (w : ℕ) → i ≡ w → (j : ℕ) × (suc j ≡ i) × (R.in_q j ≡ false) × (R.row j ≡ G.mate (R.at i))
        go zero e = absurd (differ W.first.1 (subst (λ x. F.matched (R.at x) ≡ true) e was))
        go (suc j) e = at (R.in_q j) refl
          where
            less : j < R.last
            less = omega (arith, i_le, e)

            at : (q : Bool) → R.in_q j ≡ q → (j : ℕ) × (suc j ≡ i) × (R.in_q j ≡ false) × (R.row j ≡ G.mate (R.at i))
            at true q = absurd (differ (T.apart (R.at (suc j)) (W.below (suc j) (omega (arith, less))) (W.row_left j less q).0)
                (subst (λ x. F.matched (R.at x) ≡ true) e was))
            at false q = (j, sym e, q, sym (W.mate_left j less q).1 ∙ ap (λ x. F.mate (R.at x)) (sym e) ∙ sym (stage.same_mate i (omega arith) was))

    -- and it is not the last row
    not-last : G.matched (R.at i) ≡ true → R.in_q R.last ≡ false → G.mate (R.at i) ≡ R.row R.last → ⊥
    not-last m t q = W.mate_end t (R.at i) (W.below i i_le) was (sym (stage.same_mate i (omega arith) was) ∙ q)
      where
        was : F.matched (R.at i) ≡ true
        was = sym (stage.same_match i (omega arith)) ∙ m

    pub rows-take_row : R.in_q i ≡ true → TakesRow p L G H (R.row i) (R.at i) → IsRowStage L F R i H
    rows-take_row q move = record {
      kept_q = λ b bl bh away. moved (F.row b) (λ ne. rows.kept_q b bl bh (λ j e qj g. ne (sym g ∙ ap R.row (pred j e))));
      kept_t = λ b bl bh away. unmoved (F.mate b) (rows.kept_t b bl bh (λ j e tj g. differ tj (subst (λ x. R.in_q x ≡ true) (sym (pred j e)) q)))
          (λ m g. let (j, e, tj, same) = next-mate m in away j e tj (same ∙ g));
      gained_q = λ le ql. moved (R.row R.last) (λ ne. rows.gained_q (above (λ e. ne (ap R.row (sym e)))) ql);
      gained_t = λ le tl. unmoved (R.row R.last) (rows.gained_t (above (λ e. differ tl (subst (λ x. R.in_q x ≡ true) e q))) tl)
          (λ m g. not-last m tl g);
      only_q = λ y yl b. only_row y yl b (nat_cases y (R.at i));
      only_t = λ y yl m. let ne : y ≢ R.at i = (λ e. differ move.unlinked.gone (subst (λ x. H.matched x ≡ true) e m)) in
          subst (λ r. HasTRow L F r ⊎ ((R.in_q R.last ≡ false) × (r ≡ R.row R.last))) (sym (move.unlinked.mates y yl ne))
          (rows.only_t y yl (sym (move.unlinked.tests y yl ne) ∙ m));
    }
      where
        pred : (j : ℕ) → suc j ≡ suc i → j ≡ i
        pred j e = omega (arith, e)

        above : i ≢ R.last → suc i ≤ R.last
        above ne = omega (arith, i_le, ne)

        -- a Q row with a column in G has one in H
        moved : (r : ℕ) → (r ≢ R.row i → HasQRow L G r) → HasQRow L H r
        moved r old = elim (nat_cases r (R.row i)) [
          | inl e ↦ (R.at i, W.below i i_le, move.taken.member, move.taken.at_row ∙ sym e)
          | inr ne ↦ other ne (old ne)
        ]
          where
            other : r ≢ R.row i → HasQRow L G r → HasQRow L H r
            other ne (y, yl, b, e) = let kept : H.base y ≡ true = move.taken.kept y yl apart b (λ g. ne (sym e ∙ g)) in
                (y, yl, kept, (move.taken.only y yl apart kept).2 ∙ e)
              where
                apart : y ≢ R.at i
                apart g = differ (row-no_base p L F R T W i G H stage q) (subst (λ x. G.base x ≡ true) g b)

        unmoved : (r : ℕ) → HasTRow L G r → (G.matched (R.at i) ≡ true → G.mate (R.at i) ≡ r → ⊥) → HasTRow L H r
        unmoved r (y, yl, m, e) never = let ne : y ≢ R.at i = (λ g. never (subst (λ x. G.matched x ≡ true) g m) (subst (λ x. G.mate x ≡ r) g e)) in
            (y, yl, move.unlinked.tests y yl ne ∙ m, move.unlinked.mates y yl ne ∙ e)

        only_row : (y : ℕ) → y < L.columns → H.base y ≡ true → (y ≡ R.at i) ⊎ (y ≢ R.at i) →
            HasQRow L F (H.row y) ⊎ ((R.in_q R.last ≡ true) × (H.row y ≡ R.row R.last))
        only_row y yl b (inl e) = at (nat_cases i R.last)
          where
            here : H.row y ≡ R.row i
            here = ap H.row e ∙ move.taken.at_row

            at : (i ≡ R.last) ⊎ (i ≢ R.last) → HasQRow L F (H.row y) ⊎ ((R.in_q R.last ≡ true) × (H.row y ≡ R.row R.last))
            at (inl l) = inr (subst (λ x. R.in_q x ≡ true) l q, here ∙ ap R.row l)
            at (inr ne) = let (c, g) = W.row_left i (omega (arith, i_le, ne)) q in
                inl (R.at (suc i), W.below (suc i) (omega (arith, i_le, ne)), c, g ∙ sym here)
        only_row y yl b (inr ne) = let (c, _, g) = move.taken.only y yl ne b in
            subst (λ r. HasQRow L F r ⊎ ((R.in_q R.last ≡ true) × (r ≡ R.row R.last))) (sym g) (rows.only_q y yl c)

    pub rows-take_mate : R.in_q i ≡ false → TakesMate L G H (R.row i) (R.at i) → IsRowStage L F R i H
    rows-take_mate t move = record {
      kept_q = λ b bl bh away. stays (F.row b) (rows.kept_q b bl bh (λ j e qj g. differ t (subst (λ x. R.in_q x ≡ true) (pred j e) qj)));
      kept_t = λ b bl bh away. moved (F.mate b) (λ ne. rows.kept_t b bl bh (λ j e tj g. ne (sym g ∙ ap R.row (pred j e))))
          (λ m g. let (j, e, tj, same) = next-mate m in away j e tj (same ∙ g));
      gained_q = λ le ql. stays (R.row R.last) (rows.gained_q (above (λ e. differ (subst (λ x. R.in_q x ≡ false) e t) ql)) ql);
      gained_t = λ le tl. moved (R.row R.last) (λ ne. rows.gained_t (above (λ e. ne (ap R.row (sym e)))) tl) (λ m g. not-last m tl g);
      only_q = λ y yl b. subst (λ r. HasQRow L F r ⊎ ((R.in_q R.last ≡ true) × (r ≡ R.row R.last))) (sym (row_is y))
          (rows.only_q y yl (sym (base_is y) ∙ b));
      only_t = λ y yl m. only_mate y yl m (nat_cases y (R.at i));
    }
      where
        pred : (j : ℕ) → suc j ≡ suc i → j ≡ i
        pred j e = omega (arith, e)

        above : i ≢ R.last → suc i ≤ R.last
        above ne = omega (arith, i_le, ne)

        base_is : (y : ℕ) → H.base y ≡ G.base y
        base_is y = ap (λ b. b y) move.same_base

        row_is : (y : ℕ) → H.row y ≡ G.row y
        row_is y = ap (λ b. b y) move.same_rows

        stays : (r : ℕ) → HasQRow L G r → HasQRow L H r
        stays r (y, yl, b, e) = (y, yl, base_is y ∙ b, row_is y ∙ e)

        moved : (r : ℕ) → (r ≢ R.row i → HasTRow L G r) → (G.matched (R.at i) ≡ true → G.mate (R.at i) ≡ r → ⊥) → HasTRow L H r
        moved r old never = elim (nat_cases r (R.row i)) [
          | inl e ↦ (R.at i, W.below i i_le, move.linked.member, move.linked.partner ∙ sym e)
          | inr ne ↦ other (old ne)
        ]
          where
            other : HasTRow L G r → HasTRow L H r
            other (y, yl, m, e) = let ne : y ≢ R.at i = (λ g. never (subst (λ x. G.matched x ≡ true) g m) (subst (λ x. G.mate x ≡ r) g e)) in
                (y, yl, move.linked.tests y yl ne ∙ m, move.linked.mates y yl ne ∙ e)

        only_mate : (y : ℕ) → y < L.columns → H.matched y ≡ true → (y ≡ R.at i) ⊎ (y ≢ R.at i) →
            HasTRow L F (H.mate y) ⊎ ((R.in_q R.last ≡ false) × (H.mate y ≡ R.row R.last))
        only_mate y yl m (inl e) = at (nat_cases i R.last)
          where
            here : H.mate y ≡ R.row i
            here = ap H.mate e ∙ move.linked.partner

            at : (i ≡ R.last) ⊎ (i ≢ R.last) → HasTRow L F (H.mate y) ⊎ ((R.in_q R.last ≡ false) × (H.mate y ≡ R.row R.last))
            at (inl l) = inr (subst (λ x. R.in_q x ≡ false) l t, here ∙ ap R.row l)
            at (inr ne) = let (c, g) = W.mate_left i (omega (arith, i_le, ne)) t in
                inl (R.at (suc i), W.below (suc i) (omega (arith, i_le, ne)), c, g ∙ sym here)
        only_mate y yl m (inr ne) = subst (λ r. HasTRow L F r ⊎ ((R.in_q R.last ≡ false) × (r ≡ R.row R.last))) (sym (move.linked.mates y yl ne))
            (rows.only_t y yl (sym (move.linked.tests y yl ne) ∙ m))
