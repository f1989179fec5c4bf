-- Walks within the parts: what two searches tell of the reasons.
use Rattle.std.proofs.Common.{◌≡◌, ℕ, zero, suc, ◌+◌, ◌<◌, ◌≤◌, ◌⊎◌, ◌↔◌, Bool, true, inl, inr, refl, sym, subst, ◌∙◌, arith}
use Rattle.residue_theory.proofs.SetLaws.{le_cases}
use Rattle.closed_sets.specs.Walks.{Walk, Reaches, FromSome, ToSome, Mutual}
use Rattle.closed_sets.specs.Rules.{InBlock, PlacesHaveReasons}
use Rattle.closed_sets.proofs.WalkLaws.{reaches-join}
use Rattle.part_rules.specs.Parts.{AreNumbered}
use Rattle.part_rules.specs.Tests.{MayLead, ArcsAreDown, AreHeads, AreSeeds, AreMet}
use Rattle.part_rules.specs.Laws.{AreFalling}
use Rattle.part_rules.proofs.Chains.{chain-falls}
use Rattle.part_rules.proofs.Numbering.{above-first, below-last, number-is, between-is, at-block}

module _ (arc : ℕ → ℕ → Bool) (n : ℕ) (starts ends F L : ℕ → Bool) (block part : ℕ → ℕ) (b : ℕ) (lower : ℕ → ℕ → Bool)
    (N : AreNumbered n b F L block part) (falling : AreFalling lower) (A : ArcsAreDown arc n starts ends part b lower) where
  lead-falls : (x y : ℕ) → x < n → y < n → MayLead b lower (part x) (part y) → part y ≤ part x
  lead-falls x y xl yl (inl last) = omega (arith, last, N.to y yl)
  lead-falls x y xl yl (inr (inl first)) = omega (arith, first, N.from x xl)
  lead-falls x y xl yl (inr (inr (inl same))) = omega (arith, same)
  lead-falls x y xl yl (inr (inr (inr (k, l, kb, lb, s, t, chain)))) = let less : k < l = chain-falls lower b falling l k chain in omega (arith, s, t, less)

  pub arc-falls : (x y : ℕ) → x < n → y < n → arc x y ≡ true → part y ≤ part x
  arc-falls x y xl yl a = lead-falls x y xl yl (A.arcs x y xl yl a)

  pub walk-falls : (k x y : ℕ) → x < n → y < n → Walk arc n x y k → part y ≤ part x
  walk-falls zero x y xl yl e = subst (λ v. part v ≤ part x) e (omega arith)
  walk-falls (suc k) x y xl yl (z, zl, w, a) = omega (arith, walk-falls k x z xl zl w, arc-falls z y zl yl a)

  module _ (within : ℕ → ℕ → Bool) (I : (x y : ℕ) → x < n → y < n → (within x y ≡ true) ↔ ((arc x y ≡ true) × (part x ≡ part y))) where
    -- a walk between places of one part stays in it
    inner-walk : (k x y : ℕ) → x < n → y < n → part x ≡ part y → Walk arc n x y k → Walk within n x y k
    inner-walk zero x y xl yl same e = e
    inner-walk (suc k) x y xl yl same (z, zl, w, a) =
        let low : part z ≤ part x = walk-falls k x z xl zl w in
        let high : part y ≤ part z = arc-falls z y zl yl a in
        let from : part x ≡ part z = omega (arith, low, high, same) in
        let to : part z ≡ part y = omega (arith, low, high, same) in
        (z, zl, inner-walk k x z xl zl from w, (I z y zl yl).1 (a, to))

    pub inner-reaches : (x y : ℕ) → x < n → y < n → part x ≡ part y → Reaches arc n x y → Reaches within n x y
    inner-reaches x y xl yl same (k, w) = (k, inner-walk k x y xl yl same w)

    outer-walk : (k x y : ℕ) → x < n → y < n → Walk within n x y k → Walk arc n x y k × (part x ≡ part y)
    outer-walk zero x y xl yl e = (e, subst (λ v. part x ≡ part v) e refl)
    outer-walk (suc k) x y xl yl (z, zl, w, a) =
        let before = outer-walk k x z xl zl w in
        let here = (I z y zl yl).0 a in
        ((z, zl, before.0, here.0), before.1 ∙ here.1)

    pub outer-reaches : (x y : ℕ) → x < n → y < n → Reaches within n x y → Reaches arc n x y × (part x ≡ part y)
    outer-reaches x y xl yl (k, w) = let out = outer-walk k x y xl yl w in ((k, out.0), out.1)

    module _ (head : ℕ → ℕ) (low high from to : ℕ → Bool) (H : AreHeads n part b head) (S : AreSeeds n starts b head low) (E : AreSeeds n ends b head high)
        (R : (y : ℕ) → y < n → (from y ≡ true) ↔ FromSome within n low y) (T : (x : ℕ) → x < n → (to x ≡ true) ↔ ToSome within n high x) where
      -- from the head of its block a place of a block is met, and its head from it
      head-from : PlacesHaveReasons arc n starts ends F L block → (x k : ℕ) → InBlock n F L x → k < b → part x ≡ k + 2 → (from x ≡ true) × (to x ≡ true)
      head-from G x k ix kb same =
          let at : part (head k) ≡ k + 2 = (H k kb).1 in
          let hl : head k < n = (H k kb).0 in
          let equal : part (head k) ≡ part x = at ∙ sym same in
          let ih : InBlock n F L (head k) = at-block n b F L block part N (head k) k hl kb at in
          let px : block x + 2 ≡ part x = number-is n b F L block part N x ix in
          let ph : block (head k) + 2 ≡ part (head k) = number-is n b F L block part N (head k) ih in
          let both : Mutual arc n (head k) x = G.block_mutual (head k) x ih ix (omega (arith, px, ph, equal)) in (
            (R x ix.below).1 (head k, hl, (S (head k) hl).1 (inr (k, kb, refl)), inner-reaches (head k) x hl ix.below equal both.0),
            (T x ix.below).1 (head k, hl, (E (head k) hl).1 (inr (k, kb, refl)), inner-reaches x (head k) ix.below hl (sym equal) both.1),
          )

      first-met : PlacesHaveReasons arc n starts ends F L block → (x : ℕ) → x < n → part x ≡ 1 → from x ≡ true
      first-met G x xl one = go (G.first_from x xl ((N.first x xl).1 one))
        where
          go : FromSome arc n starts x → from x ≡ true
          go (s, sl, h, r) = (R x xl).1 (s, sl, (S s sl).1 (inl h), inner-reaches s x sl xl (A.starts_first s sl h ∙ sym one) r)

      last-met : PlacesHaveReasons arc n starts ends F L block → (x : ℕ) → x < n → part x ≡ b + 2 → to x ≡ true
      last-met G x xl last = go (G.last_to x xl ((N.last x xl).1 last))
        where
          go : ToSome arc n ends x → to x ≡ true
          go (e, el, h, r) = (T x xl).1 (e, el, (E e el).1 (inl h), inner-reaches x e xl el (last ∙ sym (A.ends_last e el h)) r)

      pub reasons-met : PlacesHaveReasons arc n starts ends F L block → AreMet n b part from to
      reasons-met G x xl = elim (le_cases 1 (part x) (N.from x xl)) [
        | inl one ↦ (inr (first-met G x xl (sym one)), inl (sym one))
        | inr more ↦ elim (le_cases (part x) (b + 2) (N.to x xl)) [
          | inl last ↦ (inl last, inr (last-met G x xl last))
          | inr less ↦ in-block more less
        ]
      ]
        where
          in-block : 1 < part x → part x < b + 2 → ((part x ≡ b + 2) ⊎ (from x ≡ true)) × ((part x ≡ 1) ⊎ (to x ≡ true))
          in-block more less =
              let ix : InBlock n F L x = between-is n b F L block part N x xl more less in
              let px : block x + 2 ≡ part x = number-is n b F L block part N x ix in
              let met = head-from G x (block x) ix (omega (arith, px, less)) (sym px) in
              (inr met.0, inr met.1)

      -- what is met from below in the first part is met from a start
      met-first : AreMet n b part from to → (x : ℕ) → x < n → part x ≡ 1 → FromSome arc n starts x
      met-first G x xl one = elim ((G x xl).0) [ inl last ↦ absurd (omega (arith, last, one)) | inr met ↦ go ((R x xl).0 met) ]
        where
          go : FromSome within n low x → FromSome arc n starts x
          go (s, sl, h, r) = let out = outer-reaches s x sl xl r in elim ((S s sl).0 h) [
            | inl start ↦ (s, sl, start, out.0)
            | inr (k, kb, is) ↦ let at : part (head k) ≡ k + 2 = (H k kb).1 in let ps : part s ≡ k + 2 =
                subst (λ v. part v ≡ k + 2) (sym is) at in absurd (omega (arith, ps, out.1, one))
          ]

      met-last : AreMet n b part from to → (x : ℕ) → x < n → part x ≡ b + 2 → ToSome arc n ends x
      met-last G x xl last = elim ((G x xl).1) [ inl one ↦ absurd (omega (arith, last, one)) | inr met ↦ go ((T x xl).0 met) ]
        where
          go : ToSome within n high x → ToSome arc n ends x
          go (e, el, h, r) = let out = outer-reaches x e xl el r in elim ((E e el).0 h) [
            | inl end ↦ (e, el, end, out.0)
            | inr (k, kb, is) ↦ let at : part (head k) ≡ k + 2 = (H k kb).1 in let pe : part e ≡ k + 2 =
                subst (λ v. part v ≡ k + 2) (sym is) at in absurd (omega (arith, pe, out.1, last, kb))
          ]

      -- a place of a block reaches its head, and is reached from it
      met-below : AreMet n b part from to → (x : ℕ) → InBlock n F L x → Reaches arc n (head (block x)) x
      met-below G x ix = elim ((G x ix.below).0) [
        | inl last ↦ absurd (omega (arith, last, below-last n b F L block part N x ix))
        | inr met ↦ go ((R x ix.below).0 met)
      ]
        where
          go : FromSome within n low x → Reaches arc n (head (block x)) x
          go (s, sl, h, r) = let out = outer-reaches s x sl ix.below r in elim ((S s sl).0 h) [
            | inl start ↦ absurd (omega (arith, A.starts_first s sl start, out.1, above-first n b F L block part N x ix))
            | inr (k, kb, is) ↦ let at : part (head k) ≡ k + 2 = (H k kb).1 in
                let ps : part s ≡ k + 2 = subst (λ v. part v ≡ k + 2) (sym is) at in
                let px : block x + 2 ≡ part x = number-is n b F L block part N x ix in
                let same : k ≡ block x = omega (arith, ps, px, out.1) in
                subst (λ v. Reaches arc n (head v) x) same (subst (λ v. Reaches arc n v x) is out.0)
          ]

      met-above : AreMet n b part from to → (x : ℕ) → InBlock n F L x → Reaches arc n x (head (block x))
      met-above G x ix = elim ((G x ix.below).1) [
        | inl one ↦ absurd (omega (arith, one, above-first n b F L block part N x ix))
        | inr met ↦ go ((T x ix.below).0 met)
      ]
        where
          go : ToSome within n high x → Reaches arc n x (head (block x))
          go (e, el, h, r) = let out = outer-reaches x e ix.below el r in elim ((E e el).0 h) [
            | inl end ↦ absurd (omega (arith, A.ends_last e el end, out.1, below-last n b F L block part N x ix))
            | inr (k, kb, is) ↦ let at : part (head k) ≡ k + 2 = (H k kb).1 in
                let pe : part e ≡ k + 2 = subst (λ v. part v ≡ k + 2) (sym is) at in
                let px : block x + 2 ≡ part x = number-is n b F L block part N x ix in
                let same : k ≡ block x = omega (arith, pe, px, out.1) in
                subst (λ v. Reaches arc n x (head v)) same (subst (Reaches arc n x) is out.0)
          ]

      met-reaches : AreMet n b part from to → (x y : ℕ) → InBlock n F L x → InBlock n F L y → block x ≡ block y → Reaches arc n x y
      met-reaches G x y ix iy same = reaches-join arc n x (head (block x)) y (met-above G x ix)
          (subst (λ v. Reaches arc n (head v) y) (sym same) (met-below G y iy))

      pub met-reasons : AreMet n b part from to → PlacesHaveReasons arc n starts ends F L block
      met-reasons G = record {
        first_from = λ x xl f. met-first G x xl ((N.first x xl).0 f);
        last_to = λ x xl l. met-last G x xl ((N.last x xl).0 l);
        block_mutual = λ x y ix iy same. (met-reaches G x y ix iy same, met-reaches G y x iy ix (sym same));
      }
