-- The tables of arcs between blocks and of what stands below the blocks of a list, and what they tell of the lists.
use Rattle.std.proofs.Common.{◌≡◌, ℕ, ◌+◌, ◌<◌, ◌↔◌, Bool, true, false, ◌||◌, ◌⊎◌, inl, inr, List, length, refl, ap, sym, subst, ◌∙◌, arith}
use Rattle.residue_theory.proofs.SumLaws.{nat_cases}
use Rattle.residue_theory.proofs.SetLaws.{differ, not_true, either_cases, either-first, either-second}
use Rattle.bit_table.specs.Bits.{IsJoined}
use Rattle.part_rules.specs.Listed.{arc_in, AreArcs}
use Rattle.part_rules.specs.Tests.{TellsChains, AreCovers}
use Rattle.part_orders.specs.Orders.{AreLowerItems, TellsArcs, TellsDeep, AreOnlyDirect}
use Rattle.part_orders.proofs.ItemLaws.{left, right, arc_in-place, arc_in-is, left-below, right-below}

-- ---- arcs between blocks
-- one of the first i arcs leads from block l to block k
abbrev pub LeadsByArc : List (ℕ × ℕ) → (ℕ → ℕ) → ℕ → ℕ → ℕ → Type 0
LeadsByArc arcs part i l k = (j : ℕ) × (j < i) × (part (left arcs j) ≡ l + 2) × (part (right arcs j) ≡ k + 2)

-- the bits tell where the first i arcs lead
pub record ArcsArePut (arcs : List (ℕ × ℕ)) (part : ℕ → ℕ) (b : ℕ) (bit : ℕ → ℕ → Bool) (i : ℕ) : Type 0 where
  pub sound : (l k : ℕ) → l < b → k < b → bit l k ≡ true → LeadsByArc arcs part i l k
  pub complete : (l k : ℕ) → l < b → k < b → LeadsByArc arcs part i l k → bit l k ≡ true

pub no_arcs : (arcs : List (ℕ × ℕ)) (part : ℕ → ℕ) (b : ℕ) (bit : ℕ → ℕ → Bool) → ((x y : ℕ) → bit x y ≡ false) → ArcsArePut arcs part b bit 0
no_arcs arcs part b bit none = record {
  sound = λ l k _ _ h. absurd (differ (none l k) h);
  complete = λ l k _ _ (j, jl, _, _). absurd (omega arith);
}

pub put_more : (arcs : List (ℕ × ℕ)) (part : ℕ → ℕ) (b : ℕ) (t u : ℕ → ℕ → Bool) (i s e : ℕ) → s ≡ part (left arcs i) → e ≡ part (right arcs i) →
    ((l k : ℕ) → l < b → k < b → (u l k ≡ true) ↔ ((t l k ≡ true) ⊎ ((s ≡ l + 2) × (e ≡ k + 2)))) →
    ArcsArePut arcs part b t i → ArcsArePut arcs part b u (i + 1)
put_more arcs part b t u i s e se ee P before = record {
  sound = λ l k ll kl h. elim ((P l k ll kl).0 h) [
    | inl old ↦ earlier l k (before.sound l k ll kl old)
    | inr new ↦ (i, omega arith, sym se ∙ new.0, sym ee ∙ new.1)
  ];
  complete = λ l k ll kl w. (P l k ll kl).1 (now l k ll kl w);
}
  where
    earlier : (l k : ℕ) → LeadsByArc arcs part i l k → LeadsByArc arcs part (i + 1) l k
    earlier l k (j, jl, x, y) = (j, omega arith, x, y)

    now : (l k : ℕ) → l < b → k < b → LeadsByArc arcs part (i + 1) l k → (t l k ≡ true) ⊎ ((s ≡ l + 2) × (e ≡ k + 2))
    now l k ll kl (j, jl, x, y) = elim (nat_cases j i) [
      | inl q ↦ inr (se ∙ subst (λ v. part (left arcs v) ≡ l + 2) q x, ee ∙ subst (λ v. part (right arcs v) ≡ k + 2) q y)
      | inr ne ↦ inl (before.complete l k ll kl (j, omega arith, x, y))
    ]

pub all_put : (arcs : List (ℕ × ℕ)) (part : ℕ → ℕ) (n b : ℕ) (bit : ℕ → ℕ → Bool) (i : ℕ) → AreArcs n arcs →
    i ≡ length arcs → ArcsArePut arcs part b bit i → TellsArcs (arc_in arcs) n part b bit
all_put arcs part n b bit i A e P l k ll kl = ((λ h. found (P.sound l k ll kl h)), (λ w. P.complete l k ll kl (placed w)))
  where
    found : LeadsByArc arcs part i l k → (x y : ℕ) × (x < n) × (y < n) × (part x ≡ l + 2) × (part y ≡ k + 2) × (arc_in arcs x y ≡ true)
    found (j, jl, x, y) =
        let jb : j < length arcs = omega arith in
        (left arcs j, right arcs j, (A j (0, 0) jb).0, (A j (0, 0) jb).1, x, y, arc_in-is arcs j (left arcs j) (right arcs j) jb refl refl)

    placed : ((x y : ℕ) × (x < n) × (y < n) × (part x ≡ l + 2) × (part y ≡ k + 2) × (arc_in arcs x y ≡ true)) → LeadsByArc arcs part i l k
    placed (x, y, _, _, xl, yk, h) =
        let p : (j : ℕ) × (j < length arcs) × (left arcs j ≡ x) × (right arcs j ≡ y) = arc_in-place arcs x y h in
        (p.0, (let q : p.0 < length arcs = p.1 in omega arith), ap part p.2 ∙ xl, ap part p.3 ∙ yk)

-- ---- what stands below the blocks of a list
-- one of the first i items is of l and names a block that has k below it
abbrev pub IsDeepBy : List (ℕ × ℕ) → (ℕ → ℕ → Bool) → ℕ → ℕ → ℕ → Type 0
IsDeepBy lower below i l k = (j : ℕ) × (j < i) × (left lower j ≡ l) × (below (right lower j) k ≡ true)

-- the rows tell what the first i items name
pub record DeepAreJoined (lower : List (ℕ × ℕ)) (b : ℕ) (below bit : ℕ → ℕ → Bool) (i : ℕ) : Type 0 where
  pub sound : (l k : ℕ) → l < b → k < b → bit l k ≡ true → IsDeepBy lower below i l k
  pub complete : (l k : ℕ) → l < b → k < b → IsDeepBy lower below i l k → bit l k ≡ true

pub none_deep : (lower : List (ℕ × ℕ)) (b : ℕ) (below bit : ℕ → ℕ → Bool) → ((x y : ℕ) → bit x y ≡ false) → DeepAreJoined lower b below bit 0
none_deep lower b below bit none = record {
  sound = λ l k _ _ h. absurd (differ (none l k) h);
  complete = λ l k _ _ (j, jl, _, _). absurd (omega arith);
}

pub deep_more : (lower : List (ℕ × ℕ)) (b : ℕ) (below t u : ℕ → ℕ → Bool) (n i r m : ℕ) → n ≡ b → left lower i ≡ r →
    right lower i ≡ m → IsJoined t u (below m) n r → DeepAreJoined lower b below t i →
    DeepAreJoined lower b below u (i + 1)
deep_more lower b below t u n i r m ne re me J before = record {
  sound = λ l k ll kl h. elim (nat_cases l r) [
    | inr nr ↦ earlier l k (before.sound l k ll kl (sym (J.others l k (omega arith) nr) ∙ h))
    | inl q ↦ elim (either_cases (t l k) (below m k) (sym (own l k kl q) ∙ h)) [
      | inl old ↦ earlier l k (before.sound l k ll kl old)
      | inr new ↦ (i, omega arith, re ∙ sym q, subst (λ v. below v k ≡ true) (sym me) new)
    ]
  ];
  complete = λ l k ll kl w. elim (nat_cases l r) [
    | inr nr ↦ J.others l k (omega arith) nr ∙ elim (now l k ll kl w) [ inl old ↦ old | inr new ↦ absurd (nr (sym new.0 ∙ re)) ]
    | inl q ↦ own l k kl q ∙ elim (now l k ll kl w) [
      | inl old ↦ either-first (t l k) (below m k) old
      | inr new ↦ either-second (t l k) (below m k) (subst (λ v. below v k ≡ true) me new.1)
    ]
  ];
}
  where
    own : (l k : ℕ) → k < b → l ≡ r → u l k ≡ (t l k || below m k)
    own l k kl q = subst (λ v. u v k ≡ (t v k || below m k)) (sym q) (J.here k (omega arith))

    earlier : (l k : ℕ) → IsDeepBy lower below i l k → IsDeepBy lower below (i + 1) l k
    earlier l k (j, jl, x, y) = (j, omega arith, x, y)

    now : (l k : ℕ) → l < b → k < b → IsDeepBy lower below (i + 1) l k → (t l k ≡ true) ⊎ ((left lower i ≡ l) × (below (right lower i) k ≡ true))
    now l k ll kl (j, jl, x, y) = elim (nat_cases j i) [
      | inl q ↦ inr (subst (λ v. left lower v ≡ l) q x, subst (λ v. below (right lower v) k ≡ true) q y)
      | inr ne ↦ inl (before.complete l k ll kl (j, omega arith, x, y))
    ]

pub all_deep : (lower : List (ℕ × ℕ)) (b : ℕ) (below bit : ℕ → ℕ → Bool) (i : ℕ) → i ≡ length lower →
    DeepAreJoined lower b below bit i → TellsDeep (arc_in lower) b below bit
all_deep lower b below bit i e D l k ll kl = ((λ h. found (D.sound l k ll kl h)), (λ w. D.complete l k ll kl (placed w)))
  where
    found : IsDeepBy lower below i l k → (m : ℕ) × (arc_in lower l m ≡ true) × (below m k ≡ true)
    found (j, jl, x, y) = (right lower j, arc_in-is lower j l (right lower j) (omega arith) x refl, y)

    placed : ((m : ℕ) × (arc_in lower l m ≡ true) × (below m k ≡ true)) → IsDeepBy lower below i l k
    placed (m, h, y) =
        let p : (j : ℕ) × (j < length lower) × (left lower j ≡ l) × (right lower j ≡ m) = arc_in-place lower l m h in
        (p.0, (let q : p.0 < length lower = p.1 in omega arith), p.2, subst (λ v. below v k ≡ true) (sym p.3) y)

-- ---- the lists
-- what is tested of each item is so of each block of a list
pub items_are_blocks : (lower : List (ℕ × ℕ)) (direct deep : ℕ → ℕ → Bool) →
    ((j : ℕ) → j < length lower → (direct (left lower j) (right lower j) ≡ true)
    × (deep (left lower j) (right lower j) ≡ false)) → AreOnlyDirect (arc_in lower) direct deep
items_are_blocks lower direct deep each l k h =
    let p : (j : ℕ) × (j < length lower) × (left lower j ≡ l) × (right lower j ≡ k) = arc_in-place lower l k h in (
      subst (λ v. direct v k ≡ true) p.2 (subst (λ v. direct (left lower p.0) v ≡ true) p.3 (each p.0 p.1).0),
      subst (λ v. deep v k ≡ false) p.2 (subst (λ v. deep (left lower p.0) v ≡ false) p.3 (each p.0 p.1).1),
    )

pub blocks_are_items : (lower : List (ℕ × ℕ)) (direct deep : ℕ → ℕ → Bool) (j : ℕ) → j < length lower → AreOnlyDirect (arc_in lower) direct deep →
    (direct (left lower j) (right lower j) ≡ true) × (deep (left lower j) (right lower j) ≡ false)
blocks_are_items lower direct deep j jl all = all (left lower j) (right lower j) (arc_in-is lower j (left lower j) (right lower j) jl refl refl)

-- the blocks of an item
item_ends : (b : ℕ) (lower : List (ℕ × ℕ)) (l k : ℕ) → AreLowerItems b lower → arc_in lower l k ≡ true → (l < b) × (k < b)
item_ends b lower l k L h =
    let p : (j : ℕ) × (j < length lower) × (left lower j ≡ l) × (right lower j ≡ k) = arc_in-place lower l k h in
    let x : left lower p.0 < b = left-below b lower p.0 L p.1 in
    let y : right lower p.0 < left lower p.0 = right-below b lower p.0 L p.1 in
    let e : left lower p.0 ≡ l = p.2 in
    let f : right lower p.0 ≡ k = p.3 in
    (omega arith, omega arith)

pub only_direct_are_covers : (arc : ℕ → ℕ → Bool) (n : ℕ) (part : ℕ → ℕ) (b : ℕ) (lower : List (ℕ × ℕ))
    (below direct deep : ℕ → ℕ → Bool) → AreLowerItems b lower → TellsChains (arc_in lower) b below →
    TellsArcs arc n part b direct →
    TellsDeep (arc_in lower) b below deep → AreOnlyDirect (arc_in lower) direct deep ↔ AreCovers arc n part b (arc_in lower)
only_direct_are_covers arc n part b lower below direct deep L C A D = (there, back)
  where
    there : AreOnlyDirect (arc_in lower) direct deep → AreCovers arc n part b (arc_in lower)
    there all = record {
      direct = λ k l lb h. (A l k lb (item_ends b lower l k L h).1).0 (all l k h).0;
      none_between = λ k m l lb h hm chain. differ (all l k h).1
          ((D l k lb (item_ends b lower l k L h).1).1
          (m, hm, (C m k (item_ends b lower l m L hm).1 (item_ends b lower l k L h).1).1 chain));
    }

    back : AreCovers arc n part b (arc_in lower) → AreOnlyDirect (arc_in lower) direct deep
    back covers l k h =
        let ends : (l < b) × (k < b) = item_ends b lower l k L h in (
          (A l k ends.0 ends.1).1 (covers.direct k l ends.0 h),
          not_true (deep l k) (λ d. no_third l k h ends ((D l k ends.0 ends.1).0 d)),
        )
      where
        no_third : (l k : ℕ) → arc_in lower l k ≡ true → (l < b) × (k < b) → ((m : ℕ) × (arc_in lower l m ≡ true) × (below m k ≡ true)) → ⊥
        no_third l k h ends (m, hm, bm) = covers.none_between k m l ends.0 h hm ((C m k (item_ends b lower l m L hm).1 ends.1).0 bm)
