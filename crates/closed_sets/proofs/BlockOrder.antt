-- The order of blocks, and canonical parts keep the rules.
use Rattle.std.proofs.Common.{◌≡◌, ℕ, ◌<◌, ◌≤◌, Bool, true, false, ◌⊎◌, inl, inr, refl, sym, ◌∙◌, ap, arith}
use Rattle.closed_sets.specs.Walks.{Reaches, ReachesOn, FromSome, ToSome}
use Rattle.closed_sets.specs.Closed.{NoEndReached, IsMiddle, IsReachedSet}
use Rattle.closed_sets.specs.Blocks.{IsListing, IsBelow}
use Rattle.closed_sets.specs.Orders.{IsOrder, IsCover}
use Rattle.closed_sets.specs.Rules.{InBlock, KeepsPlaceRules}
use Rattle.residue_theory.proofs.SumLaws.{nat_cases}
use Rattle.residue_theory.proofs.SetLaws.{differ}
use Rattle.closed_sets.proofs.WalkLaws.{reaches-self, reaches-arc, reaches-join, reaches-to, from-arc}
use Rattle.closed_sets.proofs.Covers.{below-chain}

module _ (arc : ℕ → ℕ → Bool) (n : ℕ) (starts ends : ℕ → Bool) (block : ℕ → ℕ) (b : ℕ)
    (S : IsListing arc n starts ends block b) (below : ℕ → ℕ → Bool) (W : IsBelow arc n starts ends block b below) where
  -- what is below stands before
  pub below-before : (k l : ℕ) → k < b → l < b → below k l ≡ true → k < l
  below-before k l kb lb h = go (S.each k kb) (S.each l lb)
    where
      go : ((y : ℕ) × IsMiddle arc n starts ends y × (block y ≡ k)) → ((x : ℕ) × IsMiddle arc n starts ends x × (block x ≡ l)) → k < l
      go (y, my, ey) (x, mx, ex) =
          let r : Reaches arc n x y = W.tells x y mx my (ap (λ v. below v (block x)) ey ∙ (ap (λ v. below k v) ex ∙ h)) in
          apart (nat_cases k l) (omega (arith, S.lower_before x y mx my r))
        where
          apart : (k ≡ l) ⊎ (k ≡ l → ⊥) → k ≤ l → k < l
          apart (inl q) le = absurd (W.apart k l kb lb h q)
          apart (inr ne) le = omega arith

  pub below-order : IsOrder below b
  below-order = record {
    irreflexive = λ k kb h. W.apart k k kb kb h refl;
    transitive = λ k m l kb mb lb km ml. go k m l kb mb lb km ml (S.each k kb) (S.each m mb) (S.each l lb);
  }
    where
      go : (k m l : ℕ) → k < b → m < b → l < b → below k m ≡ true → below m l ≡ true → ((y : ℕ) × IsMiddle arc n starts ends y × (block y ≡ k)) →
          ((z : ℕ) × IsMiddle arc n starts ends z × (block z ≡ m)) → ((x : ℕ) × IsMiddle arc n starts ends x × (block x ≡ l)) → below k l ≡ true
      go k m l kb mb lb km ml (y, my, ey) (z, mz, ez) (x, mx, ex) =
          let zy : Reaches arc n z y = W.tells z y mz my (ap (λ v. below v (block z)) ey ∙ (ap (λ v. below k v) ez ∙ km)) in
          let xz : Reaches arc n x z = W.tells x z mx mz (ap (λ v. below v (block x)) ez ∙ (ap (λ v. below m v) ex ∙ ml)) in
          let less : k < l = omega (arith, below-before k m kb mb km, below-before m l mb lb ml) in
          ap (λ v. below v l) (sym ey) ∙ (ap (λ v. below (block y) v) (sym ex) ∙ W.made x y mx my (reaches-join arc n x z y xz zy) (λ q. omega arith))

  -- canonical parts, with their covers, keep the rules
  module _ (F L : ℕ → Bool) (clear : NoEndReached arc n starts ends) (first : IsReachedSet arc n starts F)
      (last_from : (x : ℕ) → x < n → L x ≡ true → ToSome arc n ends x)
      (last_to : (x : ℕ) → x < n → ToSome arc n ends x → L x ≡ true) (covers : ℕ → ℕ → Bool)
      (C : IsCover below b covers) (in_range : (k l : ℕ) → covers l k ≡ true → (k < b) × (l < b)) where
    in_middle : (x : ℕ) → InBlock n F L x → IsMiddle arc n starts ends x
    in_middle x i = (i.below, (λ f. differ i.not_first ((first x i.below).1 f)), λ t. differ i.not_last (last_to x i.below t))

    from_middle : (x : ℕ) → IsMiddle arc n starts ends x → InBlock n F L x
    from_middle x m = record { below = m.0; not_first = at_first (F x) refl; not_last = at_last (L x) refl }
      where
        at_first : (t : Bool) → F x ≡ t → F x ≡ false
        at_first true e = absurd (m.1 ((first x m.0).0 e))
        at_first false e = e

        at_last : (t : Bool) → L x ≡ t → L x ≡ false
        at_last true e = absurd (m.2 (last_from x m.0 e))
        at_last false e = e

    leads : (x y : ℕ) → InBlock n F L x → y < n → arc x y ≡ true → (F y ≡ true)
        ⊎ (InBlock n F L y × ((block y ≡ block x) ⊎ ReachesOn covers b (block x) (block y)))
    leads x y i yl a = go (F y) refl
      where
        r : Reaches arc n x y
        r = reaches-arc arc n x x y (reaches-self arc n x) i.below a

        mx : IsMiddle arc n starts ends x
        mx = in_middle x i

        go : (t : Bool) → F y ≡ t → (F y ≡ true) ⊎ (InBlock n F L y × ((block y ≡ block x) ⊎ ReachesOn covers b (block x) (block y)))
        go true e = inl e
        go false e = inr (from_middle y my, at (nat_cases (block y) (block x)))
          where
            my : IsMiddle arc n starts ends y
            my = (yl, (λ f. differ e ((first y yl).1 f)), λ t. mx.2 (reaches-to arc n ends x y r t))

            at : (block y ≡ block x) ⊎ (block y ≡ block x → ⊥) → (block y ≡ block x) ⊎ ReachesOn covers b (block x) (block y)
            at (inl q) = inl q
            at (inr ne) = inr (below-chain below b below-order covers C (block y) (block x) (S.below_b y my) (S.below_b x mx) (W.made x y mx my r ne))

    pub parts-keep : KeepsPlaceRules arc n starts ends F L block b covers
    parts-keep = record {
      apart = λ x l f t. meets x ((first x l).0 f) (last_from x l t);
      down = record {
        starts_first = λ x l h. (first x l).1 (x, l, h, reaches-self arc n x);
        ends_last = λ x l h. last_to x l (x, l, h, reaches-self arc n x);
        first_leads = λ x y xl yl f a. (first y yl).1 (from-arc arc n starts x y ((first x xl).0 f) xl a);
        block_leads = leads;
      };
      reasons = record {
        first_from = λ x l. (first x l).0;
        last_to = last_from;
        block_mutual = λ x y i j e. S.shared x y (in_middle x i) (in_middle y j) e;
      };
      number = λ x i. S.below_b x (in_middle x i);
      member = λ k l. let e = S.each k l in (e.0, from_middle e.0 e.1, e.2);
      falling = λ k l h. let p = in_range k l h in below-before k l p.0 p.1 (C.is_below k l p.0 p.1 h);
      least = λ x k i l lower. found (S.least x k (in_middle x i) l (λ y my r. lower y (from_middle y my) r));
    }
      where
        meets : (x : ℕ) → FromSome arc n starts x → ToSome arc n ends x → ⊥
        meets x (s, sl, sh, r) (e, el, eh, u) = clear e el eh (s, sl, sh, reaches-join arc n s x e r u)

        found : {x k : ℕ} → ((z : ℕ) × (z < x) × IsMiddle arc n starts ends z × (block z ≡ k)) → (z : ℕ) × (z < x) × InBlock n F L z × (block z ≡ k)
        found (z, zx, m, e) = (z, zx, from_middle z m, e)
