-- From a tableau in which no end is reached from a free column: its parts, their order and lower lists keep the rules.
use Rattle.std.proofs.Common.{◌≡◌, ◌+◌, ◌<◌, ◌≢◌, ◌&&◌, ◌⊎◌, ◌∙◌, cond, ℕ, Bool, true, false, cond, not, eqb, ltb, inl, inr, refl, ap, sym, arith}
use Rattle.std.proofs.lemmas.Bool.Decides.{nat_tests}
use Rattle.residue_theory.proofs.SetLaws.{both-first, both-second, both_true, differ, eqb_from, eqb_true, not_true, some_below-found, some_below-holds}
use Rattle.residue_theory.specs.Sets.{some_below}
use Rattle.closed_sets.proofs.BlockOrder.{parts-keep}
use Rattle.closed_sets.proofs.Hulls.{reached, reached-set, reaches, reaches-make, reaches-tells}
use Rattle.closed_sets.proofs.SetLaws.{not-make, not-true}
use Rattle.closed_sets.proofs.WalkLaws.{from-reaches, reaches-join}
use Rattle.closed_sets.specs.Blocks.{IsBelow, IsListing}
use Rattle.closed_sets.specs.Orders.{IsCover}
use Rattle.mixed_matrices.specs.Arcs.{HasNoWalk, IsFromFree, IsOfMiddle, IsReachedFromFree, ReachesEnd, ReachesIn, has_base}
use Rattle.mixed_matrices.specs.Arcs.{has_match, is_end, is_free, leads_to}
use Rattle.mixed_matrices.specs.CheckerRules.{HasRows, IsListingIn, KeepsPartRules, block_of, in_first, in_last}
use Rattle.mixed_matrices.specs.Forms.{Parts}
use Rattle.mixed_matrices.specs.LayeredMatrices.{LayeredMatrix}
use Rattle.mixed_matrices.specs.Tableaus.{Tableau}
use Rattle.mixed_pair_laws.proofs.ArcFacts.{base_found, base_holds, match_found, match_holds}

module _ (p : ℕ) (L : LayeredMatrix) (F : Tableau)
    (base : (b c : ℕ) → b < L.columns → c < L.columns → F.base b ≡ true → F.base c ≡ true → F.row b ≡ F.row c → b ≡ c)
    (match : (b c : ℕ) → b < L.columns → c < L.columns → F.matched b ≡ true → F.matched c ≡ true → F.mate b ≡ F.mate c → b ≡ c)
    (clear : HasNoWalk p L F) (blocks : ℕ) (block : ℕ → ℕ) (listing : IsListing (leads_to p L F) L.columns (is_free F) (is_end p L F) block blocks) where
  first : ℕ → Bool
  first = reached (leads_to p L F) L.columns (is_free F)

  last : ℕ → Bool
  last x = some_below L.columns (λ e. is_end p L F e && reaches (leads_to p L F) L.columns x e)

  first-from : (x : ℕ) → x < L.columns → first x ≡ true → IsFromFree p L F x
  unfolding first
  first-from x xl h = (reached-set (leads_to p L F) L.columns (is_free F) x xl).0 h

  from-first : (x : ℕ) → x < L.columns → IsFromFree p L F x → first x ≡ true
  unfolding first
  from-first x xl f = (reached-set (leads_to p L F) L.columns (is_free F) x xl).1 f

  last-to : (x : ℕ) → x < L.columns → last x ≡ true → ReachesEnd p L F x
  unfolding last
  last-to x xl h = go (some_below-found L.columns (λ e. is_end p L F e && reaches (leads_to p L F) L.columns x e) h)
    where
      go : (e : ℕ) × (e < L.columns) × (is_end p L F e && reaches (leads_to p L F) L.columns x e ≡ true) → ReachesEnd p L F x
      go (e, el, h) = (
        e,
        el,
        both-first (is_end p L F e) (reaches (leads_to p L F) L.columns x e) h,
        reaches-tells (leads_to p L F) L.columns x e el (both-second (is_end p L F e) (reaches (leads_to p L F) L.columns x e) h),
      )

  to-last : (x : ℕ) → x < L.columns → ReachesEnd p L F x → last x ≡ true
  unfolding last
  to-last x xl (e, el, eh, r) = some_below-holds L.columns (λ e. is_end p L F e && reaches (leads_to p L F) L.columns x e) e el
      (both_true (is_end p L F e) (reaches (leads_to p L F) L.columns x e) eh (reaches-make (leads_to p L F) L.columns x e xl el r))

  between : (x : ℕ) → x < L.columns → first x ≡ false → last x ≡ false → IsOfMiddle p L F x
  between x xl f l = (xl, (λ s. differ f (from-first x xl s)), λ t. differ l (to-last x xl t))

  not_both : (x : ℕ) → x < L.columns → IsFromFree p L F x → ReachesEnd p L F x → ⊥
  not_both x xl f (e, el, eh, r) = clear e el eh (from-reaches (leads_to p L F) L.columns (is_free F) x e f r)

  -- ---- the part of each column
  pub part_of : ℕ → ℕ
  part_of x = cond (first x) 0 (cond (last x) (blocks + 1) (block x + 1))

  part-first : (x : ℕ) → first x ≡ true → part_of x ≡ 0
  unfolding part_of
  part-first x f = ap (λ b. cond b 0 (cond (last x) (blocks + 1) (block x + 1))) f

  part-last : (x : ℕ) → first x ≡ false → last x ≡ true → part_of x ≡ blocks + 1
  unfolding part_of
  part-last x f l = ap (λ b. cond b 0 (cond (last x) (blocks + 1) (block x + 1))) f ∙ ap (λ b. cond b (blocks + 1) (block x + 1)) l

  part-block : (x : ℕ) → first x ≡ false → last x ≡ false → part_of x ≡ block x + 1
  unfolding part_of
  part-block x f l = ap (λ b. cond b 0 (cond (last x) (blocks + 1) (block x + 1))) f ∙ ap (λ b. cond b (blocks + 1) (block x + 1)) l

  -- a column by its part
  part_cases : (x : ℕ) → x < L.columns → (IsFromFree p L F x × (part_of x ≡ 0))
      ⊎ ((ReachesEnd p L F x × (part_of x ≡ blocks + 1)) ⊎ (IsOfMiddle p L F x × (part_of x ≡ block x + 1)))
  part_cases x xl = go (first x) refl (last x) refl
    where
      go : (a : Bool) → first x ≡ a → (b : Bool) → last x ≡ b → (IsFromFree p L F x × (part_of x ≡ 0)) ⊎
          ((ReachesEnd p L F x × (part_of x ≡ blocks + 1)) ⊎ (IsOfMiddle p L F x × (part_of x ≡ block x + 1)))
      go true f b l = inl (first-from x xl f, part-first x f)
      go false f true l = inr (inl (last-to x xl l, part-last x f l))
      go false f false l = inr (inr (between x xl f l, part-block x f l))

  middle-part : (x : ℕ) → IsOfMiddle p L F x → part_of x ≡ block x + 1
  middle-part x m = elim (part_cases x m.0) [ inl s ↦ absurd (m.1 s.0) | inr o ↦ elim o [ inl t ↦ absurd (m.2 t.0) | inr w ↦ w.1 ] ]

  part-middle : (x c : ℕ) → x < L.columns → c < blocks → part_of x ≡ c + 1 → IsOfMiddle p L F x
  part-middle x c xl cl q = elim (part_cases x xl)
      [ inl s ↦ absurd (omega (arith, s.1)) | inr o ↦ elim o [ inl t ↦ absurd (omega (arith, t.1)) | inr w ↦ w.0 ] ]

  -- ---- the part of each row
  pub q_part : (i : ℕ) (v : Bool) → has_base L F i ≡ v → ℕ
  q_part i true e = part_of (base_found L F i e).0
  q_part i false e = blocks + 1

  pub t_part : (i : ℕ) (v : Bool) → has_match L F i ≡ v → ℕ
  t_part i true e = part_of (match_found L F i e).0
  t_part i false e = blocks + 1

  q_part-base : (b i : ℕ) → b < L.columns → F.base b ≡ true → F.row b ≡ i → (v : Bool) (e : has_base L F i ≡ v) → q_part i v e ≡ part_of b
  unfolding q_part
  q_part-base b i bl bh q true e = ap part_of
      (base (base_found L F i e).0 b (base_found L F i e).1 bl (base_found L F i e).2 bh
      ((base_found L F i e).3 ∙ sym q))
  q_part-base b i bl bh q false e = absurd (differ e (base_holds L F b i bl bh q))

  q_part-none : (i : ℕ) → has_base L F i ≡ false → (v : Bool) (e : has_base L F i ≡ v) → q_part i v e ≡ blocks + 1
  unfolding q_part
  q_part-none i none true e = absurd (differ none e)
  q_part-none i none false e = refl

  t_part-match : (b i : ℕ) → b < L.columns → F.matched b ≡ true → F.mate b ≡ i → (v : Bool) (e : has_match L F i ≡ v) → t_part i v e ≡ part_of b
  unfolding t_part
  t_part-match b i bl bh q true e = ap part_of
      (match (match_found L F i e).0 b (match_found L F i e).1 bl (match_found L F i e).2 bh
      ((match_found L F i e).3 ∙ sym q))
  t_part-match b i bl bh q false e = absurd (differ e (match_holds L F b i bl bh q))

  t_part-none : (i : ℕ) → has_match L F i ≡ false → (v : Bool) (e : has_match L F i ≡ v) → t_part i v e ≡ blocks + 1
  unfolding t_part
  t_part-none i none true e = absurd (differ none e)
  t_part-none i none false e = refl

  abbrev pub found_parts : Parts
  found_parts = record {
    blocks = blocks;
    column = part_of;
    q_row = λ i. q_part i (has_base L F i) refl;
    t_row = λ i. t_part i (has_match L F i) refl;
  }

  found-rows : HasRows L F found_parts
  found-rows = record {
    columns = λ x xl. elim (part_cases x xl) [
      | inl s ↦ omega (arith, s.1)
      | inr o ↦ elim o [ inl t ↦ omega (arith, t.1) | inr w ↦ omega (arith, w.1, listing.below_b x w.0) ]
    ];
    base = λ b bl h. q_part-base b (F.row b) bl h refl (has_base L F (F.row b)) refl;
    matched = λ j jl h. t_part-match j (F.mate j) jl h refl (has_match L F (F.mate j)) refl;
    other_q = λ i il e. q_part-none i e (has_base L F i) refl;
    other_t = λ i il e. t_part-none i e (has_match L F i) refl;
  }

  -- ---- they are the parts of the arcs
  number : (x : ℕ) → IsOfMiddle p L F x → block_of found_parts x ≡ block x
  number x m = omega (arith, middle-part x m)

  found-listing : IsListingIn p L F found_parts
  found-listing = record {
    below_b = λ x m. omega (arith, number x m, listing.below_b x m);
    each = λ k kl. let e : (x : ℕ) × IsOfMiddle p L F x × (block x ≡ k) = listing.each k kl in (e.0, e.1, number e.0 e.1 ∙ e.2);
    shared = λ x y mx my q. listing.shared x y mx my (sym (number x mx) ∙ q ∙ number y my);
    joined = λ x y mx my u. number x mx ∙ listing.joined x y mx my u ∙ sym (number y my);
    lower_before = λ x y mx my r. omega (arith, number x mx, number y my, listing.lower_before x y mx my r);
    least = λ x k mx kl lower. let z : (z : ℕ) × (z < x) × IsOfMiddle p L F z × (block z ≡ k) = listing.least x k mx (omega (arith, number x mx))
        (λ y my r. elim (lower y my r) [ inl less ↦ inl (omega (arith, less, number y my)) | inr q ↦ inr (sym (number y my) ∙ q ∙ number x mx) ]) in
        (z.0, z.1, z.2, number z.0 z.2 ∙ z.3);
  }

  found-first : IsReachedFromFree p L F (in_first found_parts)
  found-first x xl = (there, λ f. eqb_from (part_of x) 0 (part-first x (from-first x xl f)))
    where
      there : in_first found_parts x ≡ true → IsFromFree p L F x
      there h = let z : part_of x ≡ 0 = eqb_true (part_of x) 0 h in
          elim (part_cases x xl) [ inl s ↦ s.0 | inr o ↦ elim o [ inl t ↦ absurd (omega (arith, t.1)) | inr w ↦ absurd (omega (arith, w.1)) ] ]

  found-last : (x : ℕ) → x < L.columns → in_last found_parts x ≡ true → ReachesEnd p L F x
  found-last x xl h = let z : part_of x ≡ blocks + 1 = eqb_true (part_of x) (blocks + 1) h in
      elim (part_cases x xl) [
        | inl s ↦ absurd (omega (arith, s.1))
        | inr o ↦ elim o [ inl t ↦ t.0 | inr w ↦ absurd (omega (arith, w.1, listing.below_b x w.0)) ]
      ]

  last-found : (x : ℕ) → x < L.columns → ReachesEnd p L F x → in_last found_parts x ≡ true
  last-found x xl t = eqb_from (part_of x) (blocks + 1) (elim (part_cases x xl) [
    | inl s ↦ absurd (not_both x xl s.0 t)
    | inr o ↦ elim o [ inl w ↦ w.1 | inr w ↦ absurd (w.0.2 t) ]
  ])

  -- ---- the order of the blocks
  abbrev joins : ℕ → ℕ → ℕ → ℕ → Bool
  joins k l x y = (eqb (part_of x) (k + 1) && eqb (part_of y) (l + 1)) && reaches (leads_to p L F) L.columns y x

  pub found_below : ℕ → ℕ → Bool
  found_below k l = not (eqb k l) && some_below L.columns (λ x. some_below L.columns (λ y. joins k l x y))

  below-tells : (k l : ℕ) → found_below k l ≡ true → (k ≢ l)
      × ((x : ℕ) × (y : ℕ) × (x < L.columns) × (y < L.columns) × (part_of x ≡ k + 1) × (part_of y ≡ l + 1)
      × ReachesIn p L F y x)
  unfolding found_below
  below-tells k l h = (
    unequal k l (both-first (not (eqb k l)) (some_below L.columns (λ x. some_below L.columns (λ y. joins k l x y))) h),
    outer (some_below-found L.columns (λ x. some_below L.columns (λ y. joins k l x y))
        (both-second (not (eqb k l)) (some_below L.columns (λ x. some_below L.columns (λ y. joins k l x y))) h)),
  )
    where
      unequal : (k l : ℕ) → not (eqb k l) ≡ true → k ≢ l
      unequal k l h = grind (arith, nat_tests)

      inner : (x : ℕ) → x < L.columns → (y : ℕ) × (y < L.columns) × (joins k l x y ≡ true) → (x : ℕ) × (y : ℕ)
          × (x < L.columns) × (y < L.columns) × (part_of x ≡ k + 1) ×
          (part_of y ≡ l + 1) × ReachesIn p L F y x
      inner x xl (y, yl, h) = let e : eqb (part_of x) (k + 1) && eqb (part_of y) (l + 1) ≡ true =
          both-first (eqb (part_of x) (k + 1) && eqb (part_of y) (l + 1))
          (reaches (leads_to p L F) L.columns y x) h in (
            x,
            y,
            xl,
            yl,
            eqb_true (part_of x) (k + 1) (both-first (eqb (part_of x) (k + 1)) (eqb (part_of y) (l + 1)) e),
            eqb_true (part_of y) (l + 1)
                (both-second (eqb (part_of x) (k + 1)) (eqb (part_of y) (l + 1)) e),
            reaches-tells (leads_to p L F) L.columns y x xl
                (both-second (eqb (part_of x) (k + 1) && eqb (part_of y) (l + 1))
                (reaches (leads_to p L F) L.columns y x) h),
          )

      outer : (x : ℕ) × (x < L.columns) × (some_below L.columns (λ y. joins k l x y) ≡ true) → (x : ℕ) × (y : ℕ) × (x < L.columns) × (y < L.columns) ×
          (part_of x ≡ k + 1) × (part_of y ≡ l + 1) × ReachesIn p L F y x
      outer (x, xl, h) = inner x xl (some_below-found L.columns (λ y. joins k l x y) h)

  below-made : (k l x y : ℕ) → k ≢ l → x < L.columns → y < L.columns → part_of x ≡ k + 1 → part_of y ≡ l + 1 → ReachesIn p L F y x → found_below k l ≡ true
  unfolding found_below
  below-made k l x y ne xl yl px py r = both_true (not (eqb k l)) (some_below L.columns (λ x. some_below L.columns (λ y. joins k l x y))) (other k l ne)
      (some_below-holds L.columns (λ x. some_below L.columns (λ y. joins k l x y)) x xl (some_below-holds L.columns (λ y. joins k l x y) y yl
      (both_true (eqb (part_of x) (k + 1) && eqb (part_of y) (l + 1)) (reaches (leads_to p L F) L.columns y x)
      (both_true (eqb (part_of x) (k + 1)) (eqb (part_of y) (l + 1)) (eqb_from (part_of x) (k + 1) px) (eqb_from (part_of y) (l + 1) py))
      (reaches-make (leads_to p L F) L.columns y x yl xl r))))
    where
      other : (k l : ℕ) → k ≢ l → not (eqb k l) ≡ true
      other k l ne = grind (arith, nat_tests)

  found-order : IsBelow (leads_to p L F) L.columns (is_free F) (is_end p L F) (block_of found_parts) blocks found_below
  found-order = record {
    apart = λ k l kl ll h q. (below-tells k l h).0 q;
    tells = λ x y mx my h. tells x y mx my (below-tells (block_of found_parts y) (block_of found_parts x) h).1;
    made = λ x y mx my r ne. below-made (block_of found_parts y) (block_of found_parts x) y x ne my.0 mx.0 (placed y my) (placed x mx) r;
  }
    where
      placed : (x : ℕ) → IsOfMiddle p L F x → part_of x ≡ block_of found_parts x + 1
      placed x m = omega (arith, middle-part x m)

      tells : (x y : ℕ) → IsOfMiddle p L F x → IsOfMiddle p L F y →
          (u : ℕ) × (v : ℕ) × (u < L.columns) × (v < L.columns) × (part_of u ≡ block_of found_parts y + 1) ×
          (part_of v ≡ block_of found_parts x + 1) × ReachesIn p L F v u → ReachesIn p L F x y
      tells x y mx my (u, v, ul, vl, pu, pv, r) =
          let mu : IsOfMiddle p L F u = part-middle u (block_of found_parts y) ul (found-listing.below_b y my) pu in
          let mv : IsOfMiddle p L F v = part-middle v (block_of found_parts x) vl (found-listing.below_b x mx) pv in
          reaches-join (leads_to p L F) L.columns x v y (found-listing.shared x v mx mv (omega (arith, pv))).0
          (reaches-join (leads_to p L F) L.columns v u y r (found-listing.shared u y mu my (omega (arith, pu))).0)

  -- ---- the lower lists
  abbrev middles : ℕ → ℕ → ℕ → Bool
  middles k l m = found_below k m && found_below m l

  pub found_lower : ℕ → ℕ → Bool
  found_lower l k = (ltb k blocks && ltb l blocks) && (found_below k l && not (some_below blocks (λ m. middles k l m)))

  lower-tells : (k l : ℕ) → found_lower l k ≡ true → (k < blocks) × (l < blocks) × (found_below k l ≡ true) × (some_below blocks (λ m. middles k l m) ≡ false)
  unfolding found_lower
  lower-tells k l h = four (ltb k blocks) (ltb l blocks) (found_below k l) (some_below blocks (λ m. middles k l m)) h
      (λ e. below k blocks e) (λ e. below l blocks e)
    where
      below : (k b : ℕ) → ltb k b ≡ true → k < b
      below k b h = grind (arith, nat_tests)

      four : (a b c d : Bool) → (a && b) && (c && not d) ≡ true → (a ≡ true → k < blocks) → (b ≡ true → l < blocks) →
          (k < blocks) × (l < blocks) × (c ≡ true) × (d ≡ false)
      four a b c d h f g = (
        f (both-first a b (both-first (a && b) (c && not d) h)),
        g (both-second a b (both-first (a && b) (c && not d) h)),
        both-first c (not d)
            (both-second (a && b) (c && not d) h),
        not-true d (both-second c (not d) (both-second (a && b) (c && not d) h)),
      )

  lower-made : (k l : ℕ) → k < blocks → l < blocks → found_below k l ≡ true → some_below blocks (λ m. middles k l m) ≡ false → found_lower l k ≡ true
  unfolding found_lower
  lower-made k l kl ll h none = both_true (ltb k blocks && ltb l blocks) (found_below k l && not (some_below blocks (λ m. middles k l m)))
      (both_true (ltb k blocks) (ltb l blocks) (less k blocks kl) (less l blocks ll))
      (both_true (found_below k l) (not (some_below blocks (λ m. middles k l m))) h (not-make (some_below blocks (λ m. middles k l m)) none))
    where
      less : (k b : ℕ) → k < b → ltb k b ≡ true
      less k b l = grind (arith, nat_tests)

  found-lists : IsCover found_below blocks found_lower
  found-lists = record {
    is_below = λ k l kl ll h. (lower-tells k l h).2;
    none_between = λ k m l kl ml ll h a b. differ (lower-tells k l h).3
        (some_below-holds blocks (λ m. middles k l m) m ml (both_true (found_below k m) (found_below m l) a b));
    all = λ k l kl ll h none. lower-made k l kl ll h (not_true (some_below blocks (λ m. middles k l m)) (λ t.
        let f : (m : ℕ) × (m < blocks) × (middles k l m ≡ true) = some_below-found blocks (λ m. middles k l m) t in
        none f.0 f.1 (both-first (found_below k f.0) (found_below f.0 l) f.2) (both-second (found_below k f.0) (found_below f.0 l) f.2)));
  }

  pub found-kept : KeepsPartRules p L F found_parts found_below found_lower
  found-kept = record {
    rows = found-rows;
    rules = parts-keep (leads_to p L F) L.columns (is_free F) (is_end p L F) (block_of found_parts) blocks found-listing
        found_below found-order (in_first found_parts)
        (in_last found_parts) clear found-first
        found-last last-found found_lower found-lists (λ k l h. ((lower-tells k l h).0, (lower-tells k l h).1));
    order = found-order;
    lists = found-lists;
  }
