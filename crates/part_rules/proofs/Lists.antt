-- The lists of lower blocks: what arcs between blocks, chains and first places tell of them.
use Rattle.std.proofs.Common.{◌≡◌, ℕ, zero, suc, ◌+◌, ◌<◌, ◌≤◌, ◌⊎◌, Bool, true, inl, inr, refl, sym, subst, arith}
use Rattle.residue_theory.proofs.SetLaws.{differ}
use Rattle.residue_theory.proofs.SumLaws.{nat_cases}
use Rattle.closed_sets.specs.Walks.{Walk, Reaches, ReachesOn, Mutual}
use Rattle.closed_sets.specs.Blocks.{IsBelow}
use Rattle.closed_sets.specs.Closed.{IsMiddle}
use Rattle.closed_sets.specs.Orders.{IsCover}
use Rattle.closed_sets.specs.Rules.{InBlock, KeepsPlaceRules, PlacesLeadDown, PlacesHaveReasons, PlacesHaveLowerLists}
use Rattle.closed_sets.proofs.RuleLaws.{block-middle, middle-block}
use Rattle.closed_sets.proofs.WalkLaws.{reaches-join, reaches-arc}
use Rattle.part_rules.specs.Parts.{AreNumbered}
use Rattle.part_rules.specs.Tests.{ArcsAreDown, AreCovers, AreFirstPlaces, IsLeastFirst, TellsChains}
use Rattle.part_rules.specs.Laws.{AreFalling}
use Rattle.part_rules.proofs.Chains.{one-step, chain-join, first-step, chain-falls}
use Rattle.part_rules.proofs.Numbering.{below-last, number-is, number-below, at-block, block-at, part-cases, numbers-down}
use Rattle.part_rules.proofs.Withins.{walk-falls}

-- z is a lesser place than x, of block k
abbrev HasLess : ℕ → (ℕ → Bool) → (ℕ → Bool) → (ℕ → ℕ) → ℕ → ℕ → Type 0
HasLess n F L block x k = (z : ℕ) × (z < x) × InBlock n F L z × (block z ≡ k)

module _ (arc : ℕ → ℕ → Bool) (n : ℕ) (starts ends F L : ℕ → Bool) (block part : ℕ → ℕ) (b : ℕ) (lower : ℕ → ℕ → Bool)
    (N : AreNumbered n b F L block part) (falling : AreFalling lower) (A : ArcsAreDown arc n starts ends part b lower)
    (G : PlacesHaveReasons arc n starts ends F L block) where
  down : PlacesLeadDown arc n starts ends F L block b lower
  down = numbers-down n b F L block part N arc starts ends lower A

  -- the places on a walk between places of blocks stand in blocks
  on-walk : (k x y z : ℕ) → InBlock n F L x → InBlock n F L y → z < n → Walk arc n x z k → arc z y ≡ true → InBlock n F L z
  on-walk k x y z ix iy zl w a = elim (part-cases n b F L block part N z zl) [
    | inl f ↦ absurd (differ iy.not_first (down.first_leads z y zl iy.below f a))
    | inr rest ↦ elim rest [
      | inl l ↦ let last : part z ≡ b + 2 = (N.last z zl).0 l in
          absurd (omega (
            arith,
            last,
            walk-falls arc n starts ends F L block part b lower N falling A k x z ix.below zl
                w,
            below-last n b F L block part N x ix,
          ))
      | inr iz ↦ iz
    ]
  ]

  -- where an arc leads between blocks, a chain leads, or it stays
  arc-chain : (x y : ℕ) → InBlock n F L x → InBlock n F L y → arc x y ≡ true → (block y ≡ block x) ⊎ ReachesOn lower b (block x) (block y)
  arc-chain x y ix iy a = elim (down.block_leads x y ix iy.below a) [
    | inl f ↦ absurd (differ iy.not_first f)
    | inr (_, d) ↦ d
  ]

  pub walk-chain : (k x y : ℕ) → InBlock n F L x → InBlock n F L y → Walk arc n x y k → (block y ≡ block x) ⊎ ReachesOn lower b (block x) (block y)
  walk-chain zero x y ix iy e = inl (subst (λ v. block v ≡ block x) e refl)
  walk-chain (suc k) x y ix iy (z, zl, w, a) =
      let iz : InBlock n F L z = on-walk k x y z ix iy zl w a in
      elim (walk-chain k x z ix iz w) [
        | inl same ↦ elim (arc-chain z y iz iy a) [
          | inl equal ↦ inl (subst (λ v. block y ≡ v) same equal)
          | inr chain ↦ inr (subst (λ v. ReachesOn lower b v (block y)) same chain)
        ]
        | inr chain ↦ elim (arc-chain z y iz iy a) [
          | inl equal ↦ inr (subst (ReachesOn lower b (block x)) (sym equal) chain)
          | inr more ↦ inr (chain-join lower b (block x) (block z) (block y) chain more)
        ]
      ]

  pub falls : (x y : ℕ) → InBlock n F L x → InBlock n F L y → Reaches arc n x y → block y ≤ block x
  falls x y ix iy (k, w) = elim (walk-chain k x y ix iy w) [
    | inl same ↦ omega (arith, same)
    | inr chain ↦ let less : block y < block x = chain-falls lower b falling (block x) (block y) chain in omega (arith, less)
  ]

  -- parts whose listing puts the least first keep the rules
  kept : ((x k : ℕ) → InBlock n F L x → k < block x →
      ((y : ℕ) → InBlock n F L y → Reaches arc n x y → (block y < k) ⊎ (block y ≡ block x)) → HasLess n F L block x k) →
      KeepsPlaceRules arc n starts ends F L block b lower
  kept least = record {
    apart = λ x xl f l. let one : part x ≡ 1 = (N.first x xl).0 f in let last : part x ≡ b + 2 = (N.last x xl).0 l in omega (arith, one, last);
    down = down;
    reasons = G;
    number = number-below n b F L block part N;
    member = λ k kb. found k kb (N.member k kb);
    falling = falling;
    least = least;
  }
    where
      found : (k : ℕ) → k < b → ((x : ℕ) × (x < n) × (part x ≡ k + 2)) → (x : ℕ) × InBlock n F L x × (block x ≡ k)
      found k kb (x, xl, at) = (x, at-block n b F L block part N x k xl kb at, block-at n b F L block part N x k xl kb at)

  member-of : (k : ℕ) → k < b → (x : ℕ) × InBlock n F L x × (block x ≡ k)
  member-of k kb = let m = N.member k kb in (m.0, at-block n b F L block part N m.0 k m.1 kb m.2, block-at n b F L block part N m.0 k m.1 kb m.2)

  module _ (C : AreCovers arc n part b lower) where
    -- a list leads where it says
    step-reaches : (l k x y : ℕ) → l < b → lower l k ≡ true → InBlock n F L x → block x ≡ l → InBlock n F L y → block y ≡ k → Reaches arc n x y
    step-reaches l k x y lb h ix bx iy by = go (C.direct k l lb h)
      where
        kb : k < b
        kb = let less : k < l = falling k l h in omega (arith, less, lb)

        go : ((u v : ℕ) × (u < n) × (v < n) × (part u ≡ l + 2) × (part v ≡ k + 2) × (arc u v ≡ true)) → Reaches arc n x y
        go (u, v, ul, vl, pu, pv, a) =
            let iu : InBlock n F L u = at-block n b F L block part N u l ul lb pu in
            let iv : InBlock n F L v = at-block n b F L block part N v k vl kb pv in
            let bu : block u ≡ l = block-at n b F L block part N u l ul lb pu in
            let bv : block v ≡ k = block-at n b F L block part N v k vl kb pv in
            let first : Mutual arc n x u = G.block_mutual x u ix iu (omega (arith, bx, bu)) in
            let last : Mutual arc n v y = G.block_mutual v y iv iy (omega (arith, bv, by)) in
            reaches-join arc n x v y (reaches-arc arc n x u v first.0 ul a) last.0

    chain-reaches : (j l k x y : ℕ) → l < b → k < b → Walk lower b l k (suc j) → InBlock n F L x → block x ≡ l →
        InBlock n F L y → block y ≡ k → Reaches arc n x y
    chain-reaches zero l k x y lb kb (z, zb, e, h) ix bx iy by = step-reaches l k x y lb (subst (λ v. lower v k ≡ true) (sym e) h) ix bx iy by
    chain-reaches (suc j) l k x y lb kb (z, zb, w, h) ix bx iy by =
        let m = member-of z zb in
        reaches-join arc n x m.0 y (chain-reaches j l z x m.0 lb zb w ix bx m.1 m.2) (step-reaches z k m.0 y zb h m.1 m.2 iy by)

    module _ (head : ℕ → ℕ) (H : AreFirstPlaces n part b head) (O : IsLeastFirst b lower head) where
      least-kept : (x k : ℕ) → InBlock n F L x → k < block x →
          ((y : ℕ) → InBlock n F L y → Reaches arc n x y → (block y < k) ⊎ (block y ≡ block x)) → HasLess n F L block x k
      least-kept x k ix less before =
          let lb : block x < b = number-below n b F L block part N x ix in
          let kb : k < b = omega (arith, less, lb) in
          let px : block x + 2 ≡ part x = number-is n b F L block part N x ix in
          let at : part (head k) ≡ k + 2 = (H.heads k kb).1 in
          let hl : head k < n = (H.heads k kb).0 in
          let first : head (block x) < x + 1 = H.least (block x) x lb ix.below (sym px) in
          let lead : head k < head (block x) = O k (block x) less lb (ready lb) in
          (head k, omega (arith, first, lead), at-block n b F L block part N (head k) k hl kb at, block-at n b F L block part N (head k) k hl kb at)
        where
          ready : block x < b → (m : ℕ) → lower (block x) m ≡ true → m < k
          ready lb m h =
              let low : m < block x = falling m (block x) h in
              let member = member-of m (omega (arith, low, lb)) in
              let there : Reaches arc n x member.0 = step-reaches (block x) m x member.0 lb h ix refl member.1 member.2 in
              elim (before member.0 member.1 there) [
                | inl less ↦ omega (arith, less, member.2)
                | inr same ↦ absurd (omega (arith, same, member.2, low))
              ]

      module _ (below : ℕ → ℕ → Bool) (B : TellsChains lower b below) where
        K : KeepsPlaceRules arc n starts ends F L block b lower
        K = kept least-kept

        block-of : (x : ℕ) → IsMiddle arc n starts ends x → InBlock n F L x
        block-of x = middle-block arc n starts ends F L block b lower K x

        pub covers-order : IsBelow arc n starts ends block b (λ k l. below l k)
        covers-order = record {
          apart = λ k l kb lb h same. let less : k < l = chain-falls lower b falling l k ((B l k lb kb).0 h) in omega (arith, less, same);
          tells = λ x y mx my h.
              let ix : InBlock n F L x = block-of x mx in
              let iy : InBlock n F L y = block-of y my in
              let lb : block x < b = number-below n b F L block part N x ix in
              let kb : block y < b = number-below n b F L block part N y iy in
              let chain : ReachesOn lower b (block x) (block y) = (B (block x) (block y) lb kb).0 h in
              chain-reaches chain.0 (block x) (block y) x y lb kb chain.1 ix refl iy refl;
          made = λ x y mx my r apart.
              let ix : InBlock n F L x = block-of x mx in
              let iy : InBlock n F L y = block-of y my in
              let lb : block x < b = number-below n b F L block part N x ix in
              let kb : block y < b = number-below n b F L block part N y iy in
              elim (walk-chain r.0 x y ix iy r.1) [
                | inl same ↦ absurd (apart same)
                | inr chain ↦ (B (block x) (block y) lb kb).1 chain
              ];
        }

        pub covers-are : IsCover (λ k l. below l k) b lower
        covers-are = record {
          is_below = λ k l kb lb h. (B l k lb kb).1 (one-step lower b l k lb h);
          none_between = λ k m l kb mb lb h km ml. between k m l kb mb lb h ((B m k mb kb).0 km) ((B l m lb mb).0 ml);
          all = λ k l kb lb h none. found k l kb lb ((B l k lb kb).0 h) none;
        }
          where
            between : (k m l : ℕ) → k < b → m < b → l < b → lower l k ≡ true → ReachesOn lower b m k → ReachesOn lower b l m → ⊥
            between k m l kb mb lb h low (j, w) = go (first-step lower b j l m lb mb w)
              where
                go : ((z : ℕ) × (z < b) × (lower l z ≡ true) × ((z ≡ m) ⊎ ReachesOn lower b z m)) → ⊥
                go (z, zb, lz, inl same) = C.none_between k z l lb h lz (subst (λ v. ReachesOn lower b v k) (sym same) low)
                go (z, zb, lz, inr chain) = C.none_between k z l lb h lz (chain-join lower b z m k chain low)

            found : (k l : ℕ) → k < b → l < b → ReachesOn lower b l k → ((m : ℕ) → m < b → below m k ≡ true → below l m ≡ true → ⊥) → lower l k ≡ true
            found k l kb lb (j, w) none = go (first-step lower b j l k lb kb w)
              where
                go : ((z : ℕ) × (z < b) × (lower l z ≡ true) × ((z ≡ k) ⊎ ReachesOn lower b z k)) → lower l k ≡ true
                go (z, zb, lz, inl same) = subst (λ v. lower l v ≡ true) same lz
                go (z, zb, lz, inr chain) = absurd (none z zb ((B z k zb kb).1 chain) ((B l z lb zb).1 (one-step lower b l z lb lz)))

        pub covers-lists : PlacesHaveLowerLists arc n starts ends F L block b lower
        covers-lists = record { below = λ k l. below l k; order = covers-order; lists = covers-are; least = least-kept }

  module _ (R : PlacesHaveLowerLists arc n starts ends F L block b lower) where
    listed : KeepsPlaceRules arc n starts ends F L block b lower
    listed = kept R.least

    middle-of : (x : ℕ) → InBlock n F L x → IsMiddle arc n starts ends x
    middle-of x = block-middle arc n starts ends F L block b lower listed x

    -- what is below is reached by a chain
    below-chained : (k l : ℕ) → k < b → l < b → R.below k l ≡ true → ReachesOn lower b l k
    below-chained k l kb lb h =
        let x = member-of l lb in
        let y = member-of k kb in
        let there : Reaches arc n x.0 y.0 = R.order.tells x.0 y.0 (middle-of x.0 x.1) (middle-of y.0 y.1)
        (subst (λ v. R.below v (block x.0) ≡ true) (sym y.2) (subst (λ v. R.below k v ≡ true) (sym x.2) h)) in
        elim (walk-chain there.0 x.0 y.0 x.1 y.1 there.1) [
          | inl same ↦ absurd (R.order.apart k l kb lb h (omega (arith, same, x.2, y.2)))
          | inr chain ↦ subst (λ v. ReachesOn lower b v k) x.2 (subst (ReachesOn lower b (block x.0)) y.2 chain)
        ]

    -- what a chain leads to is below
    chained-below : (k l : ℕ) → k < b → l < b → ReachesOn lower b l k → R.below k l ≡ true
    chained-below k l kb lb (j, w) = go j k kb w
      where
        reach : (z k : ℕ) → z < b → k < b → lower z k ≡ true → (x y : ℕ) → InBlock n F L x → block x ≡ z → InBlock n F L y → block y ≡ k → Reaches arc n x y
        reach z k zb kb h x y ix bx iy by = R.order.tells x y (middle-of x ix) (middle-of y iy)
            (subst (λ v. R.below v (block x) ≡ true) (sym by) (subst (λ v. R.below k v ≡ true) (sym bx) (R.lists.is_below k z kb zb h)))

        reach-all : (j k : ℕ) → k < b → Walk lower b l k (suc j) → (x y : ℕ) → InBlock n F L x → block x ≡ l → InBlock n F L y → block y ≡ k → Reaches arc n x y
        reach-all zero k kb (z, zb, e, h) x y ix bx iy by = reach l k lb kb (subst (λ v. lower v k ≡ true) (sym e) h) x y ix bx iy by
        reach-all (suc j) k kb (z, zb, w, h) x y ix bx iy by =
            let m = member-of z zb in
            reaches-join arc n x m.0 y (reach-all j z zb w x m.0 ix bx m.1 m.2) (reach z k zb kb h m.0 y m.1 m.2 iy by)

        go : (j k : ℕ) → k < b → Walk lower b l k (suc j) → R.below k l ≡ true
        go j k kb w =
            let x = member-of l lb in
            let y = member-of k kb in
            let less : k < l = chain-falls lower b falling l k (j, w) in
            let there : Reaches arc n x.0 y.0 = reach-all j k kb w x.0 y.0 x.1 x.2 y.1 y.2 in
            let made : R.below (block y.0) (block x.0) ≡ true =
            R.order.made x.0 y.0 (middle-of x.0 x.1) (middle-of y.0 y.1) there
            (λ same. absurd (omega (arith, same, x.2, y.2, less))) in
            subst (λ v. R.below v l ≡ true) y.2 (subst (λ v. R.below (block y.0) v ≡ true) x.2 made)

    abbrev Crosses : ℕ → ℕ → Type 0
    Crosses l k = (u v : ℕ) × (u < n) × (v < n) × (part u ≡ l + 2) × (part v ≡ k + 2) × (arc u v ≡ true)

    -- a walk from one block to another one crosses at once, or there is a third block between
    crossing : (j x y : ℕ) → InBlock n F L x → InBlock n F L y → block y < block x → Walk arc n x y j →
        Crosses (block x) (block y) ⊎ ((m : ℕ) × (m < b) × (R.below (block y) m ≡ true) × (R.below m (block x) ≡ true))
    crossing zero x y ix iy less e = absurd (subst (λ v. block v < block x → ⊥) e (λ h. omega (arith, h)) less)
    crossing (suc j) x y ix iy less (z, zl, w, a) =
        let iz : InBlock n F L z = on-walk j x y z ix iy zl w a in
        let pz : block z + 2 ≡ part z = number-is n b F L block part N z iz in
        let py : block y + 2 ≡ part y = number-is n b F L block part N y iy in
        let zb : block z < b = number-below n b F L block part N z iz in
        elim (nat_cases (block z) (block x)) [
          | inl same ↦ inl (z, y, zl, iy.below, omega (arith, pz, same), sym py, a)
          | inr other ↦ elim (nat_cases (block z) (block y)) [
            | inl here ↦ elim (crossing j x z ix iz (omega (arith, here, less)) w) [
              | inl across ↦ inl (subst (Crosses (block x)) here across)
              | inr (m, mb, low, high) ↦ inr (m, mb, subst (λ v. R.below v m ≡ true) here low, high)
            ]
            | inr apart ↦ inr (
              block z,
              zb,
              R.order.made z y (middle-of z iz) (middle-of y iy) (1, (z, zl, refl, a)) (λ same. apart (sym same)),
              R.order.made x z (middle-of x ix) (middle-of z iz) (j, w) other,
            )
          ]
        ]

    pub lists-covers : AreCovers arc n part b lower
    lists-covers = record { direct = direct; none_between = none }
      where
        direct : (k l : ℕ) → l < b → lower l k ≡ true → Crosses l k
        direct k l lb h =
            let less : k < l = falling k l h in
            let kb : k < b = omega (arith, less, lb) in
            let x = member-of l lb in
            let y = member-of k kb in
            let under : R.below k l ≡ true = R.lists.is_below k l kb lb h in
            let there : Reaches arc n x.0 y.0 = R.order.tells x.0 y.0 (middle-of x.0 x.1) (middle-of y.0 y.1)
            (subst (λ v. R.below v (block x.0) ≡ true) (sym y.2) (subst (λ v. R.below k v ≡ true) (sym x.2) under))
            in
            elim (crossing there.0 x.0 y.0 x.1 y.1 (omega (arith, x.2, y.2, less)) there.1) [
              | inl across ↦ subst (λ v. Crosses v k) x.2 (subst (Crosses (block x.0)) y.2 across)
              | inr (m, mb, low, high) ↦ absurd
                  (R.lists.none_between k m l kb mb lb h (subst (λ v. R.below v m ≡ true) y.2 low)
                  (subst (λ v. R.below m v ≡ true) x.2 high))
            ]

        none : (k m l : ℕ) → l < b → lower l k ≡ true → lower l m ≡ true → ReachesOn lower b m k → ⊥
        none k m l lb hk hm chain =
            let k_less : k < l = falling k l hk in
            let m_less : m < l = falling m l hm in
            let kb : k < b = omega (arith, k_less, lb) in
            let mb : m < b = omega (arith, m_less, lb) in
            R.lists.none_between k m l kb mb lb hk (chained-below k m kb mb chain) (R.lists.is_below m l mb lb hm)

    pub lists-least : (head : ℕ → ℕ) → AreFirstPlaces n part b head → IsLeastFirst b lower head
    lists-least head H k l less lb before = go (R.least (head l) k ih (omega (arith, bh, less)) ready)
      where
        hl : head l < n
        hl = (H.heads l lb).0

        at : part (head l) ≡ l + 2
        at = (H.heads l lb).1

        ih : InBlock n F L (head l)
        ih = at-block n b F L block part N (head l) l hl lb at

        bh : block (head l) ≡ l
        bh = block-at n b F L block part N (head l) l hl lb at

        kb : k < b
        kb = omega (arith, less, lb)

        ready : (y : ℕ) → InBlock n F L y → Reaches arc n (head l) y → (block y < k) ⊎ (block y ≡ block (head l))
        ready y iy (j, w) = elim (walk-chain j (head l) y ih iy w) [
          | inl same ↦ inr same
          | inr chain ↦ inl (low y iy (subst (λ v. ReachesOn lower b v (block y)) bh chain))
        ]
          where
            low : (y : ℕ) → InBlock n F L y → ReachesOn lower b l (block y) → block y < k
            low y iy (i, u) = enter (first-step lower b i l (block y) lb (number-below n b F L block part N y iy) u)
              where
                enter : ((m : ℕ) × (m < b) × (lower l m ≡ true) × ((m ≡ block y) ⊎ ReachesOn lower b m (block y))) → block y < k
                enter (m, mb, h, inl same) = let less : m < k = before m h in omega (arith, same, less)
                enter (m, mb, h, inr chain) = let less : m < k = before m h in let under : block y < m =
                    chain-falls lower b falling m (block y) chain in omega (arith, less, under)

        go : HasLess n F L block (head l) k → head k < head l
        go (z, zh, iz, bz) =
            let pz : block z + 2 ≡ part z = number-is n b F L block part N z iz in
            let first : head k < z + 1 = H.least k z kb iz.below (omega (arith, pz, bz)) in
            omega (arith, first, zh)
