-- The steps along a path, over plain variables.
use Rattle.std.proofs.Common.{◌≡◌, ℕ, zero, suc, ◌+◌, ◌-◌, ◌*◌, ◌<◌, ◌≤◌, ◌≢◌, Bool, true, false, ◌⊎◌, inl, inr, refl, ap, sym, subst, ◌∙◌, arith}
use Rattle.residue_theory.specs.Sets.{everything}
use Rattle.residue_theory.specs.Sums.{size_on}
use Rattle.residue_theory.proofs.SumLaws.{nat_cases}
use Rattle.residue_theory.proofs.SetLaws.{differ, not_true, lt_cases, zero_cases, search_below}
use Rattle.closed_sets.specs.Walks.{Reaches}
use Rattle.closed_sets.proofs.SetLaws.{test_cases, size_on-bound, size_on-less}
use Rattle.closed_sets.proofs.WalkLaws.{reaches-self, reaches-arc, reaches-join}
use Rattle.exchange_graph.specs.Turns.{HaveHadTurns, HasNextTurn}
use Rattle.minimiser_lattice.specs.Paths.{PathState, IsHandled, IsGoing, IsOnPath, IsFinished, AreMergedGroups, last_of}

-- numbers that rise are no less than their places
pub rising_le : (f : ℕ → ℕ) (k : ℕ) → ((i j : ℕ) → i < j → j < k → f i < f j) → (i : ℕ) → i < k → i ≤ f i
rising_le f k rises zero l = omega arith
rising_le f k rises (suc i) l = omega (arith, rising_le f k rises i (omega arith), rises i (suc i) (omega arith) l)

-- a set that misses a place
pub size_misses : (X : ℕ → Bool) (n v : ℕ) → v < n → X v ≡ false → size_on X n < n
size_misses X n v l f = omega (arith, size_on-less everything X n v (λ j jl h. refl) l refl f, size_on-bound everything n)

moved : (arc : ℕ → ℕ → Bool) (n a b c d : ℕ) → a ≡ b → c ≡ d → Reaches arc n b d → Reaches arc n a c
moved arc n a b c d ab cd r = subst (λ v. Reaches arc n v c) (sym ab) (subst (λ v. Reaches arc n b v) (sym cd) r)

-- what holds of the places that had their turn before, and of the next one
pub turns-next : (test : ℕ → Bool) (turn : ℕ → ℕ) (n from to next : ℕ) (X : ℕ → Type 0) →
    HasNextTurn test turn n from to next → ((y : ℕ) → y < n → turn y < from → test y ≡ true → X y) → X to →
    (y : ℕ) → y < n → turn y < next → test y ≡ true → X y
turns-next test turn n from to next X N old here y yl less a =
    elim (N.others y yl a less) [ inl l ↦ old y yl l a | inr q ↦ subst X (sym q) here ]

module _ (arc : ℕ → ℕ → Bool) (turn : ℕ → ℕ → ℕ) (n : ℕ) (s : PathState) (G : IsGoing arc turn n s) where
  -- there is room for a place that was not seen
  pub enter_room : (place : ℕ) → place < n → s.seen place ≡ false → (s.height < n) × (s.groups < n) × (s.depth < n) × (s.count < n)
  enter_room place l fresh = (
    height,
    at_most s.groups s.base G.base_rises G.base_below,
    at_most s.depth s.path G.path_rises G.path_below,
    omega (arith, G.room, small),
  )
    where
      small : size_on s.seen n < n
      small = size_misses s.seen n place l fresh

      height : s.height < n
      height = omega (arith, G.room, small)

      at_most : (k : ℕ) (f : ℕ → ℕ) → ((i j : ℕ) → i < j → j < k → f i < f j) → ((i : ℕ) → i < k → f i < s.height) → k < n
      at_most zero f rises below = omega (arith, height)
      at_most (suc k) f rises below = omega (arith, height, below k (omega arith), rising_le f (suc k) rises k (omega arith))

  -- nothing stands on the stack where nothing is left on the path
  pub stack_empty : s.depth ≡ 0 → s.height ≡ 0
  stack_empty none = go (zero_cases s.height)
    where
      go : (s.height ≡ 0) ⊎ (s.height ≢ 0) → s.height ≡ 0
      go (inl q) = q
      go (inr some) = let d = G.base_on_path 0 (G.first_base (omega arith)).0 in absurd (omega (arith, d.1))

  pub all_done : s.depth ≡ 0 → (y : ℕ) → y < n → s.seen y ≡ true → s.done y ≡ true
  all_done none y l h = go (test_cases (s.done y))
    where
      go : (s.done y ≡ true) ⊎ (s.done y ≡ false) → s.done y ≡ true
      go (inl t) = t
      go (inr f) = absurd (omega (arith, (G.on_stack y l h f).0, stack_empty none))

  module _ (d : ℕ) (more : s.depth ≡ d + 1) where
    -- the last place of the path is the highest one
    pub path_top : (e : ℕ) → e < s.depth → s.path e ≤ s.path d
    path_top e l = elim (nat_cases e d) [ inl q ↦ omega (arith, ap s.path q) | inr ne ↦ omega (arith, G.path_rises e d (omega arith) (omega arith)) ]

    pub base_top : (g : ℕ) → g < s.groups → s.base g ≤ s.path d
    base_top g l = let e = G.base_on_path g l in omega (arith, e.2, path_top e.0 e.1)

    -- each place of the stack reaches it
    pub reaches_top : (i : ℕ) → i < s.height → Reaches arc n (s.stack i) (s.stack (s.path d))
    reaches_top i l = elim (lt_cases (s.path d) i) [
      | inl above ↦ G.back (s.path d) i (omega arith) l (λ g gl a b. omega (arith, base_top g gl))
      | inr within ↦ G.along i (s.path d) within (G.path_below d (omega arith))
    ]

    pub reaches_next : (to : ℕ) → arc (s.stack (s.path d)) to ≡ true → (i : ℕ) → i < s.height → Reaches arc n (s.stack i) to
    reaches_next to a i l = reaches-arc arc n (s.stack i) (s.stack (s.path d)) to (reaches_top i l) (G.stack_below (s.path d) (G.path_below d (omega arith))) a

-- a place is entered
module _ (arc : ℕ → ℕ → Bool) (turn : ℕ → ℕ → ℕ) (n : ℕ) (s t : PathState) (to : ℕ) (G : IsGoing arc turn n s)
    (P : IsOnPath s t to) (tl : to < n) (fresh : s.seen to ≡ false)
    (leads : (i : ℕ) → i < s.height → Reaches arc n (s.stack i) to) where
  abbrev u : PathState
  u = record s {
    seen = t.seen;
    position = t.position;
    next = t.next;
    stack = t.stack;
    base = t.base;
    path = t.path;
    height =
        s.height + 1;
    groups = s.groups + 1;
    depth = s.depth + 1;
  }

  spot : (i : ℕ) → i < s.height + 1 → ((i ≡ s.height) × (t.stack i ≡ to)) ⊎ ((i < s.height) × (t.stack i ≡ s.stack i))
  spot i l = elim (nat_cases i s.height) [ inl q ↦ inl (q, ap t.stack q ∙ P.stack) | inr ne ↦ inr (omega arith, P.stack_others i ne) ]

  seen_other : (y : ℕ) → s.seen y ≡ true → y ≢ to
  seen_other y h q = differ fresh (subst (λ v. s.seen v ≡ true) q h)

  still_seen : (y : ℕ) → s.seen y ≡ true → t.seen y ≡ true
  still_seen y h = P.seen_others y (seen_other y h) ∙ h

  old_base : (g : ℕ) → g < s.groups → t.base g ≡ s.base g
  old_base g l = P.base_others g (λ q. omega arith)

  old_path : (d : ℕ) → d < s.depth → t.path d ≡ s.path d
  old_path d l = P.path_others d (λ q. omega arith)

  to_waits : s.done to ≡ false
  to_waits = not_true (s.done to) (λ h. differ fresh (G.done_seen to tl h))

  next_is : (i : ℕ) → i < s.height → t.stack i ≡ s.stack i → t.next (t.stack i) ≡ s.next (s.stack i)
  next_is i l e = ap t.next e ∙ P.next_others (s.stack i) (seen_other (s.stack i) (G.stack_seen i l))

  pos_is : (y : ℕ) → s.seen y ≡ true → t.position y ≡ s.position y
  pos_is y h = P.position_others y (seen_other y h)

  u_on_stack : (y : ℕ) → y < n → t.seen y ≡ true → s.done y ≡ false → (t.position y < s.height + 1) × (t.stack (t.position y) ≡ y)
  u_on_stack y l h w = go (nat_cases y to)
    where
      go : (y ≡ to) ⊎ (y ≢ to) → (t.position y < s.height + 1) × (t.stack (t.position y) ≡ y)
      go (inl q) = let p : t.position y ≡ s.height = ap t.position q ∙ P.position in (omega arith, ap t.stack p ∙ (P.stack ∙ sym q))
      go (inr ne) =
          let e = G.on_stack y l (sym (P.seen_others y ne) ∙ h) w in
          let p : t.position y ≡ s.position y = P.position_others y ne in
          (omega (arith, e.0), ap t.stack p ∙ (P.stack_others (s.position y) (λ q. omega (arith, e.0)) ∙ e.1))

  u_along : (i j : ℕ) → i ≤ j → j < s.height + 1 → Reaches arc n (t.stack i) (t.stack j)
  u_along i j le l = go (spot i (omega arith)) (spot j l)
    where
      go : ((i ≡ s.height) × (t.stack i ≡ to)) ⊎ ((i < s.height) × (t.stack i ≡ s.stack i)) →
          ((j ≡ s.height) × (t.stack j ≡ to)) ⊎ ((j < s.height) × (t.stack j ≡ s.stack j)) →
          Reaches arc n (t.stack i) (t.stack j)
      go (inl (q, e)) (inl (r, f)) = moved arc n (t.stack i) to (t.stack j) to e f (reaches-self arc n to)
      go (inl (q, e)) (inr (r, f)) = absurd (omega arith)
      go (inr (q, e)) (inl (r, f)) = moved arc n (t.stack i) (s.stack i) (t.stack j) to e f (leads i q)
      go (inr (q, e)) (inr (r, f)) = moved arc n (t.stack i) (s.stack i) (t.stack j) (s.stack j) e f (G.along i j le r)

  u_back : (i j : ℕ) → i ≤ j → j < s.height + 1 → ((g : ℕ) → g < s.groups + 1 → i < t.base g → t.base g ≤ j → ⊥) → Reaches arc n (t.stack j) (t.stack i)
  u_back i j le l none = go (spot i (omega arith)) (spot j l)
    where
      go : ((i ≡ s.height) × (t.stack i ≡ to)) ⊎ ((i < s.height) × (t.stack i ≡ s.stack i)) →
          ((j ≡ s.height) × (t.stack j ≡ to)) ⊎ ((j < s.height) × (t.stack j ≡ s.stack j)) →
          Reaches arc n (t.stack j) (t.stack i)
      go (inl (q, e)) (inl (r, f)) = moved arc n (t.stack j) to (t.stack i) to f e (reaches-self arc n to)
      go (inl (q, e)) (inr (r, f)) = absurd (omega arith)
      go (inr (q, e)) (inl (r, f)) = absurd (none s.groups (omega arith) (omega (arith, P.base)) (omega (arith, P.base)))
      go (inr (q, e)) (inr (r, f)) =
          moved arc n (t.stack j) (s.stack j) (t.stack i) (s.stack i) f e
          (G.back i j le r
          (λ g gl a b. none g (omega arith) (omega (arith, old_base g gl)) (omega (arith, old_base g gl))))

  u_explored : (i y : ℕ) → i < s.height + 1 → y < n → turn (t.stack i) y < t.next (t.stack i) →
      arc (t.stack i) y ≡ true → IsHandled u i y
  u_explored i y l yl less a = go (spot i l)
    where
      kept : i < s.height → IsHandled s i y → IsHandled u i y
      kept il (inl h) = inl h
      kept il (inr (h, f)) = inr (
        still_seen y h,
        λ g gl le. elim (nat_cases g s.groups) [
          | inl q ↦ absurd (omega (arith, ap t.base q, P.base))
          | inr ne ↦ let gs : g < s.groups = omega arith in omega (arith, old_base g gs, pos_is y h, f g gs (omega (arith, old_base g gs)))
        ],
      )

      go : ((i ≡ s.height) × (t.stack i ≡ to)) ⊎ ((i < s.height) × (t.stack i ≡ s.stack i)) → IsHandled u i y
      go (inl (q, e)) = absurd (omega (arith, ap t.next e, P.next))
      go (inr (il, e)) = kept il (G.explored i y il yl (omega (arith, next_is i il e, ap (λ v. turn v y) e))
          (subst (λ v. arc v y ≡ true) e a))

  u_base_rises : (g h : ℕ) → g < h → h < s.groups + 1 → t.base g < t.base h
  u_base_rises g h l hl = elim (nat_cases h s.groups) [
    | inl q ↦ omega (arith, ap t.base q, P.base, old_base g (omega arith), G.base_below g (omega arith))
    | inr ne ↦ omega (arith, old_base g (omega arith), old_base h (omega arith), G.base_rises g h l (omega arith))
  ]

  u_path_rises : (d e : ℕ) → d < e → e < s.depth + 1 → t.path d < t.path e
  u_path_rises d e l el = elim (nat_cases e s.depth) [
    | inl q ↦ omega (arith, ap t.path q, P.path, old_path d (omega arith), G.path_below d (omega arith))
    | inr ne ↦ omega (arith, old_path d (omega arith), old_path e (omega arith), G.path_rises d e l (omega arith))
  ]

  u_first_base : (0 < s.groups + 1) × (t.base 0 ≡ 0)
  u_first_base = (omega arith, go (zero_cases s.groups) (zero_cases s.height))
    where
      go : (s.groups ≡ 0) ⊎ (s.groups ≢ 0) → (s.height ≡ 0) ⊎ (s.height ≢ 0) → t.base 0 ≡ 0
      go (inl q) (inl r) = omega (arith, ap t.base q, P.base)
      go (inl q) (inr r) = absurd (omega (arith, (G.first_base (omega arith)).0))
      go (inr q) _ = omega (arith, old_base 0 (omega arith), (G.first_base (omega (arith, G.base_below 0 (omega arith)))).1)

  u_base_on_path : (g : ℕ) → g < s.groups + 1 → (d : ℕ) × (d < s.depth + 1) × (t.path d ≡ t.base g)
  u_base_on_path g l = elim (nat_cases g s.groups) [
    | inl q ↦ (s.depth, omega arith, omega (arith, P.path, ap t.base q, P.base))
    | inr ne ↦ let gs : g < s.groups = omega arith in let e = G.base_on_path g gs in (e.0, omega (arith, e.1), old_path e.0 e.1 ∙ (e.2 ∙ sym (old_base g gs)))
  ]

  pub entered-going : IsGoing arc turn n t
  entered-going = subst (λ v. IsGoing arc turn n v) (sym P.kept) (record {
    told = G.told;
    stack_below = λ i l. elim (spot i l) [ inl (q, e) ↦ subst (λ v. v < n) (sym e) tl | inr (il, e) ↦ subst (λ v. v < n) (sym e) (G.stack_below i il) ];
    stack_seen =
        λ i l. elim (spot i l) [
          | inl (q, e) ↦ subst (λ v. t.seen v ≡ true) (sym e) P.seen
          | inr (il, e) ↦ subst (λ v. t.seen v ≡ true)
              (sym e) (still_seen (s.stack i) (G.stack_seen i il))
        ];
    stack_waits = λ i l. elim (spot i l) [ inl (q, e) ↦ ap s.done e ∙ to_waits | inr (il, e) ↦ ap s.done e ∙ G.stack_waits i il ];
    placed =
        λ i l. elim (spot i l) [
          | inl (q, e) ↦ ap t.position e ∙ (P.position ∙ sym q)
          | inr (il, e) ↦ ap t.position e
              ∙ (pos_is (s.stack i) (G.stack_seen i il) ∙ G.placed i il)
        ];
    on_stack = u_on_stack;
    done_seen = λ y l h. still_seen y (G.done_seen y l h);
    along = u_along;
    back = u_back;
    explored = u_explored;
    base_below =
        λ g l. elim (nat_cases g s.groups) [
          | inl q ↦ omega (arith, ap t.base q, P.base)
          | inr ne ↦ omega
              (arith, old_base g (omega arith), G.base_below g (omega arith))
        ];
    base_rises = u_base_rises;
    first_base = λ _. u_first_base;
    path_below =
        λ d l. elim (nat_cases d s.depth) [
          | inl q ↦ omega (arith, ap t.path q, P.path)
          | inr ne ↦ omega
              (arith, old_path d (omega arith), G.path_below d (omega arith))
        ];
    path_rises = u_path_rises;
    base_on_path = u_base_on_path;
    finished = λ i l none y yl a. elim (spot i l) [
      | inl (q, e) ↦ absurd (none s.depth (omega arith) (P.path ∙ sym q))
      | inr (il, e) ↦ omega (
        arith,
        next_is i il e,
        ap (λ v. turn v y) e,
        G.finished i il (λ d dl q. none d (omega arith) (old_path d dl ∙ q)) y yl (subst (λ v. arc v y ≡ true) e a),
      )
    ];
    room = omega (arith, G.room, size_on-less t.seen s.seen n to (λ j _ h. still_seen j h) tl P.seen fresh);
  })

-- an arc leads from the last place of the path to one on the stack
module _ (arc : ℕ → ℕ → Bool) (turn : ℕ → ℕ → ℕ) (n : ℕ) (s : PathState) (d to groups : ℕ) (G : IsGoing arc turn n s) (more : s.depth ≡ d + 1)
    (tl : to < n) (h : s.seen to ≡ true) (w : s.done to ≡ false)
    (a : arc (s.stack (s.path d)) to ≡ true) (M : AreMergedGroups s groups (s.position to)) where
  m_back : (i j : ℕ) → i ≤ j → j < s.height → ((g : ℕ) → g < groups → i < s.base g → s.base g ≤ j → ⊥) → Reaches arc n (s.stack j) (s.stack i)
  m_back i j le l none = elim (search_below s.groups (λ g. (i < s.base g) × (s.base g ≤ j)) (λ g gl. both g (lt_cases i (s.base g)) (lt_cases j (s.base g)))) [
    | inr never ↦ G.back i j le l (λ g gl x y. never g gl (x, y))
    | inl (g, gl, p) ↦ through g gl p.0 p.1 (lt_cases g groups)
  ]
    where
      both : (g : ℕ) → (i < s.base g) ⊎ (s.base g ≤ i) → (j < s.base g) ⊎ (s.base g ≤ j) →
          ((i < s.base g) × (s.base g ≤ j)) ⊎ ((i < s.base g) × (s.base g ≤ j) → ⊥)
      both g (inl x) (inr y) = inl (x, y)
      both g (inr x) _ = inr (λ p. omega (arith, p.0))
      both g (inl x) (inl y) = inr (λ p. omega (arith, p.1))

      at_to : (s.position to < s.height) × (s.stack (s.position to) ≡ to)
      at_to = G.on_stack to tl h w

      from_to : s.position to < j → (i < s.position to) ⊎ (s.position to ≤ i) → Reaches arc n (s.stack (s.position to)) (s.stack i)
      from_to before (inr after) = G.along (s.position to) i after (omega arith)
      from_to before (inl less) = G.back i (s.position to) (omega arith) at_to.0 (λ g gl x y. elim (lt_cases g groups) [
        | inl kept ↦ none g kept x (omega arith)
        | inr gone ↦ omega (arith, M.joined g gone gl)
      ])

      through : (g : ℕ) → g < s.groups → i < s.base g → s.base g ≤ j → (g < groups) ⊎ (groups ≤ g) → Reaches arc n (s.stack j) (s.stack i)
      through g gl x y (inl kept) = absurd (none g kept x y)
      through g gl x y (inr gone) = reaches-join arc n (s.stack j) to (s.stack i) (reaches_next arc turn n s G d more to a j l)
          (subst (λ v. Reaches arc n v (s.stack i)) at_to.1 (from_to (omega (arith, M.joined g gone gl)) (lt_cases i (s.position to))))

  pub merged-going : IsGoing arc turn n (record s { groups = groups })
  merged-going = record {
    told = G.told;
    stack_below = G.stack_below;
    stack_seen = G.stack_seen;
    stack_waits = G.stack_waits;
    placed = G.placed;
    on_stack = G.on_stack;
    done_seen = G.done_seen;
    along = G.along;
    back = m_back;
    explored = λ i y l yl less b. elim (G.explored i y l yl less b) [ inl e ↦ inl e | inr (e, f) ↦ inr (e, λ g gl. f g (omega (arith, M.fewer))) ];
    base_below = λ g l. G.base_below g (omega (arith, M.fewer));
    base_rises = λ g k l kl. G.base_rises g k l (omega (arith, M.fewer));
    first_base = λ some. (M.some, (G.first_base some).1);
    path_below = G.path_below;
    path_rises = G.path_rises;
    base_on_path = λ g l. G.base_on_path g (omega (arith, M.fewer));
    finished = G.finished;
    room = G.room;
  }

-- all that the last place of the path leads to in a turn before `from` is handled
module _ (arc : ℕ → ℕ → Bool) (turn : ℕ → ℕ → ℕ) (n : ℕ) (s : PathState) (d from : ℕ) (next : ℕ → ℕ) (G : IsGoing arc turn n s) (more : s.depth ≡ d + 1)
    (here : next (s.stack (s.path d)) ≡ from) (others : (y : ℕ) → y ≢ s.stack (s.path d) → next y ≡ s.next y)
    (handled : (y : ℕ) → y < n → turn (s.stack (s.path d)) y < from → arc (s.stack (s.path d)) y ≡ true →
    IsHandled s (s.path d) y) where
  same_spot : (i : ℕ) → i < s.height → s.stack i ≡ s.stack (s.path d) → i ≡ s.path d
  same_spot i l q = sym (G.placed i l) ∙ (ap s.position q ∙ G.placed (s.path d) (G.path_below d (omega arith)))

  n_explored : (i y : ℕ) → i < s.height → y < n → turn (s.stack i) y < next (s.stack i) → arc (s.stack i) y ≡ true →
      IsHandled s i y
  n_explored i y l yl less a = elim (nat_cases (s.stack i) (s.stack (s.path d))) [
    | inl q ↦ subst (λ v. IsHandled s v y) (sym (same_spot i l q))
        (handled y yl (omega (arith, ap next q, here, ap (λ v. turn v y) q)) (subst (λ v. arc v y ≡ true) q a))
    | inr ne ↦ G.explored i y l yl (omega (arith, others (s.stack i) ne)) a
  ]

  pub next-going : IsGoing arc turn n (record s { next = next })
  next-going = record {
    told = G.told;
    stack_below = G.stack_below;
    stack_seen = G.stack_seen;
    stack_waits = G.stack_waits;
    placed = G.placed;
    on_stack = G.on_stack;
    done_seen = G.done_seen;
    along = G.along;
    back = G.back;
    explored = n_explored;
    base_below = G.base_below;
    base_rises = G.base_rises;
    first_base = G.first_base;
    path_below = G.path_below;
    path_rises = G.path_rises;
    base_on_path = G.base_on_path;
    finished = λ i l none y yl a. elim (nat_cases (s.stack i) (s.stack (s.path d))) [
      | inl q ↦ absurd (none d (omega arith) (sym (same_spot i l q)))
      | inr ne ↦ omega (arith, others (s.stack i) ne, G.finished i l none y yl a)
    ];
    room = G.room;
  }

-- the last place of the path is finished, and its group does not begin with it
module _ (arc : ℕ → ℕ → Bool) (turn : ℕ → ℕ → ℕ) (n : ℕ) (s : PathState) (d g : ℕ) (G : IsGoing arc turn n s) (more : s.depth ≡ d + 1)
    (last : s.groups ≡ g + 1) (other : s.base g ≢ s.path d)
    (all : HaveHadTurns (arc (s.stack (s.path d))) (turn (s.stack (s.path d))) n (s.next (s.stack (s.path d)))) where
  no_base : (h : ℕ) → h < s.groups → s.base h ≢ s.path d
  no_base h l q = elim (nat_cases h g) [
    | inl e ↦ other (sym (ap s.base e) ∙ q)
    | inr ne ↦ omega (arith, G.base_rises h g (omega arith) (omega arith), base_top arc turn n s G d more g (omega arith))
  ]

  pub left-going : IsGoing arc turn n (record s { depth = d })
  left-going = record {
    told = G.told;
    stack_below = G.stack_below;
    stack_seen = G.stack_seen;
    stack_waits = G.stack_waits;
    placed = G.placed;
    on_stack = G.on_stack;
    done_seen = G.done_seen;
    along = G.along;
    back = G.back;
    explored = G.explored;
    base_below = G.base_below;
    base_rises = G.base_rises;
    first_base = G.first_base;
    path_below = λ e l. G.path_below e (omega arith);
    path_rises = λ e f l fl. G.path_rises e f l (omega arith);
    base_on_path = λ h l. let e = G.base_on_path h l in elim (nat_cases e.0 d) [
      | inl q ↦ absurd (no_base h l (sym e.2 ∙ ap s.path q))
      | inr ne ↦ (e.0, omega (arith, e.1), e.2)
    ];
    finished = λ i l none. elim (nat_cases i (s.path d)) [
      | inl q ↦ subst (λ v. HaveHadTurns (arc (s.stack v)) (turn (s.stack v)) n (s.next (s.stack v))) (sym q) all
      | inr ne ↦ G.finished i l (λ e el q. elim (nat_cases e d) [ inl r ↦ ne (sym q ∙ ap s.path r) | inr en ↦ none e (omega arith) q ])
    ];
    room = G.room;
  }

-- what stands where fits the arrays
pub going_fits : (arc : ℕ → ℕ → Bool) (turn : ℕ → ℕ → ℕ) (n : ℕ) (s : PathState) → IsGoing arc turn n s → (s.height ≤ n)
    × (s.groups ≤ s.height) × (s.depth ≤ s.height)
going_fits arc turn n s G = (
  omega (arith, G.room, size_on-bound s.seen n),
  at_most s.groups s.base G.base_rises G.base_below,
  at_most s.depth s.path G.path_rises G.path_below,
)
  where
    at_most : (k : ℕ) (f : ℕ → ℕ) → ((i j : ℕ) → i < j → j < k → f i < f j) → ((i : ℕ) → i < k → f i < s.height) → k ≤ s.height
    at_most zero f rises below = omega arith
    at_most (suc k) f rises below = omega (arith, below k (omega arith), rising_le f (suc k) rises k (omega arith))

pub last_below : (arc : ℕ → ℕ → Bool) (turn : ℕ → ℕ → ℕ) (n : ℕ) (s : PathState) → IsGoing arc turn n s → 0 < s.depth →
    (s.path (s.depth - 1) < s.height) × (last_of s < n)
last_below arc turn n s G some = let l = G.path_below (s.depth - 1) (omega arith) in (l, G.stack_below (s.path (s.depth - 1)) l)

-- the last place of the path is being looked at: all that it leads to in a turn before `from` is handled
pub record IsAdvancing (arc : ℕ → ℕ → Bool) (turn : ℕ → ℕ → ℕ) (n : ℕ) (s : PathState) (place from : ℕ) : Type 0 where
  pub going : IsGoing arc turn n s
  pub some : 0 < s.depth
  pub last : last_of s ≡ place
  pub handled : (y : ℕ) → y < n → turn place y < from → arc place y ≡ true → IsHandled s (s.path (s.depth - 1)) y

pub advancing-first : (arc : ℕ → ℕ → Bool) (turn : ℕ → ℕ → ℕ) (n : ℕ) (s : PathState) (place from : ℕ) → IsGoing arc turn n s → 0 < s.depth →
    last_of s ≡ place → s.next place ≡ from → IsAdvancing arc turn n s place from
advancing-first arc turn n s place from G some q e = record {
  going = G;
  some = some;
  last = q;
  handled =
      λ y yl less a. G.explored (s.path (s.depth - 1)) y (G.path_below (s.depth - 1) (omega arith)) yl
      (omega (arith, ap s.next q, ap (λ v. turn v y) q)) (subst (λ v. arc v y ≡ true) (sym q) a);
}

pub advancing-done : (arc : ℕ → ℕ → Bool) (turn : ℕ → ℕ → ℕ) (n : ℕ) (s : PathState) (place from to next : ℕ) →
    IsAdvancing arc turn n s place from → HasNextTurn (arc place) (turn place) n from to next → s.done to ≡ true →
    IsAdvancing arc turn n s place next
advancing-done arc turn n s place from to next A N t = record {
  going = A.going;
  some = A.some;
  last = A.last;
  handled = turns-next (arc place) (turn place) n from to next (IsHandled s (s.path (s.depth - 1))) N A.handled (inl t);
}

pub advancing-merge : (arc : ℕ → ℕ → Bool) (turn : ℕ → ℕ → ℕ) (n : ℕ) (s : PathState) (place from to next groups : ℕ) →
    IsAdvancing arc turn n s place from → HasNextTurn (arc place) (turn place) n from to next → s.seen to ≡ true →
    s.done to ≡ false → AreMergedGroups s groups (s.position to) →
    IsAdvancing arc turn n (record s { groups = groups }) place next
advancing-merge arc turn n s place from to next groups A N h w M = record {
  going = merged-going arc turn n s (s.depth - 1) to groups A.going (omega (arith, A.some)) N.below h w
      (subst (λ v. arc v to ≡ true) (sym A.last) N.holds) M;
  some = A.some;
  last = A.last;
  handled = turns-next (arc place) (turn place) n from to next
      (IsHandled (record s { groups = groups }) (s.path (s.depth - 1))) N (λ y yl l a. fewer y (A.handled y yl l a))
      (inr (h, λ g gl le. M.kept g gl));
}
  where
    fewer : (y : ℕ) → IsHandled s (s.path (s.depth - 1)) y → IsHandled (record s { groups = groups }) (s.path (s.depth - 1)) y
    fewer y (inl t) = inl t
    fewer y (inr (e, f)) = inr (e, λ g gl le. f g (omega (arith, M.fewer)) le)

-- the next look begins with the turn `from`
pub advancing-stop : (arc : ℕ → ℕ → Bool) (turn : ℕ → ℕ → ℕ) (n : ℕ) (s : PathState) (place from : ℕ) (next : ℕ → ℕ) →
    IsAdvancing arc turn n s place from → next place ≡ from → ((y : ℕ) → y ≢ place → next y ≡ s.next y) →
    IsGoing arc turn n (record s { next = next })
advancing-stop arc turn n s place from next A here others =
    next-going arc turn n s (s.depth - 1) from next A.going (omega (arith, A.some)) (ap next A.last ∙ here)
    (λ y ne. others y (λ q. ne (q ∙ sym A.last)))
    (λ y yl less a. A.handled y yl (omega (arith, ap (λ v. turn v y) A.last)) (subst (λ v. arc v y ≡ true) A.last a))

-- a place that the last one leads to is entered
pub entered-next : (arc : ℕ → ℕ → Bool) (turn : ℕ → ℕ → ℕ) (n : ℕ) (s t : PathState) (to : ℕ) → IsGoing arc turn n s → 0 < s.depth →
    IsOnPath s t to → to < n → s.seen to ≡ false → arc (last_of s) to ≡ true → IsGoing arc turn n t
entered-next arc turn n s t to G some P l fresh a = entered-going arc turn n s t to G P l fresh (reaches_next arc turn n s G (s.depth - 1) (omega arith) to a)

pub entered-first : (arc : ℕ → ℕ → Bool) (turn : ℕ → ℕ → ℕ) (n : ℕ) (s t : PathState) (to : ℕ) → IsGoing arc turn n s → s.depth ≡ 0 →
    IsOnPath s t to → to < n → s.seen to ≡ false → IsGoing arc turn n t
entered-first arc turn n s t to G none P l fresh = entered-going arc turn n s t to G P l fresh (λ i il. absurd (omega (arith, stack_empty arc turn n s G none)))

pub entered-seen : (s t : PathState) (to y : ℕ) → IsOnPath s t to → s.seen y ≡ true → t.seen y ≡ true
entered-seen s t to y P h = elim (nat_cases y to) [ inl q ↦ subst (λ v. t.seen v ≡ true) (sym q) P.seen | inr ne ↦ P.seen_others y ne ∙ h ]

-- fewer places are left, or as many and a shorter path
pub entered-smaller : (n : ℕ) (s t : PathState) (to : ℕ) → IsOnPath s t to → to < n → s.seen to ≡ false →
    t.depth ≡ s.depth + 1 → 2 * (n - size_on t.seen n) + t.depth < 2 * (n - size_on s.seen n) + s.depth
entered-smaller n s t to P l fresh e =
    omega (
      arith,
      size_on-bound t.seen n,
      size_on-less t.seen s.seen n to (λ y yl h. entered-seen s t to y P h) l P.seen fresh,
    )

-- a last place that is finished, and does not begin its group, is left
pub left-by : (arc : ℕ → ℕ → Bool) (turn : ℕ → ℕ → ℕ) (n : ℕ) (s : PathState) → IsGoing arc turn n s → 0 < s.depth → IsFinished arc turn n s →
    s.base (s.groups - 1) ≢ s.path (s.depth - 1) → IsGoing arc turn n (record s { depth = s.depth - 1 })
left-by arc turn n s G some all other =
    left-going arc turn n s (s.depth - 1) (s.groups - 1) G (omega arith)
    (omega (arith, (G.first_base (omega (arith, (last_below arc turn n s G some).0))).0)) other all
