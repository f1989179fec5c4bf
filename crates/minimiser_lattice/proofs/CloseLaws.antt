-- A component is closed: its places get a number, and its row tells which components it leads to.
use Rattle.std.proofs.Common.{◌≡◌, ℕ, zero, suc, ◌+◌, ◌-◌, ◌<◌, ◌≤◌, ◌≢◌, Bool, true, false, ◌⊎◌, inl, inr, refl, ap, sym, subst, ◌∙◌, arith}
use Rattle.residue_theory.proofs.SumLaws.{nat_cases}
use Rattle.residue_theory.proofs.SetLaws.{differ, lt_cases, zero_cases, either_cases, either-first, either-second}
use Rattle.closed_sets.specs.Walks.{Walk, Reaches}
use Rattle.closed_sets.proofs.SetLaws.{test_cases, size_on-bound}
use Rattle.closed_sets.proofs.WalkLaws.{reaches-arc, reaches-join}
use Rattle.bit_table.specs.Bits.{IsBitSet, IsJoined}
use Rattle.minimiser_lattice.specs.Paths.{PathState, Closes, IsToldOf, IsClosing, IsFinished, IsHandled, IsGoing, IsNumbered, IsNumberedTo, IsQuotient}
use Rattle.minimiser_lattice.specs.Components.{IsRowLed}
use Rattle.exchange_graph.specs.Turns.{HaveHadTurns, HasNextTurn}
use Rattle.minimiser_lattice.proofs.PathLaws.{path_top, base_top, last_below, turns-next}

-- the last place of the path is finished, and its group begins with it: the group is a component
module _ (arc : ℕ → ℕ → Bool) (turn : ℕ → ℕ → ℕ) (n : ℕ) (s : PathState) (d g : ℕ) (G : IsGoing arc turn n s) (more : s.depth ≡ d + 1)
    (last : s.groups ≡ g + 1) (begins : s.base g ≡ s.path d)
    (all : HaveHadTurns (arc (s.stack (s.path d))) (turn (s.stack (s.path d))) n (s.next (s.stack (s.path d))))
    (done : ℕ → Bool) (number : ℕ → ℕ) (N : IsNumbered s done number (s.path d)) where
  abbrev InGroup : ℕ → Type 0
  InGroup y = (p : ℕ) × (s.path d ≤ p) × (p < s.height) × (s.stack p ≡ y)

  begins_below : s.path d < s.height
  begins_below = G.path_below d (omega arith)

  group_finished : (p : ℕ) → s.path d ≤ p → p < s.height →
      HaveHadTurns (arc (s.stack p)) (turn (s.stack p)) n (s.next (s.stack p))
  group_finished p le l = elim (nat_cases p (s.path d)) [
    | inl q ↦ subst (λ v. HaveHadTurns (arc (s.stack v)) (turn (s.stack v)) n (s.next (s.stack v))) (sym q) all
    | inr ne ↦ G.finished p l (λ e el q. omega (arith, path_top arc turn n s G d more e el))
  ]

  group_waits : (y : ℕ) → InGroup y → s.done y ≡ false
  group_waits y (p, le, l, e) = ap s.done (sym e) ∙ G.stack_waits p l

  -- what a place of the group leads to is done, or of the group
  group_leads : (x y : ℕ) → InGroup x → y < n → arc x y ≡ true → (s.done y ≡ true) ⊎ InGroup y
  group_leads x y (p, le, l, e) yl a = go (G.explored p y l yl (group_finished p le l y yl b) b) (test_cases (s.done y))
    where
      b : arc (s.stack p) y ≡ true
      b = subst (λ v. arc v y ≡ true) (sym e) a

      go : IsHandled s p y → (s.done y ≡ true) ⊎ (s.done y ≡ false) → (s.done y ≡ true) ⊎ InGroup y
      go _ (inl t) = inl t
      go (inl t) (inr f) = absurd (differ f t)
      go (inr (h, low)) (inr f) = let o = G.on_stack y yl h f in inr (s.position y, omega (arith, low g (omega arith) (omega arith)), o.0, o.1)

  group_mutual : (x y : ℕ) → InGroup x → InGroup y → Reaches arc n x y
  group_mutual x y (p, pa, pl, pe) (q, qa, ql, qe) = subst (λ v. Reaches arc n v y) pe (subst (λ v. Reaches arc n (s.stack p) v) qe (go (lt_cases q p)))
    where
      go : (q < p) ⊎ (p ≤ q) → Reaches arc n (s.stack p) (s.stack q)
      go (inr le) = G.along p q le ql
      go (inl less) = G.back q p (omega arith) pl (λ h hl a b. omega (arith, base_top arc turn n s G d more h hl))

  apart : (y : ℕ) → (InGroup y → ⊥) → (p : ℕ) → s.path d ≤ p → p < s.height → s.stack p ≢ y
  apart y never p le l e = never (p, le, l, e)

  done_is : (y : ℕ) → (InGroup y → ⊥) → done y ≡ s.done y
  done_is y never = N.done_others y (apart y never)

  number_is : (y : ℕ) → (InGroup y → ⊥) → number y ≡ s.number y
  number_is y never = N.number_others y (apart y never)

  not_group : (y : ℕ) → s.done y ≡ true → InGroup y → ⊥
  not_group y h i = differ (group_waits y i) h

  still_done : (y : ℕ) → s.done y ≡ true → done y ≡ true
  still_done y h = done_is y (not_group y h) ∙ h

  still_number : (y : ℕ) → s.done y ≡ true → number y ≡ s.number y
  still_number y h = number_is y (not_group y h)

  now_done : (y : ℕ) → InGroup y → done y ≡ true
  now_done y (p, le, l, e) = subst (λ v. done v ≡ true) e (N.done_here p le l)

  now_number : (y : ℕ) → InGroup y → number y ≡ s.count
  now_number y (p, le, l, e) = subst (λ v. number v ≡ s.count) e (N.number_here p le l)

  group_or_not : (y : ℕ) → y < n → InGroup y ⊎ (InGroup y → ⊥)
  group_or_not y yl = go (test_cases (s.seen y)) (test_cases (s.done y))
    where
      go : (s.seen y ≡ true) ⊎ (s.seen y ≡ false) → (s.done y ≡ true) ⊎ (s.done y ≡ false) → InGroup y ⊎ (InGroup y → ⊥)
      go (inr f) _ = inr (λ (p, le, l, e). differ f (subst (λ v. s.seen v ≡ true) e (G.stack_seen p l)))
      go (inl h) (inl t) = inr (not_group y t)
      go (inl h) (inr f) = let o = G.on_stack y yl h f in elim (lt_cases (s.position y) (s.path d)) [
        | inl low ↦ inr (λ (p, le, l, e). omega (arith, G.placed p l, ap s.position e))
        | inr high ↦ inl (s.position y, high, o.0, o.1)
      ]

  -- the places that are done now
  kinds : (y : ℕ) → y < n → done y ≡ true → (InGroup y × (number y ≡ s.count)) ⊎ ((s.done y ≡ true) × (number y ≡ s.number y) × (s.number y < s.count))
  kinds y yl h = elim (group_or_not y yl) [
    | inl i ↦ inl (i, now_number y i)
    | inr o ↦ let was : s.done y ≡ true = sym (done_is y o) ∙ h in inr (was, number_is y o, G.told.below y yl was)
  ]

  abbrev Kind : ℕ → Type 0
  Kind y = (InGroup y × (number y ≡ s.count)) ⊎ ((s.done y ≡ true) × (number y ≡ s.number y) × (s.number y < s.count))

  small : s.count < n
  small = omega (arith, G.room, size_on-bound s.seen n, begins_below)

  same_numbers : (x y : ℕ) → x < n → y < n → done x ≡ true → done y ≡ true → number x ≡ number y → Reaches arc n x y
  same_numbers x y xl yl hx hy e = go (kinds x xl hx) (kinds y yl hy)
    where
      go : Kind x → Kind y → Reaches arc n x y
      go (inl (i, q)) (inl (j, r)) = group_mutual x y i j
      go (inl (i, q)) (inr (t, r, b)) = absurd (omega arith)
      go (inr (t, q, b)) (inl (j, r)) = absurd (omega arith)
      go (inr (t, q, b)) (inr (u, r, c)) = G.told.same x y xl yl t u (sym q ∙ (e ∙ r))

  empty_row : (l : ℕ) → l < n → s.strict s.count l ≡ false
  empty_row l ll = G.told.empty s.count l (omega arith) ll

  rows_tell : (x y : ℕ) → x < n → y < n → done x ≡ true → done y ≡ true → s.strict (number x) (number y) ≡ true → Reaches arc n x y
  rows_tell x y xl yl hx hy e = go (kinds x xl hx) (kinds y yl hy)
    where
      number_small : number y < n
      number_small = elim (kinds y yl hy) [ inl (j, r) ↦ omega (arith, small) | inr (u, r, c) ↦ omega (arith, small) ]

      go : Kind x → Kind y → Reaches arc n x y
      go (inl (i, q)) _ = absurd (differ (empty_row (number y) number_small) (subst (λ v. s.strict v (number y) ≡ true) q e))
      go (inr (t, q, b)) (inl (j, r)) = absurd (omega (arith, G.told.falls (number x) (number y) (omega arith) number_small e))
      go (inr (t, q, b)) (inr (u, r, c)) =
          G.told.tells x y xl yl t u
          (subst (λ v. s.strict (s.number x) v ≡ true) r (subst (λ v. s.strict v (number y) ≡ true) q e))

  in_rows : (k l : ℕ) → k ≤ s.count → l < n → s.strict k l ≡ true → k < s.count
  in_rows k l le ll h = elim (nat_cases k s.count) [ inl q ↦ absurd (differ (empty_row l ll) (subst (λ v. s.strict v l ≡ true) q h)) | inr ne ↦ omega arith ]

  pub closing-start : IsClosing arc n done number s.count s.strict
  closing-start = record {
    small = small;
    within = λ x xl h. elim (kinds x xl h) [ inl (i, q) ↦ omega arith | inr (t, q, b) ↦ omega arith ];
    member = λ k le. elim (nat_cases k s.count) [
      | inl q ↦ (
        s.stack (s.path d),
        G.stack_below (s.path d) begins_below,
        N.done_here (s.path d) (omega arith) begins_below,
        N.number_here (s.path d) (omega arith) begins_below
            ∙ sym q,
      )
      | inr ne ↦ let m = G.told.member k (omega arith) in (m.0, m.1, still_done m.0 m.2, still_number m.0 m.2 ∙ m.3)
    ];
    leads = λ x y xl yl h less a. elim (kinds x xl h) [
      | inl (i, q) ↦ absurd (omega arith)
      | inr (t, q, b) ↦ let f = G.told.leads x y xl yl t a in elim f.1 [
        | inl e ↦ inl (still_number y f.0 ∙ (e ∙ sym q))
        | inr e ↦ inr (subst (λ v. s.strict v (number y) ≡ true) (sym q) (subst (λ v. s.strict (s.number x) v ≡ true) (sym (still_number y f.0)) e))
      ]
    ];
    stays = λ x y xl yl h a. elim (kinds x xl h) [
      | inl (i, q) ↦ elim (group_leads x y i yl a) [ inl t ↦ still_done y t | inr j ↦ now_done y j ]
      | inr (t, q, b) ↦ still_done y (G.told.leads x y xl yl t a).0
    ];
    same = same_numbers;
    tells = rows_tell;
    falls = λ k l le ll h. G.told.falls k l (in_rows k l le ll h) ll h;
    lower = λ k l m le ll ml h e. G.told.lower k l m (in_rows k l le ll h) ll ml h e;
    empty = λ k l less ll. G.told.empty k l (omega arith) ll;
  }

  -- the row is made: all that the group's places lead to is told
  pub closed-going : (strict : ℕ → ℕ → Bool) → IsClosing arc n done number s.count strict →
      ((p y : ℕ) → s.path d ≤ p → p < s.height → y < n → arc (s.stack p) y ≡ true → (number y ≡ s.count) ⊎ (strict s.count (number y) ≡ true)) →
      IsGoing arc turn n (record s { done = done; number = number; strict = strict; height = s.path d; groups = g; depth = d; count = s.count + 1 })
  closed-going strict C told = record {
    told = record {
      below = λ x xl h. omega (arith, C.within x xl h);
      member = λ k l. C.member k (omega arith);
      leads = λ x y xl yl h a. (
        C.stays x y xl yl h a,
        elim (kinds x xl h) [
          | inl ((p, le, l, e), q) ↦ elim (told p y le l yl (subst (λ v. arc v y ≡ true) (sym e) a)) [
            | inl r ↦ inl (r ∙ sym q)
            | inr r ↦ inr (subst (λ v. strict v (number y) ≡ true) (sym q) r)
          ]
          | inr (t, q, b) ↦ C.leads x y xl yl h (omega arith) a
        ],
      );
      same = C.same;
      tells = C.tells;
      falls = λ k l less ll h. C.falls k l (omega arith) ll h;
      lower = λ k l m less ll ml h e. C.lower k l m (omega arith) ll ml h e;
      empty = λ k l less ll. C.empty k l (omega arith) ll;
    };
    stack_below = λ i l. G.stack_below i (omega (arith, begins_below));
    stack_seen = λ i l. G.stack_seen i (omega (arith, begins_below));
    stack_waits = λ i l. done_is (s.stack i) (lower_spot i l) ∙ G.stack_waits i (omega (arith, begins_below));
    placed = λ i l. G.placed i (omega (arith, begins_below));
    on_stack = λ y yl h f. at y yl h f (test_cases (s.done y));
    done_seen =
        λ y yl h. elim (kinds y yl h) [
          | inl ((p, le, l, e), q) ↦ subst (λ v. s.seen v ≡ true) e (G.stack_seen p l)
          | inr (t, q, b) ↦ G.done_seen y
              yl t
        ];
    along = λ i j le l. G.along i j le (omega (arith, begins_below));
    back = λ i j le l none. G.back i j le (omega (arith, begins_below))
        (λ h hl a b. elim (nat_cases h g) [ inl q ↦ omega (arith, ap s.base q) | inr ne ↦ none h (omega arith) a b ]);
    explored = λ i y l yl less a. elim (G.explored i y (omega (arith, begins_below)) yl less a) [
      | inl t ↦ inl (still_done y t)
      | inr (h, low) ↦ inr (h, λ k kl. low k (omega arith))
    ];
    base_below = λ h l. omega (arith, G.base_rises h g l (omega arith));
    base_rises = λ h k l kl. G.base_rises h k l (omega arith);
    first_base = λ some. first some (zero_cases g);
    path_below = λ e l. G.path_rises e d l (omega arith);
    path_rises = λ e f l fl. G.path_rises e f l (omega arith);
    base_on_path = λ h l. let e = G.base_on_path h (omega arith) in elim (nat_cases e.0 d) [
      | inl q ↦ absurd (omega (arith, ap s.path q, e.2, G.base_rises h g l (omega arith)))
      | inr ne ↦ (e.0, omega (arith, e.1), e.2)
    ];
    finished =
        λ i l none. G.finished i (omega (arith, begins_below))
        (λ e el q. elim (nat_cases e d) [ inl r ↦ omega (arith, ap s.path r) | inr ne ↦ none e (omega arith) q ]);
    room = omega (arith, G.room, begins_below);
  }
    where
      lower_spot : (i : ℕ) → i < s.path d → InGroup (s.stack i) → ⊥
      lower_spot i l (p, le, pl, e) = omega (arith, G.placed p pl, G.placed i (omega (arith, begins_below)), ap s.position e)

      at : (y : ℕ) → y < n → s.seen y ≡ true → done y ≡ false → (s.done y ≡ true) ⊎ (s.done y ≡ false) →
          (s.position y < s.path d) × (s.stack (s.position y) ≡ y)
      at y yl h f (inl t) = absurd (differ f (still_done y t))
      at y yl h f (inr w) = let o = G.on_stack y yl h w in elim (lt_cases (s.position y) (s.path d)) [
        | inl low ↦ (low, o.1)
        | inr high ↦ absurd (differ f (now_done y (s.position y, high, o.0, o.1)))
      ]

      first : 0 < s.path d → (g ≡ 0) ⊎ (g ≢ 0) → (0 < g) × (s.base 0 ≡ 0)
      first some (inl q) = absurd (omega (arith, ap s.base q, (G.first_base (omega (arith, begins_below))).1))
      first some (inr ne) = (omega arith, (G.first_base (omega (arith, begins_below))).1)

-- a place of the component leads to y, of another one: its row gets that of y's component, and that component itself
module _ (arc : ℕ → ℕ → Bool) (n : ℕ) (done : ℕ → Bool) (number : ℕ → ℕ) (count : ℕ)
    (strict joined now : ℕ → ℕ → Bool) (C : IsClosing arc n done number count strict) (x y : ℕ) (xl : x < n)
    (yl : y < n)
    (hx : done x ≡ true) (ex : number x ≡ count) (a : arc x y ≡ true) (other : number y ≢ count)
    (J : IsJoined strict joined (strict (number y)) n count) (B : IsBitSet joined now n count (number y)) where
  hy : done y ≡ true
  hy = C.stays x y xl yl hx a

  low : number y < count
  low = omega (arith, C.within y yl hy)

  other_row : (k l : ℕ) → l < n → k ≢ count → now k l ≡ strict k l
  other_row k l ll ne = B.others k l ll ne ∙ J.others k l ll ne

  row_cases : (l : ℕ) → l < n → now count l ≡ true → (l ≡ number y) ⊎ ((strict count l ≡ true) ⊎ (strict (number y) l ≡ true))
  row_cases l ll h = elim (nat_cases l (number y)) [
    | inl q ↦ inl q
    | inr ne ↦ inr (either_cases (strict count l) (strict (number y) l) (sym (J.here l ll) ∙ (sym (B.row l ll ne) ∙ h)))
  ]

  from_joined : (l : ℕ) → l < n → joined count l ≡ true → now count l ≡ true
  from_joined l ll h = elim (nat_cases l (number y)) [ inl q ↦ subst (λ v. now count v ≡ true) (sym q) B.here | inr ne ↦ B.row l ll ne ∙ h ]

  pub row_kept : (l : ℕ) → l < n → strict count l ≡ true → now count l ≡ true
  row_kept l ll h = from_joined l ll (J.here l ll ∙ either-first (strict count l) (strict (number y) l) h)

  row_joined : (l : ℕ) → l < n → strict (number y) l ≡ true → now count l ≡ true
  row_joined l ll h = from_joined l ll (J.here l ll ∙ either-second (strict count l) (strict (number y) l) h)

  row_falls : (l : ℕ) → l < n → now count l ≡ true → l < count
  row_falls l ll h = elim (row_cases l ll h) [
    | inl q ↦ omega (arith, low)
    | inr o ↦ elim o [ inl e ↦ C.falls count l (omega arith) ll e | inr e ↦ omega (arith, low, C.falls (number y) l (omega (arith, low)) ll e) ]
  ]

  row_tells : (u v : ℕ) → u < n → v < n → done u ≡ true → done v ≡ true → number u ≡ count → now count (number v) ≡ true → Reaches arc n u v
  row_tells u v ul vl hu hv eu h = elim (row_cases (number v) (omega (arith, C.within v vl hv, C.small)) h) [
    | inl q ↦ through (C.same y v yl vl hy hv (sym q))
    | inr o ↦ elim o [
      | inl e ↦ C.tells u v ul vl hu hv (subst (λ w. strict w (number v) ≡ true) (sym eu) e)
      | inr e ↦ through (C.tells y v yl vl hy hv e)
    ]
  ]
    where
      through : Reaches arc n y v → Reaches arc n u v
      through r = reaches-join arc n u y v (reaches-arc arc n u x y (C.same u x ul xl hu hx (eu ∙ sym ex)) xl a) r

  pub closing-join : IsClosing arc n done number count now
  closing-join = record {
    small = C.small;
    within = C.within;
    member = C.member;
    leads = λ u v ul vl h less b. elim (C.leads u v ul vl h less b) [
      | inl e ↦ inl e
      | inr e ↦ inr (other_row (number u) (number v) (omega (arith, C.within v vl (C.stays u v ul vl h b), C.small)) (λ q. omega arith) ∙ e)
    ];
    stays = C.stays;
    same = C.same;
    tells = λ u v ul vl hu hv h. elim (nat_cases (number u) count) [
      | inl q ↦ row_tells u v ul vl hu hv q (subst (λ w. now w (number v) ≡ true) q h)
      | inr ne ↦ C.tells u v ul vl hu hv (sym (other_row (number u) (number v) (omega (arith, C.within v vl hv, C.small)) ne) ∙ h)
    ];
    falls = λ k l le ll h. elim (nat_cases k count) [
      | inl q ↦ omega (arith, row_falls l ll (subst (λ w. now w l ≡ true) q h))
      | inr ne ↦ C.falls k l le ll (sym (other_row k l ll ne) ∙ h)
    ];
    lower = λ k l m le ll ml h e. elim (nat_cases k count) [
      | inl q ↦ subst (λ w. now w m ≡ true) (sym q) (row_lower l m ll ml (subst (λ w. now w l ≡ true) q h) e)
      | inr ne ↦
          let was : strict k l ≡ true = sym (other_row k l ll ne) ∙ h in
          let less : l < k = C.falls k l le ll was in
          other_row k m ml ne ∙ C.lower k l m le ll ml was (sym (other_row l m ml (λ q. omega arith)) ∙ e)
    ];
    empty = λ k l less ll. other_row k l ll (λ q. omega arith) ∙ C.empty k l less ll;
  }
    where
      row_lower : (l m : ℕ) → l < n → m < n → now count l ≡ true → now l m ≡ true → now count m ≡ true
      row_lower l m ll ml h e = elim (row_cases l ll h) [
        | inl q ↦ row_joined m ml (subst (λ w. strict w m ≡ true) q was)
        | inr o ↦ elim o [
          | inl f ↦ row_kept m ml (C.lower count l m (omega arith) ll ml f was)
          | inr f ↦ row_joined m ml
              (C.lower (number y) l m (omega (arith, low)) ll ml f was)
        ]
      ]
        where
          was : strict l m ≡ true
          was = sym (other_row l m ml (λ q. omega (arith, row_falls l ll h))) ∙ e

-- nothing is left: the numbers tell the components
module _ (arc : ℕ → ℕ → Bool) (turn : ℕ → ℕ → ℕ) (n : ℕ) (s : PathState) (G : IsGoing arc turn n s) (all : (y : ℕ) → y < n → s.done y ≡ true) where
  back_along : (X : ℕ → Type 0) → ((x y : ℕ) → x < n → y < n → arc x y ≡ true → X y → X x) → (k x y : ℕ) → x < n → y < n → Walk arc n x y k → X y → X x
  back_along X step k x y xl yl w h = go k y yl w h
    where
      go : (k y : ℕ) → y < n → Walk arc n x y k → X y → X x
      go zero y yl e h = subst X (sym e) h
      go (suc k) y yl (z, zl, w, a) h = go k z zl w (step z y zl yl a h)

  abbrev Leads : ℕ → ℕ → Type 0
  Leads y x = (s.number y ≡ s.number x) ⊎ (s.strict (s.number x) (s.number y) ≡ true)

  number_below : (x : ℕ) → x < n → s.number x < s.count
  number_below x l = G.told.below x l (all x l)

  fits : s.count ≤ n
  fits = omega (arith, G.room, size_on-bound s.seen n)

  leads_step : (y x z : ℕ) → y < n → x < n → z < n → arc x z ≡ true → Leads y z → Leads y x
  leads_step y x z yl xl zl a l = go (G.told.leads x z xl zl (all x xl) a).1 l
    where
      go : Leads z x → Leads y z → Leads y x
      go (inl q) (inl r) = inl (r ∙ q)
      go (inl q) (inr r) = inr (subst (λ v. s.strict v (s.number y) ≡ true) q r)
      go (inr q) (inl r) = inr (subst (λ v. s.strict (s.number x) v ≡ true) (sym r) q)
      go (inr q) (inr r) =
          inr (G.told.lower (s.number x) (s.number z) (s.number y) (number_below x xl)
          (omega (arith, number_below z zl, fits)) (omega (arith, number_below y yl, fits)) q r)

  pub quotient : IsQuotient arc n s.number s.count s.strict
  quotient = record {
    numbering =
        record {
          fits = fits;
          below = number_below;
          member = λ k l. let m =
              G.told.member k l in (m.0, m.1, m.3);
          falls = G.told.falls;
          lower = G.told.lower;
        };
    same = λ x y xl yl e. G.told.same x y xl yl (all x xl) (all y yl) e;
    tells = λ x y xl yl h. G.told.tells x y xl yl (all x xl) (all y yl) h;
    made = λ x y xl yl (k, w). back_along (Leads y) (λ u v ul vl a. leads_step y u v yl ul vl a) k x y xl yl w (inl refl);
  }

-- one place more has its number
pub numbered-next : (s : PathState) (done more : ℕ → Bool) (number now : ℕ → ℕ) (at to place : ℕ) →
    IsNumberedTo s done number at to → at ≤ to → s.stack to ≡ place → more place ≡ true → now place ≡ s.count →
    ((y : ℕ) → y ≢ place → more y ≡ done y) → ((y : ℕ) → y ≢ place → now y ≡ number y) → IsNumberedTo s more now at (to + 1)
numbered-next s done more number now at to place N le q d c same keep = record {
  done_here = λ p a l. elim (nat_cases (s.stack p) place) [
    | inl e ↦ ap more e ∙ d
    | inr ne ↦ same (s.stack p) ne ∙ N.done_here p a (elim (nat_cases p to) [ inl r ↦ absurd (ne (ap s.stack r ∙ q)) | inr other ↦ omega arith ])
  ];
  number_here = λ p a l. elim (nat_cases (s.stack p) place) [
    | inl e ↦ ap now e ∙ c
    | inr ne ↦ keep (s.stack p) ne ∙ N.number_here p a (elim (nat_cases p to) [ inl r ↦ absurd (ne (ap s.stack r ∙ q)) | inr other ↦ omega arith ])
  ];
  done_others = λ y none. same y (λ e. none to le (omega arith) (q ∙ sym e)) ∙ N.done_others y (λ p a l. none p a (omega arith));
  number_others = λ y none. keep y (λ e. none to le (omega arith) (q ∙ sym e)) ∙ N.number_others y (λ p a l. none p a (omega arith));
}

-- what a place of the component leads to in a turn before `from` is told of
pub record IsAbsorbing (arc : ℕ → ℕ → Bool) (turn : ℕ → ℕ → ℕ) (n : ℕ) (s : PathState) (place from : ℕ) : Type 0 where
  pub closing : Closes arc n s
  pub below : place < n
  pub done : s.done place ≡ true
  pub number : s.number place ≡ s.count
  pub told : (y : ℕ) → y < n → turn place y < from → arc place y ≡ true → IsToldOf s y

pub other_small : (arc : ℕ → ℕ → Bool) (turn : ℕ → ℕ → ℕ) (n : ℕ) (s : PathState) (place from to : ℕ) →
    IsAbsorbing arc turn n s place from → to < n → arc place to ≡ true → s.number to < n
other_small arc turn n s place from to A l a =
    omega (arith, A.closing.small, A.closing.within to l (A.closing.stays place to A.below l A.done a))

pub absorbing-next : (arc : ℕ → ℕ → Bool) (turn : ℕ → ℕ → ℕ) (n : ℕ) (s : PathState) (place from to next : ℕ)
    (now : ℕ → ℕ → Bool) → IsAbsorbing arc turn n s place from → HasNextTurn (arc place) (turn place) n from to next →
    IsRowLed s.strict now n s.count (s.number to) →
    IsAbsorbing arc turn n (record s { strict = now }) place next
    × ((l : ℕ) → l < n → s.strict s.count l ≡ true → now s.count l ≡ true)
absorbing-next arc turn n s place from to next now A N (inl (known, same)) = (
  subst (λ w. IsAbsorbing arc turn n (record s { strict = w }) place next) (sym same) (record {
    closing = A.closing;
    below = A.below;
    done = A.done;
    number = A.number;
    told = turns-next (arc place) (turn place) n from to next (IsToldOf s) N A.told known;
  }),
  λ l ll h. subst (λ w. w s.count l ≡ true) (sym same) h,
)
absorbing-next arc turn n s place from to next now A N (inr (other, (joined, J, B))) = (
  record {
    closing = closing-join arc n s.done s.number s.count s.strict joined now A.closing place to A.below N.below A.done
        A.number N.holds other J B;
    below = A.below;
    done = A.done;
    number = A.number;
    told = turns-next (arc place) (turn place) n from to next (IsToldOf (record s { strict = now })) N
        (λ y yl less a. elim (A.told y yl less a) [
          | inl q ↦ inl q
          | inr h ↦ inr (kept (s.number y) (other_small arc turn n s place from y A yl a) h)
        ])
        (inr B.here);
  },
  kept,
)
  where
    kept : (l : ℕ) → l < n → s.strict s.count l ≡ true → now s.count l ≡ true
    kept = row_kept arc n s.done s.number s.count s.strict joined now A.closing place to A.below N.below A.done A.number
        N.holds other J B

pub absorbing-done : (arc : ℕ → ℕ → Bool) (turn : ℕ → ℕ → ℕ) (n : ℕ) (s : PathState) (place from : ℕ) →
    IsAbsorbing arc turn n s place from → HaveHadTurns (arc place) (turn place) n from →
    (y : ℕ) → y < n → arc place y ≡ true → IsToldOf s y
absorbing-done arc turn n s place from A had y yl a = A.told y yl (had y yl a) a

-- the last group begins with the last place of the path
module _ (arc : ℕ → ℕ → Bool) (turn : ℕ → ℕ → ℕ) (n : ℕ) (s : PathState) (at : ℕ) (G : IsGoing arc turn n s) (some : 0 < s.depth)
    (all : IsFinished arc turn n s) (begins : s.base (s.groups - 1) ≡ s.path (s.depth - 1)) (q : s.path (s.depth - 1) ≡ at) where
  some_group : s.groups ≡ s.groups - 1 + 1
  some_group = omega (arith, (G.first_base (omega (arith, (last_below arc turn n s G some).0))).0)

  pub closes-start : (done : ℕ → Bool) (number : ℕ → ℕ) → IsNumbered s done number at → IsClosing arc n done number s.count s.strict
  closes-start done number N =
      closing-start arc turn n s (s.depth - 1) (s.groups - 1) G (omega arith) some_group begins all done number
      (subst (λ v. IsNumbered s done number v) (sym q) N)

  pub closes-end : (t : PathState) → IsNumbered s t.done t.number at → t ≡ record s { done = t.done; number = t.number; strict = t.strict } → Closes arc n t →
      ((p y : ℕ) → at ≤ p → p < t.height → y < n → arc (t.stack p) y ≡ true → IsToldOf t y) →
      IsGoing arc turn n (record t { height = at; groups = t.groups - 1; depth = t.depth - 1; count = t.count + 1 })
  closes-end t N kept C told = subst
      (λ v. IsGoing arc turn n (record v
      { height = at; groups = v.groups - 1; depth = v.depth - 1; count = v.count + 1 })) (sym kept)
      (subst (λ v. IsGoing arc turn n
      (record s {
        done = t.done;
        number = t.number;
        strict = t.strict;
        height = v;
        groups = s.groups - 1;
        depth =
            s.depth - 1;
        count = s.count + 1;
      })) q
      (closed-going arc turn n s (s.depth - 1) (s.groups - 1) G (omega arith) some_group begins all t.done t.number
      (subst (λ v. IsNumbered s t.done t.number v) (sym q) N) t.strict
      (subst (λ v. IsClosing arc n t.done t.number v t.strict) count C)
      (λ p y le l yl a. elim (told p y (omega arith) (omega (arith, height)) yl (subst (λ v. arc v y ≡ true) (sym (ap (λ v. v.stack p) kept)) a)) [
        | inl e ↦ inl (e ∙ count)
        | inr e ↦ inr (subst (λ v. t.strict v (t.number y) ≡ true) count e)
      ])))
    where
      count : t.count ≡ s.count
      count = ap (λ v. v.count) kept

      height : t.height ≡ s.height
      height = ap (λ v. v.height) kept
