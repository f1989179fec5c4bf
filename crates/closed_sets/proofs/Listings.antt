-- There is a listing of the blocks: at each place the least place that is ready.
use Rattle.std.proofs.Common.{◌≡◌, ℕ, zero, suc, ◌+◌, ◌<◌, ◌≤◌, ◌≢◌, Bool, true, false, cond, ◌⊎◌, inl, inr, refl, sym, subst, ◌∙◌, ◌&&◌, ◌||◌, arith}
use Rattle.residue_theory.specs.Sums.{size_on}
use Rattle.closed_sets.specs.Walks.{Reaches, Mutual}
use Rattle.closed_sets.specs.Closed.{IsMiddle}
use Rattle.closed_sets.specs.Blocks.{IsListing}
use Rattle.residue_theory.proofs.SumLaws.{nat_cases}
use Rattle.residue_theory.proofs.SetLaws.{both_true, differ, lt_cases, search_below}
use Rattle.closed_sets.proofs.SetLaws.{test_cases, least_of, size_on-bound, size_on-less, and-both}
use Rattle.closed_sets.proofs.WalkLaws.{reaches-self, reaches-join, mutual-sym, mutual-join, from-reaches, reaches-to}
use Rattle.closed_sets.proofs.Hulls.{reaches, reaches-tells, reaches-make, reaches_or_not, middle_or_not}

module _ (arc : ℕ → ℕ → Bool) (n : ℕ) (starts ends : ℕ → Bool) where
  -- the first k blocks stand
  pub record Started (k : ℕ) (placed : ℕ → Bool) (block : ℕ → ℕ) : Type 0 where
    pub middle : (x : ℕ) → x < n → placed x ≡ true → IsMiddle arc n starts ends x
    pub below_k : (x : ℕ) → x < n → placed x ≡ true → block x < k
    pub each : (j : ℕ) → j < k → (x : ℕ) × (x < n) × (placed x ≡ true) × (block x ≡ j)
    pub shared : (x y : ℕ) → x < n → y < n → placed x ≡ true → placed y ≡ true → block x ≡ block y → Mutual arc n x y
    pub joined : (x y : ℕ) → x < n → y < n → placed x ≡ true → placed y ≡ true → Mutual arc n x y → block x ≡ block y
    pub down : (x y : ℕ) → x < n → placed x ≡ true → IsMiddle arc n starts ends y → Reaches arc n x y → (placed y ≡ true) × (block y ≤ block x)
    pub least : (x j : ℕ) → IsMiddle arc n starts ends x → j < k → (placed x ≡ true → j < block x) →
        ((y : ℕ) → IsMiddle arc n starts ends y → Reaches arc n x y → ((placed y ≡ true) × (block y < j)) ⊎ Mutual arc n x y) →
        (z : ℕ) × (z < x) × (z < n) × (placed z ≡ true) × (block z ≡ j)

  -- y is reached from x, does not reach it, and has not been placed
  pub record IsLower (placed : ℕ → Bool) (x y : ℕ) : Type 0 where
    pub middle : IsMiddle arc n starts ends y
    pub along : Reaches arc n x y
    pub never_back : Reaches arc n y x → ⊥
    pub waiting : placed y ≡ false

  pub record IsReady (placed : ℕ → Bool) (x : ℕ) : Type 0 where
    pub middle : IsMiddle arc n starts ends x
    pub waiting : placed x ≡ false
    pub none_lower : (y : ℕ) → y < n → IsLower placed x y → ⊥

  lower_or_not : (placed : ℕ → Bool) (x y : ℕ) → x < n → y < n → IsLower placed x y ⊎ (IsLower placed x y → ⊥)
  lower_or_not placed x y xl yl = go (middle_or_not arc n starts ends y yl) (reaches_or_not arc n x y xl yl)
      (reaches_or_not arc n y x yl xl) (test_cases (placed y))
    where
      go : IsMiddle arc n starts ends y ⊎ (IsMiddle arc n starts ends y → ⊥) → Reaches arc n x y ⊎ (Reaches arc n x y → ⊥) →
          Reaches arc n y x ⊎ (Reaches arc n y x → ⊥) → (placed y ≡ true) ⊎ (placed y ≡ false) → IsLower placed x y ⊎ (IsLower placed x y → ⊥)
      go (inl m) (inl r) (inr b) (inr w) = inl (record { middle = m; along = r; never_back = b; waiting = w })
      go (inr m) r b w = inr (λ l. m l.middle)
      go (inl m) (inr r) b w = inr (λ l. r l.along)
      go (inl m) (inl r) (inl b) w = inr (λ l. l.never_back b)
      go (inl m) (inl r) (inr b) (inl w) = inr (λ l. differ l.waiting w)

  ready_or_lower : (placed : ℕ → Bool) (x : ℕ) → IsMiddle arc n starts ends x → placed x ≡ false → IsReady placed x ⊎ ((y : ℕ) × (y < n) × IsLower placed x y)
  ready_or_lower placed x m w = elim (search_below n (IsLower placed x) (λ y yl. lower_or_not placed x y m.0 yl)) [
    | inl found ↦ inr found
    | inr none ↦ inl (record { middle = m; waiting = w; none_lower = none })
  ]

  ready_or_not : (placed : ℕ → Bool) (x : ℕ) → x < n → IsReady placed x ⊎ (IsReady placed x → ⊥)
  ready_or_not placed x l = go (middle_or_not arc n starts ends x l) (test_cases (placed x))
    where
      go : IsMiddle arc n starts ends x ⊎ (IsMiddle arc n starts ends x → ⊥) → (placed x ≡ true) ⊎ (placed x ≡ false) →
          IsReady placed x ⊎ (IsReady placed x → ⊥)
      go (inr m) _ = inr (λ r. m r.middle)
      go (inl m) (inl t) = inr (λ r. differ r.waiting t)
      go (inl m) (inr w) = elim (ready_or_lower placed x m w) [ inl r ↦ inl r | inr (y, yl, low) ↦ inr (λ r. r.none_lower y yl low) ]

  -- from a place that waits, a ready one is reached
  reach_less : (x y : ℕ) → x < n → y < n → Reaches arc n x y → (Reaches arc n y x → ⊥) → size_on (reaches arc n y) n < size_on (reaches arc n x) n
  reach_less x y xl yl r never = size_on-less (reaches arc n x) (reaches arc n y) n x
      (λ v vl h. reaches-make arc n x v xl vl (reaches-join arc n x y v r (reaches-tells arc n y v vl h)))
      xl (reaches-make arc n x x xl xl (reaches-self arc n x)) (at (reaches arc n y x) refl)
    where
      at : (v : Bool) → reaches arc n y x ≡ v → reaches arc n y x ≡ false
      at true e = absurd (never (reaches-tells arc n y x xl e))
      at false e = e

  pub find_ready : (placed : ℕ → Bool) (fuel x : ℕ) → IsMiddle arc n starts ends x → placed x ≡ false →
      size_on (reaches arc n x) n < fuel → (y : ℕ) × (y < n) × IsReady placed y
  find_ready placed zero x m w less = absurd (omega arith)
  find_ready placed (suc fuel) x m w less = go (ready_or_lower placed x m w) (λ y. find_ready placed fuel y)
    where
      go : IsReady placed x ⊎ ((y : ℕ) × (y < n) × IsLower placed x y) →
          ((y : ℕ) → IsMiddle arc n starts ends y → placed y ≡ false → size_on (reaches arc n y) n < fuel → (z : ℕ)
          × (z < n) × IsReady placed z) → (y : ℕ) × (y < n) × IsReady placed y
      go (inl r) _ = (x, m.0, r)
      go (inr (y, yl, low)) again = again y low.middle low.waiting (omega (arith, reach_less x y m.0 yl low.along low.never_back))

  -- the block of r, put in as block k
  pub in_block : ℕ → ℕ → Bool
  in_block r y = reaches arc n r y && reaches arc n y r

  in_block-tells : (r y : ℕ) → r < n → y < n → in_block r y ≡ true → Mutual arc n r y
  unfolding in_block
  in_block-tells r y rl yl h = let p = and-both (reaches arc n r y) (reaches arc n y r) h in (reaches-tells arc n r y yl p.0, reaches-tells arc n y r rl p.1)

  in_block-make : (r y : ℕ) → r < n → y < n → Mutual arc n r y → in_block r y ≡ true
  unfolding in_block
  in_block-make r y rl yl m = both_true (reaches arc n r y) (reaches arc n y r) (reaches-make arc n r y rl yl m.0) (reaches-make arc n y r yl rl m.1)

  pub placed_with : (ℕ → Bool) → ℕ → ℕ → Bool
  placed_with placed r y = placed y || in_block r y

  pub block_with : (ℕ → Bool) → (ℕ → ℕ) → ℕ → ℕ → ℕ
  block_with placed block k y = cond (placed y) (block y) k

  pub number_of-before : (placed : ℕ → Bool) (block : ℕ → ℕ) (k y : ℕ) → placed y ≡ true → block_with placed block k y ≡ block y
  unfolding block_with
  number_of-before placed block k y h = grind arith

  pub number_of-now : (placed : ℕ → Bool) (block : ℕ → ℕ) (k y : ℕ) → placed y ≡ false → block_with placed block k y ≡ k
  unfolding block_with
  number_of-now placed block k y h = grind arith

  or_cases : (a b : Bool) → (a || b) ≡ true → (a ≡ true) ⊎ ((a ≡ false) × (b ≡ true))
  or_cases a b h = grind arith

  or-left : (a b : Bool) → a ≡ true → (a || b) ≡ true
  or-left a b h = grind arith

  or-right : (a b : Bool) → b ≡ true → (a || b) ≡ true
  or-right a b h = grind arith

  pub kinds : (placed : ℕ → Bool) (r y : ℕ) → r < n → y < n → placed_with placed r y ≡ true → (placed y ≡ true) ⊎ ((placed y ≡ false) × Mutual arc n r y)
  unfolding placed_with
  kinds placed r y rl yl h = elim (or_cases (placed y) (in_block r y) h) [ inl p ↦ inl p | inr (f, t) ↦ inr (f, in_block-tells r y rl yl t) ]

  pub kept : (placed : ℕ → Bool) (r y : ℕ) → placed y ≡ true → placed_with placed r y ≡ true
  unfolding placed_with
  kept placed r y h = or-left (placed y) (in_block r y) h

  pub put : (placed : ℕ → Bool) (r y : ℕ) → r < n → y < n → Mutual arc n r y → placed_with placed r y ≡ true
  unfolding placed_with
  put placed r y rl yl m = or-right (placed y) (in_block r y) (in_block-make r y rl yl m)

  middle-mutual : (x y : ℕ) → y < n → IsMiddle arc n starts ends x → Mutual arc n x y → IsMiddle arc n starts ends y
  middle-mutual x y yl m r = (yl, (λ f. m.1 (from-reaches arc n starts y x f r.1)), λ t. m.2 (reaches-to arc n ends x y r.0 t))

  -- one block more
  module _ (k : ℕ) (placed : ℕ → Bool) (block : ℕ → ℕ) (S : Started k placed block) (r : ℕ) (rl : r < n)
      (ready : IsReady placed r) (before : (j : ℕ) → j < r → IsReady placed j → ⊥) where
    abbrev Was : ℕ → Type 0
    Was y = (placed y ≡ true) ⊎ ((placed y ≡ false) × Mutual arc n r y)

    old : (y : ℕ) → placed y ≡ true → block_with placed block k y ≡ block y
    old y h = number_of-before placed block k y h

    now : (y : ℕ) → placed y ≡ false → block_with placed block k y ≡ k
    now y h = number_of-now placed block k y h

    next-middle : (x : ℕ) → x < n → placed_with placed r x ≡ true → IsMiddle arc n starts ends x
    next-middle x l h = elim (kinds placed r x rl l h) [ inl p ↦ S.middle x l p | inr (f, m) ↦ middle-mutual r x l ready.middle m ]

    next-below_k : (x : ℕ) → x < n → placed_with placed r x ≡ true → block_with placed block k x < suc k
    next-below_k x l h = elim (kinds placed r x rl l h) [ inl p ↦ omega (arith, old x p, S.below_k x l p) | inr (f, m) ↦ omega (arith, now x f) ]

    next-each : (j : ℕ) → j < suc k → (x : ℕ) × (x < n) × (placed_with placed r x ≡ true) × (block_with placed block k x ≡ j)
    next-each j l = go (nat_cases j k)
      where
        keep : ((x : ℕ) × (x < n) × (placed x ≡ true) × (block x ≡ j)) → (x : ℕ) × (x < n) × (placed_with placed r x ≡ true) × (block_with placed block k x ≡ j)
        keep (x, xl, p, e) = (x, xl, kept placed r x p, old x p ∙ e)

        go : (j ≡ k) ⊎ (j ≢ k) → (x : ℕ) × (x < n) × (placed_with placed r x ≡ true) × (block_with placed block k x ≡ j)
        go (inl q) = (r, rl, put placed r r rl rl (reaches-self arc n r, reaches-self arc n r), now r ready.waiting ∙ sym q)
        go (inr ne) = keep (S.each j (omega arith))

    next-shared : (x y : ℕ) → x < n → y < n → placed_with placed r x ≡ true → placed_with placed r y ≡ true →
        block_with placed block k x ≡ block_with placed block k y → Mutual arc n x y
    next-shared x y xl yl hx hy e = go (kinds placed r x rl xl hx) (kinds placed r y rl yl hy)
      where
        go : Was x → Was y → Mutual arc n x y
        go (inl p) (inl q) = S.shared x y xl yl p q (sym (old x p) ∙ (e ∙ old y q))
        go (inl p) (inr (f, m)) = absurd (omega (arith, S.below_k x xl p, old x p, now y f))
        go (inr (f, m)) (inl q) = absurd (omega (arith, S.below_k y yl q, old y q, now x f))
        go (inr (f, m)) (inr (g, o)) = mutual-join arc n x r y (mutual-sym arc n r x m) o

    next-joined : (x y : ℕ) → x < n → y < n → placed_with placed r x ≡ true → placed_with placed r y ≡ true →
        Mutual arc n x y → block_with placed block k x ≡ block_with placed block k y
    next-joined x y xl yl hx hy u = go (kinds placed r x rl xl hx) (kinds placed r y rl yl hy)
      where
        go : Was x → Was y → block_with placed block k x ≡ block_with placed block k y
        go (inl p) (inl q) = old x p ∙ (S.joined x y xl yl p q u ∙ sym (old y q))
        go (inl p) (inr (f, m)) = absurd (differ f (S.down x y xl p (middle-mutual r y yl ready.middle m) u.0).0)
        go (inr (f, m)) (inl q) = absurd (differ f (S.down y x yl q (middle-mutual r x xl ready.middle m) u.1).0)
        go (inr (f, m)) (inr (g, o)) = now x f ∙ sym (now y g)

    next-down : (x y : ℕ) → x < n → placed_with placed r x ≡ true → IsMiddle arc n starts ends y → Reaches arc n x y →
        (placed_with placed r y ≡ true) × (block_with placed block k y ≤ block_with placed block k x)
    next-down x y xl hx my u = go (kinds placed r x rl xl hx) (test_cases (placed y)) (reaches_or_not arc n y r my.0 rl)
      where
        go : Was x → (placed y ≡ true) ⊎ (placed y ≡ false) → Reaches arc n y r ⊎ (Reaches arc n y r → ⊥) →
            (placed_with placed r y ≡ true) × (block_with placed block k y ≤ block_with placed block k x)
        go (inl p) _ _ = let d = S.down x y xl p my u in (kept placed r y d.0, omega (arith, old x p, old y d.0, d.1))
        go (inr (f, m)) (inl q) _ = (kept placed r y q, omega (arith, now x f, old y q, S.below_k y my.0 q))
        go (inr (f, m)) (inr w) (inl b) = (put placed r y rl my.0 (reaches-join arc n r x y m.0 u, b), omega (arith, now x f, now y w))
        go (inr (f, m)) (inr w) (inr never) = absurd
            (ready.none_lower y my.0 (record
            { middle = my; along = reaches-join arc n r x y m.0 u; never_back = never; waiting = w }))

    next-least : (x j : ℕ) → IsMiddle arc n starts ends x → j < suc k → (placed_with placed r x ≡ true → j < block_with placed block k x) →
        ((y : ℕ) → IsMiddle arc n starts ends y → Reaches arc n x y →
        ((placed_with placed r y ≡ true) × (block_with placed block k y < j)) ⊎ Mutual arc n x y) →
        (z : ℕ) × (z < x) × (z < n) × (placed_with placed r z ≡ true) × (block_with placed block k z ≡ j)
    next-least x j mx jl after lower = go (nat_cases j k)
      where
        lower_old : j < k → (y : ℕ) → IsMiddle arc n starts ends y → Reaches arc n x y → ((placed y ≡ true) × (block y < j)) ⊎ Mutual arc n x y
        lower_old less y my u = elim (lower y my u) [
          | inl (h, l) ↦ elim (kinds placed r y rl my.0 h) [ inl p ↦ inl (p, omega (arith, old y p)) | inr (f, m) ↦ absurd (omega (arith, now y f)) ]
          | inr m ↦ inr m
        ]

        keep : ((z : ℕ) × (z < x) × (z < n) × (placed z ≡ true) × (block z ≡ j)) → (z : ℕ) × (z < x) × (z < n)
            × (placed_with placed r z ≡ true) × (block_with placed block k z ≡ j)
        keep (z, zx, zl, p, e) = (z, zx, zl, kept placed r z p, old z p ∙ e)

        outside : j ≡ k → placed_with placed r x ≡ true → ⊥
        outside q h = omega (arith, next-below_k x mx.0 h, after h)

        x_waits : j ≡ k → (placed x ≡ true) ⊎ (placed x ≡ false) → placed x ≡ false
        x_waits q (inl p) = absurd (outside q (kept placed r x p))
        x_waits q (inr w) = w

        x_ready : j ≡ k → IsReady placed x
        x_ready q = record {
          middle = mx;
          waiting = x_waits q (test_cases (placed x));
          none_lower = λ y yl low. elim (lower y low.middle low.along) [
            | inl (h, l) ↦ elim (kinds placed r y rl yl h) [ inl p ↦ differ low.waiting p | inr (f, m) ↦ omega (arith, now y f) ]
            | inr m ↦ low.never_back m.1
          ];
        }

        r_less : j ≡ k → (x < r) ⊎ (r ≤ x) → (x ≡ r) ⊎ (x ≢ r) → r < x
        r_less q (inl l) _ = absurd (before x l (x_ready q))
        r_less q (inr le) (inl e) = absurd
            (outside q (subst (λ v. placed_with placed r v ≡ true) (sym e)
            (put placed r r rl rl (reaches-self arc n r, reaches-self arc n r))))
        r_less q (inr le) (inr ne) = omega arith

        go : (j ≡ k) ⊎ (j ≢ k) → (z : ℕ) × (z < x) × (z < n) × (placed_with placed r z ≡ true) × (block_with placed block k z ≡ j)
        go (inl q) = (
          r,
          r_less q (lt_cases x r) (nat_cases x r),
          rl,
          put placed r r rl rl (reaches-self arc n r, reaches-self arc n r),
          now r ready.waiting ∙ sym q,
        )
        go (inr ne) = let less : j < k = omega arith in keep (S.least x j mx less (λ p. omega (arith, old x p, after (kept placed r x p))) (lower_old less))

    pub started-next : Started (suc k) (placed_with placed r) (block_with placed block k)
    started-next = record {
      middle = next-middle;
      below_k = next-below_k;
      each = next-each;
      shared = next-shared;
      joined = next-joined;
      down = next-down;
      least = next-least;
    }

    pub placed-more : size_on placed n < size_on (placed_with placed r) n
    placed-more = size_on-less (placed_with placed r) placed n r (λ y l h. kept placed r y h) rl
        (put placed r r rl rl (reaches-self arc n r, reaches-self arc n r)) ready.waiting

  pub started-none : Started 0 (λ _. false) (λ _. 0)
  started-none = record {
    middle = λ x l h. absurd (differ refl h);
    below_k = λ x l h. absurd (differ refl h);
    each = λ j l. absurd (omega arith);
    shared = λ x y xl yl h. absurd (differ refl h);
    joined = λ x y xl yl h. absurd (differ refl h);
    down = λ x y l h. absurd (differ refl h);
    least = λ x j m l. absurd (omega arith);
  }

  -- where every middle place stands, this is the listing
  pub started-all : (k : ℕ) (placed : ℕ → Bool) (block : ℕ → ℕ) → Started k placed block →
      ((x : ℕ) → IsMiddle arc n starts ends x → placed x ≡ true) → IsListing arc n starts ends block k
  started-all k placed block S all = record {
    below_b = λ x m. S.below_k x m.0 (all x m);
    each = λ j l. let e = S.each j l in (e.0, S.middle e.0 e.1 e.2, e.3);
    shared = λ x y mx my e. S.shared x y mx.0 my.0 (all x mx) (all y my) e;
    joined = λ x y mx my u. S.joined x y mx.0 my.0 (all x mx) (all y my) u;
    lower_before = λ x y mx my u. (S.down x y mx.0 (all x mx) my u).1;
    least = λ x j mx l lower. found (S.least x j mx (omega (arith, S.below_k x mx.0 (all x mx))) (λ _. l)
        (λ y my u. elim (lower y my u) [ inl less ↦ inl (all y my, less) | inr e ↦ inr (S.shared x y mx.0 my.0 (all x mx) (all y my) (sym e)) ]));
  }
    where
      found : {x j : ℕ} → ((z : ℕ) × (z < x) × (z < n) × (placed z ≡ true) × (block z ≡ j)) → (z : ℕ) × (z < x) × IsMiddle arc n starts ends z × (block z ≡ j)
      found (z, zx, zl, p, e) = (z, zx, S.middle z zl p, e)

  pub waiting_or_all : (placed : ℕ → Bool) → ((x : ℕ) × (x < n) × IsMiddle arc n starts ends x × (placed x ≡ false))
      ⊎ ((x : ℕ) → IsMiddle arc n starts ends x → placed x ≡ true)
  waiting_or_all placed = go (search_below n (λ x. IsMiddle arc n starts ends x × (placed x ≡ false)) decide)
    where
      decide : (x : ℕ) → x < n → (IsMiddle arc n starts ends x × (placed x ≡ false)) ⊎ (IsMiddle arc n starts ends x × (placed x ≡ false) → ⊥)
      decide x l = both (middle_or_not arc n starts ends x l) (test_cases (placed x))
        where
          both : IsMiddle arc n starts ends x ⊎ (IsMiddle arc n starts ends x → ⊥) → (placed x ≡ true) ⊎ (placed x ≡ false) →
              (IsMiddle arc n starts ends x × (placed x ≡ false)) ⊎ (IsMiddle arc n starts ends x × (placed x ≡ false) → ⊥)
          both (inl m) (inr w) = inl (m, w)
          both (inl m) (inl t) = inr (λ p. differ p.1 t)
          both (inr m) _ = inr (λ p. m p.0)

      at : (x : ℕ) → IsMiddle arc n starts ends x → (IsMiddle arc n starts ends x × (placed x ≡ false) → ⊥) →
          (placed x ≡ true) ⊎ (placed x ≡ false) → placed x ≡ true
      at x m never (inl t) = t
      at x m never (inr w) = absurd (never (m, w))

      go : ((x : ℕ) × (x < n) × (IsMiddle arc n starts ends x × (placed x ≡ false)))
          ⊎ ((x : ℕ) → x < n → (IsMiddle arc n starts ends x × (placed x ≡ false)) → ⊥) →
          ((x : ℕ) × (x < n) × IsMiddle arc n starts ends x × (placed x ≡ false)) ⊎ ((x : ℕ) → IsMiddle arc n starts ends x → placed x ≡ true)
      go (inl (x, l, p)) = inl (x, l, p.0, p.1)
      go (inr none) = inr (λ x m. at x m (none x m.0) (test_cases (placed x)))

  abbrev pub Listed : Type 0
  Listed = (b : ℕ) × (block : ℕ → ℕ) × IsListing arc n starts ends block b

  list_from : (fuel k : ℕ) (placed : ℕ → Bool) (block : ℕ → ℕ) → Started k placed block → n < size_on placed n + fuel → Listed
  list_from zero k placed block S less = absurd (omega (arith, size_on-bound placed n))
  list_from (suc fuel) k placed block S less = go (waiting_or_all placed) (λ j p f. list_from fuel j p f)
    where
      go : ((x : ℕ) × (x < n) × IsMiddle arc n starts ends x × (placed x ≡ false)) ⊎ ((x : ℕ) → IsMiddle arc n starts ends x → placed x ≡ true) →
          ((j : ℕ) (p : ℕ → Bool) (f : ℕ → ℕ) → Started j p f → n < size_on p n + fuel → Listed) → Listed
      go (inr all) _ = (k, block, started-all k placed block S all)
      go (inl (x, l, m, w)) again = at (least_of (IsReady placed) n (λ y. ready_or_not placed y))
        where
          at : ((r : ℕ) × (r < n) × IsReady placed r × ((j : ℕ) → j < r → IsReady placed j → ⊥)) ⊎ ((r : ℕ) → r < n → IsReady placed r → ⊥) → Listed
          at (inl (r, rl, ready, before)) = again (suc k) (placed_with placed r) (block_with placed block k)
              (started-next k placed block S r rl ready before)
              (omega (arith, placed-more k placed block S r rl ready before))
          at (inr none) = let found = find_ready placed (suc (size_on (reaches arc n x) n)) x m w (omega arith) in absurd (none found.0 found.1 found.2)

  pub listing_exists : (b : ℕ) × (block : ℕ → ℕ) × IsListing arc n starts ends block b
  listing_exists = list_from (suc n) 0 (λ _. false) (λ _. 0) started-none (omega arith)
