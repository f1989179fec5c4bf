-- The steps of a search, and what its end says.
use Rattle.std.proofs.Common.{◌≡◌, ℕ, zero, suc, ◌+◌, ◌<◌, ◌≤◌, ◌≢◌, Bool, true, false, ◌⊎◌, inl, inr, refl, ap, sym, subst, ◌∙◌, arith}
use Rattle.residue_theory.specs.Sums.{size_on}
use Rattle.residue_theory.proofs.CountLaws.{size-zero}
use Rattle.residue_theory.proofs.SumLaws.{nat_cases, sum_on-same}
use Rattle.closed_sets.specs.Walks.{Walk, FromSome}
use Rattle.closed_sets.specs.Closed.{Follows, IsClosed, IsReachedSet}
use Rattle.search_laws.specs.Searches.{IsShortest, SearchState, IsLed, IsSearch, HasStarts, NoEndBefore, IsGrown, IsPut, IsTrace}
use Rattle.residue_theory.proofs.SetLaws.{differ, lt_cases}
use Rattle.closed_sets.proofs.Hulls.{follows-from}

-- one member more
pub size_on-put : (X Y : ℕ → Bool) (n v : ℕ) → v < n → X v ≡ false → Y v ≡ true → ((j : ℕ) → j ≢ v → Y j ≡ X j) → size_on Y n ≡ size_on X n + 1
size_on-put X Y zero v l xv yv same = absurd (omega arith)
size_on-put X Y (suc n) v l xv yv same = go (nat_cases v n) (λ less. size_on-put X Y n v less xv yv same)
  where
    go : (v ≡ n) ⊎ (v ≢ n) → (v < n → size_on Y n ≡ size_on X n + 1) → size_on Y (suc n) ≡ size_on X (suc n) + 1
    go (inl q) _ = grind (arith, sum_on-same Y X n (λ _. 1) (λ j jl. same j (omega arith)), subst (λ w. X w ≡ false) q xv, subst (λ w. Y w ≡ true) q yv)
    go (inr ne) ih = grind (arith, ih, same n)

module _ (arc : ℕ → ℕ → Bool) (n : ℕ) where
  -- where a place stands in the order
  position : (s : SearchState) (head filled : ℕ) → IsSearch arc n s head filled → (y : ℕ) → y < n → s.reached y ≡ true → (i : ℕ) × (i < filled) ×
      (s.order i ≡ y)
  position s head filled S y yl h = go (S.each y yl)
    where
      go : ((i : ℕ) × (i < n) × (s.order i ≡ y)) → (i : ℕ) × (i < filled) × (s.order i ≡ y)
      go (i, il, e) = at (lt_cases i filled)
        where
          at : (i < filled) ⊎ (filled ≤ i) → (i : ℕ) × (i < filled) × (s.order i ≡ y)
          at (inl l) = (i, l, e)
          at (inr g) = absurd (differ (subst (λ v. s.reached v ≡ false) e (S.waiting i g il)) h)

  -- a place is put at the end of the reached ones
  module _ (s t : SearchState) (head filled i x d : ℕ) (S : IsSearch arc n s head filled) (P : IsPut s t i filled x d) (ge : filled ≤ i) (il : i < n)
      (above : (j : ℕ) → j < filled → s.depth (s.order j) ≤ d) (close : head < filled → d ≤ s.depth (s.order head) + 1) (small : d ≤ filled)
      (why : (d ≡ 0) ⊎ ((x < n) × (s.reached x ≡ true) × (arc x (s.order i) ≡ true) × (d ≡ s.depth x + 1))) where
    waits : s.reached (s.order i) ≡ false
    waits = S.waiting i ge il

    -- a reached place is another one
    other : (y : ℕ) → s.reached y ≡ true → y ≢ s.order i
    other y h q = differ waits (subst (λ v. s.reached v ≡ true) q h)

    order-kept : (j : ℕ) → j < filled → t.order j ≡ s.order j
    order-kept j l = P.order_same j (λ q. omega arith) (λ q. omega arith)

    depth-kept : (j : ℕ) → j < filled → t.depth (t.order j) ≡ s.depth (s.order j)
    depth-kept j l = ap t.depth (order-kept j l) ∙ P.depth_same (s.order j) (other (s.order j) (S.done j l))

    depth-last : t.depth (t.order filled) ≡ d
    depth-last = ap t.depth P.order_new ∙ P.depth_new

    still : (y : ℕ) → s.reached y ≡ true → t.reached y ≡ true
    still y h = P.reached_same y (other y h) ∙ h

    split : (y : ℕ) → t.reached y ≡ true → (y ≡ s.order i) ⊎ (s.reached y ≡ true)
    split y h = elim (nat_cases y (s.order i)) [ inl q ↦ inl q | inr ne ↦ inr (sym (P.reached_same y ne) ∙ h) ]

    -- each place of the new order is one of the old, and the other way round
    from_old : (j : ℕ) → j < n → (k : ℕ) × (k < n) × (t.order k ≡ s.order j)
    from_old j l = go (nat_cases j i) (nat_cases j filled)
      where
        go : (j ≡ i) ⊎ (j ≢ i) → (j ≡ filled) ⊎ (j ≢ filled) → (k : ℕ) × (k < n) × (t.order k ≡ s.order j)
        go (inl q) _ = (filled, omega arith, P.order_new ∙ ap s.order (sym q))
        go (inr ne) (inl q) = (i, il, P.order_moved ∙ ap s.order (sym q))
        go (inr ne) (inr nf) = (j, l, P.order_same j ne nf)

    -- the old place of what stands at j now
    old_place : (j : ℕ) → j < n → (k : ℕ) × (k < n) × (t.order j ≡ s.order k)
        × (((j ≡ i) × (k ≡ filled)) ⊎ ((j ≢ i) × (j ≡ filled) × (k ≡ i)) ⊎ ((j ≢ i) × (j ≢ filled) × (k ≡ j)))
    old_place j l = go (nat_cases j i) (nat_cases j filled)
      where
        go : (j ≡ i) ⊎ (j ≢ i) → (j ≡ filled) ⊎ (j ≢ filled) → (k : ℕ) × (k < n) × (t.order j ≡ s.order k)
            × (((j ≡ i) × (k ≡ filled)) ⊎ ((j ≢ i) × (j ≡ filled) × (k ≡ i)) ⊎ ((j ≢ i) × (j ≢ filled) × (k ≡ j)))
        go (inl q) _ = (filled, omega arith, ap t.order q ∙ P.order_moved, inl (q, refl))
        go (inr ne) (inl q) = (i, il, ap t.order q ∙ P.order_new, inr (inl (ne, q, refl)))
        go (inr ne) (inr nf) = (j, l, P.order_same j ne nf, inr (inr (ne, nf, refl)))

    put-below : (j : ℕ) → j < n → t.order j < n
    put-below j l = let o = old_place j l in subst (λ v. v < n) (sym o.2) (S.below o.0 o.1)

    put-distinct : (j k : ℕ) → j < n → k < n → t.order j ≡ t.order k → j ≡ k
    put-distinct j k jl kl e =
        let o = old_place j jl in let p = old_place k kl in
        let same : o.0 ≡ p.0 = S.distinct o.0 p.0 o.1 p.1 (sym o.2 ∙ (e ∙ p.2)) in
        omega (arith, same, o.3, p.3)

    put-each : (y : ℕ) → y < n → (k : ℕ) × (k < n) × (t.order k ≡ y)
    put-each y yl = let p = S.each y yl in let q = from_old p.0 p.1 in (q.0, q.1, q.2 ∙ p.2)

    last_or_old : (j : ℕ) → j < filled + 1 → (j < filled) ⊎ (j ≡ filled)
    last_or_old j l = grind arith

    put-done : (j : ℕ) → j < filled + 1 → t.reached (t.order j) ≡ true
    put-done j l = elim (last_or_old j l) [
      | inl less ↦ ap t.reached (order-kept j less) ∙ still (s.order j) (S.done j less)
      | inr q ↦ ap (λ v. t.reached (t.order v)) q ∙ (ap t.reached P.order_new ∙ P.reached_new)
    ]

    put-waiting : (j : ℕ) → filled + 1 ≤ j → j < n → t.reached (t.order j) ≡ false
    put-waiting j g l = let o = old_place j l in
        let late : filled ≤ o.0 = omega (arith, o.3) in
        ap t.reached o.2 ∙ (P.reached_same (s.order o.0) (λ q. let same : o.0 ≡ i = S.distinct o.0 i o.1 il q in omega (arith, o.3)) ∙ S.waiting o.0 late o.1)

    put-shallow : (j : ℕ) → j < filled + 1 → t.depth (t.order j) ≤ j
    put-shallow j l = elim (last_or_old j l) [
      | inl less ↦ omega (arith, depth-kept j less, S.shallow j less)
      | inr q ↦ subst (λ v. t.depth (t.order v) ≤ v) (sym q) (omega (arith, depth-last))
    ]

    depth_le : (j : ℕ) → j < filled + 1 → t.depth (t.order j) ≤ d
    depth_le j l = elim (last_or_old j l) [
      | inl less ↦ omega (arith, depth-kept j less, above j less)
      | inr q ↦ subst (λ v. t.depth (t.order v) ≤ d) (sym q) (omega (arith, depth-last))
    ]

    put-rising : (j k : ℕ) → j ≤ k → k < filled + 1 → t.depth (t.order j) ≤ t.depth (t.order k)
    put-rising j k le l = elim (last_or_old k l) [
      | inl less ↦ omega (arith, depth-kept j (omega arith), depth-kept k less, S.rising j k le less)
      | inr q ↦ subst (λ v. t.depth (t.order j) ≤ t.depth (t.order v)) (sym q) (omega (arith, depth-last, depth_le j (omega arith)))
    ]

    put-near : (j : ℕ) → j < filled + 1 → t.depth (t.order j) ≤ t.depth (t.order head) + 1
    put-near j l = go (lt_cases head filled)
      where
        go : (head < filled) ⊎ (filled ≤ head) → t.depth (t.order j) ≤ t.depth (t.order head) + 1
        go (inl less) = omega (arith, depth_le j l, close less, depth-kept head less)
        go (inr ge) = let same : head ≡ filled = omega (arith, S.head_le) in
            subst (λ v. t.depth (t.order j) ≤ t.depth (t.order v) + 1) (sym same) (omega (arith, depth-last, depth_le j l))

    put-origin : (y : ℕ) → y < n → t.reached y ≡ true → (t.depth y ≡ 0) ⊎ IsLed arc n t y
    put-origin y yl h = elim (split y h) [
      | inl q ↦ subst (λ v. (t.depth v ≡ 0) ⊎ IsLed arc n t v) (sym q) (new why)
      | inr old ↦ elim (S.origin y yl old) [
        | inl z ↦ inl (P.depth_same y (other y old) ∙ z)
        | inr led ↦ inr (kept_led old led)
      ]
    ]
      where
        kept_led : {y : ℕ} → s.reached y ≡ true → IsLed arc n s y → IsLed arc n t y
        kept_led {y} old led = let b = P.before_same y (other y old) in record {
          below = subst (λ v. v < n) (sym b) led.below;
          reached = subst (λ v. t.reached v ≡ true) (sym b) (still (s.before y) led.reached);
          along = subst (λ v. arc v y ≡ true) (sym b) led.along;
          deeper = P.depth_same y (other y old)
              ∙ (led.deeper ∙ ap (λ v. v + 1)
              (sym (ap t.depth b ∙ P.depth_same (s.before y) (other (s.before y) led.reached))));
        }

        new : (d ≡ 0) ⊎ ((x < n) × (s.reached x ≡ true) × (arc x (s.order i) ≡ true) × (d ≡ s.depth x + 1)) →
            (t.depth (s.order i) ≡ 0) ⊎ IsLed arc n t (s.order i)
        new (inl z) = inl (P.depth_new ∙ z)
        new (inr (xl, xr, a, e)) = let b = P.before_new in inr (record {
          below = subst (λ v. v < n) (sym b) xl;
          reached = subst (λ v. t.reached v ≡ true) (sym b) (still x xr);
          along = subst (λ v. arc v (s.order i) ≡ true) (sym b) a;
          deeper = P.depth_new ∙ (e ∙ ap (λ v. v + 1) (sym (ap t.depth b ∙ P.depth_same x (other x xr))));
        })

    put-looked : (j y : ℕ) → j < head → y < n → arc (t.order j) y ≡ true → (t.reached y ≡ true) × (t.depth y ≤ t.depth (t.order j) + 1)
    put-looked j y l yl a =
        let early : j < filled = omega (arith, S.head_le) in
        let f = S.looked j y l yl (subst (λ v. arc v y ≡ true) (order-kept j early) a) in
        (still y f.0, omega (arith, f.1, depth-kept j early, P.depth_same y (other y f.0)))

    pub search-put : IsSearch arc n t head (filled + 1)
    search-put = record {
      head_le = omega (arith, S.head_le);
      filled_le = omega arith;
      below = put-below;
      distinct = put-distinct;
      each = put-each;
      done = put-done;
      waiting = put-waiting;
      count = size_on-put s.reached t.reached n (s.order i) (S.below i il) waits P.reached_new P.reached_same ∙ ap (λ v. v + 1) S.count;
      shallow = put-shallow;
      rising = put-rising;
      near = λ j l _. put-near j l;
      origin = put-origin;
      looked = put-looked;
    }

    pub grown-put : 0 < d → IsGrown n s t filled
    grown-put deep = record {
      order = order-kept;
      reached = still;
      depth = λ y h. P.depth_same y (other y h);
      deeper = λ y h z. elim (split y h) [ inl q ↦ absurd (omega (arith, P.depth_new, subst (λ v. t.depth v ≡ 0) q z)) | inr old ↦ old ];
    }

    -- a start is put, at depth 0
    pub starts-put : (starts : ℕ → Bool) → starts (s.order i) ≡ true → d ≡ 0 → ((y : ℕ) → y < n → s.reached y ≡ true → (s.depth y ≡ 0) × (starts y ≡ true)) →
        (y : ℕ) → y < n → t.reached y ≡ true → (t.depth y ≡ 0) × (starts y ≡ true)
    starts-put starts st z f y yl h = elim (split y h) [
      | inl q ↦ subst (λ v. (t.depth v ≡ 0) × (starts v ≡ true)) (sym q) (P.depth_new ∙ z, st)
      | inr old ↦ let o = f y yl old in (P.depth_same y (other y old) ∙ o.0, o.1)
    ]

  pub grown-same : (s : SearchState) (filled : ℕ) → IsGrown n s s filled
  grown-same s filled = record { order = λ j l. refl; reached = λ y h. h; depth = λ y h. refl; deeper = λ y h z. h }

  pub grown-join : (s t u : SearchState) (f g : ℕ) → f ≤ g → IsGrown n s t f → IsGrown n t u g → IsGrown n s u f
  grown-join s t u f g le A B = record {
    order = λ j l. B.order j (omega arith) ∙ A.order j l;
    reached = λ y h. B.reached y (A.reached y h);
    depth = λ y h. B.depth y (A.reached y h) ∙ A.depth y h;
    deeper = λ y h z. let r = B.deeper y h z in A.deeper y r (sym (B.depth y r) ∙ z);
  }

  pub grown-starts : (s t : SearchState) (f : ℕ) (starts : ℕ → Bool) → IsGrown n s t f → HasStarts n starts s → HasStarts n starts t
  grown-starts s t f starts G H = record {
    reached = λ y l h. G.reached y (H.reached y l h);
    depth = λ y l h. G.depth y (H.reached y l h) ∙ H.depth y l h;
    only = λ y l h z. let r = G.deeper y h z in H.only y l r (sym (G.depth y r) ∙ z);
  }

  pub grown-ends : (s t : SearchState) (f head : ℕ) (ends : ℕ → Bool) → head ≤ f → IsGrown n s t f → NoEndBefore ends s head → NoEndBefore ends t head
  grown-ends s t f head ends le G N j l e = N j l (subst (λ v. ends v ≡ true) (G.order j (omega arith)) e)

  pub ends-next : (s : SearchState) (head : ℕ) (ends : ℕ → Bool) → NoEndBefore ends s head → ends (s.order head) ≡ false → NoEndBefore ends s (head + 1)
  ends-next s head ends N misses j l e = elim (nat_cases j head)
      [ inl q ↦ differ misses (subst (λ v. ends (s.order v) ≡ true) q e) | inr ne ↦ N j (omega arith) e ]

  -- the next place is looked at
  pub search-next : (s : SearchState) (head filled : ℕ) → IsSearch arc n s head filled → head < filled →
      ((i : ℕ) → filled ≤ i → i < n → arc (s.order head) (s.order i) ≡ false) → IsSearch arc n s (head + 1) filled
  search-next s head filled S more scanned = record {
    head_le = omega arith;
    filled_le = S.filled_le;
    below = S.below;
    distinct = S.distinct;
    each = S.each;
    done = S.done;
    waiting = S.waiting;
    count = S.count;
    shallow = S.shallow;
    rising = S.rising;
    near = λ j l m. omega (arith, S.near j l more, S.rising head (head + 1) (omega arith) m);
    origin = S.origin;
    looked = looked;
  }
    where
      now : (y : ℕ) → y < n → arc (s.order head) y ≡ true → (s.reached y ≡ true) × (s.depth y ≤ s.depth (s.order head) + 1)
      now y yl a = at (S.each y yl)
        where
          at : ((i : ℕ) × (i < n) × (s.order i ≡ y)) → (s.reached y ≡ true) × (s.depth y ≤ s.depth (s.order head) + 1)
          at (i, il, e) = elim (lt_cases i filled) [
            | inl l ↦ (subst (λ v. s.reached v ≡ true) e (S.done i l), subst (λ v. s.depth v ≤ s.depth (s.order head) + 1) e (S.near i l more))
            | inr g ↦ absurd (differ (scanned i g il) (subst (λ v. arc (s.order head) v ≡ true) (sym e) a))
          ]

      looked : (j y : ℕ) → j < head + 1 → y < n → arc (s.order j) y ≡ true → (s.reached y ≡ true) × (s.depth y ≤ s.depth (s.order j) + 1)
      looked j y l yl a = elim (nat_cases j head) [
        | inl q ↦ subst (λ v. (s.reached y ≡ true) × (s.depth y ≤ s.depth (s.order v) + 1)) (sym q) (now y yl (subst (λ v. arc (s.order v) y ≡ true) q a))
        | inr ne ↦ S.looked j y (omega arith) yl a
      ]

  module _ (starts ends : ℕ → Bool) (s : SearchState) (head filled : ℕ) (S : IsSearch arc n s head filled)
      (F : HasStarts n starts s) (N : NoEndBefore ends s head) where
    -- what a walk no longer than the next place's depth leads to is reached, and no deeper
    seen : (s₀ : ℕ) → s₀ < n → starts s₀ ≡ true → (m y : ℕ) → y < n → ((j : ℕ) → j < filled → s.depth (s.order j) < m → j < head) → Walk arc n s₀ y m →
        (s.reached y ≡ true) × (s.depth y ≤ m)
    seen s₀ sl sh zero y yl early e = subst (λ v. (s.reached v ≡ true) × (s.depth v ≤ 0)) e (F.reached s₀ sl sh, omega (arith, F.depth s₀ sl sh))
    seen s₀ sl sh (suc m) y yl early (z, zl, w, a) = go (seen s₀ sl sh m z zl (λ j l less. early j l (omega arith)) w)
      where
        go : (s.reached z ≡ true) × (s.depth z ≤ m) → (s.reached y ≡ true) × (s.depth y ≤ suc m)
        go (r, le) = at (position s head filled S z zl r)
          where
            at : ((i : ℕ) × (i < filled) × (s.order i ≡ z)) → (s.reached y ≡ true) × (s.depth y ≤ suc m)
            at (i, il, e) =
                let deep : s.depth (s.order i) ≤ m = subst (λ v. s.depth v ≤ m) (sym e) le in
                let f = S.looked i y (early i il (omega arith)) yl (subst (λ v. arc v y ≡ true) (sym e) a) in (f.0, omega (arith, f.1, deep))

    -- an end that comes next is a nearest one
    pub search-least : head < filled → (s₀ e m : ℕ) → s₀ < n → e < n → starts s₀ ≡ true → ends e ≡ true → Walk arc n s₀ e m → s.depth (s.order head) ≤ m
    search-least more s₀ e m sl el sh eh w = go (lt_cases m (s.depth (s.order head)))
      where
        early : m < s.depth (s.order head) → (j : ℕ) → j < filled → s.depth (s.order j) ≤ m → j < head
        early less j jl le = at (lt_cases j head)
          where
            at : (j < head) ⊎ (head ≤ j) → j < head
            at (inl l) = l
            at (inr g) = absurd (omega (arith, S.rising head j g jl))

        go : (m < s.depth (s.order head)) ⊎ (s.depth (s.order head) ≤ m) → s.depth (s.order head) ≤ m
        go (inr le) = le
        go (inl less) = absurd (at f.1 (position s head filled S e el f.0))
          where
            f : (s.reached e ≡ true) × (s.depth e ≤ m)
            f = seen s₀ sl sh m e el (λ j jl l. early less j jl (omega arith)) w

            at : s.depth e ≤ m → ((i : ℕ) × (i < filled) × (s.order i ≡ e)) → ⊥
            at le (i, il, q) = N i (early less i il (subst (λ v. s.depth v ≤ m) (sym q) le)) (subst (λ v. ends v ≡ true) (sym q) eh)

    -- nothing is left to look at
    led_from : (d y : ℕ) → y < n → s.reached y ≡ true → s.depth y ≡ d → (s₀ : ℕ) × (s₀ < n) × (starts s₀ ≡ true) × Walk arc n s₀ y d
    led_from zero y yl h e = elim (S.origin y yl h) [ inl z ↦ (y, yl, F.only y yl h z, refl) | inr led ↦ absurd (omega (arith, led.deeper)) ]
    led_from (suc d) y yl h e = elim (S.origin y yl h) [
      | inl z ↦ absurd (omega arith)
      | inr led ↦ go led (led_from d (s.before y) led.below led.reached (omega (arith, led.deeper)))
    ]
      where
        go : IsLed arc n s y → ((s₀ : ℕ) × (s₀ < n) × (starts s₀ ≡ true) × Walk arc n s₀ (s.before y) d) → (s₀ : ℕ)
            × (s₀ < n) × (starts s₀ ≡ true) × Walk arc n s₀ y (suc d)
        go led (s₀, sl, sh, w) = (s₀, sl, sh, (s.before y, led.below, w, led.along))

    pub reached-from : (y : ℕ) → y < n → s.reached y ≡ true → FromSome arc n starts y
    reached-from y yl h = go (led_from (s.depth y) y yl h refl)
      where
        go : ((s₀ : ℕ) × (s₀ < n) × (starts s₀ ≡ true) × Walk arc n s₀ y (s.depth y)) → FromSome arc n starts y
        go (s₀, sl, sh, w) = (s₀, sl, sh, (s.depth y, w))

    pub search-follows : filled ≤ head → Follows arc n s.reached
    search-follows all x y xl yl h a = go (position s head filled S x xl h)
      where
        go : ((i : ℕ) × (i < filled) × (s.order i ≡ x)) → s.reached y ≡ true
        go (i, il, e) = (S.looked i y (omega arith) yl (subst (λ v. arc v y ≡ true) (sym e) a)).0

    -- with nothing left to look at, the reached set is closed, and is what is reached from the starts
    pub search-closed : filled ≤ head → IsClosed arc n starts ends s.reached
    search-closed all = record {
      holds_starts = F.reached;
      no_end = λ y yl h e. never y e (position s head filled S y yl h);
      follows = search-follows all;
    }
      where
        never : (y : ℕ) → ends y ≡ true → ((i : ℕ) × (i < filled) × (s.order i ≡ y)) → ⊥
        never y e (i, il, q) = N i (omega arith) (subst (λ v. ends v ≡ true) (sym q) e)

    pub search-reached_set : filled ≤ head → IsReachedSet arc n starts s.reached
    search-reached_set all y yl = (reached-from y yl, follows-from arc n starts s.reached F.reached (search-follows all) y yl)

    -- the walk is read backwards
    pub trace-last : (at : ℕ → ℕ) (d e : ℕ) → e < n → s.reached e ≡ true → s.depth e ≡ d → at d ≡ e → IsTrace arc n s at d d e
    trace-last at d e el h q last = record {
      le = omega arith;
      last = last;
      below = λ i g l. let same : i ≡ d = omega arith in subst (λ v. v < n) (sym (ap at same ∙ last)) el;
      reached = subst (λ v. s.reached v ≡ true) (sym last) h;
      depth = ap s.depth last ∙ q;
      follows = λ i g l. absurd (omega arith);
    }

    pub trace-back : (at to : ℕ → ℕ) (k d e : ℕ) → IsTrace arc n s at (k + 1) d e → to k ≡ s.before (at (k + 1)) →
        ((i : ℕ) → i ≢ k → to i ≡ at i) → IsTrace arc n s to k d e
    trace-back at to k d e T new same = go (S.origin (at (k + 1)) (T.below (k + 1) (omega arith) T.le) T.reached)
      where
        go : (s.depth (at (k + 1)) ≡ 0) ⊎ IsLed arc n s (at (k + 1)) → IsTrace arc n s to k d e
        go (inl z) = absurd (omega (arith, T.depth))
        go (inr led) = record {
          le = omega (arith, T.le);
          last = same d (λ q. omega (arith, T.le)) ∙ T.last;
          below = λ i g l. elim (nat_cases i k) [
            | inl q ↦ subst (λ v. v < n) (sym (ap to q ∙ new)) led.below
            | inr ne ↦ subst (λ v. v < n) (sym (same i ne)) (T.below i (omega arith) l)
          ];
          reached = subst (λ v. s.reached v ≡ true) (sym new) led.reached;
          depth = ap s.depth new ∙ omega (arith, led.deeper, T.depth);
          follows = λ i g l. elim (nat_cases i k) [
            | inl q ↦ subst (λ v. arc (to v) (to (v + 1)) ≡ true) (sym q)
                (subst (λ v. arc (to k) v ≡ true) (sym (same (k + 1) (λ z. omega arith)))
                (subst (λ v. arc v (at (k + 1)) ≡ true) (sym new) led.along))
            | inr ne ↦ subst (λ v. arc v (to (i + 1)) ≡ true) (sym (same i ne))
                (subst (λ v. arc (at i) v ≡ true) (sym (same (i + 1) (λ z. omega arith))) (T.follows i (omega arith) l))
          ];
        }

    pub trace-shortest : (at : ℕ → ℕ) (d : ℕ) → head < filled → ends (s.order head) ≡ true →
        s.depth (s.order head) ≡ d → IsTrace arc n s at 0 d (s.order head) → IsShortest arc n starts ends at d
    trace-shortest at d more e q T = record {
      fewer = omega (arith, S.shallow head more, S.filled_le);
      begins = F.only (at 0) (T.below 0 (omega arith) T.le) T.reached T.depth;
      stops = subst (λ v. ends v ≡ true) (sym T.last) e;
      below = λ i l. T.below i (omega arith) l;
      follows = λ i l. T.follows i (omega arith) l;
      least = λ s₀ e₀ m sl el sh eh w. omega (arith, search-least more s₀ e₀ m sl el sh eh w);
    }

-- at the start no place is reached, and each stands at a position of its own
pub search-start : (arc : ℕ → ℕ → Bool) (n : ℕ) (s : SearchState) (position : ℕ → ℕ) → ((i : ℕ) → i < n → s.order i < n) → ((y : ℕ) → y < n → position y < n) →
    ((i : ℕ) → i < n → position (s.order i) ≡ i) → ((y : ℕ) → y < n → s.order (position y) ≡ y) → ((y : ℕ) → y < n → s.reached y ≡ false) → IsSearch arc n s 0 0
search-start arc n s position order_below position_below position_order order_position none = record {
  head_le = omega arith;
  filled_le = omega arith;
  below = order_below;
  distinct = λ i j il jl e. sym (position_order i il) ∙ (ap position e ∙ position_order j jl);
  each = λ y l. (position y, position_below y l, order_position y l);
  done = λ i l. absurd (omega arith);
  waiting = λ i _ l. none (s.order i) (order_below i l);
  count = size-zero s.reached n none;
  shallow = λ i l. absurd (omega arith);
  rising = λ i j _ l. absurd (omega arith);
  near = λ j l. absurd (omega arith);
  origin = λ y l h. absurd (differ (none y l) h);
  looked = λ j y l. absurd (omega arith);
}

-- each place of the walk is where the walk to the next one comes from
pub trace-all : (arc : ℕ → ℕ → Bool) (n : ℕ) (starts ends : ℕ → Bool) (s : SearchState) (head filled : ℕ) →
    IsSearch arc n s head filled → HasStarts n starts s → NoEndBefore ends s head →
    head < filled → ends (s.order head) ≡ true → (at : ℕ → ℕ) (d : ℕ) → s.depth (s.order head) ≡ d →
    at d ≡ s.order head → ((i : ℕ) → i < d → at i ≡ s.before (at (i + 1))) → IsShortest arc n starts ends at d
trace-all arc n starts ends s head filled S F N more e at d deep last back =
    trace-shortest arc n starts ends s head filled S F N at d more e deep (down d 0 (omega arith))
  where
    step : (k : ℕ) → k < d → IsTrace arc n s at (k + 1) d (s.order head) → IsTrace arc n s at k d (s.order head)
    step k l T = trace-back arc n starts ends s head filled S F N at at k d (s.order head) T (back k l) (λ i _. refl)

    down : (r k : ℕ) → k + r ≡ d → IsTrace arc n s at k d (s.order head)
    down zero k q = subst (λ v. IsTrace arc n s at v d (s.order head)) (omega arith)
        (trace-last arc n starts ends s head filled S F N at d (s.order head) (S.below head (omega (arith, S.filled_le))) (S.done head more) deep last)
    down (suc r) k q = step k (omega arith) (down r (k + 1) (omega arith))
