-- The rows of covers are right.
use Rattle.std.proofs.Common.{◌≡◌, ◌≢◌, ℕ, ◌+◌, ◌<◌, ◌≤◌, ◌⊎◌, Bool, true, false, ◌||◌, inl, inr, ap, sym, subst, ◌∙◌, arith}
use Rattle.residue_theory.proofs.SumLaws.{nat_cases}
use Rattle.residue_theory.proofs.SetLaws.{differ, either_cases, either-first, either-second}
use Rattle.residue_theory.specs.Ranges.{HasNone, IsLeast}
use Rattle.minimiser_lattice.specs.Paths.{IsNumbering}
use Rattle.minimiser_lattice.proofs.ReadyLaws.{order_cases}
use Rattle.minimiser_lattice.specs.Covers.{IsCoverPut, IsCoverRow, IsGathered, IsRowFrom, NoneBetween}

module _ (strict : ℕ → ℕ → Bool) (l : ℕ) where
  pub gathered-none : (list : ℕ → ℕ) → IsGathered strict l 0 list 0
  gathered-none list = record {
    leads = λ i k. absurd (omega arith);
    below = λ i k. absurd (omega arith);
    rises = λ i j k m. absurd (omega arith);
    all = λ m k h. absurd (omega arith);
  }

  pub gathered-next : (from m filled : ℕ) (list now : ℕ → ℕ) → IsGathered strict l from list filled →
      IsLeast (strict l) from l m → now filled ≡ m → ((i : ℕ) → i ≢ filled → now i ≡ list i) →
      IsGathered strict l (m + 1) now (filled + 1)
  gathered-next from m filled list now G L here others = record {
    leads = λ i k. elim (nat_cases i filled) [
      | inl q ↦ subst (λ v. strict l v ≡ true) (sym (ap now q ∙ here)) L.holds
      | inr ne ↦ subst (λ v. strict l v ≡ true) (sym (others i ne)) (G.leads i (omega arith))
    ];
    below = λ i k. elim (nat_cases i filled) [
      | inl q ↦ omega (arith, ap now q, here)
      | inr ne ↦ omega (arith, others i ne, G.below i (omega arith), L.from_on)
    ];
    rises = λ i j k h. elim (nat_cases j filled) [
      | inl q ↦ omega (arith, ap now q, here, others i (λ e. omega arith), G.below i (omega arith), L.from_on)
      | inr ne ↦ omega (arith, others j ne, others i (λ e. omega arith), G.rises i j k (omega arith))
    ];
    all = λ x k h. elim (nat_cases x m) [
      | inl q ↦ (filled, omega arith, here ∙ sym q)
      | inr ne ↦ elim (test_before x from) [
        | inl before ↦
            let i = G.all x before h in
            (i.0, omega (arith, i.1), others i.0 (λ e. omega (arith, i.1)) ∙ i.2)
        | inr after ↦ absurd (differ (L.none_before x after (omega arith)) h)
      ]
    ];
  }
    where
      test_before : (x k : ℕ) → (x < k) ⊎ (k ≤ x)
      test_before x k = grind arith

  pub gathered-all : (from filled : ℕ) (list : ℕ → ℕ) → IsGathered strict l from list filled → from ≤ l →
      HasNone (strict l) from l → IsGathered strict l l list filled
  gathered-all from filled list G fl none = record {
    leads = G.leads;
    below = λ i k. omega (arith, G.below i k);
    rises = G.rises;
    all = λ x k h. elim (test_before x from) [
      | inl before ↦ G.all x before h
      | inr after ↦ absurd (differ (none x after k) h)
    ];
  }
    where
      test_before : (x k : ℕ) → (x < k) ⊎ (k ≤ x)
      test_before x k = grind arith

module _ (n : ℕ) (number : ℕ → ℕ) (count : ℕ) (strict : ℕ → ℕ → Bool) (N : IsNumbering n number count strict)
    (list : ℕ → ℕ) (filled : ℕ) (listed : ℕ → ℕ) (blocks j : ℕ)
    (below : (i : ℕ) → i < blocks → listed i < count) (jl : j < blocks)
    (G : IsGathered strict (listed j) (listed j) list filled) where
  small : listed j < n
  small = omega (arith, below j jl, N.fits)

  falls : (m : ℕ) → m < n → strict (listed j) m ≡ true → m < listed j
  falls m ml h = N.falls (listed j) m (below j jl) ml h

  item_small : (i : ℕ) → i < filled → list i < n
  item_small i l = omega (arith, G.below i l, small)

  pub row-first : (covers : ℕ → ℕ → Bool) (between : ℕ → Bool) → ((y : ℕ) → y < n → between y ≡ false) →
      ((i : ℕ) → i < n → covers j i ≡ false) → blocks ≤ n →
      IsRowFrom n strict list filled listed blocks covers between j filled
  row-first covers between empty bare fits = record {
    some = λ y yl h. absurd (differ (empty y yl) h);
    made = λ i y le l yl h. absurd (omega arith);
    leads = λ i l h. absurd (differ (bare i (omega arith)) h);
    none = λ i l h. absurd (differ (bare i (omega arith)) h);
    all = λ i at l le al q none. absurd (omega arith);
  }

  pub row-last : (covers : ℕ → ℕ → Bool) (between : ℕ → Bool) →
      IsRowFrom n strict list filled listed blocks covers between j 0 → IsCoverRow n strict listed blocks covers j
  row-last covers between R = record {
    leads = R.leads;
    none = R.none;
    all = λ i l h none.
        let at = G.all (listed i) (falls (listed i) (omega (arith, below i l, N.fits)) h) h in
        R.all i at.0 l (omega arith) at.1 at.2 none;
  }

  module _ (covers : ℕ → ℕ → Bool) (between : ℕ → Bool) (left : ℕ) (ll : left < filled)
      (R : IsRowFrom n strict list filled listed blocks covers between j (left + 1)) where
    abbrev m : ℕ
    m = list left

    -- what the block's component leads to above item `left` is a later item
    later : (x : ℕ) → m < x → x < n → strict (listed j) x ≡ true → (i : ℕ) × (left + 1 ≤ i) × (i < filled) × (list i ≡ x)
    later x less xl h = go (G.all x (falls x xl h) h)
      where
        go : ((i : ℕ) × (i < filled) × (list i ≡ x)) → (i : ℕ) × (left + 1 ≤ i) × (i < filled) × (list i ≡ x)
        go (i, il, q) = elim (nat_cases i left) [
          | inl e ↦ absurd (omega (arith, ap list e))
          | inr ne ↦ elim (order_cases i left ne) [
            | inl before ↦ absurd (omega (arith, G.rises i left before ll))
            | inr after ↦ (i, omega arith, il, q)
          ]
        ]

    -- on the way to item `left` stands a later item alone
    higher : (x : ℕ) → x < n → strict x m ≡ true → strict (listed j) x ≡ true → m < x
    higher x xl h s = N.falls x m (omega (arith, falls x xl s, below j jl)) (item_small left ll) h

    -- a third one is on the way to item `left`
    pub row-held : between m ≡ true → IsRowFrom n strict list filled listed blocks covers between j left
    row-held h = record {
      some = R.some;
      made = λ i y le l yl s. elim (nat_cases i left) [
        | inl q ↦
            let x = R.some m (item_small left ll) h in
            let at = later x.0 (higher x.0 x.1 x.3 x.2) x.1 x.2 in
            R.made at.0 y at.1 at.2 yl
            (subst (λ v. strict v y ≡ true) (sym at.3)
            (N.lower x.0 m y (omega (arith, falls x.0 x.1 x.2, below j jl)) (item_small left ll) yl x.3
            (subst (λ v. strict (list v) y ≡ true) q s)))
        | inr ne ↦ R.made i y (omega arith) l yl s
      ];
      leads = R.leads;
      none = R.none;
      all = λ i at l le al q none. elim (nat_cases at left) [
        | inl e ↦
            let x = R.some m (item_small left ll) h in
            absurd (none x.0 x.1 x.2 (subst (λ v. strict x.0 v ≡ true) (ap list (sym e) ∙ q) x.3))
        | inr ne ↦ R.all i at l (omega arith) al q none
      ];
    }

    -- none is, so the block of item `left` is right below
    pub row-put : (more : ℕ → ℕ → Bool) (now : ℕ → Bool) → between m ≡ false →
        ((y : ℕ) → y < n → now y ≡ (between y || strict m y)) → IsCoverPut covers more n listed blocks j m →
        blocks ≤ n → ((i k : ℕ) → i < blocks → k < blocks → listed i ≡ listed k → i ≡ k) →
        IsRowFrom n strict list filled listed blocks more now j left
    row-put more now f joined put fits one = record {
      some = λ y yl h. elim (either_cases (between y) (strict m y) (sym (joined y yl) ∙ h)) [
        | inl o ↦ R.some y yl o
        | inr s ↦ (m, item_small left ll, G.leads left ll, s)
      ];
      made = λ i y le l yl s. joined y yl ∙ elim (nat_cases i left) [
        | inl q ↦ either-second (between y) (strict m y) (subst (λ v. strict (list v) y ≡ true) q s)
        | inr ne ↦ either-first (between y) (strict m y) (R.made i y (omega arith) l yl s)
      ];
      leads = λ i l h. elim (was i l h) [
        | inl o ↦ R.leads i l o
        | inr q ↦ subst (λ v. strict (listed j) v ≡ true) (sym q) (G.leads left ll)
      ];
      none = λ i l h. elim (was i l h) [
        | inl o ↦ R.none i l o
        | inr q ↦ subst (λ v. NoneBetween n strict (listed j) v) (sym q) clear
      ];
      all = λ i at l le al q none. elim (nat_cases at left) [
        | inl e ↦ here i l (sym q ∙ ap list e)
        | inr ne ↦ still i l (R.all i at l (omega arith) al q none)
      ];
    }
      where
        clear : NoneBetween n strict (listed j) m
        clear x xl s t =
            let at = later x (higher x xl t s) xl s in
            differ f (R.made at.0 m at.1 at.2 (item_small left ll) (subst (λ v. strict v m ≡ true) (sym at.3) t))

        was : (i : ℕ) → i < blocks → more j i ≡ true → (covers j i ≡ true) ⊎ (listed i ≡ m)
        was i l h = go put
          where
            go : IsCoverPut covers more n listed blocks j m → (covers j i ≡ true) ⊎ (listed i ≡ m)
            go (inr (never, same)) = inl (subst (λ v. v j i ≡ true) same h)
            go (inl (k, kl, q, S)) = elim (nat_cases i k) [
              | inl e ↦ inr (ap listed e ∙ q)
              | inr ne ↦ inl (sym (S.row i (omega arith) ne) ∙ h)
            ]

        here : (i : ℕ) → i < blocks → listed i ≡ m → more j i ≡ true
        here i l q = go put
          where
            go : IsCoverPut covers more n listed blocks j m → more j i ≡ true
            go (inr (never, same)) = absurd (never i l q)
            go (inl (k, kl, e, S)) = subst (λ v. more j v ≡ true) (one k i kl l (e ∙ sym q)) S.here

        still : (i : ℕ) → i < blocks → covers j i ≡ true → more j i ≡ true
        still i l h = go put
          where
            go : IsCoverPut covers more n listed blocks j m → more j i ≡ true
            go (inr (never, same)) = subst (λ v. v j i ≡ true) (sym same) h
            go (inl (k, kl, e, S)) = elim (nat_cases i k) [
              | inl same ↦ subst (λ v. more j v ≡ true) (sym same) S.here
              | inr ne ↦ S.row i (omega arith) ne ∙ h
            ]

pub row-same : (n : ℕ) (strict : ℕ → ℕ → Bool) (listed : ℕ → ℕ) (blocks : ℕ) (covers more : ℕ → ℕ → Bool) (j : ℕ) →
    blocks ≤ n → ((i : ℕ) → i < n → more j i ≡ covers j i) → IsCoverRow n strict listed blocks covers j →
    IsCoverRow n strict listed blocks more j
row-same n strict listed blocks covers more j fits same R = record {
  leads = λ i l h. R.leads i l (sym (same i (omega arith)) ∙ h);
  none = λ i l h. R.none i l (sym (same i (omega arith)) ∙ h);
  all = λ i l h none. same i (omega arith) ∙ R.all i l h none;
}
