-- Conflict sets in a matroid: each is the circuit of its member in the first base of the others.
use Rattle.std.proofs.Common.{◌≡◌, ℕ, zero, suc, ◌+◌, ◌<◌, ◌≤◌, ◌≢◌, Bool, true, false, ◌&&◌, ◌||◌, eqb, ltb, ◌⊎◌, inl}
use Rattle.std.proofs.Common.{inr, refl, sym, subst, ◌∙◌, arith}
use Rattle.std.proofs.lemmas.Bool.Decides.{nat_tests}
use Rattle.residue_theory.proofs.SetLaws.{both_true, both-first, both-second, differ, either-first, either-second}
use Rattle.residue_theory.proofs.SetLaws.{either_cases, eqb_from, eqb_true, lt_cases, not_true, with_one-member}
use Rattle.residue_theory.proofs.SetLaws.{with_one-new, with_one-other}
use Rattle.residue_theory.proofs.SumLaws.{member-without, nat_cases, size_on-within, without-member, without-same}
use Rattle.residue_theory.specs.Sets.{IsWithin, both, everything, with_one, without}
use Rattle.residue_theory.specs.Sums.{size_on}
use Rattle.equation_matroid_laws.proofs.Matroids.{IsLargest, Matroid, Swaps, full, grown-within, largest-unique}
use Rattle.equation_matroid_laws.proofs.Matroids.{size-grown, size-shrunk, spanning-largest, swap, within-grown}
use Rattle.equation_matroid_laws.specs.Conflicts.{tried}

less_true : (x y : ℕ) → x < y → ltb x y ≡ true
less_true x y l = grind (arith, nat_tests)

less_from : (x y : ℕ) → ltb x y ≡ true → x < y
less_from x y h = grind (arith, nat_tests)

-- ---- what is tried at x
pub tried-before : (C : ℕ → Bool) (x y : ℕ) → y < x → tried C x y ≡ true
tried-before C x y l = either-first (ltb y x) (ltb x y && C y) (less_true y x l)

pub tried-after : (C : ℕ → Bool) (x y : ℕ) → x < y → C y ≡ true → tried C x y ≡ true
tried-after C x y l h = either-second (ltb y x) (ltb x y && C y) (both_true (ltb x y) (C y) (less_true x y l) h)

pub tried-cases : (C : ℕ → Bool) (x y : ℕ) → tried C x y ≡ true → (y < x) ⊎ ((x < y) × (C y ≡ true))
tried-cases C x y h = elim (either_cases (ltb y x) (ltb x y && C y) h) [
  | inl l ↦ inl (less_from y x l)
  | inr k ↦ inr (less_from x y (both-first (ltb x y) (C y) k), both-second (ltb x y) (C y) k)
]

pub tried-itself : (C : ℕ → Bool) (x : ℕ) → tried C x x ≡ false
tried-itself C x = not_true (tried C x x) (λ h. elim (tried-cases C x x h) [ inl l ↦ omega arith | inr k ↦ let l : x < x = k.0 in omega arith ])

module _ (n : ℕ) (Free : (ℕ → Bool) → Type 0) (T : Matroid n Free) where
  -- B is the first base of X: independent, and each other member of X depends on those of B before it
  pub record First (X B : ℕ → Bool) : Type 0 where
    pub inside : IsWithin n B X
    pub free : Free B
    pub spans : (y : ℕ) → y < n → X y ≡ true → B y ≡ false → Free (with_one (λ j. B j && ltb j y) y) → ⊥

  abbrev pub Surplus : (ℕ → Bool) → ℕ → Type 0
  Surplus X e = (r : ℕ) × IsLargest n Free X r × IsLargest n Free (without X e) r

  -- x is in the circuit of e in B
  abbrev pub InCircuit : (ℕ → Bool) → ℕ → ℕ → Type 0
  InCircuit B e x = (x ≡ e) ⊎ ((B x ≡ true) × Free (with_one (without B x) e))

  pub record Conflict (e : ℕ) (C : ℕ → Bool) : Type 0 where
    pub holds : C e ≡ true
    pub out : (x : ℕ) → x < n → x ≢ e → C x ≡ false → Surplus (tried C x) e
    pub back : (x : ℕ) → x < n → x ≢ e → Surplus (tried C x) e → C x ≡ false

  -- what depends on a part depends on the whole
  dependent : (X Y : ℕ → Bool) (y : ℕ) → IsWithin n X Y → (Free (with_one X y) → ⊥) → Free (with_one Y y) → ⊥
  dependent X Y y within never free = never (T.within (with_one X y) (with_one Y y) (grown-within n X Y y within) free)

  module _ (e : ℕ) (el : e < n) (B : ℕ → Bool) (first : First (without everything e) B) (tied : Free (with_one B e) → ⊥) where
    e_out : B e ≡ false
    e_out = not_true (B e) (λ h. (without-member everything e e (first.inside e el h)).1 refl)

    other : (y : ℕ) → y ≢ e → without everything e y ≡ true
    other y ne = member-without everything e y refl ne

    module _ (C : ℕ → Bool) (holds : C e ≡ true) where
      -- the members of the circuit from k on are those of C
      abbrev Known : ℕ → Type 0
      Known k = (y : ℕ) → y < n → k < y → ((C y ≡ true → InCircuit B e y) × (InCircuit B e y → C y ≡ true))

      module _ (x : ℕ) (xl : x < n) (ne : x ≢ e) (known : Known x) where
        J-base : (j : ℕ) → both B (tried C x) j ≡ true → B j ≡ true
        J-base j h = both-first (B j) (tried C x j) h

        J-tried : (j : ℕ) → both B (tried C x) j ≡ true → tried C x j ≡ true
        J-tried j h = both-second (B j) (tried C x j) h

        J-not_e : (j : ℕ) → both B (tried C x) j ≡ true → j ≢ e
        J-not_e j h q = differ e_out (subst (λ i. B i ≡ true) q (J-base j h))

        J-free : Free (both B (tried C x))
        J-free = T.within (both B (tried C x)) B (λ j _ h. J-base j h) first.free

        e_tried : tried C x e ≡ true
        e_tried = elim (lt_cases e x) [
          | inl l ↦ tried-before C x e l
          | inr ge ↦ tried-after C x e (omega (arith, ne)) holds
        ]

        e_not_J : both B (tried C x) e ≡ false
        e_not_J = not_true (both B (tried C x) e) (λ h. J-not_e e h refl)

        -- no other may join what is tried of B
        J-spans : (y : ℕ) → y < n → tried C x y ≡ true → y ≢ e → both B (tried C x) y ≡ false → Free (with_one (both B (tried C x)) y) → ⊥
        J-spans y yl yt yne yout free = elim (tried-cases C x y yt) [
          | inl l ↦ first.spans y yl (other y yne) y_base (T.within (with_one (λ j. B j && ltb j y) y) (with_one (both B (tried C x)) y)
              (grown-within n (λ j. B j && ltb j y) (both B (tried C x)) y (λ j _ h. both_true (B j) (tried C x j) (both-first (B j) (ltb j y) h)
              (tried-before C x j (let k : j < y = less_from j y (both-second (B j) (ltb j y) h) in omega arith)))) free)
          | inr k ↦ elim ((known y yl k.0).0 k.1) [
            | inl q ↦ yne q
            | inr m ↦ differ y_base m.0
          ]
        ]
          where
            y_base : B y ≡ false
            y_base = not_true (B y) (λ h. differ yout (both_true (B y) (tried C x y) h yt))

        J-largest : IsLargest n Free (without (tried C x) e) (size_on (both B (tried C x)) n)
        J-largest = spanning-largest n Free T (without (tried C x) e) (both B (tried C x))
            (λ j _ h. member-without (tried C x) e j (J-tried j h) (J-not_e j h)) J-free
            (λ y yl h out. let w : (tried C x y ≡ true) × (y ≢ e) = without-member (tried C x) e y h in J-spans y yl w.0 w.1 out)

        -- among what is tried at a member of the circuit e is not surplus
        stays : InCircuit B e x → Surplus (tried C x) e → ⊥
        stays (inl q) surplus = ne q
        stays (inr m) (r, R, S) = omega (
          arith,
          largest-unique n Free (without (tried C x) e) r (size_on (both B (tried C x)) n) S J-largest,
          size-grown n (both B (tried C x)) e el e_not_J,
          R.greatest (with_one (both B (tried C x)) e) (within-grown n (both B (tried C x)) (tried C x) e (λ j _ h. J-tried j h) e_tried) grown,
        )
          where
            grown : Free (with_one (both B (tried C x)) e)
            grown = T.within (with_one (both B (tried C x)) e) (with_one (without B x) e)
                (grown-within n (both B (tried C x)) (without B x) e (λ j _ h. member-without B x j (J-base j h)
                (λ q. differ (tried-itself C x) (subst (λ i. tried C x i ≡ true) q (J-tried j h))))) m.1

        -- and at another it is
        goes : (InCircuit B e x → ⊥) → Surplus (tried C x) e
        goes never = (size_on (both B (tried C x)) n, whole, J-largest)
          where
            replaced : Swaps n Free T B (both B (tried C x)) e → ⊥
            replaced (z, zl, zb, zout, zfree) = elim (lt_cases z x) [
              | inl l ↦ differ zout (both_true (B z) (tried C x z) zb (tried-before C x z l))
              | inr ge ↦ elim (nat_cases z x) [
                | inl q ↦ never (inr ((subst (λ i. B i ≡ true) q zb), subst (λ i. Free (with_one (without B i) e)) q zfree))
                | inr zne ↦ differ zout (both_true (B z) (tried C x z) zb
                    (tried-after C x z (omega arith) ((known z zl (omega arith)).1 (inr (zb, zfree)))))
              ]
            ]

            with_e : Swaps n Free T B (with_one (both B (tried C x)) e) e → Swaps n Free T B (both B (tried C x)) e
            with_e (z, zl, zb, zout, zfree) =
                (z, zl, zb, not_true (both B (tried C x) z) (λ h. differ zout (with_one-member (both B (tried C x)) e z h)), zfree)

            no_e : Free (with_one (both B (tried C x)) e) → ⊥
            no_e free = replaced (with_e (swap n Free T B (with_one (both B (tried C x)) e) e el e_out first.free tied
                (grown-within n (both B (tried C x)) B e (λ j _ h. J-base j h)) (with_one-new (both B (tried C x)) e) free))

            whole : IsLargest n Free (tried C x) (size_on (both B (tried C x)) n)
            whole = spanning-largest n Free T (tried C x) (both B (tried C x)) (λ j _ h. J-tried j h) J-free
                (λ y yl h out free. elim (nat_cases y e) [
                  | inl q ↦ no_e (subst (λ i. Free (with_one (both B (tried C x)) i)) q free)
                  | inr yne ↦ J-spans y yl h yne out free
                ])

        -- so membership of the circuit is decided
        in_circuit : InCircuit B e x ⊎ (InCircuit B e x → ⊥)
        in_circuit = at (B x) refl (T.decided (with_one (without B x) e))
          where
            at : (b : Bool) → B x ≡ b → Free (with_one (without B x) e) ⊎ (Free (with_one (without B x) e) → ⊥) → InCircuit B e x ⊎ (InCircuit B e x → ⊥)
            at true b (inl free) = inl (inr (b, free))
            at true b (inr never) = inr (λ m. elim m [ inl q ↦ ne q | inr k ↦ never k.1 ])
            at false b d = inr (λ m. elim m [ inl q ↦ ne q | inr k ↦ differ b k.0 ])

        one : (C x ≡ false → Surplus (tried C x) e) → (Surplus (tried C x) e → C x ≡ false) →
            (C x ≡ true → InCircuit B e x) × (InCircuit B e x → C x ≡ true)
        one out back = (held in_circuit, kept (C x) refl)
          where
            held : InCircuit B e x ⊎ (InCircuit B e x → ⊥) → C x ≡ true → InCircuit B e x
            held (inl m) h = m
            held (inr never) h = absurd (differ (back (goes never)) h)

            kept : (b : Bool) → C x ≡ b → InCircuit B e x → C x ≡ true
            kept true h m = h
            kept false h m = absurd (stays m (out h))

        left_out : (C x ≡ true → InCircuit B e x) → (InCircuit B e x → C x ≡ true) →
            (C x ≡ false → Surplus (tried C x) e) × (Surplus (tried C x) e → C x ≡ false)
        left_out there back = ((λ h. goes (λ m. differ h (back m))), λ surplus. not_true (C x) (λ h. stays (there h) surplus))

    -- ---- the circuit is a conflict set
    pub circuit-conflict : (C : ℕ → Bool) → ((x : ℕ) → x < n → ((C x ≡ true → InCircuit B e x) × (InCircuit B e x → C x ≡ true))) → Conflict e C
    circuit-conflict C same = record {
      holds = (same e el).1 (inl refl);
      out = λ x xl ne. (left_out C ((same e el).1 (inl refl)) x xl ne (λ y yl _. same y yl) (same x xl).0 (same x xl).1).0;
      back = λ x xl ne. (left_out C ((same e el).1 (inl refl)) x xl ne (λ y yl _. same y yl) (same x xl).0 (same x xl).1).1;
    }

    -- ---- the members of the circuit are a set
    yes : {P : Type 0} → P ⊎ (P → ⊥) → Bool
    yes (inl h) = true
    yes (inr h) = false

    yes-holds : {P : Type 0} (d : P ⊎ (P → ⊥)) → yes d ≡ true → P
    unfolding yes
    yes-holds (inl h) q = h
    yes-holds (inr h) q = absurd (differ refl q)

    holds-yes : {P : Type 0} (d : P ⊎ (P → ⊥)) → P → yes d ≡ true
    unfolding yes
    holds-yes (inl h) p = refl
    holds-yes (inr h) p = absurd (h p)

    circuit : ℕ → Bool
    circuit x = eqb x e || (B x && yes (T.decided (with_one (without B x) e)))

    circuit_members : (x : ℕ) → (circuit x ≡ true → InCircuit B e x) × (InCircuit B e x → circuit x ≡ true)
    unfolding circuit
    circuit_members x = (to, of)
      where
        to : eqb x e || (B x && yes (T.decided (with_one (without B x) e))) ≡ true → InCircuit B e x
        to h = elim (either_cases (eqb x e) (B x && yes (T.decided (with_one (without B x) e))) h) [
          | inl k ↦ inl (eqb_true x e k)
          | inr k ↦ inr (
            both-first (B x) (yes (T.decided (with_one (without B x) e))) k,
            yes-holds (T.decided (with_one (without B x) e)) (both-second (B x) (yes (T.decided (with_one (without B x) e))) k),
          )
        ]

        of : InCircuit B e x → eqb x e || (B x && yes (T.decided (with_one (without B x) e))) ≡ true
        of (inl q) = either-first (eqb x e) (B x && yes (T.decided (with_one (without B x) e))) (eqb_from x e q)
        of (inr m) = either-second (eqb x e) (B x && yes (T.decided (with_one (without B x) e)))
            (both_true (B x) (yes (T.decided (with_one (without B x) e))) m.0 (holds-yes (T.decided (with_one (without B x) e)) m.1))

    pub conflict_exists : (C : ℕ → Bool) × Conflict e C
    conflict_exists = (circuit, circuit-conflict circuit (λ x _. circuit_members x))

    -- ---- and the only one
    module _ (C : ℕ → Bool) (conflict : Conflict e C) where
      itself : (x : ℕ) → x ≡ e → (C x ≡ true → InCircuit B e x) × (InCircuit B e x → C x ≡ true)
      itself x q = ((λ _. inl q), λ _. subst (λ i. C i ≡ true) (sym q) conflict.holds)

      from_last : (d : ℕ) (x : ℕ) → x < n → n ≤ x + d → (C x ≡ true → InCircuit B e x) × (InCircuit B e x → C x ≡ true)
      from_last zero x xl le = absurd (omega arith)
      from_last (suc d) x xl le = go (nat_cases x e) (λ y yl more. from_last d y yl (omega arith))
        where
          go : (x ≡ e) ⊎ (x ≢ e) → Known C conflict.holds x → (C x ≡ true → InCircuit B e x) × (InCircuit B e x → C x ≡ true)
          go (inl q) known = itself x q
          go (inr ne) known = one C conflict.holds x xl ne known (conflict.out x xl ne) (conflict.back x xl ne)

      pub conflict-circuit : (x : ℕ) → x < n → (C x ≡ true → InCircuit B e x) × (InCircuit B e x → C x ≡ true)
      conflict-circuit x xl = from_last n x xl (omega arith)

      -- ---- a conflict set is dependent, and its parts are not
      members : (x : ℕ) → x < n → C x ≡ true → with_one B e x ≡ true
      members x xl h = elim ((conflict-circuit x xl).0 h) [
        | inl q ↦ subst (λ i. with_one B e i ≡ true) (sym q) (with_one-new B e)
        | inr m ↦ with_one-member B e x m.0
      ]

      pub parts-free : (D : ℕ → Bool) (x : ℕ) → IsWithin n D C → x < n → C x ≡ true → D x ≡ false → Free D
      parts-free D x within xl xc xout = elim ((conflict-circuit x xl).0 xc) [
        | inl q ↦ T.within D B (λ j jl h. with_one-other B e j (members j jl (within j jl h)) (λ k. differ xout (subst (λ i. D i ≡ true) (k ∙ sym q) h)))
            first.free
        | inr m ↦ T.within D (with_one (without B x) e) (λ j jl h. elim (nat_cases j e) [
          | inl q ↦ subst (λ i. with_one (without B x) e i ≡ true) (sym q) (with_one-new (without B x) e)
          | inr jne ↦ with_one-member (without B x) e j (member-without B x j (with_one-other B e j (members j jl (within j jl h)) jne)
              (λ q. differ xout (subst (λ i. D i ≡ true) q h)))
        ]) m.1
      ]

      pub conflict-tied : Free C → ⊥
      conflict-tied free = go (swap n Free T B C e el e_out first.free tied (λ j jl h. members j jl h) conflict.holds free)
        where
          go : Swaps n Free T B C e → ⊥
          go (z, zl, zb, zout, zfree) = differ zout ((conflict-circuit z zl).1 (inr (zb, zfree)))

      pub conflict-rank : (r : ℕ) → IsLargest n Free C r → r + 1 ≡ size_on C n
      conflict-rank r L = omega (
        arith,
        size-shrunk n C e el conflict.holds,
        L.greatest (without C e) (λ j _ h. (without-member C e j h).0)
            (parts-free (without C e) e (λ j _ h. (without-member C e j h).0) el conflict.holds (without-same C e)),
        L.reached.3,
        size_on-within C L.reached.0 n L.reached.1,
        not_all,
      )
        where
          not_all : r ≢ size_on C n
          not_all q = conflict-tied (T.within C L.reached.0 (full n L.reached.0 C L.reached.1 (L.reached.3 ∙ q)) L.reached.2)

  -- ---- one first base of everything
  module _ (B : ℕ → Bool) (first : First everything B) where
    base-largest : IsLargest n Free everything (size_on B n)
    base-largest = spanning-largest n Free T everything B (λ _ _ _. refl) first.free
        (λ y yl _ out. dependent (λ j. B j && ltb j y) B y (λ j _ h. both-first (B j) (ltb j y) h) (first.spans y yl refl out))

    pub other-tied : (e : ℕ) → e < n → B e ≡ false → Free (with_one B e) → ⊥
    other-tied e el out = dependent (λ j. B j && ltb j e) B e (λ j _ h. both-first (B j) (ltb j e) h) (first.spans e el refl out)

    pub first-without : (e : ℕ) → B e ≡ false → First (without everything e) B
    first-without e out = record {
      inside = λ j _ h. member-without everything e j refl (λ q. differ out (subst (λ i. B i ≡ true) q h));
      free = first.free;
      spans = λ y yl _ yout. first.spans y yl refl yout;
    }

    pub other-surplus : (e : ℕ) → e < n → B e ≡ false → Surplus everything e
    other-surplus e el out = (
      size_on B n,
      base-largest,
      record {
        reached = (B, (first-without e out).inside, first.free, refl);
        greatest = λ Y within free. base-largest.greatest Y (λ _ _ _. refl) free;
      },
    )

    -- ---- a member e of the base
    module _ (e : ℕ) (el : e < n) (held : B e ≡ true) where
      -- the first number outside whose circuit holds e
      abbrev pub FirstCircuit : ℕ → Type 0
      FirstCircuit f = (f < n) × (B f ≡ false) × Free (with_one (without B e) f)
          × ((g : ℕ) → g < f → B g ≡ false → Free (with_one (without B e) g) → ⊥)

      search_first : (k : ℕ) → k ≤ n → ((f : ℕ) × FirstCircuit f) ⊎ ((g : ℕ) → g < k → B g ≡ false → Free (with_one (without B e) g) → ⊥)
      search_first zero le = inr (λ g l. absurd (omega arith))
      search_first (suc k) le = go (search_first k (omega arith)) (B k) refl (T.decided (with_one (without B e) k))
        where
          go : ((f : ℕ) × FirstCircuit f) ⊎ ((g : ℕ) → g < k → B g ≡ false → Free (with_one (without B e) g) → ⊥) → (b : Bool) → B k ≡ b →
              Free (with_one (without B e) k) ⊎ (Free (with_one (without B e) k) → ⊥) →
              ((f : ℕ) × FirstCircuit f) ⊎ ((g : ℕ) → g < suc k → B g ≡ false → Free (with_one (without B e) g) → ⊥)
          go (inl found) b q d = inl found
          go (inr none) true q d = inr (λ g gl out. elim (nat_cases g k) [
            | inl same ↦ absurd (differ out (subst (λ i. B i ≡ true) (sym same) q))
            | inr ne ↦ none g (omega arith) out
          ])
          go (inr none) false q (inl free) = inl (k, (omega arith, q, free, none))
          go (inr none) false q (inr never) = inr (λ g gl out free. elim (nat_cases g k) [
            | inl same ↦ never (subst (λ i. Free (with_one (without B e) i)) same free)
            | inr ne ↦ none g (omega arith) out free
          ])

      pub first_circuit : Surplus everything e → (f : ℕ) × FirstCircuit f
      first_circuit (r, R, S) = elim (search_first n (omega arith)) [
        | inl found ↦ found
        | inr none ↦ absurd (omega (
          arith,
          largest-unique n Free everything r (size_on B n) R base-largest,
          largest-unique n Free (without everything e) r (size_on (without B e) n) S
              (spanning-largest n Free T (without everything e) (without B e)
              (λ j _ h. member-without everything e j refl (without-member B e j h).1)
              (T.within (without B e) B (λ j _ h. (without-member B e j h).0) first.free)
              (λ y yl h out. none y yl (not_true (B y) (λ k. differ out (member-without B e y k (without-member everything e y h).1))))),
          size-shrunk n B e el held,
        ))
      ]

      -- the base with the first such number in place of e
      module _ (f : ℕ) (fl : f < n) (out : B f ≡ false) (free : Free (with_one (without B e) f))
          (before : (g : ℕ) → g < f → B g ≡ false → Free (with_one (without B e) g) → ⊥) where
        f_not_e : f ≢ e
        f_not_e q = differ out (subst (λ i. B i ≡ true) (sym q) held)

        -- f depends on those of the base before it, so e is one of them
        e_before : e < f
        e_before = elim (lt_cases e f) [
          | inl l ↦ l
          | inr ge ↦ absurd (first.spans f fl refl out (T.within (with_one (λ j. B j && ltb j f) f) (with_one (without B e) f)
              (grown-within n (λ j. B j && ltb j f) (without B e) f (λ j _ h. member-without B e j (both-first (B j) (ltb j f) h)
              (λ q. let k : j < f = less_from j f (both-second (B j) (ltb j f) h) in absurd (omega arith)))) free))
        ]

        -- a number outside before f depends on the base without e before it
        spans-before : (y : ℕ) → y < n → y < f → B y ≡ false → Free (with_one (λ j. with_one (without B e) f j && ltb j y) y) → ⊥
        spans-before y yl less yout grown = go (lt_cases e y)
          where
            to_base : (j : ℕ) → with_one (without B e) f j && ltb j y ≡ true → without B e j ≡ true
            to_base j h = with_one-other (without B e) f j (both-first (with_one (without B e) f j) (ltb j y) h)
                (λ q. let k : j < y = less_from j y (both-second (with_one (without B e) f j) (ltb j y) h) in absurd (omega arith))

            of_base : (j : ℕ) → B j ≡ true → j ≢ e → j < y → with_one (λ j. with_one (without B e) f j && ltb j y) y j ≡ true
            of_base j h ne l = with_one-member (λ j. with_one (without B e) f j && ltb j y) y j
                (both_true (with_one (without B e) f j) (ltb j y) (with_one-member (without B e) f j (member-without B e j h ne)) (less_true j y l))

            inside : IsWithin n (with_one (λ j. with_one (without B e) f j && ltb j y) y) (with_one B y)
            inside = grown-within n (λ j. with_one (without B e) f j && ltb j y) B y (λ j _ h. (without-member B e j (to_base j h)).0)

            clash : Swaps n Free T B (with_one (λ j. with_one (without B e) f j && ltb j y) y) y → ⊥
            clash (z, zl, zb, zout, zfree) = elim (nat_cases z e) [
              | inl q ↦ before y less yout (subst (λ i. Free (with_one (without B i) y)) q zfree)
              | inr ne ↦ elim (lt_cases z y) [
                | inl l ↦ differ zout (of_base z zb ne l)
                | inr ge ↦ first.spans y yl refl yout (T.within (with_one (λ j. B j && ltb j y) y) (with_one (without B z) y)
                    (grown-within n (λ j. B j && ltb j y) (without B z) y (λ j _ h. member-without B z j (both-first (B j) (ltb j y) h)
                    (λ q. let k : j < y = less_from j y (both-second (B j) (ltb j y) h) in absurd (omega arith)))) zfree)
              ]
            ]

            go : (e < y) ⊎ (y ≤ e) → ⊥
            go (inl l) = clash (swap n Free T B (with_one (λ j. with_one (without B e) f j && ltb j y) y) y yl yout first.free (other-tied y yl yout) inside
                (with_one-new (λ j. with_one (without B e) f j && ltb j y) y) grown)
            go (inr ge) = first.spans y yl refl yout (T.within (with_one (λ j. B j && ltb j y) y) (with_one (λ j. with_one (without B e) f j && ltb j y) y)
                (grown-within n (λ j. B j && ltb j y) (λ j. with_one (without B e) f j && ltb j y) y (λ j _ h. both_true (with_one (without B e) f j) (ltb j y)
                (with_one-member (without B e) f j (member-without B e j (both-first (B j) (ltb j y) h)
                (λ q. let k : j < y = less_from j y (both-second (B j) (ltb j y) h) in absurd (omega arith)))) (both-second (B j) (ltb j y) h))) grown)

        -- and so does a number outside after f
        spans-after : (y : ℕ) → y < n → f < y → B y ≡ false → Free (with_one (λ j. with_one (without B e) f j && ltb j y) y) → ⊥
        spans-after y yl more yout grown = clash (T.exchange (λ j. B j && ltb j y) (with_one (λ j. with_one (without B e) f j && ltb j y) y)
            (T.within (λ j. B j && ltb j y) B (λ j _ h. both-first (B j) (ltb j y) h) first.free) grown sizes)
          where
            -- the base before y, without e and with f
            covered : IsWithin n (with_one (without (λ j. B j && ltb j y) e) f) (λ j. with_one (without B e) f j && ltb j y)
            covered = within-grown n (without (λ j. B j && ltb j y) e) (λ j. with_one (without B e) f j && ltb j y) f
                (λ j _ h. let w : (B j && ltb j y ≡ true) × (j ≢ e) = without-member (λ j. B j && ltb j y) e j h in
                both_true (with_one (without B e) f j) (ltb j y)
                (with_one-member (without B e) f j (member-without B e j (both-first (B j) (ltb j y) w.0) w.1)) (both-second (B j) (ltb j y) w.0))
                (both_true (with_one (without B e) f f) (ltb f y) (with_one-new (without B e) f) (less_true f y more))

            y_out : with_one (without B e) f y && ltb y y ≡ false
            y_out = not_true (with_one (without B e) f y && ltb y y)
                (λ h. let k : y < y = less_from y y (both-second (with_one (without B e) f y) (ltb y y) h) in omega arith)

            f_out : without (λ j. B j && ltb j y) e f ≡ false
            f_out = not_true (without (λ j. B j && ltb j y) e f)
                (λ h. differ out (both-first (B f) (ltb f y) (without-member (λ j. B j && ltb j y) e f h).0))

            sizes : size_on (λ j. B j && ltb j y) n < size_on (with_one (λ j. with_one (without B e) f j && ltb j y) y) n
            sizes = omega (
              arith,
              size-grown n (λ j. with_one (without B e) f j && ltb j y) y yl y_out,
              size_on-within (λ j. with_one (without B e) f j && ltb j y) (with_one (without (λ j. B j && ltb j y) e) f) n covered,
              size-grown n (without (λ j. B j && ltb j y) e) f fl f_out,
              size-shrunk n (λ j. B j && ltb j y) e el (both_true (B e) (ltb e y) held (less_true e y (omega (arith, e_before)))),
            )

            clash : (z : ℕ) × (z < n) × (with_one (λ j. with_one (without B e) f j && ltb j y) y z ≡ true) × (B z && ltb z y ≡ false)
                × Free (with_one (λ j. B j && ltb j y) z) → ⊥
            clash (z, zl, zh, zout, zfree) = elim (nat_cases z y) [
              | inl q ↦ first.spans y yl refl yout (subst (λ i. Free (with_one (λ j. B j && ltb j y) i)) q zfree)
              | inr zne ↦ elim (nat_cases z f) [
                | inl q ↦ dependent (λ j. B j && ltb j f) (λ j. B j && ltb j y) f (λ j _ h. both_true (B j) (ltb j y) (both-first (B j) (ltb j f) h)
                    (less_true j y (let k : j < f = less_from j f (both-second (B j) (ltb j f) h) in omega arith)))
                    (first.spans f fl refl out) (subst (λ i. Free (with_one (λ j. B j && ltb j y) i)) q zfree)
                | inr fne ↦ differ zout (both_true (B z) (ltb z y)
                    (without-member B e z (with_one-other (without B e) f z (both-first (with_one (without B e) f z) (ltb z y) (in_N zne)) fne)).0
                    (both-second (with_one (without B e) f z) (ltb z y) (in_N zne)))
              ]
            ]
              where
                in_N : z ≢ y → with_one (without B e) f z && ltb z y ≡ true
                in_N zne = with_one-other (λ j. with_one (without B e) f j && ltb j y) y z zh zne

        pub replaced-first : First (without everything e) (with_one (without B e) f)
        replaced-first = record {
          inside = λ j _ h. member-without everything e j refl (λ q. elim (nat_cases j f) [
            | inl k ↦ f_not_e (sym k ∙ q)
            | inr ne ↦ (without-member B e j (with_one-other (without B e) f j h ne)).1 q
          ]);
          free = free;
          spans = λ y yl yo yout. elim (lt_cases y f) [
            | inl l ↦ spans-before y yl l (outside y yo yout)
            | inr ge ↦ spans-after y yl (omega (arith, not_f y yout)) (outside y yo yout)
          ];
        }
          where
            not_f : (y : ℕ) → with_one (without B e) f y ≡ false → y ≢ f
            not_f y yout q = differ yout (subst (λ i. with_one (without B e) f i ≡ true) (sym q) (with_one-new (without B e) f))

            outside : (y : ℕ) → without everything e y ≡ true → with_one (without B e) f y ≡ false → B y ≡ false
            outside y yo yout = not_true (B y)
                (λ h. differ yout (with_one-member (without B e) f y (member-without B e y h (without-member everything e y yo).1)))

        pub replaced-tied : Free (with_one (with_one (without B e) f) e) → ⊥
        replaced-tied grown = other-tied f fl out
            (T.within (with_one B f) (with_one (with_one (without B e) f) e) (within-grown n B (with_one (with_one (without B e) f) e) f
            (λ j _ h. elim (nat_cases j e) [
              | inl q ↦ subst (λ i. with_one (with_one (without B e) f) e i ≡ true) (sym q) (with_one-new (with_one (without B e) f) e)
              | inr ne ↦ with_one-member (with_one (without B e) f) e j (with_one-member (without B e) f j (member-without B e j h ne))
            ]) (with_one-member (with_one (without B e) f) e f (with_one-new (without B e) f))) grown)

        -- the circuit of e in the new base is that of f in the old one
        pub same-circuit : (x : ℕ) → x < n →
            ((InCircuit (with_one (without B e) f) e x → InCircuit B f x) × (InCircuit B f x → InCircuit (with_one (without B e) f) e x))
        same-circuit x xl = (there, back)
          where
            there : InCircuit (with_one (without B e) f) e x → InCircuit B f x
            there (inl q) = inr ((subst (λ i. B i ≡ true) (sym q) held), subst (λ i. Free (with_one (without B i) f)) (sym q) free)
            there (inr m) = elim (nat_cases x f) [
              | inl q ↦ inl q
              | inr ne ↦ inr (
                (without-member B e x (with_one-other (without B e) f x m.0 ne)).0,
                T.within (with_one (without B x) f) (with_one (without (with_one (without B e) f) x) e)
                    (within-grown n (without B x) (with_one (without (with_one (without B e) f) x) e) f (λ j _ h. moved j h)
                    (with_one-member (without (with_one (without B e) f) x) e f
                    (member-without (with_one (without B e) f) x f (with_one-new (without B e) f) (λ q. ne (sym q))))) m.1,
              )
            ]
              where
                moved : (j : ℕ) → without B x j ≡ true → with_one (without (with_one (without B e) f) x) e j ≡ true
                moved j h = elim (nat_cases j e) [
                  | inl q ↦ subst (λ i. with_one (without (with_one (without B e) f) x) e i ≡ true) (sym q)
                      (with_one-new (without (with_one (without B e) f) x) e)
                  | inr jne ↦ with_one-member (without (with_one (without B e) f) x) e j (member-without (with_one (without B e) f) x j
                      (with_one-member (without B e) f j (member-without B e j (without-member B x j h).0 jne)) (without-member B x j h).1)
                ]

            back : InCircuit B f x → InCircuit (with_one (without B e) f) e x
            back (inl q) = inr (
              (subst (λ i. with_one (without B e) f i ≡ true) (sym q) (with_one-new (without B e) f)),
              T.within (with_one (without (with_one (without B e) f) x) e) B (within-grown n (without (with_one (without B e) f) x) B e
                  (λ j _ h. let w : (with_one (without B e) f j ≡ true) × (j ≢ x) = without-member (with_one (without B e) f) x j h in
                  (without-member B e j (with_one-other (without B e) f j w.0 (λ k. w.1 (k ∙ sym q)))).0) held) first.free,
            )
            back (inr m) = elim (nat_cases x e) [
              | inl q ↦ inl q
              | inr ne ↦ inr (
                with_one-member (without B e) f x (member-without B e x m.0 ne),
                T.within (with_one (without (with_one (without B e) f) x) e) (with_one (without B x) f)
                    (within-grown n (without (with_one (without B e) f) x) (with_one (without B x) f) e (λ j _ h. moved j h)
                    (with_one-member (without B x) f e (member-without B x e held (λ q. ne (sym q))))) m.1,
              )
            ]
              where
                moved : (j : ℕ) → without (with_one (without B e) f) x j ≡ true → with_one (without B x) f j ≡ true
                moved j h = elim (nat_cases j f) [
                  | inl q ↦ subst (λ i. with_one (without B x) f i ≡ true) (sym q) (with_one-new (without B x) f)
                  | inr jne ↦ with_one-member (without B x) f j (member-without B x j
                      (without-member B e j (with_one-other (without B e) f j (without-member (with_one (without B e) f) x j h).0 jne)).0
                      (without-member (with_one (without B e) f) x j h).1)
                ]
