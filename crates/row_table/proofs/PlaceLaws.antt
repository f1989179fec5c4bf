-- Where the columns of [P | S] stand, and an exchange of two of them.
use Rattle.std.proofs.Common.{◌≡◌, ℕ, ◌+◌, ◌*◌, ◌%◌, ◌<◌, ◌≢◌, Bool, true, false, cond, eqb, ◌⊎◌, inl, inr, refl, ap, sym, subst, ◌∙◌, arith}
use Rattle.std.proofs.lemmas.Bool.Decides.{nat_tests}
use Rattle.residue_theory.proofs.SumLaws.{nat_cases}
use Rattle.linear_algebra.specs.Products.{identity}
use Rattle.linear_algebra_laws.proofs.Entries.{identity-same, identity-other}
use Rattle.row_table.specs.Reductions.{IsReduced}
use Rattle.row_table.specs.Places.{Places, HaveSlots, whole, exchanged, with_unit}

differ : {b : Bool} → b ≡ true → b ≡ false → ⊥
differ e h = cc

pub if_same : {A : Type 0} (i r : ℕ) (x y : A) → i ≡ r → cond (eqb i r) x y ≡ x
if_same i r x y e = grind (arith, nat_tests)

pub if_other : {A : Type 0} (i r : ℕ) (x y : A) → i ≢ r → cond (eqb i r) x y ≡ y
if_other i r x y ne = grind (arith, nat_tests)

module _ (m n all : ℕ) (s : Places) (r v : ℕ) (placed : HaveSlots m n all s) (rl : r < m) (vl : v < all)
    (free : s.is_unit v ≡ false) where
  -- the column that leaves
  abbrev gone : ℕ
  gone = s.basic r

  abbrev now : Places
  now = exchanged s r v

  gone-other : gone ≢ v
  gone-other q = differ (sym (ap s.is_unit q) ∙ placed.basic_unit r rl) free

  unit-enters : (c : ℕ) → c ≡ v → now.is_unit c ≡ true
  unit-enters c e = if_same c v true _ e

  unit-leaves : (c : ℕ) → c ≡ gone → now.is_unit c ≡ false
  unit-leaves c e = if_other c v true _ (λ q. gone-other (sym e ∙ q)) ∙ if_same c gone false _ e

  unit-stays : (c : ℕ) → c ≢ v → c ≢ gone → now.is_unit c ≡ s.is_unit c
  unit-stays c ne other = if_other c v true _ ne ∙ if_other c gone false _ other

  -- a unit column now, and one that is none now
  units : (c : ℕ) → now.is_unit c ≡ true → (c ≡ v) ⊎ ((c ≢ v) × (c ≢ gone) × (s.is_unit c ≡ true))
  units c h = elim (nat_cases c v) [
    | inl q ↦ inl q
    | inr ne ↦ elim (nat_cases c gone) [
      | inl q ↦ absurd (differ h (unit-leaves c q))
      | inr other ↦ inr (ne, other, sym (unit-stays c ne other) ∙ h)
    ]
  ]

  others : (c : ℕ) → now.is_unit c ≡ false → (c ≡ gone) ⊎ ((c ≢ v) × (c ≢ gone) × (s.is_unit c ≡ false))
  others c h = elim (nat_cases c v) [
    | inl q ↦ absurd (differ (unit-enters c q) h)
    | inr ne ↦ elim (nat_cases c gone) [
      | inl q ↦ inl q
      | inr other ↦ inr (ne, other, sym (unit-stays c ne other) ∙ h)
    ]
  ]

  row-enters : (c : ℕ) → c ≡ v → now.row c ≡ r
  row-enters c e = if_same c v r _ e

  row-stays : (c : ℕ) → c ≢ v → now.row c ≡ s.row c
  row-stays c ne = if_other c v r _ ne

  slot-leaves : (c : ℕ) → c ≡ gone → now.slot c ≡ s.slot v
  slot-leaves c e = if_same c gone (s.slot v) _ e

  slot-stays : (c : ℕ) → c ≢ gone → now.slot c ≡ s.slot c
  slot-stays c ne = if_other c gone (s.slot v) _ ne

  basic-here : (i : ℕ) → i ≡ r → now.basic i ≡ v
  basic-here i e = if_same i r v _ e

  basic-stays : (i : ℕ) → i ≢ r → now.basic i ≡ s.basic i
  basic-stays i ne = if_other i r v _ ne

  -- the unit columns of other rows are neither
  basic-other : (i : ℕ) → i < m → i ≢ r → (s.basic i ≢ v) × (s.basic i ≢ gone)
  basic-other i il ne = (
    λ q. differ (sym (ap s.is_unit q) ∙ placed.basic_unit i il) free,
    λ q. ne (sym (placed.basic_row i il) ∙ ap s.row q ∙ placed.basic_row r rl),
  )

  row-other : (c : ℕ) → c < all → s.is_unit c ≡ true → c ≢ gone → s.row c ≢ r
  row-other c cl h ne q = ne (sym (placed.row_basic c cl h) ∙ ap s.basic q)

  pub exchanged-placed : HaveSlots m n all (exchanged s r v)
  exchanged-placed = record {
    basic_below = λ i il. elim (nat_cases i r) [
      | inl q ↦ subst (λ c. c < all) (sym (basic-here i q)) vl
      | inr ne ↦ subst (λ c. c < all) (sym (basic-stays i ne)) (placed.basic_below i il)
    ];
    basic_unit = λ i il. elim (nat_cases i r) [
      | inl q ↦ unit-enters (now.basic i) (basic-here i q)
      | inr ne ↦ ap now.is_unit (basic-stays i ne)
          ∙ unit-stays (s.basic i) (basic-other i il ne).0 (basic-other i il ne).1 ∙ placed.basic_unit i il
    ];
    basic_row = λ i il. elim (nat_cases i r) [
      | inl q ↦ row-enters (now.basic i) (basic-here i q) ∙ sym q
      | inr ne ↦ ap now.row (basic-stays i ne) ∙ row-stays (s.basic i) (basic-other i il ne).0 ∙ placed.basic_row i il
    ];
    row_below = λ c cl h. elim (units c h) [
      | inl q ↦ subst (λ i. i < m) (sym (row-enters c q)) rl
      | inr w ↦ subst (λ i. i < m) (sym (row-stays c w.0)) (placed.row_below c cl w.2)
    ];
    row_basic = λ c cl h. elim (units c h) [
      | inl q ↦ basic-here (now.row c) (row-enters c q) ∙ sym q
      | inr w ↦ ap now.basic (row-stays c w.0) ∙ basic-stays (s.row c) (row-other c cl w.2 w.1)
          ∙ placed.row_basic c cl w.2
    ];
    slot_below = λ c cl h. elim (others c h) [
      | inl q ↦ subst (λ i. i < n) (sym (slot-leaves c q)) (placed.slot_below v vl free)
      | inr w ↦ subst (λ i. i < n) (sym (slot-stays c w.1)) (placed.slot_below c cl w.2)
    ];
    apart = λ c d cl dl ch dh e. both c d cl dl e (others c ch) (others d dh);
  }
    where
      both : (c d : ℕ) → c < all → d < all → now.slot c ≡ now.slot d →
          (c ≡ gone) ⊎ ((c ≢ v) × (c ≢ gone) × (s.is_unit c ≡ false)) →
          (d ≡ gone) ⊎ ((d ≢ v) × (d ≢ gone) × (s.is_unit d ≡ false)) → c ≡ d
      both c d cl dl e (inl q) (inl w) = q ∙ sym w
      both c d cl dl e (inl q) (inr w) =
          absurd (w.0 (placed.apart d v dl vl w.2 free (sym (slot-stays d w.1) ∙ sym e ∙ slot-leaves c q)))
      both c d cl dl e (inr q) (inl w) =
          absurd (q.0 (placed.apart c v cl vl q.2 free (sym (slot-stays c q.1) ∙ e ∙ slot-leaves d w)))
      both c d cl dl e (inr q) (inr w) = placed.apart c d cl dl q.2 w.2 (sym (slot-stays c q.1) ∙ e ∙ slot-stays d w.1)

pub whole-unit : (s : Places) (a : ℕ → ℕ → ℕ) (i c : ℕ) → s.is_unit c ≡ true → whole s a i c ≡ identity i (s.row c)
whole-unit s a i c h = ap (λ b. cond b (identity i (s.row c)) (a i (s.slot c))) h

pub whole-slot : (s : Places) (a : ℕ → ℕ → ℕ) (i c : ℕ) → s.is_unit c ≡ false → whole s a i c ≡ a i (s.slot c)
whole-slot s a i c h = ap (λ b. cond b (identity i (s.row c)) (a i (s.slot c))) h

-- one column of matrices that are reduced
record IsColumnReduced (p m : ℕ) (x y : ℕ → ℕ) (r : ℕ) (k : ℕ → ℕ) : Type 0 where
  here : x r % p ≡ k r * y r % p
  others : (i : ℕ) → i < m → i ≢ r → x i % p ≡ (y i + k i * y r) % p

module _ (p m n all : ℕ) (s : Places) (a b : ℕ → ℕ → ℕ) (r v : ℕ) (placed : HaveSlots m n all s) (rl : r < m)
    (vl : v < all) (free : s.is_unit v ≡ false)
    (reduced : IsReduced p m n (with_unit a r (s.slot v)) b r (λ i. a i (s.slot v))) where
  abbrev after : Places
  after = exchanged s r v

  abbrev factor : ℕ → ℕ
  factor i = whole s a i v

  abbrev Column : ℕ → Type 0
  Column c = IsColumnReduced p m (λ i. whole s a i c) (λ i. whole after b i c) r factor

  factor-is : (i : ℕ) → factor i ≡ a i (s.slot v)
  factor-is i = whole-slot s a i v free

  -- a column whose entries are known
  known : (c : ℕ) (x y : ℕ → ℕ) → ((i : ℕ) → whole s a i c ≡ x i) → ((i : ℕ) → whole after b i c ≡ y i) →
      x r % p ≡ a r (s.slot v) * y r % p → ((i : ℕ) → i < m → i ≢ r → x i % p ≡ (y i + a i (s.slot v) * y r) % p) →
      Column c
  known c x y xs ys here others = record {
    here = ap (λ e. e % p) (xs r) ∙ here ∙ ap (λ e. e % p) (ap (λ k. k * y r) (sym (factor-is r))
        ∙ ap (λ e. factor r * e) (sym (ys r)));
    others = λ i il ne. ap (λ e. e % p) (xs i) ∙ others i il ne
        ∙ ap (λ e. e % p) (ap (λ k. y i + k * y r) (sym (factor-is i)) ∙ ap (λ e. e + factor i * y r) (sym (ys i))
        ∙ ap (λ e. whole after b i c + factor i * e) (sym (ys r)));
  }

  -- the entering column
  enters : (c : ℕ) → c ≡ v → Column c
  enters c e = known c (λ i. a i (s.slot v)) (λ i. identity i r)
      (λ i. ap (λ d. whole s a i d) e ∙ whole-slot s a i v free)
      (λ i. whole-unit after b i c (unit-enters m n all s r v placed rl vl free c e)
      ∙ ap (λ t. identity i t) (row-enters m n all s r v placed rl vl free c e))
      (ap (λ y. y % p) (let q : a r (s.slot v) ≡ a r (s.slot v) * 1 = omega arith in q
      ∙ ap (λ y. a r (s.slot v) * y) (sym (identity-same r))))
      (λ i il ne. ap (λ y. y % p) (let q : a i (s.slot v) ≡ 0 + a i (s.slot v) * 1 = omega arith in q
      ∙ ap (λ y. y + a i (s.slot v) * 1) (sym (identity-other i r ne))
      ∙ ap (λ y. identity i r + a i (s.slot v) * y) (sym (identity-same r))))

  -- the leaving one
  leaves : (c : ℕ) → c ≡ s.basic r → Column c
  leaves c e = known c (λ i. with_unit a r (s.slot v) i (s.slot v)) (λ i. b i (s.slot v))
      (λ i. ap (λ d. whole s a i d) e ∙ whole-unit s a i (s.basic r) (placed.basic_unit r rl)
      ∙ ap (λ t. identity i t) (placed.basic_row r rl)
      ∙ sym (if_same (s.slot v) (s.slot v) (identity i r) (a i (s.slot v)) refl))
      (λ i. whole-slot after b i c (unit-leaves m n all s r v placed rl vl free c e)
      ∙ ap (λ t. b i t) (slot-leaves m n all s r v placed rl vl free c e))
      (reduced.here (s.slot v) (placed.slot_below v vl free))
      (λ i il ne. reduced.others i (s.slot v) il (placed.slot_below v vl free) ne)

  -- a column that stays the unit column of another row
  stays-unit : (c : ℕ) → c < all → c ≢ v → c ≢ s.basic r → s.is_unit c ≡ true → Column c
  stays-unit c cl ne other unit = known c (λ i. identity i (s.row c)) (λ i. identity i (s.row c))
      (λ i. whole-unit s a i c unit)
      (λ i. whole-unit after b i c (unit-stays m n all s r v placed rl vl free c ne other ∙ unit)
      ∙ ap (λ t. identity i t) (row-stays m n all s r v placed rl vl free c ne))
      (ap (λ y. y % p) (zero_here ∙ (let q : 0 ≡ a r (s.slot v) * 0 = omega arith in q)
      ∙ ap (λ y. a r (s.slot v) * y) (sym zero_here)))
      (λ i il apart. ap (λ y. y % p) ((let q : identity i (s.row c) ≡ identity i (s.row c) + a i (s.slot v) * 0 =
      omega arith in q) ∙ ap (λ y. identity i (s.row c) + a i (s.slot v) * y) (sym zero_here)))
    where
      zero_here : identity r (s.row c) ≡ 0
      zero_here = identity-other r (s.row c) (λ q. row-other m n all s r v placed rl vl free c cl unit other (sym q))

  -- a column that stays in its slot
  stays : (c : ℕ) → c < all → c ≢ v → c ≢ s.basic r → s.is_unit c ≡ false → Column c
  stays c cl ne other unit = known c (λ i. with_unit a r (s.slot v) i (s.slot c)) (λ i. b i (s.slot c))
      (λ i. whole-slot s a i c unit
      ∙ sym (if_other (s.slot c) (s.slot v) (identity i r) (a i (s.slot c))
      (λ q. ne (placed.apart c v cl vl unit free q))))
      (λ i. whole-slot after b i c (unit-stays m n all s r v placed rl vl free c ne other ∙ unit)
      ∙ ap (λ t. b i t) (slot-stays m n all s r v placed rl vl free c other))
      (reduced.here (s.slot c) (placed.slot_below c cl unit))
      (λ i il apart. reduced.others i (s.slot c) il (placed.slot_below c cl unit) apart)

  bool_cases : (x : Bool) → (x ≡ true) ⊎ (x ≡ false)
  bool_cases true = inl refl
  bool_cases false = inr refl

  each : (c : ℕ) → c < all → Column c
  each c cl = elim (nat_cases c v) [
    | inl q ↦ enters c q
    | inr ne ↦ elim (nat_cases c (s.basic r)) [
      | inl q ↦ leaves c q
      | inr other ↦ elim (bool_cases (s.is_unit c)) [
        | inl unit ↦ stays-unit c cl ne other unit
        | inr unit ↦ stays c cl ne other unit
      ]
    ]
  ]

  pub exchanged-reduced : IsReduced p m all (whole s a) (whole (exchanged s r v) b) r (λ i. whole s a i v)
  exchanged-reduced = record {
    here = λ c cl. (each c cl).here;
    others = λ i c il cl ne. (each c cl).others i il ne;
  }
