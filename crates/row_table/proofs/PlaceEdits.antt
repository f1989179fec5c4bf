-- Places that gain or lose a row or a column.
use Rattle.std.proofs.Common.{◌≡◌, ℕ, ◌+◌, ◌-◌, ◌<◌, ◌≢◌, Bool, true, false, cond, eqb, ◌⊎◌, inl, inr, refl, ap, sym, subst, ◌∙◌, arith}
use Rattle.std.proofs.lemmas.Bool.Decides.{nat_tests}
use Rattle.residue_theory.proofs.SetLaws.{differ, eqb_from}
use Rattle.residue_theory.proofs.SumLaws.{nat_cases}
use Rattle.linear_algebra.specs.Parts.{skip}
use Rattle.linear_algebra.specs.Products.{identity}
use Rattle.linear_algebra_laws.proofs.SkipLaws.{skip-below, skip-other, skip-unskip, unskip, unskip-below, unskip-skip}
use Rattle.row_table.specs.Places.{HaveSlots, Places, last_at, whole}
use Rattle.row_table.specs.PlaceEdits.{ArePlacedAlike, put_in, places_with_last_at, places_with_row, places_without_row, places_with_column}
use Rattle.row_table.specs.PlaceEdits.{places_without_column}

put-here : {A : Type 0} (v : ℕ) (x : A) (f : ℕ → A) → put_in v x f v ≡ x
put-here v x f = ap (λ b. cond b x (f (unskip v v))) (eqb_from v v refl)

put-other : {A : Type 0} (v : ℕ) (x : A) (f : ℕ → A) (c : ℕ) → put_in v x f (skip v c) ≡ f c
put-other v x f c = ap (λ b. cond b x (f (unskip v (skip v c)))) (other (skip v c) v (skip-other v c)) ∙ ap f (unskip-skip v c)
  where
    other : (x y : ℕ) → x ≢ y → eqb x y ≡ false
    other x y ne = grind (arith, nat_tests)

identity-skip : (k i j : ℕ) → identity (skip k i) (skip k j) ≡ identity i j
identity-skip k i j = grind (arith, nat_tests)

-- v, or one of the others
skip_cases : (v c all : ℕ) → v < all + 1 → c < all + 1 → (c ≡ v) ⊎ ((d : ℕ) × (d < all) × (skip v d ≡ c))
skip_cases v c all vl cl = elim (nat_cases c v) [
  | inl q ↦ inl q
  | inr ne ↦ inr (unskip v c, below (unskip v c) (unskip-below v c (all + 1) vl cl ne), skip-unskip v c ne)
]
  where
    below : (l : ℕ) → l < all + 1 - 1 → l < all
    below l ll = omega arith

-- ---- a row leaves with its unit column
module _ (m n all : ℕ) (s : Places) (k : ℕ) (placed : HaveSlots m n all s) (kl : k < m) where
  abbrev v : ℕ
  v = s.basic k

  vl : v < all
  vl = placed.basic_below k kl

  -- other unit columns have other rows
  row-other : (c : ℕ) → c < all → s.is_unit c ≡ true → c ≢ v → s.row c ≢ k
  row-other c cl h ne q = ne (sym (placed.row_basic c cl h) ∙ ap s.basic q)

  basic-other : (i : ℕ) → i < m → i ≢ k → s.basic i ≢ v
  basic-other i il ne q = ne (sym (placed.basic_row i il) ∙ ap s.row q ∙ placed.basic_row k kl)

  at : (i : ℕ) → i < m - 1 → skip v (unskip v (s.basic (skip k i))) ≡ s.basic (skip k i)
  at i il = skip-unskip v (s.basic (skip k i)) (basic-other (skip k i) (skip-below k i m kl il) (skip-other k i))

  within : (c : ℕ) → c < all - 1 → skip v c < all
  within c cl = skip-below v c all vl cl

  pub row-leaves : HaveSlots (m - 1) n (all - 1) (places_without_row k v s)
  row-leaves = record {
    basic_below = λ i il. unskip-below v (s.basic (skip k i)) all vl (placed.basic_below (skip k i) (skip-below k i m kl il))
        (basic-other (skip k i) (skip-below k i m kl il) (skip-other k i));
    basic_unit = λ i il. ap s.is_unit (at i il) ∙ placed.basic_unit (skip k i) (skip-below k i m kl il);
    basic_row = λ i il. ap (λ c. unskip k (s.row c)) (at i il) ∙ ap (λ r. unskip k r) (placed.basic_row (skip k i) (skip-below k i m kl il))
        ∙ unskip-skip k i;
    row_below = λ c cl h. unskip-below k (s.row (skip v c)) m kl (placed.row_below (skip v c) (within c cl) h)
        (row-other (skip v c) (within c cl) h (skip-other v c));
    row_basic = λ c cl h. ap (λ r. unskip v (s.basic r)) (skip-unskip k (s.row (skip v c)) (row-other (skip v c) (within c cl) h (skip-other v c)))
        ∙ ap (λ d. unskip v d) (placed.row_basic (skip v c) (within c cl) h) ∙ unskip-skip v c;
    slot_below = λ c cl h. placed.slot_below (skip v c) (within c cl) h;
    apart = λ c d cl dl ch dh q. sym (unskip-skip v c)
        ∙ ap (λ x. unskip v x) (placed.apart (skip v c) (skip v d) (within c cl) (within d dl) ch dh q) ∙ unskip-skip v d;
  }

  pub row-leaves-whole : (a : ℕ → ℕ → ℕ) (i c : ℕ) → c < all - 1 →
      whole (places_without_row k v s) (λ i j. a (skip k i) j) i c ≡ whole s a (skip k i) (skip v c)
  row-leaves-whole a i c cl = go (s.is_unit (skip v c)) refl
    where
      go : (b : Bool) → s.is_unit (skip v c) ≡ b →
          cond b (identity i (unskip k (s.row (skip v c)))) (a (skip k i) (s.slot (skip v c)))
          ≡ cond b (identity (skip k i) (s.row (skip v c))) (a (skip k i) (s.slot (skip v c)))
      go true h = sym (identity-skip k i (unskip k (s.row (skip v c))))
          ∙ ap (λ r. identity (skip k i) r) (skip-unskip k (s.row (skip v c)) (row-other (skip v c) (within c cl) h (skip-other v c)))
      go false h = refl

-- ---- a row joins with its unit column
module _ (m n all : ℕ) (s : Places) (v : ℕ) (placed : HaveSlots m n all s) (vl : v < all + 1) where
  skip-in : (c : ℕ) → c < all → skip v c < all + 1
  skip-in c cl = skip-below v c (all + 1) vl (omega arith)

  basic-at : (i : ℕ) → i < m → cond (eqb i m) v (skip v (s.basic i)) ≡ skip v (s.basic i)
  basic-at i il = ap (λ b. cond b v (skip v (s.basic i))) (other i m (omega arith))
    where
      other : (x y : ℕ) → x < y → eqb x y ≡ false
      other x y l = grind (arith, nat_tests)

  basic-new : cond (eqb m m) v (skip v (s.basic m)) ≡ v
  basic-new = ap (λ b. cond b v (skip v (s.basic m))) (eqb_from m m refl)

  row_cases : (i : ℕ) → i < m + 1 → (i ≡ m) ⊎ (i < m)
  row_cases i il = elim (nat_cases i m) [ inl q ↦ inl q | inr ne ↦ inr (omega arith) ]

  pub row-joins : HaveSlots (m + 1) n (all + 1) (places_with_row m v s)
  row-joins = record {
    basic_below = λ i il. elim (row_cases i il) [
      | inl q ↦ subst (λ i. cond (eqb i m) v (skip v (s.basic i)) < all + 1) (sym q) (subst (λ x. x < all + 1) (sym basic-new) vl)
      | inr l ↦ subst (λ x. x < all + 1) (sym (basic-at i l)) (skip-in (s.basic i) (placed.basic_below i l))
    ];
    basic_unit = λ i il. elim (row_cases i il) [
      | inl q ↦ subst (λ i. put_in v true s.is_unit (cond (eqb i m) v (skip v (s.basic i))) ≡ true) (sym q)
          (ap (λ x. put_in v true s.is_unit x) basic-new ∙ put-here v true s.is_unit)
      | inr l ↦ ap (λ x. put_in v true s.is_unit x) (basic-at i l) ∙ put-other v true s.is_unit (s.basic i) ∙ placed.basic_unit i l
    ];
    basic_row = λ i il. elim (row_cases i il) [
      | inl q ↦ subst (λ i. put_in v m s.row (cond (eqb i m) v (skip v (s.basic i))) ≡ i) (sym q)
          (ap (λ x. put_in v m s.row x) basic-new ∙ put-here v m s.row)
      | inr l ↦ ap (λ x. put_in v m s.row x) (basic-at i l) ∙ put-other v m s.row (s.basic i) ∙ placed.basic_row i l
    ];
    row_below = λ c cl h. elim (skip_cases v c all vl cl) [
      | inl q ↦ subst (λ c. put_in v m s.row c < m + 1) (sym q) (subst (λ x. x < m + 1) (sym (put-here v m s.row)) (omega arith))
      | inr (d, dl, q) ↦ subst (λ c. put_in v m s.row c < m + 1) q (subst (λ x. x < m + 1) (sym (put-other v m s.row d))
          (omega (arith, placed.row_below d dl (unit-of d c q h))))
    ];
    row_basic = λ c cl h. elim (skip_cases v c all vl cl) [
      | inl q ↦ subst (λ c. basic-now (put_in v m s.row c) ≡ c) (sym q) (ap basic-now (put-here v m s.row) ∙ basic-new)
      | inr (d, dl, q) ↦ subst (λ c. basic-now (put_in v m s.row c) ≡ c) q (ap basic-now (put-other v m s.row d)
          ∙ basic-at (s.row d) (placed.row_below d dl (unit-of d c q h)) ∙ ap (λ x. skip v x) (placed.row_basic d dl (unit-of d c q h)))
    ];
    slot_below = λ c cl h. elim (skip_cases v c all vl cl) [
      | inl q ↦ absurd (differ (subst (λ c. put_in v true s.is_unit c ≡ false) q h) (put-here v true s.is_unit))
      | inr (d, dl, q) ↦ subst (λ c. put_in v 0 s.slot c < n) q (subst (λ x. x < n) (sym (put-other v 0 s.slot d))
          (placed.slot_below d dl (other-of d c q h)))
    ];
    apart = λ c g cl gl ch gh q. go_apart c g ch gh q (skip_cases v c all vl cl) (skip_cases v g all vl gl);
  }
    where
      basic-now : ℕ → ℕ
      basic-now i = cond (eqb i m) v (skip v (s.basic i))

      unit-of : (d c : ℕ) → skip v d ≡ c → put_in v true s.is_unit c ≡ true → s.is_unit d ≡ true
      unit-of d c q h = sym (put-other v true s.is_unit d) ∙ ap (λ x. put_in v true s.is_unit x) q ∙ h

      other-of : (d c : ℕ) → skip v d ≡ c → put_in v true s.is_unit c ≡ false → s.is_unit d ≡ false
      other-of d c q h = sym (put-other v true s.is_unit d) ∙ ap (λ x. put_in v true s.is_unit x) q ∙ h

      go_apart : (c g : ℕ) → put_in v true s.is_unit c ≡ false → put_in v true s.is_unit g ≡ false → put_in v 0 s.slot c ≡ put_in v 0 s.slot g →
          (c ≡ v) ⊎ ((d : ℕ) × (d < all) × (skip v d ≡ c)) → (g ≡ v) ⊎ ((d : ℕ) × (d < all) × (skip v d ≡ g)) → c ≡ g
      go_apart c g ch gh q (inl f) _ = absurd (differ (subst (λ c. put_in v true s.is_unit c ≡ false) f ch) (put-here v true s.is_unit))
      go_apart c g ch gh q (inr w) (inl f) = absurd (differ (subst (λ c. put_in v true s.is_unit c ≡ false) f gh) (put-here v true s.is_unit))
      go_apart c g ch gh q (inr (d, dl, e)) (inr (h, hl, f)) = sym e ∙ ap (λ x. skip v x) (placed.apart d h dl hl (other-of d c e ch) (other-of h g f gh)
          (sym (put-other v 0 s.slot d) ∙ ap (λ x. put_in v 0 s.slot x) e ∙ q ∙ ap (λ x. put_in v 0 s.slot x) (sym f) ∙ put-other v 0 s.slot h)) ∙ f

  pub row-joins-whole : (a : ℕ → ℕ → ℕ) (i c : ℕ) → whole (places_with_row m v s) a i (skip v c) ≡ whole s a i c
  row-joins-whole a i c = ap (λ b. cond b (identity i (put_in v m s.row (skip v c))) (a i (put_in v 0 s.slot (skip v c)))) (put-other v true s.is_unit c)
      ∙ ap (λ r. cond (s.is_unit c) (identity i r) (a i (put_in v 0 s.slot (skip v c)))) (put-other v m s.row c)
      ∙ ap (λ l. cond (s.is_unit c) (identity i (s.row c)) (a i l)) (put-other v 0 s.slot c)

  pub row-joins-unit : (a : ℕ → ℕ → ℕ) (i : ℕ) → whole (places_with_row m v s) a i v ≡ identity i m
  row-joins-unit a i = ap (λ b. cond b (identity i (put_in v m s.row v)) (a i (put_in v 0 s.slot v))) (put-here v true s.is_unit)
      ∙ ap (λ r. identity i r) (put-here v m s.row)

-- ---- a column that is no unit column leaves, and the column in the last slot takes its slot
module _ (m n all : ℕ) (s : Places) (v : ℕ) (placed : HaveSlots m n all s) (vl : v < all) (free : s.is_unit v ≡ false) where
  column-in : (c : ℕ) → c < all - 1 → skip v c < all
  column-in c cl = skip-below v c all vl cl

  basic-apart : (i : ℕ) → i < m → s.basic i ≢ v
  basic-apart i il q = differ (subst (λ c. s.is_unit c ≡ false) (sym q) free) (placed.basic_unit i il)

  basic-back : (i : ℕ) → i < m → skip v (unskip v (s.basic i)) ≡ s.basic i
  basic-back i il = skip-unskip v (s.basic i) (basic-apart i il)

  abbrev slot-now : ℕ → ℕ
  slot-now c = cond (eqb (s.slot (skip v c)) (n - 1)) (s.slot v) (s.slot (skip v c))

  -- the column in the last slot, and one in another slot
  slot_cases : (c : ℕ) → ((s.slot (skip v c) ≡ n - 1) × (slot-now c ≡ s.slot v)) ⊎ ((s.slot (skip v c) ≢ n - 1) × (slot-now c ≡ s.slot (skip v c)))
  slot_cases c = elim (nat_cases (s.slot (skip v c)) (n - 1)) [
    | inl q ↦ inl (q, ap (λ b. cond b (s.slot v) (s.slot (skip v c))) (eqb_from (s.slot (skip v c)) (n - 1) q))
    | inr ne ↦ inr (ne, ap (λ b. cond b (s.slot v) (s.slot (skip v c))) (not_same (s.slot (skip v c)) (n - 1) ne))
  ]
    where
      not_same : (x y : ℕ) → x ≢ y → eqb x y ≡ false
      not_same x y ne = grind (arith, nat_tests)

  slot-apart : (c : ℕ) → c < all - 1 → s.is_unit (skip v c) ≡ false → s.slot (skip v c) ≢ s.slot v
  slot-apart c cl h q = skip-other v c (placed.apart (skip v c) v (column-in c cl) vl h free q)

  column-back : (c d : ℕ) → skip v c ≡ skip v d → c ≡ d
  column-back c d q = sym (unskip-skip v c) ∙ ap (λ x. unskip v x) q ∙ unskip-skip v d

  pub column-leaves : HaveSlots m (n - 1) (all - 1) (places_without_column n v s)
  column-leaves = record {
    basic_below = λ i il. unskip-below v (s.basic i) all vl (placed.basic_below i il) (basic-apart i il);
    basic_unit = λ i il. ap s.is_unit (basic-back i il) ∙ placed.basic_unit i il;
    basic_row = λ i il. ap s.row (basic-back i il) ∙ placed.basic_row i il;
    row_below = λ c cl h. placed.row_below (skip v c) (column-in c cl) h;
    row_basic = λ c cl h. ap (λ x. unskip v x) (placed.row_basic (skip v c) (column-in c cl) h) ∙ unskip-skip v c;
    slot_below = λ c cl h. elim (slot_cases c) [
      | inl (q, is) ↦ subst (λ x. x < n - 1) (sym is) (omega (arith, placed.slot_below v vl free, slot-apart c cl h, q))
      | inr (ne, is) ↦ subst (λ x. x < n - 1) (sym is) (omega (arith, placed.slot_below (skip v c) (column-in c cl) h, ne))
    ];
    apart = λ c d cl dl ch dh q. elim (slot_cases c) [
      | inl (last, is) ↦ elim (slot_cases d) [
        | inl (too, _) ↦ column-back c d (placed.apart (skip v c) (skip v d) (column-in c cl) (column-in d dl) ch dh (last ∙ sym too))
        | inr (_, other) ↦ absurd (slot-apart d dl dh (sym other ∙ sym q ∙ is))
      ]
      | inr (_, is) ↦ elim (slot_cases d) [
        | inl (_, last) ↦ absurd (slot-apart c cl ch (sym is ∙ q ∙ last))
        | inr (_, other) ↦ column-back c d (placed.apart (skip v c) (skip v d) (column-in c cl) (column-in d dl) ch dh (sym is ∙ q ∙ other))
      ]
    ];
  }

  pub column-leaves-whole : (a b : ℕ → ℕ → ℕ) → ((i : ℕ) → b i (s.slot v) ≡ a i (n - 1)) → ((i j : ℕ) → j ≢ s.slot v → b i j ≡ a i j) →
      (i c : ℕ) → c < all - 1 → whole (places_without_column n v s) b i c ≡ whole s a i (skip v c)
  column-leaves-whole a b moved stays i c cl = go (s.is_unit (skip v c)) refl
    where
      entry-is : s.is_unit (skip v c) ≡ false → b i (slot-now c) ≡ a i (s.slot (skip v c))
      entry-is h = elim (slot_cases c) [
        | inl (last, is) ↦ ap (b i) is ∙ moved i ∙ ap (a i) (sym last)
        | inr (_, is) ↦ ap (b i) is ∙ stays i (s.slot (skip v c)) (slot-apart c cl h)
      ]

      go : (u : Bool) → s.is_unit (skip v c) ≡ u →
          cond u (identity i (s.row (skip v c))) (b i (slot-now c)) ≡ cond u (identity i (s.row (skip v c))) (a i (s.slot (skip v c)))
      go true h = refl
      go false h = entry-is h

-- ---- a column joins in a slot after the others
module _ (m n all : ℕ) (s : Places) (v : ℕ) (placed : HaveSlots m n all s) (vl : v < all + 1) where
  in-all : (c : ℕ) → c < all → skip v c < all + 1
  in-all c cl = skip-below v c (all + 1) vl (omega arith)

  is-unit : (d c : ℕ) (b : Bool) → skip v d ≡ c → put_in v false s.is_unit c ≡ b → s.is_unit d ≡ b
  is-unit d c b q h = sym (put-other v false s.is_unit d) ∙ ap (λ x. put_in v false s.is_unit x) q ∙ h

  slot-of : (d c : ℕ) → skip v d ≡ c → put_in v n s.slot c ≡ s.slot d
  slot-of d c q = ap (λ x. put_in v n s.slot x) (sym q) ∙ put-other v n s.slot d

  slot-new : (c : ℕ) → c ≡ v → put_in v n s.slot c ≡ n
  slot-new c q = ap (λ x. put_in v n s.slot x) q ∙ put-here v n s.slot

  not-unit : (c : ℕ) → c ≡ v → put_in v false s.is_unit c ≡ true → ⊥
  not-unit c q h = differ (put-here v false s.is_unit) (subst (λ x. put_in v false s.is_unit x ≡ true) q h)

  slots-apart : (c g : ℕ) → put_in v false s.is_unit c ≡ false → put_in v false s.is_unit g ≡ false → put_in v n s.slot c ≡ put_in v n s.slot g →
      (c ≡ v) ⊎ ((d : ℕ) × (d < all) × (skip v d ≡ c)) → (g ≡ v) ⊎ ((d : ℕ) × (d < all) × (skip v d ≡ g)) → c ≡ g
  slots-apart c g ch gh q (inl e) (inl f) = e ∙ sym f
  slots-apart c g ch gh q (inl e) (inr (h, hl, f)) = absurd (omega
      (arith, placed.slot_below h hl (is-unit h g false f gh), slot-of h g f, slot-new c e, q))
  slots-apart c g ch gh q (inr (d, dl, e)) (inl f) = absurd (omega
      (arith, placed.slot_below d dl (is-unit d c false e ch), slot-of d c e, slot-new g f, q))
  slots-apart c g ch gh q (inr (d, dl, e)) (inr (h, hl, f)) =
      sym e ∙ ap (λ x. skip v x) (placed.apart d h dl hl (is-unit d c false e ch) (is-unit h g false f gh) (sym (slot-of d c e) ∙ q ∙ slot-of h g f)) ∙ f

  pub column-joins : HaveSlots m (n + 1) (all + 1) (places_with_column n v s)
  column-joins = record {
    basic_below = λ i il. in-all (s.basic i) (placed.basic_below i il);
    basic_unit = λ i il. put-other v false s.is_unit (s.basic i) ∙ placed.basic_unit i il;
    basic_row = λ i il. put-other v 0 s.row (s.basic i) ∙ placed.basic_row i il;
    row_below = λ c cl h. elim (skip_cases v c all vl cl) [
      | inl q ↦ absurd (not-unit c q h)
      | inr (d, dl, q) ↦ subst (λ c. put_in v 0 s.row c < m) q (subst (λ x. x < m) (sym (put-other v 0 s.row d))
          (placed.row_below d dl (is-unit d c true q h)))
    ];
    row_basic = λ c cl h. elim (skip_cases v c all vl cl) [
      | inl q ↦ absurd (not-unit c q h)
      | inr (d, dl, q) ↦ subst (λ c. skip v (s.basic (put_in v 0 s.row c)) ≡ c) q (ap (λ r. skip v (s.basic r)) (put-other v 0 s.row d)
          ∙ ap (λ x. skip v x) (placed.row_basic d dl (is-unit d c true q h)))
    ];
    slot_below = λ c cl h. elim (skip_cases v c all vl cl) [
      | inl q ↦ omega (arith, slot-new c q)
      | inr (d, dl, q) ↦ omega (arith, slot-of d c q, placed.slot_below d dl (is-unit d c false q h))
    ];
    apart = λ c g cl gl ch gh q. slots-apart c g ch gh q (skip_cases v c all vl cl) (skip_cases v g all vl gl);
  }

  pub column-joins-whole : (a : ℕ → ℕ → ℕ) (i c : ℕ) → whole (places_with_column n v s) a i (skip v c) ≡ whole s a i c
  column-joins-whole a i c = ap (λ b. cond b (identity i (put_in v 0 s.row (skip v c))) (a i (put_in v n s.slot (skip v c)))) (put-other v false s.is_unit c)
      ∙ ap (λ r. cond (s.is_unit c) (identity i r) (a i (put_in v n s.slot (skip v c)))) (put-other v 0 s.row c)
      ∙ ap (λ l. cond (s.is_unit c) (identity i (s.row c)) (a i l)) (put-other v n s.slot c)

  pub column-joins-new : (a : ℕ → ℕ → ℕ) (i : ℕ) → whole (places_with_column n v s) a i v ≡ a i n
  column-joins-new a i = ap (λ b. cond b (identity i (put_in v 0 s.row v)) (a i (put_in v n s.slot v))) (put-here v false s.is_unit)
      ∙ ap (a i) (put-here v n s.slot)

-- ---- a row leaves with its unit column, and the last row takes its place
pub last_at-here : (k n : ℕ) → last_at k n k ≡ n
last_at-here k n = grind (arith, nat_tests)

pub last_at-other : (k n i : ℕ) → i ≢ k → last_at k n i ≡ i
last_at-other k n i ne = grind (arith, nat_tests)

identity-apart : (i j : ℕ) → i ≢ j → identity i j ≡ 0
identity-apart i j ne = grind (arith, nat_tests)

identity-alike : (i j : ℕ) → i ≡ j → identity i j ≡ 1
identity-alike i j q = grind (arith, nat_tests)

module _ (m n all : ℕ) (s : Places) (k : ℕ) (placed : HaveSlots m n all s) (kl : k < m) where
  abbrev gone : ℕ
  gone = s.basic k

  abbrev last : ℕ
  last = m - 1

  gone-below : gone < all
  gone-below = placed.basic_below k kl

  -- rows of the others
  pub last_at-below : (i : ℕ) → i < m - 1 → (last_at k last i < m) × (last_at k last i ≢ k)
  last_at-below i il = elim (nat_cases i k) [
    | inl q ↦ subst (λ x. (x < m) × (x ≢ k)) (sym (ap (last_at k last) q ∙ last_at-here k last)) (omega arith, λ e. omega arith)
    | inr ne ↦ subst (λ x. (x < m) × (x ≢ k)) (sym (last_at-other k last i ne)) (omega arith, ne)
  ]

  basic-else : (i : ℕ) → i < m → i ≢ k → s.basic i ≢ gone
  basic-else i il ne q = ne (sym (placed.basic_row i il) ∙ ap s.row q ∙ placed.basic_row k kl)

  basic-kept : (i : ℕ) → i < m → i ≢ k → skip gone (unskip gone (s.basic i)) ≡ s.basic i
  basic-kept i il ne = skip-unskip gone (s.basic i) (basic-else i il ne)

  column-below : (c : ℕ) → c < all - 1 → skip gone c < all
  column-below c cl = skip-below gone c all gone-below cl

  abbrev row-now : ℕ → ℕ
  row-now c = cond (eqb c (s.basic last)) k (s.row c)

  -- a unit column is that of the last row, or of one that keeps its number
  unit_cases : (c : ℕ) → c < all → s.is_unit c ≡ true → c ≢ gone →
      ((c ≡ s.basic last) × (k < m - 1) × (row-now c ≡ k) × (s.row c ≡ last))
      ⊎ ((s.row c < m - 1) × (s.row c ≢ k) × (row-now c ≡ s.row c))
  unit_cases c cl h ne = elim (nat_cases c (s.basic last)) [
    | inl q ↦ inl (
      q,
      less q (nat_cases k last),
      ap (λ b. cond b k (s.row c)) (eqb_from c (s.basic last) q),
      ap s.row q ∙ placed.basic_row last (omega arith),
    )
    | inr other ↦ inr (
      low other (nat_cases (s.row c) last) (placed.row_below c cl h),
      λ q. ne (sym (placed.row_basic c cl h) ∙ ap s.basic q),
      ap (λ b. cond b k (s.row c)) (apart c (s.basic last) other),
    )
  ]
    where
      apart : (x y : ℕ) → x ≢ y → eqb x y ≡ false
      apart x y ne = grind (arith, nat_tests)

      less : c ≡ s.basic last → (k ≡ last) ⊎ (k ≢ last) → k < m - 1
      less q (inl e) = absurd (ne (q ∙ ap s.basic (sym e)))
      less q (inr e) = omega arith

      low : c ≢ s.basic last → (s.row c ≡ last) ⊎ (s.row c ≢ last) → s.row c < m → s.row c < m - 1
      low other (inl e) l = absurd (other (sym (placed.row_basic c cl h) ∙ ap s.basic e))
      low other (inr e) l = omega arith

  pub last-takes : HaveSlots (m - 1) n (all - 1) (places_with_last_at k m gone s)
  last-takes = record {
    basic_below = λ i il. let at = last_at-below i il in
        unskip-below gone (s.basic (last_at k last i)) all gone-below (placed.basic_below (last_at k last i) at.0)
        (basic-else (last_at k last i) at.0 at.1);
    basic_unit = λ i il. let at = last_at-below i il in
        ap s.is_unit (basic-kept (last_at k last i) at.0 at.1) ∙ placed.basic_unit (last_at k last i) at.0;
    basic_row = λ i il. let at = last_at-below i il in
        ap row-now (basic-kept (last_at k last i) at.0 at.1) ∙ row-at i il (nat_cases i k);
    row_below = λ c cl h. elim (unit_cases (skip gone c) (column-below c cl) h (skip-other gone c)) [
      | inl (q, l, is, r) ↦ subst (λ x. x < m - 1) (sym is) l
      | inr (l, ne, is) ↦ subst (λ x. x < m - 1) (sym is) l
    ];
    row_basic = λ c cl h. elim (unit_cases (skip gone c) (column-below c cl) h (skip-other gone c)) [
      | inl (q, l, is, r) ↦ ap (λ x. unskip gone (s.basic (last_at k last x))) is
          ∙ ap (λ x. unskip gone (s.basic x)) (last_at-here k last) ∙ ap (unskip gone) (sym q) ∙ unskip-skip gone c
      | inr (l, ne, is) ↦ ap (λ x. unskip gone (s.basic (last_at k last x))) is
          ∙ ap (λ x. unskip gone (s.basic x)) (last_at-other k last (s.row (skip gone c)) ne)
          ∙ ap (unskip gone) (placed.row_basic (skip gone c) (column-below c cl) h) ∙ unskip-skip gone c
    ];
    slot_below = λ c cl h. placed.slot_below (skip gone c) (column-below c cl) h;
    apart = λ c d cl dl ch dh q. sym (unskip-skip gone c)
        ∙ ap (unskip gone) (placed.apart (skip gone c) (skip gone d) (column-below c cl) (column-below d dl) ch dh q)
        ∙ unskip-skip gone d;
  }
    where
      not-same : (x y : ℕ) → x ≢ y → eqb x y ≡ false
      not-same x y ne = grind (arith, nat_tests)

      row-at : (i : ℕ) → i < m - 1 → (i ≡ k) ⊎ (i ≢ k) → row-now (s.basic (last_at k last i)) ≡ i
      row-at i il (inl q) = ap (λ x. row-now (s.basic x)) (ap (last_at k last) q ∙ last_at-here k last)
          ∙ ap (λ b. cond b k (s.row (s.basic last))) (eqb_from (s.basic last) (s.basic last) refl) ∙ sym q
      row-at i il (inr ne) = ap (λ x. row-now (s.basic x)) (last_at-other k last i ne)
          ∙ ap (λ b. cond b k (s.row (s.basic i))) (not-same (s.basic i) (s.basic last) other)
          ∙ placed.basic_row i (omega arith)
        where
          other : s.basic i ≢ s.basic last
          other q = absurd (omega (arith, sym (placed.basic_row i (omega arith)) ∙ ap s.row q ∙ placed.basic_row last (omega arith)))

  pub last-takes-whole : (a b : ℕ → ℕ → ℕ) →
      ((i j : ℕ) → i < m - 1 → j < n → b i j ≡ a (last_at k last i) j) → (i c : ℕ) → i < m - 1 → c < all - 1 →
      whole (places_with_last_at k m gone s) b i c ≡ whole s a (last_at k last i) (skip gone c)
  last-takes-whole a b same i c il cl = go (s.is_unit (skip gone c)) refl
    where
      row-same : s.is_unit (skip gone c) ≡ true →
          identity i (row-now (skip gone c)) ≡ identity (last_at k last i) (s.row (skip gone c))
      row-same h = elim (unit_cases (skip gone c) (column-below c cl) h (skip-other gone c)) [
        | inl (q, l, is, r) ↦ ap (identity i) is ∙ first (nat_cases i k) ∙ ap (identity (last_at k last i)) (sym r)
        | inr (l, ne, is) ↦ ap (identity i) is ∙ second (s.row (skip gone c)) l ne (nat_cases i k)
      ]
        where
          first : (i ≡ k) ⊎ (i ≢ k) → identity i k ≡ identity (last_at k last i) last
          first (inl e) = identity-alike i k e
              ∙ sym (identity-alike (last_at k last i) last (ap (last_at k last) e ∙ last_at-here k last))
          first (inr e) = identity-apart i k e
              ∙ sym (ap (λ x. identity x last) (last_at-other k last i e) ∙ identity-apart i last (λ f. omega arith))

          second : (r : ℕ) → r < m - 1 → r ≢ k → (i ≡ k) ⊎ (i ≢ k) → identity i r ≡ identity (last_at k last i) r
          second r rl ne (inl e) = identity-apart i r (λ f. ne (sym f ∙ e))
              ∙ sym (ap (λ x. identity x r) (ap (last_at k last) e ∙ last_at-here k last) ∙ identity-apart last r (λ f. omega arith))
          second r rl ne (inr e) = ap (λ x. identity x r) (sym (last_at-other k last i e))

      go : (u : Bool) → s.is_unit (skip gone c) ≡ u →
          cond u (identity i (row-now (skip gone c))) (b i (s.slot (skip gone c)))
          ≡ cond u (identity (last_at k last i) (s.row (skip gone c))) (a (last_at k last i) (s.slot (skip gone c)))
      go true h = row-same h
      go false h = same i (s.slot (skip gone c)) il (placed.slot_below (skip gone c) (column-below c cl) h)

-- ---- places that are alike
pub alike-placed : (m n all : ℕ) (s t : Places) → ArePlacedAlike m s t → HaveSlots m n all s → HaveSlots m n all t
alike-placed m n all s t alike placed = record {
  basic_below = λ i il. subst (λ x. x < all) (sym (alike.basic_is i il)) (placed.basic_below i il);
  basic_unit = λ i il. ap t.is_unit (alike.basic_is i il) ∙ unit (s.basic i) ∙ placed.basic_unit i il;
  basic_row = λ i il. ap t.row (alike.basic_is i il) ∙ ap (λ (f : ℕ → ℕ). f (s.basic i)) alike.row_is ∙ placed.basic_row i il;
  row_below = λ c cl h. subst (λ x. x < m) (sym (row c)) (placed.row_below c cl (sym (unit c) ∙ h));
  row_basic = λ c cl h. ap t.basic (row c) ∙ alike.basic_is (s.row c) (placed.row_below c cl (sym (unit c) ∙ h))
      ∙ placed.row_basic c cl (sym (unit c) ∙ h);
  slot_below = λ c cl h. subst (λ x. x < n) (sym (slot c)) (placed.slot_below c cl (sym (unit c) ∙ h));
  apart = λ c d cl dl ch dh q. placed.apart c d cl dl (sym (unit c) ∙ ch) (sym (unit d) ∙ dh) (sym (slot c) ∙ q ∙ slot d);
}
  where
    unit : (c : ℕ) → t.is_unit c ≡ s.is_unit c
    unit c = ap (λ (f : ℕ → Bool). f c) alike.unit_is

    row : (c : ℕ) → t.row c ≡ s.row c
    row c = ap (λ (f : ℕ → ℕ). f c) alike.row_is

    slot : (c : ℕ) → t.slot c ≡ s.slot c
    slot c = ap (λ (f : ℕ → ℕ). f c) alike.slot_is

pub alike-whole : (m : ℕ) (s t : Places) → ArePlacedAlike m s t → (a : ℕ → ℕ → ℕ) (i c : ℕ) → whole t a i c ≡ whole s a i c
alike-whole m s t alike a i c =
    ap (λ (f : ℕ → Bool). cond (f c) (identity i (t.row c)) (a i (t.slot c))) alike.unit_is
    ∙ ap (λ (f : ℕ → ℕ). cond (s.is_unit c) (identity i (f c)) (a i (t.slot c))) alike.row_is
    ∙ ap (λ (f : ℕ → ℕ). cond (s.is_unit c) (identity i (s.row c)) (a i (f c))) alike.slot_is
