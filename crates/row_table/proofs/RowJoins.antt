-- A table of P and S where a row joins.
use Rattle.std.proofs.Common.{◌≡◌, ℕ, ◌+◌, ◌-◌, ◌*◌, ◌%◌, ◌<◌, ◌≤◌, true, false, cond, ltb, eqb, inl, inr, ap, sym, subst, ◌∙◌, arith}
use Rattle.std.proofs.Math.Nat.{mod-mod, zero-mod, mod_self}
use Rattle.std.proofs.lemmas.Bool.Decides.{nat_tests}
use Rattle.residue_theory.specs.Sets.{everything}
use Rattle.residue_theory.specs.Sums.{sum_below}
use Rattle.residue_theory.proofs.SumLaws.{nat_cases, sum_on-ext}
use Rattle.residue_theory.proofs.SetLaws.{lt_cases}
use Rattle.residue_theory.proofs.ResidueLaws.{agree-add, agree-mul, agree-sum}
use Rattle.linear_algebra.specs.Parts.{skip}
use Rattle.linear_algebra.specs.Products.{product, identity}
use Rattle.linear_algebra_laws.proofs.Entries.{identity-same, identity-other}
use Rattle.linear_algebra_laws.proofs.Products.{sum-identity_right, sum-product}
use Rattle.linear_algebra_laws.proofs.SkipLaws.{skip-first}
use Rattle.sparse_q.specs.Tables.{sparse_rows, number_in}
use Rattle.row_table.specs.Places.{Places, HaveSlots, whole}
use Rattle.row_table.specs.PlaceEdits.{ArePlacedAlike, places_with_row}
use Rattle.row_table.specs.PutOffs.{actual}
use Rattle.row_table.specs.Layouts.{rows_of_layout, layout_places}
use Rattle.row_table.specs.RowTables.{Combined, entries, p_part, s_part, IsCombined}
use Rattle.row_table.specs.TableEdits.{IsQWithRow, IsTableWithRow, basic_of, taken}
use Rattle.row_table.proofs.PlaceLaws.{whole-unit, whole-slot}
use Rattle.row_table.proofs.PlaceEdits.{alike-placed, alike-whole, row-joins, row-joins-whole, row-joins-unit}
use Rattle.row_table.proofs.RowTableLaws.{part-within}
use Rattle.row_table.proofs.TableEdits.{sum-split, made-combined, product-of, skip-shifted, bool_cases}

-- ---- a row joins
module _ (p : ℕ) (above : 1 < p) (t n : Combined) (e : ℕ) (x : ℕ → ℕ) (combined : IsCombined p t) (el : e ≤ sparse_rows t.q)
    (small : (j : ℕ) → j < t.q.width → x j < p) (q : IsQWithRow t.q n.q e x)
    (rows : n.kept.rows ≡ sparse_rows t.q + 1) (columns : n.kept.columns ≡ t.q.width)
    (layout_rows : rows_of_layout n.layout ≡ sparse_rows t.q + 1) (layout_columns : n.layout.columns ≡ t.q.width)
    (alike : ArePlacedAlike (sparse_rows t.q + 1) (places_with_row (sparse_rows t.q) (t.q.width + e) (layout_places t.layout))
    (layout_places n.layout))
    (stays : (i j : ℕ) → i < sparse_rows t.q → j < t.q.width → actual p n.kept i j % p ≡ actual p t.kept i j % p)
    (joins : (c : ℕ) → c < t.q.width + sparse_rows t.q → (layout_places t.layout).is_unit c ≡ false →
    actual p n.kept (sparse_rows t.q) ((layout_places t.layout).slot c) % p ≡ (sum_below (sparse_rows t.q) (λ i.
    taken p t.q.width (basic_of t) x i * actual p t.kept i ((layout_places t.layout).slot c))
    + cond (ltb c t.q.width) (x c) 0) % p) where
  abbrev m : ℕ
  m = sparse_rows t.q

  abbrev w : ℕ
  w = t.q.width

  abbrev s : Places
  s = layout_places t.layout

  abbrev a : ℕ → ℕ → ℕ
  a = actual p t.kept

  abbrev b : ℕ → ℕ → ℕ
  b = actual p n.kept

  abbrev v : ℕ
  v = w + e

  abbrev d : ℕ → ℕ
  d = taken p w (basic_of t) x

  vl : v < w + m + 1
  vl = omega arith

  -- an entry of the new table at a column that was there
  entry-at : (i c : ℕ) → entries p n i (skip v c) ≡ whole s b i c
  entry-at i c = alike-whole (m + 1) _ _ alike b i (skip v c) ∙ row-joins-whole m w (w + m) s v combined.placed vl b i c

  entry-new : (i : ℕ) → entries p n i v ≡ identity i m
  entry-new i = alike-whole (m + 1) _ _ alike b i v ∙ row-joins-unit m w (w + m) s v combined.placed vl b i

  old-at : (i c : ℕ) → i < m → c < w + m → whole s b i c % p ≡ whole s a i c % p
  old-at i c il cl = elim (bool_cases (s.is_unit c)) [
    | inl h ↦ ap (λ y. y % p) (whole-unit s b i c h ∙ sym (whole-unit s a i c h))
    | inr h ↦ ap (λ y. y % p) (whole-slot s b i c h) ∙ stays i (s.slot c) il (combined.placed.slot_below c cl h)
        ∙ ap (λ y. y % p) (sym (whole-slot s a i c h))
  ]

  abbrev y : ℕ → ℕ
  y c = cond (ltb c w) (x c) 0

  opposite : (c : ℕ) → (cond (ltb c w) (p - x c) 0 + cond (ltb c w) (x c) 0) % p ≡ 0
  opposite c = elim (lt_cases c w) [
    | inl l ↦ ap (λ z. z % p) (whole-number c l) ∙ mod_self p
    | inr le ↦ ap (λ z. z % p) (nothing c le) ∙ zero-mod p
  ]
    where
      whole-number : (c : ℕ) → c < w → cond (ltb c w) (p - x c) 0 + cond (ltb c w) (x c) 0 ≡ p
      whole-number c l = ap (λ u. cond u (p - x c) 0 + cond u (x c) 0) (below c w l) ∙ omega (arith, small c l)
        where
          below : (c n : ℕ) → c < n → ltb c n ≡ true
          below c n l = grind (arith, nat_tests)

      nothing : (c : ℕ) → w ≤ c → cond (ltb c w) (p - x c) 0 + cond (ltb c w) (x c) 0 ≡ 0
      nothing c le = grind (arith, nat_tests)

  -- the joined row is x and d times the others
  joined-at : (c : ℕ) → c < w + m → whole s b m c % p ≡ (sum_below m (λ i. d i * whole s a i c) + y c) % p
  joined-at c cl = elim (bool_cases (s.is_unit c)) [
    | inl h ↦ ap (λ z. z % p) (whole-unit s b m c h ∙ identity-other m (s.row c)
        (λ q. let l = combined.placed.row_below c cl h in absurd (omega (arith, q))))
        ∙ zero-mod p ∙ sym (opposite c)
        ∙ ap (λ z. (z + y c) % p) (ap (λ r. cond (ltb r w) (p - x r) 0) (sym (combined.placed.row_basic c cl h))
        ∙ sym (sum-identity_right m (s.row c) d (combined.placed.row_below c cl h))
        ∙ sum_on-ext everything m (λ i. d i * identity i (s.row c)) (λ i. d i * whole s a i c)
        (λ i _ _. ap (λ z. d i * z) (sym (whole-unit s a i c h))))
    | inr h ↦ ap (λ z. z % p) (whole-slot s b m c h) ∙ joins c cl h
        ∙ ap (λ z. (z + y c) % p) (sum_on-ext everything m (λ i. d i * a i (s.slot c)) (λ i. d i * whole s a i c)
        (λ i _ _. ap (λ z. d i * z) (sym (whole-slot s a i c h))))
  ]

  before : (c : ℕ) → c < w → skip v c ≡ c
  before c cl = skip-first v c (omega arith)

  y-before : (c : ℕ) → c < w → y c ≡ x c
  y-before c cl = grind (arith, nat_tests)

  y-after : (k : ℕ) → y (w + k) ≡ 0
  y-after k = grind (arith, nat_tests)

  s-at : (i k : ℕ) → entries p n i (w + skip e k) ≡ whole s b i (w + k)
  s-at i k = ap (entries p n i) (sym (skip-shifted w e k)) ∙ entry-at i (w + k)

  -- the product of the new S and the new Q, as a sum over the old rows of Q and the new one
  product-split : (i c : ℕ) → c < w → product (m + 1) (λ i k. entries p n i (w + k)) (number_in n.q) i c
      ≡ sum_below m (λ k. whole s b i (w + k) * number_in t.q k c) + identity i m * x c
  product-split i c cl = sum-split m e (λ k. entries p n i (w + k) * number_in n.q k c) (omega arith)
      ∙ ap (λ z. z + entries p n i (w + e) * number_in n.q e c) (sum_on-ext everything m
      (λ k. entries p n i (w + skip e k) * number_in n.q (skip e k) c) (λ k. whole s b i (w + k) * number_in t.q k c)
      (λ k _ _. ap (λ z. z * number_in n.q (skip e k) c) (s-at i k) ∙ ap (λ z. whole s b i (w + k) * z) (q.others k c)))
      ∙ ap (λ z. sum_below m (λ k. whole s b i (w + k) * number_in t.q k c) + z)
      (ap (λ z. z * number_in n.q e c) (entry-new i) ∙ ap (λ z. identity i m * z) (q.here c cl))

  -- at the rows that were there
  old-product : (i c : ℕ) → i < m → c < w →
      entries p n i c % p ≡ product (m + 1) (λ i k. entries p n i (w + k)) (number_in n.q) i c % p
  old-product i c il cl =
      ap (λ z. z % p) (ap (entries p n i) (sym (before c cl)) ∙ entry-at i c)
      ∙ old-at i c il (omega arith)
      ∙ product-of p t combined i c il cl
      ∙ agree-sum p everything m (λ k. entries p t i (w + k) * number_in t.q k c)
      (λ k. whole s b i (w + k) * number_in t.q k c)
      (λ k kl _. ap (λ z. z % p) (let g : entries p t i (w + k) * number_in t.q k c
      ≡ number_in t.q k c * entries p t i (w + k) = omega arith in g)
      ∙ agree-mul p (number_in t.q k c) (entries p t i (w + k)) (whole s b i (w + k)) (sym (old-at i (w + k) il (omega arith)))
      ∙ ap (λ z. z % p) (let g : number_in t.q k c * whole s b i (w + k) ≡ whole s b i (w + k) * number_in t.q k c =
      omega arith in g))
      ∙ ap (λ z. z % p) (sym (product-split i c cl
      ∙ ap (λ z. sum_below m (λ k. whole s b i (w + k) * number_in t.q k c) + z * x c) (identity-other i m (λ g. omega arith))
      ∙ omega arith))

  -- and at the one that joined
  new-product : (c : ℕ) → c < w →
      entries p n m c % p ≡ product (m + 1) (λ i k. entries p n i (w + k)) (number_in n.q) m c % p
  new-product c cl =
      ap (λ z. z % p) (ap (entries p n m) (sym (before c cl)) ∙ entry-at m c)
      ∙ joined-at c (omega arith)
      ∙ agree-add p (sum_below m (λ i. d i * whole s a i c))
      (sum_below m (λ k. whole s b m (w + k) * number_in t.q k c)) (y c) (x c) combination
      (ap (λ z. z % p) (y-before c cl))
      ∙ ap (λ z. z % p) (sym (product-split m c cl
      ∙ ap (λ z. sum_below m (λ k. whole s b m (w + k) * number_in t.q k c) + z * x c) (identity-same m)
      ∙ omega arith))
    where
      combination : sum_below m (λ i. d i * whole s a i c) % p
          ≡ sum_below m (λ k. whole s b m (w + k) * number_in t.q k c) % p
      combination =
          agree-sum p everything m (λ i. d i * whole s a i c)
          (λ i. d i * product m (s_part p t) (number_in t.q) i c)
          (λ i il _. agree-mul p (d i) (whole s a i c) (product m (s_part p t) (number_in t.q) i c)
          (product-of p t combined i c il cl))
          ∙ ap (λ z. z % p) (turned m d (s_part p t) (λ k. number_in t.q k c))
          ∙ agree-sum p everything m (λ k. sum_below m (λ i. d i * whole s a i (w + k)) * number_in t.q k c)
          (λ k. whole s b m (w + k) * number_in t.q k c)
          (λ k kl _. ap (λ z. z % p) (let g : sum_below m (λ i. d i * whole s a i (w + k)) * number_in t.q k c
          ≡ number_in t.q k c * sum_below m (λ i. d i * whole s a i (w + k)) = omega arith in g)
          ∙ agree-mul p (number_in t.q k c) (sum_below m (λ i. d i * whole s a i (w + k))) (whole s b m (w + k))
          (sym (joined-at (w + k) (omega arith) ∙ ap (λ z. z % p) (ap (λ z. sum_below m (λ i. d i * whole s a i (w + k)) + z)
          (y-after k) ∙ omega arith)))
          ∙ ap (λ z. z % p) (let g : number_in t.q k c * whole s b m (w + k) ≡ whole s b m (w + k) * number_in t.q k c =
          omega arith in g))
        where
          turned : (m : ℕ) (d : ℕ → ℕ) (S : ℕ → ℕ → ℕ) (z : ℕ → ℕ) →
              sum_below m (λ i. d i * sum_below m (λ k. S i k * z k)) ≡ sum_below m (λ k. sum_below m (λ i. d i * S i k) * z k)
          turned m d S z = sym (sum_on-ext everything m (λ k. sum_below m (λ i. d i * S i k) * z k)
              (λ k. z k * product m (λ _ i. d i) S 0 k) (λ k _ _. omega arith)
              ∙ sum-product m m (λ _ i. d i) S everything z 0
              ∙ sum_on-ext everything m (λ i. d i * sum_below m (λ k. z k * S i k)) (λ i. d i * sum_below m (λ k. S i k * z k))
              (λ i _ _. ap (λ u. d i * u) (sum_on-ext everything m (λ k. z k * S i k) (λ k. S i k * z k) (λ k _ _. omega arith))))

  pub row-joined : IsCombined p n
  row-joined = made-combined p n (rows ∙ sym q.rows_are) (columns ∙ sym q.width_same) (layout_rows ∙ sym q.rows_are)
      (layout_columns ∙ sym q.width_same)
      (subst (λ r. HaveSlots r n.q.width (n.q.width + r) (layout_places n.layout)) (sym q.rows_are)
      (subst (λ c. HaveSlots (m + 1) c (c + (m + 1)) (layout_places n.layout)) (sym q.width_same)
      (subst (λ z. HaveSlots (m + 1) w z (layout_places n.layout)) (let g : w + m + 1 ≡ w + (m + 1) = omega arith in g)
      (alike-placed (m + 1) w (w + m + 1) _ _ alike (row-joins m w (w + m) s v combined.placed vl)))))
      (subst (λ r. (i c : ℕ) → i < r → c < n.q.width → entries p n i c % p ≡ product r (s_part p n) (number_in n.q) i c % p)
      (sym q.rows_are)
      (subst (λ u. (i c : ℕ) → i < m + 1 → c < u → entries p n i c % p
      ≡ product (m + 1) (λ i k. entries p n i (u + k)) (number_in n.q) i c % p) (sym q.width_same)
      (λ i c il cl. elim (nat_cases i m) [
        | inl g ↦ subst (λ i. entries p n i c % p ≡ product (m + 1) (λ i k. entries p n i (w + k)) (number_in n.q) i c % p)
            (sym g) (new-product c cl)
        | inr ne ↦ old-product i c (omega arith) cl
      ])))

  p-within : (i j : ℕ) → i < m + 1 → j < w → p_part p n i j ≡ entries p n i j
  p-within i j il jl = part-within i (sparse_rows n.q) j n.q.width (entries p n i j) (omega (arith, q.rows_are))
      (omega (arith, q.width_same))

  pub row-joined-told : IsTableWithRow p t n e x
  row-joined-told = record {
    q_is = q;
    rows_stay = λ i j il jl. p-within i j (omega arith) jl ∙ ap (entries p n i) (sym (before j jl)) ∙ entry-at i j
        ∙ exact i j il (omega arith)
        ∙ sym (part-within i m j w (entries p t i j) il jl);
    zero = λ i il bl. p-within m (s.basic i) (omega arith) bl ∙ ap (entries p n m) (sym (before (s.basic i) bl))
        ∙ entry-at m (s.basic i) ∙ whole-unit s b m (s.basic i) (combined.placed.basic_unit i il)
        ∙ ap (identity m) (combined.placed.basic_row i il) ∙ identity-other m i (λ g. omega arith);
    basic_is = λ i il. alike.basic_is i (omega arith) ∙ old-basic i il;
  }
    where
      exact : (i c : ℕ) → i < m → c < w + m → whole s b i c ≡ whole s a i c
      exact i c il cl = elim (bool_cases (s.is_unit c)) [
        | inl h ↦ whole-unit s b i c h ∙ sym (whole-unit s a i c h)
        | inr h ↦ whole-slot s b i c h ∙ reduced i (s.slot c) il (combined.placed.slot_below c cl h) ∙ sym (whole-slot s a i c h)
      ]
        where
          reduced : (i j : ℕ) → i < m → j < w → b i j ≡ a i j
          reduced i j il jl = sym (mod-mod _ p) ∙ stays i j il jl ∙ mod-mod _ p

      old-basic : (i : ℕ) → i < m → cond (eqb i m) v (skip v (s.basic i)) ≡ skip v (s.basic i)
      old-basic i il = ap (λ u. cond u v (skip v (s.basic i))) (apart i m (omega arith))
        where
          apart : (i m : ℕ) → i < m → eqb i m ≡ false
          apart i m l = grind (arith, nat_tests)
