-- One table for P and S: before any pivot, and what a pivot keeps.
use Rattle.std.proofs.Common.{◌≡◌, ℕ, ◌+◌, ◌-◌, ◌*◌, ◌%◌, ◌<◌, ◌≤◌, ◌≢◌, Bool, true, false, not, cond, ltb, eqb, ◌&&◌, ◌⊎◌, inl, inr, refl, ap, sym, subst}
use Rattle.std.proofs.Common.{◌∙◌, arith, slice_index, []}
use Rattle.std.proofs.Math.Path.{fun_ext}
use Rattle.std.proofs.Math.Nat.{mod-eq_of_lt}
use Rattle.std.proofs.lemmas.List.{get_or_past}
use Rattle.std.proofs.lemmas.Bool.Decides.{nat_tests}
use Rattle.residue_theory.specs.Residues.{IsPrime}
use Rattle.residue_theory.specs.Sets.{everything}
use Rattle.residue_theory.specs.Sums.{sum_below}
use Rattle.residue_theory.proofs.SumLaws.{nat_cases, sum_on-ext}
use Rattle.residue_theory.proofs.SetLaws.{lt_cases}
use Rattle.linear_algebra.specs.Products.{product, identity, Agree, IsInverse}
use Rattle.linear_algebra.specs.RowOperations.{IsPivoted}
use Rattle.linear_algebra_laws.proofs.Entries.{identity-same, identity-other}
use Rattle.linear_algebra_laws.proofs.Products.{sum-identity}
use Rattle.sparse_q.specs.Tables.{sparse_rows, number_in}
use Rattle.dense_q.specs.Tables.{Table, IsMatrix, AreResidues, height, row_at, entry}
use Rattle.row_table.specs.Reductions.{IsReduced, with_column_as, ZeroColumnsStay, ZeroRowsStay}
use Rattle.row_table.specs.Places.{Places, HaveSlots, whole, exchanged, with_unit, with_units}
use Rattle.row_table.specs.PutOffs.{Kept, actual}
use Rattle.row_table.specs.Layouts.{Layout, IsFirst, layout_places, rows_of_layout}
use Rattle.row_table.specs.RowTables.{Combined, entries, p_part, s_part, u_part, IsCombined}
use Rattle.row_table.proofs.ReductionLaws.{first-inverse, keeps, reduced-pivoted, reduced-stay}
use Rattle.row_table.proofs.PlaceLaws.{exchanged-reduced, exchanged-placed, whole-unit, whole-slot}
use Rattle.row_table.proofs.LayoutLaws.{first-placed}

pub units-before : (n : ℕ) (q : ℕ → ℕ → ℕ) (i c : ℕ) → c < n → with_units n q i c ≡ q i c
units-before n q i c l = grind (arith, nat_tests)

pub units-after : (n : ℕ) (q : ℕ → ℕ → ℕ) (i c : ℕ) → n ≤ c → with_units n q i c ≡ identity i (c - n)
units-after n q i c l = ap (λ b. cond b (q i c) (identity i (c - n))) (not_less c n l)
  where
    not_less : (c n : ℕ) → n ≤ c → ltb c n ≡ false
    not_less c n l = grind (arith, nat_tests)

pub part-within : (i m j n x : ℕ) → i < m → j < n → cond (ltb i m && ltb j n) x 0 ≡ x
part-within i m j n x il jl = grind (arith, nat_tests)

part-outside : (i m j n x : ℕ) → (i < m → j < n → ⊥) → cond (ltb i m && ltb j n) x 0 ≡ 0
part-outside i m j n x h = grind (arith, nat_tests)

-- ---- before any pivot
module _ (p : ℕ) (prime : IsPrime p) (t : Combined) (q : Table) (good : IsMatrix q) (residues : AreResidues p q.rows)
    (rows_q : sparse_rows t.q ≡ height q) (width_q : t.q.width ≡ q.width) (numbers_q : number_in t.q ≡ entry q)
    (kept_rows_is : t.kept.rows ≡ height q) (kept_columns_is : t.kept.columns ≡ q.width) (stored_is : t.kept.stored ≡ q) (count_is : t.kept.count ≡ 0)
    (columns_is : t.layout.columns
    ≡ q.width) (rows_is : rows_of_layout t.layout ≡ height q)
    (first : IsFirst (height q) q.width (layout_places t.layout)) where
  actual-is : (i j : ℕ) → actual p t.kept i j ≡ entry q i j % p
  actual-is i j =
      ap (λ n. (entry t.kept.stored i j + sum_below n (λ k. entry t.kept.factors i k * entry t.kept.pending k j)) % p)
      count_is
      ∙ ap (λ y. y % p) (let e : entry t.kept.stored i j + 0 ≡ entry t.kept.stored i j = omega arith in e)
      ∙ ap (λ (m : Table). entry m i j % p) stored_is

  entry-small : (i j : ℕ) → i < height q → j < q.width → entry q i j < p
  entry-small i j il jl = residues i [] il j 0 (omega (arith, good.full i [] il))

  entries-before : (i c : ℕ) → i < height q → c < q.width → entries p t i c ≡ entry q i c
  entries-before i c il cl =
      whole-slot (layout_places t.layout) (actual p t.kept) i c (first.unit_is c (omega arith) ∙ before c q.width cl)
      ∙ ap (λ k. actual p t.kept i k) (first.slot_is c (omega arith)) ∙ actual-is i c
      ∙ mod-eq_of_lt (entry-small i c il cl)
    where
      before : (c n : ℕ) → c < n → not (ltb c n) ≡ false
      before c n l = grind (arith, nat_tests)

  entries-after : (i c : ℕ) → q.width ≤ c → c < q.width + height q → entries p t i c ≡ identity i (c - q.width)
  entries-after i c le cl =
      whole-unit (layout_places t.layout) (actual p t.kept) i c (first.unit_is c cl ∙ after c q.width le)
      ∙ ap (λ k. identity i k) (first.row_is c cl)
    where
      after : (c n : ℕ) → n ≤ c → not (ltb c n) ≡ true
      after c n l = grind (arith, nat_tests)

  at_q : (X : ℕ → ℕ → (ℕ → ℕ → ℕ) → Type 0) → X (height q) q.width (entry q) → X (sparse_rows t.q) t.q.width (number_in t.q)
  at_q X x = subst (λ m. X m t.q.width (number_in t.q)) (sym rows_q)
      (subst (λ n. X (height q) n (number_in t.q)) (sym width_q) (subst (λ a. X (height q) q.width a) (sym numbers_q) x))

  pub opened-s : (i j : ℕ) → i < height q → j < height q → s_part p t i j ≡ identity i j
  opened-s i j il jl = ap (λ n. entries p t i (n + j)) width_q
      ∙ entries-after i (q.width + j) (omega arith) (omega arith) ∙ ap (λ k. identity i k) (omega arith)

  pub opened-u : (i j : ℕ) → i < height q → j < height q → u_part t i j ≡ identity i j
  opened-u i j il jl = ap (λ n. with_units n (number_in t.q) i ((layout_places t.layout).basic j)) width_q
      ∙ ap (λ a. with_units q.width a i ((layout_places t.layout).basic j)) numbers_q
      ∙ ap (λ c. with_units q.width (entry q) i c) (first.basic_is j jl)
      ∙ units-after q.width (entry q) i (q.width + j) (omega arith) ∙ ap (λ k. identity i k) (omega arith)

  pub opened-p : p_part p t ≡ entry q
  opened-p = ap (λ m. λ i j. cond (ltb i m && ltb j t.q.width) (entries p t i j) 0) rows_q
      ∙ ap (λ n. λ i j. cond (ltb i (height q) && ltb j n) (entries p t i j) 0) width_q
      ∙ fun_ext (λ i. fun_ext (λ j. at i j (lt_cases i (height q)) (lt_cases j q.width)))
    where
      at : (i j : ℕ) → (i < height q) ⊎ (height q ≤ i) → (j < q.width) ⊎ (q.width ≤ j) →
          cond (ltb i (height q) && ltb j q.width) (entries p t i j) 0 ≡ entry q i j
      at i j (inl il) (inl jl) = part-within i (height q) j q.width (entries p t i j) il jl ∙ entries-before i j il jl
      at i j (inl il) (inr jl) = part-outside i (height q) j q.width (entries p t i j) (λ _ l. omega arith)
          ∙ sym (get_or_past (row_at q i) j 0 (omega (arith, good.full i [] il)))
      at i j (inr il) s = part-outside i (height q) j q.width (entries p t i j) (λ l _. omega arith)
          ∙ sym (ap (λ r. slice_index r j) (get_or_past q.rows i [] il))

  pub opened-combined : t.kept.stored ≡ q → IsCombined p t
  opened-combined _ = record {
    kept_rows = kept_rows_is ∙ sym rows_q;
    kept_columns = kept_columns_is ∙ sym width_q;
    layout_rows = rows_is ∙ sym rows_q;
    layout_columns = columns_is ∙ sym width_q;
    placed = at_q (λ m n a. HaveSlots m n (n + m) (layout_places t.layout))
        (first-placed (height q) q.width (layout_places t.layout) first);
    product_is = at_q (λ m n a. Agree p m (n + m) (entries p t)
        (product m (λ i j. entries p t i (n + j)) (with_units n a))) product_at;
    inverse = at_q (λ m n a. IsInverse p m (λ i j. entries p t i (n + j))
        (λ i j. with_units n a i ((layout_places t.layout).basic j))) inverse_at;
  }
    where
      s_is : (i j : ℕ) → j < height q → entries p t i (q.width + j) ≡ identity i j
      s_is i j jl = entries-after i (q.width + j) (omega arith) (omega arith) ∙ ap (λ k. identity i k) (omega arith)

      u_is : (i j : ℕ) → j < height q → with_units q.width (entry q) i ((layout_places t.layout).basic j) ≡ identity i j
      u_is i j jl = ap (λ c. with_units q.width (entry q) i c) (first.basic_is j jl)
          ∙ units-after q.width (entry q) i (q.width + j) (omega arith) ∙ ap (λ k. identity i k) (omega arith)

      entries_are : (i c : ℕ) → i < height q → c < q.width + height q →
          entries p t i c ≡ with_units q.width (entry q) i c
      entries_are i c il cl = elim (lt_cases c q.width) [
        | inl l ↦ entries-before i c il l ∙ sym (units-before q.width (entry q) i c l)
        | inr le ↦ entries-after i c le cl ∙ sym (units-after q.width (entry q) i c le)
      ]

      product_at : Agree p (height q) (q.width + height q) (entries p t)
          (product (height q) (λ i j. entries p t i (q.width + j)) (with_units q.width (entry q)))
      product_at i c il cl = ap (λ y. y % p) (entries_are i c il cl
          ∙ sym (sum_on-ext everything (height q) (λ k. entries p t i (q.width + k) * with_units q.width (entry q) k
          c) (λ k. identity i k * with_units q.width (entry q) k c)
          (λ k kl _. ap (λ y. y * with_units q.width (entry q) k c) (s_is i k kl))
          ∙ sum-identity (height q) i (λ k. with_units q.width (entry q) k c) il))

      inverse_at : IsInverse p (height q) (λ i j. entries p t i (q.width + j))
          (λ i j. with_units q.width (entry q) i ((layout_places t.layout).basic j))
      inverse_at i j il jl = ap (λ y. y % p) (
          sum_on-ext everything (height q) (λ k. entries p t i (q.width + k) * with_units q.width (entry q) k
          ((layout_places t.layout).basic j)) (λ k. identity i k * identity k j)
          (λ k kl _. ap (λ y. y * with_units q.width (entry q) k ((layout_places t.layout).basic j)) (s_is i k kl)
          ∙ ap (λ y. identity i k * y) (u_is k j jl))
          ∙ sum-identity (height q) i (λ k. identity k j) il)

-- ---- a pivot
-- other columns of the first matrix and of the last are the same
reduced-columns : (p m n n' : ℕ) (a b : ℕ → ℕ → ℕ) (r : ℕ) (k : ℕ → ℕ) (at : ℕ → ℕ) → ((j : ℕ) → j < n' → at j < n) →
    IsReduced p m n a b r k → IsReduced p m n' (λ i j. a i (at j)) (λ i j. b i (at j)) r k
reduced-columns p m n n' a b r k at below reduced = record {
  here = λ j jl. reduced.here (at j) (below j jl);
  others = λ i j il jl ne. reduced.others i (at j) il (below j jl) ne;
}

reduced-same : (p m n : ℕ) (a b c d : ℕ → ℕ → ℕ) (r : ℕ) (k l : ℕ → ℕ) → r < m →
    ((i j : ℕ) → i < m → j < n → a i j ≡ c i j) → ((i j : ℕ) → i < m → j < n → b i j ≡ d i j) →
    ((i : ℕ) → i < m → k i ≡ l i) →
    IsReduced p m n a b r k → IsReduced p m n c d r l
reduced-same p m n a b c d r k l rl ac bd kl reduced = record {
  here = λ j jl. ap (λ y. y % p) (sym (ac r j rl jl)) ∙ reduced.here j jl
      ∙ ap (λ y. y % p) (ap (λ x. x * b r j) (kl r rl) ∙ ap (λ y. l r * y) (bd r j rl jl));
  others = λ i j il jl ne. ap (λ y. y % p) (sym (ac i j il jl)) ∙ reduced.others i j il jl ne
      ∙ ap (λ y. y % p) (ap (λ y. y + k i * b r j) (bd i j il jl) ∙ ap (λ x. d i j + x * b r j) (kl i il)
      ∙ ap (λ y. d i j + l i * y) (bd r j rl jl));
}

if-choice : {A B : Type 0} (f : A → B) (b : Bool) (x y : A) → f (cond b x y) ≡ cond b (f x) (f y)
if-choice f true x y = refl
if-choice f false x y = refl

-- t with another table, and other places
abbrev pub table_with : Combined → Kept → Layout → Combined
table_with t kept layout = record {
  q = t.q;
  kept = kept;
  layout = layout;
  row_room = t.row_room;
  column_room = t.column_room;
}

module _ (p : ℕ) (prime : IsPrime p) (t : Combined) (kept : Kept) (layout : Layout) (r v : ℕ)
    (combined : IsCombined p t) (rl : r < sparse_rows t.q) (below : v < t.q.width + sparse_rows t.q)
    (free : (layout_places t.layout).is_unit v ≡ false) (places_are : layout_places layout ≡ exchanged (layout_places t.layout) r v)
    (reduced : IsReduced p (sparse_rows t.q) t.q.width (with_unit (actual p t.kept) r ((layout_places t.layout).slot v))
    (actual p kept) r (λ i. actual p t.kept i ((layout_places t.layout).slot v))) where
  abbrev m : ℕ
  m = sparse_rows t.q

  abbrev n : ℕ
  n = t.q.width

  abbrev now : Combined
  now = table_with t kept layout

  all-reduced : IsReduced p m (n + m) (entries p t) (entries p now) r (λ i. entries p t i v)
  all-reduced = subst (λ s. IsReduced p m (n + m) (entries p t) (whole s (actual p kept)) r (λ i. entries p t i v))
      (sym places_are)
      (exchanged-reduced p m n (n + m) (layout_places t.layout) (actual p t.kept) (actual p kept) r v combined.placed rl
      below free reduced)

  both : IsInverse p m (s_part p now) (with_column_as (u_part t) r (λ i. with_units n (number_in t.q) i v)) × Agree p m
      (n + m) (entries p now) (product m (s_part p now) (with_units n (number_in t.q)))
  both = first-inverse p prime m (n + m) (with_units n (number_in t.q)) (s_part p t) (u_part t) (entries p t)
      (s_part p now) (entries p now) r v rl below
      combined.product_is combined.inverse all-reduced (reduced-columns p m (n + m) m (entries p t) (entries p now) r
      (λ i. entries p t i v) (λ j. n + j) (λ j jl. omega (arith, jl)) all-reduced)

  u-is : with_column_as (u_part t) r (λ i. with_units n (number_in t.q) i v) ≡ u_part now
  u-is = fun_ext (λ i. fun_ext (λ j. sym (ap (λ (s : Places). with_units n (number_in t.q) i (s.basic j)) places_are
      ∙ if-choice (λ c. with_units n (number_in t.q) i c) (eqb j r) v ((layout_places t.layout).basic j))))

  pub pivoted-combined : kept.rows ≡ t.kept.rows → kept.columns ≡ t.kept.columns →
      rows_of_layout layout ≡ rows_of_layout t.layout → layout.columns ≡ t.layout.columns →
      IsCombined p (table_with t kept layout)
  pivoted-combined rows columns places_rows places_columns = record {
    kept_rows = rows ∙ combined.kept_rows;
    kept_columns = columns ∙ combined.kept_columns;
    layout_rows = places_rows ∙ combined.layout_rows;
    layout_columns = places_columns ∙ combined.layout_columns;
    placed = subst (λ s. HaveSlots m n (n + m) s) (sym places_are) (exchanged-placed m n (n + m) (layout_places t.layout) r v
        combined.placed rl below free);
    product_is = both.1;
    inverse = subst (λ U. IsInverse p m (s_part p now) U) u-is both.0;
  }

  pub p-reduced-by : IsReduced p m n (p_part p t) (p_part p now) r (λ i. entries p t i v)
  p-reduced-by =
      reduced-same p m n (entries p t) (entries p now) (p_part p t) (p_part p now) r (λ i. entries p t i v)
      (λ i. entries p t i v) rl
      (λ i j il jl. sym (part-within i m j n (entries p t i j) il jl))
      (λ i j il jl. sym (part-within i m j n (entries p now i j) il jl))
      (λ i il. refl)
      (reduced-columns p m (n + m) n (entries p t) (entries p now) r (λ i. entries p t i v) (λ j. j)
      (λ j jl. omega (arith, jl)) all-reduced)

  pub s-reduced-by : IsReduced p m m (s_part p t) (s_part p now) r (λ i. entries p t i v)
  s-reduced-by = reduced-columns p m (n + m) m (entries p t) (entries p now) r (λ i. entries p t i v) (λ j. n + j)
      (λ j jl. omega (arith, jl)) all-reduced

-- a pivot at a column of P, told by what it reduces
module _ (p : ℕ) (prime : IsPrime p) (t now : Combined) (r v : ℕ) (rl : r < sparse_rows t.q) (vl : v < t.q.width)
    (ne : p_part p t r v % p ≢ 0)
    (p-reduced : IsReduced p (sparse_rows t.q) t.q.width (p_part p t) (p_part p now) r (λ i. entries p t i v))
    (s-reduced : IsReduced p (sparse_rows t.q) (sparse_rows t.q) (s_part p t) (s_part p now) r (λ i. entries p t i v)) where
  p-column-reduced : IsReduced p (sparse_rows t.q) t.q.width (p_part p t) (p_part p now) r (λ i. p_part p t i v)
  p-column-reduced =
      reduced-same p (sparse_rows t.q) t.q.width (p_part p t) (p_part p now) (p_part p t) (p_part p now) r
      (λ i. entries p t i v) (λ i. p_part p t i v) rl (λ i j il jl. refl) (λ i j il jl. refl)
      (λ i il. sym (part-within i (sparse_rows t.q) v t.q.width (entries p t i v) il vl)) p-reduced

  pub pivoted-p : IsPivoted p (sparse_rows t.q) t.q.width (p_part p t) (p_part p now) r v
  pivoted-p = reduced-pivoted p prime (sparse_rows t.q) t.q.width (p_part p t) (p_part p now) r v rl vl ne p-column-reduced

  pub pivoted-stay : ZeroRowsStay p (sparse_rows t.q) t.q.width (p_part p t) (p_part p now) r v
  pivoted-stay = reduced-stay p (sparse_rows t.q) t.q.width (p_part p t) (p_part p now) r v p-column-reduced

  pub pivoted-s : ZeroColumnsStay p (sparse_rows t.q) (s_part p t) (s_part p now) r
  pivoted-s j jl z i il = keeps p prime (sparse_rows t.q) (sparse_rows t.q) (s_part p t) (s_part p now) r
      (λ i. entries p t i v) rl
      (λ zero. ne (ap (λ y. y % p) (part-within r (sparse_rows t.q) v t.q.width (entries p t r v) rl vl) ∙ zero)) s-reduced
      j jl z i il

-- ---- a pivot at a column that is a unit column already
module _ (p : ℕ) (prime : IsPrime p) (t : Combined) (r v : ℕ) (rl : r < sparse_rows t.q) (vl : v < t.q.width)
    (unit : (layout_places t.layout).is_unit v ≡ true) (ne : p_part p t r v % p ≢ 0) where
  entry-is : (i : ℕ) → i < sparse_rows t.q → p_part p t i v ≡ identity i ((layout_places t.layout).row v)
  entry-is i il = part-within i (sparse_rows t.q) v t.q.width (entries p t i v) il vl
      ∙ whole-unit (layout_places t.layout) (actual p t.kept) i v unit

  row-is : (layout_places t.layout).row v ≡ r
  row-is = elim (nat_cases ((layout_places t.layout).row v) r) [
    | inl q ↦ q
    | inr other ↦ absurd (ne (ap (λ y. y % p) (entry-is r rl
        ∙ identity-other r ((layout_places t.layout).row v) (λ q. other (sym q)))
        ∙ mod-eq_of_lt (let l : 0 < p = omega (arith, prime.above_one) in l)))
  ]

  pub row_is_unit : (layout_places t.layout).row v ≡ r
  row_is_unit = row-is

  pub unit-pivoted : IsPivoted p (sparse_rows t.q) t.q.width (p_part p t) (p_part p t) r v
  unit-pivoted = record {
    kernel = record { forward = λ X c z. z; back = λ X c z. z };
    one = ap (λ y. y % p) (entry-is r rl ∙ ap (λ k. identity r k) row-is ∙ identity-same r)
        ∙ mod-eq_of_lt prime.above_one;
    zero = λ i il apart. ap (λ y. y % p) (entry-is i il ∙ ap (λ k. identity i k) row-is ∙ identity-other i r apart)
        ∙ mod-eq_of_lt (let l : 0 < p = omega (arith, prime.above_one) in l);
    keeps = λ j jl z i il. refl;
  }

-- what the table's exchange says, at the slot that was read
pub read-reduced : (p : ℕ) (t : Combined) (kept : Kept) (r v s : ℕ) → IsCombined p t → s ≡ (layout_places t.layout).slot v →
    IsReduced p (t.kept.rows) t.kept.columns (with_unit (actual p t.kept) r s) (actual p kept) r
    (λ i. actual p t.kept i s) →
    IsReduced p (sparse_rows t.q) t.q.width (with_unit (actual p t.kept) r ((layout_places t.layout).slot v)) (actual p kept) r
    (λ i. actual p t.kept i ((layout_places t.layout).slot v))
read-reduced p t kept r v s combined e reduced =
    subst (λ x. IsReduced p (sparse_rows t.q) t.q.width (with_unit (actual p t.kept) r x) (actual p kept) r
    (λ i. actual p t.kept i x)) e
    (subst (λ m. IsReduced p m t.q.width (with_unit (actual p t.kept) r s) (actual p kept) r
    (λ i. actual p t.kept i s)) combined.kept_rows
    (subst (λ n. IsReduced p (t.kept.rows) n (with_unit (actual p t.kept) r s) (actual p kept) r
    (λ i. actual p t.kept i s)) combined.kept_columns reduced))

-- the basic columns after a pivot
pub basic-exchanged : (s : Places) (r v i : ℕ) → (exchanged s r v).basic i ≡ cond (eqb i r) v (s.basic i)
basic-exchanged s r v i = refl

pub basic-stays : (m n all : ℕ) (s : Places) (r v : ℕ) → HaveSlots m n all s → v < all → s.is_unit v ≡ true → s.row v ≡ r →
    (i : ℕ) → s.basic i ≡ cond (eqb i r) v (s.basic i)
basic-stays m n all s r v placed vl unit row i = elim (nat_cases i r) [
  | inl q ↦ ap s.basic q ∙ ap s.basic (sym row) ∙ placed.row_basic v vl unit ∙ sym (chosen i r v (s.basic i) q)
  | inr ne ↦ sym (other i r v (s.basic i) ne)
]
  where
    chosen : (i r x y : ℕ) → i ≡ r → cond (eqb i r) x y ≡ x
    chosen i r x y q = grind (arith, nat_tests)

    other : (i r x y : ℕ) → i ≢ r → cond (eqb i r) x y ≡ y
    other i r x y ne = grind (arith, nat_tests)
