-- Parts that keep the rules are a form, with an order of its blocks.
use Rattle.std.proofs.Common.{◌≡◌, ◌+◌, ◌-◌, ◌%◌, ◌<◌, ◌≤◌, ◌≢◌, ◌⊎◌, ◌∙◌, ℕ, Bool, true, false, inl, inr, refl, ap, sym, subst, arith}
use Rattle.residue_theory.proofs.CountLaws.{pair-columns, pair-columns-equal, pair-columns-less, size-injection, size-positive, size-surjection, size-zero}
use Rattle.residue_theory.proofs.SetLaws.{both-first, both-second, both_true, differ, eqb_from, eqb_true, first_on, not_true, zero_cases}
use Rattle.residue_theory.proofs.SumLaws.{member-without, sum_on-without}
use Rattle.residue_theory.specs.Residues.{IsPrime}
use Rattle.residue_theory.specs.Sets.{both, without}
use Rattle.residue_theory.specs.Sums.{size_on}
use Rattle.linear_algebra.specs.Parts.{in_part}
use Rattle.linear_algebra_laws.proofs.Products.{inverse-swap}
use Rattle.closed_sets.proofs.WalkLaws.{reaches-arc, reaches-self}
use Rattle.mixed_matrices.specs.Arcs.{IsFromFree, ReachesEnd, has_base, has_match, leads_to}
use Rattle.mixed_matrices.specs.CanonicalParts.{IsOfBlock}
use Rattle.mixed_matrices.specs.CheckerRules.{KeepsPartRules, block_of}
use Rattle.mixed_matrices.specs.Forms.{IsEmptyAt, IsForm, IsOrdered, Parts, diagonal_part, part_columns, part_rows, transformed}
use Rattle.mixed_matrices.specs.LayeredMatrices.{LayeredMatrix}
use Rattle.mixed_matrices.specs.Pairs.{pair_size}
use Rattle.mixed_matrices.specs.StructuralRanks.{IsLayeredRank}
use Rattle.mixed_matrices.specs.Tableaus.{IsTableau, Tableau}
use Rattle.mixed_pair_laws.proofs.ArcFacts.{EndsInQ, EndsInT, base_found, end-q, end-t, end-tells, free-tells, leads-q, leads-t, match_found, no_base, no_match}
use Rattle.mixed_pair_laws.proofs.TableauParts.{full_columns-rank, full_rows-rank}
use Rattle.mixed_form_laws.proofs.CheckedParts.{block-held, end-last, entry-falls, first-from, free-first, last-to}
use Rattle.mixed_form_laws.proofs.CheckedParts.{of_block-middle, of_block-number, symbol-falls}

zero_or : (x : ℕ) → (x ≡ 0) ⊎ (0 < x)
zero_or x = grind arith

module _ (p : ℕ) (prime : IsPrime p) (L : LayeredMatrix) (S U : ℕ → ℕ → ℕ) (F : Tableau) (tab : IsTableau p L S U F) (G : Parts) (below lower : ℕ → ℕ → Bool)
    (K : KeepsPartRules p L F G below lower) where
  abbrev C : ℕ → ℕ → Bool
  C k = in_part G.column k

  -- ---- the rows of each part
  base_of : (i : ℕ) → ((b : ℕ) × (b < L.columns) × (F.base b ≡ true) × (F.row b ≡ i)) ⊎ (has_base L F i ≡ false)
  base_of i = go (has_base L F i) refl
    where
      go : (v : Bool) → has_base L F i ≡ v → ((b : ℕ) × (b < L.columns) × (F.base b ≡ true) × (F.row b ≡ i)) ⊎ (has_base L F i ≡ false)
      go true e = inl (base_found L F i e)
      go false e = inr e

  mate_of : (i : ℕ) → ((j : ℕ) × (j < L.columns) × (F.matched j ≡ true) × (F.mate j ≡ i)) ⊎ (has_match L F i ≡ false)
  mate_of i = go (has_match L F i) refl
    where
      go : (v : Bool) → has_match L F i ≡ v → ((j : ℕ) × (j < L.columns) × (F.matched j ≡ true) × (F.mate j ≡ i)) ⊎ (has_match L F i ≡ false)
      go true e = inl (match_found L F i e)
      go false e = inr e

  -- a row of a part before the last has its base column in the part
  q_inside : (k i : ℕ) → k ≤ G.blocks → i < L.q_rows → in_part G.q_row k i ≡ true → (b : ℕ) × (b < L.columns) × (both F.base (C k) b ≡ true) × (F.row b ≡ i)
  q_inside k i kl il h = elim (base_of i) [
    | inl f ↦ (
      f.0,
      f.1,
      both_true (F.base f.0) (C k f.0) f.2
          (eqb_from (G.column f.0) k (sym (K.rows.base f.0 f.1 f.2) ∙ ap G.q_row f.3 ∙ eqb_true (G.q_row i) k h)),
      f.3,
    )
    | inr none ↦ absurd (omega (arith, K.rows.other_q i il none, eqb_true (G.q_row i) k h))
  ]

  t_inside : (k i : ℕ) → k ≤ G.blocks → i < L.t_rows → in_part G.t_row k i ≡ true → (b : ℕ) × (b < L.columns) × (both F.matched (C k) b ≡ true) × (F.mate b ≡ i)
  t_inside k i kl il h = elim (mate_of i) [
    | inl f ↦ (
      f.0,
      f.1,
      both_true (F.matched f.0) (C k f.0) f.2
          (eqb_from (G.column f.0) k (sym (K.rows.matched f.0 f.1 f.2) ∙ ap G.t_row f.3 ∙ eqb_true (G.t_row i) k h)),
      f.3,
    )
    | inr none ↦ absurd (omega (arith, K.rows.other_t i il none, eqb_true (G.t_row i) k h))
  ]

  row_in : (k b : ℕ) → b < L.columns → F.base b ≡ true → C k b ≡ true → in_part G.q_row k (F.row b) ≡ true
  row_in k b bl bh h = eqb_from (G.q_row (F.row b)) k (K.rows.base b bl bh ∙ eqb_true (G.column b) k h)

  mate_in : (k b : ℕ) → b < L.columns → F.matched b ≡ true → C k b ≡ true → in_part G.t_row k (F.mate b) ≡ true
  mate_in k b bl bh h = eqb_from (G.t_row (F.mate b)) k (K.rows.matched b bl bh ∙ eqb_true (G.column b) k h)

  q_into : (k : ℕ) (E : ℕ → Bool) → ((b : ℕ) → b < L.columns → both F.base (C k) b ≡ true → E (F.row b) ≡ true) →
      size_on (both F.base (C k)) L.columns ≤ size_on E L.q_rows
  q_into k E inside = size-injection (both F.base (C k)) L.columns F.row L.q_rows E (λ b bl h. tab.base.row_below b bl (both-first (F.base b) (C k b) h)) inside
      (λ b c bl cl h g q. tab.base.distinct b c bl cl (both-first (F.base b) (C k b) h) (both-first (F.base c) (C k c) g) q)

  t_into : (k : ℕ) (E : ℕ → Bool) → ((b : ℕ) → b < L.columns → both F.matched (C k) b ≡ true → E (F.mate b) ≡ true) →
      size_on (both F.matched (C k)) L.columns ≤ size_on E L.t_rows
  t_into k E inside = size-injection (both F.matched (C k)) L.columns F.mate L.t_rows E
      (λ b bl h. tab.matching.below b bl (both-first (F.matched b) (C k b) h)) inside
      (λ b c bl cl h g q. tab.matching.distinct b c bl cl (both-first (F.matched b) (C k b) h) (both-first (F.matched c) (C k c) g) q)

  -- the base and matched columns of part k
  abbrev pairs : ℕ → ℕ
  pairs k = pair_size L (both F.base (C k)) (both F.matched (C k))

  q_least : (k : ℕ) → size_on (both F.base (C k)) L.columns ≤ size_on (in_part G.q_row k) L.q_rows
  q_least k = q_into k (in_part G.q_row k) (λ b bl h. row_in k b bl (both-first (F.base b) (C k b) h) (both-second (F.base b) (C k b) h))

  t_least : (k : ℕ) → size_on (both F.matched (C k)) L.columns ≤ size_on (in_part G.t_row k) L.t_rows
  t_least k = t_into k (in_part G.t_row k) (λ b bl h. mate_in k b bl (both-first (F.matched b) (C k b) h) (both-second (F.matched b) (C k b) h))

  rows-pairs : (k : ℕ) → k ≤ G.blocks → part_rows (transformed S L) G k ≡ pairs k
  rows-pairs k kl = omega (
    arith,
    q_least k,
    t_least k,
    size-surjection (both F.base (C k)) L.columns F.row L.q_rows (in_part G.q_row k) (λ i il h. q_inside k i kl il h),
    size-surjection (both F.matched (C k)) L.columns F.mate L.t_rows (in_part G.t_row k) (λ i il h. t_inside k i kl il h),
  )

  -- after the first tail each column is in the base or matched
  paired : (k j : ℕ) → 0 < k → j < L.columns → C k j ≡ true → F.base j ≡ false → F.matched j ≡ true
  paired k j pos jl h b = go (F.matched j) refl
    where
      go : (t : Bool) → F.matched j ≡ t → F.matched j ≡ true
      go true e = e
      go false e = absurd (omega (arith, free-first p L F G below lower K j jl b e, eqb_true (G.column j) k h))

  columns-pairs : (k : ℕ) → 0 < k → pairs k ≡ part_columns (transformed S L) G k
  columns-pairs k pos = pair-columns-equal F.base F.matched (C k) L.columns tab.apart (λ j jl h b. paired k j pos jl h b)

  -- ---- no entry below the diagonal parts
  empty-q : (i j : ℕ) → i < L.q_rows → j < L.columns → F.P i j % p ≢ 0 → G.q_row i ≤ G.column j
  empty-q i j il jl ne = elim (base_of i) [
    | inl f ↦ omega (
      arith,
      entry-falls p L F G below lower K j f.0 jl f.1 f.2
          (subst (λ k. F.P k j % p ≢ 0) (sym f.3) ne),
      K.rows.base f.0 f.1 f.2,
      ap G.q_row f.3,
    )
    | inr none ↦ omega (arith, end-last p L F G below lower K j jl (end-q p L F j i il ne none), K.rows.other_q i il none)
  ]

  empty-t : (i j : ℕ) → i < L.t_rows → j < L.columns → L.t i j ≡ true → G.t_row i ≤ G.column j
  empty-t i j il jl s = elim (mate_of i) [
    | inl f ↦ omega (
      arith,
      symbol-falls p L F G below lower K j f.0 jl f.1 f.2
          (subst (λ k. L.t k j ≡ true) (sym f.3) s),
      K.rows.matched f.0 f.1 f.2,
      ap G.t_row f.3,
    )
    | inr none ↦ omega (arith, end-last p L F G below lower K j jl (end-t p L F j i il s none), K.rows.other_t i il none)
  ]

  empty : (k l : ℕ) → l < k → IsEmptyAt p (transformed S L) G k l
  empty k l less = record {
    q = λ i j il jl a b. elim (zero_cases (F.P i j % p)) [ inl z ↦ sym (tab.product i j il jl) ∙ z | inr ne ↦ absurd (omega (arith, empty-q i j il jl ne)) ];
    t = λ i j il jl a b. not_true (L.t i j) (λ s. omega (arith, empty-t i j il jl s));
  }

  q_bound : (i : ℕ) → i < L.q_rows → G.q_row i ≤ G.blocks + 1
  q_bound i il = elim (base_of i) [
    | inl f ↦ omega (arith, K.rows.base f.0 f.1 f.2, ap G.q_row f.3, K.rows.columns f.0 f.1)
    | inr none ↦ omega (arith, K.rows.other_q i il none)
  ]

  t_bound : (i : ℕ) → i < L.t_rows → G.t_row i ≤ G.blocks + 1
  t_bound i il = elim (mate_of i) [
    | inl f ↦ omega (arith, K.rows.matched f.0 f.1 f.2, ap G.t_row f.3, K.rows.columns f.0 f.1)
    | inr none ↦ omega (arith, K.rows.other_t i il none)
  ]

  -- ---- a column in the last tail: a row without base or match stands there too
  more_rows : (e : ℕ) → EndsInQ p L F e ⊎ EndsInT p L F e → pairs (G.blocks + 1) < part_rows (transformed S L) G (G.blocks + 1)
  more_rows e (inl (i, il, ne, none)) = omega (
    arith,
    t_least (G.blocks + 1),
    q_into (G.blocks + 1) (without (in_part G.q_row (G.blocks + 1)) i) (λ b bl h. member-without (in_part G.q_row (G.blocks + 1)) i (F.row b)
        (row_in (G.blocks + 1) b bl (both-first (F.base b) (C (G.blocks + 1) b) h) (both-second (F.base b) (C (G.blocks + 1) b) h))
        (no_base L F i none b bl (both-first (F.base b) (C (G.blocks + 1) b) h))),
    sum_on-without (in_part G.q_row (G.blocks + 1)) L.q_rows i (λ _. 1) il (eqb_from (G.q_row i) (G.blocks + 1) (K.rows.other_q i il none)),
  )
  more_rows e (inr (i, il, s, none)) = omega (
    arith,
    q_least (G.blocks + 1),
    t_into (G.blocks + 1) (without (in_part G.t_row (G.blocks + 1)) i) (λ b bl h. member-without (in_part G.t_row (G.blocks + 1)) i (F.mate b)
        (mate_in (G.blocks + 1) b bl (both-first (F.matched b) (C (G.blocks + 1) b) h) (both-second (F.matched b) (C (G.blocks + 1) b) h))
        (no_match L F i none b bl (both-first (F.matched b) (C (G.blocks + 1) b) h))),
    sum_on-without (in_part G.t_row (G.blocks + 1)) L.t_rows i (λ _. 1) il (eqb_from (G.t_row i) (G.blocks + 1) (K.rows.other_t i il none)),
  )

  first_size : (part_rows (transformed S L) G 0 < part_columns (transformed S L) G 0)
      ⊎ ((part_rows (transformed S L) G 0 ≡ 0) × (part_columns (transformed S L) G 0 ≡ 0))
  first_size = elim (first_on (C 0) L.columns) [
    | inl f ↦ inl (fewer (first-from p L F G below lower K f.0 f.1 (eqb_true (G.column f.0) 0 f.2)))
    | inr none ↦ inr (
      omega (
        arith,
        rows-pairs 0 (omega arith),
        pair-columns F.base F.matched (C 0) L.columns tab.apart,
        size-zero (C 0) L.columns none,
      ),
      size-zero (C 0) L.columns none,
    )
  ]
    where
      fewer : {x : ℕ} → IsFromFree p L F x → part_rows (transformed S L) G 0 < part_columns (transformed S L) G 0
      fewer (s, sl, sh, _) = let free : (F.base s ≡ false) × (F.matched s ≡ false) = free-tells F s sh in omega (
        arith,
        rows-pairs 0 (omega arith),
        pair-columns-less F.base F.matched (C 0) L.columns tab.apart s sl
            (eqb_from (G.column s) 0 (free-first p L F G below lower K s sl free.0 free.1)) free.0 free.1,
      )

  last_size : (part_columns (transformed S L) G (G.blocks + 1) < part_rows (transformed S L) G (G.blocks + 1)) ⊎
      ((part_rows (transformed S L) G (G.blocks + 1) ≡ 0) × (part_columns (transformed S L) G (G.blocks + 1) ≡ 0))
  last_size = elim (first_on (C (G.blocks + 1)) L.columns) [
    | inl f ↦ inl (more (last-to p L F G below lower K f.0 f.1 (eqb_true (G.column f.0) (G.blocks + 1) f.2)))
    | inr none ↦ elim (zero_or (part_rows (transformed S L) G (G.blocks + 1))) [
      | inl z ↦ inr (z, size-zero (C (G.blocks + 1)) L.columns none)
      | inr pos ↦ inl (omega (arith, size-zero (C (G.blocks + 1)) L.columns none))
    ]
  ]
    where
      more : {x : ℕ} → ReachesEnd p L F x → part_columns (transformed S L) G (G.blocks + 1) < part_rows (transformed S L) G (G.blocks + 1)
      more (e, el, eh, _) = omega (arith, more_rows e (end-tells p L F e eh), columns-pairs (G.blocks + 1) (omega arith))

  square : (k : ℕ) → 1 ≤ k → k ≤ G.blocks → (part_rows (transformed S L) G k ≡ part_columns (transformed S L) G k) × (0 < part_columns (transformed S L) G k)
  square k low high = (rows-pairs k high ∙ columns-pairs k (omega arith), held (block-held p L F G below lower K (k - 1) (omega arith)))
    where
      held : (x : ℕ) × IsOfBlock L G (k - 1) x → 0 < part_columns (transformed S L) G k
      held (x, o) = size-positive (C k) L.columns x o.0 (eqb_from (G.column x) k (omega (arith, o.2)))

  pub checked-form : IsForm p L S G
  checked-form = (
    (U, tab.inverse, inverse-swap p prime L.q_rows S U tab.inverse),
    record {
      columns = K.rows.columns;
      q_rows = q_bound;
      t_rows = t_bound;
      empty = empty;
      first = first_size;
      square = square;
      last = last_size;
      row_rank = λ k kl. subst (λ r. IsLayeredRank p (diagonal_part (transformed S L) G k) r) (sym (rows-pairs k kl))
          (full_rows-rank p prime L S U F tab (in_part G.q_row k) (in_part G.t_row k) (C k) (row_in k) (mate_in k)
          (λ i il h. q_inside k i kl il h) (λ i il h. t_inside k i kl il h));
      column_rank = subst (λ r. IsLayeredRank p (diagonal_part (transformed S L) G (G.blocks + 1)) r) (columns-pairs (G.blocks + 1) (omega arith))
          (full_columns-rank p prime L S U F tab (in_part G.q_row (G.blocks + 1)) (in_part G.t_row (G.blocks + 1))
          (C (G.blocks + 1)) (row_in (G.blocks + 1)) (mate_in (G.blocks + 1))
          (λ j jl h a b. differ b (paired (G.blocks + 1) j (omega arith) jl h a)));
    },
  )

  -- ---- the order of the blocks
  -- an arc from a column of block l to one of block k shows that k is below l
  arc-below : (k l x y : ℕ) → k ≢ l → IsOfBlock L G l x → IsOfBlock L G k y → leads_to p L F x y ≡ true → below k l ≡ true
  arc-below k l x y ne ox oy a = subst (λ i. below i l ≡ true) (of_block-number p L F G below lower K k y oy)
      (subst (λ i. below (block_of G y) i ≡ true) (of_block-number p L F G below lower K l x ox)
      (K.order.made x y (of_block-middle p L F G below lower K l x ox) (of_block-middle p L F G below lower K k y oy)
      (reaches-arc (leads_to p L F) L.columns x x y (reaches-self (leads_to p L F) L.columns x) ox.0 a)
      (λ q. ne (sym (of_block-number p L F G below lower K k y oy) ∙ q ∙ of_block-number p L F G below lower K l x ox))))

  parted : (k l x y : ℕ) → k ≢ l → IsOfBlock L G l x → IsOfBlock L G k y → x ≢ y
  parted k l x y ne ox oy q = omega (arith, ox.2, oy.2, ap G.column q)

  pub checked-ordered : IsOrdered p L S G (λ k l. below k l ≡ true)
  checked-ordered k l kl ll ne not_below = record {
    q = λ i j il jl iq jq. elim (zero_cases (F.P i j % p)) [ inl z ↦ sym (tab.product i j il jl) ∙ z | inr o ↦ absurd (not_below (q_entry i j il jl iq jq o)) ];
    t = λ i j il jl iq jq. not_true (L.t i j) (λ s. not_below (t_entry i j il jl iq jq s));
  }
    where
      q_entry : (i j : ℕ) → i < L.q_rows → j < L.columns → G.q_row i ≡ k + 1 → G.column j ≡ l + 1 → F.P i j % p ≢ 0 → below k l ≡ true
      q_entry i j il jl iq jq o = elim (base_of i) [
        | inl f ↦ let oy : IsOfBlock L G k f.0 = (f.1, kl, sym (K.rows.base f.0 f.1 f.2) ∙ ap G.q_row f.3 ∙ iq) in
            arc-below k l j f.0 ne (jl, ll, jq) oy (leads-q p L F j f.0 (parted k l j f.0 ne (jl, ll, jq) oy) f.2 (subst (λ h. F.P h j % p ≢ 0) (sym f.3) o))
        | inr none ↦ absurd (omega (arith, K.rows.other_q i il none))
      ]

      t_entry : (i j : ℕ) → i < L.t_rows → j < L.columns → G.t_row i ≡ k + 1 → G.column j ≡ l + 1 → L.t i j ≡ true → below k l ≡ true
      t_entry i j il jl iq jq s = elim (mate_of i) [
        | inl f ↦ let oy : IsOfBlock L G k f.0 = (f.1, kl, sym (K.rows.matched f.0 f.1 f.2) ∙ ap G.t_row f.3 ∙ iq) in
            arc-below k l j f.0 ne (jl, ll, jq) oy (leads-t p L F j f.0 (parted k l j f.0 ne (jl, ll, jq) oy) f.2 (subst (λ h. L.t h j ≡ true) (sym f.3) s))
        | inr none ↦ absurd (omega (arith, K.rows.other_t i il none))
      ]
