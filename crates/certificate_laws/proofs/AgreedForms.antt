-- Right forms of one model agree.
use Rattle.std.proofs.Common.{◌≡◌, ℕ, ◌+◌, ◌<◌, ◌≤◌, ◌↔◌, Bool, true, eqb, List, [], length, map, get_or, ap, sym, subst, ◌∙◌, arith}
use Rattle.std.specs.List.{All}
use Rattle.std.proofs.lemmas.List.{get_or_default, get_or-map, length-map, same_lists}
use Rattle.residue_theory.specs.Residues.{IsPrime}
use Rattle.residue_theory.specs.Sums.{size_on}
use Rattle.residue_theory.proofs.SumLaws.{sum_on-same}
use Rattle.linear_algebra.specs.Parts.{in_part}
use Rattle.linear_algebra.specs.Products.{Agree as AreAlike}
use Rattle.mixed_matrices.specs.CanonicalParts.{AreCanonical, IsBlockBelow, IsLowerBlock}
use Rattle.mixed_matrices.specs.Forms.{IsForm, Parts}
use Rattle.mixed_matrices.specs.LayeredMatrices.{AreSameLayers, LayeredMatrix}
use Rattle.mixed_matrices.specs.Layerings.{IsLayeredMatrixOf, Origins, gives_q, has_symbol}
use Rattle.mixed_matrices.specs.Models.{MixedMatrix, value}
use Rattle.mixed_matrices.specs.SetFunctions.{IsMinimiser}
use Rattle.mixed_pair_laws.proofs.PairRank.{greatest-unique}
use Rattle.mixed_form_laws.proofs.CanonicalForm.{canonical-one}
use Rattle.mixed_form_laws.proofs.RowSizes.{same-rows}
use Rattle.cert_text.specs.Contents.{Contents}
use Rattle.cert_text.specs.declared.part.CcfBlock.{CcfBlock}
use Rattle.cert_text.specs.declared.shape.Shape.{Shape}
use Rattle.cert_text.specs.Ranges.{AreRising, IsCcf}
use Rattle.cert_text.specs.Readings.{matrix_of, pattern_of, column_lists, q_row_lists, t_row_lists, parts_of, lower_of, tableau_of, StandsOnce}
use Rattle.cert_text.specs.Right.{IsRightCcf}
use Rattle.cert_text.proofs.PrintedRules.{KeepsPrintedRules}
use Rattle.cert_text.proofs.RuleFacts.{right-rules}
use Rattle.certificate_laws.specs.Agreement.{AgreeInParts, lower_lists}
use Rattle.certificate_laws.proofs.OneMatrix.{one-matrix}
use Rattle.certificate_laws.proofs.PlacedLists.{columns-long, columns-rise, place-counted, q_rows-long, q_rows-rise, same-places, t_rows-long, t_rows-rise}
use Rattle.certificate_laws.proofs.PlacedRows.{AreTold, are-told, one-part, same-told}
use Rattle.certificate_laws.proofs.RisingLists.{same-lists}
use Rattle.certificate_laws.proofs.SameLayers.{lower-same, resized, same-canonical, same-form, same-lower, same-minimiser, with_entries}

same-shape : (a b : Shape) → a.equations ≡ b.equations → a.unknowns ≡ b.unknowns → a.q_rows ≡ b.q_rows → a.t_rows ≡ b.t_rows → a.columns ≡ b.columns → a ≡ b
same-shape a b e u q t n =
    ap (λ x. shape x a.unknowns a.q_rows a.t_rows a.columns) e ∙ ap (λ x. shape b.equations x a.q_rows a.t_rows a.columns) u
    ∙ ap (λ x. shape b.equations b.unknowns x a.t_rows a.columns) q ∙ ap (λ x. shape b.equations b.unknowns b.q_rows x a.columns) t
    ∙ ap (λ x. shape b.equations b.unknowns b.q_rows b.t_rows x) n
  where
    shape : ℕ → ℕ → ℕ → ℕ → ℕ → Shape
    shape e u q t n = record { equations = e; unknowns = u; q_rows = q; t_rows = t; columns = n }

-- lower blocks are told by the columns of the blocks
moved-below : (p : ℕ) (L : LayeredMatrix) (G H : Parts) → G.blocks ≡ H.blocks → ((x : ℕ) → x < L.columns → G.column x ≡ H.column x) →
    (k l : ℕ) → IsBlockBelow p L G k l → IsBlockBelow p L H k l
moved-below p L G H blocks same k l b = (
  b.0,
  λ x y ox oy. b.1 x y
      (ox.0, subst (λ n. k < n) (sym blocks) ox.1, same x ox.0 ∙ ox.2) (oy.0, subst (λ n. l < n) (sym blocks) oy.1, same y oy.0 ∙ oy.2),
)

moved-lower : (p : ℕ) (L : LayeredMatrix) (G H : Parts) → G.blocks ≡ H.blocks → ((x : ℕ) → x < L.columns → G.column x ≡ H.column x) →
    (k l : ℕ) → IsLowerBlock p L G k l → IsLowerBlock p L H k l
moved-lower p L G H blocks same k l b = record {
  below = moved-below p L G H blocks same k l b.below;
  none_between = λ h hl one two. b.none_between h (subst (λ n. h < n) (sym blocks) hl)
      (moved-below p L H G (sym blocks) (λ x xl. sym (same x xl)) k h one) (moved-below p L H G (sym blocks) (λ x xl. sym (same x xl)) h l two);
}

no_block : CcfBlock
no_block = record { part = record { columns = []; q_rows = []; t_rows = [] }; lower = [] }

lower-rises : (p : ℕ) (c : Contents) → IsCcf p c → (l : ℕ) → l < length c.blocks → AreRising l (get_or (lower_lists c) l [])
lower-rises p c is l ll = subst (λ list. AreRising l list)
    (sym (get_or-map (λ (block : CcfBlock). block.lower) c.blocks l no_block [] ll)) (is.blocks l no_block ll).lower

lower-long : (c : Contents) → length (lower_lists c) ≡ length c.blocks
lower-long c = length-map c.blocks (λ (block : CcfBlock). block.lower)

-- lists that are the same at each place, and lists of lists as long at each place
at-each : (xs ys : List (List ℕ)) → length xs ≡ length ys → ((k : ℕ) → k < length xs → get_or xs k [] ≡ get_or ys k []) → xs ≡ ys
at-each xs ys long each = same_lists xs ys long
    (λ k d kl. get_or_default xs k d [] kl ∙ each k kl ∙ get_or_default ys k [] d (subst (λ m. k < m) long kl))

lengths : (xs ys : List (List ℕ)) → length xs ≡ length ys → ((k : ℕ) → k < length xs → length (get_or xs k []) ≡ length (get_or ys k [])) →
    map (λ (rows : List ℕ). length rows) xs ≡ map (λ (rows : List ℕ). length rows) ys
lengths xs ys long each = same_lists (map f xs) (map f ys) (length-map xs f ∙ long ∙ sym (length-map ys f))
    (λ k d kl.
    let low : k < length xs = subst (λ n. k < n) (length-map xs f) kl in
    get_or-map f xs k [] d low ∙ each k low ∙ sym (get_or-map f ys k [] d (subst (λ n. k < n) long low)))
  where
    f : List ℕ → ℕ
    f rows = length rows

minus : (a b x y : ℕ) → a + x ≡ b + y → x ≡ y → a ≡ b
minus a b x y e f = omega arith

module _ (p : ℕ) (prime : IsPrime p) (big : 2 < p) (M : MixedMatrix) (L K : LayeredMatrix) (O N : Origins)
    (lay : IsLayeredMatrixOf M L O) (other : IsLayeredMatrixOf M K N)
    (c d : Contents) (is : IsCcf p c) (so : IsCcf p d) (R : IsRightCcf p M L O c) (Q : IsRightCcf p M K N d) where
  -- ---- one layered matrix
  same : AreSameLayers p L K
  same = one-matrix M (gives_q M) (has_symbol M) L K O N lay other p

  symbols : (i j : ℕ) → i < L.t_rows → j < L.columns → K.t i j ≡ L.t i j
  symbols i j il jl = sym (same.t i j il jl)

  constants : AreAlike p L.q_rows L.columns K.q L.q
  constants i j il jl = sym (same.q i j il jl)

  in_size : (E : LayeredMatrix → Type 0) → E K → E (with_entries L K.q K.t)
  in_size E = resized E L K same.q_rows same.t_rows same.columns

  into : (X : ℕ → Bool) → IsMinimiser p (with_entries L K.q K.t) X → IsMinimiser p L X
  into = same-minimiser p L K.q K.t same.q symbols

  from : (X : ℕ → Bool) → IsMinimiser p L X → IsMinimiser p (with_entries L K.q K.t) X
  from = same-minimiser p (with_entries L K.q K.t) L.q L.t constants same.t

  form : IsForm p L (matrix_of c.s) (parts_of c)
  form = (R.block_triangular_form).form

  form_of : IsForm p L (matrix_of d.s) (parts_of d)
  form_of = same-form p L K.q K.t constants symbols (matrix_of d.s) (parts_of d)
      (in_size (λ A. IsForm p A (matrix_of d.s) (parts_of d)) (Q.block_triangular_form).form)

  canonical_of : AreCanonical p L (parts_of d)
  canonical_of = same-canonical p L K.q K.t into from (parts_of d) (in_size (λ A. AreCanonical p A (parts_of d)) (Q.canonical_listing).parts)

  -- ---- the parts
  one : (length c.blocks ≡ length d.blocks) × ((x : ℕ) → x < L.columns → (parts_of c).column x ≡ (parts_of d).column x)
  one = canonical-one p prime L (parts_of c) (parts_of d) (R.canonical_listing).parts canonical_of

  columns-once : StandsOnce L.columns (column_lists d)
  columns-once = subst (λ n. StandsOnce n (column_lists d)) (sym same.columns) (Q.block_triangular_form).columns

  q_rows-once : StandsOnce L.q_rows (q_row_lists d)
  q_rows-once = subst (λ n. StandsOnce n (q_row_lists d)) (sym same.q_rows) (Q.block_triangular_form).q_rows

  t_rows-once : StandsOnce L.t_rows (t_row_lists d)
  t_rows-once = subst (λ n. StandsOnce n (t_row_lists d)) (sym same.t_rows) (Q.block_triangular_form).t_rows

  as-long : (xs ys : List (List ℕ)) → length xs ≡ length c.blocks + 2 → length ys ≡ length d.blocks + 2 → length xs ≡ length ys
  as-long xs ys e f = omega (arith, e, f, one.0)

  columns-agree : column_lists c ≡ column_lists d
  columns-agree = same-places L.columns (column_lists c) (column_lists d)
      (subst (λ n. All (AreRising n) (column_lists c)) (R.shape).columns (columns-rise p c is))
      (subst (λ n. All (AreRising n) (column_lists d)) ((Q.shape).columns ∙ sym same.columns) (columns-rise p d so))
      (R.block_triangular_form).columns columns-once (as-long (column_lists c) (column_lists d) (columns-long c) (columns-long d)) one.1

  -- ---- the T rows
  symbol-same : (i j : ℕ) → i < L.t_rows → j < L.columns → pattern_of c.t i j ≡ pattern_of d.t i j
  symbol-same i j il jl = ((R.transform).product_is).t i j il jl ∙ same.t i j il jl
      ∙ sym (((Q.transform).product_is).t i j (subst (λ m. i < m) same.t_rows il) (subst (λ n. j < n) same.columns jl))

  t-agree : c.t ≡ d.t
  t-agree = at-each c.t d.t ((is.t).count ∙ (R.shape).t_rows ∙ same.t_rows ∙ sym (Q.shape).t_rows ∙ sym (so.t).count)
      (λ i il.
      let low : i < L.t_rows = subst (λ m. i < m) ((is.t).count ∙ (R.shape).t_rows) il in
      let other_low : i < length d.t = subst (λ m. i < m) (same.t_rows ∙ sym (Q.shape).t_rows ∙ sym (so.t).count) low in
      same-lists L.columns (get_or c.t i []) (get_or d.t i [])
      (subst (λ n. AreRising n (get_or c.t i [])) (R.shape).columns ((is.t).columns i [] il))
      (subst (λ n. AreRising n (get_or d.t i [])) ((Q.shape).columns ∙ sym same.columns) ((so.t).columns i [] other_low))
      (λ j jl h. sym (symbol-same i j low jl) ∙ h) (λ j jl h. symbol-same i j low jl ∙ h))

  told : AreTold L (parts_of c)
  told =
      let K : KeepsPrintedRules p M L c = right-rules p prime big M L O lay c is R in
      are-told p L (matrix_of c.s) (tableau_of c) (parts_of c) form ((K.checked).parts).rows ((R.pair_and_rank).pair).matching

  told_of : AreTold L (parts_of d)
  told_of =
      let rules : KeepsPrintedRules p M K d = right-rules p prime big M K N other d so Q in
      same-told L K.q K.t (parts_of d) symbols (in_size (λ A. AreTold A (parts_of d))
      (are-told p K (matrix_of d.s) (tableau_of d) (parts_of d) (Q.block_triangular_form).form ((rules.checked).parts).rows ((Q.pair_and_rank).pair).matching))

  t_part : (i : ℕ) → i < L.t_rows → (parts_of c).t_row i ≡ (parts_of d).t_row i
  t_part = one-part L (parts_of c) (parts_of d) told told_of one.0 one.1

  t_rows-agree : t_row_lists c ≡ t_row_lists d
  t_rows-agree = same-places L.t_rows (t_row_lists c) (t_row_lists d)
      (subst (λ n. All (AreRising n) (t_row_lists c)) (R.shape).t_rows (t_rows-rise p c is))
      (subst (λ n. All (AreRising n) (t_row_lists d)) ((Q.shape).t_rows ∙ sym same.t_rows) (t_rows-rise p d so))
      (R.block_triangular_form).t_rows t_rows-once (as-long (t_row_lists c) (t_row_lists d) (t_rows-long c) (t_rows-long d)) t_part

  -- ---- the numbers of Q rows
  t-counted : (k : ℕ) → size_on (in_part (parts_of c).t_row k) L.t_rows ≡ size_on (in_part (parts_of d).t_row k) L.t_rows
  t-counted k = sum_on-same (in_part (parts_of c).t_row k) (in_part (parts_of d).t_row k) L.t_rows (λ _. 1) (λ i il. ap (λ r. eqb r k) (t_part i il))

  q-counted : (k : ℕ) → k ≤ length c.blocks + 1 → size_on (in_part (parts_of c).q_row k) L.q_rows ≡ size_on (in_part (parts_of d).q_row k) L.q_rows
  q-counted k le = minus (size_on (in_part (parts_of c).q_row k) L.q_rows) (size_on (in_part (parts_of d).q_row k) L.q_rows)
      (size_on (in_part (parts_of c).t_row k) L.t_rows) (size_on (in_part (parts_of d).t_row k) L.t_rows)
      (same-rows p prime L (matrix_of c.s) (matrix_of d.s) (parts_of c) (parts_of d) form form_of one.0 one.1 k le) (t-counted k)

  q-long : (k : ℕ) → k < length (q_row_lists c) → length (get_or (q_row_lists c) k []) ≡ length (get_or (q_row_lists d) k [])
  q-long k kl =
      let other_long : k < length (q_row_lists d) = subst (λ n. k < n) (as-long (q_row_lists c) (q_row_lists d) (q_rows-long c) (q_rows-long d)) kl in
      place-counted L.q_rows (q_row_lists c) (subst (λ n. All (AreRising n) (q_row_lists c)) (R.shape).q_rows
      (q_rows-rise p c is)) (R.block_triangular_form).q_rows k kl
      ∙ q-counted k (omega (arith, kl, q_rows-long c))
      ∙ sym (place-counted L.q_rows (q_row_lists d) (subst (λ n. All (AreRising n) (q_row_lists d)) ((Q.shape).q_rows
      ∙ sym same.q_rows) (q_rows-rise p d so)) q_rows-once k other_long)

  -- ---- the lower lists
  lists_of : (k l : ℕ) → k < length d.blocks → l < length d.blocks → (lower_of d l k ≡ true) ↔ IsLowerBlock p (with_entries L K.q K.t) (parts_of d) k l
  lists_of = in_size (λ A. (k l : ℕ) → k < length d.blocks → l < length d.blocks →
      (lower_of d l k ≡ true) ↔ IsLowerBlock p A (parts_of d) k l) (Q.canonical_listing).lists

  lower-into : (k l : ℕ) → k < length c.blocks → l < length c.blocks → lower_of c l k ≡ true → lower_of d l k ≡ true
  lower-into k l kl ll h = (lists_of k l (subst (λ n. k < n) one.0 kl) (subst (λ n. l < n) one.0 ll)).1
      (lower-same p L K.q K.t into from (parts_of d) k l
      (moved-lower p L (parts_of c) (parts_of d) one.0 one.1 k l (((R.canonical_listing).lists k l kl ll).0 h)))

  lower-from : (k l : ℕ) → k < length c.blocks → l < length c.blocks → lower_of d l k ≡ true → lower_of c l k ≡ true
  lower-from k l kl ll h = ((R.canonical_listing).lists k l kl ll).1
      (moved-lower p L (parts_of d) (parts_of c) (sym one.0) (λ x xl. sym (one.1 x xl)) k l
      (same-lower p L K.q K.t into from (parts_of d) k l ((lists_of k l (subst (λ n. k < n) one.0 kl) (subst (λ n. l < n) one.0 ll)).0 h)))

  lower-one : (l : ℕ) → l < length c.blocks → get_or (lower_lists c) l [] ≡ get_or (lower_lists d) l []
  lower-one l ll = same-lists l (get_or (lower_lists c) l []) (get_or (lower_lists d) l [])
      (lower-rises p c is l ll) (lower-rises p d so l (subst (λ n. l < n) one.0 ll))
      (λ k kl h. lower-into k l (omega arith) ll h) (λ k kl h. lower-from k l (omega arith) ll h)

  pub agreed : AgreeInParts c d
  agreed = record {
    shape = same-shape c.shape d.shape
        ((R.shape).equations ∙ sym (Q.shape).equations) ((R.shape).unknowns ∙ sym (Q.shape).unknowns)
        ((R.shape).q_rows ∙ same.q_rows ∙ sym (Q.shape).q_rows) ((R.shape).t_rows ∙ same.t_rows ∙ sym (Q.shape).t_rows)
        ((R.shape).columns ∙ same.columns ∙ sym (Q.shape).columns);
    rank = greatest-unique p M.rows M.columns (value M) c.rank d.rank (R.pair_and_rank).rank (Q.pair_and_rank).rank;
    t = t-agree;
    blocks = one.0;
    columns = columns-agree;
    lower = at-each (lower_lists c) (lower_lists d) (lower-long c ∙ one.0 ∙ sym (lower-long d)) (λ l ll. lower-one l (subst (λ n. l < n) (lower-long c) ll));
    t_rows = t_rows-agree;
    q_rows = lengths (q_row_lists c) (q_row_lists d) (as-long (q_row_lists c) (q_row_lists d) (q_rows-long c) (q_rows-long d)) q-long;
  }
