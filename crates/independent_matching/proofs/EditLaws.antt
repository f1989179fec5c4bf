-- What each edit makes of a pair.
use Rattle.std.proofs.Common.{◌≡◌, ◌≢◌, ℕ, zero, suc, ◌+◌, ◌-◌, ◌*◌, ◌%◌, ◌<◌, ◌≤◌, Bool, true, false, List, [], length, map, get_or}
use Rattle.std.proofs.Common.{Option, Some, None, is_some, inl, inr, refl, ap, sym, subst, ◌∙◌, arith}
use Rattle.std.proofs.lemmas.List.{get_or-map, length-map, get_or-set_other, get_or-set_same}
use Rattle.std.proofs.lemmas.List.Edits.{length-insert, get_or-insert_at, length-remove}
use Rattle.std.specs.List.{insert, remove}
use Rattle.std.specs.Option.{option_map}
use Rattle.residue_theory.specs.Residues.{IsPrime}
use Rattle.residue_theory.specs.Sets.{IsApart, everything, has, without}
use Rattle.residue_theory.specs.Sums.{size_on}
use Rattle.residue_theory.proofs.CountLaws.{size-without}
use Rattle.residue_theory.proofs.ResidueLaws.{vanishes-mul, vanishes-sum}
use Rattle.residue_theory.proofs.SetLaws.{differ, not_true}
use Rattle.residue_theory.proofs.SumLaws.{nat_cases, sum_on-same, size_on-within, without-member, without-other, without-same}
use Rattle.linear_algebra.specs.Parts.{skip, unskip}
use Rattle.linear_algebra_laws.proofs.SkipLaws.{skip-below, skip-unskip, sum_on-skip, unskip-below}
use Rattle.number_pairs.proofs.MoveLaws.{inserted_other, moved_at, removed_other}
use Rattle.number_pairs.specs.Pairs.{all_moved}
use Rattle.sparse_t.proofs.NumberLaws.{has-gap, has-skip, has-unskip}
use Rattle.sparse_t.specs.Incidences.{columns_at, incidence_rows, touches}
use Rattle.bipartite_matching.specs.Matchings.{Matching, IsMatching, mate_at, matching_without, with_column_in, with_column_out, with_row_in, with_row_out}
use Rattle.bipartite_matching.proofs.MatchEdits.{bare-loose}
use Rattle.bipartite_matching.proofs.MateLaws.{mate-below, mate-touches, mates-differ}
use Rattle.row_transform.specs.Edits.{IsWithColumn, IsWithoutColumn, IsWithRow, IsWithoutRow}
use Rattle.row_transform.specs.Tableaus.{TableauState, IsTableau}
use Rattle.mixed_matrices.specs.LayeredMatrices.{AreSameLayers, LayeredMatrix}
use Rattle.mixed_matrices.specs.Tableaus.{HasTableau}
use Rattle.mixed_edit_laws.specs.Removed.{IsEmptyColumnOut, IsQRowOut, IsTRowOut}
use Rattle.independent_matching.specs.Edits.{IsEdited}
use Rattle.independent_matching.specs.Sides.{is_matched, layers_of, tableau_of_pair}
use Rattle.independent_matching.proofs.OpenLaws.{tableau-kernel}

-- ---- base and matched columns are a pair where no column is both
pub pair-tableau : (p : ℕ) (S : TableauState) (M : Matching) → IsPrime p → IsTableau p S → IsMatching M → M.pattern.width ≡ S.columns →
    IsApart S.columns S.base (is_matched M) → HasTableau p (layers_of S M) (tableau_of_pair S M)
pair-tableau p S M prime tableau matching width apart = record {
  kernel = tableau-kernel p S prime tableau;
  base = tableau.unit_columns;
  matching = record {
    below = λ j l h. mate-below M matching j h;
    symbol = λ j l h. mate-touches M matching j h;
    distinct = λ j k l m h i e. mates-differ M matching j k h i e;
  };
  apart = apart;
}

-- ---- sizes
-- a set without one number v that is no member has as many members as the set
none-out : (X : ℕ → Bool) (n v : ℕ) → X v ≡ false → size_on (without X v) n ≡ size_on X n
none-out X n v h = sum_on-same (without X v) X n (λ _. 1) (λ j jl. elim (nat_cases j v) [
  | inl q ↦ subst (λ i. without X v i ≡ X i) (sym q) (without-same X v ∙ sym h)
  | inr ne ↦ without-other X v j ne
])

size-skip : (X : ℕ → Bool) (n v : ℕ) → v < suc n → X v ≡ false → size_on (λ k. X (skip v k)) n ≡ size_on X (suc n)
size-skip X n v l h = sym (sum_on-skip X n v (λ _. 1) l) ∙ none-out X (suc n) v h

-- the same, where m is n + 1
size-gap : (X Y : ℕ → Bool) (n m v : ℕ) → m ≡ n + 1 → v ≤ n → X v ≡ false → ((k : ℕ) → k < n → Y k ≡ X (skip v k)) → size_on Y n ≡ size_on X m
size-gap X Y n m v e l h same = sum_on-same Y (λ k. X (skip v k)) n (λ _. 1) same
    ∙ (size-skip X n v (omega arith) h ∙ ap (λ k. size_on X k) (let q : suc n ≡ m = omega (arith, e) in q))

one-less : (X Y : ℕ → Bool) (n b : ℕ) → b < n → ((y : ℕ) → y < n → y ≢ b → Y y ≡ X y) → size_on X n ≤ size_on Y n + 1
one-less X Y n b l same = omega (
  arith,
  size-without X n b l,
  size_on-within Y (without X b) n (λ y yl h. same y yl (without-member X b y h).1 ∙ (without-member X b y h).0),
)

base-out : (p : ℕ) (t n : TableauState) (e : ℕ) (told : Option ℕ) → IsWithoutRow p t n e told → size_on t.base t.columns ≤ size_on n.base n.columns + 1
base-out p t n e None out = omega (
  arith,
  sum_on-same t.base n.base t.columns (λ _. 1) (λ y yl. sym (out.kept y yl (λ q. differs q))),
  ap (λ c. size_on n.base c) out.columns_same,
)
  where
    differs : {y : ℕ} → None ≡ Some y → ⊥
    differs q = cc
base-out p t n e (Some b) out = omega (
  arith,
  one-less t.base n.base t.columns b out.below (λ y yl ne. out.kept y yl (λ q. ne (same q))),
  ap (λ c. size_on n.base c) out.columns_same,
)
  where
    same : {y : ℕ} → Some b ≡ Some y → y ≡ b
    same q = cc

-- no column joins the base
base-stays : (p : ℕ) (t n : TableauState) (e : ℕ) (told : Option ℕ) → IsWithoutRow p t n e told → (y : ℕ) → y < t.columns → n.base y ≡ true → t.base y ≡ true
base-stays p t n e None out y yl h = sym (out.kept y yl (λ q. differs q)) ∙ h
  where
    differs : {x : ℕ} → None ≡ Some x → ⊥
    differs q = cc
base-stays p t n e (Some b) out y yl h = elim (nat_cases y b) [
  | inl q ↦ absurd (differ (subst (λ k. n.base k ≡ false) (sym q) out.is_none) h)
  | inr ne ↦ sym (out.kept y yl (λ q. ne (same q))) ∙ h
]
  where
    same : {x : ℕ} → Some b ≡ Some x → x ≡ b
    same q = cc

-- ---- a Q row
module _ (p : ℕ) (L K : LayeredMatrix) (e : ℕ) (out : IsQRowOut p L K e) (least : ℕ) (S S' : TableauState) (M : Matching) where
  pub q-out : (told : Option ℕ) → IsWithoutRow p S S' e told → IsEdited p L least S M → IsEdited p K (least - 1) S' M
  q-out told W E = record {
    same = record {
      q_rows = rows;
      t_rows = E.same.t_rows ∙ sym out.t_rows;
      columns = W.columns_same ∙ (E.same.columns ∙ sym out.columns);
      q = λ i j il jl.
          let jl' : j < S.columns = subst (λ n. j < n) W.columns_same jl in
          W.q_is i j il jl'
          ∙ (E.same.q (skip e i) j (skip-below e i S.rows (omega (arith, out.below, E.same.q_rows)) (omega (arith, il, W.rows_are))) jl'
          ∙ sym (out.q i j (subst (λ n. i < n) rows il) (subst (λ n. j < n) E.same.columns jl')));
      t = λ i j il jl.
          let jl' : j < S.columns = subst (λ n. j < n) W.columns_same jl in
          E.same.t i j il jl' ∙ sym (out.t i j (subst (λ n. i < n) E.same.t_rows il) (subst (λ n. j < n) E.same.columns jl'));
    };
    width = E.width ∙ sym W.columns_same;
    apart = λ j jl h.
        let jl' : j < S.columns = subst (λ n. j < n) W.columns_same jl in
        E.apart j jl' (base-stays p S S' e told W j jl' h);
    size = omega (arith, E.size, base-out p S S' e told W, ap (λ n. size_on (is_matched M) n) W.columns_same);
  }
    where
      rows : S'.rows ≡ K.q_rows
      rows = omega (arith, W.rows_are, E.same.q_rows, out.q_rows)

  pub q-in : (x : ℕ → ℕ) → IsWithRow p S S' e x → ((j : ℕ) → j < L.columns → L.q e j ≡ x j) → IsEdited p K least S M → IsEdited p L least S' M
  q-in x W row E = record {
    same = record {
      q_rows = omega (arith, W.rows_are, E.same.q_rows, out.q_rows);
      t_rows = E.same.t_rows ∙ out.t_rows;
      columns = columns;
      q = λ i j il jl.
          let here : j < S.columns = subst (λ n. j < n) W.columns_same jl in
          let there : j < L.columns = subst (λ n. j < n) columns jl in
          elim (nat_cases i e) [
            | inl q ↦ ap (λ k. S'.q k j % p) q ∙ (W.q_is.here j here ∙ (ap (λ k. k % p) (sym (row j there)) ∙ ap (λ k. L.q k j % p) (sym q)))
            | inr ne ↦
                let k : ℕ = unskip e i in
                let back : skip e k ≡ i = skip-unskip e i ne in
                let kl : k < K.q_rows = omega (
                  arith,
                  unskip-below e i (S.rows + 1) (omega (arith, out.below, out.q_rows, E.same.q_rows)) (omega (arith, il, W.rows_are)) ne,
                  E.same.q_rows,
                ) in
                ap (λ r. S'.q r j % p) (sym back) ∙ (W.q_is.others k j (omega (arith, kl, E.same.q_rows)) here
                ∙ (E.same.q k j (omega (arith, kl, E.same.q_rows)) here ∙ (out.q k j kl there ∙ ap (λ r. L.q r j % p) back)))
          ];
      t = λ i j il jl.
          let here : j < S.columns = subst (λ n. j < n) W.columns_same jl in
          E.same.t i j il here ∙ out.t i j (omega (arith, il, E.same.t_rows, out.t_rows)) (subst (λ n. j < n) columns jl);
    };
    width = E.width ∙ sym W.columns_same;
    apart = λ j jl h.
        let here : j < S.columns = subst (λ n. j < n) W.columns_same jl in
        E.apart j here (sym (W.base_same j here) ∙ h);
    size = omega (
      arith,
      E.size,
      sum_on-same S'.base S.base S.columns (λ _. 1) (λ y yl. W.base_same y yl),
      ap (λ n. size_on S'.base n) W.columns_same,
      ap (λ n. size_on (is_matched M) n) W.columns_same,
    );
  }
    where
      columns : S'.columns ≡ L.columns
      columns = W.columns_same ∙ (E.same.columns ∙ out.columns)

-- ---- a T row
is_some-moved : (f : ℕ → ℕ) (o : Option ℕ) → is_some (option_map f o) ≡ is_some o
is_some-moved f None = refl
is_some-moved f (Some i) = refl

matched-moved : (f : ℕ → ℕ) (M N : Matching) → N.mates ≡ all_moved f M.mates → (j : ℕ) → is_matched N j ≡ is_matched M j
matched-moved f M N e j = ap (λ m. is_some (get_or m j None)) e ∙ (ap is_some (moved_at f M.mates j) ∙ is_some-moved f (mate_at M j))

module _ (p : ℕ) (L K : LayeredMatrix) (e : ℕ) (out : IsTRowOut p L K e) (least : ℕ) (S : TableauState) (M : Matching) where
  pub t-out : IsEdited p L least S M → IsEdited p K least S (with_row_out M e)
  t-out E = record {
    same = record {
      q_rows = E.same.q_rows ∙ sym out.q_rows;
      t_rows = rows;
      columns = E.same.columns ∙ sym out.columns;
      q = λ i j il jl. E.same.q i j il jl ∙ sym (out.q i j (subst (λ n. i < n) E.same.q_rows il) (subst (λ n. j < n) E.same.columns jl));
      t = λ i j il jl.
          let kl : i < K.t_rows = subst (λ n. i < n) rows il in
          ap (λ xs. has xs j) (removed_other [] M.pattern.rows e i below)
          ∙ (E.same.t (skip e i) j (skip-below e i (incidence_rows M.pattern) below (omega (arith, kl, out.t_rows, E.same.t_rows))) jl
          ∙ sym (out.t i j kl (subst (λ n. j < n) E.same.columns jl)));
    };
    width = E.width;
    apart = λ j jl h. matched-moved (unskip e) M (with_row_out M e) refl j ∙ E.apart j jl h;
    size = omega (
      arith,
      E.size,
      sum_on-same (is_matched (with_row_out M e)) (is_matched M) S.columns (λ _. 1) (λ j jl. matched-moved (unskip e) M (with_row_out M e) refl j),
    );
  }
    where
      below : e < length M.pattern.rows
      below = omega (arith, out.below, E.same.t_rows)

      rows : length (remove M.pattern.rows e) ≡ K.t_rows
      rows = omega (arith, length-remove M.pattern.rows e below, E.same.t_rows, out.t_rows)

  pub t-in : (row : List ℕ) → ((j : ℕ) → j < L.columns → L.t e j ≡ has row j) → IsEdited p K least S M → IsEdited p L least S (with_row_in M e row)
  t-in row here E = record {
    same = record {
      q_rows = E.same.q_rows ∙ out.q_rows;
      t_rows = rows;
      columns = E.same.columns ∙ out.columns;
      q = λ i j il jl. E.same.q i j il jl ∙ out.q i j (omega (arith, il, E.same.q_rows, out.q_rows)) (omega (arith, jl, E.same.columns, out.columns));
      t = λ i j il jl.
          let there : j < L.columns = omega (arith, jl, E.same.columns, out.columns) in
          elim (nat_cases i e) [
            | inl q ↦ ap (λ k. has (get_or (insert M.pattern.rows e row) k []) j) q ∙ (ap (λ xs. has xs j) (get_or-insert_at M.pattern.rows e row [] below)
                ∙ (sym (here j there) ∙ ap (λ k. L.t k j) (sym q)))
            | inr ne ↦
                let k : ℕ = unskip e i in
                let back : skip e k ≡ i = skip-unskip e i ne in
                let kl : k < K.t_rows = omega (
                  arith,
                  unskip-below e i (incidence_rows M.pattern + 1) (omega (arith, below)) (omega (arith, il, length-insert M.pattern.rows e row below)) ne,
                  E.same.t_rows,
                ) in
                ap (λ r. has (get_or (insert M.pattern.rows e row) r []) j) (sym back) ∙ (ap (λ xs. has xs j) (inserted_other [] M.pattern.rows e k row below)
                ∙ (E.same.t k j (omega (arith, kl, E.same.t_rows)) jl ∙ (out.t k j kl there ∙ ap (λ r. L.t r j) back)))
          ];
    };
    width = E.width;
    apart = λ j jl h. matched-moved (skip e) M (with_row_in M e row) refl j ∙ E.apart j jl h;
    size = omega (
      arith,
      E.size,
      sum_on-same (is_matched (with_row_in M e row)) (is_matched M) S.columns (λ _. 1)
          (λ j jl. matched-moved (skip e) M (with_row_in M e row) refl j),
    );
  }
    where
      below : e ≤ length M.pattern.rows
      below = omega (arith, out.below, out.t_rows, E.same.t_rows)

      rows : length (insert M.pattern.rows e row) ≡ L.t_rows
      rows = omega (arith, length-insert M.pattern.rows e row below, E.same.t_rows, out.t_rows)

-- a column leaves the matching
module _ (p : ℕ) (L : LayeredMatrix) (least : ℕ) (S : TableauState) (M : Matching) (matching : IsMatching M) (col : ℕ) (below : col < M.pattern.width) where
  parted-here : is_matched (matching_without M col) col ≡ false
  parted-here = ap is_some (get_or-set_same M.mates col None None (omega (arith, below, matching.count)))

  parted-other : (j : ℕ) → j ≢ col → is_matched (matching_without M col) j ≡ is_matched M j
  parted-other j ne = ap is_some (get_or-set_other M.mates col j None None ne)

  pub t-parted : IsEdited p L least S M → IsEdited p L (least - 1) S (matching_without M col)
  t-parted E = record {
    same = E.same;
    width = E.width;
    apart = λ j jl h. elim (nat_cases j col) [
      | inl q ↦ subst (λ k. is_matched (matching_without M col) k ≡ false) (sym q) parted-here
      | inr ne ↦ parted-other j ne ∙ E.apart j jl h
    ];
    size = omega (
      arith,
      E.size,
      one-less (is_matched M) (is_matched (matching_without M col)) S.columns col (omega (arith, below, E.width)) (λ y yl ne. parted-other y ne),
    );
  }

-- ---- an empty column
module _ (p : ℕ) (L K : LayeredMatrix) (v : ℕ) (out : IsEmptyColumnOut p L K v) (least : ℕ) (S S' : TableauState) (M : Matching) where
  column-matched : v ≤ length M.mates → (j : ℕ) → is_matched (with_column_in M v) (skip v j) ≡ is_matched M j
  column-matched l j = ap is_some (inserted_other None M.mates v j None l)

  pub column-in : IsMatching M → IsWithColumn p S S' v → IsEdited p K least S M → IsEdited p L least S' (with_column_in M v)
  column-in matching W E = record {
    same = record {
      q_rows = rows ∙ out.q_rows;
      t_rows = t_rows;
      columns = omega (arith, columns);
      q = λ i j il jl.
          let il' : i < S.rows = subst (λ n. i < n) W.rows_same il in
          let iL : i < L.q_rows = omega (arith, il', E.same.q_rows, out.q_rows) in
          elim (nat_cases j v) [
            | inl q ↦ ap (λ k. S'.q i k % p) q ∙ (W.q_is.here i il' ∙ (sym (out.q_zero i iL) ∙ ap (λ k. L.q i k % p) (sym q)))
            | inr ne ↦
                let k : ℕ = unskip v j in
                let back : skip v k ≡ j = skip-unskip v j ne in
                let kl : k < K.columns = less j ne (omega (arith, jl, columns)) in
                let ks : k < S.columns = omega (arith, kl, E.same.columns) in
                ap (λ r. S'.q i r % p) (sym back) ∙ (W.q_is.others i k il' ks ∙ (E.same.q i k il' ks ∙ (out.q i k iL kl ∙ ap (λ r. L.q i r % p) back)))
          ];
      t = λ i j il jl.
          let il' : i < length M.pattern.rows = subst (λ n. i < n) (length-map M.pattern.rows (map (skip v))) il in
          let iL : i < L.t_rows = omega (arith, il', E.same.t_rows, out.t_rows) in
          let read = ap (λ xs. has xs j) (get_or-map (map (skip v)) M.pattern.rows i [] [] il') in
          elim (nat_cases j v) [
            | inl q ↦ read ∙ (ap (λ k. has (map (skip v) (columns_at M.pattern i)) k) q ∙ (has-gap v (columns_at M.pattern i)
                ∙ (sym (out.t_none i iL) ∙ ap (λ k. L.t i k) (sym q))))
            | inr ne ↦
                let k : ℕ = unskip v j in
                let back : skip v k ≡ j = skip-unskip v j ne in
                let kl : k < K.columns = less j ne (omega (arith, jl, columns)) in
                read ∙ (ap (λ r. has (map (skip v) (columns_at M.pattern i)) r) (sym back) ∙ (has-skip v (columns_at M.pattern i) k
                ∙ (E.same.t i k il' (omega (arith, kl, E.same.columns)) ∙ (out.t i k iL kl ∙ ap (λ r. L.t i r) back))))
          ];
    };
    width = omega (arith, E.width, W.columns_are);
    apart = λ j jl h. elim (nat_cases j v) [
      | inl q ↦ absurd (differ (subst (λ k. S'.base k ≡ false) (sym q) W.no_base) h)
      | inr ne ↦
          let k : ℕ = unskip v j in
          let back : skip v k ≡ j = skip-unskip v j ne in
          let ks : k < S.columns = omega (arith, less j ne (omega (arith, jl, columns)), E.same.columns) in
          ap (is_matched (with_column_in M v)) (sym back) ∙ (column-matched count k ∙ E.apart k ks
          (sym (W.base_same k ks) ∙ (ap S'.base back ∙ h)))
    ];
    size = omega (
      arith,
      E.size,
      size-gap S'.base S.base S.columns S'.columns v W.columns_are vl W.no_base (λ k kl. sym (W.base_same k kl)),
      size-gap (is_matched (with_column_in M v)) (is_matched M) S.columns S'.columns v W.columns_are vl
          (ap is_some (get_or-insert_at M.mates v None None count)) (λ k kl. sym (column-matched count k)),
    );
  }
    where
      rows : S'.rows ≡ K.q_rows
      rows = W.rows_same ∙ E.same.q_rows

      t_rows : length (map (map (skip v)) M.pattern.rows) ≡ L.t_rows
      t_rows = length-map M.pattern.rows (map (skip v)) ∙ (E.same.t_rows ∙ out.t_rows)

      columns : S'.columns ≡ L.columns
      columns = omega (arith, W.columns_are, E.same.columns, out.columns)

      vl : v ≤ S.columns
      vl = omega (arith, out.below, out.columns, E.same.columns)

      count : v ≤ length M.mates
      count = omega (arith, vl, matching.count, E.width)

      less : (j : ℕ) → j ≢ v → j < L.columns → unskip v j < K.columns
      less j ne jl = omega (arith, unskip-below v j L.columns out.below jl ne, out.columns)

  pub no-base : IsPrime p → IsTableau p S → v < S.columns → ((i : ℕ) → i < S.rows → S.q i v % p ≡ 0) → S.base v ≡ false
  no-base prime tableau vl zeros = not_true (S.base v) never
    where
      never : S.base v ≡ true → ⊥
      never h = absurd_one (sym (tableau.unit_columns.one v vl h) ∙ tableau.product_is (S.row v) v (tableau.unit_columns.row_below v vl h) vl
          ∙ vanishes-sum p everything S.rows (λ k. S.s (S.row v) k * S.q k v) (λ k kl _. vanishes-mul p (S.s (S.row v) k) (S.q k v) (zeros k kl)))
        where
          absurd_one : suc zero ≡ zero → ⊥
          absurd_one q = absurd (omega (arith, q))

-- ---- the same layered matrix
pub same-edited : (p : ℕ) (L K : LayeredMatrix) (least : ℕ) (S : TableauState) (M : Matching) → AreSameLayers p L K → IsEdited p L least S M →
    IsEdited p K least S M
same-edited p L K least S M same E = record {
  same = record {
    q_rows = E.same.q_rows ∙ same.q_rows;
    t_rows = E.same.t_rows ∙ same.t_rows;
    columns = E.same.columns ∙ same.columns;
    q = λ i j il jl. E.same.q i j il jl ∙ same.q i j (subst (λ n. i < n) E.same.q_rows il) (subst (λ n. j < n) E.same.columns jl);
    t = λ i j il jl. E.same.t i j il jl ∙ same.t i j (subst (λ n. i < n) E.same.t_rows il) (subst (λ n. j < n) E.same.columns jl);
  };
  width = E.width;
  apart = E.apart;
  size = E.size;
}

-- ---- an empty column goes
module _ (p : ℕ) (prime : IsPrime p) (L K : LayeredMatrix) (v : ℕ) (out : IsEmptyColumnOut p L K v) (least : ℕ) (S S' : TableauState) (M : Matching)
    (tableau : IsTableau p S) (matching : IsMatching M) (W : IsWithoutColumn p S S' v) (E : IsEdited p L least S M) where
  vl : v < S.columns
  vl = omega (arith, out.below, E.same.columns)

  wide : v < M.pattern.width
  wide = omega (arith, vl, E.width)

  bare : (i : ℕ) → i < incidence_rows M.pattern → touches M.pattern i v ≡ false
  bare i il = E.same.t i v il vl ∙ out.t_none i (subst (λ n. i < n) E.same.t_rows il)

  unbased : S.base v ≡ false
  unbased = no-base p L K v out least S S' M prime tableau vl
      (λ i il. E.same.q i v il vl ∙ out.q_zero i (subst (λ n. i < n) E.same.q_rows il))

  unmatched : is_matched M v ≡ false
  unmatched = ap is_some (bare-loose M matching v wide bare)

  matched-out : (j : ℕ) → is_matched (with_column_out M v) j ≡ is_matched M (skip v j)
  matched-out j = ap is_some (removed_other None M.mates v j (omega (arith, wide, matching.count)))

  columns : S'.columns ≡ K.columns
  columns = omega (arith, W.columns_are, E.same.columns, out.columns)

  there : (j : ℕ) → j < S'.columns → skip v j < S.columns
  there j jl = skip-below v j S.columns vl (omega (arith, jl, W.columns_are))

  pub column-out : IsEdited p K least S' (with_column_out M v)
  column-out = record {
    same = record {
      q_rows = W.rows_same ∙ (E.same.q_rows ∙ sym out.q_rows);
      t_rows = length-map M.pattern.rows (map (unskip v)) ∙ (E.same.t_rows ∙ sym out.t_rows);
      columns = columns;
      q = λ i j il jl.
          let il' : i < S.rows = subst (λ n. i < n) W.rows_same il in
          W.q_is i j il' jl ∙ (E.same.q i (skip v j) il' (there j jl)
          ∙ sym (out.q i j (subst (λ n. i < n) E.same.q_rows il') (subst (λ n. j < n) columns jl)));
      t = λ i j il jl.
          let il' : i < length M.pattern.rows = subst (λ n. i < n) (length-map M.pattern.rows (map (unskip v))) il in
          ap (λ xs. has xs j) (get_or-map (map (unskip v)) M.pattern.rows i [] [] il')
          ∙ (has-unskip v (columns_at M.pattern i) j (bare i il') ∙ (E.same.t i (skip v j) il' (there j jl)
          ∙ sym (out.t i j (subst (λ n. i < n) E.same.t_rows il') (subst (λ n. j < n) columns jl))));
    };
    width = omega (arith, E.width, W.columns_are, wide);
    apart = λ j jl h. matched-out j ∙ E.apart (skip v j) (there j jl) (sym (W.base_is j jl) ∙ h);
    size = omega (
      arith,
      E.size,
      size-gap S.base S'.base S'.columns S.columns v (sym W.columns_are) (omega (arith, vl, W.columns_are)) unbased (λ k kl. W.base_is k kl),
      size-gap (is_matched M) (is_matched (with_column_out M v)) S'.columns S.columns v (sym W.columns_are) (omega (arith, vl, W.columns_are))
          unmatched (λ k kl. matched-out k),
    );
  }

-- ---- more room
pub room-edited : (p : ℕ) (L : LayeredMatrix) (least : ℕ) (S S' : TableauState) (M M' : Matching) → S' ≡ S → M'.pattern ≡ M.pattern → M'.mates ≡ M.mates →
    IsEdited p L least S M → IsEdited p L least S' M'
room-edited p L least S S' M M' same pattern mates E =
    subst (λ s. IsEdited p L least s M') (sym same)
    (subst (λ q. IsEdited p L least S (record { pattern = q; mates = M'.mates; row_room = M'.row_room; column_room = M'.column_room })) (sym pattern)
    (subst (λ m. IsEdited p L least S (record { pattern = M.pattern; mates = m; row_room = M'.row_room; column_room = M'.column_room })) (sym mates) roomy))
  where
    roomy : IsEdited p L least S (record { pattern = M.pattern; mates = M.mates; row_room = M'.row_room; column_room = M'.column_room })
    roomy = record {
      same = record { q_rows = E.same.q_rows; t_rows = E.same.t_rows; columns = E.same.columns; q = E.same.q; t = E.same.t };
      width = E.width;
      apart = E.apart;
      size = E.size;
    }
