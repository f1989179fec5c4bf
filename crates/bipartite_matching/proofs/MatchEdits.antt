-- Matchings whose pattern gains and loses rows and columns.
use Rattle.std.proofs.Common.{◌≡◌, ◌≢◌, ℕ, ◌+◌, ◌-◌, ◌<◌, ◌≤◌, true, false, List, [], length, map, get_or, Option, Some, None, refl, sym}
use Rattle.std.proofs.Common.{◌∙◌, ap, subst, ◌⊎◌, inl, inr, arith}
use Rattle.std.proofs.lemmas.List.{get_or-map, length-map}
use Rattle.std.proofs.lemmas.List.Edits.{length-insert, get_or-insert_at, length-remove}
use Rattle.std.specs.List.{insert, remove}
use Rattle.std.specs.Option.{option_map}
use Rattle.linear_algebra.specs.Parts.{skip, unskip}
use Rattle.residue_theory.specs.Sets.{has}
use Rattle.number_pairs.proofs.MoveLaws.{moved_at, moved-some, inserted_other, removed_other, skip_back, unskipped_skip, within_skip, skip_within}
use Rattle.sparse_t.specs.Incidences.{incidence_rows, columns_at, touches}
use Rattle.sparse_t.proofs.NumberLaws.{has-skip, has-unskip}
use Rattle.bipartite_matching.specs.Matchings.{Matching, IsMatching, HasPair, IsRowFree, mate_at, with_row_in, with_row_out, with_column_in, with_column_out}

nat_cases : (i j : ℕ) → (i ≡ j) ⊎ (i ≢ j)
nat_cases i j = grind arith

none_is_no_some : (x : ℕ) → None ≡ Some x → ⊥
none_is_no_some x e = cc

skip_one : (v i j : ℕ) → skip v i ≡ skip v j → i ≡ j
skip_one v i j e = sym (unskipped_skip v i) ∙ (ap (unskip v) e ∙ unskipped_skip v j)

module _ (m : Matching) (M : IsMatching m) (v : ℕ) where
  -- a row comes
  module _ (row : List ℕ) (le : v ≤ incidence_rows m.pattern) where
    was : (r c : ℕ) → HasPair (with_row_in m v row) r c → (i : ℕ) × HasPair m i c × (skip v i ≡ r)
    was r c h = moved-some (skip v) (mate_at m c) r (sym (moved_at (skip v) m.mates c) ∙ h)

    pub row_in-is_matching : IsMatching (with_row_in m v row)
    row_in-is_matching = record {
      count = length-map m.mates (option_map (skip v)) ∙ M.count;
      row = λ r c h. let w = was r c h in
          omega (arith, w.2, skip_within v w.0 (incidence_rows m.pattern) (M.row w.0 c w.1), length-insert m.pattern.rows v row le);
      column = λ r c h. let w = was r c h in M.column w.0 c w.1;
      symbol = λ r c h. let w = was r c h in
          subst (λ k. touches (with_row_in m v row).pattern k c ≡ true) w.2
          (ap (λ xs. has xs c) (inserted_other [] m.pattern.rows v w.0 row le) ∙ M.symbol w.0 c w.1);
      one_column = λ r c d h k.
          let w = was r c h in
          let u = was r d k in
          M.one_column w.0 c d w.1 (subst (λ i. HasPair m i d) (skip_one v u.0 w.0 (u.2 ∙ sym w.2)) u.1);
    }

  -- a row goes
  module _ (l : v < incidence_rows m.pattern) (free : IsRowFree m v) where
    kept : (r c : ℕ) → HasPair (with_row_out m v) r c → HasPair m (skip v r) c
    kept r c h =
        let w = moved-some (unskip v) (mate_at m c) r (sym (moved_at (unskip v) m.mates c) ∙ h) in
        let apart : w.0 ≢ v = λ q. free c (subst (λ i. HasPair m i c) q w.1) in
        subst (λ i. HasPair m i c) (sym (skip_back v w.0 apart) ∙ ap (skip v) w.2) w.1

    pub row_out-is_matching : IsMatching (with_row_out m v)
    row_out-is_matching = record {
      count = length-map m.mates (option_map (unskip v)) ∙ M.count;
      row = λ r c h. let count = length-remove m.pattern.rows v l in
          within_skip v r (length (remove m.pattern.rows v)) (omega (arith, count, l)) (omega (arith, count, M.row (skip v r) c (kept r c h)));
      column = λ r c h. M.column (skip v r) c (kept r c h);
      symbol = λ r c h. ap (λ xs. has xs c) (removed_other [] m.pattern.rows v r l) ∙ M.symbol (skip v r) c (kept r c h);
      one_column = λ r c d h k. M.one_column (skip v r) c d (kept r c h) (kept r d k);
    }

  -- a column comes
  module _ (le : v ≤ m.pattern.width) where
    there : (r c : ℕ) → HasPair (with_column_in m v) r c → (d : ℕ) × HasPair m r d × (skip v d ≡ c)
    there r c h = elim (nat_cases c v) [
      | inl q ↦ absurd (none_is_no_some r (sym (get_or-insert_at m.mates v None None (omega (arith, le, M.count)))
          ∙ (ap (λ k. get_or (insert m.mates v None) k None) (sym q) ∙ h)))
      | inr ne ↦ (
        unskip v c,
        sym (inserted_other None m.mates v (unskip v c) None (omega (arith, le, M.count)))
            ∙ (ap (λ k. get_or (insert m.mates v None) k None) (skip_back v c ne) ∙ h),
        skip_back v c ne,
      )
    ]

    pub column_in-is_matching : IsMatching (with_column_in m v)
    column_in-is_matching = record {
      count = length-insert m.mates v None (omega (arith, le, M.count)) ∙ ap (λ n. n + 1) M.count;
      row = λ r c h. let w = there r c h in omega (arith, M.row r w.0 w.1, length-map m.pattern.rows (map (skip v)));
      column = λ r c h. let w = there r c h in subst (λ k. k < m.pattern.width + 1) w.2 (skip_within v w.0 m.pattern.width (M.column r w.0 w.1));
      symbol = λ r c h. let w = there r c h in
          ap (λ xs. has xs c) (get_or-map (map (skip v)) m.pattern.rows r [] [] (M.row r w.0 w.1))
          ∙ (ap (λ k. has (map (skip v) (columns_at m.pattern r)) k) (sym w.2) ∙ (has-skip v (columns_at m.pattern r) w.0 ∙ M.symbol r w.0 w.1));
      one_column = λ r c d h k.
          let w = there r c h in
          let u = there r d k in
          sym w.2 ∙ (ap (skip v) (M.one_column r w.0 u.0 w.1 u.1) ∙ u.2);
    }

  -- a column goes
  module _ (l : v < m.pattern.width) (bare : (r : ℕ) → r < incidence_rows m.pattern → touches m.pattern r v ≡ false) where
    pub bare-loose : mate_at m v ≡ None
    bare-loose = go (mate_at m v) refl
      where
        differ : true ≡ false → ⊥
        differ e = cc

        go : (o : Option ℕ) → mate_at m v ≡ o → mate_at m v ≡ None
        go None e = e
        go (Some r) e = absurd (differ (sym (M.symbol r v e) ∙ bare r (M.row r v e)))

    pair_of : (r c : ℕ) → HasPair (with_column_out m v) r c → HasPair m r (skip v c)
    pair_of r c h = sym (removed_other None m.mates v c (omega (arith, l, M.count))) ∙ h

    pub column_out-is_matching : IsMatching (with_column_out m v)
    column_out-is_matching = record {
      count = omega (arith, length-remove m.mates v (omega (arith, l, M.count)), M.count);
      row = λ r c h. omega (arith, M.row r (skip v c) (pair_of r c h), length-map m.pattern.rows (map (unskip v)));
      column = λ r c h. within_skip v c (m.pattern.width - 1) (omega (arith, l)) (omega (arith, l, M.column r (skip v c) (pair_of r c h)));
      symbol = λ r c h. let rl = M.row r (skip v c) (pair_of r c h) in
          ap (λ xs. has xs c) (get_or-map (map (unskip v)) m.pattern.rows r [] [] rl)
          ∙ (has-unskip v (columns_at m.pattern r) c (bare r rl) ∙ M.symbol r (skip v c) (pair_of r c h));
      one_column = λ r c d h k. skip_one v c d (M.one_column r (skip v c) (skip v d) (pair_of r c h) (pair_of r d k));
    }
