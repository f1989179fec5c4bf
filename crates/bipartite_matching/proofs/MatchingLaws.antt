-- What is stored of a matching: at its beginning, after a link and after a parting.
use Rattle.std.proofs.Common.{◌≡◌, ◌≢◌, ℕ, ◌<◌, ◌≤◌, true, List, length, get_or, replicate, Option, Some, None, slice_set, refl, sym, ◌∙◌}
use Rattle.std.proofs.Common.{ap, subst, ◌⊎◌, inl, inr, arith}
use Rattle.std.proofs.lemmas.List.{get_or_past, get_or-set_same, get_or-set_other, length-set, length-replicate}
use Rattle.std.proofs.lemmas.List.Elements.{All-replicate}
use Rattle.sparse_t.specs.Incidences.{Incidence, incidence_rows, touches}
use Rattle.number_pairs.specs.Pairs.{PairLists, IsOneToOne, right_at, no_pairs}
use Rattle.sparse_t.specs.Edits.{RoomyIncidence}
use Rattle.bipartite_matching.specs.Matchings.{Matching, IsMatching, HasPair, IsRowFree, IsTwoSided, empty_matching, with_pair, matching_without}

nat_cases : (i j : ℕ) → (i ≡ j) ⊎ (i ≢ j)
nat_cases i j = grind arith

lt_cases : (i j : ℕ) → (i < j) ⊎ (j ≤ i)
lt_cases i j = grind arith

same_some : (x y : ℕ) → Some x ≡ Some y → x ≡ y
same_some x y e = cc

none_is_no_some : (x : ℕ) → None ≡ Some x → ⊥
none_is_no_some x e = cc

abbrev nobody : Option ℕ
nobody = None

none-replicate : (n i : ℕ) → get_or (replicate n nobody) i nobody ≡ nobody
none-replicate n i = elim (lt_cases i n) [
  | inl less ↦ All-replicate (λ (x : Option ℕ). x ≡ nobody) n nobody refl i nobody (omega (arith, length-replicate n nobody))
  | inr ge ↦ get_or_past (replicate n nobody) i nobody (omega (arith, length-replicate n nobody))
]

pub empty-is_matching : (p : Incidence) → IsMatching (empty_matching p)
empty-is_matching p = record {
  count = length-replicate p.width None;
  row = λ r c h. absurd (none r c h);
  column = λ r c h. absurd (none r c h);
  symbol = λ r c h. absurd (none r c h);
  one_column = λ r c d h _. absurd (none r c h);
}
  where
    none : (r c : ℕ) → HasPair (empty_matching p) r c → ⊥
    none r c h = none_is_no_some r (sym (none-replicate p.width c) ∙ h)

pub stored-empty : (t : RoomyIncidence) (pairs : PairLists) (m n : ℕ) → m ≡ incidence_rows t.pattern → n ≡ t.pattern.width →
    pairs ≡ no_pairs m n → IsTwoSided (record { pattern = t.pattern; mates = pairs.lefts; row_room = 0; column_room = 0 }) t pairs
stored-empty t pairs m n rows width e = record {
  matching = subst (λ (xs : List (Option ℕ)). IsMatching (record { pattern = t.pattern; mates = xs; row_room = 0; column_room = 0 }))
      (sym (ap (λ (q : PairLists). q.lefts) e ∙ ap (λ k. replicate k nobody) width)) (empty-is_matching t.pattern);
  rows = ap (λ (q : PairLists). length q.rights) e ∙ (length-replicate m None ∙ rows);
  pattern_rows = omega arith;
  pattern_columns = omega arith;
  pair_rows = omega arith;
  pair_columns = omega arith;
}

-- a row and a column, neither of them matched, are linked
module _ (m : Matching) (M : IsMatching m) (row col : ℕ)
    (rl : row < incidence_rows m.pattern) (cl : col < m.pattern.width) (symbol : touches m.pattern row col ≡ true)
    (row_free : IsRowFree m row) where
  at_col : get_or (slice_set m.mates col (Some row)) col None ≡ Some row
  at_col = get_or-set_same m.mates col (Some row) None (omega (arith, M.count, cl))

  new_or_old : (r c : ℕ) → HasPair (with_pair m row col) r c → ((r ≡ row) × (c ≡ col)) ⊎ HasPair m r c
  new_or_old r c h = elim (nat_cases c col) [
    | inl q ↦ inl (same_some r row (sym h ∙ (ap (λ k. get_or (slice_set m.mates col (Some row)) k None) q ∙ at_col)), q)
    | inr ne ↦ inr (sym (get_or-set_other m.mates col c (Some row) None ne) ∙ h)
  ]

  pub linked-is_matching : IsMatching (with_pair m row col)
  linked-is_matching = record {
    count = length-set m.mates col (Some row) ∙ M.count;
    row = λ r c h. elim (new_or_old r c h) [ inl q ↦ subst (λ k. k < incidence_rows m.pattern) (sym q.0) rl | inr old ↦ M.row r c old ];
    column = λ r c h. elim (new_or_old r c h) [ inl q ↦ subst (λ k. k < m.pattern.width) (sym q.1) cl | inr old ↦ M.column r c old ];
    symbol = λ r c h. elim (new_or_old r c h) [
      | inl q ↦ subst (λ k. touches m.pattern k c ≡ true) (sym q.0) (subst (λ k. touches m.pattern row k ≡ true) (sym q.1) symbol)
      | inr old ↦ M.symbol r c old
    ];
    one_column = λ r c d h k. one r c d (new_or_old r c h) (new_or_old r d k);
  }
    where
      one : (r c d : ℕ) → ((r ≡ row) × (c ≡ col)) ⊎ HasPair m r c → ((r ≡ row) × (d ≡ col)) ⊎ HasPair m r d → c ≡ d
      one r c d (inl q) (inl t) = q.1 ∙ sym t.1
      one r c d (inl q) (inr old) = absurd (row_free d (subst (λ k. HasPair m k d) q.0 old))
      one r c d (inr old) (inl q) = absurd (row_free c (subst (λ k. HasPair m k c) q.0 old))
      one r c d (inr old) (inr other) = M.one_column r c d old other

-- a row that no column has is in no pair
pub free-right : (m : Matching) (pairs : PairLists) (row : ℕ) → m.mates ≡ pairs.lefts → IsOneToOne pairs → IsRowFree m row → right_at pairs row ≡ None
free-right m pairs row lefts same free = go (right_at pairs row) refl
  where
    go : (o : Option ℕ) → right_at pairs row ≡ o → right_at pairs row ≡ None
    go None e = e
    go (Some col) e = absurd (free col (ap (λ xs. get_or xs col None) lefts ∙ (same.rights_point row col e).1))

-- a row and a column that are matched are parted
module _ (m : Matching) (M : IsMatching m) (row col : ℕ) (pair : HasPair m row col) where
  still : (r c : ℕ) → HasPair (matching_without m col) r c → (c ≢ col) × HasPair m r c
  still r c h = elim (nat_cases c col) [
    | inl q ↦ absurd (none_is_no_some r (sym (get_or-set_same m.mates col None None (omega (arith, M.count, M.column row col pair)))
        ∙ (ap (λ k. get_or (slice_set m.mates col None) k None) (sym q) ∙ h)))
    | inr ne ↦ (ne, sym (get_or-set_other m.mates col c None None ne) ∙ h)
  ]

  pub parted-is_matching : IsMatching (matching_without m col)
  parted-is_matching = record {
    count = length-set m.mates col None ∙ M.count;
    row = λ r c h. M.row r c (still r c h).1;
    column = λ r c h. M.column r c (still r c h).1;
    symbol = λ r c h. M.symbol r c (still r c h).1;
    one_column = λ r c d h k. M.one_column r c d (still r c h).1 (still r d k).1;
  }
