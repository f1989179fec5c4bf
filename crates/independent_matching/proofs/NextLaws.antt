-- The next column that a column leads to: by T rows, and by T and Q rows together.
use Rattle.std.proofs.Common.{◌≡◌, ◌≢◌, ◌<◌, ◌≤◌, ◌∙◌, ◌⊎◌, ◌^◌, ◌+◌, ◌-◌, ◌&&◌, ◌||◌, ℕ, Bool, true, false, not, eqb, List}
use Rattle.std.proofs.Common.{length, slice_index, inl, inr, refl, sym, subst, arith}
use Rattle.std.proofs.lemmas.Bool.Decides.{nat_tests}
use Rattle.residue_theory.proofs.SetLaws.{both-first, both-second, both_true, differ, either_cases, either-first, either-second, lt_cases}
use Rattle.sparse_t.specs.Incidences.{touches, AreRowsAt}
use Rattle.sparse_t.proofs.ListLaws.{has-at, has-member}
use Rattle.bipartite_matching.specs.Matchings.{Matching, HasPair, IsMatching}
use Rattle.bipartite_matching.proofs.MateLaws.{matched-pair, pair-matched}
use Rattle.exchange_graph.specs.Turns.{HasNextTurn, HaveHadTurns}
use Rattle.row_transform.specs.Tableaus.{TableauState, has_entry}
use Rattle.mixed_matrices.specs.Arcs.{leads_to}
use Rattle.independent_matching.specs.Sides.{common_columns, is_matched, layers_of, mate_of, q_arc, t_arc, tableau_of_pair}
use Rattle.independent_matching.specs.Turns.{t_rows_before, t_turn, t_turns, turn_of}
use Rattle.independent_matching.proofs.RisingLaws.{all-items, before-item}

other_test : (x y : ℕ) → y ≢ x → not (eqb x y) ≡ true
other_test x y ne = grind (arith, nat_tests)

other_tells : (x y : ℕ) → not (eqb x y) ≡ true → y ≢ x
other_tells x y h = grind (arith, nat_tests)

-- ---- by T rows
module _ (M : Matching) (matching : IsMatching M) (x : ℕ) (list : List ℕ) (rows : AreRowsAt M.pattern x list) where
  t_arc-of : (k : ℕ) → k < length list → (y : ℕ) → HasPair M (slice_index list k) y → y ≢ x → t_arc M x y ≡ true
  t_arc-of k l y h ne =
      let row : ℕ = slice_index list k in
      let (m, e) = pair-matched M row y h in
      let t : touches M.pattern row x ≡ true = sym (rows.exact row (rows.below k l)) ∙ has-at list k row l refl in
      both_true (not (eqb x y)) (is_matched M y && touches M.pattern (mate_of M y) x) (other_test x y ne)
      (both_true (is_matched M y) (touches M.pattern (mate_of M y) x) m
      (subst (λ r. touches M.pattern r x ≡ true) (sym e) t))

  -- the turn of a column tells where its T row stands in the list
  t_arc-item : (y : ℕ) → t_arc M x y ≡ true →
      (k : ℕ) × (k < length list) × HasPair M (slice_index list k) y × (t_turn M x y ≡ k) × (y ≢ x)
  t_arc-item y h =
      let row : ℕ = mate_of M y in
      let rest : (is_matched M y && touches M.pattern row x) ≡ true =
      both-second (not (eqb x y)) (is_matched M y && touches M.pattern row x) h in
      let pair : HasPair M row y = matched-pair M y (both-first (is_matched M y) (touches M.pattern row x) rest) in
      let touching : touches M.pattern row x ≡ true = both-second (is_matched M y) (touches M.pattern row x) rest in
      let (k, l, e) = has-member list row (rows.exact row (matching.row row y pair) ∙ touching) in (
        k,
        l,
        subst (λ r. HasPair M r y) (sym e) pair,
        subst (λ r. t_rows_before M x r ≡ k) e
            (before-item list rows.rising (λ i. touches M.pattern i x) (length M.pattern.rows)
            rows.exact rows.below k l),
        other_tells x y (both-first (not (eqb x y)) (is_matched M y && touches M.pattern row x) h),
      )

  pub t_turns-are : t_turns M x ≡ length list
  t_turns-are = all-items list rows.rising (λ i. touches M.pattern i x) (length M.pattern.rows) rows.exact rows.below

  -- the rows of the list from `from` on and before `to` are matched with no other column
  abbrev pub HaveNoOther : ℕ → ℕ → Type 0
  HaveNoOther from to = (k y : ℕ) → from ≤ k → k < to → HasPair M (slice_index list k) y → y ≡ x

  pub t_had : (n from to : ℕ) → HaveNoOther from to → length list ≤ to → HaveHadTurns (t_arc M x) (t_turn M x) n from
  t_had n from to none done y l h =
      let (k, kl, pair, turn, ne) = t_arc-item y h in
      elim (lt_cases k from) [
        | inl less ↦ omega (arith, turn, less)
        | inr ge ↦ absurd (ne (none k y ge (omega (arith, kl, done)) pair))
      ]

  pub t_next : (from at y : ℕ) → from ≤ at → at < length list → at + 1 < 2 ^ 64 → HaveNoOther from at →
      HasPair M (slice_index list at) y → y ≢ x → HasNextTurn (t_arc M x) (t_turn M x) M.pattern.width from y (at + 1)
  t_next from at y le l fits none pair ne = record {
    below = matching.column (slice_index list at) y pair;
    holds = t_arc-of at l y pair ne;
    onward = omega (arith, le);
    fits = fits;
    others = λ z zl h less.
        let (k, kl, mate, turn, other) = t_arc-item z h in
        elim (lt_cases k from) [
          | inl early ↦ inl (omega (arith, turn, early))
          | inr ge ↦ elim (lt_cases k at) [
            | inl before ↦ absurd (other (none k z ge before mate))
            | inr late ↦
                let same : k ≡ at = omega (arith, late, turn, less) in
                inr (matching.one_column (slice_index list at) z y
                (subst (λ i. HasPair M (slice_index list i) z) same mate) pair)
          ]
        ];
  }

-- ---- by T and Q rows
module _ (p : ℕ) (S : TableauState) (M : Matching) (x : ℕ) where
  abbrev arc : ℕ → Bool
  arc = leads_to p (layers_of S M) (tableau_of_pair S M) x

  abbrev turn : ℕ → ℕ
  turn = turn_of S M x

  split : (a b c : Bool) → (a && (b || c)) ≡ ((a && b) || (a && c))
  split a b c = grind arith

  arc-is : (y : ℕ) → arc y ≡ (q_arc p S x y || t_arc M x y)
  unfolding leads_to
  arc-is y = split (not (eqb x y)) (S.base y && has_entry p S (S.row y) x)
      (is_matched M y && touches M.pattern (mate_of M y) x)

  -- y has its turn by its T row, or by its Q row
  abbrev IsByT : ℕ → Type 0
  IsByT y = (t_arc M x y ≡ true) × (turn y ≡ t_turn M x y)

  abbrev IsByQ : ℕ → Type 0
  IsByQ y = (q_arc p S x y ≡ true) × (turn y ≡ t_turns M x + S.row y)

  sides : (y : ℕ) → arc y ≡ true → IsByT y ⊎ IsByQ y
  sides y h = go (t_arc M x y) refl
    where
      go : (b : Bool) → t_arc M x y ≡ b → IsByT y ⊎ IsByQ y
      go true t = inl (t, rw t refl)
      go false t = elim (either_cases (q_arc p S x y) (t_arc M x y) (sym (arc-is y) ∙ h)) [
        | inl q ↦ inr (q, rw t refl)
        | inr e ↦ absurd (differ t e)
      ]

  module _ (n from : ℕ) (n_is : n ≡ S.columns) (width_is : n ≡ M.pattern.width) where
    pub next-by_t : (y next : ℕ) → HasNextTurn (t_arc M x) (t_turn M x) M.pattern.width from y next →
        next ≤ t_turns M x → HasNextTurn arc turn n from y next
    next-by_t y next N few = record {
      below = omega (arith, N.below, width_is);
      holds = arc-is y ∙ either-second (q_arc p S x y) (t_arc M x y) N.holds;
      onward = N.onward;
      fits = N.fits;
      others = λ z l h less. elim (sides z h) [
        | inl (t, e) ↦ elim (N.others z (omega (arith, l, width_is)) t (omega (arith, less, e))) [
          | inl early ↦ inl (omega (arith, e, early))
          | inr same ↦ inr same
        ]
        | inr (q, e) ↦ absurd (omega (arith, e, less, few))
      ];
    }

    module _ (had : HaveHadTurns (t_arc M x) (t_turn M x) M.pattern.width from) (count start : ℕ)
        (count_is : t_turns M x ≡ count) (start_is : start ≡ from - count) where
      pub none-by_q : HaveHadTurns (q_arc p S x) S.row S.columns start → HaveHadTurns arc turn n from
      none-by_q none y l h = elim (sides y h) [
        | inl (t, e) ↦ omega (arith, e, had y (omega (arith, l, width_is)) t)
        | inr (q, e) ↦ omega (arith, e, none y (omega (arith, l, n_is)) q, count_is, start_is)
      ]

      pub next-by_q : (y next : ℕ) → HasNextTurn (q_arc p S x) S.row S.columns start y next →
          count + next < 2 ^ 64 → HasNextTurn arc turn n from y (count + next)
      next-by_q y next N fits = record {
        below = omega (arith, N.below, n_is);
        holds = arc-is y ∙ either-first (q_arc p S x y) (t_arc M x y) N.holds;
        onward = omega (arith, N.onward, start_is);
        fits = fits;
        others = λ z l h less. elim (sides z h) [
          | inl (t, e) ↦ inl (omega (arith, e, had z (omega (arith, l, width_is)) t))
          | inr (q, e) ↦ elim (N.others z (omega (arith, l, n_is)) q (omega (arith, less, e, count_is))) [
            | inl early ↦ inl (omega (arith, e, early, count_is, start_is))
            | inr same ↦ inr same
          ]
        ];
      }

-- what is below the common columns
pub common-below : (S : TableauState) (M : Matching) (x : ℕ) → x < common_columns S M →
    (common_columns S M ≡ S.columns) × (common_columns S M ≡ M.pattern.width)
common-below S M x l = grind (arith, nat_tests)
