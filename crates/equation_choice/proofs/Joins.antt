-- An equation that enters, and joins or is refused, whatever is kept before it.
use Rattle.std.proofs.Common.{◌≡◌, ℕ, ◌+◌, ◌-◌, ◌<◌, Bool, true, false, not, ltb, ◌&&◌, ◌||◌, ◌⊎◌, inl, inr}
use Rattle.std.proofs.Common.{Option, Some, None, IfSome, IfNone, is_some, unwrap_or, length, slice_get, refl, ap, sym, subst, ◌∙◌, arith}
use Rattle.std.proofs.lemmas.Option.{slice_get_within}
use Rattle.residue_theory.proofs.SetLaws.{both-first, both-second, both_true, differ, lt_cases, not_true}
use Rattle.residue_theory.specs.Residues.{IsPrime}
use Rattle.residue_theory.specs.Sets.{both, with_one}
use Rattle.residue_theory.specs.Sums.{size_on}
use Rattle.dense_q.specs.Tables.{entry}
use Rattle.closed_sets.specs.Closed.{IsReachedSet, NoEndReached}
use Rattle.search_laws.specs.Searches.{IsShortest}
use Rattle.mixed_matrices.specs.Arcs.{is_free}
use Rattle.mixed_matrices.specs.LayeredMatrices.{LayeredMatrix}
use Rattle.mixed_matrices.specs.Layerings.{IsLayering, Origins, gives_q, has_constant, has_symbol}
use Rattle.mixed_matrices.specs.Models.{MixedMatrix}
use Rattle.mixed_matrices.specs.Tableaus.{HasTableau, IsTableau, Tableau}
use Rattle.mixed_pair_laws.proofs.ArcFacts.{free-holds}
use Rattle.mixed_pair_laws.proofs.TableauParts.{tableau}
use Rattle.mixed_layering_laws.proofs.Members.{member-at, member-index}
use Rattle.mixed_augmentation_laws.specs.Moves.{IsUnlinked, TakesMate}
use Rattle.mixed_model.specs.Layers.{AreLayers, Layers}
use Rattle.mixed_model.specs.Models.{MixedModel, mixed_matrix_of}
use Rattle.mixed_model.specs.declared.origin.Origin.{Origin}
use Rattle.mixed_model.specs.declared.origin.Origin.TheVariants.{Split, Unknown}
use Rattle.mixed_layering.specs.Columns.{IsAbsent, StandsIn}
use Rattle.mixed_layering.specs.Layers.{AreLayersOf, origins_of}
use Rattle.sparse_t.specs.Incidences.{touches}
use Rattle.bipartite_matching.specs.Matchings.{IsMatching, IsRowFree, Matching, with_pair}
use Rattle.bipartite_matching.proofs.MateLaws.{linked-here, linked-other, pair-matched}
use Rattle.row_transform.specs.Tableaus.{TableauState}
use Rattle.independent_matching.specs.Engines.{layers}
use Rattle.independent_matching.specs.Sides.{is_matched, layers_of, mate_of, tableau_of_pair}
use Rattle.equation_matroid_laws.specs.Conflicts.{IsInCircuit}
use Rattle.equation_matroid_laws.specs.EquationRanks.{AreIndependent}
use Rattle.row_choice_laws.specs.ColumnSearches.{leads_back, rows_along, rows_from}
use Rattle.row_choice_laws.specs.RowSearches.{AreRowsReachedInVain, IsJoining, TellsOf, has_row_entry, is_bare_row, origin_of_row, places}
use Rattle.row_choice_laws.specs.States.{KeepsEquations}
use Rattle.row_choice_laws.proofs.ColumnWalks.{along-columns, along-shortest, rows-reached, rows-vain}
use Rattle.row_choice_laws.proofs.Joining.{joined-dependent, rows-independent}
use Rattle.row_choice_laws.proofs.LoopStates.{given-kept, growth-keeps, joined-tableau, one-row-joins, one-vain, split-joins, start-bare}
use Rattle.row_choice_laws.proofs.OwnTableaus.{more-test, outer, outer-no_base, outer-no_match, pass, pick, less-test, same-test}
use Rattle.row_choice_laws.proofs.Told.{circuit-told}
use Rattle.equation_choice.specs.Choosers.{AreRowsIn, HasEntered, HasGivenUp, HasGrownFrom, IsReachedBack, KeepsAmong, first_place}
use Rattle.equation_choice.specs.Choosers.{HasJoined, HasBeenRefused}
use Rattle.equation_choice.specs.Pairs.{HasGrownBack, IsPairOver}
use Rattle.equation_choice.proofs.ArcLaws.{same_some}

same_origin : (a b : Origin) → Some a ≡ Some b → a ≡ b
same_origin a b e = cc

same_split : (a b : ℕ) → Split a ≡ Split b → a ≡ b
same_split a b e = cc

no_unknown : (a b : ℕ) → Split a ≡ Unknown b → ⊥
no_unknown a b e = cc

-- each equation has a row
pub gives-some : (N : MixedMatrix) (e : ℕ) → (gives_q N e ≡ true) ⊎ (has_symbol N e ≡ true)
gives-some N e = go (has_constant N e) (has_symbol N e)
  where
    go : (c s : Bool) → (c || not s ≡ true) ⊎ (s ≡ true)
    go true s = inl refl
    go false true = inr refl
    go false false = inl refl

module _ (p : ℕ) (l : Layers) (are : AreLayers l) (model : MixedModel) (of : AreLayersOf model l) (S : TableauState) (M : Matching)
    (over : IsPairOver p l S M) where
  abbrev N : MixedMatrix
  N = mixed_matrix_of model

  abbrev O : Origins
  O = origins_of l of.split

  abbrev A : ℕ → Bool
  A = gives_q (mixed_matrix_of model)

  abbrev D : ℕ → Bool
  D = has_symbol (mixed_matrix_of model)

  abbrev L : LayeredMatrix
  L = layers (entry l.q) S M

  abbrev F : Tableau
  F = tableau_of_pair S M

  pub lay : IsLayering N A D L O
  lay = subst (λ X. IsLayering N A D X O) (sym over.same) of.layered

  q_count : length l.q_origins ≡ S.rows
  q_count = are.q_origins ∙ sym (ap (λ (X : LayeredMatrix). X.q_rows) over.same)

  t_count : length l.t_origins ≡ L.t_rows
  t_count = are.t_origins ∙ sym (ap (λ (X : LayeredMatrix). X.t_rows) over.same)

  column_count : length l.column_origins ≡ L.columns
  column_count = are.column_origins ∙ sym (ap (λ (X : LayeredMatrix). X.columns) over.same)

  module _ (e : ℕ) (el : e < length model.equations) (q t z : Option ℕ) (rows : AreRowsIn l e q t z) where
    some-q : (i : ℕ) → q ≡ Some i → (i < L.q_rows) × (O.of_q i ≡ e)
    some-q i h = let s : StandsIn l.q_origins e i = subst (λ o. IfSome o (λ i. StandsIn l.q_origins e i)) h rows.q_some in
        (subst (λ n. i < n) q_count s.within, s.item)

    some-t : (d : ℕ) → t ≡ Some d → (d < L.t_rows) × (O.of_t d ≡ e)
    some-t d h = let s : StandsIn l.t_origins e d = subst (λ o. IfSome o (λ i. StandsIn l.t_origins e i)) h rows.t_some in
        (subst (λ n. d < n) t_count s.within, s.item)

    no-q : q ≡ None → A e ≡ false
    no-q h = not_true (A e) (λ a. let absent : IsAbsent l.q_origins e = subst (λ o. IfNone o (IsAbsent l.q_origins e)) h rows.q_none in
        absent (size_on A e) (subst (λ n. size_on A e < n) (sym q_count) (member-index A N.rows O.of_q L.q_rows lay.q_rows e el a))
        (member-at A N.rows O.of_q L.q_rows lay.q_rows e el a))

    no-t : t ≡ None → D e ≡ false
    no-t h = not_true (D e) (λ a. let absent : IsAbsent l.t_origins e = subst (λ o. IfNone o (IsAbsent l.t_origins e)) h rows.t_none in
        absent (size_on D e) (subst (λ n. size_on D e < n) (sym t_count) (member-index D N.rows O.of_t L.t_rows lay.t_rows e el a))
        (member-at D N.rows O.of_t L.t_rows lay.t_rows e el a))

    has-q : (i : ℕ) → q ≡ Some i → A e ≡ true
    has-q i h = subst (λ x. A x ≡ true) (some-q i h).1 (lay.q_rows.member i (some-q i h).0)

    has-t : (d : ℕ) → t ≡ Some d → D e ≡ true
    has-t d h = subst (λ x. D x ≡ true) (some-t d h).1 (lay.t_rows.member d (some-t d h).0)

    -- the auxiliary column of a split equation
    abbrev Auxiliary : Type 0
    Auxiliary = (k : ℕ) × (k < O.split) × (O.of_z k ≡ e) × (z ≡ Some (N.columns + k))

    auxiliary : both A D e ≡ true → Auxiliary
    auxiliary split = go z refl
      where
        k : ℕ
        k = size_on (both A D) e

        k_below : size_on (both A D) e < O.split
        k_below = member-index (both A D) N.rows O.of_z O.split lay.auxiliary e el split

        at_k : O.of_z (size_on (both A D) e) ≡ e
        at_k = member-at (both A D) N.rows O.of_z O.split lay.auxiliary e el split

        go : (o : Option ℕ) → z ≡ o → (k : ℕ) × (k < O.split) × (O.of_z k ≡ e) × (z ≡ Some (N.columns + k))
        go None h = absurd (subst (λ o. IfNone o ((y : ℕ) → slice_get l.column_origins y ≡ Some (Split e) → ⊥)) h rows.z_none
            (N.columns + size_on (both A D) e) (of.auxiliary (size_on (both A D) e) k_below ∙ ap (λ x. Some (Split x)) at_k))
        go (Some y) h = elim (lt_cases y N.columns) [
          | inl less ↦ absurd (no_unknown e y (same_origin (Split e) (Unknown y) (sym is ∙ of.unknowns y less)))
          | inr ge ↦
              let place : N.columns + (y - N.columns) ≡ y = omega (arith, ge) in
              let low : y - N.columns < O.split = omega (arith, ge, lay.columns, column_count, slice_get_within l.column_origins y (Split e) is) in (
                y - N.columns,
                low,
                sym (same_split e (O.of_z (y - N.columns)) (same_origin (Split e) (Split (O.of_z (y - N.columns)))
                    (sym is ∙ subst (λ x. slice_get l.column_origins x ≡ Some (Split (O.of_z (y - N.columns)))) place (of.auxiliary (y - N.columns) low)))),
                h ∙ ap Some (sym place),
              )
        ]
          where
            is : slice_get l.column_origins y ≡ Some (Split e)
            is = subst (λ o. IfSome o (λ y. slice_get l.column_origins y ≡ Some (Split e))) h rows.z_some

    -- the first row
    pub first-row : (s : ℕ) × (first_place S.rows q t ≡ Some s) × (s < places L) × (origin_of_row L O s ≡ e)
        × ((s < L.q_rows) ⊎ (A e ≡ false))
    first-row = go q refl t refl
      where
        go : (a : Option ℕ) → q ≡ a → (b : Option ℕ) → t ≡ b →
            (s : ℕ) × (first_place S.rows q t ≡ Some s) × (s < places L) × (origin_of_row L O s ≡ e) × ((s < L.q_rows) ⊎ (A e ≡ false))
        go (Some i) h b g = let (il, is) = some-q i h in (
          i,
          ap (λ a. first_place S.rows a t) h,
          omega (arith, il),
          pick (ltb i L.q_rows) (O.of_q i) (O.of_t (i - L.q_rows)) (less-test i L.q_rows il) ∙ is,
          inl il,
        )
        go None h (Some d) g = let (dl, is) = some-t d g in let place : L.q_rows + d - L.q_rows ≡ d = omega arith in (
          L.q_rows + d,
          ap (λ a. first_place S.rows a t) h ∙ ap (λ b. first_place S.rows None b) g,
          omega (arith, dl),
          pass (ltb (L.q_rows + d) L.q_rows) (O.of_q (L.q_rows + d)) (O.of_t (L.q_rows + d - L.q_rows)) (more-test (L.q_rows + d) L.q_rows (omega arith))
              ∙ ap O.of_t place ∙ is,
          inr (no-q h),
        )
        go None h None g = absurd (elim (gives-some N e) [ inl a ↦ differ (no-q h) a | inr d ↦ differ (no-t g) d ])

    module _ (K : ℕ → Bool) (kept : KeepsAmong p l of.split S M K) (new : K e ≡ false) where
      keeps : KeepsEquations p L O S.s F K
      keeps = subst (λ X. KeepsEquations p X O S.s F K) (sym over.same) kept

      -- ---- it has entered
      record IsIn (G : Tableau) : Type 0 where
        tab : IsTableau p L S.s S.u G
        join : IsJoining p N A L O S.s G K e

      -- with one row
      in-single : (q ≡ None) ⊎ (t ≡ None) → IsIn F
      in-single h = record { tab = over.tableau; join = one-row-joins p N A D L O lay S.s F K e keeps new (single h) }
        where
          single : (q ≡ None) ⊎ (t ≡ None) → both A D e ≡ false
          single (inl h) = not_true (both A D e) (λ b. differ (no-q h) (both-first (A e) (D e) b))
          single (inr h) = not_true (both A D e) (λ b. differ (no-t h) (both-second (A e) (D e) b))

      -- or split
      module _ (matching : IsMatching M) (i d : ℕ) (is_q : q ≡ Some i) (is_t : t ≡ Some d) where
        the-auxiliary : Auxiliary
        the-auxiliary = auxiliary (both_true (A e) (D e) (has-q i is_q) (has-t d is_t))

        abbrev Held : (k : ℕ) → Type 0
        Held k = (k < O.split) × (O.of_z k ≡ e) × (z ≡ Some (N.columns + k))

        module _ (k : ℕ) (kl : k < O.split) (of_z : O.of_z k ≡ e) where
          y_below : N.columns + k < S.columns
          y_below = omega (arith, lay.columns, kl)

          is-outer : outer p N A D L O lay S.s S.u F over.tableau K keeps.on (N.columns + k) ≡ true
          is-outer = two (ltb (N.columns + k) N.columns) (K (O.of_z (N.columns + k - N.columns))) (more-test (N.columns + k) N.columns (omega arith))
              (subst (λ x. K (O.of_z x) ≡ false) (let e : k ≡ N.columns + k - N.columns = omega arith in e) (subst (λ x. K x ≡ false) (sym of_z) new))
            where
              two : (a b : Bool) → a ≡ false → b ≡ false → not a && not b ≡ true
              two a b h g = grind arith

          y_free : is_free F (N.columns + k) ≡ true
          y_free = free-holds F (N.columns + k)
              (not_true (F.base (N.columns + k)) (outer-no_base p N A D L O lay S.s S.u F over.tableau K keeps.on (N.columns + k) y_below is-outer))
              (not_true (F.matched (N.columns + k)) (outer-no_match p N A D L O lay S.s S.u F over.tableau K keeps.on (N.columns + k) y_below is-outer))

          d_free : IsRowFree M d
          d_free col h = let (m, g) = pair-matched M d col h in
              let low : col < S.columns = omega (arith, over.width, matching.column d col h) in
              differ new (subst (λ x. K x ≡ true) (some-t d is_t).1 (subst (λ x. K (O.of_t x) ≡ true) g (keeps.on.matched col low m)))

          d_touches : touches M.pattern d (N.columns + k) ≡ true
          d_touches = lay.t_auxiliary d k (some-t d is_t).0 kl ∙ same-test (O.of_t d) (O.of_z k) ((some-t d is_t).1 ∙ sym of_z)

          abbrev Gs : Tableau
          Gs = tableau_of_pair S (with_pair M d (N.columns + k))

          takes : TakesMate L F Gs d (N.columns + k)
          takes = record {
            entries = refl;
            same_base = refl;
            same_rows = refl;
            linked = record {
              member = ap is_some (linked-here M matching d (N.columns + k) (omega (arith, over.width, y_below)));
              partner = ap (λ (o : Option ℕ). unwrap_or o 0) (linked-here M matching d (N.columns + k) (omega (arith, over.width, y_below)));
              tests = λ y yl ne. ap is_some (linked-other M d (N.columns + k) y ne);
              mates = λ y yl ne. ap (λ (o : Option ℕ). unwrap_or o 0) (linked-other M d (N.columns + k) y ne);
            };
          }

          in-split : IsIn Gs
          in-split = record {
            tab = joined-tableau p N A D L O lay S.s F K e keeps new S.u Gs over.tableau d k (some-t d is_t).0 kl (some-t d is_t).1 of_z takes;
            join = split-joins p N A D L O lay S.s F K e keeps new S.u Gs over.tableau d k (some-t d is_t).0 kl (some-t d is_t).1 of_z takes;
          }

          -- and what is kept stays when the match is given up
          out-split : (M'' : Matching) → IsUnlinked S.columns (is_matched (with_pair M d (N.columns + k))) (mate_of (with_pair M d (N.columns + k)))
              (is_matched M'') (mate_of M'') (N.columns + k) → KeepsEquations p L O S.s (tableau_of_pair S M'') K
          out-split M'' gone = given-kept p N A D L O lay S.s F K e keeps new S.u Gs over.tableau d k (some-t d is_t).0 kl (some-t d is_t).1 of_z takes
              (tableau_of_pair S M'') refl refl refl gone

      module _ (M' : Matching) (entered : HasEntered S M M' q t z) where
        matching : IsMatching M
        matching = entered.matching

        -- the equation has entered, and its layered matrix is the same
        pub record HasComeIn : Type 0 where
          pub same : layers (entry l.q) S M' ≡ L
          pub inside : IsTableau p L S.s S.u (tableau_of_pair S M') × IsJoining p N A L O S.s (tableau_of_pair S M') K e
          pub out : (M'' : Matching) → HasGivenUp M' M'' q t z → KeepsEquations p L O S.s (tableau_of_pair S M'') K

        pub come-in : HasComeIn
        come-in = go q refl t refl
          where
            alone : (q ≡ None) ⊎ (t ≡ None) → HasComeIn
            alone h = let eq : M ≡ M' = sym (entered.single h) in record {
              same = ap (λ m. layers (entry l.q) S m) (sym eq);
              inside = subst (λ m. IsTableau p L S.s S.u (tableau_of_pair S m) × IsJoining p N A L O S.s (tableau_of_pair S m) K e) eq
                  ((in-single h).tab, (in-single h).join);
              out = λ M'' given. subst (λ m. KeepsEquations p L O S.s (tableau_of_pair S m) K) (eq ∙ sym (given.single h)) keeps;
            }

            go : (a : Option ℕ) → q ≡ a → (b : Option ℕ) → t ≡ b → HasComeIn
            go None h b g = alone (inl h)
            go (Some i) h None g = alone (inr g)
            go (Some i) h (Some d) g = paired (auxiliary (both_true (A e) (D e) (has-q i h) (has-t d g)))
              where
                paired : Auxiliary → HasComeIn
                paired (k, kl, of_z, is_z) =
                    let eq : with_pair M d (N.columns + k) ≡ M' = sym (entered.split i d (N.columns + k) h g is_z (d_free matching i d h g k kl of_z)
                    (y_free matching i d h g k kl of_z) (d_touches matching i d h g k kl of_z)) in record {
                      same = ap (λ m. layers (entry l.q) S m) (sym eq);
                      inside = subst (λ m. IsTableau p L S.s S.u (tableau_of_pair S m) × IsJoining p N A L O S.s (tableau_of_pair S m) K e) eq
                          ((in-split matching i d h g k kl of_z).tab, (in-split matching i d h g k kl of_z).join);
                      out = λ M'' given. out-split matching i d h g k kl of_z M'' (subst (λ m. IsUnlinked S.columns (is_matched m) (mate_of m)
                          (is_matched M'') (mate_of M'') (N.columns + k)) (sym eq)
                          (subst (λ n. IsUnlinked n (is_matched M') (mate_of M') (is_matched M'') (mate_of M'') (N.columns + k))
                          (ap (λ (m : Matching). m.pattern.width) (sym eq) ∙ over.width) (given.split i d (N.columns + k) h g is_z)));
                    }

        abbrev G : Tableau
        G = tableau_of_pair S M'

        pub bare-first : is_bare_row L G first-row.0 ≡ true
        bare-first = let (s, _, sl, of_s, which) = first-row in start-bare p N A D L O lay S.s G K e come-in.inside.1 s sl of_s which

        module _ (prime : IsPrime p) where
          -- ---- and joins
          pub joined-kept : (S'' : TableauState) (M'' : Matching) → HasGrownFrom p l S S'' M' M'' first-row.0 →
              KeepsAmong p l of.split S'' M'' (with_one K e)
          joined-kept S'' M'' from = subst (λ X. KeepsEquations p X O S''.s (tableau_of_pair S'' M'') (with_one K e)) over.same
              (growth-keeps p N A D L O lay S.s S''.s F G (tableau_of_pair S'' M'') K e keeps come-in.inside.1 held s sl of_s which
              (rows_along L G s from.at) from.at from.last (along-shortest p L G held s sl bare-first from.at from.last walk)
              (along-columns p L G held s sl bare-first from.at from.last walk) grown.rows (grown.same N A O K e come-in.inside.1 own))
            where
              s : ℕ
              s = first-row.0

              sl : first-row.0 < places L
              sl = first-row.2

              of_s : origin_of_row L O first-row.0 ≡ e
              of_s = first-row.3

              which : (first-row.0 < L.q_rows) ⊎ (A e ≡ false)
              which = first-row.4

              held : HasTableau p L G
              held = tableau p prime L S.s S.u G come-in.inside.0

              walk : IsShortest (leads_back p L G) L.columns (has_row_entry p L G first-row.0) (is_free G) from.at from.last
              walk = subst (λ X. IsShortest (leads_back p X G) X.columns (has_row_entry p X G first-row.0) (is_free G) from.at from.last) come-in.same from.walk

              grown : HasGrownBack p L S.s S''.s G (tableau_of_pair S'' M'') first-row.0 from.at from.last
              grown = subst (λ X. HasGrownBack p X S.s S''.s G (tableau_of_pair S'' M'') first-row.0 from.at from.last) come-in.same from.grown

              own : first-row.0 < L.q_rows → O.of_q first-row.0 ≡ e
              own l = sym (pick (ltb first-row.0 L.q_rows) (O.of_q first-row.0) (O.of_t (first-row.0 - L.q_rows)) (less-test first-row.0 L.q_rows l)) ∙ of_s

          -- ---- or does not
          module _ (big : 2 < p) (X : ℕ → Bool) (back : IsReachedBack p l S M' first-row.0 X) where
            back-here : IsReachedSet (leads_back p L G) L.columns (has_row_entry p L G first-row.0) X
                × NoEndReached (leads_back p L G) L.columns (has_row_entry p L G first-row.0) (is_free G)
            back-here = subst (λ Y. IsReachedSet (leads_back p Y G) Y.columns (has_row_entry p Y G first-row.0) X
                × NoEndReached (leads_back p Y G) Y.columns (has_row_entry p Y G first-row.0) (is_free G)) come-in.same (back.reached, back.vain)

            abbrev W : ℕ → Bool
            W = rows_from L G first-row.0 X

            reach : AreRowsReachedInVain p L O G (with_one K e) (rows_from L G first-row.0 X)
            reach = let held : HasTableau p L G = tableau p prime L S.s S.u G come-in.inside.0 in
                one-vain p N A D L O lay S.s G K e come-in.inside.1 first-row.0 first-row.2 first-row.3 first-row.4 (rows_from L G first-row.0 X)
                (rows-reached p L G held first-row.0 first-row.2 X back-here.0 back-here.1)
                (rows-vain p L G held first-row.0 first-row.2 X back-here.0 back-here.1)

            pub refused-dependent : AreIndependent p N (with_one K e) → ⊥
            refused-dependent = joined-dependent p prime big N A D L O lay S.s S.u G come-in.inside.0 K e el (gives-some N e) come-in.inside.1
                (rows_from L G first-row.0 X) reach

            pub refused-told : TellsOf p D L O S.s K (rows_from L G first-row.0 X) (IsInCircuit p N K e)
            refused-told = circuit-told p prime big N A D L O lay S.s S.u G come-in.inside.0 K e el (gives-some N e) new come-in.inside.1
                (rows-independent p prime big N A D L O lay S.s S.u F over.tableau K keeps.on (λ x _ _. gives-some N x) keeps.used)
                (rows_from L G first-row.0 X) reach

module _ (p : ℕ) (prime : IsPrime p) (l : Layers) (are : AreLayers l) (S : TableauState) (M : Matching) (over : IsPairOver p l S M)
    (e : ℕ) (q t z : Option ℕ) (rows : AreRowsIn l e q t z) (M' : Matching) (entered : HasEntered S M M' q t z) where
  -- an equation that enters and grows has joined
  pub has-joined : (S' : TableauState) → S' ≡ S → (row : ℕ) → first_place S'.rows q t ≡ Some row → (S'' : TableauState) (M'' : Matching) →
      HasGrownFrom p l S' S'' M' M'' row → HasJoined p l S S'' M M'' e
  has-joined S' state row first S'' M'' from model of K kept el new =
      let here = first-row p l are model of S M over e el q t z rows in
      joined-kept p l are model of S M over e el q t z rows K kept new M' entered prime S'' M''
      (subst (λ r. HasGrownFrom p l S S'' M' M'' r) (same_some row here.0 (sym first ∙ ap (λ (s : TableauState). first_place s.rows q t) state ∙ here.1))
      (subst (λ s. HasGrownFrom p l s S'' M' M'' row) state from))

  -- and one that is given up after a try in vain is refused
  pub is-refused : (big : 2 < p) → (X : ℕ → Bool) → ((s : ℕ) → first_place S.rows q t ≡ Some s →
      is_bare_row (layers (entry l.q) S M') (tableau_of_pair S M') s ≡ true → IsReachedBack p l S M' s X) →
      (M'' : Matching) → HasGivenUp M' M'' q t z → HasBeenRefused p l S S M M'' e
  is-refused big X vain M'' given model of K kept el new =
      let here = first-row p l are model of S M over e el q t z rows in
      let inside = come-in p l are model of S M over e el q t z rows K kept new M' entered in
      let bare = bare-first p l are model of S M over e el q t z rows K kept new M' entered in
      let back = vain here.0 here.1 (bare-over (entry l.q) S M' (layers (entry l.q) S M) here.0 (sym inside.same) bare) in (
        subst (λ L. KeepsEquations p L (origins_of l of.split) S.s (tableau_of_pair S M'') K) over.same (inside.out M'' given),
        refused-dependent p l are model of S M over e el q t z rows K kept new M' entered prime big X back,
      )
    where
      bare-over : (f : ℕ → ℕ → ℕ) (S : TableauState) (N : Matching) (L : LayeredMatrix) (s : ℕ) → L ≡ layers f S N →
          is_bare_row L (tableau_of_pair S N) s ≡ true → is_bare_row (layers f S N) (tableau_of_pair S N) s ≡ true
      bare-over f S N L s same h = subst (λ X. is_bare_row X (tableau_of_pair S N) s ≡ true) same h

-- where no first row is told, none is bare
pub no-first : (q : ℕ → ℕ → ℕ) (S S' : TableauState) → S' ≡ S → (M' : Matching) (a b : Option ℕ) →
    ((s : ℕ) → first_place S'.rows a b ≡ Some s → is_bare_row (layers_of S' M') (tableau_of_pair S' M') s ≡ true → ⊥) →
    (s : ℕ) → first_place S.rows a b ≡ Some s → is_bare_row (layers q S M') (tableau_of_pair S M') s ≡ true → ⊥
unfolding is_bare_row
no-first q S S' same M' a b none = subst (λ X. (s : ℕ) → first_place X.rows a b ≡ Some s →
    is_bare_row (layers_of X M') (tableau_of_pair X M') s ≡ true → ⊥) same none
