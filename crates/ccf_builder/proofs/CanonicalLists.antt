-- The lists of the columns of an engine's parts are the canonical parts of its matrix, where its pair is best.
use Rattle.std.proofs.Common.{◌≡◌, ℕ, zero, suc, ◌+◌, ◌<◌, ◌≤◌, Bool, true, false, cond, eqb, ◌&&◌, ◌||◌, List, [], ◌∷◌, ◌++◌}
use Rattle.std.proofs.Common.{length, map, get_or, inl, inr, refl, ap, sym, ◌∙◌, subst, arith}
use Rattle.std.proofs.lemmas.List.{get_or-map, get_or_past, length-map}
use Rattle.residue_theory.specs.Residues.{IsPrime}
use Rattle.residue_theory.specs.Sets.{has, some_below}
use Rattle.residue_theory.proofs.SetLaws.{both-first, both-second, both_true, differ, eqb_from, eqb_true, lt_cases, some_below-holds}
use Rattle.bipartite_matching.specs.Matchings.{Matching}
use Rattle.closed_sets.specs.Closed.{NoEndReached}
use Rattle.closed_sets.specs.Rules.{KeepsPlaceRules}
use Rattle.mixed_matrices.specs.Arcs.{HasNoWalk, has_base, has_match, is_end, is_free, leads_to}
use Rattle.mixed_matrices.specs.CheckerRules.{HasRows, KeepsPartRules}
use Rattle.mixed_matrices.specs.Forms.{Parts as Forms}
use Rattle.mixed_matrices.specs.LayeredMatrices.{LayeredMatrix}
use Rattle.mixed_matrices.specs.Tableaus.{HasTableau, Tableau}
use Rattle.mixed_form_laws.proofs.Canonical.{block-lower, checked-canonical, lower-block}
use Rattle.independent_matching.specs.Engines.{layers}
use Rattle.independent_matching.specs.Sides.{is_matched, layers_of, mate_of, tableau_of_pair}
use Rattle.independent_matching.proofs.EngineLaws.{same-arcs as kept-arcs, same-ends as kept-ends}
use Rattle.minimiser_lattice.specs.Parts.{PlaceParts}
use Rattle.minimiser_lattice.specs.declared.lattice.Part.{Part}
use Rattle.minimiser_lattice.specs.declared.lattice.Part.TheVariants.{Block}
use Rattle.row_transform.specs.Tableaus.{TableauState}
use Rattle.cert_text.specs.Ranges.{AreRising}
use Rattle.cert_text.specs.Readings.{place_of}
use Rattle.ccf_builder.specs.declared.canonical.Block.{Block as Columns}
use Rattle.ccf_builder.specs.declared.canonical.Parts.{Parts}
use Rattle.ccf_builder.specs.Canonical.{AreCanonicalLists, listed_columns, lower_list}
use Rattle.ccf_builder.specs.Decompositions.{IsDecomposition}
use Rattle.ccf_builder.specs.Placings.{ListsBelow, ListsColumns, ListsPart, PlacesColumns}
use Rattle.ccf_builder.proofs.ListedParts.{column-few, columns-once, covers-listed, order-listed, rules-listed}
use Rattle.ccf_builder.proofs.SameRules.{same-clear}

-- a member of X below n, if there is one
abbrev member_below : ℕ → (ℕ → Bool) → ℕ
member_below zero X = 0
member_below (suc n) X = cond (X n) n (member_below n X)

or_false : (t : Bool) → (t || false) ≡ t
or_false true = refl
or_false false = refl

member-step : (n : ℕ) (X : ℕ → Bool) (t : Bool) → X n ≡ t → (some_below n X || X n) ≡ true →
    (some_below n X ≡ true → (member_below n X < n) × (X (member_below n X) ≡ true)) →
    (cond (X n) n (member_below n X) < suc n) × (X (cond (X n) n (member_below n X)) ≡ true)
member-step n X true e h before = subst (λ t. (cond t n (member_below n X) < suc n) × (X (cond t n (member_below n X)) ≡ true)) (sym e) (omega arith, e)
member-step n X false e h before =
    let found = before (sym (or_false (some_below n X)) ∙ ap (λ t. some_below n X || t) (sym e) ∙ h) in
    subst (λ t. (cond t n (member_below n X) < suc n) × (X (cond t n (member_below n X)) ≡ true)) (sym e) (omega (arith, found.0), found.1)

member-below : (n : ℕ) (X : ℕ → Bool) → some_below n X ≡ true → (member_below n X < n) × (X (member_below n X) ≡ true)
member-below zero X h = absurd (differ refl h)
member-below (suc n) X h = member-step n X (X n) refl h (member-below n X)

-- the part of row i, where the columns of B have rows, one each: that of its column, and else the last
abbrev part_of_row : (ℕ → ℕ) → ℕ → ℕ → (ℕ → Bool) → (ℕ → ℕ) → ℕ → ℕ
part_of_row column last n B row i = cond (some_below n (λ y. B y && eqb (row y) i)) (column (member_below n (λ y. B y && eqb (row y) i))) last

part-of_row : (column : ℕ → ℕ) (last n : ℕ) (B : ℕ → Bool) (row : ℕ → ℕ) →
    ((y z : ℕ) → y < n → z < n → B y ≡ true → B z ≡ true → row y ≡ row z → y ≡ z) →
    (y : ℕ) → y < n → B y ≡ true → part_of_row column last n B row (row y) ≡ column y
part-of_row column last n B row apart y yl h =
    let X : ℕ → Bool = λ z. B z && eqb (row z) (row y) in
    let some : some_below n X ≡ true = some_below-holds n X y yl (both_true (B y) (eqb (row y) (row y)) h (eqb_from (row y) (row y) refl)) in
    let found = member-below n X some in
    let z : ℕ = member_below n X in
    ap (λ t. cond t (column z) last) some
    ∙ ap column (apart z y found.0 yl (both-first (B z) (eqb (row z) (row y)) found.1) h
    (eqb_true (row z) (row y) (both-second (B z) (eqb (row z) (row y)) found.1)))

part-of_bare : (column : ℕ → ℕ) (last n : ℕ) (B : ℕ → Bool) (row : ℕ → ℕ) (i : ℕ) →
    some_below n (λ y. B y && eqb (row y) i) ≡ false → part_of_row column last n B row i ≡ last
part-of_bare column last n B row i none = ap (λ t. cond t (column (member_below n (λ y. B y && eqb (row y) i))) last) none

module _ (p : ℕ) (prime : IsPrime p) (S : TableauState) (M : Matching)
    (clear : HasNoWalk p (layers_of S M) (tableau_of_pair S M))
    (v : PlaceParts) (decomposed : IsDecomposition p S M v) (columns : List Part) (of_columns : PlacesColumns v columns)
    (parts : Parts) (listed : ListsColumns v columns parts) (q : ℕ → ℕ → ℕ)
    (tab : HasTableau p (layers q S M) (tableau_of_pair S M)) where
  abbrev L : LayeredMatrix
  L = layers q S M

  abbrev F : Tableau
  F = tableau_of_pair S M

  abbrev b : ℕ
  b = length parts.blocks.items

  abbrev middle : List (List ℕ)
  middle = map (λ (block : Columns). block.columns) parts.blocks.items

  abbrev lowers : List (List ℕ)
  lowers = map (λ (block : Columns). block.lower) parts.blocks.items

  no_block : Columns
  no_block = record { columns = []; lower = [] }

  in_blocks : (k : ℕ) → k < b → ListsPart columns (Block k) (get_or middle k [])
  in_blocks k kb = subst (ListsPart columns (Block k))
      (sym (get_or-map (λ (block : Columns). block.columns) parts.blocks.items k no_block [] kb)) (listed.columns_are k no_block kb)

  lower_is : (k : ℕ) → k < b → ListsBelow (λ j. v.covers k j ≡ true) k (get_or lowers k [])
  lower_is k kb = subst (ListsBelow (λ j. v.covers k j ≡ true) k)
      (sym (get_or-map (λ (block : Columns). block.lower) parts.blocks.items k no_block [] kb)) (listed.lower k no_block kb)

  clear_here : NoEndReached (leads_to p (layers_of S M) F) S.columns decomposed.starts decomposed.ends
  clear_here = same-clear (leads_to p (layers_of S M) F) (leads_to p (layers_of S M) F) S.columns (is_free F) decomposed.starts
      (is_end p (layers_of S M) F) decomposed.ends (λ x y _ _. refl) (λ x xl. sym (decomposed.starts_are x xl))
      (λ x xl. sym (decomposed.ends_are x xl)) clear

  rules : KeepsPlaceRules (leads_to p (layers_of S M) F) S.columns decomposed.starts decomposed.ends v.first v.last v.block v.blocks v.covers
  rules = decomposed.rules clear_here

  arcs_same : (x y : ℕ) → x < S.columns → y < S.columns → leads_to p (layers_of S M) F x y ≡ leads_to p L F x y
  arcs_same x y xl yl = sym (ap (λ (a : ℕ → ℕ → Bool). a x y) (kept-arcs p q S M))

  ends_same : (x : ℕ) → x < S.columns → decomposed.ends x ≡ is_end p L F x
  ends_same x xl = decomposed.ends_are x xl ∙ sym (ap (λ (e : ℕ → Bool). e x) (kept-ends p q S M))

  -- the parts with rows, each in the part of its column
  abbrev G : Forms
  G = record {
    blocks = b;
    column = place_of (listed_columns parts);
    q_row = part_of_row (place_of (listed_columns parts)) (b + 1) S.columns S.base S.row;
    t_row = part_of_row (place_of (listed_columns parts)) (b + 1) S.columns (is_matched M) (mate_of M);
  }

  abbrev lower : ℕ → ℕ → Bool
  lower l k = has (get_or lowers l []) k

  rows : HasRows L F G
  unfolding has_base has_match
  rows = record {
    columns = column-few (leads_to p (layers_of S M) F) S.columns decomposed.starts decomposed.ends v decomposed.places decomposed.lattice rules
        columns of_columns b listed.count parts.first parts.last middle lowers (length-map parts.blocks.items _) (length-map parts.blocks.items _)
        listed.first in_blocks listed.last lower_is;
    base = part-of_row (place_of (listed_columns parts)) (b + 1) S.columns S.base S.row
        (λ y z yl zl hy hz same. tab.base.distinct y z yl zl hy hz same);
    matched = part-of_row (place_of (listed_columns parts)) (b + 1) S.columns (is_matched M) (mate_of M)
        (λ y z yl zl hy hz same. tab.matching.distinct y z yl zl hy hz same);
    other_q = λ i il. part-of_bare (place_of (listed_columns parts)) (b + 1) S.columns S.base S.row i;
    other_t = λ i il. part-of_bare (place_of (listed_columns parts)) (b + 1) S.columns (is_matched M) (mate_of M) i;
  }

  keeps : KeepsPartRules p L F G v.below lower
  keeps = record {
    rows = rows;
    rules = rules-listed (leads_to p (layers_of S M) F) S.columns decomposed.starts decomposed.ends v decomposed.places decomposed.lattice rules
        columns of_columns b listed.count parts.first parts.last middle lowers (length-map parts.blocks.items _) (length-map parts.blocks.items _)
        listed.first in_blocks listed.last lower_is (leads_to p L F) (is_free F) (is_end p L F) arcs_same decomposed.starts_are ends_same;
    order = order-listed (leads_to p (layers_of S M) F) S.columns decomposed.starts decomposed.ends v decomposed.places decomposed.lattice rules
        columns of_columns b listed.count parts.first parts.last middle lowers (length-map parts.blocks.items _) (length-map parts.blocks.items _)
        listed.first in_blocks listed.last lower_is (leads_to p L F) (is_free F) (is_end p L F) arcs_same decomposed.starts_are ends_same;
    lists = covers-listed (leads_to p (layers_of S M) F) S.columns decomposed.starts decomposed.ends v decomposed.places decomposed.lattice rules
        columns of_columns b listed.count parts.first parts.last middle lowers (length-map parts.blocks.items _) (length-map parts.blocks.items _)
        listed.first in_blocks listed.last lower_is;
  }

  no_numbers : (n : ℕ) → AreRising n []
  no_numbers n = record { rising = λ k kl. absurd (omega (arith, kl)); below = λ k d kl. absurd (omega (arith, kl)) }

  rising : (k : ℕ) → AreRising S.columns (get_or (listed_columns parts) k [])
  rising zero = subst (λ n. AreRising n parts.first) (of_columns.count ∙ decomposed.places) listed.first.rising
  rising (suc k) = rising-behind middle parts.last k
      (λ j jl. subst (λ n. AreRising n (get_or middle j [])) (of_columns.count ∙ decomposed.places)
      (in_blocks j (subst (λ n. j < n) (length-map parts.blocks.items _) jl)).rising)
      (subst (λ n. AreRising n parts.last) (of_columns.count ∙ decomposed.places) listed.last.rising)
    where
      rising-behind : (lists : List (List ℕ)) (last : List ℕ) (k : ℕ) → ((j : ℕ) → j < length lists → AreRising S.columns (get_or lists j [])) →
          AreRising S.columns last → AreRising S.columns (get_or (lists ++ last ∷ []) k [])
      rising-behind [] last zero each end = end
      rising-behind [] last (suc k) each end = no_numbers S.columns
      rising-behind (list ∷ lists) last zero each end = each 0 (omega arith)
      rising-behind (list ∷ lists) last (suc k) each end = rising-behind lists last k (λ j jl. each (suc j) (omega (arith, jl))) end

  lower_rising : (k : ℕ) → AreRising k (lower_list parts k)
  lower_rising k = elim (lt_cases k b) [
    | inl low ↦ (lower_is k low).rising
    | inr high ↦ subst (AreRising k) (sym (get_or_past lowers k []
        (subst (λ n. n ≤ k) (sym (length-map parts.blocks.items (λ (block : Columns). block.lower))) high)))
        (no_numbers k)
  ]

  pub canonical-lists : AreCanonicalLists p L parts
  canonical-lists =
      let are = checked-canonical p prime L F tab G v.below lower keeps in
      record {
        once = columns-once (leads_to p (layers_of S M) F) S.columns decomposed.starts decomposed.ends v decomposed.places decomposed.lattice rules
            columns of_columns b listed.count parts.first parts.last middle lowers (length-map parts.blocks.items _) (length-map parts.blocks.items _)
            listed.first in_blocks listed.last lower_is;
        rising = rising;
        canonical = record {
          columns = are.columns;
          held = are.held;
          first = are.first;
          last = are.last;
          block = are.block;
          ready = are.ready;
          least = are.least;
        };
        lower_rising = lower_rising;
        lower = λ k l kl ll. (
          (λ h. let is = lower-block p prime L F tab G v.below lower keeps k l kl ll h in
              record { below = is.below; none_between = is.none_between }),
          λ is. block-lower p prime L F tab G v.below lower keeps k l kl ll (record { below = is.below; none_between = is.none_between }),
        );
      }
