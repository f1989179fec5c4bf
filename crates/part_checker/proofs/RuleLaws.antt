-- The rules of the parts, by what is told of a form.
use Rattle.std.proofs.Common.{◌≡◌, ℕ, ◌+◌, ◌<◌, ◌↔◌, Bool, true, eqb, IsTrue, List, length, slice_index, inl, inr, sym, subst, ◌∙◌}
use Rattle.std.proofs.Math.Path.{fun_ext}
use Rattle.residue_theory.proofs.SetLaws.{both_true, both-first, both-second, eqb_true, eqb_from}
use Rattle.bit_table.specs.Bits.{bit_in}
use Rattle.closed_sets.specs.Walks.{FromSome, ToSome}
use Rattle.mixed_matrices.specs.Arcs.{is_end, is_free, leads_to}
use Rattle.mixed_matrices.specs.CheckerRules.{block_of, in_first, in_last}
use Rattle.mixed_matrices.specs.LayeredMatrices.{LayeredMatrix}
use Rattle.cert_text.specs.Contents.{Contents}
use Rattle.cert_text.specs.Ranges.{IsCcf}
use Rattle.cert_text.specs.Readings.{lower_of, parts_of, tableau_of}
use Rattle.cert_text.specs.Rules.{HasLowerLists, HasReasons, LeadsDown}
use Rattle.cert_text.proofs.PrintedRules.{lower-before}
use Rattle.part_rules.specs.Listed.{arc_in, inner, marked}
use Rattle.part_rules.specs.Laws.{AreFalling}
use Rattle.part_rules.specs.Parts.{AreNumbered}
use Rattle.part_rules.specs.Tests.{ArcsAreDown, AreCovers, AreFirstPlaces, AreMet, AreSeeds, IsLeastFirst, TellsChains}
use Rattle.part_rules.proofs.Numbering.{down-numbers, numbers-down}
use Rattle.part_rules.proofs.Withins.{met-reasons, reasons-met}
use Rattle.part_rules.proofs.Lists.{covers-lists, lists-covers, lists-least}
use Rattle.part_search.specs.Searched.{IsSearched}
use Rattle.part_checker.specs.Told.{AreTold, IsPrintedBy, TellsParts}
use Rattle.part_checker.specs.declared.telling.PartsTold.{PartsTold}
use Rattle.part_checker.proofs.PartNumbers.{parts-numbered}
use Rattle.part_checker.proofs.PrintedArcs.{leads-same, ends-same}

module _ (p : ℕ) (c : Contents) (is : IsCcf p c) (parts : List ℕ) (T : TellsParts c parts) (t : PartsTold) (told : AreTold p c parts t) where
  abbrev lower_items : ℕ → ℕ → Bool
  lower_items = arc_in t.lower.items

  lists-same : arc_in t.lower.items ≡ lower_of c
  lists-same = fun_ext (λ l. fun_ext (λ k. told.lower l k))

  pub chains-told : TellsChains (lower_of c) (length c.blocks) (bit_in t.below)
  chains-told = subst (λ lower. TellsChains lower (length c.blocks) (bit_in t.below)) lists-same told.chains

  falling : AreFalling (lower_of c)
  falling k l h = (lower-before p c is k l h).0

  module _ (L : LayeredMatrix) (P : IsPrintedBy L c) where
    arc : ℕ → ℕ → Bool
    arc = leads_to p L (tableau_of c)

    within : (x : ℕ) → x < L.columns → x < c.shape.columns
    within x xl = subst (λ n. x < n) P.columns xl

    at-parts : (x : ℕ) → x < L.columns → x < length parts
    at-parts x xl = subst (λ n. x < n) (P.columns ∙ sym T.count) xl

    from-parts : (x : ℕ) → x < length parts → x < L.columns
    from-parts x xl = subst (λ n. x < n) (T.count ∙ sym P.columns) xl

    listed-leads : (x y : ℕ) → x < L.columns → y < L.columns → (arc_in t.arcs.arcs.items x y ≡ true) ↔ (leads_to p L (tableau_of c) x y ≡ true)
    listed-leads x y xl yl =
        let lead = told.arcs.lead x y (within x xl) (within y yl) in
        let same = leads-same p c is L P x y (within x xl) in (
          λ h. sym same ∙ lead.0 h,
          λ h. lead.1 (same ∙ h),
        )

    free-told : (x : ℕ) → x < L.columns → (marked t.arcs.free.items x ≡ true) ↔ (is_free (tableau_of c) x ≡ true)
    free-told x xl = told.arcs.starts x (within x xl)

    ends-told : (x : ℕ) → x < L.columns → (marked t.arcs.ends.items x ≡ true) ↔ (is_end p L (tableau_of c) x ≡ true)
    ends-told x xl =
        let stop = told.arcs.stops x (within x xl) in
        let same = ends-same p c is L P x (within x xl) in (
          λ h. sym same ∙ stop.0 h,
          λ h. stop.1 (same ∙ h),
        )

    numbered : AreNumbered L.columns (length c.blocks) (in_first (parts_of c)) (in_last (parts_of c)) (block_of (parts_of c)) (slice_index parts)
    numbered = subst (λ n. AreNumbered n (length c.blocks) (in_first (parts_of c)) (in_last (parts_of c))
        (block_of (parts_of c)) (slice_index parts)) (sym P.columns) (parts-numbered p c is parts T)

    abbrev Down : Type 0
    Down = ArcsAreDown (leads_to p L (tableau_of c)) L.columns (is_free (tableau_of c)) (is_end p L (tableau_of c))
        (slice_index parts) (length c.blocks) (lower_of c)

    abbrev Tested : Type 0
    Tested = ArcsAreDown (arc_in t.arcs.arcs.items) (length parts) (marked t.arcs.free.items)
        (marked t.arcs.ends.items) (slice_index parts) (length c.blocks) (lower_of c)

    tested-down : Tested → Down
    tested-down A = record {
      starts_first = λ x xl h. A.starts_first x (at-parts x xl) ((free-told x xl).1 h);
      ends_last = λ x xl h. A.ends_last x (at-parts x xl) ((ends-told x xl).1 h);
      arcs = λ x y xl yl h. A.arcs x y (at-parts x xl) (at-parts y yl) ((listed-leads x y xl yl).1 h);
    }

    down-tested : Down → Tested
    down-tested A = record {
      starts_first = λ x xl h. A.starts_first x (from-parts x xl) ((free-told x (from-parts x xl)).0 h);
      ends_last = λ x xl h. A.ends_last x (from-parts x xl) ((ends-told x (from-parts x xl)).0 h);
      arcs = λ x y xl yl h. A.arcs x y (from-parts x xl) (from-parts y yl) ((listed-leads x y (from-parts x xl) (from-parts y yl)).0 h);
    }

    pub rule-tested : LeadsDown p L c → Tested
    rule-tested R = down-tested (down-numbers L.columns (length c.blocks) (in_first (parts_of c))
        (in_last (parts_of c)) (block_of (parts_of c)) (slice_index parts) numbered (leads_to p L (tableau_of c))
        (is_free (tableau_of c)) (is_end p L (tableau_of c)) (lower_of c) R)

    pub tested-rule : Tested → LeadsDown p L c
    tested-rule A = numbers-down L.columns (length c.blocks) (in_first (parts_of c))
        (in_last (parts_of c)) (block_of (parts_of c)) (slice_index parts) numbered (leads_to p L (tableau_of c))
        (is_free (tableau_of c)) (is_end p L (tableau_of c)) (lower_of c) (tested-down A)

    heads-first : AreFirstPlaces L.columns (slice_index parts) (length c.blocks) (slice_index t.heads.items)
    heads-first = subst (λ n. AreFirstPlaces n (slice_index parts) (length c.blocks) (slice_index t.heads.items)) (T.count ∙ sym P.columns) told.heads

    module _ (R : LeadsDown p L c) where
      down : Down
      down = tested-down (rule-tested R)

      pub reasons-told : (answer : Bool) → IsSearched (inner (arc_in t.arcs.arcs.items) (slice_index parts))
          (length parts) (marked t.arcs.free.items) (marked t.arcs.ends.items) (slice_index parts) (length c.blocks)
          (slice_index t.heads.items) answer →
          IsTrue answer ↔ HasReasons p L c
      reasons-told answer S = (
        λ h. met-reasons (leads_to p L (tableau_of c)) L.columns (is_free (tableau_of c))
            (is_end p L (tableau_of c)) (in_first (parts_of c)) (in_last (parts_of c)) (block_of (parts_of c))
            (slice_index parts) (length c.blocks) (lower_of c)
            numbered falling down (inner (arc_in t.arcs.arcs.items) (slice_index parts)) insides
            (slice_index t.heads.items) S.low S.high S.from S.to heads-first.heads lows highs froms tos
            (met-columns (S.told.0 h)),
        λ G. S.told.1 (met-parts (reasons-met (leads_to p L (tableau_of c)) L.columns (is_free (tableau_of c))
            (is_end p L (tableau_of c)) (in_first (parts_of c)) (in_last (parts_of c)) (block_of (parts_of c))
            (slice_index parts) (length c.blocks) (lower_of c)
            numbered falling down (inner (arc_in t.arcs.arcs.items) (slice_index parts)) insides
            (slice_index t.heads.items) S.low S.high S.from S.to heads-first.heads lows highs froms tos
            G)),
      )
        where
          size : length parts ≡ L.columns
          size = T.count ∙ sym P.columns

          insides : (x y : ℕ) → x < L.columns → y < L.columns →
              (inner (arc_in t.arcs.arcs.items) (slice_index parts) x y ≡ true) ↔
              ((leads_to p L (tableau_of c) x y ≡ true) × (slice_index parts x ≡ slice_index parts y))
          insides x y xl yl = (
            λ h. (
              (listed-leads x y xl yl).0 (both-first (arc_in t.arcs.arcs.items x y)
                  (eqb (slice_index parts x) (slice_index parts y)) h),
              eqb_true (slice_index parts x)
                  (slice_index parts y) (both-second (arc_in t.arcs.arcs.items x y)
                  (eqb (slice_index parts x) (slice_index parts y)) h),
            ),
            λ h. both_true (arc_in t.arcs.arcs.items x y) (eqb (slice_index parts x) (slice_index parts y))
                ((listed-leads x y xl yl).1 h.0) (eqb_from (slice_index parts x) (slice_index parts y) h.1),
          )

          lows : AreSeeds L.columns (is_free (tableau_of c)) (length c.blocks) (slice_index t.heads.items) S.low
          lows x xl = let seed = S.low_seeds x (at-parts x xl) in (
            λ h. elim (seed.0 h) [ inl free ↦ inl ((free-told x xl).0 free) | inr head ↦ inr head ],
            λ h. seed.1 (elim h [ inl free ↦ inl ((free-told x xl).1 free) | inr head ↦ inr head ]),
          )

          highs : AreSeeds L.columns (is_end p L (tableau_of c)) (length c.blocks) (slice_index t.heads.items) S.high
          highs x xl = let seed = S.high_seeds x (at-parts x xl) in (
            λ h. elim (seed.0 h) [ inl end ↦ inl ((ends-told x xl).0 end) | inr head ↦ inr head ],
            λ h. seed.1 (elim h [ inl end ↦ inl ((ends-told x xl).1 end) | inr head ↦ inr head ]),
          )

          froms : (y : ℕ) → y < L.columns → (S.from y ≡ true) ↔ FromSome (inner (arc_in t.arcs.arcs.items) (slice_index parts)) L.columns S.low y
          froms y yl = subst (λ n. (S.from y ≡ true) ↔ FromSome
              (inner (arc_in t.arcs.arcs.items) (slice_index parts)) n S.low y) size (S.reached y (at-parts y yl))

          tos : (x : ℕ) → x < L.columns → (S.to x ≡ true) ↔ ToSome (inner (arc_in t.arcs.arcs.items) (slice_index parts)) L.columns S.high x
          tos x xl = subst (λ n. (S.to x ≡ true) ↔ ToSome (inner (arc_in t.arcs.arcs.items) (slice_index parts)) n S.high x) size (S.reaching x (at-parts x xl))

          met-columns : AreMet (length parts) (length c.blocks) (slice_index parts) S.from S.to →
              AreMet L.columns (length c.blocks) (slice_index parts) S.from S.to
          met-columns met x xl = met x (at-parts x xl)

          met-parts : AreMet L.columns (length c.blocks) (slice_index parts) S.from S.to →
              AreMet (length parts) (length c.blocks) (slice_index parts) S.from S.to
          met-parts met x xl = met x (from-parts x xl)

      module _ (G : HasReasons p L c) where
        abbrev Covers : Type 0
        Covers = AreCovers (leads_to p L (tableau_of c)) L.columns (slice_index parts) (length c.blocks) (lower_of c)

        abbrev Listed : Type 0
        Listed = AreCovers (arc_in t.arcs.arcs.items) (length parts) (slice_index parts) (length c.blocks) (lower_of c)

        listed-covers : Listed → Covers
        listed-covers C = record { direct = λ k l lb h. go k l (C.direct k l lb h); none_between = C.none_between }
          where
            go : (k l : ℕ) → ((x y : ℕ) × (x < length parts) × (y < length parts) × (slice_index parts x ≡ l + 2)
                × (slice_index parts y ≡ k + 2) × (arc_in t.arcs.arcs.items x y ≡ true)) →
                (x y : ℕ) × (x < L.columns) × (y < L.columns) × (slice_index parts x ≡ l + 2)
                × (slice_index parts y ≡ k + 2) × (leads_to p L (tableau_of c) x y ≡ true)
            go k l (x, y, xl, yl, px, py, a) = (x, y, from-parts x xl, from-parts y yl, px, py, (listed-leads x y (from-parts x xl) (from-parts y yl)).0 a)

        covers-listed : Covers → Listed
        covers-listed C = record { direct = λ k l lb h. go k l (C.direct k l lb h); none_between = C.none_between }
          where
            go : (k l : ℕ) → ((x y : ℕ) × (x < L.columns) × (y < L.columns) × (slice_index parts x ≡ l + 2)
                × (slice_index parts y ≡ k + 2) × (leads_to p L (tableau_of c) x y ≡ true)) →
                (x y : ℕ) × (x < length parts) × (y < length parts) × (slice_index parts x ≡ l + 2)
                × (slice_index parts y ≡ k + 2) × (arc_in t.arcs.arcs.items x y ≡ true)
            go k l (x, y, xl, yl, px, py, a) = (x, y, at-parts x xl, at-parts y yl, px, py, (listed-leads x y xl yl).1 a)

        pub lists-listed : HasLowerLists p L c → AreCovers (arc_in t.arcs.arcs.items) (length parts)
            (slice_index parts) (length c.blocks) (arc_in t.lower.items)
        lists-listed K = subst (AreCovers (arc_in t.arcs.arcs.items) (length parts) (slice_index parts)
            (length c.blocks)) (sym lists-same) (covers-listed (lists-covers (leads_to p L (tableau_of c)) L.columns
            (is_free (tableau_of c)) (is_end p L (tableau_of c)) (in_first (parts_of c)) (in_last (parts_of c))
            (block_of (parts_of c)) (slice_index parts) (length c.blocks) (lower_of c)
            numbered falling down G K))

        pub lists-first : HasLowerLists p L c → IsLeastFirst (length c.blocks) (arc_in t.lower.items) (slice_index t.heads.items)
        lists-first K = subst (λ lower. IsLeastFirst (length c.blocks) lower (slice_index t.heads.items))
            (sym lists-same) (lists-least (leads_to p L (tableau_of c)) L.columns (is_free (tableau_of c))
            (is_end p L (tableau_of c)) (in_first (parts_of c)) (in_last (parts_of c)) (block_of (parts_of c))
            (slice_index parts) (length c.blocks) (lower_of c)
            numbered falling down G K (slice_index t.heads.items) heads-first)

        pub listed-lists : AreCovers (arc_in t.arcs.arcs.items) (length parts) (slice_index parts) (length c.blocks)
            (arc_in t.lower.items) → IsLeastFirst (length c.blocks) (arc_in t.lower.items)
            (slice_index t.heads.items) → HasLowerLists p L c
        listed-lists C O = covers-lists (leads_to p L (tableau_of c)) L.columns (is_free (tableau_of c))
            (is_end p L (tableau_of c)) (in_first (parts_of c)) (in_last (parts_of c)) (block_of (parts_of c))
            (slice_index parts) (length c.blocks) (lower_of c)
            numbered falling down G
            (listed-covers (subst (AreCovers (arc_in t.arcs.arcs.items) (length parts) (slice_index parts)
            (length c.blocks)) lists-same C)) (slice_index t.heads.items) heads-first
            (subst (λ lower. IsLeastFirst (length c.blocks) lower (slice_index t.heads.items)) lists-same O) (bit_in t.below) chains-told
