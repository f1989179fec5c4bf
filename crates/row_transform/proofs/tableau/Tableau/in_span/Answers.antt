use Rattle.std.proofs.Common.{ℕ, ◌≡◌, ◌<◌, ◌%◌, true, false, not, inl, inr, refl, ap, ◌∙◌}
use Rattle.residue_theory.proofs.SetLaws.{lt_cases}
use Rattle.row_transform.specs.Tableaus.{TableauState, IsBare}
use Rattle.row_transform.proofs.SpanLaws.{in_span-zero, zero-in_span, bare_from, span-next}
use Rattle.row_transform.proofs.EntryLaws.{some_of, zero_of}
use Rattle.row_transform.proofs.tableau.Tableau.in_span.Goals as goal

differ : false ≡ true → ⊥
differ e = cc

pub returns-then-is_none : goal.returns-then-is_none
returns-then-is_none g c =
    let t : TableauState = g.Self.Tableau.state c.args.self.now in
    let bare : IsBare t c.in-Some.row = bare_from c.base_of.result _ (c.is_none.ensures ∙ ap not c.if-is_none.true)
    c.base_of.ensures.none in (
      λ h. absurd (differ h),
      λ comb. absurd (some_of (t.p c.in-Some.row c.args.col % g.F.Field.modulus) c.in-Some.ensures.least.holds
          (in_span-zero g.F.Field.modulus g.met.F.Field.prime t c.is_tableau.ensures.tableau c.args.col c.requires comb
          c.in-Some.row c.in-Some.ensures.least.before_end bare)),
    )

pub returns : goal.returns
returns g c =
    let t : TableauState = g.Self.Tableau.state c.args.self.now in
    let zero : (i : ℕ) → i < t.rows → IsBare t i → t.p i c.args.col % g.F.Field.modulus ≡ 0 =
    λ i il bare. elim (lt_cases i c.loop-row.at) [
      | inl l ↦ c.loop-row.invariant i l bare
      | inr ge ↦ zero_of (t.p i c.args.col % g.F.Field.modulus) (c.in_default.ensures.none i ge il)
    ] in (
      λ _. zero-in_span g.F.Field.modulus g.met.F.Field.prime t c.is_tableau.ensures.tableau c.args.col c.requires zero,
      λ _. refl,
    )

pub loop-row-preserved : goal.loop-row-preserved
loop-row-preserved g c =
    span-next g.F.Field.modulus (g.Self.Tableau.state c.args.self.now) c.args.col c.loop-row.at c.in-Some.row
    c.base_of.result c.loop-row.invariant c.in-Some.ensures.least (c.is_none.ensures ∙ ap not c.if-is_none.false)
    c.base_of.ensures.some
