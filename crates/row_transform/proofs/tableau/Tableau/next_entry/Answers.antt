use Rattle.std.proofs.Common.{ℕ, ◌≡◌, ◌%◌, Bool, true, false, sym, ◌∙◌, arith}
use Rattle.row_transform.specs.Tableaus.{TableauState, has_entry}
use Rattle.row_transform.proofs.EntryLaws.{none-joined, none-next, is_entry, no_entry}
use Rattle.row_transform.proofs.tableau.Tableau.next_entry.Goals as goal

differ : false ≡ true → ⊥
differ e = cc

pub returns-then-not-is_zero-clause-least : goal.returns-then-not-is_zero-clause-least
returns-then-not-is_zero-clause-least g c =
    let m = g.F.Field.modulus in
    let t : TableauState = g.Self.Tableau.state c.args.self.now in
    let found = c.in-Some.ensures.some in
    record {
      from_on = omega (arith, c.loop-row.invariant.from_on, found.from_on);
      before_end = found.before_end;
      holds = is_entry (g.F.Field.number c.entry.result) (t.p c.in-Some.row c.args.col % m)
          (λ z. differ (sym c.if-not-is_zero.true ∙ c.is_zero.ensures.1 z)) c.entry.ensures;
      none_before = none-joined (λ row. has_entry m t row c.args.col) c.args.from c.loop-row.at c.in-Some.row
          c.loop-row.invariant.none found.none_before;
    }

pub loop-row-preserved : goal.loop-row-preserved
loop-row-preserved g c =
    let m = g.F.Field.modulus in
    let t : TableauState = g.Self.Tableau.state c.args.self.now in
    let found = c.in-Some.ensures.some in
    let test : ℕ → Bool = λ row. has_entry m t row c.args.col in
    record {
      from_on = omega (arith, c.loop-row.invariant.from_on, found.from_on);
      none = none-next test c.args.from c.in-Some.row
          (none-joined test c.args.from c.loop-row.at c.in-Some.row c.loop-row.invariant.none found.none_before)
          (no_entry (g.F.Field.number c.entry.result) (t.p c.in-Some.row c.args.col % m)
          (c.is_zero.ensures.0 c.if-not-is_zero.false) c.entry.ensures);
    }

pub returns-clause-none : goal.returns-clause-none
returns-clause-none g c =
    let t : TableauState = g.Self.Tableau.state c.args.self.now in
    none-joined (λ row. has_entry g.F.Field.modulus t row c.args.col) c.args.from c.loop-row.at t.rows
    c.loop-row.invariant.none c.in_default.ensures.none
