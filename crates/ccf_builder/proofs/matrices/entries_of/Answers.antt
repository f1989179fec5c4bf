use Rattle.std.proofs.Common.{◌≡◌, ◌+◌, ℕ, true, not, eqb, subst, sym, ap, ◌∙◌, arith}
use Rattle.residue_theory.proofs.SetLaws.{differ, eqb_from}
use Rattle.row_transform.specs.Tableaus.{TableauState, matrix_which, width_of}
use Rattle.cert_text.specs.Contents.{numbered}
use Rattle.cert_checker.proofs.PrintedRows.{entry-more, row-until}
use Rattle.ccf_builder.proofs.matrices.entries_of.Goals as goal
use Rattle.cert_text.specs.Printing.{PrintsRow}

-- an entry that is not zero
some : (x : ℕ) → not (eqb x 0) ≡ true → x ≡ 0 → ⊥
some x h zero = differ (ap not (eqb_from x 0 zero)) h

pub loop-entry-preserved : goal.loop-entry-preserved
loop-entry-preserved g c =
    let p = g.F.Field.modulus in
    let number = g.F.Field.number in
    let S : TableauState = g.T.Tableau.state c.args.tableau.now in
    let row = matrix_which c.args.which S c.args.row in
    let column = c.in-Some.entry.0 in
    let entries = c.loop-entry.entries.items in
    let least = c.in-Some.ensures.least in
    let known = row-until p row (numbered number entries) c.loop-entry.at column c.loop-entry.invariant.prints
    least.from_on least.none_before in
    record {
      within = omega (arith, least.before_end);
      prints = subst (λ list. PrintsRow p (column + 1) row (numbered number list)) (sym c.in_ok-push.ensures.items)
          (entry-more number p column row entries known c.in-Some.entry.1 c.in-Some.ensures.entry
          (λ zero. some (row column) least.holds (sym c.in-Some.ensures.entry ∙ zero))
          c.in_field.ensures);
    }

pub returns : goal.returns
returns g c =
    let p = g.F.Field.modulus in
    let number = g.F.Field.number in
    let S : TableauState = g.T.Tableau.state c.args.tableau.now in
    let row = matrix_which c.args.which S c.args.row in
    let entries = c.loop-entry.entries.items in
    subst (λ list. PrintsRow p (width_of c.args.which S) row (numbered number list)) (sym c.from_vec.ensures)
    (row-until p row (numbered number entries) c.loop-entry.at (width_of c.args.which S)
    c.loop-entry.invariant.prints c.loop-entry.invariant.within c.in_default.ensures.none)
