use Rattle.std.proofs.Common.{◌≡◌, true, false, sym, ◌∙◌}
use Rattle.sparse_q.specs.Tables.{number_in}
use Rattle.sparse_tableau.proofs.LeaveLaws.{entry-some}
use Rattle.sparse_tableau.proofs.leaving.bare_row.Goals as goal

differ : false ≡ true → ⊥
differ e = cc

pub returns-then-not-is_zero-clause-entry : goal.returns-then-not-is_zero-clause-entry
returns-then-not-is_zero-clause-entry g c =
    entry-some (g.F.Field.number c.get-entry.result) (number_in c.args.m.now c.loop-row.row c.args.col) g.F.Field.modulus
    c.get-entry.ensures c.in_field.ensures (λ z. differ (sym c.if-not-is_zero.true ∙ c.is_zero.ensures.1 z))
