use Rattle.std.proofs.Common.{cond, eqb, ◌+◌, ◌%◌, ap, ◌∙◌, sym}
use Rattle.row_table.specs.Places.{Places}
use Rattle.sparse_q.specs.Tables.{sparse_rows}
use Rattle.row_table.specs.TableEdits.{basic_of}
use Rattle.row_table.specs.RowTables.{entries, p_part}
use Rattle.row_table.proofs.ReductionLaws.{keeps}
use Rattle.row_table.proofs.TableSteps.{zero-rows-stay}
use Rattle.row_table.proofs.table.RowTable.clear.Goals as goal

pub returns-then-not-is_unit-clause-basic : goal.returns-then-not-is_unit-clause-basic
returns-then-not-is_unit-clause-basic g c = λ i il. ap (λ (s : Places). s.basic i) c.exchange.ensures.places
    ∙ ap (λ w. cond (eqb i c.args.row) (w + c.args.at) (basic_of c.args.self.now i)) c.columns.ensures.columns

pub returns-then-not-is_unit-clause-columns_stay : goal.returns-then-not-is_unit-clause-columns_stay
returns-then-not-is_unit-clause-columns_stay g c = λ i j il jl z.
    let p = g.F.Field.modulus in
    keeps p g.met.F.Field.prime (sparse_rows c.args.self.now.q) c.args.self.now.q.width (p_part p c.args.self.now)
    (p_part p c.exchange.new.self) c.args.row (λ i. entries p c.args.self.now i (c.columns.result + c.args.at)) c.requires.row
    (λ e. c.requires.entry (ap (λ w. entries p c.args.self.now c.args.row (w + c.args.at) % p) (sym c.columns.ensures.columns) ∙ e))
    c.exchange.ensures.p j jl z i il

pub returns-then-not-is_unit-clause-rows_stay : goal.returns-then-not-is_unit-clause-rows_stay
returns-then-not-is_unit-clause-rows_stay g c = λ i j il jl ne z.
    let p = g.F.Field.modulus in
    zero-rows-stay p (sparse_rows c.args.self.now.q) c.args.self.now.q.width (p_part p c.args.self.now)
    (p_part p c.exchange.new.self) c.args.row (λ i. entries p c.args.self.now i (c.columns.result + c.args.at))
    c.exchange.ensures.p i j il jl ne
    (ap (λ w. entries p c.args.self.now i (w + c.args.at) % p) c.columns.ensures.columns ∙ z)
