use Rattle.std.proofs.Common.{ap}
use Rattle.row_table.specs.Places.{Places}
use Rattle.row_table.proofs.RowTableLaws.{pivoted-p, pivoted-s, pivoted-stay}
use Rattle.row_table.proofs.table.RowTable.pivot.Goals as goal

pub returns-then-not-is_unit-clause-pivoted : goal.returns-then-not-is_unit-clause-pivoted
returns-then-not-is_unit-clause-pivoted g c =
    pivoted-p g.F.Field.modulus g.met.F.Field.prime c.args.self.now c.exchange.new.self c.args.row c.args.column
    c.requires.row c.requires.column c.requires.entry c.exchange.ensures.p c.exchange.ensures.s

pub returns-then-not-is_unit-clause-basic : goal.returns-then-not-is_unit-clause-basic
returns-then-not-is_unit-clause-basic g c = λ i il. ap (λ (s : Places). s.basic i) c.exchange.ensures.places

pub returns-then-not-is_unit-clause-zero_columns : goal.returns-then-not-is_unit-clause-zero_columns
returns-then-not-is_unit-clause-zero_columns g c =
    pivoted-s g.F.Field.modulus g.met.F.Field.prime c.args.self.now c.exchange.new.self c.args.row c.args.column
    c.requires.row c.requires.column c.requires.entry c.exchange.ensures.p c.exchange.ensures.s

pub returns-then-not-is_unit-clause-rest : goal.returns-then-not-is_unit-clause-rest
returns-then-not-is_unit-clause-rest g c =
    pivoted-stay g.F.Field.modulus g.met.F.Field.prime c.args.self.now c.exchange.new.self c.args.row c.args.column
    c.requires.row c.requires.column c.requires.entry c.exchange.ensures.p c.exchange.ensures.s
