use Rattle.std.proofs.Common.{◌<◌, arith}
use Rattle.sparse_q.proofs.RowLaws.{first-inside, first-narrow, second-below, second-inside, both-inside, put-first, put-second, put-both}
use Rattle.sparse_q.proofs.row.SparseRow.put_next.Goals as goal

pub value-requires : goal.value-requires
value-requires g c = first-inside _ (g.F.Field.number c.args.factor) _ _ _ _ _ _ _ _ _ _ c.requires.target
    c.requires.source c.column-first.ensures.row c.column-second.ensures.row c.requires.more c.requires.merged
    c.column-first.ensures.column c.column-second.ensures.column c.if-first-second.true

pub push-requires-clause-narrow : goal.push-requires-clause-narrow
push-requires-clause-narrow g c = first-narrow _ (g.F.Field.number c.args.factor) _ _ _ _ _ _ _ _ _ _
    c.requires.target c.requires.source c.column-first.ensures.row c.column-second.ensures.row c.requires.more
    c.requires.merged
    c.column-first.ensures.column c.column-second.ensures.column c.if-first-second.true

pub returns-then-first-second-clause-merged : goal.returns-then-first-second-clause-merged
returns-then-first-second-clause-merged g c =
    put-first _ (g.F.Field.number c.args.factor) _ _ _ _ _ _ _ _ _ _ c.requires.target c.requires.source
    c.column-first.ensures.row c.column-second.ensures.row c.requires.more c.requires.merged
    c.column-first.ensures.column c.column-second.ensures.column _ _ _ _ c.push.ensures c.if-first-second.true
    c.value.ensures.value

pub value-requires-2 : goal.value-requires-2
value-requires-2 g c = second-inside _ (g.F.Field.number c.args.factor) _ _ _ _ _ _ _ _ _ _ c.requires.target
    c.requires.source c.column-first.ensures.row c.column-second.ensures.row c.requires.more c.requires.merged
    c.column-first.ensures.column c.column-second.ensures.column c.if-first-second.false

pub push-requires-then-second-first-clause-narrow : goal.push-requires-then-second-first-clause-narrow
push-requires-then-second-first-clause-narrow g c = second-below _ (g.F.Field.number c.args.factor) _ _ _ _ _ _ _ _ _
    _ c.requires.target c.requires.source c.column-first.ensures.row c.column-second.ensures.row c.requires.more
    c.requires.merged c.column-first.ensures.column c.column-second.ensures.column c.if-first-second.false

pub returns-then-second-first-clause-merged : goal.returns-then-second-first-clause-merged
returns-then-second-first-clause-merged g c =
    put-second _ (g.F.Field.number c.args.factor) _ _ _ _ _ _ _ _ _ _ c.requires.target c.requires.source
    c.column-first.ensures.row c.column-second.ensures.row c.requires.more c.requires.merged
    c.column-first.ensures.column c.column-second.ensures.column _ _ _ _ _ c.push-then-second-first.ensures
    c.if-second-first.true c.value-2.ensures.value c.mul-more.ensures

pub value-requires-3 : goal.value-requires-3
value-requires-3 g c = both-inside _ (g.F.Field.number c.args.factor) _ _ _ _ _ _ _ _ _ _ c.requires.target
    c.requires.source c.column-first.ensures.row c.column-second.ensures.row c.requires.more c.requires.merged
    c.column-first.ensures.column c.column-second.ensures.column c.if-first-second.false c.if-second-first.false

pub push-requires-2-clause-narrow : goal.push-requires-2-clause-narrow
push-requires-2-clause-narrow g c =
    let below : c.column-second.result < c.args.self.now.width = second-below _ (g.F.Field.number c.args.factor) _ _ _
    _ _ _ _ _ _ _ c.requires.target c.requires.source c.column-first.ensures.row c.column-second.ensures.row
    c.requires.more c.requires.merged
    c.column-first.ensures.column c.column-second.ensures.column c.if-first-second.false in
    omega (arith, below)

pub returns-clause-merged : goal.returns-clause-merged
returns-clause-merged g c =
    put-both _ (g.F.Field.number c.args.factor) _ _ _ _ _ _ _ _ _ _ c.requires.target c.requires.source
    c.column-first.ensures.row c.column-second.ensures.row c.requires.more c.requires.merged
    c.column-first.ensures.column c.column-second.ensures.column _ _ _ _ _ _ _ c.push-2.ensures c.if-first-second.false
    c.if-second-first.false c.value-3.ensures.value c.value-2.ensures.value c.mul-more.ensures c.add.ensures
