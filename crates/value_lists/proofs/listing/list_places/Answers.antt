use Rattle.std.proofs.Common.{map, arith}
use Rattle.value_lists.proofs.Rows.{goes-begin, goes-end, goes-step}
use Rattle.value_lists.proofs.listing.list_places.Goals as goal

pub loop-column-init : goal.loop-column-init
loop-column-init g c = goes-begin g.F.Field.modulus c.args.rank c.args.held.now.model c.args.i c.args.columns.now
    (map g.F.Field.number c.args.values.now.items)

pub loop-column-preserved : goal.loop-column-preserved
loop-column-preserved g c =
    goes-step g.F.Field.modulus c.args.rank c.args.held.now.model c.loop-column.held.model c.list_place.new.held.model c.args.i c.args.columns.now
    c.loop-column.column-index 0 (map g.F.Field.number c.args.values.now.items) (map g.F.Field.number c.loop-column.values.items)
    (map g.F.Field.number c.list_place.new.values.items) c.loop-column-test.true c.loop-column.invariant c.in_ok-list_place.ensures.same
    c.in_ok-list_place.ensures.listed

pub returns-clause-listed : goal.returns-clause-listed
returns-clause-listed g c =
    goes-end g.F.Field.modulus c.args.rank c.args.held.now.model c.loop-column.held.model c.args.i c.args.columns.now
    c.loop-column.column-index (map g.F.Field.number c.args.values.now.items) (map g.F.Field.number c.loop-column.values.items)
    (omega (arith, c.loop-column-test.false)) c.loop-column.invariant
