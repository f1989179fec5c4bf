use Rattle.std.proofs.Common.{◌≡◌, ◌<◌, length, map, subst, sym, arith}
use Rattle.mixed_model.specs.Models.{mixed_matrix_of}
use Rattle.value_lists.specs.Fixing.{AreSymbolColumns}
use Rattle.value_lists.specs.Listing.{IsListedTo}
use Rattle.value_lists.proofs.values.all_ones.Goals as goal

pub loop-i-preserved : goal.loop-i-preserved
loop-i-preserved g c v ones =
    let M = mixed_matrix_of c.args.model.now in
    let il : c.loop-i.i < length c.args.model.now.equations = omega (arith, c.loop-i-test.true, c.equations-i-end.ensures.count) in
    let are = subst (AreSymbolColumns M c.loop-i.i) (sym c.deref.ensures.value) c.in_ok-columns.ensures in
    c.in_ok-list_ones.ensures M v c.loop-i.i il are (λ j here. ones c.loop-i.i j here) (c.loop-i.invariant v ones)

pub returns : goal.returns
returns g c v ones =
    let end : c.loop-i.i ≡ length c.args.model.now.equations = omega (arith, c.loop-i-test.false, c.loop-i.auto.i-end, c.equations-i-end.ensures.count) in
    subst (λ n. IsListedTo (mixed_matrix_of c.args.model.now) v n 0 (map g.F.Field.number c.loop-i.values.items)) end (c.loop-i.invariant v ones)
