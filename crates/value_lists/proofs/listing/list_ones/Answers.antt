use Rattle.std.proofs.Common.{◌∙◌, ◌+◌, ◌∷◌, ◌++◌, [], map, ap, subst, sym, arith}
use Rattle.std.proofs.lemmas.List.{map-append}
use Rattle.value_lists.proofs.Rows.{ListsSome, lists-begin, lists-end, lists-step}
use Rattle.value_lists.proofs.listing.list_ones.Goals as goal

pub loop-init : goal.loop-init
loop-init g c = lists-begin c.args.columns.now (map g.F.Field.number c.args.values.now.items)

pub loop-preserved : goal.loop-preserved
loop-preserved g c =
    let number = g.F.Field.number in
    let old = c.loop.values.items in
    let more = ap (map number) c.in_ok-push.ensures.items ∙ map-append number old (c.one.result ∷ [])
    ∙ ap (λ n. map number old ++ n ∷ []) c.one.ensures in
    subst (ListsSome c.args.columns.now (c.loop.index + 1) (map number c.args.values.now.items)) (sym more)
    (lists-step c.args.columns.now (map number c.args.values.now.items) (map number old) c.loop.index c.loop-test.true c.loop.invariant)

pub returns : goal.returns
returns g c = lists-end c.args.columns.now (map g.F.Field.number c.args.values.now.items) (map g.F.Field.number c.loop.values.items) c.loop.index
    (omega (arith, c.loop-test.false)) c.loop.invariant
