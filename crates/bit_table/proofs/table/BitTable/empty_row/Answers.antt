use Rattle.std.proofs.Common.{◌≡◌, ◌<◌, ◌*◌, get_or, ap, subst, arith}
use Rattle.std.specs.Prelude.{vec_capacity}
use Rattle.bit_table.specs.Bits.{IsRowEmptied}
use Rattle.bit_table.proofs.BitLaws.{ClearedTo, clear_bits, emptied_row, item_is, keep_emptied}
use Rattle.bit_table.proofs.table.BitTable.empty_row.Goals as goal

row_is : (c : goal.After-self-2-1) → IsRowEmptied c.self.inside.words.items c.loop-i.self-inside.words.items c.self.inside.width c.args.x
row_is c =
    let was = c.self.inside in
    let K = c.self.invariant in
    let rows : was.rows ≡ c.args.self.now.rows = ap (λ t. t.rows) c.self.view_is in
    let xl : c.args.x < was.rows = omega (arith, rows, c.requires) in
    let used : get_or was.used.items c.args.x 0 ≡ c.index-used.result.now =
    item_is was.used.items c.args.x c.index-used.result.now (omega (arith, K.used_are, xl)) c.index-used.ensures in
    let all : c.loop-i.i ≡ get_or was.used.items c.args.x 0 = omega (arith, used, c.loop-i-test.false, c.loop-i.auto.i-end) in
    emptied_row was.rows was.size was.width (vec_capacity was.words) was.words.items was.used.items c.loop-i.self-inside.words.items c.args.x K xl
    (subst (ClearedTo was.words.items c.loop-i.self-inside.words.items (c.args.x * was.width)) all c.loop-i.invariant.cleared)

pub invariant_of-self : goal.invariant_of-self
invariant_of-self c =
    let I = c.loop-i.invariant in
    let was = c.self.inside in
    let rows : was.rows ≡ c.args.self.now.rows = ap (λ t. t.rows) c.self.view_is in
    rw (I.rows, I.size, I.width, I.used, I.room)
    (keep_emptied was.rows was.size was.width (vec_capacity was.words) was.words.items was.used.items c.loop-i.self-inside.words.items c.args.x
    c.self.invariant (omega (arith, rows, c.requires)) (omega (arith, I.words)) (row_is c))

pub returns-clause-emptied : goal.returns-clause-emptied
returns-clause-emptied c = rw (← c.self.view_is) (row_is c)

pub returns-clause-cleared : goal.returns-clause-cleared
returns-clause-cleared c =
    let was = c.self.inside in
    rw (← c.self.view_is, c.loop-i.invariant.width)
    (clear_bits was.words.items c.loop-i.self-inside.words.items was.size was.width c.args.x c.self.invariant.width_is (row_is c))
