use Rattle.std.proofs.Common.{◌≡◌, ◌<◌, ◌≤◌, ◌+◌, ◌*◌, length, get_or, ap, subst, sym, arith}
use Rattle.std.specs.Prelude.{vec_capacity}
use Rattle.bit_table.specs.Bits.{Bits}
use Rattle.bit_table.proofs.BitLaws.{half_below, item_is, keep_set, set_bit}
use Rattle.bit_table.proofs.table.BitTable.set_made.Goals as goal

pub returns-clause-set : goal.returns-clause-set
returns-clause-set c =
    let t = c.self.inside in
    let K = c.self.invariant in
    let size : t.size ≡ c.args.self.now.size = ap (λ v. v.size) c.self.view_is in
    let made = subst (λ (v : Bits). c.args.x * v.width + v.width ≤ length v.words) (sym c.self.view_is) c.requires.made in
    rw (← c.self.view_is) (set_bit t.words.items t.size t.width c.args.x c.args.y c.index_mut.result.now
    made K.width_is (omega (arith, size, c.requires.y))
    c.index_mut.ensures.value)

pub invariant_of-self : goal.invariant_of-self
invariant_of-self c =
    let t = c.self.inside in
    let K = c.self.invariant in
    let rows : t.rows ≡ c.args.self.now.rows = ap (λ v. v.rows) c.self.view_is in
    let size : t.size ≡ c.args.self.now.size = ap (λ v. v.size) c.self.view_is in
    let xl : c.args.x < t.rows = omega (arith, rows, c.requires.x) in
    let yl : c.args.y < t.size = omega (arith, size, c.requires.y) in
    let old : get_or t.used.items c.args.x 0 ≡ c.index.result.now = item_is t.used.items c.args.x c.index.result.now
    (omega (arith, K.used_are, xl)) c.index.ensures in
    let made = subst (λ (v : Bits). c.args.x * v.width + v.width ≤ length v.words) (sym c.self.view_is) c.requires.made in
    keep_set t.rows t.size t.width (vec_capacity t.words) t.words.items t.used.items c.args.x c.args.y c.max.result _ K xl yl made
    (omega (arith, c.max.ensures))
    (omega (arith, old, c.max.ensures)) (omega (arith, old, c.max.ensures, K.within c.args.x xl, half_below t.size t.width c.args.y K.width_is yl))
