use Rattle.std.proofs.Common.{◌+◌, ◌*◌, ◌<◌, ◌≤◌, ◌≡◌, length, get_or, inl, inr, ap, subst, sym, arith}
use Rattle.std.specs.Prelude.{vec_capacity}
use Rattle.bit_table.specs.Bits.{Bits}
use Rattle.bit_table.proofs.BitLaws.{JoinedTo, join_bits, join_step, joined_row, keep_joined, item_is, still_there, rows_apart}
use Rattle.bit_table.proofs.table.BitTable.join_made.Goals as goal

pub loop-i-preserved : goal.loop-i-preserved
loop-i-preserved c =
    let I = c.loop-i.invariant in
    let was = c.self.inside in
    let K = c.self.invariant in
    let into = c.args.x * was.width in
    let from = c.args.y * was.width in
    let rows : was.rows ≡ c.args.self.now.rows = ap (λ t. t.rows) c.self.view_is in
    let used : get_or was.used.items c.args.y 0 ≡ c.index-used.result.now = item_is was.used.items c.args.y c.index-used.result.now
    (omega (arith, K.used_are, rows, c.requires.y)) c.index-used.ensures in
    let il : c.loop-i.i < was.width = omega (arith, used, K.within c.args.y (omega (arith, rows, c.requires.y)), c.loop-i-test.true) in
    let made = subst (λ (v : Bits). c.args.x * v.width + v.width ≤ length v.words) (sym c.self.view_is) c.requires.made in
    let into_fits : into + c.loop-i.i < length c.loop-i.self-inside.words.items =
    omega (arith, I.words, made, il) in
    let from_fits : from + c.loop-i.i < length c.loop-i.self-inside.words.items =
    omega (arith, I.words, K.made c.args.y (omega (arith, rows, c.requires.y)) (omega (arith, used, c.loop-i-test.true)), il) in
    record {
      words = omega (arith, I.words);
      rows = I.rows;
      size = I.size;
      width = I.width;
      used = I.used;
      room = I.room;
      joined = join_step was.words.items c.loop-i.self-inside.words.items was.words.items into from c.loop-i.i
          c.index_mut.result.now c.index-word.result.now I.joined into_fits c.index_mut.ensures.value
          (still_there was.words.items c.loop-i.self-inside.words.items into from was.width c.loop-i.i
          c.index-word.result.now I.joined (rows_apart was.width c.args.x c.args.y) il from_fits
          c.index-word.ensures);
    }

-- the loop goes over the words of row y that are used
all_joined : (c : goal.After-self-2-1) → JoinedTo c.self.inside.words.items c.loop-i.self-inside.words.items c.self.inside.words.items
    (c.args.x * c.self.inside.width) (c.args.y * c.self.inside.width) (get_or c.self.inside.used.items c.args.y 0)
all_joined c =
    let was = c.self.inside in
    let other = c.self.inside in
    let rows : other.rows ≡ c.args.self.now.rows = ap (λ t. t.rows) c.self.view_is in
    let used : get_or other.used.items c.args.y 0 ≡ c.index-used.result.now = item_is other.used.items c.args.y c.index-used.result.now
    (omega (arith, c.self.invariant.used_are, rows, c.requires.y)) c.index-used.ensures in
    let all : c.loop-i.i ≡ get_or other.used.items c.args.y 0 = omega (arith, used, c.loop-i-test.false, c.loop-i.auto.i-end) in
    subst (JoinedTo was.words.items c.loop-i.self-inside.words.items other.words.items (c.args.x * was.width) (c.args.y * other.width))
    all c.loop-i.invariant.joined

pub returns-clause-joined : goal.returns-clause-joined
returns-clause-joined c =
    let I = c.loop-i.invariant in
    let was = c.self.inside in
    let now = c.loop-i.self-inside.words.items in
    let K = c.self.invariant in
    let rows : was.rows ≡ c.args.self.now.rows = ap (λ t. t.rows) c.self.view_is in
    let yl : c.args.y < was.rows = omega (arith, rows, c.requires.y) in
    let J = all_joined c in
    rw (← c.self.view_is, I.width)
    (join_bits was.words.items now was.words.items was.size was.width was.width c.args.x c.args.y K.width_is
    (joined_row was.words.items now was.words.items (c.args.x * was.width) (c.args.y * was.width) was.width
    (get_or was.used.items c.args.y 0) J (λ i le il. K.behind c.args.y i yl le il))
    (λ k out. J.rest k (elim out [ inl a ↦ inl a | inr b ↦ inr (omega (arith, K.within c.args.y yl)) ])))

pub invariant_of-self : goal.invariant_of-self
invariant_of-self c =
    let I = c.loop-i.invariant in
    let was = c.self.inside in
    let K = c.self.invariant in
    let rows : was.rows ≡ c.args.self.now.rows = ap (λ t. t.rows) c.self.view_is in
    let xl : c.args.x < was.rows = omega (arith, rows, c.requires.x) in
    let yl : c.args.y < was.rows = omega (arith, rows, c.requires.y) in
    let old : get_or was.used.items c.args.x 0 ≡ c.index.result.now = item_is was.used.items c.args.x c.index.result.now
    (omega (arith, K.used_are, xl)) (subst (λ v. c.index.result.now ≡ get_or v.items c.args.x c.index.result.now) I.used c.index.ensures) in
    let used : get_or was.used.items c.args.y 0 ≡ c.index-used.result.now = item_is was.used.items c.args.y c.index-used.result.now
    (omega (arith, K.used_are, yl)) c.index-used.ensures in
    let made = subst (λ (v : Bits). c.args.x * v.width + v.width ≤ length v.words) (sym c.self.view_is) c.requires.made in
    rw (I.rows, I.size, I.width, I.used, I.room)
    (keep_joined was.rows was.size was.width (vec_capacity was.words) was.words.items was.used.items c.loop-i.self-inside.words.items was.words.items
    (c.args.y * was.width) c.args.x (get_or was.used.items c.args.y 0) c.max.result K xl made (omega (arith, I.words)) (all_joined c)
    (omega (arith, used, c.max.ensures)) (omega (arith, old, c.max.ensures))
    (omega (arith, old, used, c.max.ensures, K.within c.args.x xl, K.within c.args.y yl)))
