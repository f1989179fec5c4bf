use Rattle.std.proofs.Common.{◌+◌, ◌*◌, ◌<◌, ◌≤◌, ◌≡◌, length, get_or, subst, inl, inr, ap, sym, arith}
use Rattle.std.specs.Prelude.{vec_capacity}
use Rattle.bit_table.specs.Bits.{Bits}
use Rattle.bit_table.proofs.BitLaws.{JoinedTo, join_bits, join_step, joined_row, keep_joined, item_is}
use Rattle.bit_table.proofs.table.BitTable.join_other_made.Goals as goal

pub loop-i-preserved : goal.loop-i-preserved
loop-i-preserved c =
    let I = c.loop-i.invariant in
    let was = c.self.inside in
    let other = c.other.inside in
    let K = c.self.invariant in
    let L = c.other.invariant in
    let rows : was.rows ≡ c.args.self.now.rows = ap (λ t. t.rows) c.self.view_is in
    let other_rows : other.rows ≡ c.args.other.now.rows = ap (λ t. t.rows) c.other.view_is in
    let size : was.size ≡ c.args.self.now.size = ap (λ t. t.size) c.self.view_is in
    let other_size : other.size ≡ c.args.other.now.size = ap (λ t. t.size) c.other.view_is in
    let yl : c.args.y < other.rows = omega (arith, other_rows, c.requires.y) in
    let used : get_or other.used.items c.args.y 0 ≡ c.index-used.result.now = item_is other.used.items c.args.y c.index-used.result.now
    (omega (arith, L.used_are, yl)) c.index-used.ensures in
    let other_il : c.loop-i.i < other.width = omega (arith, used, L.within c.args.y yl, c.loop-i-test.true) in
    let il : c.loop-i.i < was.width = omega (arith, other_il, K.width_is, L.width_is, size, other_size, c.requires.same_size) in
    let made = subst (λ (v : Bits). c.args.x * v.width + v.width ≤ length v.words) (sym c.self.view_is) c.requires.made in
    let into_fits : c.args.x * was.width + c.loop-i.i < length c.loop-i.self-inside.words.items =
    omega (arith, I.words, made, il) in
    let from_fits : c.args.y * other.width + c.loop-i.i < length other.words.items =
    omega (arith, L.made c.args.y yl (omega (arith, used, c.loop-i-test.true)), other_il) in
    record {
      words = omega (arith, I.words);
      rows = I.rows;
      size = I.size;
      width = I.width;
      used = I.used;
      room = I.room;
      joined = join_step was.words.items c.loop-i.self-inside.words.items other.words.items (c.args.x * was.width)
          (c.args.y * other.width) c.loop-i.i c.index_mut.result.now c.index.result.now I.joined into_fits
          c.index_mut.ensures.value
          (sym (item_is other.words.items (c.args.y * other.width + c.loop-i.i) c.index.result.now from_fits c.index.ensures));
    }

-- the loop goes over the words of row y that are used
all_joined : (c : goal.After-self-2-1) → JoinedTo c.self.inside.words.items c.loop-i.self-inside.words.items c.other.inside.words.items
    (c.args.x * c.self.inside.width) (c.args.y * c.other.inside.width) (get_or c.other.inside.used.items c.args.y 0)
all_joined c =
    let was = c.self.inside in
    let other = c.other.inside in
    let rows : other.rows ≡ c.args.other.now.rows = ap (λ t. t.rows) c.other.view_is in
    let used : get_or other.used.items c.args.y 0 ≡ c.index-used.result.now = item_is other.used.items c.args.y c.index-used.result.now
    (omega (arith, c.other.invariant.used_are, rows, c.requires.y)) c.index-used.ensures in
    let all : c.loop-i.i ≡ get_or other.used.items c.args.y 0 = omega (arith, used, c.loop-i-test.false, c.loop-i.auto.i-end) in
    subst (JoinedTo was.words.items c.loop-i.self-inside.words.items other.words.items (c.args.x * was.width) (c.args.y * other.width))
    all c.loop-i.invariant.joined

-- rows of the same size have as many words
same_width : (c : goal.After-self-2-1) → c.other.inside.width ≡ c.self.inside.width
same_width c =
    let size : c.self.inside.size ≡ c.args.self.now.size = ap (λ t. t.size) c.self.view_is in
    let other_size : c.other.inside.size ≡ c.args.other.now.size = ap (λ t. t.size) c.other.view_is in
    omega (arith, c.self.invariant.width_is, c.other.invariant.width_is, size, other_size, c.requires.same_size)

pub returns-clause-joined : goal.returns-clause-joined
returns-clause-joined c =
    let I = c.loop-i.invariant in
    let was = c.self.inside in
    let other = c.other.inside in
    let now = c.loop-i.self-inside.words.items in
    let L = c.other.invariant in
    let rows : other.rows ≡ c.args.other.now.rows = ap (λ t. t.rows) c.other.view_is in
    let yl : c.args.y < other.rows = omega (arith, rows, c.requires.y) in
    let J = all_joined c in
    rw (← c.self.view_is, ← c.other.view_is, I.width)
    (join_bits was.words.items now other.words.items was.size was.width other.width c.args.x c.args.y c.self.invariant.width_is
    (joined_row was.words.items now other.words.items (c.args.x * was.width) (c.args.y * other.width) was.width
    (get_or other.used.items c.args.y 0) J (λ i le il. L.behind c.args.y i yl le (omega (arith, il, same_width c))))
    (λ k out. J.rest k (elim out [ inl a ↦ inl a | inr b ↦ inr (omega (arith, L.within c.args.y yl, same_width c)) ])))

pub invariant_of-self : goal.invariant_of-self
invariant_of-self c =
    let I = c.loop-i.invariant in
    let was = c.self.inside in
    let other = c.other.inside in
    let K = c.self.invariant in
    let L = c.other.invariant in
    let rows : was.rows ≡ c.args.self.now.rows = ap (λ t. t.rows) c.self.view_is in
    let other_rows : other.rows ≡ c.args.other.now.rows = ap (λ t. t.rows) c.other.view_is in
    let xl : c.args.x < was.rows = omega (arith, rows, c.requires.x) in
    let yl : c.args.y < other.rows = omega (arith, other_rows, c.requires.y) in
    let old : get_or was.used.items c.args.x 0 ≡ c.index-2.result.now = item_is was.used.items c.args.x c.index-2.result.now
    (omega (arith, K.used_are, xl)) (subst (λ v. c.index-2.result.now ≡ get_or v.items c.args.x c.index-2.result.now) I.used c.index-2.ensures) in
    let used : get_or other.used.items c.args.y 0 ≡ c.index-used.result.now = item_is other.used.items c.args.y c.index-used.result.now
    (omega (arith, L.used_are, yl)) c.index-used.ensures in
    let made = subst (λ (v : Bits). c.args.x * v.width + v.width ≤ length v.words) (sym c.self.view_is) c.requires.made in
    rw (I.rows, I.size, I.width, I.used, I.room)
    (keep_joined was.rows was.size was.width (vec_capacity was.words) was.words.items was.used.items c.loop-i.self-inside.words.items other.words.items
    (c.args.y * other.width) c.args.x (get_or other.used.items c.args.y 0) c.max.result K xl made (omega (arith, I.words)) (all_joined c)
    (omega (arith, used, c.max.ensures)) (omega (arith, old, c.max.ensures))
    (omega (arith, old, used, c.max.ensures, K.within c.args.x xl, L.within c.args.y yl, same_width c)))
