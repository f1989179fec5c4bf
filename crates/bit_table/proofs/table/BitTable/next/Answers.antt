use Rattle.std.proofs.Common.{rules, ◌≡◌, ◌<◌, ◌≤◌, ◌+◌, ◌-◌, ◌%◌, ◌^◌, get_or, ap, arith}
use Rattle.std.specs.Prelude.{vec_capacity}
use Rattle.bit_table.proofs.BitLaws.{item_is, none_behind, none_in_word, found_bit, lowest_from, used_word}
use Rattle.bit_table.proofs.table.BitTable.next.Goals as goal

pub index-requires-in-loop-at : goal.index-requires-in-loop-at
index-requires-in-loop-at c =
    let t = c.self.inside in
    let rows : t.rows ≡ c.args.self.now.rows = ap (λ v. v.rows) c.self.view_is in
    let fits = used_word t.rows t.size t.width (vec_capacity t.words) t.words.items t.used.items c.args.x c.loop-at.at c.index.result.now
    c.saturating_mul.result c.args.end c.min-behind.result c.self.invariant (omega (arith, rows, c.requires.x)) c.index.ensures
    c.saturating_mul.ensures c.min-behind.ensures c.loop-at-test.true in
    omega (arith, fits)

pub overflow_add-next : goal.overflow_add-next
overflow_add-next c = let small : c.index-in-loop-at.result.now < 2 ^ 64 = search rules in
    omega (
      arith,
      (lowest_from c.index-in-loop-at.result.now (c.loop-at.at % 64) small c.if-word-ne0.true).0,
      c.loop-at.auto.at-fits,
    )

pub returns-then-next-end-clause-least : goal.returns-then-next-end-clause-least
returns-then-next-end-clause-least c =
    let t = c.self.inside in
    let I = c.loop-at.invariant in
    let rows : t.rows ≡ c.args.self.now.rows = ap (λ v. v.rows) c.self.view_is in
    let fits = used_word t.rows t.size t.width (vec_capacity t.words) t.words.items t.used.items c.args.x c.loop-at.at c.index.result.now
    c.saturating_mul.result c.args.end c.min-behind.result c.self.invariant (omega (arith, rows, c.requires.x)) c.index.ensures
    c.saturating_mul.ensures c.min-behind.ensures c.loop-at-test.true in
    let small : c.index-in-loop-at.result.now < 2 ^ 64 = search rules in
    let L = lowest_from c.index-in-loop-at.result.now (c.loop-at.at % 64) small c.if-word-ne0.true in
    let F = found_bit t.words.items t.width c.args.x c.args.from c.loop-at.at c.index-in-loop-at.result.now _ I.within I.none fits
    c.index-in-loop-at.ensures L.0 L.1 L.2 in
    rw (← c.self.view_is) (record { from_on = F.from_on; before_end = c.if-next-end.true; holds = F.holds; none_before = F.none_before })

pub returns-else-next-end-clause-none : goal.returns-else-next-end-clause-none
returns-else-next-end-clause-none c =
    let t = c.self.inside in
    let I = c.loop-at.invariant in
    let rows : t.rows ≡ c.args.self.now.rows = ap (λ v. v.rows) c.self.view_is in
    let fits = used_word t.rows t.size t.width (vec_capacity t.words) t.words.items t.used.items c.args.x c.loop-at.at c.index.result.now
    c.saturating_mul.result c.args.end c.min-behind.result c.self.invariant (omega (arith, rows, c.requires.x)) c.index.ensures
    c.saturating_mul.ensures c.min-behind.ensures c.loop-at-test.true in
    let small : c.index-in-loop-at.result.now < 2 ^ 64 = search rules in
    let L = lowest_from c.index-in-loop-at.result.now (c.loop-at.at % 64) small c.if-word-ne0.true in
    let F = found_bit t.words.items t.width c.args.x c.args.from c.loop-at.at c.index-in-loop-at.result.now _ I.within I.none fits
    c.index-in-loop-at.ensures L.0 L.1 L.2 in
    rw (← c.self.view_is) (λ y yf yl. F.none_before y yf (omega (arith, c.if-next-end.false, yl)))

pub loop-at-preserved : goal.loop-at-preserved
loop-at-preserved c =
    let t = c.self.inside in
    let I = c.loop-at.invariant in
    let rows : t.rows ≡ c.args.self.now.rows = ap (λ v. v.rows) c.self.view_is in
    let fits = used_word t.rows t.size t.width (vec_capacity t.words) t.words.items t.used.items c.args.x c.loop-at.at c.index.result.now
    c.saturating_mul.result c.args.end c.min-behind.result c.self.invariant (omega (arith, rows, c.requires.x)) c.index.ensures
    c.saturating_mul.ensures c.min-behind.ensures c.loop-at-test.true in
    let top : c.saturating_add-at.result ≤ c.loop-at.at + (64 - c.loop-at.at % 64) = grind (arith, c.saturating_add-at.ensures) in
    record {
      within = grind (arith, c.saturating_add-at.ensures, I.within, c.loop-at.auto.at-fits);
      none = none_in_word t.words.items t.width c.args.x c.args.from c.loop-at.at c.saturating_add-at.result
          c.index-in-loop-at.result.now I.none fits c.index-in-loop-at.ensures c.if-word-ne0.false top;
    }

pub returns-clause-none : goal.returns-clause-none
returns-clause-none c =
    let t = c.self.inside in
    let rows : t.rows ≡ c.args.self.now.rows = ap (λ v. v.rows) c.self.view_is in
    let size : t.size ≡ c.args.self.now.size = ap (λ v. v.size) c.self.view_is in
    let used : get_or t.used.items c.args.x 0 ≡ c.index.result.now = item_is t.used.items c.args.x c.index.result.now
    (omega (arith, c.self.invariant.used_are, rows, c.requires.x)) c.index.ensures in
    rw (← c.self.view_is)
    (none_behind t.rows t.size t.width (vec_capacity t.words) t.words.items t.used.items c.args.x c.args.from c.loop-at.at c.args.end c.self.invariant
    (omega (arith, rows, c.requires.x)) (omega (arith, size, c.requires.end))
    (λ y le yl. grind (arith, used, le, yl, c.ranges.end.fits, c.loop-at-test.false, c.min-behind.ensures, c.saturating_mul.ensures))
    c.loop-at.invariant.none)
