use Rattle.std.proofs.Common.{◌∙◌, ap, refl, arith}
use Rattle.bit_table.specs.Bits.{bit_in}
use Rattle.minimiser_lattice.specs.Covers.{lower_count}
use Rattle.minimiser_lattice.specs.declared.covers.Covers.{Covers}
use Rattle.minimiser_lattice.proofs.CoverLaws.{gathered-none, gathered-next}
use Rattle.minimiser_lattice.proofs.covers.Covers.gather.Goals as goal

pub loop-m-init : goal.loop-m-init
loop-m-init c = record {
  room = c.requires.room;
  kept = refl;
  fits = omega arith;
  within = omega arith;
  gathered = gathered-none (bit_in c.args.components.now.strict) c.args.l (lower_count c.args.self.now);
}

pub loop-m-preserved : goal.loop-m-preserved
loop-m-preserved c =
    let cs = c.args.components.now in
    let I = c.loop-m.invariant in
    let E = c.enter.ensures in
    let L = c.in-Some.ensures.least in
    let t = c.enter.new.self in
    record {
      room = record {
        rows = ap (λ (v : Covers). v.table.rows) E.kept ∙ I.room.rows;
        size = ap (λ (v : Covers). v.table.size) E.kept ∙ I.room.size;
        one = ap (λ (v : Covers). v.between.rows) E.kept ∙ I.room.one;
        bits = ap (λ (v : Covers). v.between.size) E.kept ∙ I.room.bits;
        lower = E.length ∙ I.room.lower;
      };
      kept = E.kept ∙ ap (λ (v : Covers). record v { lower = t.lower }) I.kept;
      fits = omega (arith, I.fits, L.from_on);
      within = omega (arith, L.before_end);
      gathered = gathered-next (bit_in cs.strict) c.args.l c.loop-m.from c.in-Some.m c.loop-m.filled
          (lower_count c.loop-m.self) (lower_count t) I.gathered L E.here E.others;
    }
