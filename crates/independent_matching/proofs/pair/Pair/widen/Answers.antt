use Rattle.std.proofs.Common.{◌≡◌, ◌≤◌, true, refl, subst, sym, ◌∙◌, arith}
use Rattle.mixed_edit_laws.specs.Rests.{column_rest}
use Rattle.independent_matching.specs.Edits.{IsWidened}
use Rattle.independent_matching.proofs.EditLaws.{same-edited}
use Rattle.independent_matching.proofs.EditSteps.{widened-less, widened-out, widened-start}
use Rattle.independent_matching.proofs.pair.Pair.widen.Goals as goal

pub loop-at-init : goal.loop-at-init
loop-at-init g c =
    let p = g.F.Field.modulus in
    let S = g.T.Tableau.state c.args.self.now.tableau in
    record {
      edited = λ L K least W E. same-edited p L K least S c.args.self.now.mates
          (widened-start p L K c.args.from (subst (λ n. c.args.from ≤ n) E.same.columns c.requires.from) W) E;
      rows = refl;
      t_rows = refl;
      columns = refl;
      width = c.requires.width;
      counted = refl;
      room = (refl, refl, refl);
    }

pub loop-at-preserved : goal.loop-at-preserved
loop-at-preserved g c =
    let p = g.F.Field.modulus in
    let I = c.loop-at.invariant in
    let now = c.insert_column_at.ensures in
    let from : c.args.from ≤ c.loop-at.at = omega (arith, c.loop-at.auto.at) in
    record {
      edited = λ L K least W E.
          let ul : c.args.from ≤ L.columns = subst (λ n. c.args.from ≤ n) E.same.columns c.requires.from in
          now.edited (column_rest true c.loop-at.at K) K least (widened-out p L K c.args.from c.loop-at.at ul from W)
          (I.edited L (column_rest true c.loop-at.at K) least (widened-less p L K c.args.from c.loop-at.at ul from W) E);
      rows = now.rows ∙ I.rows;
      t_rows = now.t_rows ∙ I.t_rows;
      columns = omega (arith, now.columns, I.columns);
      width = now.width;
      counted = now.counted ∙ I.counted;
      room = (now.room.0 ∙ I.room.0, now.room.1 ∙ I.room.1, now.room.2 ∙ I.room.2);
    }

pub returns-clause-edited : goal.returns-clause-edited
returns-clause-edited g c L K least W E =
    let p = g.F.Field.modulus in
    let last : c.loop-at.at ≡ c.args.to = omega (arith, c.loop-at-test.false, c.loop-at.auto.at, c.loop-at.auto.at-end, c.requires.to) in
    c.loop-at.invariant.edited L K least (subst (λ n. IsWidened p L K c.args.from n) (sym last) W) E
