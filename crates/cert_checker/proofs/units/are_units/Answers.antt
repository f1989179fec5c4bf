use Rattle.std.proofs.Common.{◌<◌, length, sym, subst, ◌∙◌, arith}
use Rattle.residue_theory.proofs.SetLaws.{differ}
use Rattle.cert_text.specs.Contents.{numbered_rows}
use Rattle.cert_checker.specs.Units.{AreClear}
use Rattle.cert_checker.proofs.UnitLaws.{units-to, units-ones, units-clear}
use Rattle.cert_checker.proofs.units.are_units.Goals as goal
use Rattle.cert_checker.proofs.units.are_units.Goals.{then-are_ones, else-are_ones}

pub returns : goal.returns
returns g c =
    let p = g.F.Field.modulus in
    let big : 1 < p = omega (arith, g.met.F.Field.odd) in
    let m = length c.args.p.now in
    let n = c.args.columns in
    let P = numbered_rows g.F.Field.number c.args.p.now in
    let base = c.args.base.now in
    let marks = c.in_ok-marks.marks.items in
    elim c.if-are_ones.branch [
      | then-are_ones w ↦
          let is = w.deref.ensures.value in (
            λ h. units-to p m n big P base marks c.requires.p c.requires.base c.in_ok-marks.ensures (c.are_ones.ensures.0 w.if-are_ones.true)
                (subst (λ ms. AreClear m ms P m) is (w.are_clear.ensures.0 (sym w.result-is ∙ h))),
            λ u. w.result-is ∙ w.are_clear.ensures.1 (subst (λ ms. AreClear m ms P m) (sym is)
                (units-clear p m n big P base marks c.requires.p c.requires.base c.in_ok-marks.ensures u)),
          )
      | else-are_ones w ↦ (
        λ h. absurd (differ w.if-are_ones.false (sym w.result-is ∙ h)),
        λ u. absurd (differ w.if-are_ones.false (c.are_ones.ensures.1
            (units-ones p m n big P base marks c.requires.p c.requires.base c.in_ok-marks.ensures u))),
      )
    ]
