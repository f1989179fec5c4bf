use Rattle.std.proofs.Common.{◌≡◌, ◌≢◌, ◌+◌, ◌<◌, ℕ, IfNone, IfSome, ap, sym, subst, ◌∙◌, arith, map, slice_index}
use Rattle.std.proofs.lemmas.List.{get_or-map}
use Rattle.residue_theory.proofs.SetLaws.{differ}
use Rattle.row_echelon.proofs.LeadLaws.{none-yet, not-lighter}
use Rattle.row_echelon.proofs.echelon.Echelon.lead.Goals as goal
use Rattle.row_echelon.proofs.echelon.Echelon.lead.Goals.{then-not-is_zero+then-is_lighter, else-not-is_zero}
use Rattle.row_echelon.proofs.echelon.Echelon.lead.Goals.{else-not-is_zero-via-then-not-is_zero+else-is_lighter, else-not-is_zero-via-else-not-is_zero}

pub loop-column-preserved : goal.loop-column-preserved
loop-column-preserved g c =
    let number = g.F.Field.number in
    let n = c.loop-column.column in
    let row = map number c.args.row.now in
    let low : n < c.args.self.now.width = omega (arith, c.loop-column-test.true, c.loop-column.auto.column-end, c.requires) in
    let read : number c.index-row-column.result ≡ slice_index row n =
    ap number c.index-row-column.is ∙ sym (get_or-map number c.args.row.now n c.index-row-column.result 0 (omega (arith, low, c.requires))) in
    elim c.if-not-is_zero.branch [
      | then-not-is_zero+then-is_lighter w ↦ record {
        none = subst (λ b. IfNone b ((j : ℕ) → j < n + 1 → slice_index row j ≡ 0)) (sym w.best-is) tt;
        below = subst (λ b. IfSome b (λ lead. lead < c.args.self.now.width)) (sym w.best-is) low;
        some = subst (λ b. IfSome b (λ lead. slice_index row lead ≢ 0)) (sym w.best-is)
            (λ z. differ w.if-not-is_zero.true (c.is_zero.ensures.1 (read ∙ z)));
      }
      | else-not-is_zero w ↦ record {
        none = subst (λ b. IfNone b ((j : ℕ) → j < n + 1 → slice_index row j ≡ 0)) (sym w.best-is)
            (elim w.else-not-is_zero.branch [
              | else-not-is_zero-via-then-not-is_zero+else-is_lighter w' ↦ not-lighter c.loop-column.best w'.is_lighter.result
                  ((j : ℕ) → j < n + 1 → slice_index row j ≡ 0) w'.is_lighter.ensures w'.if-is_lighter.false
              | else-not-is_zero-via-else-not-is_zero w' ↦ none-yet c.loop-column.best row n
                  (sym read ∙ c.is_zero.ensures.0 w'.if-not-is_zero.false) c.loop-column.invariant.none
            ]);
        below = subst (λ b. IfSome b (λ lead. lead < c.args.self.now.width)) (sym w.best-is) c.loop-column.invariant.below;
        some = subst (λ b. IfSome b (λ lead. slice_index row lead ≢ 0)) (sym w.best-is) c.loop-column.invariant.some;
      }
    ]
