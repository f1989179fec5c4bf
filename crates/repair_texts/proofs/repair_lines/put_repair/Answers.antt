use Rattle.std.proofs.Common.{ℕ, List, ap}
use Rattle.text_writer.proofs.Putting.{puts_is, puts_then}
use Rattle.repair_checker.specs.declared.repair.Level.{Level}
use Rattle.repair_texts.specs.RepairTexts.{drop_lines, kept_text, levels_text}
use Rattle.repair_texts.proofs.repair_lines.put_repair.Goals as goal

pub returns : goal.returns
returns g c =
    let names = c.args.model.now.equations in
    let costs = c.args.costs.now in
    let ccf = c.args.repair.now.kept_ccf in
    puts_then (puts_then (puts_then c.put_cost.ensures
    (puts_is (ap (λ (kept : List ℕ). drop_lines names kept 0 costs) c.as_slice.ensures) c.put_dropped.ensures))
    (puts_is (ap (λ (levels : List (Level g.row.F.Denot)). levels_text levels) c.as_slice-2.ensures) c.put_levels.ensures))
    (puts_is (ap (λ (kept : List ℕ). kept_text kept ccf) c.as_slice-3.ensures) c.put_kept.ensures)
