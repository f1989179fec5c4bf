use Rattle.limits.specs.Limits.{input_limit}
use Rattle.command_line.specs.declared.command.Study.TheVariants as studies
use Rattle.problem_heads.specs.declared.form.Form.TheVariants as forms
use Rattle.run_ends.specs.Reading.{IsUnread}
use Rattle.run_ends.specs.Statuses.{status_of_refusal}
use Rattle.run_ends.specs.declared.status.Status.{Status}
use Rattle.run_ends.proofs.Unread.{with_status}
use Rattle.study_outputs.specs.StudyInputs.{IsStudyFault}
use Rattle.study_outputs.proofs.Refusing.{unread-problem}
use Rattle.study_outputs.proofs.studied.Studied.read.Goals as goal

pub returns-in_err-solved-in-Solve-clause-unread : goal.returns-in_err-solved-in-Solve-clause-unread
returns-in_err-solved-in-Solve-clause-unread g c =
    let p = g.F.Field.modulus in
    let left = g.S.Source.left c.args.source.now in
    let left' = g.S.Source.left c.read_text.new.source in
    let text = c.in_ok-text-in-Solve.text.items in
    let why = c.in_err-solved-in-Solve.field-0.0 in
    with_status (λ (status : Status). IsUnread input_limit (IsStudyFault p c.args.study c.args.kind) status left left')
    c.from_residual-in_err-solved-in-Solve.result (status_of_refusal why) c.from_residual-in_err-solved-in-Solve.ensures.0
    c.from_residual-in_err-solved-in-Solve.ensures.1
    (unread-problem p input_limit c.args.study studies.Solve c.args.kind forms.Solve c.in-Solve.is (λ text refused is. is) left left' text why
    c.in_ok-text-in-Solve.ensures.read c.in_err-solved-in-Solve.ensures.refused)

pub returns-in_err-repaired-in-Repair-clause-unread : goal.returns-in_err-repaired-in-Repair-clause-unread
returns-in_err-repaired-in-Repair-clause-unread g c =
    let p = g.F.Field.modulus in
    let left = g.S.Source.left c.args.source.now in
    let left' = g.S.Source.left c.read_text-in-Repair.new.source in
    let text = c.in_ok-text-in-Repair.text.items in
    let why = c.in_err-repaired-in-Repair.field-0.0 in
    with_status (λ (status : Status). IsUnread input_limit (IsStudyFault p c.args.study c.args.kind) status left left')
    c.from_residual-in_err-repaired-in-Repair.result (status_of_refusal why) c.from_residual-in_err-repaired-in-Repair.ensures.0
    c.from_residual-in_err-repaired-in-Repair.ensures.1
    (unread-problem p input_limit c.args.study studies.Repair c.args.kind forms.Repair c.in-Repair.is (λ text refused is. is) left left' text why
    c.in_ok-text-in-Repair.ensures.read c.in_err-repaired-in-Repair.ensures.refused)
