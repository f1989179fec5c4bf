-- A text that gives no problem.
use Rattle.std.proofs.Common.{◌≡◌, ℕ, List, Option, subst, sym}
use Rattle.refusals.specs.declared.Refused.{Refused as Refusal}
use Rattle.cert_text.specs.declared.kind.Kind.{Kind}
use Rattle.command_line.specs.declared.command.Study.{Study}
use Rattle.input_problems.specs.ProblemTexts.{IsProblemRefused, IsWhyNoProblemOf}
use Rattle.problem_heads.specs.declared.form.Form.{Form}
use Rattle.refusals.specs.declared.ReadModel.{ReadModel}
use Rattle.refusals.specs.declared.ReadModel.TheVariants.{NoMemory, Refused as Broken}
use Rattle.run_ends.specs.Reading.{IsUnread, ReadsWhole}
use Rattle.run_ends.specs.Statuses.{status_of_refusal}
use Rattle.run_ends.specs.declared.status.Status.TheVariants.{Refused}
use Rattle.run_ends.proofs.Unread.{reads_so}
use Rattle.study_outputs.specs.StudyInputs.{IsStudyFault}

-- why it gives none is the end of a run of a study of problems of this form
pub unread-problem : (p most : ℕ) (asked study : Study) (kind : Kind) (form : Form) → asked ≡ study →
    ((text : List ℕ) (refused : Refusal) → IsProblemRefused p kind form text refused → IsStudyFault p study kind text (Refused refused)) →
    (left left' : Option (List ℕ)) (text : List ℕ) (why : ReadModel) →
    ReadsWhole most left left' (λ input. input ≡ text) → IsWhyNoProblemOf p kind form text why →
    IsUnread most (IsStudyFault p asked kind) (status_of_refusal why) left left'
unread-problem p most asked study kind form is-asked fault left left' text (Broken refused) read is =
    subst (λ s. IsUnread most (IsStudyFault p s kind) (Refused refused) left left') (sym is-asked)
    (reads_so most left left' (λ input. input ≡ text) (λ input. IsStudyFault p study kind input (Refused refused))
    (λ input same. fault input refused (subst (λ t. IsProblemRefused p kind form t refused) (sym same) is)) read)
unread-problem p most asked study kind form is-asked fault left left' text NoMemory read is = (read.input, read.short, read.took)
