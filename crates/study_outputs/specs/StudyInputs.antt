-- What the input of a study is to be, and how a run ends on what is not.
use Rattle.std.specs.Prelude.{ℕ, List}
use Rattle.cert_text.specs.declared.kind.Kind.{Kind}
use Rattle.command_line.specs.declared.command.Study.{Study}
use Rattle.command_line.specs.declared.command.Study.TheVariants.{Conflict, Repair, Solve, Values}
use Rattle.mixed_model.specs.Models.{MixedModel}
use Rattle.input_kinds.specs.Kinds.{GivesModel}
use Rattle.input_kinds.specs.Refusals.{IsRefusedAs}
use Rattle.input_problems.specs.ProblemTexts.{HasProblemText, IsProblemRefused}
use Rattle.problem_heads.specs.declared.form.Form.{Form}
use Rattle.problem_heads.specs.declared.form.Form.TheVariants as forms
use Rattle.run_ends.specs.declared.status.Status.{Status}
use Rattle.run_ends.specs.declared.status.Status.TheVariants.{Refused}

-- the status holds the first rule that the text of a problem breaks, and its place
abbrev pub IsProblemRefusedAs : ℕ → Kind → Form → List ℕ → Status → Type 0
IsProblemRefusedAs p kind form text (Refused refused) = IsProblemRefused p kind form text refused
IsProblemRefusedAs p kind form text _ = ⊥

-- over the residues modulo p: the input gives a model of this kind, or for `solve` and `repair` a problem of one
abbrev pub KeepsStudy : ℕ → Study → Kind → List ℕ → Type 0
KeepsStudy p Values kind input = (model : MixedModel) × GivesModel p kind input model
KeepsStudy p Solve kind input = HasProblemText p kind forms.Solve input
KeepsStudy p Repair kind input = HasProblemText p kind forms.Repair input
KeepsStudy p Conflict kind input = (model : MixedModel) × GivesModel p kind input model

-- the status tells the first rule that the input breaks
abbrev pub IsStudyFault : ℕ → Study → Kind → List ℕ → Status → Type 0
IsStudyFault p Values kind = IsRefusedAs p kind
IsStudyFault p Solve kind = IsProblemRefusedAs p kind forms.Solve
IsStudyFault p Repair kind = IsProblemRefusedAs p kind forms.Repair
IsStudyFault p Conflict kind = IsRefusedAs p kind
