-- The problem that a text gives, whose model is of some kind, and the first rule that the text breaks.
use Rattle.std.specs.Prelude.{◌≡◌, ◌⊎◌, ℕ, ◌+◌, ◌<◌, ◌^◌, List}
use Rattle.refusals.specs.declared.ReadModel.{ReadModel}
use Rattle.refusals.specs.declared.ReadModel.TheVariants.{Refused as Refusal, NoMemory}
use Rattle.refusals.specs.declared.Refused.{Refused}
use Rattle.cert_text.specs.declared.kind.Kind.{Kind}
use Rattle.mixed_model.specs.Models.{MixedModel}
use Rattle.input_kinds.specs.Kinds.{GivesModel, IsRefused}
use Rattle.problem_heads.specs.Heads.{lines_before, model_text}
use Rattle.problem_heads.specs.HeadsRead.{HasHead, IsHeadRefused}
use Rattle.problem_heads.specs.LinesBefore.{line_number, refused_behind}
use Rattle.problem_heads.specs.Misfits.{IsMisfitOf}
use Rattle.problem_heads.specs.HeadNumbers.{numbers_of_head}
use Rattle.problem_heads.specs.Problems.{HasProblem, IsProblemOf}
use Rattle.problem_heads.specs.declared.form.Form.{Form}
use Rattle.problem_heads.specs.declared.problem.Problem.{Problem}

-- A text gives a problem: it has a head, what stands behind that gives the model, and the head says the problem of it.
pub record GivesProblem {F : Type 0}
    (number : F → ℕ) (p : ℕ) (kind : Kind) (form : Form) (text : List ℕ) (model : MixedModel) (problem : Problem F)
    : Type 0 where
  pub head : HasHead p form text
  pub model_is : GivesModel p kind (model_text text) model
  pub problem_is : IsProblemOf number p form text model problem

-- a text has a problem
abbrev pub HasProblemText : ℕ → Kind → Form → List ℕ → Type 0
HasProblemText p kind form text =
    HasHead p form text
    × ((model : MixedModel) × GivesModel p kind (model_text text) model
    × HasProblem form (numbers_of_head p form text) model)

-- the refusal of what stands behind the head: the number of a line is counted on from those of the head
abbrev pub IsRefusedBehind : ℕ → Kind → List ℕ → Refused → Type 0
IsRefusedBehind p kind text refused =
    (own : Refused) × IsRefused p kind (model_text text) own × (refused ≡ refused_behind (lines_before text) own)

-- the refusal of the head at the model
abbrev pub IsRefusedAtModel : ℕ → Kind → Form → List ℕ → Refused → Type 0
IsRefusedAtModel p kind form text refused =
    (model : MixedModel) × GivesModel p kind (model_text text) model × IsMisfitOf p form text model refused

-- The first rule that a text breaks: of its head; or else of its model; or else of the head at the model.
abbrev pub IsProblemRefused : ℕ → Kind → Form → List ℕ → Refused → Type 0
IsProblemRefused p kind form text refused =
    IsHeadRefused p form text refused
    ⊎ (HasHead p form text × (IsRefusedBehind p kind text refused ⊎ IsRefusedAtModel p kind form text refused))

-- why a text gives no problem: its refusal, or memory ran out
abbrev pub IsWhyNoProblemOf : ℕ → Kind → Form → List ℕ → ReadModel → Type 0
IsWhyNoProblemOf p kind form text (Refusal refused) = IsProblemRefused p kind form text refused
IsWhyNoProblemOf p kind form text NoMemory = Unit {0}

-- why a text that stands behind so many lines is not read, and that its line has a number of 32 bits
abbrev pub why_behind : ℕ → ReadModel → ReadModel
why_behind n (Refusal refused) = Refusal (refused_behind n refused)
why_behind n NoMemory = NoMemory

abbrev pub FitsBehind : ℕ → ReadModel → Type 0
FitsBehind n (Refusal refused) = line_number refused.place + n < 2 ^ 32
FitsBehind n NoMemory = Unit {0}

-- why there is no model behind the head: its refusal, or memory ran out
abbrev pub IsWhyNoneBehind : ℕ → Kind → List ℕ → ReadModel → Type 0
IsWhyNoneBehind p kind text (Refusal refused) = IsRefusedBehind p kind text refused
IsWhyNoneBehind p kind text NoMemory = Unit {0}
