-- The head that a text has, and the first rule that its head breaks.
use Rattle.std.specs.Prelude.{◌≡◌, ◌⊎◌, ℕ, ◌+◌, true, false, List, length}
use Rattle.refusals.specs.declared.Place.TheVariants.{Document, Line}
use Rattle.refusals.specs.declared.ReadModel.{ReadModel}
use Rattle.refusals.specs.declared.ReadModel.TheVariants.{Refused, NoMemory}
use Rattle.refusals.specs.declared.Refused.{Refused as Refusal}
use Rattle.refusals.specs.declared.Why.{Why}
use Rattle.refusals.specs.declared.Why.TheVariants.{BadShape}
use Rattle.line_reader.specs.LineRules.{IsFirstBroken, KeepsAll}
use Rattle.problem_heads.specs.Heads.{has_model, head_of, lines_before}
use Rattle.problem_heads.specs.HeadNumbers.{HeadNumber, numbers_of_head}
use Rattle.problem_heads.specs.HeadReading.{HasReadLines, HeadParts}
use Rattle.problem_heads.specs.HeadRules.{head_rules}
use Rattle.problem_heads.specs.declared.form.Form.{Form}
use Rattle.problem_heads.specs.declared.form.Form.TheVariants.{Repair, Solve}
use Rattle.problem_heads.specs.declared.head.Given.{Given}
use Rattle.problem_heads.specs.declared.head.Given.TheVariants as given

-- A head: its form, the place in the text where it ends, how many lines it has, and the numbers that they give.
pub record HeadView : Type 0 where
  pub form : Form
  pub start : ℕ
  pub lines : ℕ
  pub numbers : List (HeadNumber ℕ)

-- what was read of a head of some form
abbrev pub parts_of_given : {F : Type 0} → Given F → HeadParts ℕ
parts_of_given (given.Solve parts) = parts
parts_of_given (given.Repair parts) = parts

-- and that form
abbrev pub form_of_given : {F : Type 0} → Given F → Form
form_of_given (given.Solve parts) = Solve
form_of_given (given.Repair parts) = Repair

-- these lines, by their words, were read in this form
abbrev pub IsGivenBy : {F : Type 0} → ℕ → Form → List (List (List ℕ)) → Given F → Type 0
IsGivenBy p form lines given = (form_of_given given ≡ form) × HasReadLines p form (parts_of_given given) lines

-- the head that ends at a place of a text, by what was read of it
abbrev pub view_of_head : {F : Type 0} → ℕ → Given F → HeadView
view_of_head start given = record {
  form = form_of_given given;
  start = start;
  lines = (parts_of_given given).lines;
  numbers = (parts_of_given given).numbers;
}

-- the head of a text
abbrev pub view_of_text : ℕ → Form → List ℕ → HeadView
view_of_text p form text = record {
  form = form;
  start = length (head_of text);
  lines = lines_before text;
  numbers = numbers_of_head p form text;
}

-- A text has a head: each of its lines keeps the rules, and its last one ends it.
pub record HasHead (p : ℕ) (form : Form) (text : List ℕ) : Type 0 where
  pub kept : KeepsAll (head_rules p form) (head_of text)
  pub ended : has_model text ≡ true

-- The first rule that the head of a text breaks: of one of its lines, which are told_by from 1, or that one ends it.
abbrev pub IsHeadRefused : ℕ → Form → List ℕ → Refusal → Type 0
IsHeadRefused p form text refused =
    ((n : ℕ) × (why : Why) × (refused ≡ record { place = Line (n + 1); why = why })
    × IsFirstBroken (head_rules p form) (head_of text) n why)
    ⊎ ((refused ≡ record { place = Document; why = BadShape }) × KeepsAll (head_rules p form) (head_of text)
    × (has_model text ≡ false))

-- why a text has no head: its refusal, or memory ran out
abbrev pub IsWhyNoHead : ℕ → Form → List ℕ → ReadModel → Type 0
IsWhyNoHead p form text (Refused refused) = IsHeadRefused p form text refused
IsWhyNoHead p form text NoMemory = Unit {0}
