-- What a study writes of the empty input.
use Rattle.std.proofs.Common.{◌≡◌, ◌≤◌, ℕ, [], false, true, length, subst, sym, arith}
use Rattle.residue_field.specs.Modulus.{modulus_of}
use Rattle.residue_field.specs.declared.field_name.FieldName.TheVariants.{Small}
use Rattle.cert_text.specs.declared.kind.Kind.{Kind}
use Rattle.command_line.specs.declared.command.Command.TheVariants.{OfStudy}
use Rattle.command_line.specs.declared.command.Study.{Study}
use Rattle.input_kinds.proofs.ByKind.{is-model}
use Rattle.input_kinds.proofs.NamesByKind.{no-names}
use Rattle.problem_heads.specs.HeadsRead.{HasHead}
use Rattle.problem_heads.specs.declared.form.Form.{Form}
use Rattle.problem_heads.specs.declared.form.Form.TheVariants as forms
use Rattle.report_cli.proofs.FieldFacts.{low-of, prime-of, some-of}
use Rattle.study_outputs.specs.StudyOutputs.{IsStudiedFor, studied_text}
use Rattle.study_outputs.specs.declared.studied.Studied.{Studied}
use Rattle.study_outputs.specs.declared.studied.Studied.TheVariants.{Conflicts, Repaired, Solved, Values}
use Rattle.study_outputs.proofs.Lengths.{conflicts-fit, values-fit}
use Rattle.answer_laws.specs.EmptyRooms.{empty_room}

-- the empty text has no line `model`
no-head : (p : ℕ) (form : Form) → HasHead p form [] → ⊥
no-head p form head = let none : false ≡ true = head.ended in absurd cc

pub studies-few : (study : Study) (kind : Kind) (studied : Studied ℕ) → IsStudiedFor (λ value. value) (modulus_of Small) study kind [] studied →
    length (studied_text (λ value. value) studied) ≤ empty_room (OfStudy study kind)
studies-few study kind (Values model told) (is, gives, are) =
    let none = no-names (modulus_of Small) kind model gives in
    subst (λ s. length (studied_text (λ value. value) (Values model told)) ≤ empty_room (OfStudy s kind)) (sym is)
    (omega (
      arith,
      values-fit (modulus_of Small) (prime-of Small) model (is-model (modulus_of Small) kind [] model gives) 0 0 (omega arith)
          (omega (arith, none.0)) (omega (arith, none.1)) (λ value. value) 5 (some-of Small) (low-of Small) told are,
    ))
studies-few study kind (Solved model layers solving) (is, solved) = absurd (no-head (modulus_of Small) forms.Solve solved.head)
studies-few study kind (Repaired model costs repair) (is, repaired) = absurd (no-head (modulus_of Small) forms.Repair repaired.head)
studies-few study kind (Conflicts model conflicts) (is, gives, are) =
    let none = no-names (modulus_of Small) kind model gives in
    subst (λ s. length (studied_text (λ value. value) (Conflicts model conflicts)) ≤ empty_room (OfStudy s kind)) (sym is)
    (omega (
      arith,
      conflicts-fit (modulus_of Small) (prime-of Small) model (is-model (modulus_of Small) kind [] model gives) 0 0 (omega arith)
          (omega (arith, none.0)) (omega (arith, none.1)) conflicts are,
    ))
