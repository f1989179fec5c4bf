-- What words ask for, by computation.
use Rattle.std.proofs.Common.{◌≡◌, List, ℕ, refl, codes, [], ◌∷◌, Option, None, Some, sym, ap, get_or, arith, ◌∙◌}
use Rattle.clap.specs.Kinds.{Kinds}
use Rattle.clap.specs.Faults.{fault_of}
use Rattle.clap.specs.declared.error.kind.ErrorKind.{ErrorKind}
use Rattle.clap.proofs.OnLiterals.{clap_on_literals}
use Rattle.cert_text.specs.declared.kind.Kind.TheVariants.{Flowsheet, Matrix, Netlist}
use Rattle.command_line.specs.CommandLine.{command_line}
use Rattle.command_line.specs.Words.{AsksFor, AsksForNothing, AsksToMake, field_of, field_word, study_text}
use Rattle.command_line.specs.declared.command.Study.{Study}
use Rattle.command_line.specs.declared.command.Command.TheVariants.{Check, Edit, OfModel, OfStudy}
use Rattle.command_line.specs.declared.command.Study.TheVariants.{Conflict, Repair, Solve, Values}
use Rattle.residue_field.specs.declared.field_name.FieldName.{FieldName}
use Rattle.residue_field.specs.declared.field_name.FieldName.TheVariants.{Large, Small}
use Rattle.command_line.specs.declared.command.Request.TheVariants.{Make, OfInput}
use Rattle.command_line.specs.declared.command.Task.TheVariants.{Analyse, Layer, Plan, Report}

-- words that clap does not take ask for nothing
untaken : (words : List (List ℕ)) (kind : ErrorKind) (kinds : Kinds) → fault_of command_line words ≡ kind ∷ kinds → AsksForNothing words
untaken words kind kinds fails request asks = let none : kind ∷ kinds ≡ [] = sym fails ∙ asks.0 in absurd cc

pub analyse : AsksFor (codes "mixed" ∷ codes "analyse" ∷ codes "matrix" ∷ []) (OfModel Analyse Matrix None)
unfolding clap_on_literals
analyse = (refl, (refl, refl, refl))

pub layer : AsksFor (codes "mixed" ∷ codes "layer" ∷ codes "netlist" ∷ []) (OfModel Layer Netlist None)
unfolding clap_on_literals
layer = (refl, (refl, refl, refl))

pub report : AsksFor (codes "mixed" ∷ codes "report" ∷ codes "flowsheet" ∷ []) (OfModel Report Flowsheet None)
unfolding clap_on_literals
report = (refl, (refl, refl, refl))

pub plan : AsksFor (codes "mixed" ∷ codes "plan" ∷ codes "matrix" ∷ []) (OfModel Plan Matrix None)
unfolding clap_on_literals
plan = (refl, (refl, refl, refl))

pub check : AsksFor (codes "mixed" ∷ codes "check" ∷ []) Check
unfolding clap_on_literals
check = (refl, (refl, refl, refl))

pub edit : AsksFor (codes "mixed" ∷ codes "edit" ∷ []) Edit
unfolding clap_on_literals
edit = (refl, (refl, refl, refl))

pub values : AsksFor (codes "mixed" ∷ codes "values" ∷ codes "matrix" ∷ []) (OfStudy Values Matrix)
unfolding clap_on_literals
values = (refl, (refl, refl, refl))

pub solve : AsksFor (codes "mixed" ∷ codes "solve" ∷ codes "netlist" ∷ []) (OfStudy Solve Netlist)
unfolding clap_on_literals
solve = (refl, (refl, refl, refl))

pub repair : AsksFor (codes "mixed" ∷ codes "repair" ∷ codes "matrix" ∷ []) (OfStudy Repair Matrix)
unfolding clap_on_literals
repair = (refl, (refl, refl, refl))

pub conflict : AsksFor (codes "mixed" ∷ codes "conflict" ∷ codes "flowsheet" ∷ []) (OfStudy Conflict Flowsheet)
unfolding clap_on_literals
conflict = (refl, (refl, refl, refl))

pub make : AsksToMake (codes "mixed" ∷ codes "make" ∷ codes "2" ∷ []) 2 None
unfolding clap_on_literals
make = (refl, (refl, ((((omega arith, (omega arith, tt)), refl), record { least = omega arith; most = omega arith }), refl)))

pub make_most : AsksToMake (codes "mixed" ∷ codes "make" ∷ codes "400" ∷ []) 400 None
unfolding clap_on_literals
make_most =
    (refl, (refl, ((((omega arith, (omega arith, (omega arith, (omega arith, tt)))), refl), record { least = omega arith; most = omega arith }), refl)))

pub make_zeros : AsksToMake (codes "mixed" ∷ codes "make" ∷ codes "007" ∷ []) 7 None
unfolding clap_on_literals
make_zeros =
    (refl, (refl, ((((omega arith, (omega arith, (omega arith, (omega arith, tt)))), refl), record { least = omega arith; most = omega arith }), refl)))

pub make_plus : AsksToMake (codes "mixed" ∷ codes "make" ∷ codes "+5" ∷ []) 5 None
unfolding clap_on_literals
make_plus = (refl, (refl, ((((omega arith, (omega arith, tt)), refl), record { least = omega arith; most = omega arith }), refl)))

pub layer_large : AsksFor (codes "mixed" ∷ codes "layer" ∷ codes "matrix" ∷ codes "2147483647" ∷ []) (OfModel Layer Matrix (Some Large))
unfolding clap_on_literals
layer_large = (refl, (refl, refl, refl))

pub report_small : AsksFor (codes "mixed" ∷ codes "report" ∷ codes "netlist" ∷ codes "65521" ∷ []) (OfModel Report Netlist (Some Small))
unfolding clap_on_literals
report_small = (refl, (refl, refl, refl))

pub make_large : AsksToMake (codes "mixed" ∷ codes "make" ∷ codes "2" ∷ codes "2147483647" ∷ []) 2 (Some Large)
unfolding clap_on_literals
make_large = (refl, (refl, ((((omega arith, (omega arith, tt)), refl), record { least = omega arith; most = omega arith }), refl)))

pub make_none : AsksForNothing (codes "mixed" ∷ codes "make" ∷ codes "0" ∷ [])
unfolding clap_on_literals
make_none = untaken (codes "mixed" ∷ codes "make" ∷ codes "0" ∷ []) _ _ refl

pub make_more : AsksForNothing (codes "mixed" ∷ codes "make" ∷ codes "401" ∷ [])
unfolding clap_on_literals
make_more = untaken (codes "mixed" ∷ codes "make" ∷ codes "401" ∷ []) _ _ refl

pub make_word : AsksForNothing (codes "mixed" ∷ codes "make" ∷ codes "x" ∷ [])
unfolding clap_on_literals
make_word = untaken (codes "mixed" ∷ codes "make" ∷ codes "x" ∷ []) _ _ refl

pub make_alone : AsksForNothing (codes "mixed" ∷ codes "make" ∷ [])
unfolding clap_on_literals
make_alone = untaken (codes "mixed" ∷ codes "make" ∷ []) _ _ refl

pub check_of_kind : AsksForNothing (codes "mixed" ∷ codes "check" ∷ codes "matrix" ∷ [])
unfolding clap_on_literals
check_of_kind = untaken (codes "mixed" ∷ codes "check" ∷ codes "matrix" ∷ []) _ _ refl

pub edit_of_kind : AsksForNothing (codes "mixed" ∷ codes "edit" ∷ codes "matrix" ∷ [])
unfolding clap_on_literals
edit_of_kind = untaken (codes "mixed" ∷ codes "edit" ∷ codes "matrix" ∷ []) _ _ refl

-- no study has this name
no-study-analyses : {A : Type 0} (study : Study) → codes "analyse" ≡ study_text study → A
no-study-analyses Values same = let is : 97 ≡ 118 = ap (λ t. get_or t 0 0) same in absurd (omega (arith, is))
no-study-analyses Solve same = let is : 97 ≡ 115 = ap (λ t. get_or t 0 0) same in absurd (omega (arith, is))
no-study-analyses Repair same = let is : 97 ≡ 114 = ap (λ t. get_or t 0 0) same in absurd (omega (arith, is))
no-study-analyses Conflict same = let is : 97 ≡ 99 = ap (λ t. get_or t 0 0) same in absurd (omega (arith, is))

-- another word at KIND
unknown : (word : List ℕ) → Some (codes "picture") ≡ Some word → get_or word 0 0 ≡ 112
unknown word there = let same : codes "picture" ≡ word = cc in ap (λ t. get_or t 0 0) (sym same)

pub unknown_kind : AsksForNothing (codes "mixed" ∷ codes "analyse" ∷ codes "picture" ∷ [])
unfolding clap_on_literals
unknown_kind (OfInput (OfModel task Matrix field)) (taken, names) = let other : 109 ≡ 112 = unknown _ names.1 in absurd (omega (arith, other))
unknown_kind (OfInput (OfModel task Netlist field)) (taken, names) = let other : 110 ≡ 112 = unknown _ names.1 in absurd (omega (arith, other))
unknown_kind (OfInput (OfModel task Flowsheet field)) (taken, names) = let other : 102 ≡ 112 = unknown _ names.1 in absurd (omega (arith, other))
unknown_kind (OfInput (OfStudy study kind)) (taken, names) = no-study-analyses study names.0
unknown_kind (OfInput Check) (taken, names) = absurd cc
unknown_kind (OfInput Edit) (taken, names) = absurd cc
unknown_kind (Make n field) (taken, names) = absurd cc

-- a word that begins otherwise is that of no field
no_field : {A : Type 0} (word : List ℕ) (letter : ℕ) → get_or word 0 0 ≡ letter → (54 ≡ letter → ⊥) → (50 ≡ letter → ⊥) →
    (field : Option FieldName) → Some word ≡ field_word field → A
no_field word letter first small large None same = absurd cc
no_field word letter first small large (Some Small) same =
    let is : word ≡ codes "65521" = cc in absurd (small (sym (ap (λ t. get_or t 0 0) is) ∙ first))
no_field word letter first small large (Some Large) same =
    let is : word ≡ codes "2147483647" = cc in absurd (large (sym (ap (λ t. get_or t 0 0) is) ∙ first))

pub unknown_field : AsksForNothing (codes "mixed" ∷ codes "analyse" ∷ codes "matrix" ∷ codes "7" ∷ [])
unfolding clap_on_literals
unknown_field (OfInput command) (taken, names) =
    no_field (codes "7") 55 refl (λ e. omega (arith, e)) (λ e. omega (arith, e)) (field_of command) names.2
unknown_field (Make n field) (taken, names) = absurd cc

pub field_of_zeros : AsksForNothing (codes "mixed" ∷ codes "plan" ∷ codes "matrix" ∷ codes "065521" ∷ [])
unfolding clap_on_literals
field_of_zeros (OfInput command) (taken, names) =
    no_field (codes "065521") 48 refl (λ e. omega (arith, e)) (λ e. omega (arith, e)) (field_of command) names.2
field_of_zeros (Make n field) (taken, names) = let letters : 112 ≡ 109 = ap (λ t. get_or t 0 0) names.0 in absurd (omega (arith, letters))

pub make_unknown_field : AsksForNothing (codes "mixed" ∷ codes "make" ∷ codes "2" ∷ codes "7" ∷ [])
unfolding clap_on_literals
make_unknown_field (OfInput command) (taken, names) =
    no_field (codes "7") 55 refl (λ e. omega (arith, e)) (λ e. omega (arith, e)) (field_of command) names.2
make_unknown_field (Make n field) (taken, names) =
    no_field (codes "7") 55 refl (λ e. omega (arith, e)) (λ e. omega (arith, e)) field names.1.1

pub check_of_field : AsksForNothing (codes "mixed" ∷ codes "check" ∷ codes "65521" ∷ [])
unfolding clap_on_literals
check_of_field = untaken (codes "mixed" ∷ codes "check" ∷ codes "65521" ∷ []) _ _ refl

pub no_word : AsksForNothing (codes "mixed" ∷ [])
unfolding clap_on_literals
no_word = untaken (codes "mixed" ∷ []) _ _ refl

pub no_kind : AsksForNothing (codes "mixed" ∷ codes "analyse" ∷ [])
unfolding clap_on_literals
no_kind = untaken (codes "mixed" ∷ codes "analyse" ∷ []) _ _ refl

pub study_of_field : AsksForNothing (codes "mixed" ∷ codes "values" ∷ codes "matrix" ∷ codes "65521" ∷ [])
unfolding clap_on_literals
study_of_field = untaken (codes "mixed" ∷ codes "values" ∷ codes "matrix" ∷ codes "65521" ∷ []) _ _ refl

pub study_alone : AsksForNothing (codes "mixed" ∷ codes "solve" ∷ [])
unfolding clap_on_literals
study_alone = untaken (codes "mixed" ∷ codes "solve" ∷ []) _ _ refl

pub too_many : AsksForNothing (codes "mixed" ∷ codes "analyse" ∷ codes "matrix" ∷ codes "65521" ∷ codes "more" ∷ [])
unfolding clap_on_literals
too_many = untaken (codes "mixed" ∷ codes "analyse" ∷ codes "matrix" ∷ codes "65521" ∷ codes "more" ∷ []) _ _ refl

pub help : AsksForNothing (codes "mixed" ∷ codes "help" ∷ [])
unfolding clap_on_literals
help = untaken (codes "mixed" ∷ codes "help" ∷ []) _ _ refl

pub help_flag : AsksForNothing (codes "mixed" ∷ codes "analyse" ∷ codes "--help" ∷ [])
unfolding clap_on_literals
help_flag = untaken (codes "mixed" ∷ codes "analyse" ∷ codes "--help" ∷ []) _ _ refl

pub part : AsksForNothing (codes "mixed" ∷ codes "anal" ∷ codes "matrix" ∷ [])
unfolding clap_on_literals
part = untaken (codes "mixed" ∷ codes "anal" ∷ codes "matrix" ∷ []) _ _ refl
