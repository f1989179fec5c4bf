-- Words ask for one thing, or for none.
use Rattle.std.proofs.Common.{◌≡◌, ◌⊎◌, ℕ, ◌+◌, Bool, true, false, List, Option, Some, None, codes, get_or, nat_eq, if◌then◌else◌}
use Rattle.std.proofs.Common.{inl, inr, refl, ap, sym, ◌∙◌, arith}
use Rattle.clap.specs.Simple.{subcommand_of}
use Rattle.clap.specs.Walk.{Row, Text}
use Rattle.command_line.specs.CommandLine.{command_line}
use Rattle.cert_text.specs.Texts.{kind_text}
use Rattle.cert_text.specs.declared.kind.Kind.{Kind}
use Rattle.cert_text.specs.declared.kind.Kind.TheVariants.{Flowsheet, Matrix, Netlist}
use Rattle.command_line.specs.Words.{Asks, AsksFor, AsksToMake, IsSizeWord, Names, field_of, field_word, format_of, name_of, word_of}
use Rattle.residue_field.specs.declared.field_name.FieldName.{FieldName}
use Rattle.residue_field.specs.declared.field_name.FieldName.TheVariants.{Large, Small}
use Rattle.command_line.specs.declared.command.Command.{Command}
use Rattle.command_line.specs.declared.command.Command.TheVariants.{Check, Edit, OfModel, OfStudy}
use Rattle.command_line.specs.declared.command.Study.{Study}
use Rattle.command_line.specs.declared.command.Study.TheVariants.{Conflict, Repair, Solve, Values}
use Rattle.command_line.specs.declared.command.Request.{Request}
use Rattle.command_line.specs.declared.command.Request.TheVariants.{Make, OfInput}
use Rattle.command_line.specs.declared.command.Task.{Task}
use Rattle.command_line.specs.declared.command.Task.TheVariants.{Analyse, Layer, Plan, Report}

-- commands have names of their own: the first and the fourth letter tell them
abbrev letters : List ℕ → ℕ
letters name = get_or name 0 0 + get_or name 3 0

task-number : Task → ℕ
task-number Analyse = 205
task-number Layer = 209
task-number Report = 225
task-number Plan = 222

study-number : Study → ℕ
study-number Values = 235
study-number Solve = 233
study-number Repair = 211
study-number Conflict = 201

name-number : Command → ℕ
name-number (OfModel task kind field) = task-number task
name-number (OfStudy study kind) = study-number study
name-number Check = 198
name-number Edit = 217

numbered-by-name : (command : Command) → letters (name_of command) ≡ name-number command
unfolding name-number task-number study-number
numbered-by-name (OfModel Analyse kind field) = refl
numbered-by-name (OfModel Layer kind field) = refl
numbered-by-name (OfModel Report kind field) = refl
numbered-by-name (OfModel Plan kind field) = refl
numbered-by-name (OfStudy Values kind) = refl
numbered-by-name (OfStudy Solve kind) = refl
numbered-by-name (OfStudy Repair kind) = refl
numbered-by-name (OfStudy Conflict kind) = refl
numbered-by-name Check = refl
numbered-by-name Edit = refl

-- the name is that of a task, of a study, of `check`, or of `edit`
abbrev Named : Type 0
Named = Task ⊎ (Study ⊎ Bool)

named : Command → Named
named (OfModel task kind field) = inl task
named (OfStudy study kind) = inr (inl study)
named Check = inr (inr true)
named Edit = inr (inr false)

named-by : ℕ → Named
named-by number =
    if nat_eq number 205 then inl Analyse else (if nat_eq number 209 then inl Layer else (if nat_eq number 225 then inl Report
    else (if nat_eq number 222 then inl Plan else (if nat_eq number 235 then inr (inl Values) else (if nat_eq number 233 then inr (inl Solve)
    else (if nat_eq number 211 then inr (inl Repair) else (if nat_eq number 201 then inr (inl Conflict)
    else (if nat_eq number 198 then inr (inr true) else inr (inr false)))))))))

named-again : (command : Command) → named-by (name-number command) ≡ named command
unfolding name-number task-number study-number named-by named
named-again (OfModel Analyse kind field) = refl
named-again (OfModel Layer kind field) = refl
named-again (OfModel Report kind field) = refl
named-again (OfModel Plan kind field) = refl
named-again (OfStudy Values kind) = refl
named-again (OfStudy Solve kind) = refl
named-again (OfStudy Repair kind) = refl
named-again (OfStudy Conflict kind) = refl
named-again Check = refl
named-again Edit = refl

named-one : (a b : Command) → name_of a ≡ name_of b → named a ≡ named b
named-one a b same =
    sym (named-again a) ∙ ap named-by (sym (numbered-by-name a) ∙ ap letters same ∙ numbered-by-name b) ∙ named-again b

-- no command makes a model
not-make : (command : Command) → name-number command ≡ 210 → ⊥
unfolding name-number task-number study-number
not-make (OfModel Analyse kind field) is = omega (arith, is)
not-make (OfModel Layer kind field) is = omega (arith, is)
not-make (OfModel Report kind field) is = omega (arith, is)
not-make (OfModel Plan kind field) is = omega (arith, is)
not-make (OfStudy Values kind) is = omega (arith, is)
not-make (OfStudy Solve kind) is = omega (arith, is)
not-make (OfStudy Repair kind) is = omega (arith, is)
not-make (OfStudy Conflict kind) is = omega (arith, is)
not-make Check is = omega (arith, is)
not-make Edit is = omega (arith, is)

make-letters : letters (codes "make") ≡ 210
make-letters = refl

pub make-no-command : {A : Type 0} (command : Command) → name_of command ≡ codes "make" → A
make-no-command command same = absurd (not-make command (sym (numbered-by-name command) ∙ ap letters same ∙ make-letters))

-- kinds have words of their own
kind-one : (a b : Kind) → kind_text a ≡ kind_text b → a ≡ b
kind-one Matrix Matrix same = refl
kind-one Matrix Netlist same = absurd cc
kind-one Netlist Matrix same = absurd cc
kind-one Netlist Netlist same = refl
kind-one Matrix Flowsheet same = absurd cc
kind-one Netlist Flowsheet same = absurd cc
kind-one Flowsheet Matrix same = absurd cc
kind-one Flowsheet Netlist same = absurd cc
kind-one Flowsheet Flowsheet same = refl

-- and so have fields
field-one : (a b : Option FieldName) → field_word a ≡ field_word b → a ≡ b
field-one None None same = refl
field-one None (Some Small) same = absurd cc
field-one None (Some Large) same = absurd cc
field-one (Some Small) None same = absurd cc
field-one (Some Small) (Some Small) same = refl
field-one (Some Small) (Some Large) same = absurd cc
field-one (Some Large) None same = absurd cc
field-one (Some Large) (Some Small) same = absurd cc
field-one (Some Large) (Some Large) same = refl

by-kind : (kind one : Kind) → Some (kind_text kind) ≡ Some (kind_text one) → kind ≡ one
by-kind kind one same = let words : kind_text kind ≡ kind_text one = cc in kind-one kind one words

-- commands of the same name, with the same words, are the same
same-command : (a b : Command) → named a ≡ named b → word_of (format_of a) ≡ word_of (format_of b) →
    field_word (field_of a) ≡ field_word (field_of b) → a ≡ b
unfolding named
same-command (OfModel task kind field) (OfModel other one named) name word over =
    let tasks : task ≡ other = cc in
    ap (λ t. OfModel t kind field) tasks ∙ ap (λ k. OfModel other k field) (by-kind kind one word) ∙ ap (OfModel other one) (field-one field named over)
same-command (OfModel task kind field) (OfStudy study one) name word over = absurd cc
same-command (OfModel task kind field) Check name word over = absurd cc
same-command (OfModel task kind field) Edit name word over = absurd cc
same-command (OfStudy study kind) (OfModel other one named) name word over = absurd cc
same-command (OfStudy study kind) (OfStudy other one) name word over =
    let studies : study ≡ other = cc in
    ap (λ s. OfStudy s kind) studies ∙ ap (OfStudy other) (by-kind kind one word)
same-command (OfStudy study kind) Check name word over = absurd cc
same-command (OfStudy study kind) Edit name word over = absurd cc
same-command Check (OfModel task kind field) name word over = absurd cc
same-command Check (OfStudy study kind) name word over = absurd cc
same-command Check Check name word over = refl
same-command Check Edit name word over = absurd cc
same-command Edit (OfModel task kind field) name word over = absurd cc
same-command Edit (OfStudy study kind) name word over = absurd cc
same-command Edit Check name word over = absurd cc
same-command Edit Edit name word over = refl

command-one : (a b : Command) → name_of a ≡ name_of b → word_of (format_of a) ≡ word_of (format_of b) →
    field_word (field_of a) ≡ field_word (field_of b) → a ≡ b
command-one a b name word over = same-command a b (named-one a b name) word over

size-one : (word : Option (List ℕ)) (m n : ℕ) → IsSizeWord word m → IsSizeWord word n → m ≡ n
size-one None m n one two = absurd one
size-one (Some word) m n one two = one.0.1 ∙ sym two.0.1

names-one : (met : Option (Text × List Row)) (a b : Request) → Names met a → Names met b → a ≡ b
names-one None a b one two = absurd one
names-one (Some (name, values)) (OfInput a) (OfInput b) one two =
    ap OfInput (command-one a b (sym one.0 ∙ two.0) (sym one.1 ∙ two.1) (sym one.2 ∙ two.2))
names-one (Some (name, values)) (OfInput a) (Make n field) one two = make-no-command a (sym one.0 ∙ two.0)
names-one (Some (name, values)) (Make m field) (OfInput b) one two = make-no-command b (sym two.0 ∙ one.0)
names-one (Some (name, values)) (Make m field) (Make n named) one two =
    ap (λ k. Make k field) (size-one _ m n one.1.0 two.1.0) ∙ ap (Make n) (field-one field named (sym one.1.1 ∙ two.1.1))

pub request-one : (words : List (List ℕ)) (a b : Request) → Asks words a → Asks words b → a ≡ b
request-one words a b one two = names-one (subcommand_of command_line words) a b one.1 two.1

pub asks-one : (words : List (List ℕ)) (a b : Command) → AsksFor words a → AsksFor words b → a ≡ b
asks-one words a b one two = let same : OfInput a ≡ OfInput b = request-one words (OfInput a) (OfInput b) one two in cc

pub makes-one : (words : List (List ℕ)) (m n : ℕ) (field named : Option FieldName) → AsksToMake words m field → AsksToMake words n named →
    (m ≡ n) × (field ≡ named)
makes-one words m n field named one two =
    let same : Make m field ≡ Make n named = request-one words (Make m field) (Make n named) one two in (cc, cc)

pub not-both : {A : Type 0} (words : List (List ℕ)) (command : Command) (n : ℕ) (field : Option FieldName) →
    AsksFor words command → AsksToMake words n field → A
not-both words command n field asks makes =
    let same : OfInput command ≡ Make n field = request-one words (OfInput command) (Make n field) asks makes in absurd cc
