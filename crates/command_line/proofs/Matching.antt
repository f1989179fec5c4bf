-- What the words ask for, by the matches that clap tells of them.
use Rattle.std.proofs.Common.{◌≡◌, ℕ, List, [], Option, Some, None, MatchOption, option_map, codes, true, inl, inr, refl, ap, subst, sym, ◌∙◌}
use Rattle.clap.specs.Walk.{Row, Text, first_of}
use Rattle.clap.specs.Faults.{fault_of, is_simple_and_free}
use Rattle.clap.specs.Kinds.{HasKind, IsAmong}
use Rattle.clap.specs.Simple.{App, HasMatchesOf, is_simple, subcommand_of, subcommand_rows_of}
use Rattle.clap.specs.Values.{kind_of}
use Rattle.clap.specs.declared.error.Error.{Error}
use Rattle.clap.specs.declared.error.kind.ErrorKind.TheVariants.{OutOfMemory}
use Rattle.clap.specs.declared.parser.matches.ArgMatches.{ArgMatches}
use Rattle.clap.proofs.OnLiterals.{clap_on_literals}
use Rattle.command_line.specs.CommandLine.{command_line}
use Rattle.command_line.specs.Words.{AreNamesOf, AreSizeWords, AreTaken, Names, NamesNone}
use Rattle.command_line.specs.declared.command.Command.{Command}
use Rattle.residue_field.specs.declared.field_name.FieldName.{FieldName}
use Rattle.command_line.specs.declared.command.Request.{Request}
use Rattle.command_line.specs.declared.command.Request.TheVariants.{Make, OfInput}
use Rattle.command_line.proofs.Asking.{make-no-command}

-- a subcommand by its name and its rows
pub met_by : {B : Type 0} (met : Option B) (f : B → Text) (g : B → List Row) (name : Text) (rows : List Row) →
    Some name ≡ option_map f met → Some rows ≡ option_map (λ (p : Text × List Row). p.1) (option_map {U = Text × List Row} (λ b. (f b, g b)) met) →
    option_map {U = Text × List Row} (λ b. (f b, g b)) met ≡ Some (name, rows)
met_by None f g name rows is_name are_rows = absurd cc
met_by (Some b) f g name rows is_name are_rows =
    let one : name ≡ f b = cc in
    let two : rows ≡ g b = cc in
    rw (one, two) refl

-- by its name and the words at KIND and at FIELD
abbrev pub IsOnInput : Text → Option Text → Option Text → Request → Type 0
IsOnInput name kind field request = (command : Command) × (request ≡ OfInput command) × AreNamesOf name kind field command

pub input_names : (name : Text) (kind field : Option Text) (rows : List Row) (result : Option Request) → (name ≡ codes "make" → ⊥) →
    kind ≡ first_of (codes "KIND") rows → field ≡ first_of (codes "FIELD") rows →
    MatchOption result ((command : Command) → AreNamesOf name kind field command → ⊥) (IsOnInput name kind field) →
    MatchOption result (NamesNone (Some (name, rows))) (Names (Some (name, rows)))
input_names name kind field rows result other kind_is field_is = rw (kind_is, field_is) (on_input result)
  where
    on_input : (result : Option Request) →
        MatchOption result ((command : Command) → AreNamesOf name (first_of (codes "KIND") rows) (first_of (codes "FIELD") rows) command → ⊥)
        (IsOnInput name (first_of (codes "KIND") rows) (first_of (codes "FIELD") rows)) →
        MatchOption result (NamesNone (Some (name, rows))) (Names (Some (name, rows)))
    on_input None never = λ request. none request
      where
        none : (request : Request) → Names (Some (name, rows)) request → ⊥
        none (OfInput command) names = never command names
        none (Make n named) names = other names.0
    on_input (Some request) (command, same, names) = subst (Names (Some (name, rows))) (sym same) names

-- by the name `make` and the words at N and at FIELD
abbrev pub IsMaking : Option Text → Option Text → Request → Type 0
IsMaking size field request = (n : ℕ) × (named : Option FieldName) × (request ≡ Make n named) × AreSizeWords size field n named

pub make_names : (size field : Option Text) (rows : List Row) (result : Option Request) → size ≡ first_of (codes "N") rows →
    field ≡ first_of (codes "FIELD") rows →
    MatchOption result ((n : ℕ) (named : Option FieldName) → AreSizeWords size field n named → ⊥) (IsMaking size field) →
    MatchOption result (NamesNone (Some (codes "make", rows))) (Names (Some (codes "make", rows)))
make_names size field rows result size_is field_is = rw (size_is, field_is) (making result)
  where
    making : (result : Option Request) →
        MatchOption result ((n : ℕ) (named : Option FieldName) →
        AreSizeWords (first_of (codes "N") rows) (first_of (codes "FIELD") rows) n named → ⊥)
        (IsMaking (first_of (codes "N") rows) (first_of (codes "FIELD") rows)) →
        MatchOption result (NamesNone (Some (codes "make", rows))) (Names (Some (codes "make", rows)))
    making None never = λ request. none request
      where
        none : (request : Request) → Names (Some (codes "make", rows)) request → ⊥
        none (OfInput command) names = make-no-command command (sym names.0)
        none (Make n named) names = never n named names.1
    making (Some request) (n, named, same, words) = subst (Names (Some (codes "make", rows))) (sym same) (refl, words)

pub with_none : {T : Type 0} (P : Type 0) (Q : T → Type 0) (result : Option T) → result ≡ None → P → MatchOption result P Q
with_none P Q None is holds = holds
with_none P Q (Some it) is holds = absurd cc

-- the command line is one of which clap tells each kind of error
pub is_free : is_simple_and_free command_line ≡ true
unfolding clap_on_literals
is_free = refl

pub is_plain : is_simple command_line ≡ true
unfolding clap_on_literals
is_plain = refl

pub taken : (app : App) (words : List Text) → app ≡ command_line → (is_simple_and_free app ≡ true → fault_of app words ≡ []) → AreTaken words
taken app words is fits = sym (ap (λ (a : App). fault_of a words) is) ∙ fits (ap is_simple_and_free is ∙ is_free)

pub not_taken : (app : App) (words : List Text) (error : Error) → app ≡ command_line → (is_simple_and_free app ≡ true → HasKind (fault_of app words) error) →
    (kind_of error ≡ OutOfMemory → ⊥) → ¬ AreTaken words
not_taken app words error is fails other none = elim (fails (ap is_simple_and_free is ∙ is_free)) [
  | inl memory ↦ other memory
  | inr among ↦ subst (IsAmong (kind_of error)) (ap (λ (a : App). fault_of a words) is ∙ none) among
]

-- what a parse met is what clap's definition says
pub met_is : (app : App) (words : List Text) (matches : ArgMatches) → app ≡ command_line → HasMatchesOf app words matches →
    subcommand_rows_of matches ≡ subcommand_of command_line words
met_is app words matches is has = (has (ap is_simple is ∙ is_plain)).1 ∙ ap (λ (a : App). subcommand_of a words) is
