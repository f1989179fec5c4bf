-- The command line `mixed SUBCOMMAND KIND [FIELD]`, `mixed STUDY KIND`, `mixed check`, `mixed edit` or
-- `mixed make N [FIELD]`, as clap reads it.
use Rattle.std.specs.Prelude.{[], ◌∷◌, true, false, codes, Some}
use Rattle.clap.specs.Simple.{App, Shape, new_rule, new_shape, with_subcommand}
use Rattle.clap.specs.Walk.{Rule, Text}
use Rattle.clap.specs.declared.builder.value_parser.ValueParser.TheVariants.{Unsigned}
use Rattle.made_models.specs.MadeModels.{size_limit}

-- the kind of an input, which is required; each word is one to clap
abbrev pub kind_argument : Rule
kind_argument = record (new_rule (codes "KIND")) { required = true }

-- the field, which need not be there; each word is one to clap
abbrev pub field_argument : Rule
field_argument = new_rule (codes "FIELD")

-- a subcommand of this name, with these arguments
abbrev pub with_kind : Text → Shape
with_kind name = record (new_shape name) { rules = kind_argument ∷ field_argument ∷ [] }

-- a subcommand of this name, with the kind alone
abbrev pub with_kind_alone : Text → Shape
with_kind_alone name = record (new_shape name) { rules = kind_argument ∷ [] }

-- the size of a made model, which is required, and a number from 1 to the greatest size
abbrev pub size_argument : Rule
size_argument = record (new_rule (codes "N")) {
  required = true;
  parser = Some (Unsigned 1 size_limit);
}

-- a subcommand of this name, with a size and the field
abbrev pub with_size : Text → Shape
with_size name = record (new_shape name) { rules = size_argument ∷ field_argument ∷ [] }

-- a subcommand of this name, without an argument
abbrev pub without_kind : Text → Shape
without_kind name = new_shape name

-- the command `mixed` before it has a subcommand: one is required, and where there is no word at all help is given
abbrev pub bare_line : App
bare_line = record {
  top = record (new_shape (codes "mixed")) {
    subcommand_required = true;
    arg_required_else_help = true;
  };
  subs = [];
}

-- a command with the subcommands that study a model
abbrev pub with_studies : App → App
with_studies app = with_subcommand (with_subcommand (with_subcommand (with_subcommand app
    (with_kind_alone (codes "values"))) (with_kind_alone (codes "solve"))) (with_kind_alone (codes "repair")))
    (with_kind_alone (codes "conflict"))

-- the command `mixed`
abbrev pub command_line : App
command_line = record {
  top = record bare_line.top { is_leaf = false };
  subs = with_kind (codes "analyse") ∷ with_kind (codes "layer") ∷ with_kind (codes "report") ∷ with_kind (codes "plan")
      ∷ without_kind (codes "check") ∷ with_size (codes "make") ∷ without_kind (codes "edit")
      ∷ with_kind_alone (codes "values") ∷ with_kind_alone (codes "solve") ∷ with_kind_alone (codes "repair")
      ∷ with_kind_alone (codes "conflict") ∷ [];
}
