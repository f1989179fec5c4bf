-- The command line, subcommand by subcommand.
use Rattle.std.proofs.Common.{◌≡◌, codes, ap, ◌∙◌}
use Rattle.clap.specs.Simple.{App, with_subcommand}
use Rattle.command_line.specs.CommandLine.{bare_line, command_line, with_kind, with_kind_alone, with_size, with_studies, without_kind}

-- one after the other they make the line
pub whole_line : (bare analyse layer report plan check make edit whole : App) →
    bare ≡ bare_line → analyse ≡ with_subcommand bare (with_kind (codes "analyse")) → layer ≡ with_subcommand analyse (with_kind (codes "layer")) →
    report ≡ with_subcommand layer (with_kind (codes "report")) → plan ≡ with_subcommand report (with_kind (codes "plan")) →
    check ≡ with_subcommand plan (without_kind (codes "check")) → make ≡ with_subcommand check (with_size (codes "make")) →
    edit ≡ with_subcommand make (without_kind (codes "edit")) → whole ≡ with_studies edit → whole ≡ command_line
whole_line bare analyse layer report plan check make edit whole b a l r p c m e w =
    w ∙ ap with_studies
    (e ∙ ap (λ app. with_subcommand app (without_kind (codes "edit")))
    (m ∙ ap (λ app. with_subcommand app (with_size (codes "make")))
    (c ∙ ap (λ app. with_subcommand app (without_kind (codes "check")))
    (p ∙ ap (λ app. with_subcommand app (with_kind (codes "plan")))
    (r ∙ ap (λ app. with_subcommand app (with_kind (codes "report")))
    (l ∙ ap (λ app. with_subcommand app (with_kind (codes "layer")))
    (a ∙ ap (λ app. with_subcommand app (with_kind (codes "analyse"))) b)))))))

-- and those that study a model
pub studies_line : (start values solve repair whole : App) → values ≡ with_subcommand start (with_kind_alone (codes "values")) →
    solve ≡ with_subcommand values (with_kind_alone (codes "solve")) → repair ≡ with_subcommand solve (with_kind_alone (codes "repair")) →
    whole ≡ with_subcommand repair (with_kind_alone (codes "conflict")) → whole ≡ with_studies start
studies_line start values solve repair whole v s r w =
    w ∙ ap (λ app. with_subcommand app (with_kind_alone (codes "conflict")))
    (r ∙ ap (λ app. with_subcommand app (with_kind_alone (codes "repair")))
    (s ∙ ap (λ app. with_subcommand app (with_kind_alone (codes "solve"))) v))
