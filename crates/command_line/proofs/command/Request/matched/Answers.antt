use Rattle.std.proofs.Common.{◌≡◌, Some, MatchOption, codes, subst, sym, ◌∙◌}
use Rattle.clap.specs.Matches.{found_of}
use Rattle.clap.specs.Simple.{subcommand_rows_of}
use Rattle.clap.specs.Walk.{rows_of}
use Rattle.clap.proofs.WalkLemmas.{first_value-rows}
use Rattle.command_line.specs.Words.{Names, NamesNone, text_at}
use Rattle.command_line.proofs.Matching.{input_names, make_names, met_by}
use Rattle.command_line.proofs.command.Request.matched.Goals as goal

pub returns-in-make : goal.returns-in-make
returns-in-make c =
    let name = c.in_ok-name.name.now in
    let rows = rows_of (found_of c.in_ok-name.values.now) in
    let met : subcommand_rows_of c.args.matches.now ≡ Some (name, rows) = met_by _ _ _ name rows c.in_ok-name.ensures.name c.in_ok-name.ensures.rows in
    let named : subcommand_rows_of c.args.matches.now ≡ Some (codes "make", rows) =
    subst (λ n. subcommand_rows_of c.args.matches.now ≡ Some (n, rows)) c.in-make.is met in
    let there = c.get_str.ensures ∙ first_value-rows (found_of c.in_ok-name.values.now) _ in
    let over = c.get_str-field.ensures ∙ first_value-rows (found_of c.in_ok-name.values.now) _ in
    subst (λ met. MatchOption c.make.result (NamesNone met) (Names met)) (sym named)
    (make_names (text_at c.get_str.result) (text_at c.get_str-field.result) rows c.make.result there over c.make.ensures)

pub returns-in_default : goal.returns-in_default
returns-in_default c =
    let name = c.in_ok-name.name.now in
    let rows = rows_of (found_of c.in_ok-name.values.now) in
    let met : subcommand_rows_of c.args.matches.now ≡ Some (name, rows) = met_by _ _ _ name rows c.in_ok-name.ensures.name c.in_ok-name.ensures.rows in
    let there = c.get_str-in_default.ensures ∙ first_value-rows (found_of c.in_ok-name.values.now) _ in
    let over = c.get_str-field.ensures ∙ first_value-rows (found_of c.in_ok-name.values.now) _ in
    subst (λ met. MatchOption c.on_input.result (NamesNone met) (Names met)) (sym met)
    (input_names name (text_at c.get_str-in_default.result) (text_at c.get_str-field.result) rows c.on_input.result c.in_default.not-make there over
    c.on_input.ensures)
