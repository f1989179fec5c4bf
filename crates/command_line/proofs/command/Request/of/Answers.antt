use Rattle.std.proofs.Common.{map, subst, sym}
use Rattle.std.specs.String.{string_bytes}
use Rattle.clap.specs.Simple.{app_of}
use Rattle.command_line.specs.Words.{Names}
use Rattle.command_line.proofs.Matching.{met_is, not_taken, taken}
use Rattle.command_line.proofs.command.Request.of.Goals as goal

pub returns-in-Some : goal.returns-in-Some
returns-in-Some c =
    let app = app_of c.in_ok-line.line in
    let words = map string_bytes c.args.words.now in
    let line = c.in_ok-line.ensures in (
      taken app words line c.in-Ok.ensures.kinds,
      subst (λ met. Names met c.in-Some.request) (met_is app words c.in-Ok.matches line c.in-Ok.ensures.matches) c.in-Some.ensures,
    )

pub returns-in-Ok : goal.returns-in-Ok
returns-in-Ok c =
    let app = app_of c.in_ok-line.line in
    let words = map string_bytes c.args.words.now in
    let line = c.in_ok-line.ensures in (
      taken app words line c.in-Ok.ensures.kinds,
      λ request asks. c.in-None.ensures request (subst (λ met. Names met request) (sym (met_is app words c.in-Ok.matches line c.in-Ok.ensures.matches)) asks.1),
    )

pub returns : goal.returns
returns c = not_taken (app_of c.in_ok-line.line) (map string_bytes c.args.words.now) c.in-Err.error c.in_ok-line.ensures
    c.in-Err.ensures.kinds c.in_ok-told-in-Err.ensures
