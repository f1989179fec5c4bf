use Rattle.std.proofs.Common.{ℕ, ◌+◌, inl, inr, map, refl, subst, sym}
use Rattle.std.specs.String.{string_bytes}
use Rattle.port_io.specs.Asking.{AsksWithin}
use Rattle.command_line.specs.Words.{Asks, format_of}
use Rattle.command_line.proofs.Asking.{not-both}
use Rattle.port_io.specs.Causes.{FailedLast}
use Rattle.run_ends.specs.Answers.{Answered, OnlyAnswer}
use Rattle.run_ends.specs.Ways.{TakesBy, TellsAnswer}
use Rattle.report_cli.specs.Answer.{IsAnswer, IsOutputText}
use Rattle.report_cli.specs.Makes.{IsMakeEnd}
use Rattle.residue_field.specs.Modulus.{modulus_of}
use Rattle.report_cli.specs.Fields.{command_modulus}
use Rattle.report_cli.specs.Formats.{IsFault, limit_of}
use Rattle.report_cli.specs.MadeFor.{IsMakeText}
use Rattle.run_ends.specs.declared.status.Status.TheVariants.{Done}
use Rattle.port_io.proofs.Faults.{rose}
use Rattle.report_cli.proofs.Making.{asked-size, make-answered, make-cut, make-only}
use Rattle.report_cli.proofs.RunWords.{complete_for, cut-for, of_each_asked, only_for, unasked-only, unasked_answered, untaken, written-for}
use Rattle.report_cli.proofs.Runs.{one-answer-status, told_where_kept}
use Rattle.run_ends.proofs.Wholes.{only, told}
use Rattle.report_cli.proofs.running.run.Goals as goal

-- a command on an input
pub returns-in-Ok-OfInput-clause-only_answer : goal.returns-in-Ok-OfInput-clause-only_answer
returns-in-Ok-OfInput-clause-only_answer g c = λ quiet calm.
    let asked = subst (Asks (map string_bytes c.args.words.now)) c.in-Ok-OfInput.field-0-is c.in-Ok-OfInput.ensures in
    let command = c.in-Ok-OfInput.command in
    only_for (map string_bytes c.args.words.now) command (g.S.Source.left c.args.source.now) c.work-status.result asked
    (λ input answer text is given. only (limit_of (format_of command)) (IsFault (command_modulus command) (format_of command))
    (IsOutputText {T = ℕ} (λ value. value) (command_modulus command) command) (g.S.Source.left c.args.source.now)
    (g.S.Source.left c.work-status.new.source) (g.K.Sink.written c.args.out.now) (g.K.Sink.written c.work-status.new.out) input is
    (one-answer-status command input) c.work-status.result c.work-status.ensures.answered c.work-status.ensures.ended
    (λ e. quiet (rose (c.work-status.ensures.read_fault e))) (λ e. calm (rose (c.work-status.ensures.write_fault e).0)) answer text given)

pub returns-in-Ok-OfInput-clause-complete : goal.returns-in-Ok-OfInput-clause-complete
returns-in-Ok-OfInput-clause-complete g c = λ quiet calm.
    let asked = subst (Asks (map string_bytes c.args.words.now)) c.in-Ok-OfInput.field-0-is c.in-Ok-OfInput.ensures in
    let command = c.in-Ok-OfInput.command in
    complete_for (map string_bytes c.args.words.now) command (g.S.Source.left c.args.source.now) c.work-status.result asked
    (λ input is short keeps. told_where_kept command input short keeps c.work-status.result
    (told (limit_of (format_of command)) (IsFault (command_modulus command) (format_of command))
    (IsOutputText {T = ℕ} (λ value. value) (command_modulus command) command) (g.S.Source.left c.args.source.now)
    (g.S.Source.left c.work-status.new.source) (g.K.Sink.written c.args.out.now) (g.K.Sink.written c.work-status.new.out) input is
    c.work-status.result c.work-status.ensures.answered c.work-status.ensures.ended
    (λ e. quiet (rose (c.work-status.ensures.read_fault e))) (λ e. calm (rose (c.work-status.ensures.write_fault e).0))))

pub returns-in-Ok-OfInput-clause-complete_make : goal.returns-in-Ok-OfInput-clause-complete_make
returns-in-Ok-OfInput-clause-complete_make g c = λ calm n field makes.
    let asked = subst (Asks (map string_bytes c.args.words.now)) c.in-Ok-OfInput.field-0-is c.in-Ok-OfInput.ensures in
    not-both (map string_bytes c.args.words.now) c.in-Ok-OfInput.command n field asked makes

pub returns-in-Ok-OfInput-clause-write_fault : goal.returns-in-Ok-OfInput-clause-write_fault
returns-in-Ok-OfInput-clause-write_fault g c = λ failed.
    let asked = subst (Asks (map string_bytes c.args.words.now)) c.in-Ok-OfInput.field-0-is c.in-Ok-OfInput.ensures in
    let cut = c.work-status.ensures.write_fault failed in (
      cut.0,
      cut-for (map string_bytes c.args.words.now) c.in-Ok-OfInput.command (g.S.Source.left c.args.source.now)
          (g.S.Source.left c.work-status.new.source) (g.K.Sink.written c.args.out.now) (g.K.Sink.written c.work-status.new.out)
          asked cut.1,
    )

pub returns-in-Ok-OfInput-clause-taken : goal.returns-in-Ok-OfInput-clause-taken
returns-in-Ok-OfInput-clause-taken g c =
    let asked = subst (Asks (map string_bytes c.args.words.now)) c.in-Ok-OfInput.field-0-is c.in-Ok-OfInput.ensures in
    of_each_asked (λ command. TakesBy (limit_of (format_of command)) c.work-status.result (g.S.Source.left c.args.source.now)
    (g.S.Source.left c.work-status.new.source))
    (map string_bytes c.args.words.now) c.in-Ok-OfInput.command asked c.work-status.ensures.taken

pub returns-in-Ok-OfInput-clause-asked : goal.returns-in-Ok-OfInput-clause-asked
returns-in-Ok-OfInput-clause-asked g c =
    let asked = subst (Asks (map string_bytes c.args.words.now)) c.in-Ok-OfInput.field-0-is c.in-Ok-OfInput.ensures in
    of_each_asked (λ command. AsksWithin 65536 (limit_of (format_of command) + 1) (g.S.Source.asked c.args.source.now)
    (g.S.Source.asked c.work-status.new.source))
    (map string_bytes c.args.words.now) c.in-Ok-OfInput.command asked c.work-status.ensures.asked

pub returns-in-Ok-OfInput-clause-untouched : goal.returns-in-Ok-OfInput-clause-untouched
returns-in-Ok-OfInput-clause-untouched g c = λ none.
    let asked = subst (Asks (map string_bytes c.args.words.now)) c.in-Ok-OfInput.field-0-is c.in-Ok-OfInput.ensures in
    absurd (none c.in-Ok-OfInput.command asked)

pub returns-in-Ok-OfInput-clause-calm_out : goal.returns-in-Ok-OfInput-clause-calm_out
returns-in-Ok-OfInput-clause-calm_out g c = λ input is fit.
    let words = map string_bytes c.args.words.now in
    let asked = subst (Asks words) c.in-Ok-OfInput.field-0-is c.in-Ok-OfInput.ensures in
    c.work-status.ensures.calm_out input is (λ status text has answer.
    fit status text has (written-for words c.in-Ok-OfInput.command input status text asked has answer))

pub returns-in-Ok-OfInput-clause-calm_make : goal.returns-in-Ok-OfInput-clause-calm_make
returns-in-Ok-OfInput-clause-calm_make g c = λ n field makes takes.
    let asked = subst (Asks (map string_bytes c.args.words.now)) c.in-Ok-OfInput.field-0-is c.in-Ok-OfInput.ensures in
    not-both (map string_bytes c.args.words.now) c.in-Ok-OfInput.command n field asked makes

-- a made model
pub returns-in-Ok-Make-clause-answered : goal.returns-in-Ok-Make-clause-answered
returns-in-Ok-Make-clause-answered g c =
    let asked = subst (Asks (map string_bytes c.args.words.now)) c.in-Ok-Make.field-0-is c.in-Ok-Make.ensures in
    let size = c.in-Ok-Make.size in
    let ends = subst (λ field. IsMakeEnd (modulus_of field) size c.make-status.result c.args.out.now c.make-status.new.out
    (g.K.Sink.written c.args.out.now) (g.K.Sink.written c.make-status.new.out)
    (FailedLast (g.K.Sink.faults c.args.out.now) (g.K.Sink.faults c.make-status.new.out) (g.K.Sink.failed c.make-status.new.out)))
    c.over.ensures c.make-status.ensures.ends in
    make-answered (map string_bytes c.args.words.now) size c.in-Ok-Make.named asked c.args.out.now c.make-status.new.out (g.S.Source.left c.args.source.now)
    (g.K.Sink.written c.args.out.now) (g.K.Sink.written c.make-status.new.out) _ c.make-status.result ends

pub returns-in-Ok-Make-clause-ended : goal.returns-in-Ok-Make-clause-ended
returns-in-Ok-Make-clause-ended g c = λ command asks.
    let asked = subst (Asks (map string_bytes c.args.words.now)) c.in-Ok-Make.field-0-is c.in-Ok-Make.ensures in
    not-both (map string_bytes c.args.words.now) command c.in-Ok-Make.size c.in-Ok-Make.named asks asked

pub returns-in-Ok-Make-clause-only_answer : goal.returns-in-Ok-Make-clause-only_answer
returns-in-Ok-Make-clause-only_answer g c = λ quiet calm.
    let asked = subst (Asks (map string_bytes c.args.words.now)) c.in-Ok-Make.field-0-is c.in-Ok-Make.ensures in
    let size = c.in-Ok-Make.size in
    let ends = subst (λ field. IsMakeEnd (modulus_of field) size c.make-status.result c.args.out.now c.make-status.new.out
    (g.K.Sink.written c.args.out.now) (g.K.Sink.written c.make-status.new.out)
    (FailedLast (g.K.Sink.faults c.args.out.now) (g.K.Sink.faults c.make-status.new.out) (g.K.Sink.failed c.make-status.new.out)))
    c.over.ensures c.make-status.ensures.ends in
    make-only (map string_bytes c.args.words.now) size c.in-Ok-Make.named asked c.args.out.now c.make-status.new.out (g.S.Source.left c.args.source.now)
    (g.K.Sink.written c.args.out.now) (g.K.Sink.written c.make-status.new.out) _ c.make-status.result ends (λ failed. calm (rose failed))

pub returns-in-Ok-Make-clause-write_fault : goal.returns-in-Ok-Make-clause-write_fault
returns-in-Ok-Make-clause-write_fault g c = λ failed.
    let asked = subst (Asks (map string_bytes c.args.words.now)) c.in-Ok-Make.field-0-is c.in-Ok-Make.ensures in
    let size = c.in-Ok-Make.size in
    let ends = subst (λ field. IsMakeEnd (modulus_of field) size c.make-status.result c.args.out.now c.make-status.new.out
    (g.K.Sink.written c.args.out.now) (g.K.Sink.written c.make-status.new.out)
    (FailedLast (g.K.Sink.faults c.args.out.now) (g.K.Sink.faults c.make-status.new.out) (g.K.Sink.failed c.make-status.new.out)))
    c.over.ensures c.make-status.ensures.ends in
    make-cut (map string_bytes c.args.words.now) size c.in-Ok-Make.named asked c.args.out.now c.make-status.new.out (g.S.Source.left c.args.source.now)
    (g.K.Sink.written c.args.out.now) (g.K.Sink.written c.make-status.new.out) _ c.make-status.result ends failed

pub returns-in-Ok-Make-clause-taken : goal.returns-in-Ok-Make-clause-taken
returns-in-Ok-Make-clause-taken g c = λ command asks.
    let asked = subst (Asks (map string_bytes c.args.words.now)) c.in-Ok-Make.field-0-is c.in-Ok-Make.ensures in
    not-both (map string_bytes c.args.words.now) command c.in-Ok-Make.size c.in-Ok-Make.named asks asked

-- the size that the words name is one
pub make-status-requires : goal.make-status-requires
make-status-requires g c =
    asked-size (map string_bytes c.args.words.now) c.in-Ok-Make.size c.in-Ok-Make.named
    (subst (Asks (map string_bytes c.args.words.now)) c.in-Ok-Make.field-0-is c.in-Ok-Make.ensures)

pub returns-in-Ok-Make-clause-calm_out : goal.returns-in-Ok-Make-clause-calm_out
returns-in-Ok-Make-clause-calm_out g c = λ input is fit.
    let asked = subst (Asks (map string_bytes c.args.words.now)) c.in-Ok-Make.field-0-is c.in-Ok-Make.ensures in
    c.make-status.ensures.calm_out (λ text told. fit Done text (inl refl)
    (inr (c.in-Ok-Make.size, c.in-Ok-Make.named, asked, subst (λ field. IsMakeText (modulus_of field) c.in-Ok-Make.size text) c.over.ensures told)))

pub returns-in-Ok-Make-clause-calm_make : goal.returns-in-Ok-Make-clause-calm_make
returns-in-Ok-Make-clause-calm_make g c = λ n field makes fit.
    let asked = subst (Asks (map string_bytes c.args.words.now)) c.in-Ok-Make.field-0-is c.in-Ok-Make.ensures in
    c.make-status.ensures.calm_out (λ text told. fit text
    (c.in-Ok-Make.size, c.in-Ok-Make.named, asked, subst (λ field. IsMakeText (modulus_of field) c.in-Ok-Make.size text) c.over.ensures told))

-- words that ask for nothing
pub returns-in-Err-clause-taken : goal.returns-in-Err-clause-taken
returns-in-Err-clause-taken g c = λ command asks.
    let left = g.S.Source.left c.args.source.now in
    subst (λ status. TakesBy (limit_of (format_of command)) status left left) (sym c.status_of.ensures)
    (untaken c.in-Err.why (limit_of (format_of command)) left)

pub returns-in-Err-clause-answered : goal.returns-in-Err-clause-answered
returns-in-Err-clause-answered g c =
    let words = map string_bytes c.args.words.now in
    let left = g.S.Source.left c.args.source.now in
    let written = g.K.Sink.written c.args.out.now in
    subst (λ status. TellsAnswer status (Answered (IsAnswer words) left left written written status)) (sym c.status_of.ensures)
    (unasked_answered words c.in-Err.why left written c.in-Err.ensures)

pub returns-in-Err-clause-only_answer : goal.returns-in-Err-clause-only_answer
returns-in-Err-clause-only_answer g c = λ quiet calm.
    let words = map string_bytes c.args.words.now in
    let left = g.S.Source.left c.args.source.now in
    subst (OnlyAnswer (IsAnswer words) left) (sym c.status_of.ensures) (unasked-only words c.in-Err.why left c.in-Err.ensures)
