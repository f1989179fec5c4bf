use Rattle.std.proofs.Common.{add-zero, ap, length, subst, sym, ◌∙◌}
use Rattle.run_ends.specs.Notes.{Noted}
use Rattle.report_cli.specs.Notes.{note_of_words}
use Rattle.run_ends.proofs.Noting.{noted}
use Rattle.report_cli.proofs.telling.tell_words.Goals as goal

pub returns-in-Told-clause-noted : goal.returns-in-Told-clause-noted
returns-in-Told-clause-noted g c =
    subst
    (λ why. Noted (g.N.Sink.written c.args.notes.now) (g.N.Sink.written c.write_text.new.notes)
    (g.N.Sink.faults c.args.notes.now) (g.N.Sink.faults c.write_text.new.notes) (g.N.Sink.failed c.write_text.new.notes) (note_of_words why))
    (sym c.in-Told.is)
    (noted c.write_text.result c.write_text.ensures)

pub returns-in-UnknownWord-clause-noted : goal.returns-in-UnknownWord-clause-noted
returns-in-UnknownWord-clause-noted g c =
    subst
    (λ why. Noted (g.N.Sink.written c.args.notes.now) (g.N.Sink.written c.tell.new.notes)
    (g.N.Sink.faults c.args.notes.now) (g.N.Sink.faults c.tell.new.notes) (g.N.Sink.failed c.tell.new.notes) (note_of_words why))
    (sym c.in-UnknownWord.is)
    c.tell.ensures.noted

pub returns-in-NoMemory-clause-noted : goal.returns-in-NoMemory-clause-noted
returns-in-NoMemory-clause-noted g c =
    subst
    (λ why. Noted (g.N.Sink.written c.args.notes.now) (g.N.Sink.written c.tell-in-NoMemory.new.notes)
    (g.N.Sink.faults c.args.notes.now) (g.N.Sink.faults c.tell-in-NoMemory.new.notes) (g.N.Sink.failed c.tell-in-NoMemory.new.notes) (note_of_words why))
    (sym c.in-NoMemory.is)
    c.tell-in-NoMemory.ensures.noted

pub returns-in-Told-clause-calm : goal.returns-in-Told-clause-calm
returns-in-Told-clause-calm g c = λ takes.
    (c.write_text.ensures.calm 0 (subst (g.N.Sink.takes c.args.notes.now)
    (ap (λ why. length (note_of_words why)) c.in-Told.is ∙ sym (add-zero _)) takes)).0
