use Rattle.std.proofs.Common.{◌+◌, add-zero, arith, length, refl, subst, sym, ap, inl, inr, ◌∙◌}
use Rattle.run_ends.specs.Notes.{Noted, note_of, line_of}
use Rattle.run_ends.proofs.Noting.{note_is, noted, quiet, unnoted}
use Rattle.run_ends.proofs.telling.tell.Goals as goal

pub returns-in-NotRegular : goal.returns-in-NotRegular
returns-in-NotRegular g c =
    let written = g.N.Sink.written c.args.notes.now in
    let faults = g.N.Sink.faults c.args.notes.now in
    let failed = g.N.Sink.failed c.args.notes.now in
    record {
      noted = subst (Noted written written faults faults failed) (sym (unnoted c.args.status c.in-NotRegular.is)) (quiet written faults failed);
      counts = omega arith;
      quiet = λ _. refl;
      calm = λ _. refl;
    }

pub returns-in_default : goal.returns-in_default
returns-in_default g c =
    let is = note_is c.args.status c.in_default.not-Done c.in_default.not-NotRegular in
    record {
      noted = subst (Noted (g.N.Sink.written c.args.notes.now) (g.N.Sink.written c.write_line.new.notes) (g.N.Sink.faults c.args.notes.now)
          (g.N.Sink.faults c.write_line.new.notes) (g.N.Sink.failed c.write_line.new.notes)) is (noted c.write_line.result c.write_line.ensures);
      counts = c.write_line.ensures.cause.later;
      quiet = λ has. elim has [
        | inl done ↦ absurd (c.in_default.not-Done done)
        | inr other ↦ absurd (c.in_default.not-NotRegular other)
      ];
      calm = λ takes. (c.write_line.ensures.calm 0 (subst (g.N.Sink.takes c.args.notes.now)
          (ap (λ note. length note) (sym is) ∙ sym (add-zero (length (line_of c.args.status)))) takes)).0;
    }
