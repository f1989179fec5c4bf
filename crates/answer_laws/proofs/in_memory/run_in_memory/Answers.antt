use Rattle.std.proofs.Common.{map, refl}
use Rattle.std.specs.String.{string_bytes}
use Rattle.port_io.proofs.Faults.{rose}
use Rattle.answer_laws.proofs.InMemory.{in-memory, room-taken, unrisen}
use Rattle.answer_laws.proofs.in_memory.run_in_memory.Goals as goal

pub returns-clause-answers : goal.returns-clause-answers
returns-clause-answers g c =
    let words = map string_bytes c.args.words.now in
    let source = c.args.source.now in
    let out = c.args.out.now in
    let ensures = c.run.ensures in
    in-memory words source c.run.new.source out c.run.new.out c.run.result ensures.answered ensures.ended
    (λ e. unrisen source.faults c.run.new.source.faults c.requires.source_count (ensures.calm_source c.requires.source_fails) (rose (ensures.read_fault e)))
    (λ e. unrisen out.faults c.run.new.out.faults c.requires.out_count
    (ensures.calm_out source.left refl (room-taken out words source.left c.requires.out_fails c.requires.room)) (rose (ensures.write_fault e).0))

pub returns-clause-out : goal.returns-clause-out
returns-clause-out g c =
    let source = c.args.source.now in
    let out = c.args.out.now in
    c.run.ensures.calm_out source.left refl
    (room-taken out (map string_bytes c.args.words.now) source.left c.requires.out_fails c.requires.room)

pub returns-clause-only_answer : goal.returns-clause-only_answer
returns-clause-only_answer g c =
    let source = c.args.source.now in
    let out = c.args.out.now in
    let ensures = c.run.ensures in
    ensures.only_answer
    (λ e. unrisen source.faults c.run.new.source.faults c.requires.source_count (ensures.calm_source c.requires.source_fails) e)
    (λ e. unrisen out.faults c.run.new.out.faults c.requires.out_count
    (ensures.calm_out source.left refl (room-taken out (map string_bytes c.args.words.now) source.left c.requires.out_fails c.requires.room)) e)

pub returns-clause-complete : goal.returns-clause-complete
returns-clause-complete g c =
    let source = c.args.source.now in
    let out = c.args.out.now in
    let ensures = c.run.ensures in
    ensures.complete
    (λ e. unrisen source.faults c.run.new.source.faults c.requires.source_count (ensures.calm_source c.requires.source_fails) e)
    (λ e. unrisen out.faults c.run.new.out.faults c.requires.out_count
    (ensures.calm_out source.left refl (room-taken out (map string_bytes c.args.words.now) source.left c.requires.out_fails c.requires.room)) e)

pub returns-clause-complete_make : goal.returns-clause-complete_make
returns-clause-complete_make g c =
    let source = c.args.source.now in
    let out = c.args.out.now in
    let ensures = c.run.ensures in
    ensures.complete_make
    (λ e. unrisen out.faults c.run.new.out.faults c.requires.out_count
    (ensures.calm_out source.left refl (room-taken out (map string_bytes c.args.words.now) source.left c.requires.out_fails c.requires.room)) e)
