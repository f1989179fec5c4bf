use Rattle.std.proofs.Common.{◌≡◌, ℕ, ◌≤◌, ◌+◌, ◌++◌, List, length, ap, refl, sym, subst, ◌∙◌}
use Rattle.limits.specs.Limits.{input_limit}
use Rattle.input_kinds.specs.Refusals.{IsRefusedAs}
use Rattle.run_ends.specs.Reading.{IsUnread}
use Rattle.run_ends.specs.Statuses.{status_of_error}
use Rattle.run_ends.specs.declared.status.Status.TheVariants.{Memory}
use Rattle.input_kinds.proofs.Pumped.{pumped_more, unended, unended-result, unread_by_error, unread_for_memory}
use Rattle.run_ends.proofs.Unread.{answered, with_status}
use Rattle.input_kinds.proofs.reading.feed_all.Goals as goal

pub returns-in_err-next-clause-unread : goal.returns-in_err-next-clause-unread
returns-in_err-next-clause-unread g c =
    let next = c.next.ensures in
    let why = c.in_err-next.field-0.0 in
    with_status
    (λ status. IsUnread input_limit (IsRefusedAs g.F.Field.modulus g.R.ModelReader.KIND) status (g.S.Source.left c.args.source.now)
    (g.S.Source.left c.next.new.source))
    c.from_residual.result
    (status_of_error input_limit why)
    c.from_residual.ensures.0
    c.from_residual.ensures.1
    (unread_by_error g.S.Source c.args.source.now c.loop-reader.source c.next.new.source c.loop-reader.pump c.next.new.self
    (g.R.ModelReader.is_fed c.loop-reader.reader) c.loop-reader.invariant g.F.Field.modulus g.R.ModelReader.KIND c.next.result why
    c.in_err-next.was next.too_long.0 next.too_many next.untaken next.memory)

pub returns-in_err-reader-clause-unread : goal.returns-in_err-reader-clause-unread
returns-in_err-reader-clause-unread g c =
    let next = c.in_ok-next.ensures in
    with_status
    (λ status. IsUnread input_limit (IsRefusedAs g.F.Field.modulus g.R.ModelReader.KIND) status (g.S.Source.left c.args.source.now)
    (g.S.Source.left c.next.new.source))
    c.from_residual-in_err-reader.result
    Memory
    c.from_residual-in_err-reader.ensures.0
    c.from_residual-in_err-reader.ensures.1
    (unread_for_memory g.S.Source c.args.source.now c.loop-reader.source c.next.new.source c.loop-reader.pump c.next.new.self
    (g.R.ModelReader.is_fed c.loop-reader.reader) c.loop-reader.invariant next.taken
    (next.counted ∙ ap (λ count. c.loop-reader.pump.taken + count) (sym next.piece)) next.within g.F.Field.modulus g.R.ModelReader.KIND)

pub loop-reader-preserved : goal.loop-reader-preserved
loop-reader-preserved g c =
    let next = c.in_ok-next.ensures in
    let piece : List ℕ = c.next.new.self.piece in
    let counted : c.next.new.self.taken ≡ c.loop-reader.pump.taken + length piece =
    next.counted ∙ ap (λ count. c.loop-reader.pump.taken + count) (sym next.piece) in
    let told : (g.S.Source.asked c.next.new.source).taken ≤ (g.S.Source.asked c.loop-reader.source).taken + length piece =
    subst (λ count. (g.S.Source.asked c.next.new.source).taken ≤ (g.S.Source.asked c.loop-reader.source).taken + count) (sym next.piece) next.told in
    pumped_more g.S.Source c.args.source.now c.loop-reader.source c.next.new.source c.loop-reader.pump c.next.new.self
    (g.R.ModelReader.is_fed c.loop-reader.reader) c.loop-reader.invariant next.taken counted next.within
    (g.R.ModelReader.is_fed c.in_ok-reader.reader)
    (λ short. subst (λ text. g.R.ModelReader.is_fed c.in_ok-reader.reader (c.loop-reader.invariant.text ++ text)) c.piece.ensures
    (c.in_ok-reader.ensures c.loop-reader.invariant.text c.loop-reader.invariant.holds
    (subst (λ text. length (c.loop-reader.invariant.text ++ text) ≤ input_limit) (sym c.piece.ensures) short)))
    next.same_limit
    (unended c.next.new.self.ended c.in_ok-next.field-0 next.end.0 c.if-branch-gt0.true)
    (next.no_fault (answered refl))
    (λ h. (next.steady h).0)
    next.asked
    (next.unmet (unended-result refl c.if-branch-gt0.true))
    told
