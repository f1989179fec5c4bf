use Rattle.input_kinds.specs.Refusals.{IsRefusedAs}
use Rattle.run_ends.specs.Reading.{IsUnread}
use Rattle.limits.specs.Limits.{input_limit}
use Rattle.run_ends.specs.Statuses.{status_of_refusal}
use Rattle.run_ends.proofs.Unread.{tells_still, with_status}
use Rattle.input_kinds.proofs.Unread.{unread_by_refusal}
use Rattle.input_kinds.proofs.reading.read_pieces.Goals as goal

pub returns-in_err-model-clause-unread : goal.returns-in_err-model-clause-unread
returns-in_err-model-clause-unread g c =
    let left = g.S.Source.left c.args.source.now in
    let left' = g.S.Source.left c.feed_all.new.source in
    let why = c.in_err-model.field-0.0 in
    let whole = c.in_ok-reader-2.ensures.read in
    with_status
    (λ status. IsUnread input_limit (IsRefusedAs g.F.Field.modulus g.R.ModelReader.KIND) status left left')
    c.from_residual-in_err-model.result
    (status_of_refusal why)
    c.from_residual-in_err-model.ensures.0
    c.from_residual-in_err-model.ensures.1
    (unread_by_refusal g.F.Field.modulus g.R.ModelReader.KIND left left' (g.R.ModelReader.is_fed c.in_ok-reader-2.reader) whole why
    (c.in_err-model.ensures.refused whole.input whole.holds))

pub returns-clause-source : goal.returns-clause-source
returns-clause-source g c =
    tells_still g.S.Source input_limit c.args.source.now c.feed_all.new.source c.in_ok-reader-2.reader
    c.in_ok-model.field-0 c.in_ok-reader-2.ensures.source
