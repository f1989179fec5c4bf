use Rattle.std.proofs.Common.{sym, ◌∙◌}
use Rattle.document_values.proofs.Data.{is_among-first, is_among-others}
use Rattle.document_values.proofs.values.is_among.Goals as goal

pub returns-then-is_one : goal.returns-then-is_one
returns-then-is_one c =
    c.if-is_one.true
    ∙ is_among-first c.args.words.now c.args.others.now c.args.word.now (sym c.is_one.ensures ∙ c.if-is_one.true)

pub returns-else-is_one : goal.returns-else-is_one
returns-else-is_one c =
    c.is_one-else-is_one.ensures
    ∙ is_among-others c.args.words.now c.args.others.now c.args.word.now (sym c.is_one.ensures ∙ c.if-is_one.false)
