use Rattle.std.proofs.Common.{◌++◌, ◌∙◌}
use Rattle.document_values.specs.Words.{texts}
use Rattle.document_values.proofs.Data.{has_only-keys}
use Rattle.document_values.proofs.values.has_only.Goals as goal

pub returns : goal.returns
returns c =
    c.keys_are_among.ensures
    ∙ has_only-keys (texts c.args.words.now ++ texts c.args.others.now) c.args.table.now.entries
