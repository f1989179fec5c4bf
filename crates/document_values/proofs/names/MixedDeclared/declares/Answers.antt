use Rattle.std.proofs.Common.{◌∙◌, ap, is_some}
use Rattle.document_values.proofs.Declaring.{is_some-position}
use Rattle.document_values.proofs.names.MixedDeclared.declares.Goals as goal

pub returns : goal.returns
returns g c =
    c.is_some.ensures ∙ ap is_some c.find_unknown.ensures ∙ is_some-position c.args.self.now.unknowns c.args.name.now
