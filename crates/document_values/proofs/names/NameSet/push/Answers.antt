use Rattle.std.proofs.Common.{map, ap, ◌∙◌, ◌++◌, ◌∷◌, []}
use Rattle.std.specs.String.{string_bytes}
use Rattle.mixed_model.specs.Names.{has_name}
use Rattle.mixed_model.proofs.NameLaws.{map-insert_key, see-new}
use Rattle.document_values.proofs.names.NameSet.push.Goals as goal

pub returns-clause-pushed : goal.returns-clause-pushed
returns-clause-pushed c =
    let new = ap (λ names. has_name names c.args.name.now) c.self.view_is ∙ c.requires in
    ap (map string_bytes) c.in_ok-insert.ensures.keys
    ∙ map-insert_key c.self.inside.texts.keys c.in_ok-name.name c.args.name.now c.in_ok-name.ensures.ok
    ∙ see-new (map string_bytes c.self.inside.texts.keys) c.args.name.now new
    ∙ ap (λ names. names ++ c.args.name.now ∷ []) c.self.view_is
