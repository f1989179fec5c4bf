use Rattle.std.proofs.Common.{map, not, ap, ◌∙◌}
use Rattle.std.specs.String.{string_bytes}
use Rattle.mixed_model.proofs.NameLaws.{text_is_there, map-insert_key}
use Rattle.mixed_model.proofs.names.push_text.Goals as goal

pub returns-clause-new : goal.returns-clause-new
returns-clause-new c =
    c.in_ok-new.ensures.added ∙ ap not (text_is_there c.args.texts.now.keys c.in_ok-text.text c.args.text.now c.in_ok-text.ensures.ok)

pub returns-clause-seen : goal.returns-clause-seen
returns-clause-seen c =
    ap (map string_bytes) c.in_ok-new.ensures.keys
    ∙ map-insert_key c.args.texts.now.keys c.in_ok-text.text c.args.text.now c.in_ok-text.ensures.ok
