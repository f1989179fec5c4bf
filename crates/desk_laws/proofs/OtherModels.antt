-- The commands of other models do not change a reply.
use Rattle.std.proofs.Common.{◌∙◌, ap}
use Rattle.edit_desk.specs.Desks.{empty_models, model_at}
use Rattle.edit_desk.specs.Dialogues.{turns_of}
use Rattle.desk_laws.specs.Laws.{OtherModelsDoNotMatter}
use Rattle.desk_laws.proofs.OneDialogue.{turns-one}
use Rattle.desk_laws.proofs.OwnTurns.{own-commands}

pub other-models : OtherModelsDoNotMatter
other-models p count k turns alone models own prime few dialogue apart lines =
    let at = own-commands p count k turns models few dialogue in
    let one = turns-one p prime (turns_of count k turns) alone (empty_models count) at.0 own lines at.1 apart in
    (one.0, ap (λ list. model_at list k) one.1 ∙ at.2)
