use Rattle.std.proofs.Common.{◌<◌, length, subst, sym}
use Rattle.mixed_model.specs.Models.{MixedModel}
use Rattle.model_edits.proofs.SeenLaws.{seen_below}
use Rattle.model_edits.proofs.setting.set_item.Goals as goal

pub set_place-requires-clause-unknown : goal.set_place-requires-clause-unknown
set_place-requires-clause-unknown g c =
    subst (λ (m : MixedModel). c.in_ok-j.j < length m.unknowns) (sym c.in_ok-j.ensures.seen)
    (seen_below c.args.model.now.unknowns c.args.unknown.now c.in_ok-j.j c.in_ok-j.ensures.answer)
