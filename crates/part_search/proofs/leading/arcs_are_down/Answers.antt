use Rattle.std.proofs.Common.{refl}
use Rattle.part_search.proofs.LeadLaws.{down-told, told-down}
use Rattle.part_search.proofs.leading.arcs_are_down.Goals as goal

pub returns : goal.returns
returns c lower chains = (
  λ t. told-down c.args.arcs.now c.args.starts.now c.args.ends.now c.args.parts.now c.args.last c.args.below.now.rows
      lower c.requires.last c.requires.arcs (c.if-not-have_part.ensures.0 refl) (c.if-not-have_part-2.ensures.0 refl)
      ((c.may_all_lead.ensures lower chains).0 t),
  λ D. (c.may_all_lead.ensures lower chains).1
      (down-told c.args.arcs.now c.args.starts.now c.args.ends.now c.args.parts.now c.args.last c.args.below.now.rows
      lower c.requires.last c.requires.arcs D).2,
)
