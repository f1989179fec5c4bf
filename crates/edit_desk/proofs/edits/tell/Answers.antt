use Rattle.edit_desk.proofs.edits.tell.Goals as goal

pub returns : goal.returns
returns g c = record {
  rank_is = c.rank-rank.ensures;
  layers = c.args.held.now.layers;
  layered = c.is_held.ensures.layers;
  parts_are = c.in_ok-parts.ensures;
}
