use Rattle.mixed_pair_laws.proofs.TableauParts.{full_rows-rank}
use Rattle.mixed_pair_laws.proofs.part_laws.full_rows_show_the_rank.Goals as goal

pub returns : goal.returns
returns c p prime L S U F tab R D X holds each_q each_t = full_rows-rank p prime L S U F tab R D X holds.0 holds.1 each_q each_t
