use Rattle.residue_theory.specs.Sets.{everything}
use Rattle.mixed_matrices.specs.Removals.{mixed_part}
use Rattle.mixed_layering_laws.proofs.LayeringRank.{law-layering, layering-law}
use Rattle.equation_matroid_laws.proofs.EmptiedLayers.{emptied-layering}
use Rattle.equation_matroid_laws.specs.EquationRanks.{emptied_layers}
use Rattle.equation_matroid_laws.proofs.matroid_laws.emptied_layers_show_the_rank.Goals as goal

pub returns : goal.returns
returns c p prime big M A D L O lay X r = (
  layering-law p prime (mixed_part X everything M) A D (emptied_layers M O X L) O (emptied-layering M A D L O lay X) big r,
  law-layering p prime (mixed_part X everything M) A D (emptied_layers M O X L) O (emptied-layering M A D L O lay X) big r,
)
