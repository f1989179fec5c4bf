use Rattle.mixed_layering_laws.proofs.LayeringRank.{law-layering, layering-law}
use Rattle.mixed_layering_laws.proofs.layering_laws.layerings_add_the_split_rows.Goals as goal

pub returns : goal.returns
returns c p prime big M A D L O lay r = (layering-law p prime M A D L O lay big r, law-layering p prime M A D L O lay big r)
