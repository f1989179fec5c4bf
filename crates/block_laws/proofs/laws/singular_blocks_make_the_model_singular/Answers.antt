use Rattle.block_laws.proofs.BlockRanks.{singular_of_block}
use Rattle.block_laws.proofs.laws.singular_blocks_make_the_model_singular.Goals as goal

pub returns : goal.returns
returns c p prime M A D L O lay v w values S G form =
    singular_of_block p prime L S G form w M A D O lay v values
