use Rattle.block_laws.proofs.BlockRanks.{blocks_of_regular, regular_of_blocks}
use Rattle.block_laws.proofs.laws.blocks_tell_whether_the_model_is_regular.Goals as goal

pub returns : goal.returns
returns c p prime M A D L O lay v w values S G form =
    (blocks_of_regular p prime L S G form w M A D O lay v values, regular_of_blocks p prime L S G form w M A D O lay v values)
