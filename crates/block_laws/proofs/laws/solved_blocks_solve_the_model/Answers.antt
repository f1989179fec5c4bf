use Rattle.block_laws.proofs.SolvedBlocks.{blocks-solve}
use Rattle.block_laws.proofs.laws.solved_blocks_solve_the_model.Goals as goal

pub returns : goal.returns
returns c p prime M L O lay v w values S G form X x b =
    blocks-solve p prime M L O lay v w values S G form X x b
