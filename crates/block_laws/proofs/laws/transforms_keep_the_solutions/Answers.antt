use Rattle.block_laws.proofs.SolvedBlocks.{solution-transformed, transformed-solution}
use Rattle.block_laws.proofs.laws.transforms_keep_the_solutions.Goals as goal

pub returns : goal.returns
returns c p prime L S U inv w A O x b =
    (solution-transformed p prime L S U inv w A O x b, transformed-solution p prime L S U inv w A O x b)
