use Rattle.block_laws.proofs.LayeredSolutions.{layered_solution, model_solution}
use Rattle.block_laws.proofs.laws.layers_have_the_solutions.Goals as goal

pub returns : goal.returns
returns c p prime M L O lay v w values x b =
    (layered_solution p prime M L O lay v w values x b, model_solution p prime M L O lay v w values x b)
