use Rattle.mixed_layering_laws.proofs.LayeringExists.{layered_matrix_exists}
use Rattle.mixed_layering_laws.proofs.layering_laws.each_model_has_a_layered_matrix.Goals as goal

pub returns : goal.returns
returns c M = layered_matrix_exists M
