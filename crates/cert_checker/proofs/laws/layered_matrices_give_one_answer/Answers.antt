use Rattle.mixed_matrices.specs.LayeredMatrices.{AreSameLayers}
use Rattle.mixed_matrices.specs.Layerings.{gives_q, has_symbol}
use Rattle.certificate_laws.proofs.OneMatrix.{one-matrix}
use Rattle.cert_checker.proofs.MovedRules.{broken-moved, first-moved}
use Rattle.cert_checker.proofs.laws.layered_matrices_give_one_answer.Goals as goal

pub returns : goal.returns
returns c p M L K O N lay other form is =
    let to : AreSameLayers p L K = one-matrix M (gives_q M) (has_symbol M) L K O N lay other p in
    let back : AreSameLayers p K L = one-matrix M (gives_q M) (has_symbol M) K L N O other lay p in
    (first-moved p M form is L K to 11, broken-moved p M form is L K to back)
