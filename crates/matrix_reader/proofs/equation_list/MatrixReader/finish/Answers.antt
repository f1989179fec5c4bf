use Rattle.std.proofs.Common.{ℕ, List, sym, subst}
use Rattle.std.proofs.lemmas.Result.{err_from_is_err_and}
use Rattle.matrix_reader.specs.Models.{IsRefusal}
use Rattle.matrix_reader.specs.Feeding.{IsFed}
use Rattle.matrix_reader.proofs.equation_list.MatrixReader.finish.Goals as goal

pub returns-in_err-finish-clause-refused : goal.returns-in_err-finish-clause-refused
returns-in_err-finish-clause-refused g c =
    let failed = err_from_is_err_and c.from_residual.result c.from_residual.ensures.1 in
    rw failed.1
    (subst (λ why. (text : List ℕ) → IsFed g.F.Field.modulus c.args.self text →
    IsRefusal g.F.Field.modulus text why) (sym failed.2) c.in_err-finish.ensures.refused)
