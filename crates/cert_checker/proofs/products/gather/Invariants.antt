use Rattle.std.proofs.Common.{◌+◌, ◌*◌, drop, length, map, slice_index}
use Rattle.residue_theory.specs.Sums.{sum_below}
use Rattle.cert_text.specs.Contents.{numbered, numbered_rows}
use Rattle.cert_text.specs.Readings.{entry_at, matrix_of}
use Rattle.cert_checker.proofs.EntrySteps.{IsSumLeft}
use Rattle.cert_checker.proofs.products.gather.Given as goal

abbrev pub invariant-loop-coefficient : goal.invariant-loop-coefficient
invariant-loop-coefficient g l =
    let number = g.F.Field.number in
    let coefficients = numbered number l.coefficients in
    let matrix = numbered_rows number l.matrix in
    let m = length l.matrix in
    IsSumLeft g.F.Field.modulus m (length l.fn.row) matrix (map number l.row) (drop l.coefficient-index coefficients)
    (λ j. slice_index (map number l.fn.row) j + sum_below m (λ t. entry_at coefficients t * matrix_of matrix t j))
