-- Empty lists fit.
use Rattle.std.proofs.Common.{ℕ, [], arith}
use Rattle.cert_text.specs.Ranges.{AreRising, ArePairs, AreEntries, IsPart, IsShape}
use Rattle.cert_text.specs.declared.shape.Shape.{Shape}
use Rattle.cert_text.specs.declared.part.CcfPart.{CcfPart}

pub no-numbers : (n : ℕ) → AreRising n []
no-numbers n = record { rising = λ k less. absurd (omega (arith, less)); below = λ k d less. absurd (omega (arith, less)) }

pub no-entries : (modulus n : ℕ) → AreEntries modulus n []
no-entries modulus n = record { rising = λ k less. absurd (omega (arith, less)); within = λ k d less. absurd (omega (arith, less)) }

pub no-pairs : (m n : ℕ) → ArePairs m n []
no-pairs m n = record { rising = λ k less. absurd (omega (arith, less)); within = λ k d less. absurd (omega (arith, less)) }

abbrev pub no_part : CcfPart
no_part = record { columns = []; q_rows = []; t_rows = [] }

pub no_part-is : (shape : Shape) → IsPart shape no_part
no_part-is shape = record { columns = no-numbers shape.columns; q_rows = no-numbers shape.q_rows; t_rows = no-numbers shape.t_rows }

abbrev pub no_shape : Shape
no_shape = record { equations = 0; unknowns = 0; q_rows = 0; t_rows = 0; columns = 0 }

pub no_shape-is : IsShape no_shape
no_shape-is = record { equations = omega arith; unknowns = omega arith; q_rows = omega arith; t_rows = omega arith; columns = omega arith }
