-- What a failed call makes of a count of faults.
use Rattle.std.proofs.Common.{ℕ, Bool, arith}
use Rattle.port_io.specs.Causes.{FailedLast, Rose}

pub rose : {before now : ℕ} {failed : Bool} → FailedLast before now failed → Rose before now
rose {before} {now} {failed} last = omega (arith, last.once)
