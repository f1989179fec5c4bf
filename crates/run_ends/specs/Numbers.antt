-- The number that the program ends with.
use Rattle.std.specs.Prelude.{ℕ}
use Rattle.run_ends.specs.declared.status.Status.{Status}
use Rattle.run_ends.specs.declared.status.Status.TheVariants.{BadCertificate, Done, Memory, NotRegular, ReadFault}
use Rattle.run_ends.specs.declared.status.Status.TheVariants.{Refused, Rejected, TooLong, Usage, WriteFault}

abbrev pub status_number : Status → ℕ
status_number Done = 0
status_number NotRegular = 1
status_number Usage = 2
status_number (Refused refused) = 3
status_number (TooLong limit) = 3
status_number (BadCertificate line) = 3
status_number ReadFault = 4
status_number WriteFault = 5
status_number Memory = 6
status_number (Rejected rule) = 7
