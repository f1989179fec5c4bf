-- The status of what went wrong.
use Rattle.std.specs.Prelude.{ℕ}
use Rattle.port_io.specs.declared.reading.ReadError.{ReadError}
use Rattle.port_io.specs.declared.reading.ReadError.TheVariants.{ReadFault as Failed, TooLong as Longer, NoMemory as Wanting}
use Rattle.refusals.specs.declared.ReadModel.{ReadModel}
use Rattle.refusals.specs.declared.ReadModel.TheVariants.{Refused as Broken, NoMemory}
use Rattle.run_ends.specs.declared.status.Status.{Status}
use Rattle.run_ends.specs.declared.status.Status.TheVariants.{Memory, ReadFault, Refused, TooLong}

-- of an input that was not read, and may have so many bytes
abbrev pub status_of_error : ℕ → ReadError → Status
status_of_error most Failed = ReadFault
status_of_error most Longer = TooLong most
status_of_error most Wanting = Memory

-- of a model that was not read
abbrev pub status_of_refusal : ReadModel → Status
status_of_refusal (Broken refused) = Refused refused
status_of_refusal NoMemory = Memory
