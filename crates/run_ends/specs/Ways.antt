-- What each status tells of a run.
use Rattle.std.specs.Prelude.{◌≡◌, ℕ, ◌+◌, ◌⊎◌, List, Option}
use Rattle.port_io.specs.Bytes.{TookAtMost, TookExactly}
use Rattle.run_ends.specs.declared.status.Status.{Status}
use Rattle.run_ends.specs.declared.status.Status.TheVariants.{BadCertificate, Done, Memory, NotRegular, ReadFault}
use Rattle.run_ends.specs.declared.status.Status.TheVariants.{Refused, Rejected, TooLong, WriteFault}

-- the statuses with which the whole text was written and flushed
abbrev pub HasText : Status → Type 0
HasText status = (status ≡ Done) ⊎ (status ≡ NotRegular)

-- the status is no fault and no want of memory
abbrev pub TellsAnswer : Status → Type 0 → Type 0
TellsAnswer ReadFault p = Unit {0}
TellsAnswer WriteFault p = Unit {0}
TellsAnswer Memory p = Unit {0}
TellsAnswer _ p = p

-- the statuses of what is read that tell of a whole input within the limit
abbrev pub ReadsAll : Status → Type 0 → Type 0
ReadsAll Done p = p
ReadsAll NotRegular p = p
ReadsAll (Refused refused) p = p
ReadsAll (BadCertificate line) p = p
ReadsAll WriteFault p = p
ReadsAll (Rejected rule) p = p
ReadsAll _ p = Unit {0}

-- the statuses with which nothing is written
abbrev pub WritesNothing : Status → Type 0 → Type 0
WritesNothing Done p = Unit {0}
WritesNothing NotRegular p = Unit {0}
WritesNothing WriteFault p = Unit {0}
WritesNothing _ p = p

-- what was taken of an input of at most so many bytes: one byte past the limit exactly where it is too long
abbrev pub TakesBy : ℕ → Status → Option (List ℕ) → Option (List ℕ) → Type 0
TakesBy most (TooLong limit) left left' = TookExactly (most + 1) left left'
TakesBy most _ left left' = TookAtMost most left left'
