-- What is read of an input, and what is told of the source.
use Rattle.std.specs.Prelude.{◌≡◌, ℕ, ◌+◌, ◌≤◌, List, length, Option, Result, Err}
use Rattle.port_io.specs.Asking.{AsksWithin}
use Rattle.port_io.specs.Bytes.{Took, TookAtMost, TookExactly, Ended}
use Rattle.port_io.specs.Causes.{FailedLast, IsAtMostOneMore}
use Rattle.port_io.specs.declared.ports.Source.{Ghosts}
use Rattle.run_ends.specs.declared.status.Status.{Status}
use Rattle.run_ends.specs.declared.status.Status.TheVariants.{BadCertificate, Memory, ReadFault, Refused, Rejected, TooLong}

-- the whole input was taken, it has no more bytes than this, and this holds of it
pub record ReadsWhole (most : ℕ) (left left' : Option (List ℕ)) (Holds : List ℕ → Type 0) : Type 0 where
  pub input : List ℕ
  pub took : Took left left' input
  pub ended : Ended left'
  pub short : length input ≤ most
  pub holds : Holds input

-- the whole input was taken, and the status tells what is wrong with it
abbrev pub IsReadFaulty : ℕ → (List ℕ → Status → Type 0) → Status → Option (List ℕ) → Option (List ℕ) → Type 0
IsReadFaulty most Faulty status left left' = ReadsWhole most left left' (λ input. Faulty input status)

-- why the text of an input of at most so many bytes was not read: what is too long was taken up to one byte past the
-- limit, or the source failed, or memory ran out
abbrev pub IsUntaken : ℕ → Status → Option (List ℕ) → Option (List ℕ) → Type 0
IsUntaken most (TooLong limit) left left' = (limit ≡ most) × TookExactly (most + 1) left left'
IsUntaken most ReadFault left left' = TookAtMost most left left'
IsUntaken most Memory left left' = TookAtMost most left left'
IsUntaken most _ left left' = ⊥

-- why an input gives nothing to write: something is wrong with it, or it was not read
abbrev pub IsUnread : ℕ → (List ℕ → Status → Type 0) → Status → Option (List ℕ) → Option (List ℕ) → Type 0
IsUnread most Faulty (Refused refused) left left' = IsReadFaulty most Faulty (Refused refused) left left'
IsUnread most Faulty (BadCertificate line) left left' = IsReadFaulty most Faulty (BadCertificate line) left left'
IsUnread most Faulty (Rejected rule) left left' = IsReadFaulty most Faulty (Rejected rule) left left'
IsUnread most Faulty status left left' = IsUntaken most status left left'

-- each failed read is told and is the last one, the source is asked for no more than an input may have and one byte,
-- and its end is met at most once
pub record TellsOfSource {S T : Type 0} (K : Ghosts S) (most : ℕ) (old new : S) (result : Result T Status) :
    Type 0 where
  pub fault : result ≡ Err ReadFault → FailedLast (K.faults old) (K.faults new) (K.asked new).failed
  pub told : (result ≡ Err ReadFault → ⊥) → K.faults new ≡ K.faults old
  pub later : K.faults old ≤ K.faults new
  pub asked : AsksWithin 65536 (most + 1) (K.asked old) (K.asked new)
  pub met : IsAtMostOneMore (K.asked old).ends (K.asked new).ends
  pub steady : K.never_fails old → K.faults new ≡ K.faults old
