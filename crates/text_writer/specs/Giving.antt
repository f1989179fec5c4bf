-- What a sink has of a text.
use Rattle.std.specs.Prelude.{◌≡◌, ℕ, ◌+◌, ◌≤◌, List, [], ◌++◌, length, true, false, Option, Result, IsOk, OnOk, OnErr, IfErr}
use Rattle.port_io.specs.Bytes.{Appended}
use Rattle.port_io.specs.Causes.{FailedLast, HasCause, shown}
use Rattle.port_io.specs.declared.ports.Sink.{Ghosts}
use Rattle.port_io.specs.declared.writing.WriteFault.{WriteFault}
use Rattle.text_writer.specs.declared.progress.Progress.{Progress}

-- a first part of a text, perhaps all, was appended
pub record AppendedPart (written written' : Option (List ℕ)) (text : List ℕ) : Type 0 where
  pub part : List ℕ
  pub rest : List ℕ
  pub appended : Appended written written' part
  pub prefix : text ≡ part ++ rest

-- a first part of a text was appended, and the fault counts its bytes
pub record IsCut (written written' : Option (List ℕ)) (text : List ℕ) (fault : WriteFault) : Type 0 where
  pub has : AppendedPart written written' text
  pub counted : fault.written ≡ shown (length has.part)

-- the whole text was appended and no call failed, or a part of it and the last call failed; nothing was flushed, and a
-- sink that takes it all meets no fault
pub record IsWritten {S : Type 0} (K : Ghosts S) (first last : S) (text : List ℕ)
    (result : Result (Unit {0}) WriteFault) : Type 0 where
  pub whole : OnOk result (Appended (K.written first) (K.written last) text)
  pub part : IfErr result (IsCut (K.written first) (K.written last) text)
  pub cause : HasCause (K.faults first) (K.faults last) result
  pub failed : OnErr result (FailedLast (K.faults first) (K.faults last) (K.failed last))
  pub no_flush : K.flushes last ≡ K.flushes first
  pub calm : (more : ℕ) → K.takes first (length text + more) →
      (K.faults last ≡ K.faults first) × IsOk result × K.takes last more

-- before the first byte is given
abbrev pub nothing_given : Progress
nothing_given = record { handed = 0; failed = false }

-- since the sink stood as `first`, this text was given to it: the sink has a part of it, and all where no call failed
pub record HasGiven {S : Type 0} (K : Ghosts S) (first sink : S) (progress : Progress) (text : List ℕ) : Type 0 where
  pub has : AppendedPart (K.written first) (K.written sink) text
  pub counted : progress.handed ≡ shown (length has.part)
  pub fine : progress.failed ≡ false → (has.rest ≡ []) × (K.faults sink ≡ K.faults first)
  pub later : K.faults first ≤ K.faults sink
  pub failed : progress.failed ≡ true → FailedLast (K.faults first) (K.faults sink) (K.failed sink)
  pub no_flush : K.flushes sink ≡ K.flushes first
  pub calm : (more : ℕ) → K.takes first (length text + more) → (progress.failed ≡ false) × K.takes sink more

-- these bytes were given behind whatever was given before
abbrev pub Gives : {S : Type 0} → Ghosts S → S → Progress → S → Progress → List ℕ → Type 0
Gives {S} K sink progress sink' progress' bytes =
    (first : S) (text : List ℕ) → HasGiven K first sink progress text → HasGiven K first sink' progress' (text ++ bytes)
