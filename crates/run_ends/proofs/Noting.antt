-- What is noted of a status.
use Rattle.std.proofs.Common.{◌≡◌, ℕ, Bool, ◌⊎◌, inl, inr, List, [], append-nil, Result, Ok, Err, Option, refl, subst, sym}
use Rattle.port_io.specs.declared.ports.Sink.{Ghosts}
use Rattle.port_io.specs.declared.writing.WriteFault.{WriteFault as Fault}
use Rattle.text_writer.specs.Giving.{IsWritten}
use Rattle.run_ends.specs.Notes.{Noted, note_of, line_of}
use Rattle.run_ends.proofs.Taking.{appended_nothing}
use Rattle.run_ends.specs.declared.status.Status.{Status}
use Rattle.run_ends.specs.declared.status.Status.TheVariants.{BadCertificate, Done, Memory, NotRegular, ReadFault}
use Rattle.run_ends.specs.declared.status.Status.TheVariants.{Refused, Rejected, TooLong, Usage, WriteFault}

-- the line of a status without the whole text
pub note_is : (s : Status) → (s ≡ Done → ⊥) → (s ≡ NotRegular → ⊥) → line_of s ≡ note_of s
note_is Done done other = absurd (done refl)
note_is NotRegular done other = absurd (other refl)
note_is Usage done other = refl
note_is (Refused refused) done other = refl
note_is (TooLong limit) done other = refl
note_is (BadCertificate line) done other = refl
note_is ReadFault done other = refl
note_is WriteFault done other = refl
note_is Memory done other = refl
note_is (Rejected rule) done other = refl

-- a line that was written, as far as the sink took it, is noted
pub noted : {S : Type 0} {K : Ghosts S} {first last : S} {line : List ℕ} (result : Result (Unit {0}) Fault) → IsWritten K first last line result →
    Noted (K.written first) (K.written last) (K.faults first) (K.faults last) (K.failed last) line
noted {S} {K} {first} {last} {line} (Ok v) written = record {
  has = record { part = line; rest = []; appended = written.whole; prefix = sym (append-nil line) };
  whole = inl (refl, written.cause.fine);
}
noted {S} {K} {first} {last} {line} (Err fault) written = record { has = written.part.has; whole = inr written.failed }

-- nothing is noted where no call is made
pub quiet : (written : Option (List ℕ)) (faults : ℕ) (failed : Bool) → Noted written written faults faults failed []
quiet written faults failed = record {
  has = record { part = []; rest = []; appended = appended_nothing written; prefix = refl };
  whole = inl (refl, refl);
}

-- of a status with which the whole text was written nothing is noted
pub unnoted : (status : Status) → (status ≡ NotRegular) ⊎ (status ≡ Done) → note_of status ≡ []
unnoted status (inl is) = subst (λ s. note_of s ≡ []) (sym is) refl
unnoted status (inr is) = subst (λ s. note_of s ≡ []) (sym is) refl
