-- What holds of a run where something holds anyway.
use Rattle.std.proofs.Common.{◌≡◌, ◌⊎◌, ℕ, List, Option, inl, inr, sym, subst, ◌∙◌}
use Rattle.port_io.specs.Bytes.{TookAtMost}
use Rattle.run_ends.specs.Ways.{HasText, ReadsAll, TakesBy, TellsAnswer, WritesNothing}
use Rattle.run_ends.specs.declared.status.Status.{Status}
use Rattle.run_ends.specs.declared.status.Status.TheVariants.{BadCertificate, Done, Memory, NotRegular, ReadFault}
use Rattle.run_ends.specs.declared.status.Status.TheVariants.{Refused, Rejected, TooLong, Usage, WriteFault}

pub tells-of : (P : Type 0) (status : Status) → P → TellsAnswer status P
tells-of P Done holds = holds
tells-of P NotRegular holds = holds
tells-of P Usage holds = holds
tells-of P (Refused refused) holds = holds
tells-of P (TooLong limit) holds = holds
tells-of P (BadCertificate line) holds = holds
tells-of P ReadFault holds = tt
tells-of P WriteFault holds = tt
tells-of P Memory holds = tt
tells-of P (Rejected rule) holds = holds

pub reads-of : (P : Type 0) (status : Status) → P → ReadsAll status P
reads-of P Done holds = holds
reads-of P NotRegular holds = holds
reads-of P Usage holds = tt
reads-of P (Refused refused) holds = holds
reads-of P (TooLong limit) holds = tt
reads-of P (BadCertificate line) holds = holds
reads-of P ReadFault holds = tt
reads-of P WriteFault holds = holds
reads-of P Memory holds = tt
reads-of P (Rejected rule) holds = holds

pub writes-of : (P : Type 0) (status : Status) → P → WritesNothing status P
writes-of P Done holds = tt
writes-of P NotRegular holds = tt
writes-of P Usage holds = holds
writes-of P (Refused refused) holds = holds
writes-of P (TooLong limit) holds = holds
writes-of P (BadCertificate line) holds = holds
writes-of P ReadFault holds = holds
writes-of P WriteFault holds = tt
writes-of P Memory holds = holds
writes-of P (Rejected rule) holds = holds

-- a text that was written, or whose writing failed
pub writes-something : (P : Type 0) (status : Status) → HasText status ⊎ (status ≡ WriteFault) → WritesNothing status P
writes-something P status (inl (inl done)) = subst (λ s. WritesNothing s P) (sym done) tt
writes-something P status (inl (inr other)) = subst (λ s. WritesNothing s P) (sym other) tt
writes-something P status (inr failed) = subst (λ s. WritesNothing s P) (sym failed) tt

pub takes-whole : (most : ℕ) (left left' : Option (List ℕ)) (status : Status) → HasText status ⊎ (status ≡ WriteFault) → TookAtMost most left left' →
    TakesBy most status left left'
takes-whole most left left' status (inl (inl done)) took = subst (λ s. TakesBy most s left left') (sym done) took
takes-whole most left left' status (inl (inr other)) took = subst (λ s. TakesBy most s left left') (sym other) took
takes-whole most left left' status (inr failed) took = subst (λ s. TakesBy most s left left') (sym failed) took

-- no text, and no other status
pub no-text-failed : (status : Status) → HasText status → status ≡ WriteFault → ⊥
no-text-failed status (inl done) is = let both : Done ≡ WriteFault = sym done ∙ is in absurd cc
no-text-failed status (inr other) is = let both : NotRegular ≡ WriteFault = sym other ∙ is in absurd cc

pub not-usage : (status : Status) → HasText status ⊎ (status ≡ WriteFault) → status ≡ Usage → ⊥
not-usage status (inl (inl done)) is = let both : Done ≡ Usage = sym done ∙ is in absurd cc
not-usage status (inl (inr other)) is = let both : NotRegular ≡ Usage = sym other ∙ is in absurd cc
not-usage status (inr failed) is = let both : WriteFault ≡ Usage = sym failed ∙ is in absurd cc

pub not-read-fault : (status : Status) → HasText status ⊎ (status ≡ WriteFault) → status ≡ ReadFault → ⊥
not-read-fault status (inl (inl done)) is = let both : Done ≡ ReadFault = sym done ∙ is in absurd cc
not-read-fault status (inl (inr other)) is = let both : NotRegular ≡ ReadFault = sym other ∙ is in absurd cc
not-read-fault status (inr failed) is = let both : WriteFault ≡ ReadFault = sym failed ∙ is in absurd cc
