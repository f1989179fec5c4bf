-- A text of a kind is refused with one status, or not.
use Rattle.std.proofs.Common.{◌≡◌, ℕ, List, ap, sym, ◌∙◌, refl}
use Rattle.refusals.specs.declared.Refused.{Refused as Refusal}
use Rattle.mixed_model.specs.Models.{MixedModel}
use Rattle.cert_text.specs.declared.kind.Kind.{Kind}
use Rattle.input_kinds.specs.Kinds.{GivesModel, IsRefused}
use Rattle.input_kinds.specs.Refusals.{IsRefusedAs}
use Rattle.run_ends.specs.declared.status.Status.{Status}
use Rattle.run_ends.specs.declared.status.Status.TheVariants.{BadCertificate, Done, Memory, NotRegular, ReadFault}
use Rattle.run_ends.specs.declared.status.Status.TheVariants.{Refused, Rejected, TooLong, Usage, WriteFault}
use Rattle.input_kinds.proofs.ByKind.{given-unrefused, refused-alone}

module _ (p : ℕ) (kind : Kind) (text : List ℕ) where
  refused-so : (status : Status) → IsRefusedAs p kind text status →
      (refused : Refusal) × (status ≡ Refused refused) × IsRefused p kind text refused
  refused-so Done is = absurd is
  refused-so NotRegular is = absurd is
  refused-so Usage is = absurd is
  refused-so (Refused refused) is = (refused, refl, is)
  refused-so (TooLong limit) is = absurd is
  refused-so (BadCertificate line) is = absurd is
  refused-so ReadFault is = absurd is
  refused-so WriteFault is = absurd is
  refused-so Memory is = absurd is
  refused-so (Rejected rule) is = absurd is

  pub one-refusal : (a b : Status) → IsRefusedAs p kind text a → IsRefusedAs p kind text b → a ≡ b
  one-refusal a b one two =
      let first = refused-so a one in
      let second = refused-so b two in
      first.1 ∙ ap Refused (refused-alone p kind text first.0 second.0 first.2 second.2) ∙ sym second.1

  pub given-no-refusal : {A : Type 0} (model : MixedModel) (status : Status) → GivesModel p kind text model →
      IsRefusedAs p kind text status → A
  given-no-refusal model status gives is =
      let refused = refused-so status is in
      given-unrefused p kind text refused.0 model gives refused.2
