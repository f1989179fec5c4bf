-- What holds of texts of each kind.
use Rattle.std.proofs.Common.{◌≡◌, ℕ, ◌+◌, ◌<◌, List, ap, sym, ◌∙◌, ◌⊎◌}
use Rattle.refusals.specs.declared.Refused.{Refused}
use Rattle.refusals.specs.declared.Place.TheVariants.{Line}
use Rattle.refusals.specs.declared.Why.{Why}
use Rattle.residue_theory.specs.Residues.{IsPrime}
use Rattle.mixed_model.specs.Models.{MixedModel, IsModel}
use Rattle.matrix_reader.proofs.EachText.{text_answered}
use Rattle.matrix_reader.proofs.FirstBroken.{gives-unbroken, first_broken-one}
use Rattle.matrix_reader.proofs.ModelLaws.{text_gives_one}
use Rattle.netlist_reader.proofs.EachText.{netlist_answered}
use Rattle.netlist_reader.proofs.ModelLaws as netlists
use Rattle.netlist_reader.proofs.ModelLaws.{gives-unrefused, one_refusal}
use Rattle.flowsheet_reader.proofs.EachText.{flowsheet_answered}
use Rattle.flowsheet_reader.proofs.ModelLaws as flowsheets
use Rattle.cert_text.specs.declared.kind.Kind.{Kind}
use Rattle.cert_text.specs.declared.kind.Kind.TheVariants.{Flowsheet, Matrix, Netlist}
use Rattle.input_kinds.specs.Kinds.{GivesModel, IsRefused}

module _ (p : ℕ) where
  pub is-model : (kind : Kind) (text : List ℕ) (model : MixedModel) → GivesModel p kind text model → IsModel p model
  is-model Matrix text model gives = (gives.given).is_model
  is-model Netlist text model gives = (gives.given).is_model
  is-model Flowsheet text model gives = (gives.given).is_model

  pub gives-one : (kind : Kind) (text : List ℕ) (a b : MixedModel) →
      GivesModel p kind text a → GivesModel p kind text b → a ≡ b
  gives-one Matrix text a b gives_a gives_b = text_gives_one p text a b gives_a gives_b
  gives-one Netlist text a b gives_a gives_b = netlists.text_gives_one p text a b gives_a gives_b
  gives-one Flowsheet text a b gives_a gives_b = flowsheets.text_gives_one p text a b gives_a gives_b

  -- a text that gives a model has no refusal
  pub given-unrefused : {A : Type 0} (kind : Kind) (text : List ℕ) (refused : Refused) (model : MixedModel) →
      GivesModel p kind text model → IsRefused p kind text refused → A
  given-unrefused Matrix text refused model gives (n, why, is, first) =
      absurd (gives-unbroken p text model n why gives first)
  given-unrefused Netlist text refused model gives is = absurd (gives-unrefused p text model refused gives is)
  given-unrefused Flowsheet text refused model gives is =
      absurd (flowsheets.gives-unrefused p text model refused gives is)

  -- a text has one refusal, or none
  pub refused-alone : (kind : Kind) (text : List ℕ) (refused other : Refused) →
      IsRefused p kind text refused → IsRefused p kind text other → refused ≡ other
  refused-alone Matrix text refused other (m, v, is, first) (n, w, is_other, second) =
      let same = first_broken-one p text m n v w first second in
      let at : ℕ → Why → Refused = λ k why. record { place = Line (k + 1); why = why } in
      is ∙ ap (λ k. at k v) same.0 ∙ ap (λ why. at n why) same.1 ∙ sym is_other
  refused-alone Netlist text refused other is is_other = one_refusal p text refused other is is_other
  refused-alone Flowsheet text refused other is is_other = flowsheets.one_refusal p text refused other is is_other

  -- each text gives a model or is refused
  pub answered : IsPrime p → 2 < p → (kind : Kind) (text : List ℕ) →
      ((model : MixedModel) × GivesModel p kind text model) ⊎ ((refused : Refused) × IsRefused p kind text refused)
  answered prime odd Matrix text = text_answered p prime text
  answered prime odd Netlist text = netlist_answered p prime text
  answered prime odd Flowsheet text = flowsheet_answered p odd text
