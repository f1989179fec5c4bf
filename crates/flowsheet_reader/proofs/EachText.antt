-- Each text gives a model or is refused.
use Rattle.std.proofs.Common.{◌≡◌, ℕ, ◌<◌, Bool, true, false, List, Option, Some, None, Result, Ok, Err, refl, sym, ◌∙◌, ◌⊎◌}
use Rattle.std.proofs.Common.{inl, inr, arith}
use Rattle.std.specs.Str.{IsUtf8, is_utf8}
use Rattle.std.proofs.lemmas.Str.{IsUtf8-from_is_utf8, is_utf8-from_IsUtf8}
use Rattle.refusals.specs.declared.Place.TheVariants.{Document}
use Rattle.refusals.specs.declared.ReadModel.TheVariants.{Refused as IsRefused}
use Rattle.refusals.specs.declared.Refused.{Refused}
use Rattle.refusals.specs.declared.Why.TheVariants.{NotToml}
use Rattle.mixed_model.specs.Models.{MixedModel}
use Rattle.term_model.proofs.Making.{system_made}
use Rattle.toml.specs.Data.{Members}
use Rattle.toml.specs.Parse.{parse_document}
use Rattle.flowsheet_reader.specs.Models.{GivesModel, IsRefusal, sheet_in}
use Rattle.flowsheet_reader.specs.Sheets.{Sheet}
use Rattle.flowsheet_reader.proofs.SheetNames.{sheet-named}

module _ (p : ℕ) (odd : 2 < p) (text : List ℕ) where
  by_sheet : (utf8 : IsUtf8 text) (document : Members) → parse_document text ≡ Some document → (read : Result Sheet Refused) →
      sheet_in p document ≡ read → ((model : MixedModel) × GivesModel p text model) ⊎ ((refused : Refused) × IsRefusal p text (IsRefused refused))
  by_sheet utf8 document parsed (Ok sheet) kept =
      let named = sheet-named p document sheet odd kept in
      let (model, given) = system_made p sheet.system (omega (arith, odd)) named.equations named.unknowns in
      inl (model, record { utf8 = utf8; document = document; parsed = parsed; sheet = sheet; kept = kept; given = given })
  by_sheet utf8 document parsed (Err refused) broken = inr (refused, inr (utf8, (document, parsed, broken)))

  by_document : (utf8 : IsUtf8 text) (read : Option Members) → parse_document text ≡ read →
      ((model : MixedModel) × GivesModel p text model) ⊎ ((refused : Refused) × IsRefusal p text (IsRefused refused))
  by_document utf8 (Some document) parsed = by_sheet utf8 document parsed (sheet_in p document) refl
  by_document utf8 None none = inr (record { place = Document; why = NotToml }, inl (refl, λ _. none))

  by_utf8 : (b : Bool) → is_utf8 text ≡ b →
      ((model : MixedModel) × GivesModel p text model) ⊎ ((refused : Refused) × IsRefusal p text (IsRefused refused))
  by_utf8 true e = by_document (IsUtf8-from_is_utf8 text e) (parse_document text) refl
  by_utf8 false e = inr (
    record { place = Document; why = NotToml },
    inl (refl, λ utf8. let both : true ≡ false = sym (is_utf8-from_IsUtf8 text utf8) ∙ e in absurd cc),
  )

-- Each text gives a model or is refused.
pub flowsheet_answered : (p : ℕ) → 2 < p → (text : List ℕ) →
    ((model : MixedModel) × GivesModel p text model) ⊎ ((refused : Refused) × IsRefusal p text (IsRefused refused))
flowsheet_answered p odd text = by_utf8 p odd text (is_utf8 text) refl
