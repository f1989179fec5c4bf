-- A text gives at most one model, or has one refusal; and an empty one gives an empty model.
use Rattle.std.proofs.Common.{◌≡◌, ℕ, List, [], Some, None, Ok, Err, sym, ap, subst, refl, ◌∙◌, inl, inr}
use Rattle.refusals.specs.declared.Refused.{Refused}
use Rattle.mixed_model.specs.Models.{MixedModel}
use Rattle.term_model.specs.Systems.{IsModelOf}
use Rattle.term_model.proofs.Systems.{one_model}
use Rattle.toml.specs.Data.{Members, no_members}
use Rattle.toml.specs.Parse.{parse_document}
use Rattle.toml.proofs.OnLiterals.{toml_on_literals}
use Rattle.unit_equations.specs.declared.version.Version.TheVariants.{One}
use Rattle.flowsheet_reader.specs.Models.{BreaksFirst, GivesModel, sheet_in}
use Rattle.flowsheet_reader.specs.Sheets.{Sheet, sheet_without_units}

-- a text is at most one document
one_document : (text : List ℕ) (a b : Members) → parse_document text ≡ Some a → parse_document text ≡ Some b → a ≡ b
one_document text a b first second = let both : Some a ≡ Some b = sym first ∙ second in let same : a ≡ b = cc in same

-- and a document at most one flowsheet
one_sheet : (p : ℕ) (a b : Members) (sheet other : Sheet) → a ≡ b → sheet_in p a ≡ Ok sheet → sheet_in p b ≡ Ok other → sheet ≡ other
one_sheet p a b sheet other same first second =
    let both : Ok sheet ≡ Ok other = sym first ∙ ap (sheet_in p) same ∙ second in let one : sheet ≡ other = cc in one

pub text_gives_one : (p : ℕ) (text : List ℕ) (a b : MixedModel) → GivesModel p text a → GivesModel p text b → a ≡ b
text_gives_one p text a b gives_a gives_b =
    let documents = one_document text gives_b.document gives_a.document gives_b.parsed gives_a.parsed in
    let sheets : gives_b.sheet ≡ gives_a.sheet =
    one_sheet p gives_b.document gives_a.document gives_b.sheet gives_a.sheet documents gives_b.kept gives_a.kept in
    one_model p (gives_a.sheet).system a b gives_a.given (subst (λ sheet. IsModelOf p sheet.system b) sheets gives_b.given)

pub gives-unrefused : (p : ℕ) (text : List ℕ) (model : MixedModel) (a : Refused) → GivesModel p text model → BreaksFirst p text a → ⊥
gives-unrefused p text model a gives (inl (is, none)) =
    let both : None ≡ Some gives.document = sym (none gives.utf8) ∙ gives.parsed in cc
gives-unrefused p text model a gives (inr (utf8, (document, parsed, broken))) =
    let documents = one_document text document gives.document parsed gives.parsed in
    let both : Err a ≡ Ok gives.sheet = sym broken ∙ ap (sheet_in p) documents ∙ gives.kept in cc

pub one_refusal : (p : ℕ) (text : List ℕ) (a b : Refused) → BreaksFirst p text a → BreaksFirst p text b → a ≡ b
one_refusal p text a b (inl (is_a, none)) (inl (is_b, other)) = is_a ∙ sym is_b
one_refusal p text a b (inl (is, none)) (inr (utf8, (document, parsed, broken))) =
    let both : None ≡ Some document = sym (none utf8) ∙ parsed in absurd cc
one_refusal p text a b (inr (utf8, (document, parsed, broken))) (inl (is, none)) =
    let both : None ≡ Some document = sym (none utf8) ∙ parsed in absurd cc
one_refusal p text a b (inr (utf8, (document, parsed, broken))) (inr (utf, (other, read, refused))) =
    let documents = one_document text document other parsed read in
    let both : Err a ≡ Err b = sym broken ∙ ap (sheet_in p) documents ∙ refused in let same : a ≡ b = cc in same

-- no byte, no equation and no unknown
empty_document : parse_document [] ≡ Some no_members
unfolding toml_on_literals
empty_document = refl

pub nothing-given : (p : ℕ) (model : MixedModel) → GivesModel p [] model → (model.equations ≡ []) × (model.unknowns ≡ [])
nothing-given p model gives =
    let documents = one_document [] no_members gives.document empty_document gives.parsed in
    let sheets : sheet_without_units One [] [] ≡ gives.sheet = one_sheet p no_members gives.document
    (sheet_without_units One [] []) gives.sheet documents refl gives.kept in (
      (gives.given).equations_are ∙ sym (ap (λ (sheet : Sheet). sheet.system.equations) sheets),
      (gives.given).unknowns_are ∙ sym (ap (λ (sheet : Sheet). sheet.system.unknowns) sheets),
    )
