-- The certificate of a model that a text gives.
use Rattle.std.proofs.Common.{◌≡◌, ◌⊎◌, ℕ, ◌≤◌, List, Option, None, Some, length, inl, inr, refl, sym, subst}
use Rattle.mixed_model.specs.Models.{IsModel, MixedModel, mixed_matrix_of}
use Rattle.mixed_model.specs.Layers.{Layers, layered_matrix_of}
use Rattle.mixed_layering.specs.Layers.{AreLayersOf, origins_of}
use Rattle.ccf_builder.specs.Promises.{OfEachModel}
use Rattle.ccf_builder.proofs.EachModel.{right-of-model}
use Rattle.cert_text.specs.Certificates.{IsCertificate}
use Rattle.cert_text.specs.Contents.{Certificate, Contents}
use Rattle.cert_text.specs.Ranges.{IsCcf}
use Rattle.cert_text.specs.Right.{HasShape, HasTransform, HasPairAndRank, HasForm, HasIdeals, HasCanonicalListing, IsRightCcf}
use Rattle.cert_text.specs.declared.kind.Kind.{Kind}
use Rattle.cert_text.specs.declared.version.Version.{Version}
use Rattle.cert_text.specs.declared.version.Version.TheVariants.{One}
use Rattle.residue_field.specs.Modulus.{modulus_of}
use Rattle.residue_field.specs.declared.field_name.FieldName.{FieldName}
use Rattle.residue_field.specs.declared.field_name.FieldName.TheVariants.{Large, Small}
use Rattle.command_line.specs.Words.{over}
use Rattle.report_cli.specs.Fields.{certificate_version}
use Rattle.solve_plan.specs.Reports.{IsRightFormOf}
use Rattle.limits.specs.Limits.{input_limit}
use Rattle.input_kinds.specs.Kinds.{GivesModel}
use Rattle.report_cli.specs.RightFor.{IsRightForInput}
use Rattle.input_kinds.proofs.ByKind.{is-model}

-- a form that is right for the layers makes a certificate that is right for the text
pub right_for : (p : ℕ) (version : Version) (kind : Kind) (text : List ℕ) (model : MixedModel) (layers : Layers) (echo : List ℕ) (ccf : Contents) →
    GivesModel p kind text model → AreLayersOf model layers → echo ≡ text → length text ≤ input_limit →
    IsCcf p ccf →
    OfEachModel p layers (λ M O. HasShape M (layered_matrix_of layers) ccf) → HasTransform p (layered_matrix_of layers) ccf →
    OfEachModel p layers (λ M O. HasPairAndRank p M (layered_matrix_of layers) O ccf) → HasForm p (layered_matrix_of layers) ccf →
    HasIdeals p (layered_matrix_of layers) ccf → HasCanonicalListing p (layered_matrix_of layers) ccf →
    IsRightForInput p version kind text (record { version = version; modulus = p; kind = kind; echo = echo; ccf = ccf })
right_for p version kind text model layers echo ccf gives are same short form shape transform pair triangular ideals canonical = record {
  model = model;
  gives = gives;
  version_is = refl;
  modulus_is = refl;
  kind_is = refl;
  echo = same;
  short = subst (λ t. length t ≤ input_limit) (sym same) short;
  form = form;
  layered = layered_matrix_of layers;
  origins = origins_of layers are.split;
  layers = are.layered;
  right = right-of-model p model layers ccf (is-model p kind text model gives) are shape transform pair triangular ideals canonical;
}

-- a report and a plan are told by a right form
pub right-form : (p : ℕ) (model : MixedModel) (layers : Layers) (ccf : Contents) → IsModel p model → (are : AreLayersOf model layers) →
    IsRightCcf p (mixed_matrix_of model) (layered_matrix_of layers) (origins_of layers are.split) ccf → IsRightFormOf p layers ccf
right-form p model layers ccf is are right = record { model = model; is = is; are = are; right = right }

-- the modulus is that of a field, and in version 1 of the smaller one
of-field : (name : FieldName) (m : ℕ) → m ≡ modulus_of name → (m ≡ modulus_of Small) ⊎ (m ≡ modulus_of Large)
of-field Small m is = inl is
of-field Large m is = inr is

in-one : (field : Option FieldName) (m : ℕ) (version : Version) → m ≡ modulus_of (over field) → version ≡ certificate_version field → version ≡ One →
    m ≡ modulus_of Small
in-one None m version states is one = states
in-one (Some name) m version states is one = let none : ⊥ = cc in absurd none

-- what is right for an input over the field that is named is a certificate
pub is-certificate : (field : Option FieldName) (kind : Kind) (input : List ℕ) (c : Certificate) →
    IsRightForInput (modulus_of (over field)) (certificate_version field) kind input c → IsCertificate c
is-certificate field kind input c right = record {
  field = of-field (over field) c.modulus right.modulus_is;
  version = in-one field c.modulus c.version right.modulus_is right.version_is;
  echo = right.short;
  ccf = subst (λ m. IsCcf m c.ccf) (sym right.modulus_is) right.form;
}
