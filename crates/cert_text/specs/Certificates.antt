-- What is a certificate.
use Rattle.std.specs.Prelude.{◌≡◌, ◌⊎◌, ◌≤◌, length}
use Rattle.limits.specs.Limits.{input_limit}
use Rattle.residue_field.specs.Modulus.{modulus_of}
use Rattle.residue_field.specs.declared.field_name.FieldName.TheVariants.{Large, Small}
use Rattle.cert_text.specs.Contents.{Certificate}
use Rattle.cert_text.specs.Ranges.{IsCcf}
use Rattle.cert_text.specs.declared.version.Version.TheVariants.{One}

-- what is a certificate: over one of the two fields, in version 1 over the smaller one, with values of its field
pub record IsCertificate (c : Certificate) : Type 0 where
  pub field : (c.modulus ≡ modulus_of Small) ⊎ (c.modulus ≡ modulus_of Large)
  pub version : c.version ≡ One → c.modulus ≡ modulus_of Small
  pub echo : length c.echo ≤ input_limit
  pub ccf : IsCcf c.modulus c.ccf
