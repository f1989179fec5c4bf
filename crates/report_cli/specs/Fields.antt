-- The field that the words name.
use Rattle.std.specs.Prelude.{ℕ, Option, None, Some}
use Rattle.residue_field.specs.Modulus.{modulus_of}
use Rattle.cert_text.specs.declared.version.Version.{Version}
use Rattle.cert_text.specs.declared.version.Version.TheVariants.{One, Two}
use Rattle.command_line.specs.Words.{field_of, over}
use Rattle.command_line.specs.declared.command.Command.{Command}
use Rattle.residue_field.specs.declared.field_name.FieldName.{FieldName}
use Rattle.residue_field.specs.declared.field_name.FieldName.TheVariants.{Large, Small}

-- how many digits the numbers below it have at most
abbrev pub digits : FieldName → ℕ
digits Small = 5
digits Large = 10

-- the version of the certificate that is written where this field is named
abbrev pub certificate_version : Option FieldName → Version
certificate_version None = One
certificate_version (Some field) = Two

-- the prime of the field that a command is over
abbrev pub command_modulus : Command → ℕ
command_modulus command = modulus_of (over (field_of command))
