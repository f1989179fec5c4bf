-- How long the text of a certificate may be.
use Rattle.std.specs.Prelude.{ℕ}

-- how many bytes a text has at most
abbrev pub certificate_limit : ℕ
certificate_limit = 2147483648
