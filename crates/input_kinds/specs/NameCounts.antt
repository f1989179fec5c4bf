-- How many names the model of a text of a kind has at most, by the bytes of the text.
use Rattle.std.specs.Prelude.{ℕ}
use Rattle.limits.specs.Limits.{equation_limit}
use Rattle.cert_text.specs.declared.kind.Kind.{Kind}
use Rattle.cert_text.specs.declared.kind.Kind.TheVariants.{Flowsheet, Matrix, Netlist}

-- how many equations, and how many unknowns, a text of this kind and of n bytes has at most: a flowsheet of s streams
-- and c components has s times c unknowns, which may be more than its bytes
abbrev pub names_within : Kind → ℕ → ℕ
names_within Matrix n = n
names_within Netlist n = n
names_within Flowsheet n = equation_limit
