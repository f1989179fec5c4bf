-- How a run ends on a text of a kind that breaks a rule, over the field of p elements.
use Rattle.std.specs.Prelude.{ℕ, List}
use Rattle.cert_text.specs.declared.kind.Kind.{Kind}
use Rattle.input_kinds.specs.Kinds.{IsRefused}
use Rattle.run_ends.specs.declared.status.Status.{Status}
use Rattle.run_ends.specs.declared.status.Status.TheVariants.{Refused}

-- the status holds the first rule that a text of this kind breaks, and its place
abbrev pub IsRefusedAs : ℕ → Kind → List ℕ → Status → Type 0
IsRefusedAs p kind text (Refused refused) = IsRefused p kind text refused
IsRefusedAs p kind text _ = ⊥
