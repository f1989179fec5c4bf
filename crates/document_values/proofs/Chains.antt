-- Rules in a row, as calls answer them.
use Rattle.std.proofs.Common.{◌≡◌, Option, Some, None, option_map, sym, ap}
use Rattle.std.specs.Option.{ok_or}
use Rattle.refusals.specs.declared.Why.{Why}
use Rattle.document_values.specs.Answers.{GivesAnswer}
use Rattle.document_values.specs.Chains.{some_or}

-- what is there is given, or else the reason why not
pub gives-some_or : {V T : Type 0} (see : V → T) (why : Why) (found : Option V) (wanted : Option T) →
    option_map see found ≡ wanted → GivesAnswer see (ok_or found why) (some_or why wanted)
gives-some_or see why None wanted same = ap (some_or why) (sym same)
gives-some_or see why (Some value) wanted same = ap (some_or why) (sym same)
