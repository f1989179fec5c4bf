-- Rules in a row: what keeps one goes on to the next, and the first that is broken is the answer.
use Rattle.std.specs.Prelude.{Bool, if◌then◌else◌, Option, Some, None, Result, Ok, Err}
use Rattle.refusals.specs.declared.Place.{Place}
use Rattle.refusals.specs.declared.Refused.{Refused}
use Rattle.refusals.specs.declared.Why.{Why}

infixl 10 ◌>>=◌
-- what a rule gives, under the rules after it
abbrev pub ◌>>=◌ : {A B E : Type 0} → Result A E → (A → Result B E) → Result B E
Ok value >>= next = next value
Err broken >>= next = Err broken

-- a value where a test passes
abbrev pub keeping : {A : Type 0} → Bool → Why → A → Result A Why
keeping test why value = if test then Ok value else Err why

-- what is there, or else why not
abbrev pub some_or : {A : Type 0} → Why → Option A → Result A Why
some_or why (Some value) = Ok value
some_or why None = Err why

-- a broken rule at this place
abbrev pub at : {A : Type 0} → Place → Result A Why → Result A Refused
at place (Ok value) = Ok value
at place (Err why) = Err (record { place = place; why = why })
