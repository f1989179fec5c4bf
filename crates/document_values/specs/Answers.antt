-- What a call that reads answers.
use Rattle.std.specs.Prelude.{◌≡◌, ℕ, List, [], ◌∷◌, ◌++◌, Result, Ok, Err}
use Rattle.refusals.specs.declared.Place.{Place}
use Rattle.refusals.specs.declared.fault.Fault.{Fault}
use Rattle.refusals.specs.declared.fault.Fault.TheVariants.{Broken, NoMemory}
use Rattle.refusals.specs.declared.ReadModel.{ReadModel}
use Rattle.refusals.specs.declared.ReadModel.TheVariants.{Refused, NoMemory as OutOfMemory}
use Rattle.refusals.specs.declared.Refused.{Refused as Refusal}
use Rattle.refusals.specs.declared.Why.{Why}

-- The answer is the wanted one, of whose value it holds what `see` sees.
abbrev pub GivesAnswer : {V T : Type 0} → (V → T) → Result V Why → Result T Why → Type 0
GivesAnswer see (Ok value) wanted = wanted ≡ Ok (see value)
GivesAnswer see (Err why) wanted = wanted ≡ Err why

-- The answer is the wanted one, of whose value it holds what `see` sees; or memory ran out.
abbrev pub AnswersAs : {V T : Type 0} → (V → T) → Result V Fault → Result T Why → Type 0
AnswersAs see (Ok value) wanted = wanted ≡ Ok (see value)
AnswersAs see (Err (Broken why)) wanted = wanted ≡ Err why
AnswersAs see (Err NoMemory) wanted = Unit {0}

-- and with the place of a broken rule
abbrev pub Reads : {V T : Type 0} → (V → T) → Result V ReadModel → Result T Refusal → Type 0
Reads see (Ok value) wanted = wanted ≡ Ok (see value)
Reads see (Err (Refused refused)) wanted = wanted ≡ Err refused
Reads see (Err OutOfMemory) wanted = Unit {0}

-- what a rule gives, with the place where it is broken
abbrev pub refused_at : {V : Type 0} → Place → Result V Why → Result V ReadModel
refused_at place (Ok value) = Ok value
refused_at place (Err why) = Err (Refused (record { place = place; why = why }))

-- and what a call gives that may lack memory
abbrev pub fault_at : {V : Type 0} → Place → Result V Fault → Result V ReadModel
fault_at place (Ok value) = Ok value
fault_at place (Err (Broken why)) = Err (Refused (record { place = place; why = why }))
fault_at place (Err NoMemory) = Err OutOfMemory

-- The wanted name was put last, or the answer is the wanted refusal, or memory ran out.
abbrev pub AddsName : List (List ℕ) → List (List ℕ) → Result (Unit {0}) ReadModel → Result (List ℕ) Refusal → Type 0
AddsName old new (Ok _) wanted = (name : List ℕ) × (wanted ≡ Ok name) × (new ≡ old ++ name ∷ [])
AddsName old new (Err (Refused refused)) wanted = wanted ≡ Err refused
AddsName old new (Err OutOfMemory) wanted = Unit {0}

-- what holds of a refusal
abbrev pub OnRefused : ReadModel → (Refusal → Type 0) → Type 0
OnRefused (Refused refused) P = P refused
OnRefused OutOfMemory P = Unit {0}
