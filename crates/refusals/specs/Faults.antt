-- What a fault says.
use Rattle.refusals.specs.declared.Why.{Why}
use Rattle.refusals.specs.declared.fault.Fault.{Fault}
use Rattle.refusals.specs.declared.fault.Fault.TheVariants.{Broken, NoMemory}

-- what a fault says where it is a broken rule
abbrev pub OnBroken : Fault → (Why → Type 0) → Type 0
OnBroken (Broken why) P = P why
OnBroken NoMemory P = Unit {0}
