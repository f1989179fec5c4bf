-- Which fault of an input a refusal of a model is.
use Rattle.mixed_model.specs.declared.errors.AddError.{AddError}
use Rattle.mixed_model.specs.declared.errors.AddError.TheVariants as refusal
use Rattle.refusals.specs.declared.Why.TheVariants.{Twice, TooMany}
use Rattle.refusals.specs.declared.fault.Fault.{Fault}
use Rattle.refusals.specs.declared.fault.Fault.TheVariants.{Broken, NoMemory}

abbrev pub fault_of : AddError → Fault
fault_of refusal.Twice = Broken Twice
fault_of refusal.TooMany = Broken TooMany
fault_of refusal.NoMemory = NoMemory
