-- Calls that fail as others did.
use Rattle.std.proofs.Common.{◌≡◌, Result, Ok, Err, IfErr, subst, sym}
use Rattle.std.specs.Result.{IsErrAnd}
use Rattle.refusals.specs.Faults.{OnBroken}
use Rattle.refusals.specs.declared.ReadModel.{ReadModel}
use Rattle.refusals.specs.declared.ReadModel.TheVariants.{Refused, NoMemory as OutOfMemory}
use Rattle.refusals.specs.declared.Refused.{Refused as Refusal}
use Rattle.refusals.specs.declared.Why.{Why}
use Rattle.refusals.specs.declared.fault.Fault.{Fault}
use Rattle.refusals.specs.declared.fault.Fault.TheVariants.{Broken, NoMemory}
use Rattle.document_values.specs.Answers.{OnRefused}

pub on_broken : (P Q : Why → Type 0) (fault : Fault) → ((why : Why) → P why → Q why) → OnBroken fault P → OnBroken fault Q
on_broken P Q (Broken why) follows said = follows why said
on_broken P Q NoMemory follows said = tt

pub on_refused : (P Q : Refusal → Type 0) (error : ReadModel) → ((refused : Refusal) → P refused → Q refused) → OnRefused error P → OnRefused error Q
on_refused P Q (Refused refused) follows said = follows refused said
on_refused P Q OutOfMemory follows said = tt

-- the same error
pub same-fault : {V : Type 0} (Q : Fault → Type 0) (result : Result V Fault) (fault : Fault) →
    IsErrAnd result (λ given. given ≡ fault) → Q fault → IfErr result Q
same-fault Q (Ok value) fault failed said = tt
same-fault Q (Err given) fault failed said = subst Q (sym failed) said

pub same-error : {V : Type 0} (Q : ReadModel → Type 0) (result : Result V ReadModel) (error : ReadModel) →
    IsErrAnd result (λ given. given ≡ error) → Q error → IfErr result Q
same-error Q (Ok value) error failed said = tt
same-error Q (Err given) error failed said = subst Q (sym failed) said
