-- What a fault says of a rule.
use Rattle.std.proofs.Common.{◌≡◌, Option, Some, Result, Ok, Err, sym, subst, ◌∙◌}
use Rattle.refusals.specs.Faults.{OnBroken}
use Rattle.refusals.specs.declared.Why.{Why}
use Rattle.refusals.specs.declared.fault.Fault.{Fault}
use Rattle.refusals.specs.declared.fault.Fault.TheVariants.{Broken, NoMemory}
use Rattle.line_reader.specs.Answers.{AnswersRule}

-- what is said where it is a broken rule leads to something else
pub on_broken : (P Q : Why → Type 0) (fault : Fault) → ((why : Why) → P why → Q why) → OnBroken fault P → OnBroken fault Q
on_broken P Q (Broken why) follows said = follows why said
on_broken P Q NoMemory follows said = tt

-- and of the same fault
pub on_same : (P Q : Why → Type 0) (fault other : Fault) → fault ≡ other → ((why : Why) → P why → Q why) → OnBroken other P → OnBroken fault Q
on_same P Q fault other same follows said = subst (λ fault. OnBroken fault Q) (sym same) (on_broken P Q other follows said)

-- what a fault says is the answer to a rule
pub answers_fault : (rule : Option Why) (Left : Type 0) (P : Why → Type 0) (fault : Fault) →
    ((why : Why) → P why → rule ≡ Some why) → OnBroken fault P → AnswersRule rule Left (Err fault)
answers_fault rule Left P (Broken why) follows said = follows why said
answers_fault rule Left P NoMemory follows said = tt

-- and what the same fault says
pub fault_answers : (rule : Option Why) (Left : Type 0) (fault other : Fault) → fault ≡ other →
    OnBroken other (λ why. rule ≡ Some why) → AnswersRule rule Left (Err fault)
fault_answers rule Left fault other same said =
    answers_fault rule Left (λ why. rule ≡ Some why) fault (λ why broken. broken) (subst (λ fault. OnBroken fault (λ why. rule ≡ Some why)) (sym same) said)

-- what is left where a rule is kept leads to something else, and the rule is that of another place
pub answers_same : (rule other : Option Why) (Left Right : Type 0) (result : Result (Unit {0}) Fault) → other ≡ rule →
    (Left → Right) → AnswersRule rule Left result → AnswersRule other Right result
answers_same rule other Left Right (Ok done) same follows (kept, left) = (same ∙ kept, follows left)
answers_same rule other Left Right (Err (Broken why)) same follows broken = same ∙ broken
answers_same rule other Left Right (Err NoMemory) same follows answer = tt

-- a rule that is broken is so for the fault that says it
pub answers_fault_same : (rule other : Option Why) (Left Right : Type 0) (fault : Fault) →
    ((why : Why) → rule ≡ Some why → other ≡ Some why) → AnswersRule rule Left (Err fault) →
    AnswersRule other Right (Err fault)
answers_fault_same rule other Left Right (Broken why) follows broken = follows why broken
answers_fault_same rule other Left Right NoMemory follows answer = tt
