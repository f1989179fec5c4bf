use Rattle.row_choice_laws.proofs.Stays.{circuit-grows, circuit-shrinks}
use Rattle.row_choice_laws.proofs.row_laws.circuits_stay.Goals as goal

pub returns : goal.returns
returns c p prime big M B C f fl within ind new dep x xl = (
  circuit-grows p prime big M B C f fl within ind new dep x xl,
  circuit-shrinks p prime big M B C f fl within ind new dep x xl,
)
