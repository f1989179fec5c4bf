use Rattle.closed_sets.proofs.Covers.{below-chain, chain-below}
use Rattle.closed_sets.proofs.covers_generate.Goals as goal

pub returns : goal.returns
returns c below b covers O C k l kb lb = (below-chain below b O covers C k l kb lb, chain-below below b O covers C k l kb lb)
