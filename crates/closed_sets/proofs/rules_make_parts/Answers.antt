use Rattle.closed_sets.proofs.RuleLaws.{first-reached, last-reaches, rules-clear, rules-listing}
use Rattle.closed_sets.proofs.rules_make_parts.Goals as goal

pub returns : goal.returns
returns c arc n starts ends F L block b lower K = (
  rules-clear arc n starts ends F L block b lower K,
  record {
    first = first-reached arc n starts ends F L block b lower K;
    last = λ x l. (K.reasons.last_to x l, last-reaches arc n starts ends F L block b lower K x l);
    listing = rules-listing arc n starts ends F L block b lower K;
  },
)
