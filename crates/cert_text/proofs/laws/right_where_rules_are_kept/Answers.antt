use Rattle.cert_text.proofs.PrintedRules.{printed-rules, rules-printed}
use Rattle.cert_text.proofs.RightFacts.{rules-right}
use Rattle.cert_text.proofs.RuleFacts.{right-rules}
use Rattle.cert_text.proofs.laws.right_where_rules_are_kept.Goals as goal

pub returns : goal.returns
returns c p prime big M L O lay form is = (
  λ right. printed-rules p M L form (right-rules p prime big M L O lay form is right),
  λ kept. rules-right p prime big M L O lay form is (rules-printed p M L form is kept),
)
