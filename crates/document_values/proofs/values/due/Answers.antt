use Rattle.refusals.specs.declared.Why.TheVariants.{Missing}
use Rattle.toml.proofs.Views.{table_get}
use Rattle.toml.specs.View.{view}
use Rattle.document_values.proofs.Chains.{gives-some_or}
use Rattle.document_values.proofs.values.due.Goals as goal

pub returns : goal.returns
returns c =
    rw c.ok_or.ensures.value
    (gives-some_or (λ value. view value.now) Missing c.get.result _
    (table_get c.get.result c.args.key.now c.args.table.now.entries c.get.ensures.value))
