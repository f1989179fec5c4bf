use Rattle.std.proofs.Common.{Ok, Bor, Vec, Global, map, option_map, ap, sym, ◌∙◌}
use Rattle.refusals.specs.declared.Why.TheVariants.{BadValue}
use Rattle.toml.specs.View.{array_view, view}
use Rattle.toml.specs.declared.value.Value.{Value}
use Rattle.document_values.specs.Chains.{some_or}
use Rattle.document_values.specs.Values.{items_in}
use Rattle.document_values.proofs.Data.{items_in-list}
use Rattle.document_values.proofs.values.list.Goals as goal

pub returns-in-Some : goal.returns-in-Some
returns-in-Some c =
    ap (λ found. some_or BadValue (option_map items_in found))
    (sym c.as_array.ensures ∙ ap (option_map (λ (items : Bor (Vec Value Global)). array_view items.now)) c.in-Some.is)
    ∙ ap Ok (items_in-list (map view c.in-Some.items.now.items)) ∙ ap (λ items. Ok (map view items)) (sym c.deref.ensures.value)
