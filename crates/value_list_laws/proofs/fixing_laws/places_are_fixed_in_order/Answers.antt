use Rattle.value_list_laws.proofs.Runs.{in-order_next, in-order_row, in-order_start}
use Rattle.value_list_laws.proofs.fixing_laws.places_are_fixed_in_order.Goals as goal

pub returns : goal.returns
returns c p M v = (in-order_start p M v, in-order_next p M v, in-order_row p M v)
