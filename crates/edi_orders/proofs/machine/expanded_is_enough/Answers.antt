use Rattle.edi_orders.proofs.machine.Orders.{expanded_is_enough}
use Rattle.edi_orders.proofs.machine.expanded_is_enough.Goals as goal

pub returns : goal.returns
returns c = record { law = expanded_is_enough }
