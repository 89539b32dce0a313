use Rattle.clients_first.proofs.Clients.{ordered_end}
use Rattle.clients_first.proofs.write_order.Goals as goal

pub returns : goal.returns
returns c = ordered_end _ _ _ _ c.requires.0.head c.fill_order-n.ensures c.end_order.ensures
