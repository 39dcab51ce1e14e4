use Rattle.host_list.proofs.Orders.{order_is_free}
use Rattle.host_list.proofs.laws.order_says_nothing.Goals as goal

pub returns : goal.returns
returns c = order_is_free
