-- When a request takes effect at its port. The standard leaves it to the slave; which orders there are is this project's
-- own.
use Rattle.std.specs.Prelude.{Bool, true, false}
use Rattle.check_flight.specs.declared.order.Order.{Order}
use Rattle.check_flight.specs.declared.order.Order.TheVariants.{Accept, Reply, Any}
use Rattle.check_flight.specs.declared.order.SideOrders.{SideOrders}

-- what its reply has to fit is known as it is answered, and not before
abbrev pub is_due_at_reply : Order → Bool
is_due_at_reply Accept = false
is_due_at_reply Reply = true
is_due_at_reply Any = true

-- the same order on both sides
abbrev pub on_both : Order → SideOrders
on_both order = record { masters = order; ports = order }
