-- The slaves of a system's ports at reset. This project's own.
use Rattle.std.specs.Prelude.{ℕ, Bool, ◌+◌, if◌then◌else◌, List, [], ◌∷◌, ◌++◌, Result, Ok, slice_get, unwrap_or}
use Rattle.check_flight.specs.PortSlave.{PortSlave}
use Rattle.check_flight.specs.declared.order.Order.{Order}
use Rattle.check_flight.specs.declared.order.SideOrders.{SideOrders}
use Rattle.check_watch.specs.declared.links.Links.{Links}
use Rattle.check_watch.specs.declared.links.Links.TheVariants as links
use Rattle.tl_text.specs.Reading.{◌>>=◌}
use Rattle.check_keys.specs.declared.fault.SystemFault.{SystemFault}
use Rattle.check_description.specs.Crossing.{is_apart_by}
use Rattle.check_description.specs.Port.{Port}
use Rattle.check_description.specs.Slave.{error_slave, slave_at_reset}
use Rattle.check_start.specs.declared.slaves.SlaveSide.{SlaveSide}
use Rattle.check_start.specs.declared.slaves.SlaveSide.TheVariants.{Masters, Ports, Compared}
use Rattle.check_start.specs.declared.start.Terms.{Terms}

-- ---- orders

-- when the requests of a port take effect, as they are seen on a side; a port that says nothing goes by the system's
abbrev pub order_at_masters : SideOrders → Port → Order
order_at_masters orders port = unwrap_or port.orders.masters orders.masters

-- the same of the ports' side
abbrev pub order_at_ports : SideOrders → Port → Order
order_at_ports orders port = unwrap_or port.orders.ports orders.ports

-- the order of a port as its slave is seen
abbrev pub order_of : SlaveSide → SideOrders → Port → Order
order_of Masters orders port = order_at_masters orders port
order_of Ports orders port = order_at_ports orders port
order_of Compared orders port =
    if is_apart_by port.crossing then order_at_masters orders port else order_at_ports orders port

-- the side on which the slaves of links that are judged together see requests: the ports', if their links are among
-- these. If both sides are watched, a port that the system takes out is seen at the masters' links; so are all ports, if
-- each port's link is judged by itself.
abbrev pub shared_side : Links → SlaveSide
shared_side links.Both = Compared
shared_side links.Masters = Masters
shared_side links.Ports = Ports
shared_side links.Each = Masters

-- ---- slaves

-- the bytes of the image of the port of this number; none are given of a port that names no image
abbrev pub image_at : List (List ℕ) → ℕ → List ℕ
image_at images port = unwrap_or (slice_get images port) []

-- the slaves of ports, the first of which has this number, of a system in which data may be corrupt or not; or the first fault of
-- one
abbrev pub slaves_from : Bool → SlaveSide → SideOrders → List (List ℕ) → ℕ → List Port → Result (List PortSlave) SystemFault
slaves_from corrupt side orders images number [] = Ok []
slaves_from corrupt side orders images number (port ∷ ports) =
    slave_at_reset corrupt number port (image_at images number) (order_of side orders port)
    >>= (λ slave. slaves_from corrupt side orders images (number + 1) ports >>= (λ rest. Ok (slave ∷ rest)))

-- the slaves of all ports, the error port's last: its requests are seen at the masters' links alone
abbrev pub slaves_at_reset : Bool → SlaveSide → SideOrders → List (List ℕ) → List Port → Result (List PortSlave) SystemFault
slaves_at_reset corrupt side orders images ports =
    slaves_from corrupt side orders images 0 ports >>= (λ slaves. Ok (slaves ++ error_slave corrupt orders.masters ∷ []))

-- those of links that are judged together, and those of ports' links that are judged each by itself
abbrev pub shared_slaves : Bool → Terms → List (List ℕ) → List Port → Result (List PortSlave) SystemFault
shared_slaves corrupt terms images ports = slaves_at_reset corrupt (shared_side terms.links) terms.orders images ports

-- the slaves of ports' links that are judged each by itself
abbrev pub own_slaves : Bool → Terms → List (List ℕ) → List Port → Result (List PortSlave) SystemFault
own_slaves corrupt terms images ports = slaves_at_reset corrupt Ports terms.orders images ports
