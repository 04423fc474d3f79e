-- A fault of the slaves is that of either side: it is an image's, and none of an order.
use Rattle.std.proofs.Common.{◌≡◌, ℕ, ◌+◌, Bool, true, false, nat_lt, List, [], ◌∷◌, ◌++◌, length, Result, Ok, Err, ap}
use Rattle.check_flight.specs.PortSlave.{PortSlave}
use Rattle.check_flight.specs.declared.order.SideOrders.{SideOrders}
use Rattle.tl_text.specs.Reading.{◌>>=◌, unless}
use Rattle.check_keys.specs.declared.fault.SystemFault.{SystemFault}
use Rattle.check_keys.specs.declared.fault.SystemFault.TheVariants.{ImageTooLong}
use Rattle.check_description.specs.Port.{Port}
use Rattle.check_description.specs.Ranges.{first_length}
use Rattle.check_description.specs.Slave.{error_slave}
use Rattle.check_start.specs.Slaves.{image_at, slaves_at_reset, slaves_from}
use Rattle.check_start.specs.declared.slaves.SlaveSide.{SlaveSide}

abbrev Slaves : Type 0
Slaves = Result (List PortSlave) SystemFault

-- a fault of what goes on from something is one of that, if going on has none
stops : (made : Slaves) (more : List PortSlave → List PortSlave) (fault : SystemFault)
    → (made >>= (λ slaves. Ok (more slaves))) ≡ Err fault → made ≡ Err fault
stops (Ok slaves) more fault is = absurd cc
stops (Err other) more fault is = cc

goes_on : (made : Slaves) (more : List PortSlave → List PortSlave) (fault : SystemFault) → made ≡ Err fault
    → (made >>= (λ slaves. Ok (more slaves))) ≡ Err fault
goes_on made more fault is = ap (λ (m : Slaves). m >>= (λ slaves. Ok (more slaves))) is

from_fault : (corrupt : Bool) (one other : SlaveSide) (orders : SideOrders) (images : List (List ℕ)) (number : ℕ) (ports : List Port)
    (fault : SystemFault) → slaves_from corrupt one orders images number ports ≡ Err fault
    → slaves_from corrupt other orders images number ports ≡ Err fault
from_fault corrupt one other orders images number [] fault is = absurd cc
from_fault corrupt one other orders images number (port ∷ ports) fault is =
    go _ _ (nat_lt (first_length port.ranges) (length (image_at images number)))
    (from_fault corrupt one other orders images (number + 1) ports fault) is
  where
    go : (a b : PortSlave) (long : Bool)
        → (slaves_from corrupt one orders images (number + 1) ports ≡ Err fault
        → slaves_from corrupt other orders images (number + 1) ports ≡ Err fault)
        → (unless long (ImageTooLong number) a
        >>= (λ slave. slaves_from corrupt one orders images (number + 1) ports >>= (λ rest. Ok (slave ∷ rest)))) ≡ Err fault
        → (unless long (ImageTooLong number) b
        >>= (λ slave. slaves_from corrupt other orders images (number + 1) ports >>= (λ rest. Ok (slave ∷ rest)))) ≡ Err fault
    go a b true rest is = cc
    go a b false rest is =
        goes_on (slaves_from corrupt other orders images (number + 1) ports) (λ slaves. b ∷ slaves) fault
        (rest (stops (slaves_from corrupt one orders images (number + 1) ports) (λ slaves. a ∷ slaves) fault is))

pub same_fault : (corrupt : Bool) (one other : SlaveSide) (orders : SideOrders) (images : List (List ℕ)) (ports : List Port)
    (fault : SystemFault) → slaves_at_reset corrupt one orders images ports ≡ Err fault
    → slaves_at_reset corrupt other orders images ports ≡ Err fault
same_fault corrupt one other orders images ports fault is =
    let error = error_slave corrupt orders.masters in
    goes_on (slaves_from corrupt other orders images 0 ports) (λ slaves. slaves ++ error ∷ []) fault
    (from_fault corrupt one other orders images 0 ports fault
    (stops (slaves_from corrupt one orders images 0 ports) (λ slaves. slaves ++ error ∷ []) fault is))
