-- There are as many slaves as there have to be; and the slaves of ports, step by step.
use Rattle.std.proofs.Common.{◌≡◌, ◌∙◌, ℕ, suc, ◌+◌, ◌<◌, Bool, List, [], ◌∷◌, ◌++◌, drop, get_or, length, map, Result, Ok, Err, refl, sym, ap}
use Rattle.std.proofs.lemmas.List.{append_assoc, at_drop_more, length_push}
use Rattle.check_flight.specs.PortSlave.{PortSlave}
use Rattle.check_flight.specs.declared.order.SideOrders.{SideOrders}
use Rattle.tl_text.specs.Reading.{◌>>=◌, with_front}
use Rattle.check_keys.specs.declared.fault.SystemFault.{SystemFault}
use Rattle.check_description.specs.Port.{Port, port_view}
use Rattle.check_description.specs.Slave.{error_slave, slave_at_reset}
use Rattle.check_description.specs.declared.port.Port as code
use Rattle.check_start.specs.Slaves.{image_at, order_of, slaves_at_reset, slaves_from}
use Rattle.check_start.specs.declared.slaves.SlaveSide.{SlaveSide}

-- what a step gave, and the rest
pub step : {A B : Type 0} (r : Result A SystemFault) (f : A → Result B SystemFault) (y : B) → (r >>= f) ≡ Ok y
    → (x : A) × (r ≡ Ok x) × (f x ≡ Ok y)
step (Ok x) f y is = (x, refl, is)
step (Err e) f y is = absurd cc

abbrev ok : List PortSlave → Result (List PortSlave) SystemFault
ok slaves = Ok slaves

-- one slave list was made, and it is this one
pub same_slaves : (made slaves : List PortSlave) → ok made ≡ Ok slaves → made ≡ slaves
same_slaves made slaves is = cc

same_length : (made slaves : List PortSlave) (count : ℕ) → length made ≡ count → ok made ≡ Ok slaves
    → length slaves ≡ count
same_length made slaves count counted is = ap length (sym (same_slaves made slaves is)) ∙ counted

abbrev pub rest_of : Bool → SlaveSide → SideOrders → List (List ℕ) → ℕ → List Port → PortSlave → Result (List PortSlave) SystemFault
rest_of corrupt side orders images number ports slave = slaves_from corrupt side orders images number ports >>= (λ rest. Ok (slave ∷ rest))

-- a slave for each port
from_counted : (corrupt : Bool) (side : SlaveSide) (orders : SideOrders) (images : List (List ℕ)) (number : ℕ) (ports : List Port)
    (slaves : List PortSlave) → slaves_from corrupt side orders images number ports ≡ Ok slaves → length slaves ≡ length ports
from_counted corrupt side orders images number [] slaves is = same_length [] slaves 0 refl is
from_counted corrupt side orders images number (port ∷ ports) slaves is =
    let one = step (slave_at_reset corrupt number port (image_at images number) (order_of side orders port))
    (rest_of corrupt side orders images (number + 1) ports) slaves is in
    let rest = step (slaves_from corrupt side orders images (number + 1) ports) (λ rest. Ok (one.0 ∷ rest)) slaves one.2 in
    same_length (one.0 ∷ rest.0) slaves (suc (length ports))
    (ap suc (from_counted corrupt side orders images (number + 1) ports rest.0 rest.1)) rest.2

-- and one for the error port
pub slaves_counted : (corrupt : Bool) (side : SlaveSide) (orders : SideOrders) (images : List (List ℕ)) (ports : List Port)
    (slaves : List PortSlave) → slaves_at_reset corrupt side orders images ports ≡ Ok slaves → length slaves ≡ length ports + 1
slaves_counted corrupt side orders images ports slaves is =
    let error = error_slave corrupt orders.masters in
    let made = step (slaves_from corrupt side orders images 0 ports) (λ made. Ok (made ++ error ∷ [])) slaves is in
    same_length (made.0 ++ error ∷ []) slaves (length ports + 1)
    (length_push made.0 error ∙ ap (λ n. n + 1) (from_counted corrupt side orders images 0 ports made.0 made.1)) made.2

-- the slaves of the rest, after those so far and one more
more_in_front : (front : List PortSlave) (slave : PortSlave) (rest : Result (List PortSlave) SystemFault)
    → with_front front (rest >>= (λ more. Ok (slave ∷ more))) ≡ with_front (front ++ slave ∷ []) rest
more_in_front front slave (Ok more) = ap ok (sym (append_assoc front (slave ∷ []) more))
more_in_front front slave (Err e) = refl

-- one port more has its slave
pub one_more : (corrupt : Bool) (side : SlaveSide) (orders : SideOrders) (images : List (List ℕ)) (front : List PortSlave) (ports : List code.Port) (number : ℕ)
    (default : code.Port) (slave : PortSlave) → number < length ports
    → slave_at_reset corrupt number (port_view (get_or ports number default)) (image_at images number)
    (order_of side orders (port_view (get_or ports number default))) ≡ Ok slave
    → with_front (front ++ slave ∷ [])
    (slaves_from corrupt side orders images (number + 1) (map port_view (drop (number + 1) ports)))
    ≡ with_front front (slaves_from corrupt side orders images number (map port_view (drop number ports)))
one_more corrupt side orders images front ports number default slave below is =
    let rest = slaves_from corrupt side orders images (number + 1) (map port_view (drop (number + 1) ports)) in
    let at = at_drop_more (λ left. with_front front (slaves_from corrupt side orders images number (map port_view left))) ports
    number default below in
    sym (at ∙ ap (λ (first : Result PortSlave SystemFault). with_front front
    (first >>= (λ slave. rest >>= (λ more. Ok (slave ∷ more))))) is ∙ more_in_front front slave rest)
